-- What a fault of a path text says. Source: profile.
use Rattle.std.specs.Prelude.{ℕ, ⊤}
use Rattle.bplist_cursor.specs.declared.path.PathFault.{PathFault}
use Rattle.bplist_cursor.specs.declared.path.PathFault.TheVariants.{Text, Memory}

-- P holds of the place at which the text is wrong
abbrev pub OnText : (ℕ → Type 0) → PathFault → Type 0
OnText P fault = elim fault [ Text place ↦ P place | Memory ↦ ⊤ ]
