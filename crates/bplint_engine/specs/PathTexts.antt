-- Path texts, and the answer to a command that has some. Source: profile.
use Rattle.std.specs.Prelude.{◌≡◌, ◌⊎◌, ℕ, List, [], ◌∷◌}
use Rattle.std.specs.List.{AllZip}
use Rattle.bplist_objects.specs.File.{FileHolds}
use Rattle.bplist_objects.specs.Value.{Value}
use Rattle.bplist_cursor.specs.Path.{IsPathOf, IsNoPath}
use Rattle.bplint_lines.specs.declared.fault.RunFault.{RunFault}
use Rattle.bplint_lines.specs.declared.fault.RunFault.TheVariants.{Memory, Path}
use Rattle.bplint_lines.specs.Answers.{Answer, gives, refuses}

-- the first wrong path text is wrong at this place
abbrev pub IsWrongAmong : List (List ℕ) → ℕ → Type 0
IsWrongAmong [] place = ⊥
IsWrongAmong (text ∷ texts) place = IsNoPath text place ⊎ ((steps : List (List ℕ)) × IsPathOf text steps × IsWrongAmong texts place)

-- the answer for path texts: the first wrong text, or the refusal of the file by Says, or what P says of paths and
-- value
abbrev pub ForPaths : (Answer → Type 0) → List ℕ → List (List ℕ) → (List (List (List ℕ)) → Value → Answer → Type 0) → Answer → Type 0
ForPaths Says f texts P answer = ((place : ℕ) × IsWrongAmong texts place × (answer ≡ refuses (Path place)))
    ⊎ ((paths : List (List (List ℕ))) × (own : Answer) × AllZip IsPathOf texts paths × Says own
    × elim own as (λ _. Type 0) [ refuses fault ↦ answer ≡ own | gives said bytes ↦ (v : Value) × FileHolds f v × P paths v answer ])

-- a wrong path text is wrong at a place of which P holds; refused memory may always come, and no other fault comes
abbrev pub OnPath : (ℕ → Type 0) → RunFault → Type 0
OnPath P fault = elim fault [ Path place ↦ P place | Memory ↦ Unit {0} | _ ↦ ⊥ ]
