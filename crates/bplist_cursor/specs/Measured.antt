-- A table of sizes, by the number of the object. Source: profile.
use Rattle.std.specs.Prelude.{◌≡◌, ℕ, ◌+◌, List, slice_index, sum_by}
use Rattle.bplist_objects.specs.declared.frame.Frame.{Frame}
use Rattle.bplist_objects.specs.Heads.{Content, refs, Spells}
use Rattle.bplist_cursor.specs.Nodes.{cap}

-- in table M, object n has one more than the sum of its references
abbrev pub Measured : List ℕ → Frame → List ℕ → ℕ → Type 0
Measured f F M n = (c : Content) × Spells f F n c × (slice_index M n ≡ cap (1 + sum_by (slice_index M) (refs c)))
