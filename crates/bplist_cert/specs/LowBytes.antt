-- Stretches of a file that have only bytes below 128. Source: profile.
use Rattle.std.specs.Prelude.{ℕ, ◌<◌, ◌≤◌, List, slice_index_or}
use Rattle.bplist_objects.specs.Numbers.{num_at}
use Rattle.bplist_cert.specs.declared.caches.Stretch.{Stretch}

-- the bytes from one place up to, and without, another are below 128
abbrev pub IsLow : List ℕ → ℕ → ℕ → Type 0
IsLow f from to = (k : ℕ) → from ≤ k → k < to → num_at f k 1 < 128

-- the stretch in a slot, or an empty one if there is no such slot
abbrev pub stretch_at : List Stretch → ℕ → Stretch
stretch_at slots i = slice_index_or slots i (record { from = 0; to = 0 })

-- each slot has such a stretch of this file
abbrev pub AreLowStretches : List ℕ → List Stretch → Type 0
AreLowStretches f slots = (i : ℕ) → IsLow f (stretch_at slots i).from (stretch_at slots i).to
