-- Where slices are in memory. Source of these definitions: the kit's references.
use Rattle.std.specs.Prelude.{◌≡◌, ◌+◌, ℕ, List, [], ◌∷◌, true, None, get_or, slice_index}
use denote.Ref.{Bor}
use Rattle.bplist_octets.specs.Meaning.{Meaning}

-- what a source over the slice means; it also has the slice's address, a block of memory and a place in it
abbrev pub source_over : Bor (List ℕ) → Meaning
source_over s = record { octets = s.now; honest = true; failures = 0; last = None; extra = (s.ref_ptr.0 ∷ s.ref_ptr.1 ∷ []) ∷ [] }

-- the slice is not a copy: its address is this place of the slice that the source is over
abbrev pub StandsAt : Meaning → ℕ → Bor (List ℕ) → Type 0
StandsAt m at s = let address = get_or m.extra 0 [] in s.ref_ptr ≡ (slice_index address 0, slice_index address 1 + at)
