-- Laws of the frame.
use Rattle.std.proofs.Common.{◌≡◌, ℕ, ◌+◌, ◌-◌, ◌≤◌, List, length, get_or, ap, sym, ◌∙◌, arith}
use Rattle.bplist_octets.specs.Octets.{part, num}
use Rattle.bplist_objects.specs.Frame.{trailer}
use Rattle.bplist_objects.specs.Trailer.{frame_of_trailer}
use Rattle.bplist_objects.proofs.Parts.{part-part, num-part_one}

-- the numbers in the last 32 bytes of a file are its frame's
pub trailer-framed : (f octets : List ℕ) (objects top table : ℕ) → 32 ≤ length f → octets ≡ part f (length f - 32) 32 → length octets ≡ 32
    → objects ≡ num (part octets 8 8) → top ≡ num (part octets 16 8) → table ≡ num (part octets 24 8)
    → trailer f ≡ frame_of_trailer (record { offset_size = get_or octets 6 0; ref_size = get_or octets 7 0; objects = objects; top = top; table = table })
trailer-framed f octets objects top table l e len n t o =
    let inside : (b m j : ℕ) → b + m ≤ 32 → j ≡ (length f - 32) + b → num (part octets b m) ≡ num (part f j m) = λ b m j h k. ap (λ x. num (part x b m)) e ∙ ap num (part-part f (length f - 32) 32 b m j h k) in
    let e1 = sym (num-part_one octets 6 (omega arith)) ∙ inside 6 1 (length f - 26) (omega arith) (omega arith) in
    let e2 = sym (num-part_one octets 7 (omega arith)) ∙ inside 7 1 (length f - 25) (omega arith) (omega arith) in
    let e3 = n ∙ inside 8 8 (length f - 24) (omega arith) (omega arith) in
    let e4 = t ∙ inside 16 8 (length f - 16) (omega arith) (omega arith) in
    let e5 = o ∙ inside 24 8 (length f - 8) (omega arith) (omega arith) in
    cc
