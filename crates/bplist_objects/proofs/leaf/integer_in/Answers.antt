use Rattle.std.proofs.Common.{◌≡◌, arith, sym, ◌∙◌, inl, inr, length}
use Rattle.std.specs.Int.{cast_signed, w64, w128}
use Rattle.std.proofs.lemmas.Int.{ints}
use Rattle.bplist_octets.specs.Octets.{num}
use Rattle.bplist_objects.specs.Numbers.{integer}
use Rattle.bplist_objects.proofs.Integers.{signed_8, signed_16, integer_long}
use Rattle.bplist_objects.proofs.leaf.integer_in.Goals as goal

pub returns-then-octets-eq8 : goal.returns-then-octets-eq8
returns-then-octets-eq8 c =
    let l = c.args.octets.now in
    let value : cast_signed w64 (num l) ≡ integer l = signed_8 l c.if-octets-eq8.true (λ k. (c.type_inv.octets k).fits) ∙ sym (integer_long l c.if-octets-le4.false) in
    rw (sym value) (grind (arith, ints))

pub returns-else-octets-eq8 : goal.returns-else-octets-eq8
returns-else-octets-eq8 c =
    let l = c.args.octets.now in
    let len : length l ≡ 16 = elim c.requires.width [
      | inl l ↦ absurd (omega arith)
      | inr r ↦ elim r [ inl e ↦ absurd (c.if-octets-eq8.false e) | inr e ↦ e ]
    ] in
    let value : cast_signed w128 (num l) ≡ integer l = signed_16 l len (λ k. (c.type_inv.octets k).fits) ∙ sym (integer_long l c.if-octets-le4.false) in
    rw (sym value) (grind (arith, ints))
