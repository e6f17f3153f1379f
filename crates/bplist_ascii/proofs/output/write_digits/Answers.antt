use Rattle.std.proofs.Common.{rules, ◌≡◌, ◌<◌, Err, length, drop, subst, slice_index}
use Rattle.std.specs.List.{flat_map}
use Rattle.bplist_ascii.specs.BoundedWrites.{hex_digits}
use Rattle.bplist_ascii.specs.BoundedWrites.{Adds}
use Rattle.bplist_ascii.proofs.WriteSteps.{adds_more, adds_within, adds_fail, flat_next, flat_at}
use Rattle.bplist_ascii.proofs.output.write_digits.Goals as goal

pub returns-in_err-write-clause-fails : goal.returns-in_err-write-clause-fails
returns-in_err-write-clause-fails g c =
    let is : c.from_residual.result ≡ Err c.in_err-write.field-0.0 = search rules in
    let l : c.loop-byte.byte-index < length c.args.bytes.now = search rules in
    rw is (λ low. adds_fail _ _ _ (hex_digits (slice_index c.args.bytes.now c.loop-byte.byte-index)) (flat_map hex_digits (drop 1 (drop c.loop-byte.byte-index c.args.bytes.now))) (flat_map hex_digits c.args.bytes.now) _
    c.loop-byte.invariant (rw c.digits_of.ensures at c.in_err-write.ensures.fails) (flat_at hex_digits c.args.bytes.now c.loop-byte.byte-index l) low)

pub returns-in_err-write-clause-bounded : goal.returns-in_err-write-clause-bounded
returns-in_err-write-clause-bounded g c =
    let is : c.from_residual.result ≡ Err c.in_err-write.field-0.0 = search rules in
    rw is (adds_within _ _ _ c.loop-byte.invariant c.in_err-write.ensures.bounded)

pub loop-byte-preserved : goal.loop-byte-preserved
loop-byte-preserved g c =
    let l : c.loop-byte.byte-index < length c.args.bytes.now = search rules in
    subst (Adds _ _ _ _ _ _) (flat_next hex_digits c.args.bytes.now c.loop-byte.byte-index l) (adds_more c.loop-byte.invariant (rw c.digits_of.ensures at c.in_ok-write.ensures.adds))
