use Rattle.std.proofs.Common.{rules, ◌≡◌, ◌<◌, Err, length, drop, subst, slice_index}
use Rattle.std.specs.List.{flat_map}
use Rattle.bplist_ascii.specs.BoundedWrites.{Adds, styled, fits}
use Rattle.bplist_ascii.proofs.WriteSteps.{adds_more, adds_within, adds_fail, flat_next, flat_at, passes_at}
use Rattle.bplist_ascii.proofs.output.write_units.Goals as goal

pub returns-in_err-write_unit-clause-fails : goal.returns-in_err-write_unit-clause-fails
returns-in_err-write_unit-clause-fails g c =
    let is : c.from_residual.result ≡ Err c.in_err-write_unit.field-0.0 = search rules in
    let l : c.loop-unit.unit-index < length c.args.units.now = search rules in
    let f = styled c.args.style in
    rw is (λ all low. adds_fail _ _ _ (f (slice_index c.args.units.now c.loop-unit.unit-index)) (flat_map f (drop 1 (drop c.loop-unit.unit-index c.args.units.now))) (flat_map f c.args.units.now) _
    c.loop-unit.invariant (c.in_err-write_unit.ensures.fails (passes_at (fits c.args.style) c.args.units.now c.loop-unit.unit-index l all)) (flat_at f c.args.units.now c.loop-unit.unit-index l) low)

pub returns-in_err-write_unit-clause-bounded : goal.returns-in_err-write_unit-clause-bounded
returns-in_err-write_unit-clause-bounded g c =
    let is : c.from_residual.result ≡ Err c.in_err-write_unit.field-0.0 = search rules in
    rw is (adds_within _ _ _ c.loop-unit.invariant c.in_err-write_unit.ensures.bounded)

pub loop-unit-preserved : goal.loop-unit-preserved
loop-unit-preserved g c =
    let l : c.loop-unit.unit-index < length c.args.units.now = search rules in
    subst (Adds _ _ _ _ _ _) (flat_next (styled c.args.style) c.args.units.now c.loop-unit.unit-index l) (adds_more c.loop-unit.invariant c.in_ok-write_unit.ensures.adds)
