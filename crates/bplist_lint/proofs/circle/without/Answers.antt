use Rattle.std.proofs.Common.{◌<◌, slice_index, refl, arith}
use Rattle.bplist_lint.proofs.FirstWithout.{first_at}
use Rattle.bplist_lint.proofs.circle.without.Goals as goal

pub returns-then-heights-m-eq0-clause-first : goal.returns-then-heights-m-eq0-clause-first
returns-then-heights-m-eq0-clause-first c =
    first_at (λ m. 0 < slice_index c.args.heights.now m) _ _ c.loop-m.m-index c.loop-m-test.true refl (λ some. omega (arith, some, c.if-heights-m-eq0.true)) c.loop-m.invariant.have
