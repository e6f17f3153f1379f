use Rattle.std.proofs.Common.{◌≡◌, ap, length, slice_index, inr, arith}
use Rattle.std.proofs.lemmas.Grind.{get_or_default_zero}
use Rattle.bplist_cert.specs.Lists.{Lists}
use Rattle.bplist_cert.specs.Valid.{IsVouchedBy}
use Rattle.bplist_cert.proofs.CheckSteps.{frame_fault, refused_weaker, on_err}
use Rattle.bplist_cert.proofs.checker.check_lists.Goals as goal

pub returns-in_err-frame-clause-exact : goal.returns-in_err-frame-clause-exact
returns-in_err-frame-clause-exact g c = λ honest.
    on_err _ _ _ _ c.from_residual.ensures.1 (frame_fault (g.S.Source.means c.args.src.now).octets c.args.cert.now c.in_err-frame.field-0.0 (c.in_err-frame.ensures.exact honest))

pub returns-in_err-check_objects-clause-exact : goal.returns-in_err-check_objects-clause-exact
returns-in_err-check_objects-clause-exact g c = λ honest.
    let heights = c.args.cert.now.heights in
    let frame = c.in_ok-frame.frame in
    let count : length heights ≡ frame.objects = omega (arith, ap (λ (x : Lists). length x.heights) c.cert.view_is, c.len.ensures, c.if-len-frame.false) in
    let same_at = get_or_default_zero c.cert.inside.heights.items frame.top.0 c.index.result.now (omega (arith, c.in_ok-frame.ensures.safe.top, c.len.ensures, c.if-len-frame.false)) in
    let top : IsVouchedBy heights frame.top.0 = omega (arith, ap (λ (x : Lists). slice_index x.heights frame.top.0) c.cert.view_is, c.index.ensures, c.if-index-eq0.false, same_at) in
    let exact = (rw (c.new-file.ensures.frame, c.new-file.ensures.means, c.in_ok-frame.ensures.reads) at c.in_err-check_objects.ensures.exact) honest in
    on_err _ _ _ _ c.from_residual-in_err-check_objects.ensures.1 (refused_weaker _ _ c.in_err-check_objects.field-0.0 (λ fault h. inr (frame, c.in_ok-frame.ensures.exact honest, inr (count, top, h))) exact)
