use Rattle.std.proofs.Common.{inl}
use Rattle.bplist_objects.proofs.FrameTies.{trailer_fault, entry_fault, low_is_frame}
use Rattle.bplist_cert.proofs.CheckSteps.{object_refused, on_err}
use Rattle.bplist_lint.proofs.OffsetSteps.{kept_low, kept_high}
use Rattle.bplist_lint.proofs.linter.read_places.Goals as goal

pub returns-in_err-frame-clause-exact : goal.returns-in_err-frame-clause-exact
returns-in_err-frame-clause-exact g c = λ honest.
    on_err _ _ _ _ c.from_residual.ensures.1 (object_refused _ _ c.in_err-frame.field-0.0 (λ fault h. inl (trailer_fault _ fault h)) (c.in_err-frame.ensures.exact honest))

pub returns-in_err-check_offsets-clause-exact : goal.returns-in_err-check_offsets-clause-exact
returns-in_err-check_offsets-clause-exact g c = λ honest.
    let trailed = c.in_ok-frame.ensures.exact honest in
    let kept = (rw c.in_ok-frame.ensures.reads at c.in_ok-places.ensures.exact) honest in
    let high = rw c.deref.ensures.value at c.in_err-check_offsets.ensures in
    on_err _ _ _ _ c.from_residual-in_err-check_offsets.ensures.1 (inl (entry_fault _ _ _ trailed high.rule (kept_high _ _ c.in_ok-places.places.items kept _ trailed high)))

pub returns-clause-exact : goal.returns-clause-exact
returns-clause-exact g c = λ honest.
    let trailed = c.in_ok-frame.ensures.exact honest in
    let kept = (rw c.in_ok-frame.ensures.reads at c.in_ok-places.ensures.exact) honest in
    let low = rw c.deref.ensures.value at c.in_ok-check_offsets.ensures in
    (low_is_frame _ _ trailed (kept_low _ _ c.in_ok-places.places.items kept trailed low), kept)
