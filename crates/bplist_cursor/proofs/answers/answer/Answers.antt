use Rattle.std.proofs.Common.{◌≡◌}
use Rattle.bplist_cursor.specs.Replies.{reply}
use Rattle.bplist_cursor.proofs.FoundSteps.{quiet, top_vouched}
use Rattle.bplist_cursor.proofs.VouchedObjects.{gives_weaker}
use Rattle.bplist_cursor.proofs.answers.answer.Goals as goal

pub returns-clause-unchanged : goal.returns-clause-unchanged
returns-clause-unchanged g c = λ honest.
    let checked = c.args.checked.now in
    let is = c.frame-frame.ensures.checked in
    quiet checked is honest checked.frame.top.0 (top_vouched checked is honest) (λ v told. told ≡ reply v c.args.query.now) c.answer_by.result
    (λ v h. gives_weaker _ _ c.answer_by.result (λ told is. is.0) (c.answer_by.ensures.exact honest tt v h))
