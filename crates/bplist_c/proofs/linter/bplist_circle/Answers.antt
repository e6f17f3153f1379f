use Rattle.std.proofs.Common.{Err, inl, inr}
use Rattle.bplist_lint.specs.declared.answer.LintRefusal.TheVariants as refusals
use Rattle.bplist_c.proofs.linter.bplist_circle.Goals as goal

pub returns : goal.returns
returns c = elim c.circle_of-circle.ensures [
  | inl told ↦ (c.lint_file-linted.result, c.lint_file-linted.ensures, rw told at c.put_answer.ensures)
  | inr memory ↦ (Err refusals.Memory, tt, rw memory at c.put_answer.ensures)
]
