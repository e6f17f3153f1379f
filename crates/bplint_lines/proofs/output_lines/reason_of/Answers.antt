use Rattle.std.proofs.Common.{refl}
use Rattle.bplint_lines.proofs.output_lines.reason_of.Goals as goal

pub returns-in-NoKey : goal.returns-in-NoKey
returns-in-NoKey c = λ step. rw c.in-NoKey.is refl

pub returns-in-NoIndex : goal.returns-in-NoIndex
returns-in-NoIndex c = λ step. rw c.in-NoIndex.is refl

pub returns-in-NotSteppable : goal.returns-in-NotSteppable
returns-in-NotSteppable c = λ step. rw c.in-NotSteppable.is refl
