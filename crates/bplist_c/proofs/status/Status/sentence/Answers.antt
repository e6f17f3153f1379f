use Rattle.std.proofs.Common.{ap, sym}
use Rattle.bplist_c.specs.Statuses.{sentence_of}
use Rattle.bplist_c.proofs.status.Status.sentence.Goals as goal

pub returns-in-Fault : goal.returns-in-Fault
returns-in-Fault c = ap sentence_of (sym c.in-Fault.is)

pub returns-in-Memory : goal.returns-in-Memory
returns-in-Memory c = ap sentence_of (sym c.in-Memory.is)

pub returns-in-Closed : goal.returns-in-Closed
returns-in-Closed c = ap sentence_of (sym c.in-Closed.is)

pub returns-in-Opened : goal.returns-in-Opened
returns-in-Opened c = ap sentence_of (sym c.in-Opened.is)

pub returns-in-OtherFile : goal.returns-in-OtherFile
returns-in-OtherFile c = ap sentence_of (sym c.in-OtherFile.is)

pub returns-in-NoObject : goal.returns-in-NoObject
returns-in-NoObject c = ap sentence_of (sym c.in-NoObject.is)

pub returns-in-OtherKind : goal.returns-in-OtherKind
returns-in-OtherKind c = ap sentence_of (sym c.in-OtherKind.is)

pub returns-in-NoMember : goal.returns-in-NoMember
returns-in-NoMember c = ap sentence_of (sym c.in-NoMember.is)

pub returns-in-NoKey : goal.returns-in-NoKey
returns-in-NoKey c = ap sentence_of (sym c.in-NoKey.is)

pub returns-in-NoIndex : goal.returns-in-NoIndex
returns-in-NoIndex c = ap sentence_of (sym c.in-NoIndex.is)

pub returns-in-NotSteppable : goal.returns-in-NotSteppable
returns-in-NotSteppable c = ap sentence_of (sym c.in-NotSteppable.is)

pub returns-in-PathText : goal.returns-in-PathText
returns-in-PathText c = ap sentence_of (sym c.in-PathText.is)

pub returns-in-NotUtf8 : goal.returns-in-NotUtf8
returns-in-NotUtf8 c = ap sentence_of (sym c.in-NotUtf8.is)

pub returns-in-Short : goal.returns-in-Short
returns-in-Short c = ap sentence_of (sym c.in-Short.is)

pub returns-in-NoText : goal.returns-in-NoText
returns-in-NoText c = ap sentence_of (sym c.in-NoText.is)

pub returns-in-NoRule : goal.returns-in-NoRule
returns-in-NoRule c = ap sentence_of (sym c.in-NoRule.is)

pub returns-in-NoStatus : goal.returns-in-NoStatus
returns-in-NoStatus c = ap sentence_of (sym c.in-NoStatus.is)

pub returns-in-Unpaired : goal.returns-in-Unpaired
returns-in-Unpaired c = ap sentence_of (sym c.in-Unpaired.is)
