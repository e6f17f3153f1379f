use Rattle.std.proofs.Common.{take}
use Rattle.std.specs.Fmt.{HasWritten, IsPlainFormatter}
use Rattle.bplist_objects.specs.FaultLines.{numbers_text}
use Rattle.bplist_lint.proofs.answer.ObjectNosDisplay.fmt.Given as goal

abbrev pub invariant-loop-object : goal.invariant-loop-object
invariant-loop-object g l = IsPlainFormatter l.initial.f
    → HasWritten g.W.Write.write_str_gives l.initial.f (numbers_text (take l.object-index l.object-items)) l.f
