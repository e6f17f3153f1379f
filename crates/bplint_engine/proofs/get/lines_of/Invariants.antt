use Rattle.std.proofs.Common.{◌≡◌, take}
use Rattle.std.specs.List.{flat_map}
use Rattle.bplint_engine.specs.Get.{reply_line}
use Rattle.bplint_engine.proofs.get.lines_of.Given as goal

abbrev pub invariant-loop-reply : goal.invariant-loop-reply
invariant-loop-reply l = l.bytes.items ≡ flat_map (reply_line l.style) (take l.reply-index l.replies)
