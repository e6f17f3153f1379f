use Rattle.std.proofs.Common.{◌≡◌, vec_len}
use Rattle.bplist_octets.specs.Pages.{AreUnread}
use Rattle.bplist_octets.proofs.pages.pages_of.Given as goal

abbrev pub invariant-loop-number : goal.invariant-loop-number
invariant-loop-number l = (vec_len l.pages ≡ l.number) × AreUnread l.pages.items
