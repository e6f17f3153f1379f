use Rattle.std.proofs.Common.{◌<◌, vec_len}
use Rattle.bplist_octets.proofs.pages.Pages.oldest.Given as goal

abbrev pub invariant-loop-step : goal.invariant-loop-step
invariant-loop-step g l = l.oldest < vec_len l.self.kept
