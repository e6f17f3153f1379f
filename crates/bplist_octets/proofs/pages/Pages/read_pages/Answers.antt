use Rattle.std.proofs.Common.{arith}
use Rattle.bplist_octets.proofs.WindowSteps.{joined_reads}
use Rattle.bplist_octets.proofs.pages.Pages.read_pages.Goals as goal

pub returns-clause-filled : goal.returns-clause-filled
returns-clause-filled g c =
    let parts = c.split_at_mut-front.ensures in
    joined_reads _ _ _ _ _ _ _ _ _ c.in_ok-read_page.ensures.reads (omega (arith, parts.front_len)) c.in_ok-read_page.ensures.filled c.in_ok-read_page-2.ensures.filled (omega (arith, parts.front_len, parts.back_len))
