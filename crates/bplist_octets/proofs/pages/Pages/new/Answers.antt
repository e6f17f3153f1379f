use Rattle.std.proofs.Common.{◌+◌, ◌/◌, ◌≤◌, arith, length, vec_len}
use Rattle.bplist_octets.proofs.PageSteps.{all_left}
use Rattle.bplist_octets.proofs.pages.Pages.new.Goals.{then-len-le-LONGEST_SOURCE, else-len-le-LONGEST_SOURCE, in-Ok, in-Err+in_ok-pages-in-Err}
use Rattle.bplist_octets.proofs.pages.Pages.new.Goals as goal

pub returns-clause-left : goal.returns-clause-left
returns-clause-left g c =
    let count : c.if-len-le-LONGEST_SOURCE.count ≤ length (g.S.Source.means c.args.source).octets / 16384 + 1 = elim c.if-len-le-LONGEST_SOURCE.branch [
      | then-len-le-LONGEST_SOURCE w ↦ omega (arith, c.len-len.ensures, w.count-is)
      | else-len-le-LONGEST_SOURCE w ↦ omega (arith, w.count-is)
    ] in
    let some : vec_len c.match-pages_of.pages ≤ length (g.S.Source.means c.args.source).octets / 16384 + 1 = elim c.match-pages_of.branch [
      | in-Ok w ↦ rw w.pages-is (omega (arith, w.in-Ok.ensures.0, count))
      | in-Err+in_ok-pages-in-Err w ↦ rw w.pages-is (omega (arith, w.in_ok-pages-in-Err.ensures.0))
    ] in
    let all = all_left c.match-pages_of.pages.items in
    omega (arith, all, c.saturating_mul.ensures, some)
