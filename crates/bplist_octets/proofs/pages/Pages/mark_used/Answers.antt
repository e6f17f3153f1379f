use Rattle.std.proofs.Common.{refl, ap, arith}
use Rattle.std.proofs.lemmas.List.Sums.{sum_by-set}
use Rattle.bplist_octets.specs.Pages.{page_left}
use Rattle.bplist_octets.proofs.pages.Pages.mark_used.Goals as goal

pub returns-in-Some-clause-left : goal.returns-in-Some-clause-left
returns-in-Some-clause-left g c =
    let page = c.in-Some.page.now in
    let low = c.in-Some.ensures.variant.0 refl in
    let same = ap page_left c.in-Some.ensures.value in
    let sums = sum_by-set page_left c.args.self.now.pages.items c.args.number (record page { taken = c.args.self.now.turn }) page (omega (arith, low)) in
    omega (arith, sums, same)
