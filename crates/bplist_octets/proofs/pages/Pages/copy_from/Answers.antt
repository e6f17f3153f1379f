use Rattle.std.proofs.Common.{◌∙◌, arith, subst, sym}
use Rattle.bplist_octets.proofs.WindowSteps.{page_part}
use Rattle.bplist_octets.specs.Pages.{IsPage}
use Rattle.bplist_octets.proofs.pages.Pages.copy_from.Goals as goal

pub returns : goal.returns
returns g c = λ _ honest.
    let m = g.S.Source.means c.args.self.now.window.value.source in
    let page = subst (IsPage m.octets m.honest c.args.number) (sym c.index-page.ensures) (c.args.self.now.pages_hold _ _ (omega arith)) in
    c.copy_part.ensures
    ∙ page_part m.octets m.honest _ _ _ _ _ page (omega arith) (omega arith) honest
