use Rattle.std.proofs.Common.{◌/◌, ◌∙◌, ap, arith, subst}
use Rattle.bplist_octets.proofs.WindowSteps.{page_part}
use Rattle.bplist_octets.specs.Pages.{IsPage}
use Rattle.bplist_octets.proofs.pages.Pages.read_page.Goals as goal

pub returns-clause-filled : goal.returns-clause-filled
returns-clause-filled g c = λ honest.
    let m = g.S.Source.means c.args.self.now.window.value.source in
    let has = c.in_ok-hold.ensures in
    let page = subst (λ w. IsPage (g.S.Source.means w.source).octets (g.S.Source.means w.source).honest (c.args.at / 16384) c.hold.new.page) (c.deref_mut-2.ensures.value ∙ ap (λ w. w.value) c.turn_to-whole.ensures.same) has.page in
    c.copy_part.ensures
    ∙ page_part m.octets m.honest _ _ _ _ _ page (omega (arith, has.start)) (omega (arith, has.room, has.start)) honest
