use Rattle.std.proofs.Common.{set, refl, sym, ◌∙◌, ap, arith, subst}
use Rattle.std.proofs.lemmas.List.{length-set}
use Rattle.bplist_octets.specs.Pages.{IsPage}
use Rattle.bplist_octets.proofs.PageSteps.{emptied, left_set, pages_set, still_unread}
use Rattle.bplist_octets.proofs.pages.Pages.hand_over.Goals as goal

pub invariant_of-self-2 : goal.invariant_of-self-2
invariant_of-self-2 g c =
    let m = g.S.Source.means c.args.self.now.window.value.source in
    let pages = c.args.self.now.pages_hold in
    let low = c.in-Some.ensures.variant.0 refl in
    let page = record c.in-Some.page.now { octets = c.replace.new.dest; held = 0; reads = 0 } in
    let was = subst (IsPage m.octets m.honest _) (sym c.in-Some.ensures.value) (pages _ _ (omega (arith, low))) in
    let first = pages_set _ _ _ _ _ pages (emptied _ _ _ _ page was refl refl refl) in
    let long = length-set c.args.self.now.pages.items c.replace-given_up.result page in
    let then = subst (IsPage m.octets m.honest _) (sym c.index_mut-2.ensures.value) (first c.args.number _ (omega (arith, long, c.requires.number))) in
    let unread = ap (λ p. p.reads) c.index_mut-2.ensures.value ∙ still_unread c.args.self.now.pages.items c.replace-given_up.result _ page _ (omega (arith, low)) refl c.requires.unread in
    record {
      whole = c.args.self.now.whole;
      some = c.args.self.now.some;
      all = c.args.self.now.all;
      pages_hold = pages_set _ _ _ _ _ first (emptied _ _ _ _ _ then refl (then.none unread) unread);
    }

pub returns-clause-left : goal.returns-clause-left
returns-clause-left g c =
    let low = c.in-Some.ensures.variant.0 refl in
    let page = record c.in-Some.page.now { octets = c.replace.new.dest; held = 0; reads = 0 } in
    let pages = set c.args.self.now.pages.items c.replace-given_up.result page in
    let long = length-set c.args.self.now.pages.items c.replace-given_up.result page in
    let first = left_set c.args.self.now.spare c.args.self.now.pages.items c.replace-given_up.result 32768 page _ _ c.in-Some.ensures.value (omega (arith, low)) (omega arith) in
    let then = left_set c.args.self.now.spare pages c.args.number 0 (record c.index_mut-2.result.now { octets = c.replace.result }) _ _ c.index_mut-2.ensures.value (omega (arith, long, c.requires.number)) (omega arith) in
    omega (arith, first, then)
