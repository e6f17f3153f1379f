use Rattle.std.proofs.Common.{rules, arith, ◌≡◌, ◌+◌, ◌++◌, Err, refl, subst}
use Rattle.std.proofs.lemmas.Result.{IfErr-weaker, on_ok_weaker, on_err_weaker, err_from_is_err_and}
use Rattle.bplist_objects.proofs.Bounds.{refs_within}
use Rattle.bplist_cursor.specs.OldStyle.{plain}
use Rattle.bplist_cursor.proofs.StepReferences.{content_of_value}
use Rattle.bplist_ascii.specs.Walks.{separator_of, closing_of}
use Rattle.bplist_ascii.proofs.WriteSteps.{on_err, adds_some, read_fails, adds_more, adds_fit, adds_within, adds_fail, adds_nothing}
use Rattle.bplist_ascii.proofs.WalkSteps.{IsMember, none_from, stack_pop, goes_on, ends, safe_push, adds_goes_on}
use Rattle.bplist_ascii.specs.declared.printer.PrintFault.TheVariants.{Memory}
use Rattle.bplist_ascii.proofs.walk.step.Goals as goal

pub returns-in_err-node-clause-fails : goal.returns-in_err-node-clause-fails
returns-in_err-node-clause-fails g c =
    let p = err_from_is_err_and c.from_residual.result c.from_residual.ensures.1 in
    let file = c.args.checked.now in
    rw (p.1, p.2) (λ honest left stands low.
    let q = stack_pop file _ _ left stands in
    let r = q.2.1 in
    let s = content_of_value file.source.octets file.frame q.2.0 r.object r.held.1 in
    read_fails left c.in_err-node.field-0.0 (adds_nothing (g.W.Write.contents c.args.out.now) c.args.sink.now c.args.walk.now.room) refl
    (c.in_err-node.ensures.reference honest r.object r.held.0 s.0 s.1 (r.shown s.0 s.1)))

pub returns-in_err-node-clause-bounded : goal.returns-in_err-node-clause-bounded
returns-in_err-node-clause-bounded g c = on_err c.from_residual.result (adds_fit (adds_nothing (g.W.Write.contents c.args.out.now) c.args.sink.now c.args.walk.now.room))

pub returns-in_default-clause-heads : goal.returns-in_default-clause-heads
returns-in_default-clause-heads g c = on_ok_weaker c.write.result (λ adds. c.requires.heads) c.write.ensures.adds

pub returns-in_default-clause-exact : goal.returns-in_default-clause-exact
returns-in_default-clause-exact g c =
    let file = c.args.checked.now in
    let o = c.args.opened in
    let none = none_from c.in_ok-node.field-0 c.in_default.not-Some in
    on_ok_weaker c.write.result
    (λ adds honest left stands.
    let e = ends file _ _ left stands (subst (IsMember file o.head o.next) none (c.in_ok-node.ensures.reference honest)) in
    record { written = closing_of o.head.kind o.next; rest = e.0; adds = adds; stands = e.1; is = e.2 })
    (rw c.closing.ensures at c.write.ensures.adds)

pub returns-in_default-clause-fails : goal.returns-in_default-clause-fails
returns-in_default-clause-fails g c =
    let file = c.args.checked.now in
    let o = c.args.opened in
    let none = none_from c.in_ok-node.field-0 c.in_default.not-Some in
    IfErr-weaker c.write.result _ _
    (λ fault fails honest left stands low.
    let e = ends file _ _ left stands (subst (IsMember file o.head o.next) none (c.in_ok-node.ensures.reference honest)) in
    adds_fail _ _ _ (closing_of o.head.kind o.next) e.0 left fault (adds_nothing _ _ _) fails e.2 low)
    (rw c.closing.ensures at c.write.ensures.fails)

pub returns-in_err-write-clause-fails : goal.returns-in_err-write-clause-fails
returns-in_err-write-clause-fails g c =
    let is : c.from_residual-in_err-write.result ≡ Err c.in_err-write.field-0.0 = search rules in
    let file = c.args.checked.now in
    let o = c.args.opened in
    rw is (λ honest left stands low.
    let q = goes_on file _ _ c.in-Some.node left stands (subst (IsMember file o.head o.next) c.in-Some.is (c.in_ok-node.ensures.reference honest)) in
    adds_fail _ _ _ (separator_of o.head.kind o.next) (plain q.value ++ q.rest) left _ (adds_nothing _ _ _) (rw c.separator.ensures at c.in_err-write.ensures.fails) q.is low)

pub overflow_add-opened : goal.overflow_add-opened
overflow_add-opened g c =
    let within = rw c.in-Some.is at c.in_ok-node.ensures.within in
    let few = (refs_within _ c.args.checked.now.frame c.args.opened.head c.frame.ensures.checked.safe.safe (omega (arith, c.len.ensures)) c.requires.head).0 in
    omega (arith, within, few)

pub returns-in_err-push-clause-fails : goal.returns-in_err-push-clause-fails
returns-in_err-push-clause-fails g c =
    let is : c.from_residual-in_err-push.result ≡ Err Memory = search rules in
    let file = c.args.checked.now in
    let o = c.args.opened in
    rw is (λ honest left stands low.
    let q = goes_on file _ _ c.in-Some.node left stands (subst (IsMember file o.head o.next) c.in-Some.is (c.in_ok-node.ensures.reference honest)) in
    adds_some (plain q.value ++ q.rest) (rw c.separator.ensures at c.in_ok-write.ensures.adds) q.is)

pub returns-in_err-push-clause-bounded : goal.returns-in_err-push-clause-bounded
returns-in_err-push-clause-bounded g c = on_err c.from_residual-in_err-push.result (adds_fit c.in_ok-write.ensures.adds)

pub begin-requires : goal.begin-requires
begin-requires g c = record { heads = rw (c.in_ok-node.ensures.reads, c.in_ok-push.ensures.items) (safe_push _ _ _ c.requires.heads (c.requires.head, tt)) }

pub returns-clause-exact : goal.returns-clause-exact
returns-clause-exact g c =
    let file = c.args.checked.now in
    let o = c.args.opened in
    on_ok_weaker c.begin.result
    (λ on honest left stands.
    let q = goes_on file _ _ c.in-Some.node left stands (subst (IsMember file o.head o.next) c.in-Some.is (c.in_ok-node.ensures.reference honest)) in
    adds_goes_on file (rw c.separator.ensures at c.in_ok-write.ensures.adds)
    (on honest q.value (rw c.in-Some.is at c.in_ok-node.ensures.vouched, q.holds) q.formed q.rest (rw c.in_ok-push.ensures.items (q.pushed (o.next + 1) (omega arith)))) q.is)
    (rw c.in_ok-node.ensures.reads at c.begin.ensures.exact)

pub returns-clause-fails : goal.returns-clause-fails
returns-clause-fails g c =
    let file = c.args.checked.now in
    let o = c.args.opened in
    IfErr-weaker c.begin.result _ _
    (λ e fails honest left stands low.
    let q = goes_on file _ _ c.in-Some.node left stands (subst (IsMember file o.head o.next) c.in-Some.is (c.in_ok-node.ensures.reference honest)) in
    adds_fail _ _ _ (plain q.value) q.rest left e (rw c.separator.ensures at c.in_ok-write.ensures.adds)
    (fails honest q.value (rw c.in-Some.is at c.in_ok-node.ensures.vouched, q.holds) q.formed) q.is low)
    (rw c.in_ok-node.ensures.reads at c.begin.ensures.fails)

pub returns-clause-adds : goal.returns-clause-adds
returns-clause-adds g c = on_ok_weaker c.begin.result (λ adds. (_, adds_more c.in_ok-write.ensures.adds adds.1)) c.begin.ensures.adds

pub returns-clause-bounded : goal.returns-clause-bounded
returns-clause-bounded g c = on_err_weaker c.begin.result (λ bounded. adds_within _ _ _ c.in_ok-write.ensures.adds bounded) c.begin.ensures.bounded
