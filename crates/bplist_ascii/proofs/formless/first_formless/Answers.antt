use Rattle.std.proofs.Common.{rules, ◌≡◌, refl, Err}
use Rattle.bplist_ascii.proofs.SearchSteps.{leads_none, leads_further}
use Rattle.bplist_ascii.proofs.formless.first_formless.Goals as goal

pub loop-next-init : goal.loop-next-init
loop-next-init g c = record { same = refl; leads = λ honest v held none. record { value = v; held = held; none = none; on = λ x i. i } }

pub returns-in_err-next-clause-exact : goal.returns-in_err-next-clause-exact
returns-in_err-next-clause-exact g c = λ honest v held none.
    let is : c.from_residual.result ≡ Err c.in_err-next.field-0.0 = search rules in
    let i = c.loop-next.invariant.leads honest v held none in
    rw is ((rw c.loop-next.invariant.same at c.in_err-next.ensures.exact) honest i.value i.held i.none)

pub loop-next-preserved : goal.loop-next-preserved
loop-next-preserved g c = record {
  same = search rules;
  leads = λ honest v held none.
      let i = c.loop-next.invariant.leads honest v held none in
      let next = rw c.in-Some.is at ((rw c.loop-next.invariant.same at c.in_ok-next.ensures.exact) honest i.value i.held i.none) in
      leads_further c.args.checked.now c.args.node.object.0 v c.loop-next.part.object.0 c.in-Some.next.object.0 i next;
}

pub returns-clause-exact : goal.returns-clause-exact
returns-clause-exact g c = λ honest v held none.
    let i = c.loop-next.invariant.leads honest v held none in
    i.on c.loop-next.part.object.0 (leads_none _ c.in_ok-next.field-0 c.in_default.not-Some ((rw c.loop-next.invariant.same at c.in_ok-next.ensures.exact) honest i.value i.held i.none))
