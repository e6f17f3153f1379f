use Rattle.std.proofs.Common.{rules, arith, ap, ◌∙◌}
use Rattle.bplist_objects.specs.Heads.{refs, content_at}
use Rattle.bplist_cert.proofs.CheckSteps.{on_err}
use Rattle.bplist_cursor.specs.Sizes.{size_of, added}
use Rattle.bplist_cursor.proofs.StepReferences.{content_of_value}
use Rattle.bplist_cursor.proofs.ObjectSteps.{container_total, leaf_total}
use Rattle.bplist_cursor.proofs.PassSteps.{leaf_fits, refs_fit}
use Rattle.bplist_cursor.proofs.sizes.size_of_object.Goals as goal

pub returns-in_err-head-clause-exact : goal.returns-in_err-head-clause-exact
returns-in_err-head-clause-exact g c = λ honest v h sized.
    let x = content_of_value c.args.checked.now.source.octets c.args.checked.now.frame v c.args.n.0 h in
    on_err _ _ _ _ c.from_residual.ensures.1 (c.in_err-head.ensures.exact honest x.0 x.1)

pub returns-in-Array-clause-exact : goal.returns-in-Array-clause-exact
returns-in-Array-clause-exact g c = λ honest v h sized.
    let f = c.args.checked.now.source.octets in
    let F = c.args.checked.now.frame in
    let head = c.in_ok-head.head in
    let total = container_total f F c.args.sizes.now head.kind head.count head.body c.args.n.0 v c.in-Array.is h (c.in_ok-head.ensures.exact honest) sized in
    let here = ap (λ x. added c.args.sizes.now (record { nodes = 1; form = x }) (refs (content_at f F head))) c.punctuation.ensures ∙ total in
    (rw c.in_ok-head.ensures.reads at c.add_refs.ensures.exact) honest (size_of v) here

pub returns-in_ok-form-in_default : goal.returns-in_ok-form-in_default
returns-in_ok-form-in_default g c =
    let head = c.in_ok-head.head in
    record {
      reads = search rules;
      asks = λ honest e takes.
          let fits = leaf_fits c.args.checked.now.source.octets c.args.checked.now.frame c.args.n.0 e head (c.in_ok-head.ensures.shape honest) takes c.in_default.not-Array c.in_default.not-Set c.in_default.not-Dict in
          omega (arith, fits, c.in_ok-head.ensures.asks, c.in_ok-form-in_default.ensures.asks);
      exact = λ honest v h sized.
          leaf_total c.args.checked.now.source.octets c.args.checked.now.frame head.kind head.count head.body c.args.n.0 v c.in_ok-form-in_default.form
          c.in_default.not-Array c.in_default.not-Set c.in_default.not-Dict h (c.in_ok-head.ensures.exact honest)
          ((rw c.in_ok-head.ensures.reads at c.in_ok-form-in_default.ensures.exact) honest);
    }

pub returns-in-Array-clause-asks : goal.returns-in-Array-clause-asks
returns-in-Array-clause-asks g c = λ honest e takes.
    let fits = refs_fit c.args.checked.now.source.octets c.args.checked.now.frame c.args.n.0 e c.in_ok-head.head (c.in_ok-head.ensures.shape honest) takes in
    omega (arith, fits, c.in_ok-head.ensures.asks, rw c.in_ok-head.ensures.reads at c.add_refs.ensures.asks)

pub returns-in_err-form-in_default-clause-asks : goal.returns-in_err-form-in_default-clause-asks
returns-in_err-form-in_default-clause-asks g c = λ honest e takes.
    let fits = leaf_fits c.args.checked.now.source.octets c.args.checked.now.frame c.args.n.0 e c.in_ok-head.head (c.in_ok-head.ensures.shape honest) takes c.in_default.not-Array c.in_default.not-Set c.in_default.not-Dict in
    omega (arith, fits, c.in_ok-head.ensures.asks, c.in_err-form-in_default.ensures.asks)
