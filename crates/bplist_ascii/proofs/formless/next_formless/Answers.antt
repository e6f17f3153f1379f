use Rattle.std.proofs.Common.{rules, arith, ◌≡◌, Err}
use Rattle.std.proofs.lemmas.Result.{err_from_is_err_and}
use Rattle.bplist_cursor.proofs.StepReferences.{content_of_value}
use Rattle.bplist_ascii.proofs.SearchSteps.{own_kind}
use Rattle.bplist_cursor.proofs.SameFiles.{same_file}
use Rattle.bplist_cursor.specs.Kept.{IsSameFile}
use Rattle.bplist_ascii.proofs.formless.next_formless.Goals as goal

pub returns-in_err-head-clause-exact : goal.returns-in_err-head-clause-exact
returns-in_err-head-clause-exact g c = λ honest v held none.
    let p = err_from_is_err_and c.from_residual.result c.from_residual.ensures.1 in
    let s = content_of_value c.args.checked.now.source.octets c.args.checked.now.frame v c.args.node.object.0 held.1 in
    rw (p.1, p.2) (c.in_err-head.ensures.exact honest held.0 s.0 s.1)

pub returns-in_err-part-in-Array-clause-exact : goal.returns-in_err-part-in-Array-clause-exact
returns-in_err-part-in-Array-clause-exact g c = λ honest v held none.
    let is : c.from_residual-in_err-part-in-Array.result ≡ Err c.in_err-part-in-Array.field-0.0 = search rules in
    rw is ((rw c.in_ok-head.ensures.reads at c.in_err-part-in-Array.ensures.exact) honest c.args.node.object.0 v held none (c.in_ok-head.ensures.exact honest held.0))

pub returns-then-height-clause-exact : goal.returns-then-height-clause-exact
returns-then-height-clause-exact g c = λ honest v held none.
    let part = (rw c.in_ok-head.ensures.reads at c.in_ok-part-in-Array.ensures.exact) honest c.args.node.object.0 v held none (c.in_ok-head.ensures.exact honest held.0) in
    let now : IsSameFile c.args.checked.now c.first_without_text.new.checked = same_file c.args.checked.now c.in_ok-part-in-Array.ensures.reads c.in_ok-head.ensures.reads in
    let low = part.1 in
    let height = rw now at c.height.ensures in
    let own = rw now at c.height-in-Array.ensures in
    omega (arith, low, height, own, c.if-height.true)

pub returns-else-height-clause-exact : goal.returns-else-height-clause-exact
returns-else-height-clause-exact g c = λ honest v held none.
    ((rw c.in_ok-head.ensures.reads at c.in_ok-part-in-Array.ensures.exact) honest c.args.node.object.0 v held none (c.in_ok-head.ensures.exact honest held.0)).0

pub returns-in_default : goal.returns-in_default
returns-in_default g c = record {
  reads = c.in_ok-head.ensures.reads;
  exact = λ honest v held none.
      let file = c.args.checked.now in
      let head = c.in_ok-head.head in
      own_kind file.source.octets file.frame head.kind head.count head.body c.args.node.object.0 v c.in_default.not-Array c.in_default.not-Dict
      (c.in_ok-head.ensures.exact honest held.0) held.1 none;
  lower = tt;
}
