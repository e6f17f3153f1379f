use Rattle.std.proofs.Common.{◌≡◌, Err, None, ap, subst, sym}
use Rattle.std.specs.Prelude.{MatchResult}
use Rattle.std.proofs.lemmas.Result.{err_from_is_err_and}
use Rattle.bplist_cursor.specs.Leads.{LeadTo}
use Rattle.bplint_lines.specs.declared.fault.Said.TheVariants.{SomeMissing}
use Rattle.bplint_lines.specs.Answers.{gives}
use Rattle.bplint_engine.specs.Get.{found_line}
use Rattle.bplint_lines.specs.declared.texts.Style.TheVariants.{OldStyle}
use Rattle.bplint_engine.specs.Raw.{LeadsToRawless, NodeShowsRaw, PathShowsRaw, raw_bytes}
use Rattle.bplint_engine.proofs.LeftBytes.{kept_self, refused_within}
use Rattle.bplint_engine.proofs.SentAnswers.{cursor_leaves, missing_made, raw_as}
use Rattle.bplint_engine.proofs.raw.raw_path.Goals as goal

pub returns-in_err-node-clause-exact : goal.returns-in_err-node-clause-exact
returns-in_err-node-clause-exact g c = λ honest v holds.
    let p = err_from_is_err_and c.from_residual.result c.from_residual.ensures.1 in
    rw (p.1, p.2) (cursor_leaves (PathShowsRaw c.args.path.now v) (g.W.Write.contents c.args.out.now) _ (c.in_err-node.ensures.unchanged honest))

pub returns-in-At-clause-exact : goal.returns-in-At-clause-exact
returns-in-At-clause-exact g c = λ honest v holds.
    let same = c.in_ok-node.ensures.reads in
    let found = rw c.in-At.is at (c.in_ok-node.ensures.exact honest v holds) in
    let left = rw same at c.raw_node.ensures.exact in
    let file = c.args.checked.now in
    let w = found.2.0 in
    raw_as (NodeShowsRaw w) (PathShowsRaw c.args.path.now v) (λ n. (n ≡ c.in-At.node.object.0) × (raw_bytes w ≡ None)) (LeadsToRawless file.source.octets file.frame c.args.path.now v)
    _ _ _
    (λ a h. subst (λ r. MatchResult r (λ x. NodeShowsRaw x a) (λ missing. a ≡ gives SomeMissing (found_line OldStyle (Err missing)))) (sym found.2.1) h)
    (λ n h. (w, subst (LeadTo file.source.octets file.frame file.frame.top.0 c.args.path.now) (sym h.0) found.0, found.2.1, h.1))
    (left honest found.1 w found.2.2)

pub returns-in_err-missing_output-in-Missing-clause-exact : goal.returns-in_err-missing_output-in-Missing-clause-exact
returns-in_err-missing_output-in-Missing-clause-exact g c = λ honest v holds.
    let found = rw c.in-Missing.is at (c.in_ok-node.ensures.exact honest v holds) in
    let p = err_from_is_err_and c.from_residual-in_err-missing_output-in-Missing.result c.from_residual-in_err-missing_output-in-Missing.ensures.1 in
    let says = missing_made (PathShowsRaw c.args.path.now v) _ _ _
    (λ a h. subst (λ r. MatchResult r (λ x. NodeShowsRaw x a) (λ missing. a ≡ gives SomeMissing (found_line OldStyle (Err missing)))) (sym found) h)
    c.missing_output.ensures.made c.missing_output.ensures.refused in
    rw (p.1, p.2) (refused_within (PathShowsRaw c.args.path.now v) None _ _ _ (rw c.in_err-missing_output-in-Missing.was at says) (kept_self _))

pub returns-in_ok-missing_output-in-Missing-clause-exact : goal.returns-in_ok-missing_output-in-Missing-clause-exact
returns-in_ok-missing_output-in-Missing-clause-exact g c = λ honest v holds.
    let found = rw c.in-Missing.is at (c.in_ok-node.ensures.exact honest v holds) in
    let line = c.in_ok-missing_output-in-Missing.field-0.bytes.items in (
      subst (λ r. MatchResult r (λ x. NodeShowsRaw x (gives SomeMissing line)) (λ missing. gives SomeMissing line ≡ gives SomeMissing (found_line OldStyle (Err missing)))) (sym found)
          (ap (gives SomeMissing) c.in_ok-missing_output-in-Missing.ensures.made.1),
      kept_self _,
    )
