use Rattle.std.proofs.Common.{◌≡◌, ◌+◌, not, count_by, length, refl, sym, ap₂, ◌∙◌, arith, Bool, List}
use Rattle.std.proofs.lemmas.List.Sums.{length-filter}
use Rattle.std.proofs.lemmas.List.Filters.{length-filter_both}
use Rattle.bplist_lint.proofs.heights.unmarked.Goals as goal

both : (marks : List Bool) → count_by (λ marked. marked) marks + count_by not marks ≡ length marks
both marks = ap₂ (λ a b. a + b) (sym (length-filter (λ marked. marked) marks)) (sym (length-filter not marks)) ∙ length-filter_both (λ marked. marked) not (λ _. refl) marks

pub overflow_sub-result : goal.overflow_sub-result
overflow_sub-result c = omega (arith, both c.args.marks.now, c.count_marked.ensures)

pub returns : goal.returns
returns c = omega (arith, both c.args.marks.now, c.count_marked.ensures)
