use Rattle.std.proofs.Common.{◌≡◌, arith}
use Rattle.bplint_engine.specs.Findings.{status_of}
use Rattle.bplint.specs.ExitStatuses.{EndsWith, IsOrFails}
use Rattle.bplint.specs.Questions.{LintEnds}
use Rattle.bplint.proofs.Endings.{failed_lint, found_ends, named_ends, raises, still_ends}
use Rattle.bplint.proofs.findings.Findings.add.Goals as goal

pub returns-then-prints_json : goal.returns-then-prints_json
returns-then-prints_json g c = λ fine. let f = (g.S.Source.means c.args.file).octets in
    raises (IsOrFails (status_of c.find_in-finding.result)) (LintEnds f) _ _ (found_ends f c.find_in-finding.result (c.find_in-finding.ensures fine)) c.print_finding.ensures

pub returns-in_default : goal.returns-in_default
returns-in_default g c = λ fine. let f = (g.S.Source.means c.args.file).octets in
    raises (λ s. s ≡ 4) (LintEnds f) _ _ (λ s is. failed_lint f s (omega (arith, is))) c.end_without_memory.ensures

pub returns-then-is_named_alone : goal.returns-then-is_named_alone
returns-then-is_named_alone g c = λ fine. let f = (g.S.Source.means c.args.file).octets in
    raises (IsOrFails 1) (LintEnds f) _ _ (named_ends f c.answer-ending.result.answer (c.answer-ending.ensures fine) (c.is_named_alone.ensures c.if-is_named_alone.true)) c.print_name.ensures

pub returns : goal.returns
returns g c = λ fine. let f = (g.S.Source.means c.args.file).octets in
    raises (EndsWith c.completed-ending.result.answer) (LintEnds f) _ _ (still_ends (LintEnds f) (failed_lint f) _ _ c.completed-ending.ensures (c.answer-ending.ensures fine)) c.end.ensures
