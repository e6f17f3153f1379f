use Rattle.std.proofs.Common.{arith}
use Rattle.bplist_lint.proofs.linter.lint_opened.Goals.{in-Classes+in_ok-certificate-in-Classes, in-Ranks+in_ok-certificate-in-Ranks}
use Rattle.bplist_lint.proofs.linter.lint_opened.Goals as goal

pub returns-clause-exact : goal.returns-clause-exact
returns-clause-exact g c = λ honest.
    elim c.match-keys.branch [
      | in-Classes+in_ok-certificate-in-Classes w ↦ rw (w.in-Classes.is, w.certificate-is) ((rw c.in_ok-reached.ensures.reads at w.in_ok-certificate-in-Classes.ensures.exact) honest)
      | in-Ranks+in_ok-certificate-in-Ranks w ↦ rw (w.in-Ranks.is, w.certificate-is) ((rw c.in_ok-reached.ensures.reads at w.in_ok-certificate-in-Ranks.ensures.exact) honest)
    ]

pub returns-clause-asks : goal.returns-clause-asks
returns-clause-asks g c = λ honest.
    let first = c.in_ok-reached.ensures in
    elim c.match-keys.branch [
      | in-Classes+in_ok-certificate-in-Classes w ↦
          let more = (rw first.reads at w.in_ok-certificate-in-Classes.ensures.asks) honest first.only in
          rw w.src-is (omega (arith, first.asks, more))
      | in-Ranks+in_ok-certificate-in-Ranks w ↦
          let more = (rw first.reads at w.in_ok-certificate-in-Ranks.ensures.asks) honest first.only in
          rw w.src-is (omega (arith, first.asks, more))
    ]
