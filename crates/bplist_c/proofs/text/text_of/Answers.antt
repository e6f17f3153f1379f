use Rattle.std.proofs.Common.{arith, ◌∙◌}
use Rattle.bplist_cert.specs.Valid.{IsVouchedBy}
use Rattle.bplist_c.proofs.SliceReads.{kept_unread}
use Rattle.bplist_c.proofs.TextSteps.{told_length, text_said}
use Rattle.bplist_c.proofs.text.text_of.Goals as goal

pub returns-clause-exact : goal.returns-clause-exact
returns-clause-exact c =
    let checked = c.args.checked.now in
    let vouched : IsVouchedBy checked.certificate.heights c.args.object = omega arith in
    let honest = rw c.in_ok-measures.ensures.same at c.octets-before.ensures.honest in
    let exact = rw (c.in_ok-measures.ensures.same, c.new-text.ensures.items) at c.print-printed.ensures.exact in
    let read = kept_unread _ _ _ c.octets-before.ensures.failures c.octets-after.ensures.failures c.print-printed.ensures.reads in
    record {
      none = λ bad. absurd (bad vouched);
      said = λ v w holds.
          rw c.text_outcome.ensures (text_said checked.source.octets checked.frame c.args.object w c.args.room c.length_of-length.result c.print-printed.new.out c.print-printed.result
          read (exact honest vouched w holds)
          (λ t is. c.length_of-length.ensures ∙ told_length _ c.args.object w t (c.in_ok-measures.ensures.exact.form c.args.object w vouched holds) is));
    }
