use Rattle.std.proofs.Math.Logic.{∥∥₁_map}
use Rattle.std.proofs.lemmas.Grind.{merely}
use Rattle.bplint.proofs.UnreadCertificates.{unread_left}
use Rattle.bplint.proofs.run.answer_on.Goals as goal

pub returns-in-Err : goal.returns-in-Err
returns-in-Err g c = λ fine certified. rw c.with.ensures (merely (unread_left c.args.line.now.hex (g.S.Source.means c.args.file).octets
    (g.C.Source.means c.args.cert.now).octets (g.W.Write.contents c.args.out.now) c.in-Err.fault c.args.line.now.ask))

pub returns-in-Lint : goal.returns-in-Lint
returns-in-Lint g c = λ fine certified. rw c.in-Lint.is
    (∥∥₁_map (c.lint_on.ensures.exact fine) (λ left. (c.lint_on.result.0, left, c.of.ensures)))

pub returns-in-Certify : goal.returns-in-Certify
returns-in-Certify g c = λ fine certified. rw c.in-Certify.is
    (∥∥₁_map (c.certify_on.ensures.exact fine) (λ left. (c.certify_on.result.0, left, c.of-in-Certify.ensures)))

pub returns-in-Check : goal.returns-in-Check
returns-in-Check g c = λ fine certified. rw c.in-Check.is
    (∥∥₁_map (c.check_on.ensures.exact fine (g.C.Source.means c.args.cert.now).octets (c.in-Ok.ensures.exact certified)) (λ left. (c.check_on.result.0, left, c.of-in-Check.ensures)))

pub returns-in-Get : goal.returns-in-Get
returns-in-Get g c = λ fine certified. let left = rw c.deref.ensures.value at c.get_on.ensures.exact fine (g.C.Source.means c.args.cert.now).octets (c.in-Ok.ensures.exact certified) in
    rw c.in-Get.is (∥∥₁_map left (λ left. (c.get_on.result.0, left, c.of-in-Get.ensures)))

pub returns-in-Print : goal.returns-in-Print
returns-in-Print g c = λ fine certified. rw c.in-Print.is
    (∥∥₁_map (c.print_on.ensures.exact fine (g.C.Source.means c.args.cert.now).octets (c.in-Ok.ensures.exact certified)) (λ left. (c.print_on.result.0, left, c.of-in-Print.ensures)))

pub returns-in-Show : goal.returns-in-Show
returns-in-Show g c = λ fine certified. let left = rw c.deref-in-Show.ensures.value at c.show_on.ensures.exact fine in
    rw c.in-Show.is (∥∥₁_map left (λ left. (c.show_on.result.0, left, c.of-in-Show.ensures)))

pub returns-in-Text : goal.returns-in-Text
returns-in-Text g c = λ fine certified. rw c.in-Text.is
    (∥∥₁_map (c.show_text_on-led.ensures.exact fine) (λ left. (c.show_text_on-led.result.0, left, c.of_text.ensures)))

pub returns-in-Raw : goal.returns-in-Raw
returns-in-Raw g c = λ fine certified. rw c.in-Raw.is
    (∥∥₁_map (c.show_raw_on-led.ensures.exact fine) (λ left. (c.show_raw_on-led.result.0, left, c.of_led.ensures)))

pub returns-in-List : goal.returns-in-List
returns-in-List g c = λ fine certified. rw c.in-List.is
    (∥∥₁_map (c.list_on.ensures.exact fine) (λ left. (c.list_on.result.0, left, c.of-in-List.ensures)))

pub returns-in-Tree : goal.returns-in-Tree
returns-in-Tree g c = λ fine certified. rw c.in-Tree.is
    (∥∥₁_map (c.list_all_on.ensures.exact fine) (λ left. (c.list_all_on.result.0, left, c.of-in-Tree.ensures)))
