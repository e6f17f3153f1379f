-- The names that the contracts of this crate use, gathered from other files. Declares nothing.
pub use Rattle.bplist_octets.specs.Octets.{num, part}
pub use Rattle.bplist_octets.specs.Slices.{source_over}
pub use Rattle.bplist_objects.specs.Frame.{IsFrame, off}
pub use Rattle.bplist_objects.specs.Heads.{IsHeadOf, Spells, leaf}
pub use Rattle.bplist_objects.specs.Holds.{Holds}
pub use Rattle.bplist_objects.specs.Safe.{IsSafe, IsSafeBody, IsSafeHead, IsSafeText, ref_count}
pub use Rattle.bplist_objects.specs.Scan.{nth_number}
pub use Rattle.bplist_objects.specs.Units.{units_of}
pub use Rattle.bplist_objects.specs.Value.{Value, int}
pub use Rattle.bplist_objects.specs.declared.frame.Frame.{Frame}
pub use Rattle.bplist_objects.specs.declared.head.Head.{Head}
pub use Rattle.bplist_objects.specs.declared.head.Kind.TheVariants.{Dict}
pub use Rattle.bplist_objects.specs.declared.rule.Rule.{Rule}
pub use Rattle.bplist_objects.specs.RuleTexts.{text_of}
pub use Rattle.bplist_objects.specs.Words.{number_of as number_of_rule, word_of}
pub use Rattle.bplist_cert.specs.CertifiedFile.{IsVouchingFault}
pub use Rattle.bplist_cert.specs.CheckedFile.{IsChecked}
pub use Rattle.bplist_cert.specs.Encoding.{octets_of}
pub use Rattle.bplist_cert.specs.Lists.{IsCertificate}
pub use Rattle.bplist_lint.specs.FileFault.{IsFileCircle, IsFileFault}
pub use Rattle.bplist_lint.specs.Linted.{IsLinted, lint_of}
pub use Rattle.bplist_lint.specs.Refusals.{Lints, no_circle}
pub use Rattle.bplist_lint.specs.Trail.{number}
pub use Rattle.bplist_lint.specs.declared.answer.Lint.{Lint}
pub use Rattle.bplist_lint.specs.declared.answer.LintRefusal.{LintRefusal}
pub use Rattle.bplist_cursor.specs.Forms.{form_of}
pub use Rattle.bplist_cursor.specs.Found.{AreMeasuresOf, IsFound}
pub use Rattle.bplist_cursor.specs.Members.{member_reference}
pub use Rattle.bplist_cursor.specs.Nodes.{cap, nodes}
pub use Rattle.bplist_cursor.specs.declared.node.Found.{Found}
pub use Rattle.bplist_c.specs.Lifecycle.{Accepts, CertificateSays, IsCheckedFor, IsOpened, IsPair, KeepsHandle}
pub use Rattle.bplist_c.specs.Lookup.{FindSays, step_answer, told_found, why_status}
pub use Rattle.bplist_c.specs.Members.{AreSpelled, MembersSay}
pub use Rattle.bplist_c.specs.Objects.{AreFaces, FacesSay, IsFace, OnObject, body_of, bytes_of_body, int_answer, kind_number, number_answer, uid_answer, units_answer}
pub use Rattle.bplist_c.specs.Sessions.{IsFileOf, IsRefused, IsSame, IsSessionOf, OnHandle, checked_of}
pub use Rattle.bplist_c.specs.Sizes.{sizes_by}
pub use Rattle.bplist_c.specs.Statuses.{PutsItems, Tells, items_of, sentence_of, status_number}
pub use Rattle.bplist_c.specs.Texts.{IsTextOf, TellsText, printed_as, text_length}
pub use Rattle.bplist_c.specs.Utf8.{KeySays, Utf8Says, IsUtf8Of}
pub use Rattle.bplist_c.specs.Verdicts.{ShowsLint, circle_answer, refused_told}
pub use Rattle.bplist_c.specs.declared.object.BplistBits.{BplistBits}
pub use Rattle.bplist_c.specs.declared.object.BplistBody.{BplistBody}
pub use Rattle.bplist_c.specs.declared.object.BplistInteger.{BplistInteger}
pub use Rattle.bplist_c.specs.declared.handle.Session.{Session}
pub use Rattle.bplist_c.specs.declared.sizes.BplistSizes.{BplistSizes}
pub use Rattle.bplist_c.specs.declared.status.Status.{Status}
pub use Rattle.bplist_c.specs.declared.status.Status.TheVariants.{Closed, Memory, NoMember, NoRule, NoStatus, Opened}
pub use Rattle.bplist_c.specs.declared.text.Text.{Text}
pub use Rattle.bplist_c.specs.declared.verdict.TheConstants.{NO_VERDICT}
