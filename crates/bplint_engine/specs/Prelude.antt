-- The names that the contracts of this crate use, gathered from other files. Declares nothing.
pub use Rattle.bplist_octets.specs.Meaning.{OnlyReads}
pub use Rattle.bplist_objects.specs.Holds.{Holds}
pub use Rattle.bplist_objects.specs.Safe.{IsSafeFrame, IsSafeHead}
pub use Rattle.bplist_objects.specs.Value.{Value, leaf, text}
pub use Rattle.bplist_cert.specs.CertifiedFile.{IsVouchedFor}
pub use Rattle.bplist_cert.specs.Encoding.{octets_of}
pub use Rattle.bplist_cert.specs.Lists.{IsCertificate, Lists}
pub use Rattle.bplist_cert.specs.Valid.{IsVouchedBy}
pub use Rattle.bplist_lint.specs.Upgraded.{IsUpgraded}
pub use Rattle.bplist_cursor.specs.Answered.{answer_read}
pub use Rattle.bplist_cursor.specs.Causes.{GivesCursor, cursor_read}
pub use Rattle.bplist_cursor.specs.Kept.{OnlyReadsFile}
pub use Rattle.bplist_cursor.specs.Look.{look}
pub use Rattle.bplist_cursor.specs.Members.{member_of}
pub use Rattle.bplist_cursor.specs.Path.{IsPathOf}
pub use Rattle.bplist_cursor.specs.Replies.{face, reply}
pub use Rattle.bplist_cursor.specs.Shown.{HasRoom}
pub use Rattle.bplist_octets.specs.Sending.{SendsPart, Takes, TakesPart}
pub use Rattle.bplint_lines.specs.Answers.{Answer, Leaves, LeavesBy, read_failed}
pub use Rattle.bplint_lines.specs.Faults.{GivesOrIsExcused}
pub use Rattle.bplint_lines.specs.OutputLines.{check_line, face_line, lint_line, missing_line}
pub use Rattle.bplint_engine.specs.Certify.{CertifySays, SendsCertificate, written}
pub use Rattle.bplint_engine.specs.Check.{CheckSays, IsDecoded}
pub use Rattle.bplint_engine.specs.Commands.{Asked, PrintsOnePath}
pub use Rattle.bplint_engine.specs.Get.{LinesSay, answer_fault, found_line, reply_line, said_of}
pub use Rattle.bplint_engine.specs.Hexadecimal.{spelled}
pub use Rattle.bplint_engine.specs.Least.{IsLeastFor}
pub use Rattle.bplint_engine.specs.Lint.{LintSays}
pub use Rattle.bplint_engine.specs.Ls.{HasCount, HasMembers, IsHeadFor, IsLeaf, listed}
pub use Rattle.bplint_engine.specs.Output.{Answers, IsRefusal, LeavesLed, Sends, read_fault_of}
pub use Rattle.bplint_engine.specs.PathTexts.{IsWrongAmong, OnPath}
pub use Rattle.bplint_engine.specs.Print.{NodeSays, PathSays, PrintSays}
pub use Rattle.bplint_engine.specs.Said.{Says, SaysOver, most, takes_cert}
