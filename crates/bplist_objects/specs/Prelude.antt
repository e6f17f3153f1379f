-- The names that the contracts of this crate use, gathered from other files. Declares nothing.
pub use Rattle.std.specs.Ordering.{ordering_reverse}
pub use Rattle.std.specs.declared.cmp.Ordering.TheVariants.{Less, Equal}
pub use Rattle.bplist_octets.specs.Meaning.{Honestly, OnlyReads, borrowed, last_count}
pub use Rattle.bplist_octets.specs.Octets.{num, part}
pub use Rattle.bplist_objects.specs.Announced.{HasHead, IsFront, IsMarker, MayCount, item_size}
pub use Rattle.bplist_objects.specs.Answers.{Gives, Never, read_failed}
pub use Rattle.bplist_objects.specs.CountFaults.{IsLongCountFault}
pub use Rattle.bplist_objects.specs.Extents.{TakeOctets, Takes}
pub use Rattle.bplist_objects.specs.File.{FileHolds}
pub use Rattle.bplist_objects.specs.Frame.{IsFrame, Keeps, frame_rules, number_rules, off, trailer, trailer_rules}
pub use Rattle.bplist_objects.specs.FrameRules.{Breaks, IsFrameFault}
pub use Rattle.bplist_objects.specs.Framed.{HonestlyBy, HonestlyIn, IsFramed, frame_in, with_frame}
pub use Rattle.bplist_objects.specs.Heads.{Content, HasShape, IsHeadOf, Spells, content_at, refs}
pub use Rattle.bplist_objects.specs.Holds.{Holds}
pub use Rattle.bplist_objects.specs.KeyCounts.{key_count}
pub use Rattle.bplist_objects.specs.Kinds.{IsLeafKind}
pub use Rattle.bplist_objects.specs.Markers.{Announces, HasLongCount, IsLongOf, MarkersCount, Marks, is_counted, markers_of}
pub use Rattle.bplist_objects.specs.Numbers.{integer, num_at}
pub use Rattle.bplist_objects.specs.ObjectRules.{BreaksByObject, IsObjectFault, KeepsByObject, body_rules, object_rules, shape_rules}
pub use Rattle.bplist_objects.specs.Reach.{Chain, Founded}
pub use Rattle.bplist_objects.specs.Rules.{IsFirstFault, KeepsAll}
pub use Rattle.bplist_objects.specs.Safe.{IsSafe, IsSafeBody, IsSafeFrame, IsSafeHead, IsSafeText, ref_count}
pub use Rattle.bplist_objects.specs.Scan.{AreBelow, AreNumbers, IsFirstNotBelow, MeanNumbers, nth_number}
pub use Rattle.bplist_objects.specs.SmallFiles.{small_file}
pub use Rattle.bplist_objects.specs.Trailer.{frame_of_trailer}
pub use Rattle.bplist_objects.specs.Units.{IsTextKind, compare_units, units_of}
pub use Rattle.bplist_objects.specs.Value.{Value, array, boolean, bytes, date, dict, int, no_pairs, no_values, pair, real, text, uid, value}
pub use Rattle.bplist_objects.specs.Visits.{IsSafeVisit, IsVisited, size_said}
pub use Rattle.bplist_objects.specs.Words.{kind_word, number_of, word_of}
pub use Rattle.bplist_objects.specs.declared.fault.ObjectFault.TheVariants.{Fault, Read}
pub use Rattle.bplist_objects.specs.declared.frame.Frame.{Frame}
pub use Rattle.bplist_objects.specs.declared.frame.ObjectNo.{ObjectNo}
pub use Rattle.bplist_objects.specs.declared.head.Head.{Head}
pub use Rattle.bplist_objects.specs.declared.head.Kind.TheVariants.{Dict, Int, Uid}
pub use Rattle.bplist_objects.specs.declared.rule.Rule.{Rule}
pub use Rattle.bplist_objects.specs.declared.rule.Rule.TheVariants.{Magic, OffsetHigh, Overfull}
