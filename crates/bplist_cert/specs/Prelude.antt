-- The names that the contracts of this crate use, gathered from other files. Declares nothing.
pub use Rattle.std.specs.Int.{bytes_high_first}
pub use Rattle.std.specs.List.{AllByRecursion}
pub use Rattle.bplist_octets.specs.Meaning.{Honestly, OnlyReads}
pub use Rattle.bplist_octets.specs.Octets.{part}
pub use Rattle.bplist_octets.specs.Sending.{SendsPart, Takes, TakesPart}
pub use Rattle.bplist_octets.specs.Slices.{StandsAt}
pub use Rattle.bplist_objects.specs.Announced.{HasHead}
pub use Rattle.bplist_objects.specs.Answers.{Gives, Never, read_failed}
pub use Rattle.bplist_objects.specs.Claims.{FailsAt}
pub use Rattle.bplist_objects.specs.Extents.{Sums}
pub use Rattle.bplist_objects.specs.Frame.{IsFrame, off}
pub use Rattle.bplist_objects.specs.Framed.{HonestlyIn, frame_in}
pub use Rattle.bplist_objects.specs.Heads.{Content, HasShape, Spells, refs}
pub use Rattle.bplist_objects.specs.Holds.{Holds}
pub use Rattle.bplist_objects.specs.KeyCounts.{key_count}
pub use Rattle.bplist_objects.specs.ObjectRules.{KeepsByObject, body_rules, object_rules}
pub use Rattle.bplist_objects.specs.Reach.{Chain, Reach, Refs}
pub use Rattle.bplist_objects.specs.Rules.{KeepsAll}
pub use Rattle.bplist_objects.specs.Safe.{IsSafeFrame, IsSafeHead, IsSafeText, ref_count}
pub use Rattle.bplist_objects.specs.Scan.{ref}
pub use Rattle.bplist_objects.specs.Units.{IsTextKind}
pub use Rattle.bplist_objects.specs.Value.{Value}
pub use Rattle.bplist_objects.specs.declared.fault.Fault.{Fault}
pub use Rattle.bplist_objects.specs.declared.frame.Frame.{Frame}
pub use Rattle.bplist_objects.specs.declared.frame.ObjectNo.{ObjectNo}
pub use Rattle.bplist_objects.specs.declared.head.Head.{Head}
pub use Rattle.bplist_objects.specs.declared.head.Kind.TheVariants.{Dict}
pub use Rattle.bplist_objects.specs.declared.rule.Rule.TheVariants.{KeyKind, Overfull}
pub use Rattle.bplist_keys.specs.Classes.{AreClassed, HasNamedKeys, IsNew, IsStamped}
pub use Rattle.bplist_objects.specs.Failures.{failed_to_read}
pub use Rattle.bplist_keys.specs.Marks.{IsMarked}
pub use Rattle.bplist_keys.specs.Texts.{HasTextShape}
pub use Rattle.bplist_cert.specs.CheckRules.{HasOrder, IsCheckFault, IsOrderFault}
pub use Rattle.bplist_cert.specs.CheckedFile.{CheckedFile, IsChecked, meaning_of}
pub use Rattle.bplist_cert.specs.DictKeys.{AreInOrder, IsKeylessFault, IsText, KeysAreTexts, KeysDiffer}
pub use Rattle.bplist_cert.specs.Encoding.{Fits, IsCertRefusal, IsOctetsFault, key_words, magic, octets_of, words}
pub use Rattle.bplist_cert.specs.Heights.{AreLower, AreMet, AreMetBy, IsFirstUnmetBy, IsHeightFault, IsUnmetFault, Meets, rule_of}
pub use Rattle.bplist_cert.specs.KeyPairs.{AreFewKeys, AreKnown, Ascends, Follows, HaveTextShapes, IsReadKey, IsSafeKey, IsTextKey}
pub use Rattle.bplist_cert.specs.KeyRepeats.{BreaksKeys, HasGoodKeys, HaveGoodKeys, HaveNamedKeys, IsFirstKeysFault, IsKeyOf, IsVouchedKey}
pub use Rattle.bplist_cert.specs.KeysLooks.{AreLearnt, AreListed, AreSeen, HaveGoodLists, IsListed}
pub use Rattle.bplist_cert.specs.Lists.{AreWords, HasStarts, IsCertificate, IsCompleteList, Lists, list_of, lists}
pub use Rattle.bplist_cert.specs.Looks.{ArePlaces, IsShownFault, KeepBeforeKeysBelow, KeepsRest}
pub use Rattle.bplist_cert.specs.LowBytes.{AreLowStretches, IsLow}
pub use Rattle.bplist_cert.specs.PairFault.{AreCheckedBelow, IsCheckedObject, IsPairFault, IsSeenFault, IsVouchedFault, IsWalkFault, KeepsPairRules}
pub use Rattle.bplist_cert.specs.Refusals.{GivesRefusal, Judges, MayRefuse, is_read, refusal_of, refusal_of_keys, refused_read}
pub use Rattle.bplist_cert.specs.Sorted.{IsAccepted, IsSorted}
pub use Rattle.bplist_cert.specs.Sound.{IsSound}
pub use Rattle.bplist_cert.specs.Valid.{HoldsOneValue, IsValid, IsVouchedBy, SpellsText}
pub use Rattle.bplist_cert.specs.Versions.{header_octets, is_keyed}
pub use Rattle.bplist_cert.specs.Walks.{AreCollected, AreCollectedNext, AreOwn, AreStamped, AreWalked, HasCollected, HasStamped, HaveKeysApart, IfCollected}
pub use Rattle.bplist_cert.specs.declared.walk.Pass.TheVariants.{Exact, Quick}
pub use Rattle.bplist_cert.specs.declared.certificate.CertRefusal.TheVariants.{Memory as CertMemory}
pub use Rattle.bplist_cert.specs.declared.heights.Wanted.TheVariants.{VouchedBelow}
pub use Rattle.bplist_cert.specs.declared.refusal.Refusal.TheVariants.{Memory, Read}
