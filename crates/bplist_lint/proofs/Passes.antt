-- What the linter's passes find, one after the other.
use Rattle.std.proofs.Common.{◌≡◌, ℕ, zero, suc, ◌+◌, ◌*◌, ◌<◌, ◌≤◌, cond, nat_lt, Bool, List, length, take, slice_index, count_by, filter, IsTrue, Option, None, refl, sym, ap, subst, ◌∙◌, arith, min, lt-ltb}
use Rattle.std.specs.List.{range_with_len}
use Rattle.std.proofs.Math.Nat.{min-eq_right, mul-le-mul_left}
use Rattle.std.proofs.Math.Numerals.{add-one}
use Rattle.std.proofs.Math.Seq.{take-length}
use Rattle.std.proofs.lemmas.List.Sums.{count_by-le-length, sum_by_more}
use Rattle.std.proofs.lemmas.Bool.{ltb-true}
use Rattle.bplist_octets.specs.Meaning.{Meaning}
use Rattle.bplist_objects.specs.declared.fault.Fault.{Fault}
use Rattle.bplist_objects.specs.declared.frame.Frame.{Frame}
use Rattle.bplist_objects.specs.Answers.{Never}
use Rattle.bplist_objects.specs.Frame.{IsFrame, trailer}
use Rattle.bplist_objects.specs.Safe.{IsSafeFrame}
use Rattle.bplist_objects.specs.File.{FileHolds}
use Rattle.bplist_objects.specs.Value.{Value}
use Rattle.bplist_objects.specs.Reach.{Reach}
use Rattle.bplist_objects.specs.Spelled.{refs_at}
use Rattle.bplist_cert.specs.declared.refusal.Refusal.{Refusal}
use Rattle.bplist_cert.specs.declared.refusal.Refusal.TheVariants as cert_refusals
use Rattle.bplist_cert.specs.Lists.{Keyed, Lists, lists}
use Rattle.bplist_cert.specs.Refusals.{GivesRefusal}
use Rattle.bplist_cert.specs.Sorted.{IsAccepted}
use Rattle.bplist_cert.specs.Valid.{IsVouchedBy}
use Rattle.bplist_cert.proofs.VouchedObjects.{reached_vouched}
use Rattle.bplist_lint.specs.declared.answer.LintRefusal.{LintRefusal}
use Rattle.bplist_lint.specs.declared.answer.LintRefusal.TheVariants as refusals
use Rattle.bplist_lint.specs.declared.linter.Keys.{Keys}
use Rattle.bplist_lint.specs.declared.linter.Keys.TheVariants.{Classes, Ranks}
use Rattle.bplist_lint.specs.declared.tally.Tally.{Tally}
use Rattle.bplist_lint.specs.declared.walk.Reached.{Reached}
use Rattle.bplist_lint.specs.Graph.{AreLeast, IsCircleOf}
use Rattle.bplist_lint.specs.ReachRules.{number_below, references_below, is_marked}
use Rattle.bplist_lint.specs.FileFault.{IsFileFault, IsFileCircle}
use Rattle.bplist_lint.specs.Refusals.{Refuses, no_circle}
use Rattle.bplist_lint.specs.LeastHeights.{AreLeastHeights}
use Rattle.bplist_lint.specs.Linted.{HaveReferences, KeepsRules, IsLintedBy, HasNoHeights, lint_bytes, lint_of, objects_said}
use Rattle.bplist_lint.specs.Upgraded.{IsLintedWith}
use Rattle.bplist_lint.specs.ReachWalk.{HasRoomFor, IsWalked, NamesMarked, extents_below}
use Rattle.bplist_objects.specs.Extents.{HaveRoom}
use Rattle.bplist_keys.specs.Texts.{IsMarkedText}
use Rattle.bplist_objects.proofs.ExtentSums.{room_weaker}
use Rattle.bplist_lint.proofs.ExtentBytes.{extents_tallied}
use Rattle.bplist_lint.proofs.KeyClasses.{reached_sound}
use Rattle.bplist_lint.proofs.HeldValues.{formed_holds}
use Rattle.bplist_lint.proofs.KeptRules.{kept_both, kept_room, kept_spells}
use Rattle.bplist_lint.proofs.RangeSums.{sum_next, have_references}
use Rattle.bplist_lint.proofs.Walks.{same_mark}
use Rattle.bplist_lint.proofs.ReferenceGraph.{circle_iff}
use Rattle.bplist_lint.proofs.LintAnswers.{circle_not_held, circle_not_valid, fault_not_held, fault_not_valid, least_lowest, lint_yes}

-- ---- what is said of a fault is said of the refusal
-- a refusal of the checker as one of the linter
abbrev lint_refusal_of : Refusal → LintRefusal
lint_refusal_of refusal =
    elim refusal [ cert_refusals.Fault fault ↦ refusals.Fault fault | cert_refusals.Read error ↦ refusals.Read error | cert_refusals.Memory ↦ refusals.Memory ]

pub check_means : (P Q : Fault → Type 0) (R : List ℕ → Type 0) (e : Refusal) → ((x : Fault) → P x → Q x) → GivesRefusal P e → Refuses Q R (lint_refusal_of e)
check_means P Q R (cert_refusals.Fault fault) same h = same fault h
check_means P Q R (cert_refusals.Read _) same h = tt
check_means P Q R cert_refusals.Memory same h = tt

pub refusal_means : (P Q : Fault → Type 0) (R T : List ℕ → Type 0) (e : LintRefusal) → ((x : Fault) → P x → Q x) → ((x : List ℕ) → R x → T x) → Refuses P R e → Refuses Q T e
refusal_means P Q R T (refusals.Fault fault) faults circles h = faults fault h
refusal_means P Q R T (refusals.Circle circle) faults circles h = circles _ h
refusal_means P Q R T (refusals.Read _) faults circles h = tt
refusal_means P Q R T refusals.Memory faults circles h = tt

-- what is claimed of a refusal, by what the source means
pub fault_passed : (m n : Meaning) → m ≡ n → (e : LintRefusal) → (IsTrue m.honest → Refuses (IsFileFault m.octets) (IsFileCircle m.octets) e)
    → IsTrue n.honest → Refuses (IsFileFault n.octets) (IsFileCircle n.octets) e
fault_passed m n same e told = subst (λ (k : Meaning). IsTrue k.honest → Refuses (IsFileFault k.octets) (IsFileCircle k.octets) e) same told

-- what was asked for, by what the source means
pub lint_asked : (m n : Meaning) → m ≡ n → (was now : Frame) → was ≡ now → (before after : ℕ)
    → (IsTrue m.honest → after ≤ before + (2 * length m.octets + 34 * was.table + 1756 * was.objects + 456))
    → IsTrue n.honest → after ≤ before + (2 * length n.octets + 34 * now.table + 1756 * now.objects + 456)
lint_asked m n same was now framed before after asked honest =
    let told = asked (subst (λ (k : Meaning). IsTrue k.honest) (sym same) honest) in
    omega (arith, told, ap (λ (k : Meaning). length k.octets) same, ap (λ (x : Frame). x.table) framed, ap (λ (x : Frame). x.objects) framed)

-- what was asked for from the start: the trailer, the offset table, and then the passes
pub file_asked : (f : List ℕ) (F : Frame) → F ≡ trailer f → IsSafeFrame (length f) F
    → (start read made after paid : ℕ) → read ≤ start + (40 + F.objects * F.offset_size) → made ≡ read
    → after + 8 * paid ≤ made + (2 * length f + 34 * F.table + 1756 * F.objects + 456) → after ≤ start + lint_bytes f
file_asked f F spelled safe start read made after paid first same asked =
    let each : F.objects * 1 ≤ F.objects * F.offset_size = mul-le-mul_left F.objects safe.safe.offset_low in
    let few : F.objects ≤ length f = omega (arith, each, safe.safe.room) in
    let said : objects_said f ≡ F.objects = ap (λ (x : Frame). min (length f) x.objects) (sym spelled) ∙ min-eq_right few in
    let bound : after ≤ start + (40 + 36 * length f + 2212 * F.objects) = omega (arith, first, same, asked, each, safe.safe.room, safe.top) in
    subst (λ (n : ℕ). after ≤ start + (40 + 36 * length f + 2212 * n)) (sym said) bound

-- the texts that are named share no byte, the reached objects have room before the table, and no more are named than
-- there are
abbrev pub HaveBounds : List ℕ → Frame → Reached → List Bool → Type 0
HaveBounds f F reached named = HaveRoom f F (IsMarkedText f F named) × (extents_below f F (is_marked reached.marks.items) F.objects + 8 ≤ F.table) × (count_by (λ marked. marked) named ≤ F.objects)

pub reached_room : (f : List ℕ) (F : Frame) → IsFrame f F → (reached : Reached) → HasRoomFor F reached → (named : List Bool) → length named ≡ F.objects
    → IsWalked f F reached → NamesMarked reached.marks.items named → HaveBounds f F reached named
reached_room f F framed reached fits named all walked only =
    let marks = reached.marks.items in
    let count : length marks ≡ F.objects = omega (arith, fits.all_marks, reached.marks.ok.0) in
    let taken = extents_tallied f F marks (reached_sound f F marks count framed walked.marked walked.tallied.kept) walked.marked reached.tally walked.tallied in (
      room_weaker f F (Reach f F) (IsMarkedText f F named) (λ m is. (walked.marked m).0 (only m is.0)) (kept_room f F framed walked.tallied.kept),
      omega (arith, taken, fits.roomy.room),
      omega (arith, all, count_by-le-length (λ marked. marked) named),
    )

-- ---- sums over the same objects
-- the object has a height
abbrev is_vouched : List ℕ → ℕ → Bool
is_vouched heights n = nat_lt 0 (slice_index heights n)

-- the objects with a height among the first ones
vouched_counted : (heights : List ℕ) (n : ℕ) → n ≤ length heights → number_below (is_vouched heights) n ≡ count_by (nat_lt 0) (take n heights)
vouched_counted heights zero l = refl
vouched_counted heights (suc n) l =
    let more = rw (add-one n) at (sum_by_more (λ h. cond (nat_lt 0 h) 1 0) heights n 0 (omega (arith, l))) in
    let before = vouched_counted heights n (omega (arith, l)) in
    omega (arith, sum_next (λ m. cond (is_vouched heights m) 1 0) n, more, before)

module _ (f : List ℕ) (F : Frame) where
  -- the marked objects are those with a height
  module _ (reached : Reached) (s : KeepsRules f F reached) (heights : List ℕ) (least : AreLeastHeights f F heights) (vouched : (n : ℕ) → Reach f F n → IsVouchedBy heights n) where
    same_objects : (n : ℕ) → is_marked reached.marks.items n ≡ is_vouched heights n
    same_objects n = same_mark (is_marked reached.marks.items n) (is_vouched heights n)
        (λ e. let v = vouched n ((s.walked.marked n).0 e) in lt-ltb 0 (slice_index heights n) (omega arith))
        (λ e. let v = ltb-true 0 (slice_index heights n) e in (s.walked.marked n).1 (least.only n (omega arith)))

    pub same_number : reached.tally.reached ≡ count_by (nat_lt 0) heights
    same_number =
        s.walked.tallied.reached ∙ ap (λ p. number_below p F.objects) (λ i m. same_objects m i)
        ∙ ap (number_below (is_vouched heights)) (sym least.count) ∙ vouched_counted heights (length heights) (omega arith)
        ∙ ap (count_by (nat_lt 0)) (take-length heights)

    pub same_references : reached.tally.references ≡ references_below f F (is_vouched heights) F.objects
    same_references = s.walked.tallied.references ∙ ap (λ p. references_below f F p F.objects) (λ i m. same_objects m i)

  -- the answer with these heights
  pub linted_yes : IsFrame f F → (reached : Reached) → KeepsRules f F reached → reached.tally.references + 8 ≤ F.table → (heights : List ℕ)
      → length heights ≡ F.objects → AreLeast (refs_at f F) F.top.0 heights → 0 < slice_index heights F.top.0 → IsLintedBy f F (lint_of F (lists heights None) reached.tally)
  linted_yes frame sifted s few heights count walked has =
      let yes = lint_yes f F frame s.walked.tallied.kept s.keys heights count walked has in
      let value = formed_holds f F yes.0 in
      let vouched : (n : ℕ) → Reach f F n → IsVouchedBy heights n = reached_vouched f F heights yes.2 in
      record {
        value = value.0;
        holds = value.1;
        version = refl;
        least = yes.1;
        valid = yes.2;
        lowest = λ other valid n r. (least_lowest f F other heights valid yes.1.least n r).1;
        height = refl;
        reached = same_number sifted s heights yes.1 vouched;
        references =
            subst (HaveReferences f F (filter (is_vouched heights) (range_with_len 0 F.objects))) (sym (same_references sifted s heights yes.1 vouched))
            (have_references f F (is_vouched heights) (λ n on. let v = ltb-true 0 (slice_index heights n) on in let o = yes.2.vouched n (omega arith) in (o.content, o.spells)) (range_with_len 0 F.objects));
        few = few;
      }

  -- the circle
  pub circled : IsFrame f F → (reached : Reached) → KeepsRules f F reached → (circle : List ℕ) → IsCircleOf (refs_at f F) F.top.0 circle → IsFileCircle f circle
  circled frame sifted s circle c =
      let kept = s.walked.tallied.kept in
      (F, frame, kept_both f F F.objects kept s.keys, (circle_iff f F (kept_spells f F frame kept) circle).0 c)

-- ---- the linter's yes, of a checked file
module _ (f : List ℕ) (F : Frame) (certificate : Lists) (tally : Tally) where
  -- the certificate is accepted: its key lists are right, if it has any
  pub linted_accepted : (keys : Keys) → IsLintedWith keys f F certificate tally → IsAccepted f F certificate
  linted_accepted Classes linted = record { valid = linted.0.valid; listed = rw linted.1 tt }
  linted_accepted Ranks linted = linted.1.accepted

  -- without key lists it is that of the linter's answer
  pub linted_plain : IsLintedWith Classes f F certificate tally → IsLintedBy f F (lint_of F certificate tally)
  linted_plain linted = subst (λ (keyed : Option Keyed). IsLintedBy f F (lint_of F (lists certificate.heights keyed) tally)) (sym linted.1) linted.0

-- ---- a refusal excludes heights and values
pub refusal_decides : (f : List ℕ) (e : LintRefusal) → Refuses (IsFileFault f) (IsFileCircle f) e → Refuses (λ _. HasNoHeights f) (λ _. HasNoHeights f) e
refusal_decides f e = refusal_means (IsFileFault f) (λ _. HasNoHeights f) (IsFileCircle f) (λ _. HasNoHeights f) e (λ a h F heights. fault_not_valid f F a heights h) (λ circle h F heights. circle_not_valid f F circle heights h)

pub refusal_never : (f : List ℕ) (v : Value) → FileHolds f v → (e : LintRefusal) → Refuses (IsFileFault f) (IsFileCircle f) e → Refuses Never no_circle e
refusal_never f v holds e = refusal_means (IsFileFault f) Never (IsFileCircle f) no_circle e (λ a h. fault_not_held f a v h holds) (λ circle h. circle_not_held f circle v h holds)
