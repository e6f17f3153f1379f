-- The frame of a file, and the rules of a file as a whole.
use Rattle.std.proofs.Common.{◌≡◌, ℕ, ◌+◌, ◌-◌, ◌*◌, ◌<◌, ◌≤◌, List, [], ◌∷◌, length, refl, sym, inl, subst, Option, Some}
use Rattle.bplist_objects.specs.declared.frame.Frame.{Frame}
use Rattle.bplist_objects.specs.Frame.{trailer, off, Keeps, trailer_rules, frame_rules, IsFrame}
use Rattle.bplist_objects.specs.Rules.{KeepsAll, IsFirstFault}
use Rattle.bplist_objects.specs.declared.fault.Fault.{Fault}
use Rattle.bplist_objects.specs.declared.frame.ObjectNo.{ObjectNo}
use Rattle.bplist_objects.specs.Scan.{AreBelow, IsFirstNotBelow}
use Rattle.bplist_objects.specs.declared.rule.Rule.TheVariants.{OffsetHigh}
use Rattle.bplist_objects.proofs.RuleLaws.{first_fault_after, first_fault_among, kept_all_after}
use Rattle.bplist_objects.specs.FrameRules.{Breaks, IsFrameFault}

-- what rules 1 to 13 say of a frame
pub record Numbered (f : List ℕ) (F : Frame) : Type 0 where
  pub large : length f ≤ 4294967295
  pub short : 41 ≤ length f
  pub objects : 1 ≤ F.objects
  pub top : F.top.0 < F.objects
  pub table_early : 9 ≤ F.table
  pub table_late : F.table < length f - 32
  pub offset_size : (1 ≤ F.offset_size) × (F.offset_size ≤ 8)
  pub ref_size : (1 ≤ F.ref_size) × (F.ref_size ≤ 8)
  pub whole : F.table + F.objects * F.offset_size + 32 ≡ length f
  pub offsets : (n : ℕ) → n < F.objects → off f F n < F.table

pub numbered : {f : List ℕ} {F : Frame} → IsFrame f F → Numbered f F
numbered {f} {F} frame = subst (Numbered f) (sym frame.spelled) (of frame.kept)
  where
    of : KeepsAll (Keeps f) frame_rules → Numbered f (trailer f)
    of (large, (short, (magic, (objects, (top, (early, (late, (offset, (ref, (whole, (narrow, (low, (offsets, _))))))))))))) = record {
      large = large;
      short = short;
      objects = objects;
      top = top;
      table_early = early;
      table_late = late;
      offset_size = offset;
      ref_size = ref;
      whole = whole;
      offsets = offsets;
    }

-- if all rules are kept, the trailer is the frame
pub trailer_is_frame : (f : List ℕ) → KeepsAll (Keeps f) frame_rules → IsFrame f (trailer f)
trailer_is_frame f kept = record { spelled = refl; kept = kept }

-- ---- the rules before that of the entries, and then that of the entries
-- what `trailer_of` returns
abbrev pub IsTrailer : List ℕ → Frame → Type 0
IsTrailer f F = (F ≡ trailer f) × KeepsAll (Keeps f) trailer_rules

abbrev pub IsTrailerFault : List ℕ → Fault → Type 0
IsTrailerFault f fault = IsFirstFault (Keeps f) (Breaks f) trailer_rules fault

-- each entry of the offset table is below the table's place
abbrev pub AreEntriesLow : List ℕ → Frame → Type 0
AreEntriesLow f F = AreBelow f F.table F.offset_size F.objects F.table

-- the first entry that is not is this object's, at this place
abbrev pub IsEntryFault : List ℕ → Frame → Option ObjectNo → ℕ → Type 0
IsEntryFault f F object place =
    (n : ℕ) × IsFirstNotBelow f F.table F.offset_size F.objects F.table n × (object ≡ Some (record { 0 = n }))
    × (place ≡ F.table + n * F.offset_size)

pub trailer_fault : (f : List ℕ) (fault : Fault) → IsTrailerFault f fault → IsFrameFault f fault
trailer_fault f fault h = first_fault_among (Keeps f) (Breaks f) trailer_rules (OffsetHigh ∷ []) fault h

pub entry_fault : (f : List ℕ) (F : Frame) (fault : Fault) → IsTrailer f F → fault.rule ≡ OffsetHigh
    → IsEntryFault f F fault.object fault.place → IsFrameFault f fault
entry_fault f F fault (is, kept) rule h =
    first_fault_after (Keeps f) (Breaks f) trailer_rules (OffsetHigh ∷ []) fault kept
    (inl (rule, subst (λ G. IsEntryFault f G fault.object fault.place) is h))

pub low_is_frame : (f : List ℕ) (F : Frame) → IsTrailer f F → AreEntriesLow f F → IsFrame f F
low_is_frame f F (is, kept) low = record {
  spelled = is;
  kept = kept_all_after (Keeps f) trailer_rules (OffsetHigh ∷ []) kept (subst (AreEntriesLow f) is low, tt);
}
