-- The places of the objects, stored in 32 bits, and what rule 13 says of them. Source: profile.
use Rattle.std.specs.Prelude.{◌≡◌, ℕ, ◌+◌, ◌*◌, ◌<◌, ◌≤◌, min, List, slice_index, Some}
use Rattle.bplist_objects.specs.declared.fault.Fault.{Fault}
use Rattle.bplist_objects.specs.declared.frame.Frame.{Frame}
use Rattle.bplist_objects.specs.declared.rule.Rule.TheVariants.{OffsetHigh}
use Rattle.bplist_objects.specs.Frame.{off}

-- the first `count` of these are the places of the objects, cut at 4294967295
abbrev pub AreOffsets32 : List ℕ → Frame → ℕ → List ℕ → Type 0
AreOffsets32 f F count places = (n : ℕ) → n < count → slice_index places n ≡ min (off f F n) 4294967295

-- these are the places of `count` objects from this number on
abbrev pub AreOffsetsFrom : List ℕ → Frame → ℕ → ℕ → List ℕ → Type 0
AreOffsetsFrom f F first count places = (k : ℕ) → k < count → slice_index places k ≡ off f F (first + k)

-- all of these places are below the offset table
abbrev pub AreBelowTable : Frame → List ℕ → Type 0
AreBelowTable F places = (n : ℕ) → n < F.objects → slice_index places n < F.table

-- the fault is that of the first place that is not, at its entry of the table
pub record IsOffsetFault (F : Frame) (places : List ℕ) (fault : Fault) : Type 0 where
  pub n : ℕ
  pub within : n < F.objects
  pub high : F.table ≤ slice_index places n
  pub before : (k : ℕ) → k < n → slice_index places k < F.table
  pub rule : fault.rule ≡ OffsetHigh
  pub object : fault.object ≡ Some (record { 0 = n })
  pub place : fault.place ≡ F.table + n * F.offset_size
