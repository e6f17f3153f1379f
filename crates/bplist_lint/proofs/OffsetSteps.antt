-- What the places in memory say about rule 13.
use Rattle.std.proofs.Common.{ℕ, ◌^◌, ◌<◌, ◌≤◌, List, slice_index, ap, arith}
use Rattle.bplist_objects.specs.declared.fault.Fault.{Fault}
use Rattle.bplist_objects.specs.declared.frame.Frame.{Frame}
use Rattle.bplist_objects.specs.Frame.{off}
use Rattle.bplist_objects.proofs.FrameTies.{AreEntriesLow, IsEntryFault, IsTrailer}
use Rattle.bplist_objects.proofs.ScanLaws.{first_high}
use Rattle.bplist_objects.specs.Offsets.{AreOffsets32, AreBelowTable, IsOffsetFault}

-- the table that a trailer gives is below 2^32
table_fits : (f : List ℕ) (F : Frame) → IsTrailer f F → F.table < 2 ^ 32
table_fits f F (is, (large, (_, (_, (_, (_, (_, (late, _)))))))) = let e = ap (λ G. G.table) is in omega (arith, e, large, late)

module _ (f : List ℕ) (F : Frame) (places : List ℕ) (kept : AreOffsets32 f F F.objects places) where
  below : F.table < 2 ^ 32 → (n : ℕ) → n < F.objects → slice_index places n < F.table → off f F n < F.table
  below fits n within low = omega (arith, kept n within, low, fits)

  -- if all places in memory are below the table, so are all entries
  pub kept_low : IsTrailer f F → AreBelowTable F places → AreEntriesLow f F
  kept_low trailed low n within = below (table_fits f F trailed) n within (low n within)

  high : (n : ℕ) → n < F.objects → F.table < 2 ^ 32 → F.table ≤ slice_index places n → F.table ≤ off f F n
  high n within fits at = omega (arith, kept n within, at)

  -- the first place in memory that is not below the table is that of the first such entry
  pub kept_high : (fault : Fault) → IsTrailer f F → IsOffsetFault F places fault → IsEntryFault f F fault.object fault.place
  kept_high fault trailed h =
      let fits = table_fits f F trailed in (
        h.n,
        first_high f F.table F.offset_size F.objects F.table h.n h.within (high h.n h.within fits h.high)
            (λ k low. below fits k (let w = h.within in omega (arith, w, low)) (h.before k low)),
        h.object,
        h.place,
      )
