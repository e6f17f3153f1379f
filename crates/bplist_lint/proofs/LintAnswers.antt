-- What the linter's passes find: a value with its least heights, or the first fault.
use Rattle.std.proofs.Common.{◌≡◌, ℕ, ◌<◌, ◌≤◌, ◌↔◌, inl, inr, List, length, slice_index, subst, sym, ◌∙◌, arith, None}
use Rattle.std.proofs.lemmas.Bool.{cases_lt}
use Rattle.std.proofs.lemmas.List.{ext_get_or}
use Rattle.bplist_objects.specs.declared.fault.Fault.{Fault}
use Rattle.bplist_objects.specs.declared.frame.Frame.{Frame}
use Rattle.bplist_objects.specs.Value.{Value}
use Rattle.bplist_objects.specs.File.{FileHolds}
use Rattle.bplist_objects.specs.Frame.{IsFrame}
use Rattle.bplist_objects.specs.Heads.{Content, Spells}
use Rattle.bplist_objects.specs.Reach.{Reach, top, Founded}
use Rattle.bplist_objects.specs.Spelled.{refs_at}
use Rattle.bplist_objects.proofs.ExtentSums.{room_weaker}
use Rattle.bplist_objects.proofs.Fronts.{one_head}
use Rattle.bplist_cert.specs.Valid.{IsVouchedBy, IsValid, HasKeys}
use Rattle.bplist_cert.proofs.VouchedObjects.{reached_vouched}
use Rattle.bplist_lint.specs.Graph.{AreLeast}
use Rattle.bplist_cert.specs.CheckRules.{key_rules}
use Rattle.bplist_lint.specs.ReachRules.{KeepReached, reach_rules}
use Rattle.bplist_lint.specs.FileFault.{IsFileFault, IsFileCircle}
use Rattle.bplist_lint.specs.LeastHeights.{StandLeast, AreLeastHeights}
use Rattle.bplist_lint.specs.WellFormed.{IsWellFormed}
use Rattle.bplist_lint.proofs.FoundedObjects.{vouched_founded, least_under, same_least, least_valid}
use Rattle.bplist_lint.proofs.HeldValues.{holds_formed}
use Rattle.bplist_lint.proofs.LeastTables.{least_table, least_table_all, least_table_least}
use Rattle.bplist_lint.proofs.FirstFaults.{fault_not_formed, circle_not_formed}
use Rattle.bplist_lint.proofs.KeptRules.{kept_spells, kept_formed, formed_reach, formed_keys}
use Rattle.bplist_lint.proofs.TrailSteps.{Ends-from_least}
use Rattle.bplist_lint.proofs.ReferenceGraph.{founded_iff, reach_founded, are_least_heights}

module _ (f : List ℕ) where
  pub fault_not_held : (a : Fault) (v : Value) → IsFileFault f a → FileHolds f v → ⊥
  fault_not_held a v h held = let w = holds_formed f v held in fault_not_formed f w.0 a h w.1

  pub circle_not_held : (circle : List ℕ) (v : Value) → IsFileCircle f circle → FileHolds f v → ⊥
  circle_not_held circle v h held = let w = holds_formed f v held in circle_not_formed f w.0 circle h w.1

module _ (f : List ℕ) (F : Frame) where
  -- ---- valid heights and well formed files
  pub formed_by_valid : (heights : List ℕ) → IsValid f F heights → IsWellFormed f F
  formed_by_valid heights valid = record {
    frame = valid.frame;
    contents = λ n r. let o = valid.vouched n (reached_vouched f F heights valid n r) in (o.content, o.spells, o.keys);
    room = room_weaker f F (IsVouchedBy heights) (Reach f F) (reached_vouched f F heights valid) valid.room;
    founded = vouched_founded f F heights valid.vouched F.top.0 valid.top;
  }

  -- ---- the least heights
  pub least_heights_valid : (heights : List ℕ) → IsWellFormed f F → AreLeastHeights f F heights → IsValid f F heights
  least_heights_valid heights w l =
      least_valid f F heights w.frame l.count (room_weaker f F (Reach f F) (IsVouchedBy heights) l.only w.room) l.least l.only
      (λ n r c s. let k = w.contents n r in subst (HasKeys f F) (one_head f F n k.0 c k.1 s) k.2)

  pub valid_iff : ((heights : List ℕ) × IsValid f F heights) ↔ IsWellFormed f F
  valid_iff = (
    λ h. formed_by_valid h.0 h.1,
    λ w.
        let contents : (n : ℕ) → Reach f F n → (c : Content) × Spells f F n c = λ n r. let s = w.contents n r in (s.0, s.1) in
        let least = are_least_heights f F contents (least_table f F w) (least_table_least f F w) w.founded (least_table_all f F w) in
        (least_table f F w, least_heights_valid (least_table f F w) w least),
  )

  -- two such tables agree on what is reached, so there is one list of the least heights
  pub stand_one : (heights others : List ℕ) → IsWellFormed f F → StandLeast f F heights → StandLeast f F others
      → (n : ℕ) → Reach f F n → slice_index heights n ≡ slice_index others n
  stand_one heights others w l m n r = same_least f F heights others l m n (reach_founded f F w.founded n r) r

  pub least_heights_one : (heights others : List ℕ) → IsWellFormed f F → AreLeastHeights f F heights → AreLeastHeights f F others → heights ≡ others
  least_heights_one heights others w l m = ext_get_or 0 heights others (l.count ∙ sym m.count) (λ n low. same n)
    where
      reached : (n : ℕ) → Reach f F n → slice_index heights n ≡ slice_index others n
      reached = stand_one heights others w l.least m.least

      same : (n : ℕ) → slice_index heights n ≡ slice_index others n
      same n = elim (cases_lt 0 (slice_index heights n)) [
        | inl a ↦ reached n (l.only n a)
        | inr a ↦ elim (cases_lt 0 (slice_index others n)) [
          | inl b ↦ reached n (m.only n b)
          | inr b ↦ omega (arith, a, b)
        ]
      ]

  pub least_lowest : (heights least : List ℕ) → IsValid f F heights → StandLeast f F least
      → (n : ℕ) → Reach f F n → Founded f F n × (slice_index least n ≤ slice_index heights n)
  least_lowest heights least valid l n r =
      let v = reached_vouched f F heights valid n r in
      (vouched_founded f F heights valid.vouched n v, least_under f F heights valid.vouched least l n r v)

  -- ---- a first fault is final
  pub fault_not_valid : (a : Fault) (heights : List ℕ) → IsFileFault f a → IsValid f F heights → ⊥
  fault_not_valid a heights h valid = fault_not_formed f F a h (formed_by_valid heights valid)

  pub circle_not_valid : (circle heights : List ℕ) → IsFileCircle f circle → IsValid f F heights → ⊥
  circle_not_valid circle heights h valid = circle_not_formed f F circle h (formed_by_valid heights valid)

  -- ---- the rules and well formed files
  pub formed_iff : IsWellFormed f F ↔ (IsFrame f F × KeepReached f F reach_rules F.objects × KeepReached f F (key_rules None) F.objects × Founded f F F.top.0)
  formed_iff = (
    λ w. (w.frame, formed_reach f F w, formed_keys f F w, w.founded),
    λ (frame, reach, keys, ends). kept_formed f F frame reach keys ends,
  )

  module _ (frame : IsFrame f F) (reach : KeepReached f F reach_rules F.objects) where
    -- ---- what the walks find
    -- if the top has a least height, it is founded
    pub height_founded : (heights : List ℕ) → AreLeast (refs_at f F) F.top.0 heights → 0 < slice_index heights F.top.0 → Founded f F F.top.0
    height_founded heights least has =
        (founded_iff f F (kept_spells f F frame reach) F.top.0 top).0 (Ends-from_least (refs_at f F) F.top.0 (slice_index heights F.top.0) (least.vouched F.top.0 has).1)

    module _ (keys : KeepReached f F (key_rules None) F.objects) where
      -- then the file is well formed, and the heights are the least, and valid
      pub lint_yes : (heights : List ℕ) → length heights ≡ F.objects → AreLeast (refs_at f F) F.top.0 heights → 0 < slice_index heights F.top.0
          → IsWellFormed f F × AreLeastHeights f F heights × IsValid f F heights
      lint_yes heights count least has =
          let ends = height_founded heights least has in
          let w = kept_formed f F frame reach keys ends in
          let l = are_least_heights f F (kept_spells f F frame reach) heights least ends count in
          (w, l, least_heights_valid heights w l)
