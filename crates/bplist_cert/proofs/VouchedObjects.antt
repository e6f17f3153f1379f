-- What valid heights prove: each vouched object holds a value, and references from it go down.
use Rattle.std.proofs.Common.{◌≡◌, ℕ, zero, suc, ◌<◌, ◌≤◌, ◌+◌, ◌*◌, List, [], ◌∷◌, length, slice_index, refl, sym, ap, ◌∙◌, subst, arith, Contains, All}
use Rattle.std.specs.List.{AllByRecursion, AllZip}
use Rattle.std.proofs.lemmas.Slice.Zip.{AllZip-long}
use Rattle.bplist_objects.specs.Frame.{IsFrame}
use Rattle.bplist_objects.specs.Numbers.{nums_at}
use Rattle.bplist_objects.specs.declared.frame.Frame.{Frame}
use Rattle.bplist_objects.specs.declared.head.Kind.{Kind}
use Rattle.bplist_objects.specs.declared.head.Kind.TheVariants as kinds
use Rattle.bplist_objects.specs.Value.{text, Value, leaf, array, set, dict, Values, no_values, value, Pairs, no_pairs, pair, keys}
use Rattle.bplist_objects.specs.Heads.{Content, Spells, content_of, refs}
use Rattle.bplist_objects.specs.Holds.{Holds, HoldEach, HoldPairs, AreDistinct}
use Rattle.bplist_objects.specs.File.{FileHolds}
use Rattle.bplist_objects.specs.Reach.{Refs, Reach, top, next, Chain, last, more}
use Rattle.bplist_objects.proofs.Lists.{all_weaker, all_behind, all_at}
use Rattle.bplist_objects.proofs.ExtentSums.{room_weaker}
use Rattle.bplist_objects.proofs.Fronts.{one_head}
use Rattle.bplist_objects.proofs.ObjectValues.{OneHead, holds_one, one_value_of_file}
use Rattle.bplist_objects.proofs.References.{length-nums_at}
use Rattle.bplist_objects.proofs.ProperLeaves.{refs_below}
use Rattle.bplist_cert.specs.Sound.{IsSound}
use Rattle.bplist_cert.specs.Valid.{IsVouchedBy, IsVouched, IsValid, HasKeys, HoldsOneValue}

module _ (f : List ℕ) (F : Frame) where
  dict_kind : (k : Kind) (c at : ℕ) (ks ms : List ℕ) → Content.dict ks ms ≡ content_of f F k c at → length ks ≡ length ms
  dict_kind kinds.Dict c at ks ms e =
      let ek : ks ≡ nums_at f at F.ref_size c = cc e in
      let em : ms ≡ nums_at f (at + c * F.ref_size) F.ref_size c = cc e in
      ap length ek ∙ length-nums_at f at F.ref_size c ∙ sym (ap length em ∙ length-nums_at f (at + c * F.ref_size) F.ref_size c)
  dict_kind _ c at ks ms e = cc e

  -- a dictionary has as many keys as values
  pub as_many : (n : ℕ) (ks ms : List ℕ) → Spells f F n (Content.dict ks ms) → length ks ≡ length ms
  as_many n ks ms s = dict_kind s.shape.kind s.shape.count s.shape.body ks ms s.means

  abbrev pub Held : ℕ → Type 0
  Held n = (v : Value) × Holds f F n v

  each_held : (ms : List ℕ) → AllByRecursion Held ms → (vs : Values) × HoldEach f F ms vs
  each_held [] a = (no_values, tt)
  each_held (m ∷ ms) a = let r = each_held ms a.1 in (value a.0.0 r.0, (a.0.1, r.1))

  pairs_held : (ks ms : List ℕ) (us : List (List ℕ)) → length ks ≡ length ms → AllZip (λ k u. Spells f F k (Content.leaf (text u))) ks us → AllByRecursion Held ms → (ps : Pairs) × HoldPairs f F ks ms ps × (keys ps ≡ us)
  pairs_held [] [] [] e z a = (no_pairs, tt, refl)
  pairs_held (k ∷ ks) (m ∷ ms) (u ∷ us) e z a =
      let r = pairs_held ks ms us (omega arith) z.1 a.1 in
      (pair u a.0.0 r.0, (z.0, a.0.1, r.1), ap (λ us. u ∷ us) r.2)
  pairs_held ks ms us e z a = absurd (omega (arith, e, AllZip-long (λ k u. Spells f F k (Content.leaf (text u))) ks us z))

  pub from_content : (h : Content) (n : ℕ) → Spells f F n h → AllByRecursion Held (refs h) → HasKeys f F h → Held n
  from_content (Content.leaf l) n s a u = (leaf l, s)
  from_content (Content.array ms) n s a u = let r = each_held ms a in (array r.0, (ms, s, r.1))
  from_content (Content.set ms) n s a u = let r = each_held ms a in (set r.0, (ms, s, r.1))
  from_content (Content.dict ks ms) n s a u =
      let r = pairs_held ks ms u.0 (as_many n ks ms s) u.1.0 (all_behind Held ks ms a) in
      (dict r.0, (ks, ms, s, r.1, subst AreDistinct (sym r.2) u.1.1))

  module _ (H : List ℕ) (vouched : (n : ℕ) → IsVouchedBy H n → IsVouched f F H n) where
    held_below : (k n : ℕ) → IsVouchedBy H n → slice_index H n ≤ k → Held n
    held_below zero n vo h = absurd (omega arith)
    held_below (suc k) n vo h =
        let o = vouched n vo in
        from_content o.content n o.spells (all_weaker _ Held (λ m p. held_below k m p.0 (omega arith)) (refs o.content) o.lower) o.keys

    -- each vouched object holds a value
    pub held : (n : ℕ) → IsVouchedBy H n → Held n
    held n vo = held_below (slice_index H n) n vo (omega arith)

    module _ (one : OneHead f F) where
      pub lower : (n m : ℕ) → IsVouchedBy H n → Refs f F n m → IsVouchedBy H m × (slice_index H m < slice_index H n)
      lower n m vo r =
          let o = vouched n vo in
          all_at _ (refs o.content) m o.lower (subst (λ h. Contains (refs h) m) (one n r.0 o.content r.1 o.spells) r.2)

      pub reach_vouched : (n : ℕ) → IsVouchedBy H F.top.0 → Reach f F n → IsVouchedBy H n
      reach_vouched n vo top = vo
      reach_vouched n vo (next {n = k} r e) = (lower k n (reach_vouched k vo r) e).0

      chain_lower : (n m : ℕ) → IsVouchedBy H n → Chain f F n m → slice_index H m < slice_index H n
      chain_lower n m vo (last e) = (lower n m vo e).1
      chain_lower n m vo (more {m = k} e c) =
          let l = lower n k vo e in
          let d = chain_lower k m l.0 c in
          omega arith

      -- no chain of references leads from a reached object to itself
      pub no_circle : (n : ℕ) → IsVouchedBy H F.top.0 → Reach f F n → Chain f F n n → ⊥
      no_circle n vo r c = let l = chain_lower n n (reach_vouched n vo r) c in omega arith

-- what follows for a file from valid heights
module _ (f : List ℕ) (F : Frame) (heights : List ℕ) (valid : IsValid f F heights) where
  -- each reached object is vouched for
  pub reached_vouched : (n : ℕ) → Reach f F n → IsVouchedBy heights n
  reached_vouched n r = reach_vouched f F heights valid.vouched (one_head f F) n valid.top r

  -- each vouched object holds exactly one value
  pub object_holds : (n : ℕ) → IsVouchedBy heights n → (v : Value) × Holds f F n v × ((w : Value) → Holds f F n w → w ≡ v)
  object_holds n vo =
      let o = held f F heights valid.vouched n vo in
      (o.0, o.1, λ w h. holds_one f F (one_head f F) w o.0 n h o.1)

  -- the file holds exactly one value
  pub file_holds : HoldsOneValue f
  file_holds =
      let top = held f F heights valid.vouched F.top.0 valid.top in
      let whole : FileHolds f top.0 = record { frame = F; is = valid.frame; holds = top.1; room = room_weaker f F (IsVouchedBy heights) (Reach f F) reached_vouched valid.room } in
      (top.0, whole, λ w h. one_value_of_file f w top.0 h whole)

  -- each reached object spells a content
  pub reached_spells : (n : ℕ) → Reach f F n → (c : Content) × Spells f F n c
  reached_spells n r = let o = valid.vouched n (reached_vouched n r) in (o.content, o.spells)

  -- each reference in a reached object is the number of an object
  pub references_inside : (n m : ℕ) → Reach f F n → Refs f F n m → m < F.objects
  references_inside n m r e = all_at _ _ m (refs_below f F n e.0 e.1) e.2

  -- no chain of references leads from a reached object to itself
  pub circle_free : (n : ℕ) → Reach f F n → Chain f F n n → ⊥
  circle_free n r c = no_circle f F heights valid.vouched (one_head f F) n valid.top r c

  -- the references of a vouched object are vouched for and lower
  pub references_lower : (n m : ℕ) → IsVouchedBy heights n → Refs f F n m → IsVouchedBy heights m × (slice_index heights m < slice_index heights n)
  references_lower n m vo r = lower f F heights valid.vouched (one_head f F) n m vo r

  -- the file is sound
  pub sound : IsSound f
  sound =
      let file = file_holds in
      let same : F ≡ file.1.frame = valid.frame.spelled ∙ sym file.1.is.spelled in
      record {
        value = file.0;
        holds = file.1;
        one = file.2;
        inside = subst (λ G. (n : ℕ) → Reach f G n → (c : Content) × Spells f G n c × All (λ m. m < G.objects) (refs c)) same (λ n r. let s = reached_spells n r in (s.0, s.1, s.1.refs));
        no_circle = subst (λ G. (n : ℕ) → Reach f G n → Chain f G n n → ⊥) same circle_free;
      }

-- what a sound file is by its frame
module _ (f : List ℕ) (F : Frame) (is : IsSound f) (frame : IsFrame f F) where
  same_frame : is.holds.frame ≡ F
  same_frame = is.holds.is.spelled ∙ sym frame.spelled

  pub sound_inside : (n : ℕ) → Reach f F n → (c : Content) × Spells f F n c × AllByRecursion (λ m. m < F.objects) (refs c)
  sound_inside = subst (λ G. (n : ℕ) → Reach f G n → (c : Content) × Spells f G n c × AllByRecursion (λ m. m < G.objects) (refs c)) same_frame
      (λ n r. let s = is.inside n r in (s.0, s.1, refs_below f is.holds.frame n s.0 s.1))

  pub sound_no_circle : (n : ℕ) → Reach f F n → Chain f F n n → ⊥
  sound_no_circle = subst (λ G. (n : ℕ) → Reach f G n → Chain f G n n → ⊥) same_frame is.no_circle
