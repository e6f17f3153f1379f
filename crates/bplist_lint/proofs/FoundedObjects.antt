-- Founded objects and the least heights.
use Rattle.std.proofs.Common.{◌≡◌, ℕ, zero, suc, ◌<◌, ◌≤◌, ◌+◌, ◌-◌, List, [], ◌∷◌, map, length, slice_index, refl, sym, ap, ap₂, ◌∙◌, subst, arith}
use Rattle.std.specs.List.{AllByRecursion}
use Rattle.bplist_objects.specs.declared.frame.Frame.{Frame}
use Rattle.bplist_objects.specs.Frame.{IsFrame}
use Rattle.bplist_objects.specs.Heads.{Content, Spells, refs}
use Rattle.bplist_objects.specs.Reach.{Reach, top, next, Founded, founded}
use Rattle.bplist_objects.specs.Extents.{HaveRoom}
use Rattle.bplist_objects.proofs.Fronts.{one_head}
use Rattle.bplist_objects.proofs.Lists.{all_weaker, all_at, all_from}
use Rattle.bplist_cert.specs.Valid.{IsVouchedBy, IsValid, IsVouched, HasKeys}
use Rattle.bplist_lint.specs.Graph.{greatest}
use Rattle.bplist_lint.specs.LeastHeights.{StandLeast}

-- ---- the greatest of some numbers
greatest-le : (g : ℕ → ℕ) (b : ℕ) (xs : List ℕ) → AllByRecursion (λ x. g x ≤ b) xs → greatest (map g xs) ≤ b
greatest-le g b [] a = omega arith
greatest-le g b (x ∷ xs) a = let r = greatest-le g b xs a.1 in omega (arith, r, a.0)

pub le-greatest : (g : ℕ → ℕ) (xs : List ℕ) → AllByRecursion (λ x. g x ≤ greatest (map g xs)) xs
le-greatest g [] = tt
le-greatest g (x ∷ xs) = (omega arith, all_weaker _ _ (λ y h. omega (arith, h)) xs (le-greatest g xs))

-- two functions that agree on a list
pub map-same : (g k : ℕ → ℕ) (xs : List ℕ) → AllByRecursion (λ x. g x ≡ k x) xs → map g xs ≡ map k xs
map-same g k [] a = refl
map-same g k (x ∷ xs) a = ap₂ (λ y ys. y ∷ ys) a.0 (map-same g k xs a.1)

module _ (f : List ℕ) (F : Frame) where
  -- object n has height 1 if it has no references, else one more than the greatest of theirs
  abbrev pub StandsLeast : List ℕ → ℕ → Type 0
  StandsLeast H n = (c : Content) × Spells f F n c × (slice_index H n ≡ 1 + greatest (map (slice_index H) (refs c)))

  module _ (H : List ℕ) (vouched : (n : ℕ) → IsVouchedBy H n → IsVouched f F H n) where
    -- ---- what valid heights vouch for is founded
    founded_below : (k n : ℕ) → IsVouchedBy H n → slice_index H n ≤ k → Founded f F n
    founded_below zero n vo h = absurd (omega (arith, vo, h))
    founded_below (suc k) n vo h =
        let o = vouched n vo in
        founded o.content o.spells (λ m c.
        let l = all_at _ (refs o.content) m o.lower c in
        founded_below k m l.0 (omega (arith, h, l.1)))

    pub vouched_founded : (n : ℕ) → IsVouchedBy H n → Founded f F n
    vouched_founded n vo = founded_below (slice_index H n) n vo (omega arith)

    -- ---- the least heights are the least
    module _ (L : List ℕ) (least : StandLeast f F L) where
      least_below : (k n : ℕ) → Reach f F n → IsVouchedBy H n → slice_index H n ≤ k → slice_index L n ≤ slice_index H n
      least_below zero n r vo h = absurd (omega (arith, vo, h))
      least_below (suc k) n r vo h =
          let o = vouched n vo in
          let s = least n r in
          let low = subst (λ x. AllByRecursion (λ m. IsVouchedBy H m × (slice_index H m < slice_index H n)) (refs x)) (one_head f F n o.content s.0 o.spells s.1) o.lower in
          let low' : AllByRecursion (λ m. slice_index L m + 1 ≤ slice_index H n) (refs s.0) = all_from _ (refs s.0) (λ m c.
          let l = all_at _ (refs s.0) m low c in
          let e = least_below k m (next r (s.0, s.1, c)) l.0 (omega (arith, h, l.1)) in
          omega (arith, l.1, e)) in
          let g = greatest-le (λ m. slice_index L m) (slice_index H n - 1) (refs s.0) (all_weaker _ _ (λ m e. omega (arith, e)) (refs s.0) low') in
          omega (arith, vo, g, s.2)

      pub least_under : (n : ℕ) → Reach f F n → IsVouchedBy H n → slice_index L n ≤ slice_index H n
      least_under n r vo = least_below (slice_index H n) n r vo (omega arith)

  -- ---- the least heights of founded objects are determined
  module _ (L M : List ℕ) (least : StandLeast f F L) (least' : StandLeast f F M) where
    pub same_least : (n : ℕ) → Founded f F n → Reach f F n → slice_index L n ≡ slice_index M n
    same_least n (founded h spells each) r =
        let s = least n r in
        let t = least' n r in
        let a = all_from (λ m. slice_index L m ≡ slice_index M m) (refs h) (λ m c. same_least m (each m c) (next r (h, spells, c))) in
        s.2 ∙ ap (λ x. 1 + greatest (map (slice_index L) (refs x))) (one_head f F n s.0 h s.1 spells)
        ∙ ap (λ x. 1 + greatest x) (map-same (slice_index L) (slice_index M) (refs h) a)
        ∙ sym (t.2 ∙ ap (λ x. 1 + greatest (map (slice_index M) (refs x))) (one_head f F n t.0 h t.1 spells))

  -- ---- heights that are the least on what is reached are valid
  pub least_valid : (H : List ℕ) → IsFrame f F → length H ≡ F.objects → HaveRoom f F (IsVouchedBy H) → StandLeast f F H → ((n : ℕ) → IsVouchedBy H n → Reach f F n)
      → ((n : ℕ) → Reach f F n → (c : Content) → Spells f F n c → HasKeys f F c) → IsValid f F H
  least_valid H frame len room least reached keys = record {
    frame = frame;
    count = len;
    room = room;
    top = let t = least F.top.0 top in omega (arith, t.2);
    vouched = λ n vo.
        let r = reached n vo in
        let s = least n r in
        record {
          content = s.0;
          spells = s.1;
          lower = all_from _ (refs s.0) (λ m c.
              let l = all_at _ (refs s.0) m (le-greatest (slice_index H) (refs s.0)) c in
              (omega (arith, (least m (next r (s.0, s.1, c))).2), omega (arith, l, s.2)));
          keys = keys n r s.0 s.1;
        };
  }
