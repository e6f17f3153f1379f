-- Running sums of extents.
use Rattle.std.proofs.Common.{◌≡◌, ℕ, zero, suc, ◌<◌, ◌≤◌, ◌+◌, ◌-◌, ◌⊎◌, inl, inr, List, [], ◌∷◌, refl, sym, ap, ◌∙◌, subst, arith, Contains}
use Rattle.std.specs.List.{AllByRecursion}
use Rattle.std.proofs.lemmas.Bool.{cases_lt}
use Rattle.bplist_objects.specs.declared.frame.Frame.{Frame}
use Rattle.bplist_objects.specs.declared.head.Head.{Head}
use Rattle.bplist_objects.specs.Frame.{off}
use Rattle.bplist_objects.specs.Heads.{HasShape}
use Rattle.bplist_objects.specs.Holds.{AreDistinct}
use Rattle.bplist_objects.specs.Extents.{TakeOctets, TakeAtMost, Sums, HaveRoom, IsOverfull}
use Rattle.bplist_objects.specs.Markers.{markers_of}
use Rattle.bplist_objects.proofs.AnnouncedHeads.{announced_short}
use Rattle.bplist_objects.proofs.HeadLaws.{head_parts}
use Rattle.bplist_objects.proofs.Fronts.{one_shape}
use Rattle.bplist_objects.proofs.Lists.{all_weaker, all_at, all_from, distinct_none, distinct_head, distinct_rest, distinct_more}

module _ (f : List ℕ) (F : Frame) where
  -- object n takes e bytes, from its place to its end
  abbrev pub HasExtent : ℕ → ℕ → Type 0
  HasExtent n e = (head : Head) × HasShape f F n head × (head.end ≡ off f F n + e)

  -- an object has one extent
  pub extent_one : (n e e' : ℕ) → HasExtent n e → HasExtent n e' → e ≡ e'
  extent_one n e e' h h' =
      let s = ap (λ (x : Head). x.end) (one_shape f F n h.0 h'.0 h.1 h'.1) in
      omega (arith, h.2, h'.2, s)

  -- an object with a head takes the bytes between its place and the head's end
  pub shape_extent : (n : ℕ) (head : Head) → HasShape f F n head → HasExtent n (head.«end» - off f F n)
  shape_extent n head h =
      let parts = head_parts f F n head h.has in
      (head, h, omega (arith, (announced_short f (off f F n) (markers_of head.kind) head.count head.body parts.0).0, parts.1))

  -- a part of the objects has room too
  pub room_weaker : (S T : ℕ → Type 0) → ((n : ℕ) → T n → S n) → HaveRoom f F S → HaveRoom f F T
  room_weaker S T h room ns r d a t = room ns r d (all_weaker T S h ns a) t

  -- a list of objects of S up to n, without n
  record Left (S : ℕ → Type 0) (n e : ℕ) (ns : List ℕ) (t : ℕ) : Type 0 where
    rest : List ℕ
    sum : ℕ
    differ : AreDistinct rest
    below : AllByRecursion (λ m. S m × (m < n)) rest
    take : TakeOctets f F rest sum
    most : t ≤ e + sum
    part : (m : ℕ) → Contains rest m → Contains ns m

  later : (x m : ℕ) (xs : List ℕ) → Contains xs m → Contains (x ∷ xs) m
  later x m xs c = (suc c.0, omega (arith, c.1), c.2)

  first_or_later : (x m : ℕ) (xs : List ℕ) → Contains (x ∷ xs) m → (x ≡ m) ⊎ Contains xs m
  first_or_later x m xs (zero, l, e) = inl e
  first_or_later x m xs (suc i, l, e) = inr (i, omega (arith, l), e)

  left : (S : ℕ → Type 0) (n e : ℕ) → HasExtent n e → (ns : List ℕ) (t : ℕ) → AreDistinct ns → AllByRecursion (λ m. S m × (m < suc n)) ns → TakeOctets f F ns t → Left S n e ns t
  left S n e h [] t d a w = record { rest = []; sum = 0; differ = distinct_none; below = tt; take = refl; most = omega (arith, w); part = λ m c. c }
  left S n e h (x ∷ xs) t d a w = go (left S n e h xs w.1 (distinct_rest x xs d) a.1 w.3) (cases_lt x n)
    where
      go : Left S n e xs w.1 → (x < n) ⊎ (n ≤ x) → Left S n e (x ∷ xs) t
      go l (inl lt) = record {
        rest = x ∷ l.rest;
        sum = w.0 + l.sum;
        differ = distinct_more x l.rest (λ c. distinct_head x xs d (l.part x c)) l.differ;
        below = ((a.0.0, lt), l.below);
        take = (w.0, l.sum, w.2, l.take, refl);
        most = omega (arith, w.4, l.most);
        part = λ m c. by m c (first_or_later x m l.rest c);
      }
        where
          by : (m : ℕ) → Contains (x ∷ l.rest) m → (x ≡ m) ⊎ Contains l.rest m → Contains (x ∷ xs) m
          by m c (inl q) = (0, omega arith, q)
          by m c (inr q) = later x m xs (l.part m q)
      go l (inr le) =
          let xn : x ≡ n = omega (arith, a.0.1) in
          let same : w.0 ≡ e = extent_one n w.0 e (subst (λ y. HasExtent y w.0) xn w.2) h in
          record {
            rest = xs;
            sum = w.1;
            differ = distinct_rest x xs d;
            below = all_from _ xs (λ m c.
                let p = all_at _ xs m a.1 c in
                let ne : m ≡ n → ⊥ = λ q. distinct_head x xs d (subst (Contains xs) (q ∙ sym xn) c) in
                (p.0, omega (arith, p.1, ne)));
            take = w.3;
            most = omega (arith, w.4, same);
            part = λ m c. later x m xs c;
          }

  -- the steps of a running sum over the objects in order
  pub most_none : (S : ℕ → Type 0) → TakeAtMost f F (λ m. S m × (m < 0)) 0
  most_none S [] r d a t = omega (arith, t)
  most_none S (x ∷ xs) r d a t = absurd (omega (arith, a.0.1))

  pub most_more : (S : ℕ → Type 0) (n e t : ℕ) → HasExtent n e → TakeAtMost f F (λ m. S m × (m < n)) t → TakeAtMost f F (λ m. S m × (m < suc n)) (t + e)
  most_more S n e t h most ns r d a w =
      let l = left S n e h ns r d a w in
      let b = most l.rest l.sum l.differ l.below l.take in
      omega (arith, l.most, b)

  most_same : (S : ℕ → Type 0) (n t : ℕ) → (S n → ⊥) → TakeAtMost f F (λ m. S m × (m < n)) t → TakeAtMost f F (λ m. S m × (m < suc n)) t
  most_same S n t no1 most ns r d a w =
      most ns r d (all_from _ ns (λ m c.
      let p = all_at _ ns m a c in
      let ne : m ≡ n → ⊥ = λ q. no1 (subst S q p.0) in
      (p.0, omega (arith, p.1, ne)))) w

  module _ (S : ℕ → Type 0) where
    pub sums_none : Sums f F S 0 0
    sums_none = record { objects = []; differ = distinct_none; inside = tt; take_all = refl; most = most_none S }

    pub sums_more : (n e t : ℕ) → S n → HasExtent n e → Sums f F S n t → Sums f F S (suc n) (t + e)
    sums_more n e t on extent s = record {
      objects = n ∷ s.objects;
      differ = distinct_more n s.objects (λ c. let l = (all_at _ s.objects n s.inside c).1 in omega arith) s.differ;
      inside = ((on, omega arith), all_weaker _ _ (λ m k. (k.0, let l = k.1 in omega arith)) s.objects s.inside);
      take_all = (e, t, extent, s.take_all, omega arith);
      most = most_more S n e t extent s.most;
    }

    pub sums_same : (n t : ℕ) → (S n → ⊥) → Sums f F S n t → Sums f F S (suc n) t
    sums_same n t off_n s = record {
      objects = s.objects;
      differ = s.differ;
      inside = all_weaker _ _ (λ m k. (k.0, let l = k.1 in omega arith)) s.objects s.inside;
      take_all = s.take_all;
      most = most_same S n t off_n s.most;
    }

    -- rule 31 of an object by the sum up to it
    pub not_overfull : (n t : ℕ) → Sums f F S (suc n) t → t + 8 ≤ F.table → IsOverfull f F S n → ⊥
    not_overfull n t s room o =
        let most = s.most o.0 o.1 o.2 (all_weaker _ _ (λ m k. (k.0, let l = k.1 in omega arith)) o.0 o.3) o.4 in
        omega (arith, most, room, o.5)

    pub overfull : (n t : ℕ) → Sums f F S (suc n) t → F.table < t + 8 → IsOverfull f F S n
    overfull n t s full = (s.objects, t, s.differ, all_weaker _ _ (λ m k. (k.0, let l = k.1 in omega arith)) s.objects s.inside, s.take_all, full)
