-- The reference taken for a step names an object that holds what the step leads to.
use Rattle.std.proofs.Common.{◌≡◌, ◌≢◌, ℕ, zero, suc, ◌<◌, ◌+◌, ◌^◌, List, [], ◌∷◌, length, slice_index, Bool, true, false, cond, Option, Some, None, Ok, ok_or, refl, sym, ap, ◌∙◌, subst, arith, Contains}
use Rattle.std.specs.Prelude.{option_map}
use Rattle.std.specs.List.{find, enumerate_from}
use Rattle.std.specs.Str.{bytes_eq}
use Rattle.std.specs.Fmt.{decimal}
use Rattle.std.proofs.lemmas.Fmt.{decimal_injective}
use Rattle.std.proofs.lemmas.Slice.Eq.{bytes_eq-Decides}
use Rattle.bplist_objects.specs.declared.frame.Frame.{Frame}
use Rattle.bplist_objects.specs.Value.{text, Value, leaf, array, set, dict, Values, no_values, value, Pairs, no_pairs, pair, keys}
use Rattle.bplist_objects.specs.Heads.{Content, Spells, refs}
use Rattle.bplist_objects.specs.Holds.{Holds, HoldEach, HoldPairs, AreDistinct}
use Rattle.bplist_objects.proofs.Lists.{distinct_rest}
use Rattle.bplist_cursor.specs.Look.{stepped}
use Rattle.bplist_cursor.specs.Members.{members, entries}
use Rattle.bplist_cursor.specs.declared.node.Why.{Why}
use Rattle.bplist_cursor.specs.declared.node.Why.TheVariants as why
use Rattle.bplist_cursor.specs.Leads.{IsTaken, LeadTo}
use Rattle.bplist_objects.proofs.ObjectValues.{OneHead}
use Rattle.bplist_cursor.proofs.Counts.{pair_counts}

-- a test that is not true is false
pub not_true : (b : Bool) → (b ≡ true → ⊥) → b ≡ false
not_true true h = absurd (h refl)
not_true false h = refl

same_is : (u s : List ℕ) → u ≡ s → bytes_eq u s ≡ true
same_is u s e = (bytes_eq-Decides u s).1 e

other_is : (u s : List ℕ) → u ≢ s → bytes_eq u s ≡ false
other_is u s h = not_true (bytes_eq u s) (λ e. h ((bytes_eq-Decides u s).0 e))

-- the value of the first key with these units
abbrev pub value_at : List ℕ → Pairs → Option Value
value_at s ps = option_map (λ e. e.1) (find (λ e. bytes_eq e.0 s) (entries ps))

-- the member at the index that these units spell, if the first has this index
abbrev pub member_at : List ℕ → ℕ → Values → Option Value
member_at s i vs = option_map (λ e. e.1) (find (λ e. bytes_eq (decimal e.0) s) (enumerate_from i (members vs)))

-- the value of the key with one more pair, by the test of its key
abbrev value_by : List ℕ → Value → List ℕ → Pairs → Bool → Option Value
value_by u v s ps b = option_map (λ e. e.1) (cond b (Some (u, v)) (find (λ e. bytes_eq e.0 s) (entries ps)))

-- the member at the index with one more member, by the test of its index
abbrev member_by : ℕ → Value → List ℕ → Values → Bool → Option Value
member_by i v s vs b = option_map (λ e. e.1) (cond b (Some (i, v)) (find (λ e. bytes_eq (decimal e.0) s) (enumerate_from (i + 1) (members vs))))

module _ (f : List ℕ) (F : Frame) (one : OneHead f F) where
  abbrev Gives : Option Value → ℕ → Type 0
  Gives o m = (w : Value) × (o ≡ Some w) × Holds f F m w

  key_there : (ps : Pairs) (ks ms : List ℕ) (s : List ℕ) → HoldPairs f F ks ms ps → (i : ℕ) → i < length ks → Spells f F (slice_index ks i) (Content.leaf (text s)) → Contains (keys ps) s
  key_there (pair u v ps) (k ∷ ks) (m ∷ ms) s h zero l sp = let e : u ≡ s = cc (one k _ _ h.0 sp) in (0, omega arith, e)
  key_there (pair u v ps) (k ∷ ks) (m ∷ ms) s h (suc i) l sp =
      let c = key_there ps ks ms s h.2 i (omega arith) sp in
      (suc c.0, omega (arith, c.1), c.2)
  key_there ps ks ms s h i l sp = absurd (let c = pair_counts f F ks ms ps h in omega (arith, c.0, c.1, l))

  -- the value of a key whose object spells the step
  by_key : (ps : Pairs) (ks ms : List ℕ) (s : List ℕ) → HoldPairs f F ks ms ps → AreDistinct (keys ps) → (i : ℕ) → i < length ks → Spells f F (slice_index ks i) (Content.leaf (text s))
      → Gives (value_at s ps) (slice_index ms i)
  by_key (pair u v ps) (k ∷ ks) (m ∷ ms) s h d zero l sp =
      let e : u ≡ s = cc (one k _ _ h.0 sp) in
      (v, ap (value_by u v s ps) (same_is u s e), h.1)
  by_key (pair u v ps) (k ∷ ks) (m ∷ ms) s h d (suc i) l sp =
      let r = by_key ps ks ms s h.2 (distinct_rest u (keys ps) d) i (omega arith) sp in
      let c = key_there ps ks ms s h.2 i (omega arith) sp in
      let ne : u ≢ s = λ e. d 0 (suc c.0) s (omega arith) (omega (arith, c.1)) (e ∙ sym c.2) in
      (r.0, ap (value_by u v s ps) (other_is u s ne) ∙ r.1, r.2)
  by_key ps ks ms s h d i l sp = absurd (let c = pair_counts f F ks ms ps h in omega (arith, c.0, c.1, l))

  -- the member whose place the step spells; j is the place of the first
  by_place : (vs : Values) (ms : List ℕ) (s : List ℕ) (j : ℕ) → HoldEach f F ms vs → j + length ms < 2 ^ 64 → (i : ℕ) → i < length ms → decimal (j + i) ≡ s → Gives (member_at s j vs) (slice_index ms i)
  by_place no_values [] s j h b i l e = absurd (omega arith)
  by_place (value v vs) (m ∷ ms) s j h b zero l e =
      let z : j ≡ j + 0 = omega arith in
      (v, ap (member_by j v s vs) (same_is (decimal j) s (ap decimal z ∙ e)), h.0)
  by_place (value v vs) (m ∷ ms) s j h b (suc i) l e =
      let z : j + 1 + i ≡ j + suc i = omega arith in
      let r = by_place vs ms s (j + 1) h.1 (omega arith) i (omega arith) (ap decimal z ∙ e) in
      let ne : decimal j ≢ s = λ d. let q = decimal_injective j (j + suc i) (omega arith) (omega arith) (d ∙ sym e) in omega arith in
      (r.0, ap (member_by j v s vs) (other_is (decimal j) s ne) ∙ r.1, r.2)
  by_place _ _ _ _ h _ _ _ _ = absurd h

  -- the object of the reference taken for a step holds what the step leads to
  pub leads_held : (v : Value) (n : ℕ) (s : List ℕ) (m : ℕ) → Holds f F n v → ((h : Content) → Spells f F n h → length (refs h) < 2 ^ 64) → LeadTo f F n (s ∷ []) m → (w : Value) × (stepped v s ≡ Ok w) × Holds f F m w
  leads_held (leaf l) n s m h b e = absurd (subst (λ x. IsTaken f F x s e.1) (one n e.0 _ e.2 h) e.3)
  leads_held (array vs) n s m h b e =
      let t = subst (λ x. IsTaken f F x s e.1) (one n e.0 _ e.2 h.1) e.3 in
      let z : 0 + t.0 ≡ t.0 = omega arith in
      let r = by_place vs h.0 s 0 h.2 (omega (arith, b _ h.1)) t.0 t.1 (ap decimal z ∙ t.2) in
      (r.0, ap (λ o. ok_or o why.NoIndex) r.1, subst (λ k. Holds f F k r.0) (t.3 ∙ e.4) r.2)
  leads_held (set vs) n s m h b e = absurd (subst (λ x. IsTaken f F x s e.1) (one n e.0 _ e.2 h.1) e.3)
  leads_held (dict ps) n s m h b e =
      let t = subst (λ x. IsTaken f F x s e.1) (one n e.0 _ e.2 h.2) e.3 in
      let r = by_key ps h.0 h.1 s h.3 h.4 t.0 t.1 t.2 in
      (r.0, ap (λ o. ok_or o why.NoKey) r.1, subst (λ k. Holds f F k r.0) (t.3 ∙ e.4) r.2)

  -- ---- the other way round: if a step goes on, it takes a reference
  from_key : (ps : Pairs) (ks ms : List ℕ) (s : List ℕ) (w : Value) → HoldPairs f F ks ms ps → value_at s ps ≡ Some w → (i : ℕ) × (i < length ks) × Spells f F (slice_index ks i) (Content.leaf (text s)) × Holds f F (slice_index ms i) w
  from_key no_pairs ks ms s w h e = cc e
  from_key (pair u v ps) (k ∷ ks) (m ∷ ms) s w h e = go (from_key ps ks ms s w h.2) (bytes_eq u s) refl
    where
      go : (value_at s ps ≡ Some w → (i : ℕ) × (i < length ks) × Spells f F (slice_index ks i) (Content.leaf (text s)) × Holds f F (slice_index ms i) w) → (b : Bool) → bytes_eq u s ≡ b → (i : ℕ) × (i < length (k ∷ ks)) × Spells f F (slice_index (k ∷ ks) i) (Content.leaf (text s)) × Holds f F (slice_index (m ∷ ms) i) w
      go again true t =
          let us : u ≡ s = (bytes_eq-Decides u s).0 t in
          let vw : v ≡ w = cc (ap (value_by u v s ps) (sym t) ∙ e) in
          (0, omega arith, subst (λ x. Spells f F k (Content.leaf (text x))) us h.0, subst (λ x. Holds f F m x) vw h.1)
      go again false t =
          let r = again (ap (value_by u v s ps) (sym t) ∙ e) in
          (suc r.0, omega (arith, r.1), r.2, r.3)
  from_key ps ks ms s w h e = absurd (let c = pair_counts f F ks ms ps h in omega (arith, c.0, c.1))

  from_place : (vs : Values) (ms : List ℕ) (s : List ℕ) (j : ℕ) (w : Value) → HoldEach f F ms vs → member_at s j vs ≡ Some w → (i : ℕ) × (i < length ms) × (decimal (j + i) ≡ s) × Holds f F (slice_index ms i) w
  from_place no_values ms s j w h e = cc e
  from_place (value v vs) [] s j w h e = absurd h
  from_place (value v vs) (m ∷ ms) s j w h e = go (from_place vs ms s (j + 1) w h.1) (bytes_eq (decimal j) s) refl
    where
      go : (member_at s (j + 1) vs ≡ Some w → (i : ℕ) × (i < length ms) × (decimal (j + 1 + i) ≡ s) × Holds f F (slice_index ms i) w) → (b : Bool) → bytes_eq (decimal j) s ≡ b → (i : ℕ) × (i < length (m ∷ ms)) × (decimal (j + i) ≡ s) × Holds f F (slice_index (m ∷ ms) i) w
      go again true t =
          let z : j + 0 ≡ j = omega arith in
          let vw : v ≡ w = cc (ap (member_by j v s vs) (sym t) ∙ e) in
          (0, omega arith, ap decimal z ∙ (bytes_eq-Decides (decimal j) s).0 t, subst (λ x. Holds f F m x) vw h.0)
      go again false t =
          let r = again (ap (member_by j v s vs) (sym t) ∙ e) in
          let z : j + suc r.0 ≡ j + 1 + r.0 = omega arith in
          (suc r.0, omega (arith, r.1), ap decimal z ∙ r.2, r.3)

  ok_or_is : {X : Type 0} (o : Option X) (y : Why) (w : X) → ok_or o y ≡ Ok w → o ≡ Some w
  ok_or_is None y w e = cc e
  ok_or_is (Some x) y w e = cc e

  pub step_leads : (v : Value) (n : ℕ) (s : List ℕ) (w : Value) → Holds f F n v → stepped v s ≡ Ok w → (m : ℕ) × LeadTo f F n (s ∷ []) m × Holds f F m w
  step_leads (leaf l) n s w h e = cc e
  step_leads (array vs) n s w h e =
      let r = from_place vs h.0 s 0 w h.2 (ok_or_is _ why.NoIndex w e) in
      let z : r.0 ≡ 0 + r.0 = omega arith in
      (slice_index h.0 r.0, (Content.array h.0, slice_index h.0 r.0, h.1, (r.0, r.1, ap decimal z ∙ r.2, refl), refl), r.3)
  step_leads (set vs) n s w h e = cc e
  step_leads (dict ps) n s w h e =
      let r = from_key ps h.0 h.1 s w h.3 (ok_or_is _ why.NoKey w e) in
      (slice_index h.1 r.0, (Content.dict h.0 h.1, slice_index h.1 r.0, h.2, (r.0, r.1, r.2, refl), refl), r.3)
