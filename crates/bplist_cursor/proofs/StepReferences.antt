-- What the value of an object says about its references, and about the steps that take none of them.
use Rattle.std.proofs.Common.{arith, ◌≡◌, ◌<◌, ℕ, zero, suc, length, List, ◌∷◌, ◌++◌, slice_index, Option, Some, None, Ok, Err, ok_or, refl, sym, ap, ◌∙◌, subst, Contains}
use Rattle.std.proofs.lemmas.List.Elements.{Contains-append_left, Contains-append_right, Contains-get_or}
use Rattle.bplist_objects.specs.declared.frame.Frame.{Frame}
use Rattle.bplist_objects.specs.Value.{text, Value, leaf, array, set, dict, Pairs, pair}
use Rattle.bplist_objects.specs.Heads.{Content, Spells, refs}
use Rattle.bplist_objects.specs.Holds.{Holds, HoldPairs}
use Rattle.bplist_objects.proofs.ProperLeaves.{refs_below}
use Rattle.bplist_objects.proofs.Fronts.{one_head}
use Rattle.bplist_objects.proofs.Lists.{all_at}
use Rattle.bplist_cursor.specs.declared.node.Why.{Why}
use Rattle.bplist_cursor.specs.declared.node.Why.TheVariants as why
use Rattle.bplist_cursor.specs.Look.{stepped}
use Rattle.bplist_cursor.specs.Leads.{IsTaken, HasTextKeys, why_of}
use Rattle.bplist_cursor.proofs.Counts.{pair_counts}
use Rattle.bplist_cursor.proofs.StepObjects.{value_at, member_at, step_leads}

not_some : (o : Option Value) (y : Why) → ((w : Value) → ok_or o y ≡ Ok w → ⊥) → ok_or o y ≡ Err y
not_some None y h = refl
not_some (Some w) y h = absurd (h w refl)

module _ (f : List ℕ) (F : Frame) where
  text_at : (ps : Pairs) (ks ms : List ℕ) (i : ℕ) → HoldPairs f F ks ms ps → i < length ks → (u : List ℕ) × Spells f F (slice_index ks i) (Content.leaf (text u))
  text_at (pair u v ps) (k ∷ ks) (m ∷ ms) zero h l = (u, h.0)
  text_at (pair u v ps) (k ∷ ks) (m ∷ ms) (suc i) h l = text_at ps ks ms i h.2 (omega arith)
  text_at ps ks ms i h l = absurd (let c = pair_counts f F ks ms ps h in omega (arith, c.0, c.1, l))

  -- an object that holds a value spells something, and the keys of a dictionary are texts
  pub content_of_value : (v : Value) (n : ℕ) → Holds f F n v → (c : Content) × Spells f F n c × HasTextKeys f F c
  content_of_value (leaf l) n h = (Content.leaf l, h, tt)
  content_of_value (array vs) n h = (Content.array h.0, h.1, tt)
  content_of_value (set vs) n h = (Content.set h.0, h.1, tt)
  content_of_value (dict ps) n h = (Content.dict h.0 h.1, h.2, λ i l. (all_at (λ m. m < F.objects) (h.0 ++ h.1) (slice_index h.0 i) (refs_below f F n (Content.dict h.0 h.1) h.2) (Contains-append_left h.0 h.1 (slice_index h.0 i) (Contains-get_or h.0 i 0 l)), text_at ps h.0 h.1 i h.3 l))

  -- a step that takes no reference can't be taken
  pub not_taken : (v : Value) (n : ℕ) (s : List ℕ) (c : Content) → Holds f F n v → Spells f F n c → ((m : ℕ) → IsTaken f F c s m → ⊥) → stepped v s ≡ Err (why_of c)
  not_taken (leaf l) n s c h sp none = ap (λ x. Err (why_of x)) (one_head f F n _ _ h sp)
  not_taken (set vs) n s c h sp none = ap (λ x. Err (why_of x)) (one_head f F n _ _ h.1 sp)
  not_taken (array vs) n s c h sp none =
      not_some (member_at s 0 vs) why.NoIndex
      (λ w e. let r = step_leads f F (one_head f F) (array vs) n s w h e in none r.1.1 (subst (λ x. IsTaken f F x s r.1.1) (one_head f F n _ _ r.1.2 sp) r.1.3))
      ∙ ap (λ x. Err (why_of x)) (one_head f F n _ _ h.1 sp)
  not_taken (dict ps) n s c h sp none =
      not_some (value_at s ps) why.NoKey
      (λ w e. let r = step_leads f F (one_head f F) (dict ps) n s w h e in none r.1.1 (subst (λ x. IsTaken f F x s r.1.1) (one_head f F n _ _ r.1.2 sp) r.1.3))
      ∙ ap (λ x. Err (why_of x)) (one_head f F n _ _ h.2 sp)

  -- the reference that is taken is one of the object's
  pub taken_there : (v : Value) (n : ℕ) (s : List ℕ) (m : ℕ) → Holds f F n v → (c : Content) → Spells f F n c → IsTaken f F c s m → Contains (refs c) m
  taken_there (leaf l) n s m h c sp t = absurd (subst (λ x. IsTaken f F x s m) (one_head f F n _ _ sp h) t)
  taken_there (set vs) n s m h c sp t = absurd (subst (λ x. IsTaken f F x s m) (one_head f F n _ _ sp h.1) t)
  taken_there (array vs) n s m h c sp t =
      let is = one_head f F n _ _ sp h.1 in
      let u = subst (λ x. IsTaken f F x s m) is t in
      subst (λ x. Contains (refs x) m) (sym is) (subst (Contains h.0) u.3 (Contains-get_or h.0 u.0 0 u.1))
  taken_there (dict ps) n s m h c sp t =
      let is = one_head f F n _ _ sp h.2 in
      let u = subst (λ x. IsTaken f F x s m) is t in
      let e = (pair_counts f F h.0 h.1 ps h.3).1 in
      subst (λ x. Contains (refs x) m) (sym is) (Contains-append_right h.0 h.1 m (subst (Contains h.1) u.3 (Contains-get_or h.1 u.0 0 (omega (arith, e, u.1)))))

  pub taken_below : (v : Value) (n : ℕ) (s : List ℕ) (m : ℕ) → Holds f F n v → (c : Content) → Spells f F n c → IsTaken f F c s m → m < F.objects
  taken_below v n s m h c sp t = all_at (λ m. m < F.objects) (refs c) m (refs_below f F n c sp) (taken_there v n s m h c sp t)
