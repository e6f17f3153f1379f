-- An object holds at most one value.
use Rattle.std.proofs.Common.{◌≡◌, ℕ, List, [], ◌∷◌, refl, sym, ap, ap₂, ◌∙◌, subst}
use Rattle.bplist_objects.specs.declared.frame.Frame.{Frame}
use Rattle.bplist_objects.specs.Value.{Value, leaf, array, set, dict, Values, no_values, value, Pairs, no_pairs, pair}
use Rattle.bplist_objects.specs.Heads.{Content, Spells}
use Rattle.bplist_objects.specs.Heads as Heads
use Rattle.bplist_objects.specs.File.{FileHolds}
use Rattle.bplist_objects.proofs.Fronts.{one_head}
use Rattle.bplist_objects.specs.Holds.{Holds, HoldEach, HoldPairs}

-- an object spells at most one content
abbrev pub OneHead : List ℕ → Frame → Type 0
OneHead f F = (n : ℕ) (c d : Content) → Spells f F n c → Spells f F n d → c ≡ d

module _ (f : List ℕ) (F : Frame) (one : OneHead f F) where
  mutual
    pub holds_one : (v w : Value) (n : ℕ) → Holds f F n v → Holds f F n w → v ≡ w
    holds_one (leaf l) (leaf l') n s s' = cc (one n _ _ s s')
    holds_one (leaf l) (array ws) n s s' = cc (one n _ _ s s'.1)
    holds_one (leaf l) (set ws) n s s' = cc (one n _ _ s s'.1)
    holds_one (leaf l) (dict ws) n s s' = cc (one n _ _ s s'.2)
    holds_one (array vs) (leaf l) n s s' = cc (one n _ _ s.1 s')
    holds_one (array vs) (array ws) n s s' =
        let e : s'.0 ≡ s.0 = ap Heads.refs (one n _ _ s'.1 s.1) in
        ap array (each_one vs ws s.0 s.2 (subst (λ ms. HoldEach f F ms ws) e s'.2))
    holds_one (array vs) (set ws) n s s' = cc (one n _ _ s.1 s'.1)
    holds_one (array vs) (dict ws) n s s' = cc (one n _ _ s.1 s'.2)
    holds_one (set vs) (leaf l) n s s' = cc (one n _ _ s.1 s')
    holds_one (set vs) (array ws) n s s' = cc (one n _ _ s.1 s'.1)
    holds_one (set vs) (set ws) n s s' =
        let e : s'.0 ≡ s.0 = ap Heads.refs (one n _ _ s'.1 s.1) in
        ap set (each_one vs ws s.0 s.2 (subst (λ ms. HoldEach f F ms ws) e s'.2))
    holds_one (set vs) (dict ws) n s s' = cc (one n _ _ s.1 s'.2)
    holds_one (dict vs) (leaf l) n s s' = cc (one n _ _ s.2 s')
    holds_one (dict vs) (array ws) n s s' = cc (one n _ _ s.2 s'.1)
    holds_one (dict vs) (set ws) n s s' = cc (one n _ _ s.2 s'.1)
    holds_one (dict vs) (dict ws) n s s' =
        let h = one n _ _ s'.2 s.2 in
        let ek : s'.0 ≡ s.0 = cc h in
        let em : s'.1 ≡ s.1 = cc h in
        ap dict (pairs_one vs ws s.0 s.1 s.3 (rw ek at (rw em at s'.3)))

    pub each_one : (vs ws : Values) (ms : List ℕ) → HoldEach f F ms vs → HoldEach f F ms ws → vs ≡ ws
    each_one no_values no_values ms s s' = refl
    each_one no_values (value w ws) [] s s' = absurd s'
    each_one no_values (value w ws) (m ∷ ms) s s' = absurd s
    each_one (value v vs) no_values [] s s' = absurd s
    each_one (value v vs) no_values (m ∷ ms) s s' = absurd s'
    each_one (value v vs) (value w ws) [] s s' = absurd s
    each_one (value v vs) (value w ws) (m ∷ ms) s s' = ap₂ value (holds_one v w m s.0 s'.0) (each_one vs ws ms s.1 s'.1)

    pub pairs_one : (vs ws : Pairs) (ks ms : List ℕ) → HoldPairs f F ks ms vs → HoldPairs f F ks ms ws → vs ≡ ws
    pairs_one no_pairs no_pairs ks ms s s' = refl
    pairs_one no_pairs (pair u w ws) [] [] s s' = absurd s'
    pairs_one no_pairs (pair u w ws) [] (m ∷ ms) s s' = absurd s'
    pairs_one no_pairs (pair u w ws) (k ∷ ks) [] s s' = absurd s'
    pairs_one no_pairs (pair u w ws) (k ∷ ks) (m ∷ ms) s s' = absurd s
    pairs_one (pair u v vs) no_pairs [] [] s s' = absurd s
    pairs_one (pair u v vs) no_pairs [] (m ∷ ms) s s' = absurd s
    pairs_one (pair u v vs) no_pairs (k ∷ ks) [] s s' = absurd s
    pairs_one (pair u v vs) no_pairs (k ∷ ks) (m ∷ ms) s s' = absurd s'
    pairs_one (pair u v vs) (pair u' w ws) [] [] s s' = absurd s
    pairs_one (pair u v vs) (pair u' w ws) [] (m ∷ ms) s s' = absurd s
    pairs_one (pair u v vs) (pair u' w ws) (k ∷ ks) [] s s' = absurd s
    pairs_one (pair u v vs) (pair u' w ws) (k ∷ ks) (m ∷ ms) s s' =
        let eu : u ≡ u' = cc (one k _ _ s.0 s'.0) in
        let ev = holds_one v w m s.1 s'.1 in
        let es = pairs_one vs ws ks ms s.2 s'.2 in
        cc (eu, ev, es)

-- a file holds at most one value
pub one_value_of_file : (f : List ℕ) (v w : Value) → FileHolds f v → FileHolds f w → v ≡ w
one_value_of_file f v w h k =
    let e : k.frame ≡ h.frame = k.is.spelled ∙ sym h.is.spelled in
    holds_one f h.frame (one_head f h.frame) v w h.frame.top.0 h.holds (subst (λ F. Holds f F F.top.0 w) e k.holds)
