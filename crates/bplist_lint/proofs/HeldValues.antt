-- A file holds a value exactly if it is well formed.
use Rattle.std.proofs.Common.{ℕ, List, [], ◌∷◌, ◌++◌, subst, Contains}
use Rattle.std.specs.List.{AllByRecursion, AllZip}
use Rattle.bplist_objects.specs.declared.frame.Frame.{Frame}
use Rattle.bplist_objects.specs.Value.{Leaf, text, Value, leaf, array, set, dict, Values, no_values, value, Pairs, no_pairs, pair, keys}
use Rattle.bplist_objects.specs.Heads.{Content, Spells, refs}
use Rattle.bplist_objects.specs.Holds.{Holds, HoldEach, HoldPairs}
use Rattle.bplist_objects.specs.File.{FileHolds}
use Rattle.bplist_objects.specs.Reach.{Refs, Reach, top, next, Founded, founded}
use Rattle.bplist_objects.proofs.Lists.{all_at, all_append, all_from, none_in}
use Rattle.bplist_objects.proofs.Fronts.{one_head}
use Rattle.bplist_cert.specs.Valid.{SpellsText, HasKeys}
use Rattle.bplist_cert.proofs.VouchedObjects.{Held, from_content}
use Rattle.bplist_lint.specs.WellFormed.{IsWellFormed}

module _ (f : List ℕ) (F : Frame) where
  -- an object that spells a content with keys, whose references are such objects too
  pub data Sound : ℕ → Type 0 where
    sound : {n : ℕ} (c : Content) → Spells f F n c → HasKeys f F c → ((m : ℕ) → Contains (refs c) m → Sound m) → Sound n

  leaf_sound : (n : ℕ) (l : Leaf) → Spells f F n (Content.leaf l) → Sound n
  leaf_sound n l s = sound (Content.leaf l) s tt (λ m c. absurd (none_in m c))

  mutual
    pub holds_sound : (v : Value) (n : ℕ) → Holds f F n v → Sound n
    holds_sound (leaf l) n s = leaf_sound n l s
    holds_sound (array vs) n s = sound (Content.array s.0) s.1 tt (λ m c. all_at Sound s.0 m (each_sound vs s.0 s.2) c)
    holds_sound (set vs) n s = sound (Content.set s.0) s.1 tt (λ m c. all_at Sound s.0 m (each_sound vs s.0 s.2) c)
    holds_sound (dict ps) n s =
        let r = pairs_sound ps s.0 s.1 s.3 in
        sound (Content.dict s.0 s.1) s.2 (keys ps, (r.0, s.4)) (λ m c. all_at Sound (s.0 ++ s.1) m (all_append Sound s.0 s.1 r.1 r.2) c)

    pub each_sound : (vs : Values) (ms : List ℕ) → HoldEach f F ms vs → AllByRecursion Sound ms
    each_sound no_values [] s = tt
    each_sound (value v vs) (m ∷ ms) s = (holds_sound v m s.0, each_sound vs ms s.1)
    each_sound _ _ s = absurd s

    pub pairs_sound : (ps : Pairs) (ks ms : List ℕ) → HoldPairs f F ks ms ps → AllZip (SpellsText f F) ks (keys ps) × AllByRecursion Sound ks × AllByRecursion Sound ms
    pairs_sound no_pairs [] [] s = (tt, tt, tt)
    pairs_sound no_pairs (k ∷ ks) [] s = absurd s
    pairs_sound (pair u v ps) [] [] s = absurd s
    pairs_sound (pair u v ps) (k ∷ ks) (m ∷ ms) s =
        let r = pairs_sound ps ks ms s.2 in
        ((s.0, r.0), (leaf_sound k (text u) s.0, r.1), (holds_sound v m s.1, r.2))
    pairs_sound _ _ _ s = absurd s

  -- a sound object holds a value
  pub sound_held : (n : ℕ) → Sound n → Held f F n
  sound_held n (sound c s u each) = from_content f F c n s (all_from (Held f F) (refs c) (λ m i. sound_held m (each m i))) u

  sound_founded : (n : ℕ) → Sound n → Founded f F n
  sound_founded n (sound c s u each) = founded c s (λ m i. sound_founded m (each m i))

  sound_refs : (n m : ℕ) → Sound n → Refs f F n m → Sound m
  sound_refs n m (sound c s u each) r = each m (subst (λ x. Contains (refs x) m) (one_head f F n r.0 c r.1 s) r.2)

  reach_sound : Sound F.top.0 → (n : ℕ) → Reach f F n → Sound n
  reach_sound s n top = s
  reach_sound s n (next {n = k} r e) = sound_refs k n (reach_sound s k r) e

  sound_content : (n : ℕ) → Sound n → (c : Content) × Spells f F n c × HasKeys f F c
  sound_content n (sound c s u each) = (c, s, u)

  -- a founded object that is reached is sound, if the reached objects have good keys
  pub founded_sound : ((n : ℕ) → Reach f F n → (c : Content) × Spells f F n c × HasKeys f F c) → (n : ℕ) → Founded f F n → Reach f F n → Sound n
  founded_sound contents n (founded c s each) r =
      let p = contents n r in
      sound c s (subst (HasKeys f F) (one_head f F n p.0 c p.1 s) p.2) (λ m i. founded_sound contents m (each m i) (next r (c, s, i)))

-- a file holds a value exactly if it is well formed
pub holds_formed : (f : List ℕ) (v : Value) → FileHolds f v → (F : Frame) × IsWellFormed f F
holds_formed f v h =
    let F = h.frame in
    let s = holds_sound f F v F.top.0 h.holds in
    (F, record { frame = h.is; contents = λ n r. sound_content f F n (reach_sound f F s n r); room = h.room; founded = sound_founded f F F.top.0 s })

pub formed_holds : (f : List ℕ) (F : Frame) → IsWellFormed f F → (v : Value) × FileHolds f v
formed_holds f F w =
    let v = sound_held f F F.top.0 (founded_sound f F w.contents F.top.0 w.founded top) in
    (v.0, record { frame = F; is = w.frame; holds = v.1; room = w.room })
