-- The value that an object holds, by induction on the value. Source: the format comment of CFBinaryPList.c; that keys
-- are texts and differ is profile.
use Rattle.std.specs.Prelude.{◌≢◌, ℕ, List, [], ◌∷◌, ⊤}
use Rattle.std.specs.List.{AllPairs}
use Rattle.bplist_objects.specs.declared.frame.Frame.{Frame}
use Rattle.bplist_objects.specs.Value.{Value, leaf, array, set, dict, Values, no_values, value, Pairs, no_pairs, pair, keys, text}
use Rattle.bplist_objects.specs.Heads.{Content, Spells}

-- the members are distinct
abbrev pub AreDistinct : {X : Type 0} → List X → Type 0
AreDistinct xs = AllPairs (λ x y. x ≢ y) xs

module _ (f : List ℕ) (F : Frame) where
  abbrev mutual
    -- object n holds this value: it spells the leaf, or its references hold the members; keys are different texts
    pub Holds : ℕ → Value → Type 0
    Holds n (leaf l) = Spells f F n (Content.leaf l)
    Holds n (array vs) = (ms : List ℕ) × Spells f F n (Content.array ms) × HoldEach ms vs
    Holds n (set vs) = (ms : List ℕ) × Spells f F n (Content.set ms) × HoldEach ms vs
    Holds n (dict ps) =
        (ks ms : List ℕ) × Spells f F n (Content.dict ks ms) × HoldPairs ks ms ps × AreDistinct (keys ps)

    -- each object holds the value at its index
    pub HoldEach : List ℕ → Values → Type 0
    HoldEach [] no_values = ⊤
    HoldEach (m ∷ ms) (value v vs) = Holds m v × HoldEach ms vs
    HoldEach _ _ = ⊥

    -- the first objects spell the keys, and the second ones hold the values
    pub HoldPairs : List ℕ → List ℕ → Pairs → Type 0
    HoldPairs [] [] no_pairs = ⊤
    HoldPairs (k ∷ ks) (m ∷ ms) (pair u v ps) =
        Spells f F k (Content.leaf (text u)) × Holds m v × HoldPairs ks ms ps
    HoldPairs _ _ _ = ⊥
