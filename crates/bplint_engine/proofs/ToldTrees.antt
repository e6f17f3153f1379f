-- Values whose recursive listings have the same lines are the same.
use Rattle.std.proofs.Common.{◌≡◌, ◌<◌, ◌+◌, ◌*◌, ◌⊎◌, inl, inr, ℕ, List, [], ◌∷◌, ◌++◌, Bool, true, false, cond, ◌||◌, nat_eq, slice_index, length, drop, refl, sym, ap, ◌∙◌, arith, append_assoc}
use Rattle.std.specs.Prelude.{codes, if◌then◌else◌}
use Rattle.std.specs.Char.Utf16.{has_unpaired_surrogate}
use Rattle.std.specs.List.{AllByRecursion, list_any}
use Rattle.std.proofs.lemmas.List.{append_cancel_left, append_cancel_right}
use Rattle.hex.specs.Hex.{IsBytes}
use Rattle.bplist_objects.specs.Value.{Leaf, null, boolean, int, real, date, bytes, text, uid, Value, leaf, array, set, dict, Values, no_values, value, Pairs, no_pairs, pair, keys}
use Rattle.bplist_objects.specs.declared.frame.Frame.{Frame}
use Rattle.bplist_objects.specs.Frame.{IsFrame}
use Rattle.bplist_objects.specs.Holds.{Holds}
use Rattle.bplist_cursor.specs.Members.{members}
use Rattle.bplist_cursor.specs.Replies.{face}
use Rattle.bplist_cursor.specs.Texts.{text_of_bytes}
use Rattle.bplint_lines.specs.MemberNames.{bracketed, index_name, key_name, unshown_name}
use Rattle.bplint_lines.specs.OutputLines.{face_line}
use Rattle.bplint_lines.specs.Texts.{is_unshown}
use Rattle.bplint_lines.specs.declared.texts.Style.TheVariants.{Utf8}
use Rattle.bplint_engine.specs.Ls.{named_line}
use Rattle.bplint_engine.specs.Told.{HasShownKeys, IsShownKey}
use Rattle.bplint_engine.specs.Tree.{array_lines, dict_lines, set_lines, tree_lines}
use Rattle.bplint_engine.proofs.ToldTexts.{AreShown as AreUnitsShown, AreUnits, decimal_tells, hex_tells, key_bytes, key_tells, signed_tells, utf8_tells}
use Rattle.bplint_engine.proofs.ToldValues.{ArePairsShown, AreShown, IsLeafOfFile, IsShown, held_shown}

-- ---- the kind of a value, by the first word of its line
abbrev code : ℕ → ℕ → ℕ → ℕ
code a b c = 65536 * a + 256 * b + c

-- three bytes of the word; `false` counts as `true`
abbrev word : List ℕ → ℕ
word l = cond (nat_eq (slice_index l 0) 102) (code 116 114 101) (code (slice_index l 0) (slice_index l 1) (slice_index l 3))

number : Value → ℕ
number (leaf null) = code 110 117 108
number (leaf (boolean b)) = code 116 114 101
number (leaf (int i)) = code 105 110 32
number (leaf (real l)) = code 114 101 108
number (leaf (date l)) = code 100 97 101
number (leaf (bytes l)) = code 100 97 97
number (leaf (text us)) = code 116 101 116
number (leaf (uid x)) = code 117 105 32
number (array vs) = code 97 114 97
number (set vs) = code 115 101 32
number (dict ps) = code 100 105 116

word_is : (v : Value) → word (face_line Utf8 (face v)) ≡ number v
unfolding number
word_is (leaf null) = refl
word_is (leaf (boolean true)) = refl
word_is (leaf (boolean false)) = refl
word_is (leaf (int i)) = refl
word_is (leaf (real l)) = refl
word_is (leaf (date l)) = refl
word_is (leaf (bytes l)) = refl
word_is (leaf (text us)) = refl
word_is (leaf (uid x)) = refl
word_is (array vs) = refl
word_is (set vs) = refl
word_is (dict ps) = refl

-- ---- a value's own line
-- values of one kind, with the same leaf or the same count
abbrev pub HaveOneFace : Value → Value → Type 0
HaveOneFace (leaf l) (leaf m) = l ≡ m
HaveOneFace (array vs) (array ws) = length (members vs) ≡ length (members ws)
HaveOneFace (set vs) (set ws) = length (members vs) ≡ length (members ws)
HaveOneFace (dict ps) (dict qs) = length (keys ps) ≡ length (keys qs)
HaveOneFace _ _ = ⊥

abbrev SameLine : Value → Value → Type 0
SameLine v w = face_line Utf8 (face v) ≡ face_line Utf8 (face w)

same_kind : (v w : Value) → SameLine v w → number v ≡ number w
same_kind v w e = sym (word_is v) ∙ ap (λ l. word l) e ∙ word_is w

data_tells : (l m : List ℕ) → IsLeafOfFile (bytes l) → IsLeafOfFile (bytes m) → text_of_bytes l ≡ text_of_bytes m → l ≡ m
data_tells l m a b e = hex_tells l m a b (append_cancel_right _ _ (0x3E ∷ []) (ap (drop 1) e))

boolean_tells : (b c : Bool) → SameLine (leaf (boolean b)) (leaf (boolean c)) → b ≡ c
boolean_tells true true e = refl
boolean_tells false false e = refl
boolean_tells true false e = cc e
boolean_tells false true e = cc e

-- no leaf has the word of a container
leaf_apart : (l : Leaf) (n : ℕ) → (n ≡ code 97 114 97) ⊎ ((n ≡ code 115 101 32) ⊎ (n ≡ code 100 105 116)) → n ≡ number (leaf l) → ⊥
unfolding number
leaf_apart null n h k = omega (arith, h, k)
leaf_apart (boolean b) n h k = omega (arith, h, k)
leaf_apart (int i) n h k = omega (arith, h, k)
leaf_apart (real l) n h k = omega (arith, h, k)
leaf_apart (date l) n h k = omega (arith, h, k)
leaf_apart (bytes l) n h k = omega (arith, h, k)
leaf_apart (text us) n h k = omega (arith, h, k)
leaf_apart (uid x) n h k = omega (arith, h, k)

face_tells : (v w : Value) → IsShown v → IsShown w → SameLine v w → number v ≡ number w → HaveOneFace v w
unfolding number
face_tells (leaf null) (leaf null) a b e k = refl
face_tells (leaf null) _ a b e k = absurd (omega (arith, k))
face_tells (leaf (boolean x)) (leaf (boolean y)) a b e k = ap boolean (boolean_tells x y e)
face_tells (leaf (boolean x)) _ a b e k = absurd (omega (arith, k))
face_tells (leaf (int i)) (leaf (int j)) a b e k = ap int (signed_tells i j a b (ap (drop 4) e))
face_tells (leaf (int i)) _ a b e k = absurd (omega (arith, k))
face_tells (leaf (real l)) (leaf (real m)) a b e k = ap real (hex_tells l m a b (ap (drop 5) e))
face_tells (leaf (real l)) _ a b e k = absurd (omega (arith, k))
face_tells (leaf (date l)) (leaf (date m)) a b e k = ap date (hex_tells l m a b (ap (drop 5) e))
face_tells (leaf (date l)) _ a b e k = absurd (omega (arith, k))
face_tells (leaf (bytes l)) (leaf (bytes m)) a b e k = ap bytes (data_tells l m a b (ap (drop 5) e))
face_tells (leaf (bytes l)) _ a b e k = absurd (omega (arith, k))
face_tells (leaf (text us)) (leaf (text vs)) a b e k = ap text (utf8_tells us vs a b (ap (drop 5) e))
face_tells (leaf (text us)) _ a b e k = absurd (omega (arith, k))
face_tells (leaf (uid x)) (leaf (uid y)) a b e k = ap uid (decimal_tells x y (omega (arith, a)) (omega (arith, b)) (ap (drop 4) e))
face_tells (leaf (uid x)) _ a b e k = absurd (omega (arith, k))
face_tells (array vs) (array ws) a b e k = decimal_tells _ _ (omega (arith, a.0)) (omega (arith, b.0)) (ap (drop 6) e)
face_tells (array vs) (leaf l) a b e k = absurd (leaf_apart l _ (inl refl) k)
face_tells (array vs) _ a b e k = absurd (omega (arith, k))
face_tells (set vs) (set ws) a b e k = decimal_tells _ _ (omega (arith, a.0)) (omega (arith, b.0)) (ap (drop 4) e)
face_tells (set vs) (leaf l) a b e k = absurd (leaf_apart l _ (inr (inl refl)) k)
face_tells (set vs) _ a b e k = absurd (omega (arith, k))
face_tells (dict ps) (dict qs) a b e k = decimal_tells _ _ (omega (arith, a.0)) (omega (arith, b.0)) (ap (drop 5) e)
face_tells (dict ps) (leaf l) a b e k = absurd (leaf_apart l _ (inr (inr refl)) k)
face_tells (dict ps) _ a b e k = absurd (omega (arith, k))

line_tells : (name : List ℕ) (v w : Value) → IsShown v → IsShown w → named_line Utf8 name v ≡ named_line Utf8 name w → HaveOneFace v w
line_tells name v w a b e =
    let line = λ (x : Value). face_line Utf8 (face x) ++ codes "\n" in
    let same : SameLine v w = append_cancel_right _ _ (codes "\n") (append_cancel_left (name ++ codes "\t") (line v) (line w) e) in
    face_tells v w a b same (same_kind v w same)

-- ---- the first line of a listing
abbrev rest_of : List ℕ → Value → List (List ℕ)
rest_of name v = drop 1 (tree_lines Utf8 name v)

first_line : (name : List ℕ) (v : Value) → tree_lines Utf8 name v ≡ named_line Utf8 name v ∷ rest_of name v
first_line name (leaf l) = refl
first_line name (array vs) = refl
first_line name (set vs) = refl
first_line name (dict ps) = refl

same_first : (name name' : List ℕ) (v w : Value) (r s : List (List ℕ)) → tree_lines Utf8 name v ++ r ≡ tree_lines Utf8 name' w ++ s → named_line Utf8 name v ≡ named_line Utf8 name' w
same_first name name' v w r s e = cc (sym (ap (λ l. l ++ r) (first_line name v)) ∙ e ∙ ap (λ l. l ++ s) (first_line name' w))

-- ---- names of keys
neither : (b c : Bool) → (b || c) ≡ false → (b ≡ false) × (c ≡ false)
neither false false h = (refl, refl)
neither false true h = absurd (cc h)
neither true c h = absurd (cc h)

shown_units : (us : List ℕ) → AreUnits us → list_any is_unshown us ≡ false → AllByRecursion (λ u. (u < 65536) × (is_unshown u ≡ false)) us
shown_units [] a h = tt
shown_units (u ∷ us) a h = let k = neither (is_unshown u) (list_any is_unshown us) h in ((a.0, k.0), shown_units us a.1 k.1)

key_shown : (us : List ℕ) → AreUnits us → IsShownKey us → AreUnitsShown us
key_shown us a k = let h = neither (list_any is_unshown us) (has_unpaired_surrogate us) k in (shown_units us a h.0, h.1)

name_is : (name : List ℕ) (i : ℕ) (us : List ℕ) → IsShownKey us → key_name Utf8 name i us ≡ name ++ codes "/" ++ key_bytes us
name_is name i us k = ap (λ t. if t then unshown_name Utf8 i us else name ++ codes "/" ++ key_bytes us) k

-- a key's line tells the key
name_tells : (name : List ℕ) (i : ℕ) (us vs : List ℕ) (v w : Value) → AreUnits us → AreUnits vs → IsShownKey us → IsShownKey vs
    → named_line Utf8 (key_name Utf8 name i us) v ≡ named_line Utf8 (key_name Utf8 name i vs) w → us ≡ vs
name_tells name i us vs v w x y a b e =
    let keys = append_cancel_left (name ++ codes "/") (key_bytes us ++ behind v) (key_bytes vs ++ behind w) (sym (lead us v a) ∙ e ∙ lead vs w b) in
    (key_tells us vs _ _ (key_shown us x a) (key_shown vs y b) keys).0
  where
    behind : Value → List ℕ
    behind x = codes "\t" ++ (face_line Utf8 (face x) ++ codes "\n")

    lead : (ks : List ℕ) (x : Value) → IsShownKey ks → named_line Utf8 (key_name Utf8 name i ks) x ≡ name ++ codes "/" ++ (key_bytes ks ++ behind x)
    lead ks x k =
        ap (λ l. named_line Utf8 l x) (name_is name i ks k)
        ∙ append_assoc (name ++ codes "/" ++ key_bytes ks) (codes "\t") (face_line Utf8 (face x) ++ codes "\n")
        ∙ append_assoc (name ++ codes "/") (key_bytes ks) (behind x)

-- ---- the values
-- a list of lines in two parts
split : {X : Type 0} (xs ys r : List X) → (xs ++ ys) ++ r ≡ xs ++ (ys ++ r)
split xs ys r = append_assoc xs ys r

mutual
  -- a value and what follows it can be told from their lines
  pub value_tells : (v w : Value) (name : List ℕ) (r s : List (List ℕ)) → IsShown v → IsShown w → tree_lines Utf8 name v ++ r ≡ tree_lines Utf8 name w ++ s → (v ≡ w) × (r ≡ s)
  value_tells (leaf l) (leaf m) name r s a b e = (ap leaf (line_tells name (leaf l) (leaf m) a b (same_first name name (leaf l) (leaf m) r s e)), ap (drop 1) e)
  value_tells (array vs) (array ws) name r s a b e =
      let h = array_tells vs ws name 0 r s (line_tells name (array vs) (array ws) a b (same_first name name (array vs) (array ws) r s e)) a.1 b.1 (ap (drop 1) e) in
      (ap array h.0, h.1)
  value_tells (set vs) (set ws) name r s a b e =
      let h = set_tells vs ws 0 r s (line_tells name (set vs) (set ws) a b (same_first name name (set vs) (set ws) r s e)) a.1 b.1 (ap (drop 1) e) in
      (ap set h.0, h.1)
  value_tells (dict ps) (dict qs) name r s a b e =
      let h = pairs_tell ps qs name 0 r s (line_tells name (dict ps) (dict qs) a b (same_first name name (dict ps) (dict qs) r s e)) a.1 b.1 (ap (drop 1) e) in
      (ap dict h.0, h.1)
  value_tells v w name r s a b e = absurd (line_tells name v w a b (same_first name name v w r s e))

  array_tells : (vs ws : Values) (name : List ℕ) (i : ℕ) (r s : List (List ℕ)) → length (members vs) ≡ length (members ws) → AreShown vs → AreShown ws
      → array_lines Utf8 name i vs ++ r ≡ array_lines Utf8 name i ws ++ s → (vs ≡ ws) × (r ≡ s)
  array_tells no_values no_values name i r s many a b e = (refl, e)
  array_tells no_values (value w ws) name i r s many a b e = absurd (omega (arith, many))
  array_tells (value v vs) no_values name i r s many a b e = absurd (omega (arith, many))
  array_tells (value v vs) (value w ws) name i r s many a b e =
      let here = index_name name i in
      let h = value_tells v w here _ _ a.0 b.0 (sym (split (tree_lines Utf8 here v) (array_lines Utf8 name (i + 1) vs) r) ∙ e ∙ split (tree_lines Utf8 here w) (array_lines Utf8 name (i + 1) ws) s) in
      let k = array_tells vs ws name (i + 1) r s (omega (arith, many)) a.1 b.1 h.1 in
      ((λ j. value (h.0 j) (k.0 j)), k.1)

  set_tells : (vs ws : Values) (i : ℕ) (r s : List (List ℕ)) → length (members vs) ≡ length (members ws) → AreShown vs → AreShown ws
      → set_lines Utf8 i vs ++ r ≡ set_lines Utf8 i ws ++ s → (vs ≡ ws) × (r ≡ s)
  set_tells no_values no_values i r s many a b e = (refl, e)
  set_tells no_values (value w ws) i r s many a b e = absurd (omega (arith, many))
  set_tells (value v vs) no_values i r s many a b e = absurd (omega (arith, many))
  set_tells (value v vs) (value w ws) i r s many a b e =
      let here = bracketed i in
      let h = value_tells v w here _ _ a.0 b.0 (sym (split (tree_lines Utf8 here v) (set_lines Utf8 (i + 1) vs) r) ∙ e ∙ split (tree_lines Utf8 here w) (set_lines Utf8 (i + 1) ws) s) in
      let k = set_tells vs ws (i + 1) r s (omega (arith, many)) a.1 b.1 h.1 in
      ((λ j. value (h.0 j) (k.0 j)), k.1)

  pairs_tell : (ps qs : Pairs) (name : List ℕ) (i : ℕ) (r s : List (List ℕ)) → length (keys ps) ≡ length (keys qs) → ArePairsShown ps → ArePairsShown qs
      → dict_lines Utf8 name i ps ++ r ≡ dict_lines Utf8 name i qs ++ s → (ps ≡ qs) × (r ≡ s)
  pairs_tell no_pairs no_pairs name i r s many a b e = (refl, e)
  pairs_tell no_pairs (pair u w qs) name i r s many a b e = absurd (omega (arith, many))
  pairs_tell (pair u v ps) no_pairs name i r s many a b e = absurd (omega (arith, many))
  pairs_tell (pair u v ps) (pair x w qs) name i r s many a b e =
      let here = key_name Utf8 name i u in
      let there = key_name Utf8 name i x in
      let lines = sym (split (tree_lines Utf8 here v) (dict_lines Utf8 name (i + 1) ps) r) ∙ e ∙ split (tree_lines Utf8 there w) (dict_lines Utf8 name (i + 1) qs) s in
      let same : u ≡ x = name_tells name i u x v w a.0 b.0 a.1 b.1 (same_first here there v w _ _ lines) in
      let h = value_tells v w here _ _ a.2 b.2 (lines ∙ ap (λ k. tree_lines Utf8 (key_name Utf8 name i k) w ++ (dict_lines Utf8 name (i + 1) qs ++ s)) (sym same)) in
      let k = pairs_tell ps qs name (i + 1) r s (omega (arith, many)) a.3 b.3 h.1 in
      ((λ j. pair (same j) (h.0 j) (k.0 j)), k.1)

-- values of files whose listings have the same lines are the same
pub listings_tell : (f g : List ℕ) (F G : Frame) (m n : ℕ) (v w : Value) (name : List ℕ) → IsBytes f → IsBytes g → IsFrame f F → IsFrame g G
    → Holds f F m v → Holds g G n w → HasShownKeys v → HasShownKeys w → tree_lines Utf8 name v ≡ tree_lines Utf8 name w → v ≡ w
listings_tell f g F G m n v w name x y is is' h h' k k' e =
    (value_tells v w name [] [] (held_shown f F x is v m h k) (held_shown g G y is' w n h' k') (ap (λ l. l ++ []) e)).0
