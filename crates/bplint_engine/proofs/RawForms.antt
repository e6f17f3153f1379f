-- The raw bytes of values, by the heads of their objects.
use Rattle.std.proofs.Common.{◌≡◌, ◌⊎◌, inl, inr, ℕ, List, Some, ap, refl, ◌∙◌, false}
use Rattle.std.specs.Prelude.{encode_utf8_all}
use Rattle.std.specs.Char.Utf16.{has_unpaired_surrogate, utf16_lossy_chars}
use Rattle.bplist_octets.specs.Octets.{part}
use Rattle.bplist_objects.specs.declared.frame.Frame.{Frame}
use Rattle.bplist_objects.specs.declared.head.Head.{Head}
use Rattle.bplist_objects.specs.declared.head.Kind.{Kind}
use Rattle.bplist_objects.specs.declared.head.Kind.TheVariants as kinds
use Rattle.bplist_objects.specs.Heads.{Content, Spells, content_at, content_of}
use Rattle.bplist_objects.specs.Holds.{Holds}
use Rattle.bplist_objects.specs.Numbers.{nums_at}
use Rattle.bplist_objects.specs.Units.{units_of}
use Rattle.bplist_objects.specs.Value.{Leaf, null, boolean, int, real, date, bytes, text, uid, Value, leaf, array, set, dict}
use Rattle.bplist_cursor.specs.Replies.{face}
use Rattle.bplint_engine.specs.Raw.{raw_bytes, raw_word, utf8_of_units}

module _ (f : List ℕ) (F : Frame) where
  bytes_kind : (kind : Kind) (count body : ℕ) (bs : List ℕ) → Content.leaf (bytes bs) ≡ content_of f F kind count body → kind ≡ kinds.Bytes
  bytes_kind kinds.Bytes count body bs e = refl
  bytes_kind _ count body bs e = cc e

  text_kind : (kind : Kind) (count body : ℕ) (us : List ℕ) → Content.leaf (text us) ≡ content_of f F kind count body → (kind ≡ kinds.Ascii) ⊎ (kind ≡ kinds.Wide)
  text_kind kinds.Ascii count body us e = inl refl
  text_kind kinds.Wide count body us e = inr refl
  text_kind _ count body us e = cc e

  module _ (head : Head) (n : ℕ) (is : (c : Content) → Spells f F n c → c ≡ content_at f F head) where
    leaf_is : (w : Value) (l : Leaf) → Holds f F n w → content_at f F head ≡ Content.leaf l → w ≡ leaf l
    leaf_is (leaf x) l h e = let same : Content.leaf x ≡ Content.leaf l = is (Content.leaf x) h ∙ e in let one : x ≡ l = cc same in ap leaf one
    leaf_is (array vs) l h e = let same : Content.array h.0 ≡ Content.leaf l = is (Content.array h.0) h.1 ∙ e in cc same
    leaf_is (set vs) l h e = let same : Content.set h.0 ≡ Content.leaf l = is (Content.set h.0) h.1 ∙ e in cc same
    leaf_is (dict ps) l h e = let same : Content.dict h.0 h.1 ≡ Content.leaf l = is (Content.dict h.0 h.1) h.2 ∙ e in cc same

    pub data_raw : (w : Value) → head.kind ≡ kinds.Bytes → Holds f F n w → raw_bytes w ≡ Some (part f head.body head.count)
    data_raw w kind h = ap raw_bytes (leaf_is w (bytes (part f head.body head.count)) h (ap (λ k. content_of f F k head.count head.body) kind))

    pub text_raw : (w : Value) → (head.kind ≡ kinds.Ascii) ⊎ (head.kind ≡ kinds.Wide) → Holds f F n w → raw_bytes w ≡ utf8_of_units (units_of f head)
    text_raw w (inl kind) h =
        ap raw_bytes (leaf_is w (text (part f head.body head.count)) h (ap (λ k. content_of f F k head.count head.body) kind)) ∙ rw kind refl
    text_raw w (inr kind) h =
        ap raw_bytes (leaf_is w (text (nums_at f head.body 2 head.count)) h (ap (λ k. content_of f F k head.count head.body) kind)) ∙ rw kind refl

    pub other_raw : (w : Value) → (head.kind ≡ kinds.Ascii → ⊥) → (head.kind ≡ kinds.Wide → ⊥) → (head.kind ≡ kinds.Bytes → ⊥) → Holds f F n w
        → raw_bytes w ≡ raw_word (face w)
    other_raw (leaf null) a w d h = refl
    other_raw (leaf (boolean b)) a w d h = refl
    other_raw (leaf (int i)) a w d h = refl
    other_raw (leaf (real l)) a w d h = refl
    other_raw (leaf (date l)) a w d h = refl
    other_raw (leaf (bytes l)) a w d h = absurd (d (bytes_kind head.kind head.count head.body l (is (Content.leaf (bytes l)) h)))
    other_raw (leaf (text us)) a w d h = elim (text_kind head.kind head.count head.body us (is (Content.leaf (text us)) h)) [ inl k ↦ absurd (a k) | inr k ↦ absurd (w k) ]
    other_raw (leaf (uid x)) a w d h = refl
    other_raw (array vs) a w d h = refl
    other_raw (set vs) a w d h = refl
    other_raw (dict ps) a w d h = refl

-- a text whose surrogates all have partners
pub paired_raw : (units : List ℕ) → has_unpaired_surrogate units ≡ false → utf8_of_units units ≡ Some (encode_utf8_all (utf16_lossy_chars units))
paired_raw units h = rw h refl
