-- What the body of a leaf means, by the kind of its head, so that the calls that read leaves return the value of the
-- definitions.
use Rattle.std.proofs.Common.{◌≡◌, ℕ, ◌≤◌, List, ℤ, refl}
use Rattle.bplist_octets.specs.Octets.{part}
use Rattle.bplist_objects.specs.declared.frame.Frame.{Frame}
use Rattle.bplist_objects.specs.declared.head.Kind.{Kind}
use Rattle.bplist_objects.specs.declared.head.Kind.TheVariants as kinds
use Rattle.bplist_objects.specs.Numbers.{integer, num_at}
use Rattle.bplist_objects.specs.Value.{Leaf, int, real, date, bytes, text, uid}
use Rattle.bplist_objects.specs.Heads.{Content, content_of, Spells}
use Rattle.bplist_objects.specs.Kinds.{IsLeafKind}
use Rattle.bplist_objects.specs.Units.{IsTextKind, units_at}

module _ (f : List ℕ) (F : Frame) where
  pub leaf_kind : (kind : Kind) (count body : ℕ) (l : Leaf) → Content.leaf l ≡ content_of f F kind count body → IsLeafKind kind
  leaf_kind kinds.Array count body l e = cc e
  leaf_kind kinds.Set count body l e = cc e
  leaf_kind kinds.Dict count body l e = cc e
  leaf_kind _ count body l e = refl

  pub int_value : (kind : Kind) (count body : ℕ) (i : ℤ) → Content.leaf (int i) ≡ content_of f F kind count body
      → (kind ≡ kinds.Int) × (i ≡ integer (part f body count))
  int_value kinds.Int count body i e = (refl, cc e)
  int_value _ count body i e = cc e

  pub real_value : (kind : Kind) (count body : ℕ) (l : List ℕ) → Content.leaf (real l) ≡ content_of f F kind count body
      → (kind ≡ kinds.Real) × (l ≡ part f body count)
  real_value kinds.Real count body l e = (refl, cc e)
  real_value _ count body l e = cc e

  pub date_value : (kind : Kind) (count body : ℕ) (l : List ℕ) → Content.leaf (date l) ≡ content_of f F kind count body
      → (kind ≡ kinds.Date) × (l ≡ part f body count)
  date_value kinds.Date count body l e = (refl, cc e)
  date_value _ count body l e = cc e

  pub bytes_value : (kind : Kind) (count body : ℕ) (l : List ℕ) → Content.leaf (bytes l) ≡ content_of f F kind count body
      → (kind ≡ kinds.Bytes) × (l ≡ part f body count)
  bytes_value kinds.Bytes count body l e = (refl, cc e)
  bytes_value _ count body l e = cc e

  pub uid_value : (kind : Kind) (count body x : ℕ) → Content.leaf (uid x) ≡ content_of f F kind count body
      → (kind ≡ kinds.Uid) × (x ≡ num_at f body count)
  uid_value kinds.Uid count body x e = (refl, cc e)
  uid_value _ count body x e = cc e

  pub text_value : (kind : Kind) (count body : ℕ) (us : List ℕ) → Content.leaf (text us) ≡ content_of f F kind count body
      → IsTextKind kind × (us ≡ units_at f kind count body)
  text_value kinds.Ascii count body us e = (tt, cc e)
  text_value kinds.Wide count body us e = (tt, cc e)
  text_value _ count body us e = cc e

  -- the body of a text means its units
  pub text_content : (kind : Kind) (count body : ℕ) → IsTextKind kind → content_of f F kind count body ≡ Content.leaf (text (units_at f kind count body))
  text_content kinds.Ascii count body t = refl
  text_content kinds.Wide count body t = refl
  text_content _ count body t = absurd t

  -- a UID that an object spells fits 32 bits, so its low 32 bits are all of it
  pub spelled_uid : (n x : ℕ) → Spells f F n (Content.leaf (uid x)) → x ≤ 4294967295
  spelled_uid n x s = s.uid x refl
