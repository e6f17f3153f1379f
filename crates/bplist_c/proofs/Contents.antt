-- The units that the head of a text spells, and that any other head spells.
use Rattle.std.proofs.Common.{arith, ◌≡◌, ◌≤◌, ◌^◌, ℕ, zero, suc, List, Result, Ok, Err, refl}
use Rattle.bplist_octets.specs.Octets.{part}
use Rattle.bplist_objects.specs.declared.frame.Frame.{Frame}
use Rattle.bplist_objects.specs.declared.head.Kind.{Kind}
use Rattle.bplist_objects.specs.declared.head.Kind.TheVariants as kinds
use Rattle.bplist_objects.specs.Announced.{MayCount}
use Rattle.bplist_objects.specs.Heads.{content_of}
use Rattle.bplist_objects.specs.Units.{IsTextKind, units_at}
use Rattle.bplist_c.specs.Objects.{units_answer}
use Rattle.bplist_c.specs.Utf8.{Utf8Says, IsUtf8Of}
use Rattle.bplist_c.specs.declared.status.Status.{Status}
use Rattle.bplist_c.specs.declared.status.Status.TheVariants as statuses

-- a power of two that is small
few_width : (n w : ℕ) → w ≤ 3 → n ≡ 2 ^ w → (1 ≤ n) × (n ≤ 8)
few_width n zero h e = (omega (arith, e), omega (arith, e))
few_width n (suc zero) h e = (omega (arith, e), omega (arith, e))
few_width n (suc (suc zero)) h e = (omega (arith, e), omega (arith, e))
few_width n (suc (suc (suc zero))) h e = (omega (arith, e), omega (arith, e))
few_width n (suc (suc (suc (suc w)))) h e = absurd (omega arith)

-- the kinds of numbers with a point
abbrev pub IsNumberKind : Kind → Type 0
IsNumberKind kind = elim kind [ kinds.Real ↦ Unit {0} | kinds.Date ↦ Unit {0} | _ ↦ ⊥ ]

-- these have at most 8 bytes
pub number_count : (kind : Kind) (count : ℕ) → IsNumberKind kind → MayCount kind count → (1 ≤ count) × (count ≤ 8)
number_count kinds.Real count number (front, (w, low, high, e, is)) = few_width count w high e
number_count kinds.Date count number (front, (e, is)) = (omega (arith, e), omega (arith, e))
number_count _ count number may = absurd number

module _ (f : List ℕ) (F : Frame) where
  pub is_text : (from room : ℕ) (kind : Kind) (count body : ℕ) → IsTextKind kind
      → Ok (part (units_at f kind count body) from room) ≡ units_answer from room (content_of f F kind count body)
  is_text from room kinds.Ascii count body text = refl
  is_text from room kinds.Wide count body text = refl
  is_text from room _ count body text = absurd text

  pub no_text : (from room : ℕ) (kind : Kind) (count body : ℕ) → (kind ≡ kinds.Ascii → ⊥) → (kind ≡ kinds.Wide → ⊥)
      → Err statuses.OtherKind ≡ units_answer from room (content_of f F kind count body)
  no_text from room kinds.Ascii count body ascii wide = absurd (ascii refl)
  no_text from room kinds.Wide count body ascii wide = absurd (wide refl)
  no_text from room _ count body ascii wide = refl

  pub is_utf8 : (kind : Kind) (count body : ℕ) (answer : Result (List ℕ) Status) → IsTextKind kind → IsUtf8Of (units_at f kind count body) answer
      → Utf8Says (content_of f F kind count body) answer
  is_utf8 kinds.Ascii count body answer text says = says
  is_utf8 kinds.Wide count body answer text says = says
  is_utf8 _ count body answer text says = absurd text

  pub no_utf8 : (kind : Kind) (count body : ℕ) → (kind ≡ kinds.Ascii → ⊥) → (kind ≡ kinds.Wide → ⊥)
      → Utf8Says (content_of f F kind count body) (Err statuses.OtherKind)
  no_utf8 kinds.Ascii count body ascii wide = absurd (ascii refl)
  no_utf8 kinds.Wide count body ascii wide = absurd (wide refl)
  no_utf8 _ count body ascii wide = refl
