-- Fingerprints of texts: numbers that are compared before the units. Source: profile.
use Rattle.std.specs.Prelude.{◌≡◌, ℕ, ◌+◌, ◌*◌, ◌/◌, ◌^◌, ◌%◌, ◌<◌, Bool, List, Option, All, Contains, MatchOption, length, fold, slice_index, take}
use Rattle.bplist_objects.specs.declared.frame.Frame.{Frame}
use Rattle.bplist_keys.specs.Marks.{IsMarked}
use Rattle.bplist_keys.specs.Texts.{HasTextShape, text_units}

-- a fingerprint with one more unit added
abbrev pub mix : ℕ → ℕ → ℕ
mix x u = (x * 16777619 % 2 ^ 32 + u) % 2 ^ 32

-- the fingerprint of units: their number, with each of the first 128 added
abbrev pub fingerprint : List ℕ → ℕ
fingerprint us = fold mix (length us % 2 ^ 32) (take 128 us)

-- the fingerprint of object m times 2^32, plus m
abbrev pub print : List ℕ → Frame → ℕ → ℕ
print f F m = fingerprint (text_units f F m) * 2 ^ 32 + m

-- this number is the print of an object that is named and a text by marker and count
abbrev pub IsPrint : List ℕ → Frame → List Bool → ℕ → Type 0
IsPrint f F named p = (m : ℕ) × (m < 2 ^ 32) × (IsMarked named m × HasTextShape f F m) × (p ≡ print f F m)

-- object m has this fingerprint if it is a text by marker and count, and none otherwise
abbrev pub HasPrint : List ℕ → Frame → ℕ → Option ℕ → Type 0
HasPrint f F m found =
    MatchOption found (HasTextShape f F m → ⊥) (λ x. HasTextShape f F m × (x ≡ fingerprint (text_units f F m)))

-- the list has the print of each object below n that is named and a text by marker and count, and no other number
pub record ArePrints (f : List ℕ) (F : Frame) (named : List Bool) (n : ℕ) (prints : List ℕ) : Type 0 where
  pub only : All (IsPrint f F named) prints
  pub all : (m : ℕ) → m < n → IsMarked named m × HasTextShape f F m → Contains prints (print f F m)

-- no other print of the list has the fingerprint of print k
abbrev pub IsAlone : List ℕ → ℕ → Type 0
IsAlone prints k = (j : ℕ) → j < length prints → slice_index prints j / 2 ^ 32 ≡ slice_index prints k / 2 ^ 32 → j ≡ k

-- the marks of some objects, whose fingerprints no others have, were moved
pub record AreSingle (prints : List ℕ) (before after single : List Bool) : Type 0 where
  pub all : length after ≡ length before
  pub marks : length single ≡ length before
  pub alone : (m : ℕ) → IsMarked single m → (k : ℕ) × (k < length prints) × (slice_index prints k % 2 ^ 32 ≡ m) × IsAlone prints k
  pub gone : (m : ℕ) → IsMarked single m → IsMarked after m → ⊥
  pub kept : (m : ℕ) → (IsMarked single m → ⊥) → IsMarked before m → IsMarked after m
  pub only : (m : ℕ) → IsMarked after m → IsMarked before m

-- the marked objects have different numbers above 0, and all others have 0
pub record AreNumberedApart (marks : List Bool) (numbers : List ℕ) : Type 0 where
  pub given : (m : ℕ) → IsMarked marks m → 0 < slice_index numbers m
  pub only : (m : ℕ) → 0 < slice_index numbers m → IsMarked marks m
  pub apart : (a b : ℕ) → 0 < slice_index numbers a → slice_index numbers a ≡ slice_index numbers b → a ≡ b
