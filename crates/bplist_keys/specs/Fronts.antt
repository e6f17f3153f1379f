-- Fronts of texts: numbers that are in the order of the texts, as far as they differ. Source: profile.
use Rattle.std.specs.Prelude.{◌≡◌, ℕ, ◌+◌, ◌*◌, ◌<◌, List, IsTrue, false, drop, slice_index}
use Rattle.bplist_keys.specs.declared.fronts.Fronts.{Fronts}

-- the first four units as one number, 0 for each that is missing
pub record IsWideFront (us : List ℕ) (n : ℕ) : Type 0 where
  pub is : n ≡ ((slice_index us 0 * 65536 + slice_index us 1) * 65536 + slice_index us 2) * 65536 + slice_index us 3
  pub first : slice_index us 0 < 65536
  pub second : slice_index us 1 < 65536
  pub third : slice_index us 2 < 65536
  pub fourth : slice_index us 3 < 65536

-- each unit fits into a byte
abbrev pub AreNarrow : List ℕ → Type 0
AreNarrow us = (i : ℕ) → slice_index us i < 256

-- four units from unit i on as one number, if each fits into a byte
abbrev pub narrow_half : List ℕ → ℕ → ℕ
narrow_half us i = ((slice_index us i * 256 + slice_index us (i + 1)) * 256 + slice_index us (i + 2)) * 256 + slice_index us (i + 3)

-- the text begins as `first` does, as far as all texts begin alike, and it is narrow if all texts are
pub record FitsFronts (first : List ℕ) (fronts : Fronts) (us : List ℕ) : Type 0 where
  pub shared : (i : ℕ) → i < fronts.shared → slice_index us i ≡ slice_index first i
  pub narrow : IsTrue fronts.narrow → AreNarrow us

-- the number has eight narrow units or four wide ones, of those behind the units that all texts begin with
pub record IsFront (first : List ℕ) (fronts : Fronts) (us : List ℕ) (n : ℕ) : Type 0 where
  pub fits : FitsFronts first fronts us
  pub narrow : IsTrue fronts.narrow → n ≡ narrow_half (drop fronts.shared us) 0 * 4294967296 + narrow_half (drop fronts.shared us) 4
  pub wide : fronts.narrow ≡ false → IsWideFront (drop fronts.shared us) n
