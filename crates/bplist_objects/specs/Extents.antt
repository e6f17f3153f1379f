-- The number of bytes that objects take together. Source: profile (rule 31); objects of the file format may overlap.
use Rattle.std.specs.Prelude.{◌≡◌, ℕ, ◌+◌, ◌<◌, ◌≤◌, List, [], ◌∷◌}
use Rattle.std.specs.List.{AllByRecursion}
use Rattle.bplist_objects.specs.declared.frame.Frame.{Frame}
use Rattle.bplist_objects.specs.declared.head.Head.{Head}
use Rattle.bplist_objects.specs.Frame.{off}
use Rattle.bplist_objects.specs.Heads.{HasShape}
use Rattle.bplist_objects.specs.Holds.{AreDistinct}

module _ (f : List ℕ) (F : Frame) where
  -- object n takes e bytes, from its offset to its end
  abbrev pub Takes : ℕ → ℕ → Type 0
  Takes n e = (head : Head) × HasShape f F n head × (head.end ≡ off f F n + e)

  -- together these objects take t bytes
  abbrev pub TakeOctets : List ℕ → ℕ → Type 0
  TakeOctets [] t = t ≡ 0
  TakeOctets (n ∷ ns) t = (e r : ℕ) × Takes n e × TakeOctets ns r × (t ≡ e + r)

  -- no distinct objects of S take more than t bytes together
  abbrev pub TakeAtMost : (ℕ → Type 0) → ℕ → Type 0
  TakeAtMost S t = (ns : List ℕ) (r : ℕ) → AreDistinct ns → AllByRecursion S ns → TakeOctets ns r → r ≤ t

  -- together the objects of S below n take t bytes
  pub record Sums (S : ℕ → Type 0) (n t : ℕ) : Type 0 where
    pub objects : List ℕ
    pub differ : AreDistinct objects
    pub inside : AllByRecursion (λ m. S m × (m < n)) objects
    pub take_all : TakeOctets objects t
    pub most : TakeAtMost (λ m. S m × (m < n)) t

  -- any distinct objects of S fit between the header and the table
  abbrev pub HaveRoom : (ℕ → Type 0) → Type 0
  HaveRoom S =
      (ns : List ℕ) (r : ℕ) → AreDistinct ns → AllByRecursion S ns → TakeOctets ns r → r + 8 ≤ F.table

  -- rule 31 is broken: the objects of S up to and including object n take too many bytes
  abbrev pub IsOverfull : (ℕ → Type 0) → ℕ → Type 0
  IsOverfull S n =
      (ns : List ℕ) × (r : ℕ) × AreDistinct ns × AllByRecursion (λ m. S m × (m ≤ n)) ns
      × TakeOctets ns r × (F.table < r + 8)
