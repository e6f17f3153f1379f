-- Heights that vouch for objects. Source: profile.
use Rattle.std.specs.Prelude.{◌≡◌, ℕ, ◌<◌, ◌≤◌, List, length, slice_index, ⊤}
use Rattle.std.specs.List.{AllByRecursion, AllZip}
use Rattle.bplist_objects.specs.declared.frame.Frame.{Frame}
use Rattle.bplist_objects.specs.Frame.{IsFrame}
use Rattle.bplist_objects.specs.Value.{Value, text}
use Rattle.bplist_objects.specs.Heads.{Content, leaf, dict, refs, Spells}
use Rattle.bplist_objects.specs.Extents.{HaveRoom}
use Rattle.bplist_objects.specs.Holds.{AreDistinct}
use Rattle.bplist_objects.specs.File.{FileHolds}

-- object n has a height of 1 or more: the certificate vouches for it
abbrev pub IsVouchedBy : List ℕ → ℕ → Type 0
IsVouchedBy heights n = 1 ≤ slice_index heights n

module _ (f : List ℕ) (F : Frame) where
  -- object n spells the text of these units
  abbrev pub SpellsText : ℕ → List ℕ → Type 0
  SpellsText n units = Spells f F n (leaf (text units))

  -- the keys of a dictionary are texts that differ: rules 21 and 22
  abbrev pub HasKeys : Content → Type 0
  HasKeys (dict ks ms) = (us : List (List ℕ)) × (AllZip SpellsText ks us × AreDistinct us)
  HasKeys content = ⊤

  -- what is true of an object with a height
  pub record IsVouched (heights : List ℕ) (n : ℕ) : Type 0 where
    pub content : Content
    pub spells : Spells f F n content
    pub lower : AllByRecursion (λ m. IsVouchedBy heights m × (slice_index heights m < slice_index heights n))
        (refs content)
    pub keys : HasKeys content

-- the heights are valid for a file with this frame
pub record IsValid (f : List ℕ) (F : Frame) (heights : List ℕ) : Type 0 where
  pub frame : IsFrame f F
  pub count : length heights ≡ F.objects
  pub top : IsVouchedBy heights F.top.0
  pub room : HaveRoom f F (IsVouchedBy heights)
  pub vouched : (n : ℕ) → IsVouchedBy heights n → IsVouched f F heights n

-- the file holds exactly one value
abbrev pub HoldsOneValue : List ℕ → Type 0
HoldsOneValue f = (value : Value) × FileHolds f value × ((w : Value) → FileHolds f w → w ≡ value)
