-- When a file holds a value, said without the value. Source: profile.
use Rattle.std.specs.Prelude.{ℕ, List}
use Rattle.bplist_objects.specs.declared.frame.Frame.{Frame}
use Rattle.bplist_objects.specs.Frame.{IsFrame}
use Rattle.bplist_objects.specs.Heads.{Content, Spells}
use Rattle.bplist_objects.specs.Extents.{HaveRoom}
use Rattle.bplist_objects.specs.Reach.{Reach, Founded}
use Rattle.bplist_cert.specs.Valid.{HasKeys}

-- each reached object spells a content, keys are different texts, rule 31 is kept, and the top is founded
pub record IsWellFormed (f : List ℕ) (F : Frame) : Type 0 where
  pub frame : IsFrame f F
  pub contents : (n : ℕ) → Reach f F n → (c : Content) × Spells f F n c × HasKeys f F c
  pub room : HaveRoom f F (Reach f F)
  pub founded : Founded f F F.top.0
