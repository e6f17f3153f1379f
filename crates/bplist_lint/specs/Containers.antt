-- The heights that a quick pass over the containers finds. Source: profile.
use Rattle.std.specs.Prelude.{◌≡◌, ℕ, ◌+◌, ◌<◌, Bool, List, length, map, slice_index, None}
use Rattle.bplist_objects.specs.declared.frame.Frame.{Frame}
use Rattle.bplist_objects.specs.Reach.{Reach}
use Rattle.bplist_objects.specs.Spelled.{refs_at}
use Rattle.bplist_keys.specs.Marks.{IsMarked}
use Rattle.bplist_keys.specs.Ranks.{AreClasses}
use Rattle.bplist_cert.specs.KeyRepeats.{HasGoodKeys}
use Rattle.bplist_cert.specs.Valid.{IsVouchedBy}
use Rattle.bplist_lint.specs.declared.graph.View.TheVariants as views
use Rattle.bplist_lint.specs.Graph.{AreLeast, Least, greatest}
use Rattle.bplist_lint.specs.ReachWalk.{AreNamed, IsWalked}
use Rattle.bplist_lint.specs.ReferenceGraph.{refs_in}
use Rattle.bplist_lint.specs.declared.walk.Reached.{Reached}

-- each of these objects has a height, and this is the greatest, or 0 if there are none
pub record AreMeasured (heights objects : List ℕ) (best : ℕ) : Type 0 where
  pub each : (i : ℕ) → i < length objects → 0 < slice_index heights (slice_index objects i)
  pub most : best ≡ greatest (map (λ m. slice_index heights m) objects)

-- the values of object n have heights, and this height is one more than the greatest
abbrev pub HasHeight : List ℕ → Frame → List ℕ → ℕ → ℕ → Type 0
HasHeight f F heights n height = (best : ℕ) × AreMeasured heights (refs_in views.Values f F n) best × (height ≡ best + 1)

-- the marked objects have good keys and, over their values, these least heights
pub record AreFinished (f : List ℕ) (F : Frame) (marks : List Bool) (heights : List ℕ) : Type 0 where
  pub good : (n : ℕ) → Reach f F n → HasGoodKeys f F None n
  pub vouched : (n : ℕ) → 0 < slice_index heights n → IsMarked marks n × Least (refs_in views.Values f F) n (slice_index heights n)
  pub all : (n : ℕ) → IsMarked marks n → 0 < slice_index heights n

-- what is known of the reached objects before their keys are compared: they keep rules 14 to 20 and 31, and the texts
-- that they name as keys have these numbers
pub record IsNumbered (f : List ℕ) (F : Frame) (reached : Reached) (numbers : List ℕ) : Type 0 where
  pub walked : IsWalked f F reached
  pub named : List Bool
  pub all : AreNamed f F named
  pub classes : AreClasses f F named numbers

-- these are least heights of the objects, and the top has one
abbrev pub AreFound : List ℕ → Frame → List ℕ → Type 0
AreFound f F heights = AreLeast (refs_at f F) F.top.0 heights × IsVouchedBy heights F.top.0
