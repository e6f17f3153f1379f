-- What a walk finds out about each vouched object. Source: profile.
use Rattle.std.specs.Prelude.{◌≡◌, ℕ, ◌+◌, ◌<◌, List, None, length, slice_index}
use Rattle.bplist_objects.specs.declared.fault.Fault.{Fault}
use Rattle.bplist_objects.specs.declared.frame.Frame.{Frame}
use Rattle.bplist_objects.specs.declared.head.Head.{Head}
use Rattle.bplist_objects.specs.Frame.{off}
use Rattle.bplist_objects.specs.ObjectRules.{KeepsByObject, body_rules}
use Rattle.bplist_objects.specs.Rules.{KeepsAll}
use Rattle.bplist_cert.specs.declared.walk.Pass.{Pass}
use Rattle.bplist_cert.specs.declared.walk.Pass.TheVariants.{Quick, Exact}
use Rattle.bplist_cert.specs.Lists.{Lists, lists}
use Rattle.bplist_cert.specs.Heights.{AreLower}
use Rattle.bplist_cert.specs.Valid.{IsVouchedBy}
use Rattle.bplist_cert.specs.CheckRules.{KeepsRule, KeepBelow, KeepsCheck, IsCheckFault, rules_before_keys}

-- these are the places of the objects from a number on
abbrev pub ArePlaces : List ℕ → Frame → ℕ → List ℕ → Type 0
ArePlaces f F from places = (k : ℕ) → k < length places → slice_index places k ≡ off f F (from + k)

-- object n with this head keeps the rules of bodies and of heights
abbrev pub KeepsRest : List ℕ → Frame → List ℕ → ℕ → Head → Type 0
KeepsRest f F heights n head = KeepsAll (KeepsByObject f F n) body_rules × AreLower f F heights n head

-- vouched object n keeps the rules before those of keys
abbrev pub KeepsBeforeKeys : List ℕ → Frame → List ℕ → ℕ → Type 0
KeepsBeforeKeys f F heights n = KeepsAll (KeepsRule f F (IsVouchedBy heights) (lists heights None) n) rules_before_keys

-- each vouched object below n keeps the rules before those of keys
abbrev pub KeepBeforeKeysBelow : List ℕ → Frame → List ℕ → ℕ → Type 0
KeepBeforeKeysBelow f F heights n = KeepBelow f F (IsVouchedBy heights) (lists heights None) rules_before_keys n

module _ (f : List ℕ) (F : Frame) (certificate : Lists) where
  -- what a check of vouched object n without a fault shows
  abbrev pub IsShown : Pass → ℕ → Type 0
  IsShown Quick n = KeepsBeforeKeys f F certificate.heights n
  IsShown Exact n = KeepsCheck f F certificate n

  -- a check of vouched object n finds this fault: an exact check the first, a quick one any of the rules before
  -- those of keys
  abbrev pub IsShownFault : Pass → ℕ → Fault → Type 0
  IsShownFault Quick n fault = KeepsBeforeKeys f F certificate.heights n → ⊥
  IsShownFault Exact n fault = IsCheckFault f F certificate n fault
