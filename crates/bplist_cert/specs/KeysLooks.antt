-- What the walk over the vouched objects finds out about the keys of dictionaries. Source: profile.
use Rattle.std.specs.Prelude.{◌≡◌, ℕ, ◌<◌, IsTrue, List, IfSome, MatchOption}
use Rattle.bplist_objects.specs.declared.frame.Frame.{Frame}
use Rattle.bplist_objects.specs.declared.head.Head.{Head}
use Rattle.bplist_objects.specs.declared.head.Kind.TheVariants.{Dict}
use Rattle.bplist_objects.specs.Announced.{HasHead}
use Rattle.bplist_cert.specs.declared.key_lists.KeyListFindings.{KeyListFindings}
use Rattle.bplist_cert.specs.declared.key_lists.KeyFindings.{KeyFindings}
use Rattle.bplist_cert.specs.Lists.{Keyed, Lists}
use Rattle.bplist_cert.specs.Valid.{IsVouchedBy}
use Rattle.bplist_cert.specs.CheckRules.{HasOrder}
use Rattle.bplist_cert.specs.KeyPairs.{AreKnown, HaveTextShapes}
use Rattle.bplist_cert.specs.Walks.{AreCollected}
use Rattle.bplist_cert.specs.LowBytes.{AreLowStretches}

-- if object n is a dictionary, its keys are texts by marker and count, and its key list has them in order
abbrev pub IsListed : List ℕ → Frame → Keyed → ℕ → Type 0
IsListed f F keyed n = (head : Head) → HasHead f F n head → head.kind ≡ Dict → HaveTextShapes f F head × HasOrder f F keyed n head

-- the caches that keys are looked up in are true of the file
abbrev pub AreLearnt : List ℕ → Frame → KeyListFindings → Type 0
AreLearnt f F look = AreKnown f F look.pairs × AreLowStretches f look.low.slots

-- the caches are true of the file, and if the walk found all key lists good, then those below a bound are
pub record HaveGoodLists (f : List ℕ) (F : Frame) (heights : List ℕ) (keyed : Keyed) (bound : ℕ) (look : KeyListFindings) : Type 0 where
  pub learnt : AreLearnt f F look
  pub good : IsTrue look.good → (n : ℕ) → n < bound → IsVouchedBy heights n → IsListed f F keyed n

-- version 2: the key lists of the vouched dictionaries below a bound are good, if the walk found so
abbrev pub AreListed : List ℕ → Frame → Lists → ℕ → KeyListFindings → Type 0
AreListed f F certificate bound look = IfSome certificate.keys (λ keyed. HaveGoodLists f F certificate.heights keyed bound look)

-- version 1: the keys of the vouched dictionaries below a bound are collected, unless none are; version 2: their key
-- lists are good, if the walk found so
abbrev pub AreSeen : List ℕ → Frame → Lists → ℕ → KeyFindings → Type 0
AreSeen f F certificate bound look =
    MatchOption certificate.keys (AreCollected f F certificate.heights bound look.named)
    (λ keyed. HaveGoodLists f F certificate.heights keyed bound look.lists)
