-- The keys of vouched dictionaries that are known to keep the rules before those of keys. Source: profile.
use Rattle.std.specs.Prelude.{◌≡◌, ℕ, ◌<◌, Bool, List, length, Option}
use Rattle.bplist_objects.specs.declared.fault.Fault.{Fault}
use Rattle.bplist_objects.specs.declared.frame.Frame.{Frame}
use Rattle.bplist_objects.specs.declared.head.Head.{Head}
use Rattle.bplist_objects.specs.declared.head.Kind.TheVariants.{Dict}
use Rattle.bplist_objects.specs.Announced.{HasHead}
use Rattle.bplist_objects.specs.Rules.{KeepsAll}
use Rattle.bplist_objects.specs.ObjectRules.{KeepsByObject, object_rules}
use Rattle.bplist_objects.specs.Scan.{ref}
use Rattle.bplist_keys.specs.Classes.{HasNamedKeys, IsNamedBy}
use Rattle.bplist_cert.specs.Lists.{Keyed, Lists}
use Rattle.bplist_cert.specs.Valid.{IsVouchedBy}
use Rattle.bplist_cert.specs.DictKeys.{KeysAreTexts}
use Rattle.bplist_cert.specs.CheckRules.{KeepsLast, IsKeysFault}

-- each key of a dictionary with this head keeps rules 14 to 20, if it is an object
abbrev pub KeysAreSound : List ℕ → Frame → Head → Type 0
KeysAreSound f F head = (k : ℕ) → k < head.count → ref f F head k < F.objects → KeepsAll (KeepsByObject f F (ref f F head k)) object_rules

-- if object n is a dictionary, its keys keep the rules of keys
abbrev pub HasGoodKeys : List ℕ → Frame → Option Keyed → ℕ → Type 0
HasGoodKeys f F keys n =
    (head : Head) → HasHead f F n head → head.kind ≡ Dict → KeysAreTexts f F head head.count × KeepsLast f F keys n head

-- the keys of the vouched dictionaries below a bound keep the rules of keys
abbrev pub HaveGoodKeys : List ℕ → Frame → List ℕ → Option Keyed → ℕ → Type 0
HaveGoodKeys f F heights keys bound = (n : ℕ) → n < bound → IsVouchedBy heights n → HasGoodKeys f F keys n

-- there is a mark for each object, and the keys of the vouched dictionaries below a bound are marked
abbrev pub HaveNamedKeys : List ℕ → Frame → List ℕ → ℕ → List Bool → Type 0
HaveNamedKeys f F heights bound marks =
    (length marks ≡ F.objects) × ((n : ℕ) → n < bound → IsVouchedBy heights n → HasNamedKeys f F marks n)

-- object m is a key of dictionary n
abbrev pub IsKeyOf : List ℕ → Frame → ℕ → ℕ → Type 0
IsKeyOf f F n m = (head : Head) × HasHead f F n head × (head.kind ≡ Dict) × IsNamedBy f F head head.count m

-- object m is a key of some vouched dictionary
abbrev pub IsVouchedKey : List ℕ → Frame → List ℕ → ℕ → Type 0
IsVouchedKey f F heights m = (n : ℕ) × IsVouchedBy heights n × IsKeyOf f F n m

-- object n is a dictionary whose keys break the rules of keys, with this as the first fault
abbrev pub BreaksKeys : List ℕ → Frame → ℕ → Option Keyed → ℕ → Fault → Type 0
BreaksKeys f F count keys n fault = (head : Head) × HasHead f F n head × IsKeysFault f F count keys n head fault

-- the fault of the least vouched object whose keys break the rules of keys
pub record IsFirstKeysFault (f : List ℕ) (F : Frame) (certificate : Lists) (bound : ℕ) (fault : Fault) : Type 0 where
  pub object : ℕ
  pub within : object < bound
  pub vouched : IsVouchedBy certificate.heights object
  pub breaks : BreaksKeys f F (length certificate.heights) certificate.keys object fault
  pub before : (m : ℕ) → m < object → IsVouchedBy certificate.heights m → HasGoodKeys f F certificate.keys m
