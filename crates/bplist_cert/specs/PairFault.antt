-- The first fault of a file and a certificate. Source: profile.
use Rattle.std.specs.Prelude.{◌≡◌, ◌≢◌, ◌⊎◌, ℕ, suc, ◌+◌, ◌*◌, ◌<◌, ◌≤◌, List, length, slice_index, Some, None}
use Rattle.bplist_objects.specs.declared.rule.Rule.TheVariants as rules
use Rattle.bplist_objects.specs.declared.fault.Fault.{Fault}
use Rattle.bplist_objects.specs.declared.frame.Frame.{Frame}
use Rattle.bplist_objects.specs.Frame.{IsFrame}
use Rattle.bplist_objects.specs.FrameRules.{IsFrameFault}
use Rattle.bplist_objects.specs.Extents.{Sums}
use Rattle.bplist_cert.specs.Lists.{Lists}
use Rattle.bplist_cert.specs.Valid.{IsVouchedBy}
use Rattle.bplist_cert.specs.CheckRules.{IsLeastFault, IsCheckFault, check_rules}
use Rattle.bplist_cert.specs.declared.walk.Pass.{Pass}
use Rattle.bplist_cert.specs.declared.walk.Pass.TheVariants.{Quick, Exact}
use Rattle.bplist_cert.specs.Looks.{IsShown, KeepBeforeKeysBelow}

-- the first fault of the least vouched object that has one
abbrev pub IsVouchedFault : List ℕ → Frame → Lists → Fault → Type 0
IsVouchedFault f F certificate fault =
    IsLeastFault f F (IsVouchedBy certificate.heights) certificate (check_rules certificate.keys) fault

-- a check of vouched object n finds no fault; with it the vouched objects take t bytes, and there is room for them
pub record IsCheckedObject (f : List ℕ) (F : Frame) (certificate : Lists) (look : Pass) (n t : ℕ) : Type 0 where
  pub sums : Sums f F (IsVouchedBy certificate.heights) (suc n) t
  pub room : t + 8 ≤ F.table
  pub kept : IsShown f F certificate look n

-- the vouched objects before n are without a fault; they take t bytes, and there is room for them
pub record AreCheckedBelow (f : List ℕ) (F : Frame) (certificate : Lists) (look : Pass) (n t : ℕ) : Type 0 where
  pub sums : Sums f F (IsVouchedBy certificate.heights) n t
  pub room : t + 8 ≤ F.table
  pub kept : (m : ℕ) → m < n → IsVouchedBy certificate.heights m → IsShown f F certificate look m

-- the first fault of a vouched object; all vouched objects before it keep the rules before those of keys
pub record IsSeenFault (f : List ℕ) (F : Frame) (certificate : Lists) (fault : Fault) : Type 0 where
  pub object : ℕ
  pub vouched : IsVouchedBy certificate.heights object
  pub first : IsCheckFault f F certificate object fault
  pub seen : KeepBeforeKeysBelow f F certificate.heights object

-- the fault that ends a walk over the vouched objects, without the rules of keys: the first for an exact walk, any for
-- a quick one
abbrev pub IsWalkFault : List ℕ → Frame → Lists → Pass → Fault → Type 0
IsWalkFault f F certificate Quick fault = KeepBeforeKeysBelow f F certificate.heights F.objects → ⊥
IsWalkFault f F certificate Exact fault = IsSeenFault f F certificate fault

-- there are as many heights as objects, the top has a height, and all vouched objects keep the rules
pub record KeepsPairRules (f : List ℕ) (F : Frame) (certificate : Lists) : Type 0 where
  pub framed : IsFrame f F
  pub count : length certificate.heights ≡ F.objects
  pub top : IsVouchedBy certificate.heights F.top.0
  pub total : ℕ
  pub running : AreCheckedBelow f F certificate Exact F.objects total

-- the first broken rule of 26 and 27: the number of heights is not that of objects, or the top's height is 0
abbrev pub IsCountFault : Frame → List ℕ → Fault → Type 0
IsCountFault F heights fault =
    ((length heights ≢ F.objects)
    × (fault ≡ record { rule = rules.CertCount; object = None; place = 8 }))
    ⊎ ((length heights ≡ F.objects) × (slice_index heights F.top.0 ≡ 0)
    × (fault ≡ record { rule = rules.TopNotVouched; object = Some F.top; place = 16 + 4 * F.top.0 }))

-- the first fault of file and certificate: rules 1 to 13, 26 and 27, then the vouched objects
abbrev pub IsPairFault : List ℕ → Lists → Fault → Type 0
IsPairFault f certificate fault =
    IsFrameFault f fault
    ⊎ ((F : Frame) × IsFrame f F
    × (IsCountFault F certificate.heights fault
    ⊎ ((length certificate.heights ≡ F.objects) × IsVouchedBy certificate.heights F.top.0
    × IsVouchedFault f F certificate fault)))
