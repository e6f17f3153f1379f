-- The first fault of a file: a broken rule, or the circle that keeps its top from being founded. Source: profile.
use Rattle.std.specs.Prelude.{◌⊎◌, ◌++◌, ℕ, List, None}
use Rattle.bplist_objects.specs.declared.fault.Fault.{Fault}
use Rattle.bplist_objects.specs.declared.frame.Frame.{Frame}
use Rattle.bplist_objects.specs.Frame.{IsFrame}
use Rattle.bplist_objects.specs.FrameRules.{IsFrameFault}
use Rattle.bplist_objects.specs.Heads.{Content, Spells, refs}
use Rattle.bplist_objects.specs.Reach.{Founded}
use Rattle.bplist_cert.specs.CheckRules.{key_rules}
use Rattle.bplist_lint.specs.Graph.{IsFirstWithout, IsCircleBy}
use Rattle.bplist_lint.specs.ReachRules.{KeepReached, IsReachedFault, reach_rules}

-- the circle that first unfounded references lead to from the top
abbrev pub IsCircle : List ℕ → Frame → List ℕ → Type 0
IsCircle f F circle = IsCircleBy (λ n m. (c : Content) × Spells f F n c × IsFirstWithout (Founded f F) (refs c) m) F.top.0 circle

-- the first broken rule of a file: 1 to 13, then 14 to 20 and 31 of reached objects, then 21 and 22 of their keys
abbrev pub IsFileFault : List ℕ → Fault → Type 0
IsFileFault f fault = IsFrameFault f fault ⊎ ((F : Frame) × IsFrame f F × (IsReachedFault f F reach_rules fault
    ⊎ (KeepReached f F reach_rules F.objects × IsReachedFault f F (key_rules None) fault)))

-- the file keeps all other rules, and this is its circle
abbrev pub IsFileCircle : List ℕ → List ℕ → Type 0
IsFileCircle f circle = (F : Frame) × IsFrame f F × KeepReached f F (reach_rules ++ key_rules None) F.objects × IsCircle f F circle
