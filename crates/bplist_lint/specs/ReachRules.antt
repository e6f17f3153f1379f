-- The rules of the objects that the top reaches, kept and broken as in the check, and the first fault by them.
-- Source: profile.
use Rattle.std.specs.Prelude.{◌≡◌, ℕ, Bool, false, List, [], ◌∷◌, ◌++◌, slice_index_or, None, sum_by, count_by, filter, filter_map}
use Rattle.std.specs.List.{range_with_len}
use Rattle.bplist_objects.specs.declared.rule.Rule.{Rule}
use Rattle.bplist_objects.specs.declared.rule.Rule.TheVariants as rules
use Rattle.bplist_objects.specs.declared.fault.Fault.{Fault}
use Rattle.bplist_objects.specs.declared.frame.Frame.{Frame}
use Rattle.bplist_objects.specs.Safe.{ref_count}
use Rattle.bplist_objects.specs.Markers.{head_found}
use Rattle.bplist_objects.specs.ObjectRules.{object_rules}
use Rattle.bplist_objects.specs.Reach.{Reach}
use Rattle.bplist_objects.specs.Extents.{Sums}
use Rattle.bplist_cert.specs.Lists.{lists}
use Rattle.bplist_cert.specs.CheckRules.{KeepBelow, IsLeastFault}
use Rattle.bplist_lint.specs.declared.tally.Tally.{Tally}

-- the rules of a reached object before those of keys, in order: 14 to 20 and 31
abbrev pub reach_rules : List Rule
reach_rules = object_rules ++ rules.Overfull ∷ []

-- how many objects below n satisfy p
abbrev pub number_below : (ℕ → Bool) → ℕ → ℕ
number_below p n = count_by p (range_with_len 0 n)

-- the object is marked
abbrev pub is_marked : List Bool → ℕ → Bool
is_marked marks n = slice_index_or marks n false

module _ (f : List ℕ) (F : Frame) where
  -- the reached objects below n keep these rules
  abbrev pub KeepReached : List Rule → ℕ → Type 0
  KeepReached listed n = KeepBelow f F (Reach f F) (lists [] None) listed n

  -- the first of these rules that the least reached object that breaks one breaks
  abbrev pub IsReachedFault : List Rule → Fault → Type 0
  IsReachedFault listed fault = IsLeastFault f F (Reach f F) (lists [] None) listed fault

  -- how many references the objects below n that satisfy p announce together, by their heads
  abbrev pub references_below : (ℕ → Bool) → ℕ → ℕ
  references_below p n = sum_by (λ head. ref_count head.kind head.count) (filter_map (head_found f F) (filter p (range_with_len 0 n)))

  -- the reached objects before n, which are marked, keep the rules, and this is their tally
  pub record Tallied (marks : List Bool) (n : ℕ) (tally : Tally) : Type 0 where
    pub kept : KeepReached reach_rules n
    pub sums : Sums f F (Reach f F) n tally.used.octets
    pub reached : tally.reached ≡ number_below (is_marked marks) n
    pub references : tally.references ≡ references_below (is_marked marks) n
