-- Running tallies of the reached objects.
use Rattle.std.proofs.Common.{◌≡◌, ℕ, suc, ◌+◌, ◌-◌, ◌<◌, ◌≤◌, inl, Bool, false, cond, List, [], ◌∷◌, get_or, refl, sym, subst, arith, Some, None}
use Rattle.bplist_objects.specs.declared.rule.Rule.TheVariants as rules
use Rattle.bplist_objects.specs.declared.fault.Fault.{Fault}
use Rattle.bplist_objects.specs.declared.frame.Frame.{Frame}
use Rattle.bplist_objects.specs.declared.head.Head.{Head}
use Rattle.bplist_objects.specs.Frame.{off, IsFrame}
use Rattle.bplist_objects.specs.Announced.{HasHead}
use Rattle.bplist_objects.specs.Safe.{ref_count}
use Rattle.bplist_objects.specs.Rules.{KeepsAll, OfObject}
use Rattle.bplist_objects.specs.ObjectRules.{KeepsByObject, object_rules, IsObjectFault}
use Rattle.bplist_objects.specs.Reach.{Reach}
use Rattle.bplist_objects.specs.Extents.{Sums}
use Rattle.bplist_objects.proofs.ExtentSums.{shape_extent, sums_none, sums_more, sums_same, not_overfull, overfull}
use Rattle.bplist_objects.proofs.RuleLaws.{first_fault_after, first_fault_among}
use Rattle.bplist_objects.proofs.HeadTies.{head_tie}
use Rattle.bplist_keys.specs.Marks.{IsMarked}
use Rattle.bplist_cert.specs.Lists.{lists}
use Rattle.bplist_cert.specs.CheckRules.{KeepsRule, BreaksRule}
use Rattle.bplist_lint.specs.ReachRules.{IsReachedFault, KeepReached, reach_rules, is_marked, Tallied}
use Rattle.bplist_lint.specs.declared.tally.Tally.{Tally}
use Rattle.bplist_lint.proofs.KeptRules.{both_rules, keep_more}
use Rattle.bplist_lint.proofs.RangeSums.{sum_next, references_are, references_next}

pub next_is : (n : ℕ) → suc n ≡ n + 1
next_is n = omega arith

module _ (f : List ℕ) (F : Frame) where
  -- an object that is not reached, and so not marked
  pub tallied_over : (marks : List Bool) (n : ℕ) (tally : Tally) → get_or marks n false ≡ false → (Reach f F n → ⊥) → Tallied f F marks n tally → Tallied f F marks (n + 1) tally
  tallied_over marks n tally unmarked unreached t = subst (λ k. Tallied f F marks k tally) (next_is n) (record {
    kept = keep_more f F reach_rules n (suc n) (omega arith) t.kept (λ r. absurd (unreached r));
    sums = sums_same f F (Reach f F) n tally.used.octets unreached t.sums;
    reached = let one = rw unmarked at (sum_next (λ m. cond (is_marked marks m) 1 0) n) in omega (arith, one, t.reached);
    references = let one = rw unmarked at (references_next f F (is_marked marks) n) in omega (arith, one, t.references);
  })

  pub tallied_none : (marks : List Bool) → Tallied f F marks 0 (record { reached = 0; used = record { octets = 0 }; references = 0 })
  tallied_none marks = record {
    kept = λ m low r. absurd (omega arith);
    sums = sums_none f F (Reach f F);
    reached = refl;
    references = refl;
  }

  module _ (n : ℕ) (reached : Reach f F n) (before : KeepReached f F reach_rules n) where
    -- a fault by rules 14 to 20
    pub object_fault : (fault : Fault) → IsObjectFault f F n object_rules fault → IsReachedFault f F reach_rules fault
    object_fault fault h = record {
      object = n;
      member = reached;
      first = first_fault_among (KeepsRule f F (Reach f F) (lists [] None) n) (OfObject n (BreaksRule f F (Reach f F) (lists [] None) n)) object_rules (rules.Overfull ∷ []) fault h;
      least = before;
    }

    module _ (frame : IsFrame f F) (within : n < F.objects) (used : ℕ) (sums : Sums f F (Reach f F) n used) (head : Head) (has : HasHead f F n head) (kept : KeepsAll (KeepsByObject f F n) object_rules) where
      -- the bytes with it
      pub sums_with : Sums f F (Reach f F) (suc n) (used + (head.«end» - off f F n))
      sums_with = sums_more f F (Reach f F) n (head.«end» - off f F n) used reached (shape_extent f F n head ((head_tie f F n frame within head).0 (has, kept)).0) sums

      -- a fault by rule 31
      pub room_fault : (fault : Fault) → fault.rule ≡ rules.Overfull → fault.object ≡ Some (record { 0 = n }) → fault.place ≡ off f F n → F.table < used + (head.«end» - off f F n) + 8 → IsReachedFault f F reach_rules fault
      room_fault fault rule object place full = record {
        object = n;
        member = reached;
        first = first_fault_after (KeepsRule f F (Reach f F) (lists [] None) n) (OfObject n (BreaksRule f F (Reach f F) (lists [] None) n)) object_rules (rules.Overfull ∷ []) fault kept (inl (rule, (object, (overfull f F (Reach f F) n _ sums_with full, place))));
        least = before;
      }

      -- it keeps its rules too
      pub kept_with : used + (head.«end» - off f F n) + 8 ≤ F.table → KeepReached f F reach_rules (suc n)
      kept_with room = keep_more f F reach_rules n (suc n) (omega arith) before (λ _. both_rules f F n kept (not_overfull f F (Reach f F) n _ sums_with room))

  -- the tally with it
  pub tallied_more : IsFrame f F → (n : ℕ) → n < F.objects → Reach f F n → (marks : List Bool) (tally : Tally) → Tallied f F marks n tally
      → (head : Head) → HasHead f F n head → KeepsAll (KeepsByObject f F n) object_rules → IsMarked marks n → tally.used.octets + (head.«end» - off f F n) + 8 ≤ F.table
      → (now : Tally) → now.reached ≡ tally.reached + 1 → now.used.octets ≡ tally.used.octets + (head.«end» - off f F n) → now.references ≡ tally.references + ref_count head.kind head.count
      → Tallied f F marks (n + 1) now
  tallied_more frame n within reached marks tally t head has kept marked room now one bytes more = subst (λ k. Tallied f F marks k now) (next_is n) (record {
    kept = kept_with n reached t.kept frame within tally.used.octets t.sums head has kept room;
    sums = subst (Sums f F (Reach f F) (suc n)) (sym bytes) (sums_with n reached t.kept frame within tally.used.octets t.sums head has kept);
    reached = let next = rw marked at (sum_next (λ m. cond (is_marked marks m) 1 0) n) in omega (arith, next, one, t.reached);
    references = let next = rw marked at (references_next f F (is_marked marks) n) in omega (arith, next, more, t.references, references_are f F n head has);
  })
