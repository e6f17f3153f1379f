-- Laws of the first broken rule.
use Rattle.std.proofs.Common.{ℕ, List, [], ◌∷◌, ◌++◌, Option, inl, inr}
use Rattle.bplist_objects.specs.declared.rule.Rule.{Rule}
use Rattle.bplist_objects.specs.declared.fault.Fault.{Fault}
use Rattle.bplist_objects.specs.declared.frame.ObjectNo.{ObjectNo}
use Rattle.bplist_objects.specs.Rules.{KeepsAll, IsFirstFault}

-- rules that are kept come before the first fault of the rules after them
pub first_fault_after : (keeps : Rule → Type 0) (breaks : Rule → Option ObjectNo → ℕ → Type 0) (xs ys : List Rule) (fault : Fault) → KeepsAll keeps xs → IsFirstFault keeps breaks ys fault → IsFirstFault keeps breaks (xs ++ ys) fault
first_fault_after keeps breaks [] ys fault kept h = h
first_fault_after keeps breaks (x ∷ xs) ys fault kept h =
    inr (kept.0, first_fault_after keeps breaks xs ys fault kept.1 h)

-- a first fault stays the first, whatever rules come after
pub first_fault_among : (keeps : Rule → Type 0) (breaks : Rule → Option ObjectNo → ℕ → Type 0) (xs ys : List Rule) (fault : Fault) → IsFirstFault keeps breaks xs fault → IsFirstFault keeps breaks (xs ++ ys) fault
first_fault_among keeps breaks [] ys fault h = absurd h
first_fault_among keeps breaks (x ∷ xs) ys fault (inl broken) = inl broken
first_fault_among keeps breaks (x ∷ xs) ys fault (inr (kept, h)) = inr (kept, first_fault_among keeps breaks xs ys fault h)

-- these rules are kept, and those after them
pub kept_all_after : (keeps : Rule → Type 0) (xs ys : List Rule) → KeepsAll keeps xs → KeepsAll keeps ys → KeepsAll keeps (xs ++ ys)
kept_all_after keeps [] ys kept more = more
kept_all_after keeps (x ∷ xs) ys (kept, rest) more = (kept, kept_all_after keeps xs ys rest more)

pub kept_all_parts : (keeps : Rule → Type 0) (xs ys : List Rule) → KeepsAll keeps (xs ++ ys) → KeepsAll keeps xs × KeepsAll keeps ys
kept_all_parts keeps [] ys kept = (tt, kept)
kept_all_parts keeps (x ∷ xs) ys kept = let parts = kept_all_parts keeps xs ys kept.1 in ((kept.0, parts.0), parts.1)
