-- A rule that is kept is not broken.
use Rattle.std.proofs.Common.{ℕ, List, [], ◌∷◌, Option, arith, inl, inr}
use Rattle.bplist_objects.specs.declared.rule.Rule.{Rule}
use Rattle.bplist_objects.specs.declared.rule.Rule.TheVariants as rules
use Rattle.bplist_objects.specs.declared.fault.Fault.{Fault}
use Rattle.bplist_objects.specs.declared.frame.Frame.{Frame}
use Rattle.bplist_objects.specs.declared.frame.ObjectNo.{ObjectNo}
use Rattle.bplist_objects.specs.Rules.{KeepsAll, IsFirstFault, OfObject}
use Rattle.bplist_objects.specs.ObjectRules.{KeepsByObject, BreaksByObject, IsObjectFault}

-- a rule that is kept is not broken
pub kept_or_broken : (f : List ℕ) (F : Frame) (n : ℕ) (rule : Rule) (place : ℕ) → KeepsByObject f F n rule → BreaksByObject f F n rule place → ⊥
kept_or_broken f F n rules.NotAscii place k (head, i, has, kind, first, p) =
    first.2 (λ j l. k head has kind j (omega (arith, l, first.0)))
kept_or_broken f F n rules.RefHigh place k (head, i, has, first, p) =
    first.2 (λ j l. k head has j (omega (arith, l, first.0)))
kept_or_broken f F n _ place k b = b.0 k

-- if all rules are kept, there is no first fault
pub no_first_fault : (keeps : Rule → Type 0) (breaks : Rule → Option ObjectNo → ℕ → Type 0) → ((rule : Rule) (object : Option ObjectNo) (place : ℕ) → keeps rule → breaks rule object place → ⊥) → (rules : List Rule) (fault : Fault) → KeepsAll keeps rules → IsFirstFault keeps breaks rules fault → ⊥
no_first_fault keeps breaks never [] fault kept h = h
no_first_fault keeps breaks never (rule ∷ rules) fault kept (inl h) = never rule fault.object fault.place kept.0 h.1
no_first_fault keeps breaks never (rule ∷ rules) fault kept (inr h) = no_first_fault keeps breaks never rules fault kept.1 h.1

-- an object that keeps rules breaks none of them
pub no_object_fault : (f : List ℕ) (F : Frame) (n : ℕ) (rules : List Rule) (fault : Fault) → KeepsAll (KeepsByObject f F n) rules → IsObjectFault f F n rules fault → ⊥
no_object_fault f F n rules fault kept h =
    no_first_fault (KeepsByObject f F n) (OfObject n (BreaksByObject f F n)) (λ rule object place k b. kept_or_broken f F n rule place k b.1) rules fault kept h
