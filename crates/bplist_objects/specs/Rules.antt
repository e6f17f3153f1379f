-- The first broken rule of a list of rules. Source: profile.
use Rattle.std.specs.Prelude.{◌≡◌, ◌⊎◌, ℕ, List, [], ◌∷◌, Option, Some}
use Rattle.std.specs.List.{AllByRecursion}
use Rattle.bplist_objects.specs.declared.rule.Rule.{Rule}
use Rattle.bplist_objects.specs.declared.fault.Fault.{Fault}
use Rattle.bplist_objects.specs.declared.frame.ObjectNo.{ObjectNo}

-- all these rules are kept
abbrev pub KeepsAll : (Rule → Type 0) → List Rule → Type 0
KeepsAll keeps rules = AllByRecursion keeps rules

-- the fault is of the first of these rules that is broken
abbrev pub IsFirstFault : (Rule → Type 0) → (Rule → Option ObjectNo → ℕ → Type 0) → List Rule → Fault → Type 0
IsFirstFault keeps breaks [] fault = ⊥
IsFirstFault keeps breaks (rule ∷ rules) fault =
    ((fault.rule ≡ rule) × breaks rule fault.object fault.place)
    ⊎ (keeps rule × IsFirstFault keeps breaks rules fault)

-- the object is n, and it breaks the rule at this place
abbrev pub OfObject : ℕ → (Rule → ℕ → Type 0) → Rule → Option ObjectNo → ℕ → Type 0
OfObject n breaks rule object place = (object ≡ Some (record { 0 = n })) × breaks rule place
