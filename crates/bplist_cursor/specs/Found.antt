-- What a path leads to. Source: profile.
use Rattle.std.specs.Prelude.{◌≡◌, ℕ, List, map, Ok, Err, Vec}
use Rattle.std.specs.Global.{Global}
use Rattle.bplist_objects.specs.Value.{Value}
use Rattle.bplist_objects.specs.Holds.{Holds}
use Rattle.bplist_cert.specs.CheckedFile.{CheckedFile}
use Rattle.bplist_cert.specs.Valid.{IsVouchedBy}
use Rattle.bplist_cursor.specs.Look.{look}
use Rattle.bplist_cursor.specs.Sizes.{Table, AreMeasures}
use Rattle.bplist_cursor.specs.Leads.{LeadTo}
use Rattle.bplist_cursor.specs.declared.node.Found.{Found}
use Rattle.bplist_cursor.specs.declared.node.Found.TheVariants.{At, Missing}

-- the units of steps
abbrev pub units_of_steps : List (Vec ℕ Global) → List (List ℕ)
units_of_steps steps = map (λ step. step.items) steps

-- object n is vouched for and holds v
abbrev pub IsHeld : CheckedFile → ℕ → Value → Type 0
IsHeld checked n v = IsVouchedBy checked.certificate.heights n × Holds checked.source.octets checked.frame n v

-- the steps lead from object n, which holds v, to this node, which is vouched for and holds what they lead to in v; or
-- this is the first step that can't be taken, and why
abbrev pub IsFound : CheckedFile → ℕ → Value → List (List ℕ) → Found → Type 0
IsFound checked n v steps (At node) =
    LeadTo checked.source.octets checked.frame n steps node.object.0 × IsVouchedBy checked.certificate.heights node.object.0
    × ((w : Value) × (look 0 v steps ≡ Ok w) × Holds checked.source.octets checked.frame node.object.0 w)
IsFound checked n v steps (Missing k y) = look 0 v steps ≡ Err (k, y)

-- the table has the sizes of the values that the objects of the checked file hold
abbrev pub AreMeasuresOf : CheckedFile → Table → Type 0
AreMeasuresOf checked sizes = AreMeasures checked.source.octets checked.frame checked.certificate.heights sizes
