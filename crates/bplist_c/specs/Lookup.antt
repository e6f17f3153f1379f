-- What C is given for a path. Source: profile.
use Rattle.std.specs.Prelude.{◌≡◌, ◌⊎◌, ℕ, List, Result, Ok, Err}
use Rattle.std.specs.Str.{IsUtf8}
use Rattle.bplist_objects.specs.Holds.{Holds}
use Rattle.bplist_objects.specs.Value.{Value}
use Rattle.bplist_cert.specs.CheckedFile.{CheckedFile}
use Rattle.bplist_cursor.specs.declared.node.Found.{Found}
use Rattle.bplist_cursor.specs.declared.node.Found.TheVariants.{At, Missing}
use Rattle.bplist_cursor.specs.declared.node.Why.{Why}
use Rattle.bplist_cursor.specs.declared.node.Why.TheVariants.{NoIndex, NoKey, NotSteppable}
use Rattle.bplist_cursor.specs.Found.{IsFound}
use Rattle.bplist_cursor.specs.Path.{IsPathOf, IsNoPath}
use Rattle.bplist_c.specs.declared.lookup.BplistFound.{BplistFound}
use Rattle.bplist_c.specs.declared.status.Status.{Status}
use Rattle.bplist_c.specs.declared.status.Status.TheVariants as statuses
use Rattle.bplist_c.specs.Statuses.{status_number}

-- the status for the reason why a step fails
abbrev pub why_status : Why → Status
why_status why = elim why [ NoKey ↦ statuses.NoKey | NoIndex ↦ statuses.NoIndex | NotSteppable ↦ statuses.NotSteppable ]

-- where the path with this text leads from the top, or where the text is wrong; or that it is no UTF-8; or refused
-- memory
abbrev pub FindSays : CheckedFile → List ℕ → Result (Result Found ℕ) Status → Type 0
FindSays checked bytes (Ok (Ok found)) = IsUtf8 bytes × ((steps : List (List ℕ)) × IsPathOf bytes steps × ((v : Value)
    → Holds checked.source.octets checked.frame checked.frame.top.0 v → IsFound checked checked.frame.top.0 v steps found))
FindSays checked bytes (Ok (Err wrong)) = IsUtf8 bytes × IsNoPath bytes wrong
FindSays checked bytes (Err why) = ((¬ IsUtf8 bytes) × (why ≡ statuses.NotUtf8)) ⊎ (why ≡ statuses.Memory)

-- status and output for what was found; if nothing was found because of a status, the output is unchanged
abbrev pub told_found : Result (Result Found ℕ) Status → BplistFound → ℕ × BplistFound
told_found (Ok (Ok (At node))) old = (0, record { object = node.object.0; step = 0 })
told_found (Ok (Ok (Missing step why))) old = (status_number (why_status why), record { object = 0; step = step })
told_found (Ok (Err wrong)) old = (status_number statuses.PathText, record { object = 0; step = wrong })
told_found (Err why) old = (status_number why, old)

-- the object that one step leads to, or why there is none
abbrev pub step_answer : Found → Result ℕ Status
step_answer place = elim place [ At node ↦ Ok node.object.0 | Missing step why ↦ Err (why_status why) ]
