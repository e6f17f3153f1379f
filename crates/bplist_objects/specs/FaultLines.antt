-- The printed lines of faults, without line feeds. Source: profile.
use Rattle.std.specs.Prelude.{ℕ, List, ◌++◌, codes, None, Some, flat_map}
use Rattle.std.specs.Fmt.{decimal}
use Rattle.bplist_objects.specs.Words.{word_of}
use Rattle.bplist_objects.specs.declared.fault.Fault.{Fault}
use Rattle.bplist_objects.specs.declared.frame.ObjectNo.{ObjectNo}

-- `fault WORD object N place P`, with `none` for N if there is no object
abbrev pub fault_line : Fault → List ℕ
fault_line fault = codes "fault " ++ word_of fault.rule ++ codes " object "
    ++ elim fault.object [ Some n ↦ decimal n.0 | None ↦ codes "none" ] ++ codes " place " ++ decimal fault.place

-- a space and the number for each object
abbrev pub numbers_text : List ObjectNo → List ℕ
numbers_text objects = flat_map (λ (n : ObjectNo). codes " " ++ decimal n.0) objects

-- the line of a circle of these objects
abbrev pub circle_line : List ObjectNo → List ℕ
circle_line objects = codes "circle" ++ numbers_text objects

-- the line of refused memory
abbrev pub memory_line : List ℕ
memory_line = codes "memory"

-- the line of a source that gives other bytes than those that were checked
abbrev pub changed_line : List ℕ
changed_line = codes "changed"
