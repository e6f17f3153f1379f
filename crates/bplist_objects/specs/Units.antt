-- The units of a text, and the order of lists of units. Source: the format comment of CFBinaryPList.c; the order is
-- profile.
use Rattle.std.specs.Prelude.{ℕ, List, []}
use Rattle.std.specs.declared.cmp.Ordering.{Ordering}
use Rattle.std.specs.Ordering.{nat_cmp}
use Rattle.std.specs.Cmp.Lexicographic.{slice_cmp}
use Rattle.bplist_octets.specs.Octets.{part}
use Rattle.bplist_objects.specs.declared.head.Kind.{Kind}
use Rattle.bplist_objects.specs.declared.head.Kind.TheVariants as kinds
use Rattle.bplist_objects.specs.declared.head.Head.{Head}
use Rattle.bplist_objects.specs.Numbers.{nums_at}

-- the kinds of texts
abbrev pub IsTextKind : Kind → Type 0
IsTextKind kind = elim kind [ kinds.Ascii ↦ Unit {0} | kinds.Wide ↦ Unit {0} | _ ↦ ⊥ ]

-- consecutive units of a text of this kind; in Ascii each byte is a unit
abbrev pub units_at : List ℕ → Kind → ℕ → ℕ → List ℕ
units_at f kind count at =
    elim kind [ kinds.Ascii ↦ part f at count | kinds.Wide ↦ nums_at f at 2 count | _ ↦ [] ]

-- the units of the text with this head
abbrev pub units_of : List ℕ → Head → List ℕ
units_of f head = units_at f head.kind head.count head.body

-- the order of texts: unit by unit, a proper prefix first
abbrev pub compare_units : List ℕ → List ℕ → Ordering
compare_units us vs = slice_cmp nat_cmp us vs
