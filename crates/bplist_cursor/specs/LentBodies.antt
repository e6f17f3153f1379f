-- Bodies that are, byte for byte, what they mean. Source: the format comment of CFBinaryPList.c.
use Rattle.std.specs.Prelude.{◌≡◌, ◌⊎◌, ℕ, List}
use denote.Ref.{Bor}
use Rattle.bplist_octets.specs.Octets.{part}
use Rattle.bplist_octets.specs.Slices.{StandsAt}
use Rattle.bplist_objects.specs.declared.frame.Frame.{Frame}
use Rattle.bplist_objects.specs.declared.head.Head.{Head}
use Rattle.bplist_objects.specs.declared.head.Kind.TheVariants.{Bytes, Ascii}
use Rattle.bplist_objects.specs.Heads.{IsHeadOf, HasShape}
use Rattle.bplist_cert.specs.CheckedFile.{CheckedFile}

-- object n spells data of these bytes, or a text with one byte for each unit; its body is these bytes
abbrev pub SpellsBytes : List ℕ → Frame → ℕ → List ℕ → Type 0
SpellsBytes f F n bytes =
    (head : Head) × IsHeadOf f F n head × ((head.kind ≡ Bytes) ⊎ (head.kind ≡ Ascii)) × (bytes ≡ part f head.body head.count)

-- the slice is not a copy: it is the memory of the body of object n
abbrev pub StandsAtBody : CheckedFile → ℕ → Bor (List ℕ) → Type 0
StandsAtBody checked n s = (head : Head) × HasShape checked.source.octets checked.frame n head × StandsAt checked.source head.body s
