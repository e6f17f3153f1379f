-- What `show --raw` says: bytes of data, UTF-8 of a text, digits of an integer or UID, `true` or `false`. Source:
-- profile.
use Rattle.std.specs.Prelude.{◌≡◌, ℕ, ◌∷◌, List, [], codes, false, if◌then◌else◌, Option, None, Some, Result, Ok, Err, MatchOption, MatchResult, encode_utf8_all, length, ⊤}
use Rattle.std.specs.Char.Utf16.{has_unpaired_surrogate, utf16_lossy_chars}
use Rattle.std.specs.Fmt.{decimal, signed_decimal}
use Rattle.std.specs.Io.KnownBytes.{Keeps}
use Rattle.bplist_octets.specs.Octets.{part}
use Rattle.bplist_octets.specs.declared.source.ReadFault.{ReadFault}
use Rattle.bplist_objects.specs.declared.frame.Frame.{Frame}
use Rattle.bplist_objects.specs.declared.head.Kind.TheVariants.{Bytes as data_kind}
use Rattle.bplist_objects.specs.File.{FileHolds}
use Rattle.bplist_objects.specs.Frame.{IsFrame}
use Rattle.bplist_objects.specs.Safe.{IsSafeBody, IsSafeText}
use Rattle.bplist_objects.specs.Units.{units_of}
use Rattle.bplist_objects.specs.Value.{Value, leaf, bytes, text, int, uid, boolean}
use Rattle.bplist_cursor.specs.declared.replies.Face.{Face}
use Rattle.bplist_cursor.specs.declared.replies.Face.TheVariants as faces
use Rattle.bplist_cursor.specs.Leads.{LeadTo}
use Rattle.bplist_cursor.specs.Look.{look}
use Rattle.bplist_cursor.specs.Path.{IsPathOf}
use Rattle.bplint_lines.specs.declared.fault.RunFault.TheVariants as faults
use Rattle.bplint_lines.specs.declared.raw_fault.RawFault.{RawFault}
use Rattle.bplint_lines.specs.declared.raw_fault.RawFault.TheVariants.{Run, NoRawForm}
use Rattle.bplint_lines.specs.declared.fault.Said.{Said}
use Rattle.bplint_lines.specs.declared.fault.Said.TheVariants.{All, SomeMissing}
use Rattle.bplint_lines.specs.Answers.{Answer, gives, refuses}
use Rattle.bplint_lines.specs.declared.texts.Style.TheVariants.{OldStyle}
use Rattle.bplint_engine.specs.declared.raw_bytes.Raw.{Raw}
use Rattle.bplint_engine.specs.declared.raw_bytes.Raw.TheVariants.{Data, Text, Word}
use Rattle.bplint_engine.specs.declared.output.Led.{Led}
use Rattle.bplint_engine.specs.Get.{found_line}
use Rattle.bplint_engine.specs.Output.{LeavesLed}
use Rattle.bplint_engine.specs.PathTexts.{ForPaths}

-- the UTF-8 of a text with these units, or none if a surrogate has no partner
abbrev pub utf8_of_units : List ℕ → Option (List ℕ)
utf8_of_units units = if has_unpaired_surrogate units then None else Some (encode_utf8_all (utf16_lossy_chars units))

-- the raw bytes of a value, if it has any
abbrev pub raw_bytes : Value → Option (List ℕ)
raw_bytes (leaf (bytes l)) = Some l
raw_bytes (leaf (text units)) = utf8_of_units units
raw_bytes (leaf (int i)) = Some (signed_decimal i)
raw_bytes (leaf (uid x)) = Some (decimal x)
raw_bytes (leaf (boolean b)) = Some (if b then codes "true" else codes "false")
raw_bytes _ = None

-- the answer is the raw bytes of the value
abbrev pub NodeShowsRaw : Value → Answer → Type 0
NodeShowsRaw w (gives said octets) = (said ≡ All) × (raw_bytes w ≡ Some octets)
NodeShowsRaw w (refuses _) = ⊥

-- the answer for the value under the path, or that the path leads nowhere
abbrev pub PathShowsRaw : List (List ℕ) → Value → Answer → Type 0
PathShowsRaw steps v answer = MatchResult (look 0 v steps) (λ w. NodeShowsRaw w answer)
    (λ missing. answer ≡ gives SomeMissing (found_line OldStyle (Err missing)))

-- the answer for one path text, if Says accepts the file
abbrev pub ShowsRaw : (Answer → Type 0) → List ℕ → List ℕ → Answer → Type 0
ShowsRaw Says f path = ForPaths Says f (path ∷ [])
    (λ paths v answer. (steps : List (List ℕ)) × (paths ≡ steps ∷ []) × PathShowsRaw steps v answer)

-- the path leads to object n, whose value has no raw bytes
abbrev pub LeadsToRawless : List ℕ → Frame → List (List ℕ) → Value → ℕ → Type 0
LeadsToRawless f F steps v n = (w : Value) × LeadTo f F F.top.0 steps n × (look 0 v steps ≡ Ok w) × (raw_bytes w ≡ None)

-- the same for the path of a text, if Says accepts the file
abbrev pub IsRawless : (Answer → Type 0) → List ℕ → List ℕ → ℕ → Type 0
IsRawless Says f path n = (steps : List (List ℕ)) × (said : Said) × (octets : List ℕ) × (F : Frame) × (v : Value)
    × IsPathOf path steps × Says (gives said octets) × IsFrame f F × FileHolds f v × LeadsToRawless f F steps v n

-- the fault of the failed read that the result is, if it is one
abbrev pub raw_read_failed : {X : Type 0} → Result X RawFault → Option ReadFault
raw_read_failed answer = elim answer [ Err (Run (faults.Read fault)) ↦ Some fault | _ ↦ None ]

-- what a run leaves with the writer: what LeavesLed allows, or nothing if the value has no raw bytes
abbrev pub LeavesRawBy : (Answer → Type 0) → (ℕ → Type 0) → Option (List ℕ) → Option (List ℕ) → Result Led RawFault → Type 0
LeavesRawBy Says Rawless old new (Ok led) = LeavesLed Says None old new (Ok led)
LeavesRawBy Says Rawless old new (Err (Run fault)) = LeavesLed Says None old new (Err fault)
LeavesRawBy Says Rawless old new (Err (NoRawForm n)) = Rawless n.0 × Keeps old new

-- ---- how the bytes are sent
-- the bytes that are sent
abbrev pub raw_in : List ℕ → Raw → List ℕ
raw_in f (Data head) = part f head.body head.count
raw_in f (Text head) = encode_utf8_all (utf16_lossy_chars (units_of f head))
raw_in f (Word word) = word.items

-- what may be sent over any source: as many bytes as the head counts, or the UTF-8 of as many units
abbrev pub IsWholeRaw : Raw → List ℕ → Type 0
IsWholeRaw (Data head) octets = length octets ≡ head.count
IsWholeRaw (Text head) octets = (units : List ℕ) × (length units ≡ head.count) × (utf8_of_units units ≡ Some octets)
IsWholeRaw (Word word) octets = octets ≡ word.items

-- the body that is sent lies in a file of `len` bytes
abbrev pub IsSafeRaw : ℕ → Raw → Type 0
IsSafeRaw len (Data head) = (head.kind ≡ data_kind) × IsSafeBody len head
IsSafeRaw len (Text head) = IsSafeText len head
IsSafeRaw len (Word word) = ⊤

-- each surrogate of the text that is sent has its partner
abbrev pub IsPairedRaw : List ℕ → Raw → Type 0
IsPairedRaw f (Text head) = has_unpaired_surrogate (units_of f head) ≡ false
IsPairedRaw f _ = ⊤

-- the bytes that are sent are the raw bytes of the value, or it has none
abbrev pub IsRawOf : List ℕ → Value → Option Raw → Type 0
IsRawOf f w found = MatchOption found (raw_bytes w ≡ None) (λ raw. (raw_bytes w ≡ Some (raw_in f raw)) × IsPairedRaw f raw)

-- the word or the digits for a face, if these are the raw bytes of its value
abbrev pub raw_word : Face → Option (List ℕ)
raw_word (faces.Bool b) = Some (if b then codes "true" else codes "false")
raw_word (faces.Int i) = Some (signed_decimal i)
raw_word (faces.Uid x) = Some (decimal x)
raw_word _ = None
