-- What C is given of an object. Source: profile.
use Rattle.std.specs.Prelude.{◌≡◌, ℕ, suc, ◌-◌, ◌/◌, ◌%◌, ◌^◌, ◌<◌, min, List, length, slice_index, slice_index_or, Result, Ok, Err}
use Rattle.std.specs.Int.{w128, cast_unsigned}
use denote.Enum.Declared.{tag_of}
use Rattle.bplist_octets.specs.Octets.{num, part}
use Rattle.bplist_objects.specs.contracts.head.Kind.{the_type}
use Rattle.bplist_objects.specs.Value.{date, int, real, text, uid}
use Rattle.bplist_objects.specs.declared.frame.Frame.{Frame}
use Rattle.bplist_objects.specs.declared.head.Head.{Head}
use Rattle.bplist_objects.specs.declared.head.Kind.{Kind}
use Rattle.bplist_objects.specs.Heads.{Content, IsHeadOf, leaf}
use Rattle.bplist_cert.specs.CheckedFile.{CheckedFile}
use Rattle.bplist_cert.specs.Valid.{IsVouchedBy}
use Rattle.bplist_c.specs.declared.object.BplistBits.{BplistBits}
use Rattle.bplist_c.specs.declared.object.BplistBody.{BplistBody}
use Rattle.bplist_c.specs.declared.object.BplistInteger.{BplistInteger}
use Rattle.bplist_c.specs.declared.status.Status.{Status}
use Rattle.bplist_c.specs.declared.status.Status.TheVariants as statuses

-- the number of a kind in the header: its position among the kinds, from 1
abbrev pub kind_number : Kind → ℕ
kind_number kind = suc (tag_of the_type kind)

-- the body of an object with this head
abbrev pub body_of : Head → BplistBody
body_of head = record { kind = kind_number head.kind; count = head.count; place = head.body; length = head.«end» - head.body }

-- the bytes of the body of an object with this head
abbrev pub bytes_of_body : List ℕ → Head → List ℕ
bytes_of_body f head = part f head.body (head.«end» - head.body)

-- what Says of the object's head, content or value, whichever Has names; NoObject if the object is not vouched
pub record OnObject {X Y : Type 0} (checked : CheckedFile) (n : ℕ) (Has : List ℕ → Frame → ℕ → Y → Type 0)
    (Says : Y → Result X Status → Type 0) (answer : Result X Status) : Type 0 where
  pub none : (IsVouchedBy checked.certificate.heights n → ⊥) → answer ≡ Err statuses.NoObject
  pub said : IsVouchedBy checked.certificate.heights n → (y : Y) → Has checked.source.octets checked.frame n y → Says y answer

-- the body in an answer, all zeros if there is none
abbrev pub body_or_zeros : Result BplistBody Status → BplistBody
body_or_zeros (Ok body) = body
body_or_zeros (Err why) = record { kind = 0; count = 0; place = 0; length = 0 }

-- the body of an object, all zeros if the object is not vouched
abbrev pub IsFace : CheckedFile → ℕ → BplistBody → Type 0
IsFace checked n body = (answer : Result BplistBody Status) × (body ≡ body_or_zeros answer)
    × OnObject checked n IsHeadOf (λ head answer. answer ≡ Ok (body_of head)) answer

-- the bodies of these objects, one by one
abbrev pub AreFaces : CheckedFile → List ℕ → List BplistBody → Type 0
AreFaces checked objects bodies = (k : ℕ) (d : BplistBody) → k < length bodies
    → IsFace checked (slice_index objects k) (slice_index_or bodies k d)

-- the bodies of these objects, as many as fit
abbrev pub FacesSay : List ℕ → ℕ → CheckedFile → Result (List BplistBody) Status → Type 0
FacesSay objects room checked (Ok bodies) = (length bodies ≡ min (length objects) room) × AreFaces checked objects bodies
FacesSay objects room checked (Err why) = ⊥

-- the integer that is spelled, as the two halves of a number in two's complement
abbrev pub int_answer : Content → Result BplistInteger Status
int_answer (leaf (int i)) = Ok (record { low = cast_unsigned w128 i % 2 ^ 64; high = cast_unsigned w128 i / 2 ^ 64 })
int_answer _ = Err statuses.OtherKind

-- the real or the date that is spelled, as the bits of its bytes and the number of its bytes
abbrev pub number_answer : Content → Result BplistBits Status
number_answer content = elim content [
  | leaf (real bytes) ↦ Ok (record { bits = num bytes; length = length bytes })
  | leaf (date bytes) ↦ Ok (record { bits = num bytes; length = length bytes })
  | _ ↦ Err statuses.OtherKind
]

-- the number of the UID that is spelled
abbrev pub uid_answer : Content → Result ℕ Status
uid_answer content = elim content [ leaf (uid x) ↦ Ok (x % 2 ^ 32) | _ ↦ Err statuses.OtherKind ]

-- the units of the text that is spelled, from one on, as many as fit
abbrev pub units_answer : ℕ → ℕ → Content → Result (List ℕ) Status
units_answer from room content = elim content [ leaf (text units) ↦ Ok (part units from room) | _ ↦ Err statuses.OtherKind ]
