-- Bodies of bytes of an object that a checked file vouches for.
use Rattle.std.proofs.Common.{◌≡◌, ◌⊎◌, inl, inr, ℕ, List, None, IsTrue, Result, Ok, Err, refl, subst}
use Rattle.std.proofs.Props.{props}
use Rattle.std.proofs.Math.Logic.{∥∥₁_elim}
use Rattle.bplist_octets.specs.Octets.{part}
use Rattle.bplist_objects.specs.declared.fault.ObjectFault.{ObjectFault}
use Rattle.bplist_objects.specs.declared.fault.ObjectFault.TheVariants as errors
use Rattle.bplist_objects.specs.declared.frame.Frame.{Frame}
use Rattle.bplist_objects.specs.declared.head.Head.{Head}
use Rattle.bplist_objects.specs.declared.head.Kind.{Kind}
use Rattle.bplist_objects.specs.declared.head.Kind.TheVariants as kinds
use Rattle.bplist_objects.specs.Answers.{Gives, Never, read_failed}
use Rattle.bplist_objects.specs.Heads.{HasShape}
use Rattle.bplist_objects.specs.Rules.{KeepsAll}
use Rattle.bplist_objects.specs.ObjectRules.{KeepsByObject, body_rules}
use Rattle.bplist_objects.proofs.Fronts.{one_shape}
use Rattle.bplist_objects.proofs.ProperLeaves.{spells_bodies, bodies_spell}
use Rattle.bplist_cert.specs.CheckedFile.{CheckedFile, IsChecked}
use Rattle.bplist_cert.specs.Valid.{IsVouchedBy}
use Rattle.bplist_cursor.specs.LentBodies.{SpellsBytes}

-- the kinds of data and of texts of one byte a unit
abbrev IsByteKind : Kind → Type 0
IsByteKind kind = (kind ≡ kinds.Bytes) ⊎ (kind ≡ kinds.Ascii)

-- if no read failed and there is no fault, there is an answer
pub no_error : {X : Type 0} (P : X → Type 0) (r : Result X ObjectFault) → read_failed r ≡ None → Gives P Never r → ((x : X) → r ≡ Ok x → ⊥) → ⊥
no_error P (Ok x) read given none = none x refl
no_error P (Err (errors.Fault x)) read given none = given
no_error P (Err (errors.Read x)) read given none = cc read

module _ (checked : CheckedFile) (known : IsChecked checked) (honest : IsTrue checked.source.honest) (n : ℕ) (vouched : IsVouchedBy checked.certificate.heights n) where
  -- the head of such a body is all that is needed of the object
  pub spells_bytes : (head : Head) → HasShape checked.source.octets checked.frame n head → IsByteKind head.kind → (bytes : List ℕ)
      → bytes ≡ part checked.source.octets head.body head.count → SpellsBytes checked.source.octets checked.frame n bytes
  spells_bytes head has is bytes body =
      let f = checked.source.octets in
      let F = checked.frame in
      let kept : KeepsAll (KeepsByObject f F n) body_rules = ∥∥₁_elim (known.accepted honest) (hlevel props) (λ a. spells_bodies f F n _ (a.valid.vouched n vouched).spells) in
      (head, (has, bodies_spell f F n head has kept), is, body)

-- an object with another head has no such body
pub other_head : (f : List ℕ) (F : Frame) (n : ℕ) (head : Head) → HasShape f F n head → (head.kind ≡ kinds.Bytes → ⊥) → (head.kind ≡ kinds.Ascii → ⊥)
    → (bytes : List ℕ) → SpellsBytes f F n bytes → ⊥
other_head f F n head has bytes ascii l s =
    elim (subst (λ (h : Head). IsByteKind h.kind) (one_shape f F n s.0 head s.1.0 has) s.2) [ inl e ↦ bytes e | inr e ↦ ascii e ]
