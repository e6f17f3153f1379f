-- What is known about a vouched object of a checked file, if its source is honest.
use Rattle.std.proofs.Common.{◌<◌, ℕ, length, slice_index, Result, Ok, Err, IfErr, IsTrue, subst}
use Rattle.std.proofs.Props.{props}
use Rattle.std.specs.List.{AllByRecursion}
use Rattle.std.proofs.lemmas.Grind.{not_there}
use Rattle.std.proofs.Math.Logic.{∥∥₁_elim}
use Rattle.std.proofs.lemmas.List.Elements.{All-get_or, All-from_recursion}
use Rattle.bplist_objects.specs.Heads.{Content, Spells, refs}
use Rattle.bplist_objects.proofs.Fronts.{one_head}
use Rattle.bplist_cert.specs.CheckedFile.{CheckedFile, IsChecked}
use Rattle.bplist_cert.specs.Valid.{IsVouchedBy}
use Rattle.bplist_cursor.specs.declared.faults.CursorFault.{CursorFault}
use Rattle.bplist_cursor.specs.Causes.{GivesCursor}
use Rattle.bplist_cursor.proofs.Causes.{IsExcused}

excused : (e : CursorFault) → ((IsExcused e → ⊥) → ⊥) → IsExcused e
excused e h = λ is. h (λ no. no is)

pub gives_weaker : {X : Type 0} (P Q : X → Type 0) (r : Result X CursorFault) → ((x : X) → P x → Q x) → GivesCursor P r → GivesCursor Q r
gives_weaker P Q (Ok x) on h = on x h
gives_weaker P Q (Err e) on h = h

module _ (checked : CheckedFile) (is : IsChecked checked) (honest : IsTrue checked.source.honest) (n : ℕ) (vouched : IsVouchedBy checked.certificate.heights n) where
  -- it spells a content, so an error that is not Changed for any content is not Changed
  pub never_changed : {X : Type 0} (P : Content → X → Type 0) (r : Result X CursorFault)
      → ((content : Content) → Spells checked.source.octets checked.frame n content → GivesCursor (P content) r) → IfErr r IsExcused
  never_changed P (Ok x) h = tt
  never_changed P (Err e) h =
      excused e (λ no. not_there (is.accepted honest) (λ a. let v = a.valid.vouched n vouched in no (h v.content v.spells)))

  -- its references are vouched for
  pub vouched_reference : (content : Content) → Spells checked.source.octets checked.frame n content → (k : ℕ) → k < length (refs content)
      → IsVouchedBy checked.certificate.heights (slice_index (refs content) k)
  vouched_reference content s k l = ∥∥₁_elim (is.accepted honest) (hlevel props) (λ a.
      let v = a.valid.vouched n vouched in
      let same = one_head checked.source.octets checked.frame n v.content content v.spells s in
      let P : ℕ → Type 0 = λ m. IsVouchedBy checked.certificate.heights m × (slice_index checked.certificate.heights m < slice_index checked.certificate.heights n) in
      let lower = subst (λ c. AllByRecursion P (refs c)) same v.lower in
      (All-get_or P (refs content) k 0 l (All-from_recursion P (refs content) lower)).0)
