-- The head of a vouched object, from call to call.
use Rattle.std.proofs.Common.{arith, ◌≡◌, ◌≤◌, ◌∙◌, ℕ, IsTrue, None, Result, Ok, Err, ap, inl, inr, subst}
use Rattle.std.proofs.lemmas.Bool.{cases_lt}
use Rattle.std.proofs.lemmas.Grind.{not_there}
use Rattle.bplist_objects.specs.declared.fault.ObjectFault.{ObjectFault}
use Rattle.bplist_objects.specs.declared.fault.ObjectFault.TheVariants as errors
use Rattle.bplist_objects.specs.declared.head.Head.{Head}
use Rattle.bplist_objects.specs.Answers.{Gives, Never, read_failed}
use Rattle.bplist_objects.specs.Heads.{Content, HasShape, IsHeadOf, Spells, content_at}
use Rattle.bplist_cert.specs.CheckedFile.{CheckedFile, IsChecked}
use Rattle.bplist_cert.specs.Valid.{IsVouchedBy}
use Rattle.bplist_c.specs.Objects.{OnObject}
use Rattle.bplist_c.specs.declared.status.Status.{Status}
use Rattle.bplist_c.specs.declared.status.Status.TheVariants as statuses

-- this is the head of a vouched object
abbrev pub IsHead : CheckedFile → ℕ → Result Head Status → Type 0
IsHead checked n answer = OnObject checked n IsHeadOf (λ head found. found ≡ Ok head) answer

-- if no read fails and no rule is broken, there is an answer
pub never_refused : {X : Type 0} (P : X → Type 0) (r : Result X ObjectFault) (e : ObjectFault) → read_failed r ≡ None → Gives P Never r → r ≡ Err e → ⊥
never_refused P (Ok x) e read given is = cc is
never_refused P (Err (errors.Fault x)) e read given is = given
never_refused P (Err (errors.Read x)) e read given is = cc read

module _ (checked : CheckedFile) (n : ℕ) where
  -- a head was found
  pub head_found : (h : Head) → IsVouchedBy checked.certificate.heights n
      → ((x : Head) → HasShape checked.source.octets checked.frame n x → h ≡ x) → IsHead checked n (Ok h)
  head_found h vouched one = record {
    none = λ no. absurd (no vouched);
    said = λ v head is. ap Ok (one head is.0);
  }

  -- the head of a vouched object can always be found
  pub head_lost : (why : Status) → IsVouchedBy checked.certificate.heights n
      → ((x : Head) → HasShape checked.source.octets checked.frame n x → ⊥) → IsHead checked n (Err why)
  head_lost why vouched no_head = record {
    none = λ no. absurd (no vouched);
    said = λ v head is. absurd (no_head head is.0);
  }

  module _ {X : Type 0} (Says : Content → Result X Status → Type 0) where
    -- what holds of the content at the head that was found holds of the object
    pub by_content : (h : Head) (answer : Result X Status) → IsHead checked n (Ok h)
        → (IsVouchedBy checked.certificate.heights n → (content : Content) → Spells checked.source.octets checked.frame n content
        → content ≡ content_at checked.source.octets checked.frame h → Says content answer)
        → OnObject checked n Spells Says answer
    by_content h answer known says = record {
      none = λ no. let e = known.none no in absurd (cc);
      said = λ vouched content spells.
          let spelled = subst (Spells checked.source.octets checked.frame n) spells.means spells in
          let f = known.said vouched spells.shape (spells.has, spelled) in
          let same : spells.shape ≡ h = cc in
          says vouched content spells (spells.means ∙ ap (content_at checked.source.octets checked.frame) same);
    }

    -- no head was found
    pub by_none : (why : Status) → IsHead checked n (Err why) → OnObject checked n Spells Says (Err why)
    by_none why known = record {
      none = λ no. let e = known.none no in let same : why ≡ statuses.NoObject = cc in ap Err same;
      said = λ vouched content spells.
          let spelled = subst (Spells checked.source.octets checked.frame n) spells.means spells in
          let f = known.said vouched spells.shape (spells.has, spelled) in absurd (cc);
    }

  module _ {X : Type 0} (Says : Head → Result X Status → Type 0) where
    -- what holds of the head that was found holds of the object
    pub by_head : (h : Head) (answer : Result X Status) → IsHead checked n (Ok h) → Says h answer → OnObject checked n IsHeadOf Says answer
    by_head h answer known says = record {
      none = λ no. let e = known.none no in absurd (cc);
      said = λ vouched head is.
          let f = known.said vouched head is in
          let same : h ≡ head = cc in
          subst (λ (x : Head). Says x answer) same says;
    }

    -- no head was found
    pub no_head : (why : Status) → IsHead checked n (Err why) → OnObject checked n IsHeadOf Says (Err why)
    no_head why known = record {
      none = λ no. let e = known.none no in let same : why ≡ statuses.NoObject = cc in ap Err same;
      said = λ vouched head is. let f = known.said vouched head is in absurd (cc);
    }

-- numbers that are not out of order are in order
stable_le : (a b : ℕ) → ((a ≤ b → ⊥) → ⊥) → a ≤ b
stable_le a b h = elim (cases_lt b a) [
  | inl bad ↦ absurd (h (λ l. omega (arith, l, bad)))
  | inr ok ↦ omega (arith, ok)
]

-- the top is vouched
pub top_vouched : (checked : CheckedFile) → IsChecked checked → IsTrue checked.source.honest → IsVouchedBy checked.certificate.heights checked.frame.top.0
top_vouched checked is honest = stable_le _ _ (λ bad. not_there (is.accepted honest) (λ a. bad a.valid.top))

-- the top has a head
pub top_has_head : (checked : CheckedFile) → IsChecked checked → IsTrue checked.source.honest
    → ((head : Head) → IsHeadOf checked.source.octets checked.frame checked.frame.top.0 head → ⊥) → ⊥
top_has_head checked is honest lost = not_there (is.accepted honest) (λ a.
    let spells = (a.valid.vouched checked.frame.top.0 a.valid.top).spells in
    lost spells.shape (spells.has, subst (Spells checked.source.octets checked.frame checked.frame.top.0) spells.means spells))
