-- An answer about the checked file of a handle is an answer about the handle.
use Rattle.std.proofs.Common.{arith, ◌≡◌, ◌<◌, ◌∙◌, ℕ, List, length, Some, Result, Err, Vec, ap, inl, inr, subst, sym}
use Rattle.std.specs.Global.{Global}
use denote.Ref.{Bor}
use Rattle.bplist_cert.specs.CheckedFile.{CheckedFile}
use Rattle.bplist_c.specs.declared.handle.BplistHandle.{BplistHandle}
use Rattle.bplist_c.specs.declared.handle.Session.{Session}
use Rattle.bplist_c.specs.declared.status.Status.{Status}
use Rattle.bplist_c.specs.Sessions.{IsRefused, OnHandle, checked_of}
use Rattle.bplist_c.specs.Statuses.{items_of}

module _ {X : Type 0} (file : Bor (List ℕ)) (handle : BplistHandle) (Says : CheckedFile → Result X Status → Type 0) where
  -- the handle lent its checked file
  pub on_lent : (s : Session) (checked : CheckedFile) (answer : Result X Status) → 0 < handle.length → handle.length ≡ length file.now
      → handle.held.value ≡ Some s → checked ≡ checked_of file s → Says checked answer → OnHandle file handle Says answer
  on_lent s checked answer some same value is said = record {
    closed = λ e. absurd (omega (arith, some, e));
    other = λ a b. absurd (b same);
    opened = λ a b t has.
        let both : Some s ≡ Some t = sym value ∙ has in
        let e : s ≡ t = cc in
        subst (λ (x : Session). Says (checked_of file x) answer) e (subst (λ (x : CheckedFile). Says x answer) is said);
  }

  -- the handle did not lend its checked file
  pub on_refused : (why : Status) → IsRefused file.now handle why → OnHandle file handle Says (Err why)
  on_refused why refused = elim refused [
    | inl r ↦ record { closed = λ e. ap Err r.1; other = λ a b. absurd (a r.0); opened = λ a b t has. absurd (a r.0) }
    | inr r ↦ record { closed = λ e. absurd (r.0 e); other = λ a b. ap Err r.2; opened = λ a b t has. absurd (r.1 b) }
  ]

  -- an answer says of the handle what follows from what it says of the lent file
  pub on_answer : {P : CheckedFile → Result X Status → Type 0} → ((checked : CheckedFile) (answer : Result X Status) → P checked answer → Says checked answer)
      → (answer : Result X Status) → OnHandle file handle P answer → OnHandle file handle Says answer
  on_answer says answer on = record {
    closed = on.closed;
    other = on.other;
    opened = λ a b s has. says (checked_of file s) answer (on.opened a b s has);
  }

-- the same of the items of an answer
module _ {Y : Type 0} (file : Bor (List ℕ)) (handle : BplistHandle) (Says : CheckedFile → Result (List Y) Status → Type 0) where
  pub on_items : {P : CheckedFile → Result (Vec Y Global) Status → Type 0}
      → ((checked : CheckedFile) (answer : Result (Vec Y Global) Status) → P checked answer → Says checked (items_of answer))
      → (answer : Result (Vec Y Global) Status) → OnHandle file handle P answer → OnHandle file handle Says (items_of answer)
  on_items says answer on = record {
    closed = λ e. ap items_of (on.closed e);
    other = λ a b. ap items_of (on.other a b);
    opened = λ a b s has. says (checked_of file s) answer (on.opened a b s has);
  }
