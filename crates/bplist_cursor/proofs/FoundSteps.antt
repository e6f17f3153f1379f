-- What the certificate of a checked file says about the object that a path leads to.
use Rattle.std.proofs.Common.{arith, ◌≡◌, ◌<◌, ◌≤◌, ◌+◌, ℕ, zero, suc, List, [], ◌∷◌, length, map, drop, slice_index_or, Result, Ok, Err, refl, sym, ap, ◌∙◌, subst, IsTrue, Contains, Some, None}
use Rattle.std.specs.List.{sum_by}
use Rattle.std.proofs.lemmas.List.Sums.{sum_by-cons}
use Rattle.std.proofs.Props.{props}
use Rattle.std.proofs.lemmas.Grind.{not_there}
use Rattle.std.proofs.Math.Logic.{∥∥₁_map, ∥∥₁_elim}
use Rattle.bplist_objects.specs.declared.frame.Frame.{Frame}
use Rattle.bplist_objects.specs.Value.{Value}
use Rattle.bplist_objects.specs.Heads.{Content, Spells, refs}
use Rattle.bplist_objects.specs.Holds.{Holds}
use Rattle.bplist_objects.proofs.Fronts.{one_head}
use Rattle.bplist_cert.proofs.VouchedObjects.{object_holds, references_lower}
use Rattle.bplist_cert.specs.Valid.{IsVouchedBy, IsValid}
use Rattle.bplist_cert.specs.CheckedFile.{CheckedFile, IsChecked}
use Rattle.bplist_cursor.specs.Look.{stepped, look}
use Rattle.bplist_cursor.specs.Leads.{LeadTo}
use Rattle.bplist_cursor.specs.Found.{IsHeld}
use Rattle.bplist_cursor.specs.KeySearch.{halvings, RisesAtMost}
use Rattle.bplist_cursor.specs.Asked.{path_bytes, step_bytes}
use Rattle.bplist_cert.specs.Lists.{Keyed}
use Rattle.std.specs.Prelude.{Option}
use Rattle.bplist_cursor.proofs.AskedSteps.{on_either, value_bytes}
use Rattle.bplist_cursor.specs.declared.node.Why.{Why}
use Rattle.std.specs.Bool.{⊤}
use Rattle.bplist_cursor.specs.Causes.{GivesCursor, read_failed}
use Rattle.bplist_cursor.proofs.Causes.{IsUnread, IsExcused}
use Rattle.bplist_cursor.specs.Kept.{OnlyReadsFile}
use Rattle.bplist_octets.proofs.Sources.{never_fails}
use Rattle.bplist_cursor.specs.declared.faults.Unread.{Unread}
use Rattle.bplist_cursor.specs.declared.faults.Unread.TheVariants as unread
use Rattle.bplist_cursor.specs.declared.faults.CursorFault.{CursorFault}
use Rattle.bplist_cursor.proofs.Counts.{few_refs}
use Rattle.bplist_cursor.proofs.IndexSteps.{halvings_here}
use Rattle.bplist_cursor.proofs.StepObjects.{leads_held}
use Rattle.bplist_cursor.proofs.StepReferences.{taken_there}

pub split_at : {X : Type 0} (units : X → List ℕ) (xs : List X) (k : ℕ) (d : X) → k < length xs → drop k (map units xs) ≡ units (slice_index_or xs k d) ∷ drop (suc k) (map units xs)
split_at units [] k d l = absurd (omega arith)
split_at units (x ∷ xs) zero d l = refl
split_at units (x ∷ xs) (suc k) d l = split_at units xs k d (omega arith)

-- one more step, over any source
pub step_asked : (steps : List (List ℕ)) (k : ℕ) (s : List ℕ) (positions start now after : ℕ) → drop k steps ≡ s ∷ drop (suc k) steps
    → now + sum_by (step_bytes positions) (drop k steps) ≤ start + sum_by (step_bytes positions) steps → after ≤ now + step_bytes positions s
    → after + sum_by (step_bytes positions) (drop (k + 1) steps) ≤ start + sum_by (step_bytes positions) steps
step_asked steps k s positions start now after split before one =
    let sum = ap (sum_by (step_bytes positions)) split ∙ sum_by-cons (step_bytes positions) s (drop (suc k) steps) in
    let next : suc k ≡ k + 1 = omega arith in
    subst (λ m. after + sum_by (step_bytes positions) (drop m steps) ≤ start + sum_by (step_bytes positions) steps) next (omega (arith, before, one, sum))

pub drop_all : {X : Type 0} (units : X → List ℕ) (xs : List X) → drop (length xs) (map units xs) ≡ []
drop_all units [] = refl
drop_all units (x ∷ xs) = drop_all units xs

module _ (checked : CheckedFile) where
  -- after k steps and this many comparisons the walk is at object n, and `now` bytes have been asked for
  pub record Along (v : Value) (steps : List (List ℕ)) (k n before comparisons start now : ℕ) : Type 0 where
    pub value : Value
    pub led : look k value (drop k steps) ≡ look 0 v steps
    pub holds : IsHeld checked n value
    pub leads : (m : ℕ) → LeadTo checked.source.octets checked.frame n (drop k steps) m → LeadTo checked.source.octets checked.frame checked.frame.top.0 steps m
    pub spent : RisesAtMost checked (before + halvings v steps) (comparisons + halvings value (drop k steps)) 0
    pub asked : now + path_bytes checked.certificate.keys value (drop k steps) ≤ start + path_bytes checked.certificate.keys v steps

module _ (checked : CheckedFile) (is : IsChecked checked) (honest : IsTrue checked.source.honest) where
  abbrev f : List ℕ
  f = checked.source.octets

  abbrev F : Frame
  F = checked.frame

  abbrev heights : List ℕ
  heights = checked.certificate.heights

  pub valid : ∥ IsValid f F heights ∥₁
  valid = ∥∥₁_map (is.accepted honest) (λ a. a.valid)

  -- the top is vouched for
  pub top_vouched : IsVouchedBy heights F.top.0
  top_vouched = ∥∥₁_elim valid (hlevel props) (λ p. p.top)

  -- each object that a vouched object refers to is vouched for
  pub lower_vouched : (n m : ℕ) (content : Content) → IsVouchedBy heights n → Spells f F n content → Contains (refs content) m → IsVouchedBy heights m
  lower_vouched n m content vouched s c = ∥∥₁_elim valid (hlevel props) (λ p. (references_lower f F heights p n m vouched (content, s, c)).0)

  -- a vouched object holds a value
  pub value_there : (n : ℕ) → IsVouchedBy heights n → ∥ ((v : Value) × Holds f F n v) ∥₁
  value_there n vouched = ∥∥₁_map valid (λ p. let h = object_holds f F heights p n vouched in (h.0, h.1))

  pub begin : (v : Value) (steps : List (List ℕ)) (before start : ℕ) → Holds f F F.top.0 v → Along checked v steps 0 F.top.0 before before start start
  begin v steps before start h = record { value = v; led = refl; holds = (top_vouched, h); leads = λ m l. l; spent = λ keyed e. omega arith; asked = omega arith }

  abbrev lists : Option Keyed
  lists = checked.certificate.keys

  -- the first step asks for no more than all of them
  first_bytes : (v : Value) (s : List ℕ) (rest : List (List ℕ)) → path_bytes lists v (s ∷ []) ≤ path_bytes lists v (s ∷ rest)
  first_bytes v s rest = either (stepped v s)
    where
      either : (r : Result Value Why) → 36 + value_bytes lists v s + on_either r (λ w. 0) (λ why. 0) ≤ 36 + value_bytes lists v s + on_either r (λ w. path_bytes lists w rest) (λ why. 0)
      either (Ok w) = omega arith
      either (Err y) = omega arith

  module _ (v : Value) (steps : List (List ℕ)) (k n before comparisons more start now after : ℕ) (s : List ℕ) (e : drop k steps ≡ s ∷ drop (suc k) steps) (a : Along checked v steps k n before comparisons start now) where
    pub on : (m : ℕ) → RisesAtMost checked comparisons more (halvings a.value (s ∷ [])) → after ≤ now + path_bytes lists a.value (s ∷ []) → LeadTo f F n (s ∷ []) m
        → Along checked v steps (k + 1) m before more start after
    on m rises asks b =
        let q = leads_held f F (one_head f F) a.value n s m a.holds.1 (λ h sp. few_refs f F (is.framed honest) n h sp) b in
        let z : suc k ≡ k + 1 = omega arith in
        let there = taken_there f F a.value n s b.1 a.holds.1 b.0 b.2 b.3 in
        record {
          value = q.0;
          led = sym (ap (λ d. look k a.value d) e ∙ ap (λ x. on_either x (λ w. look (k + 1) w (drop (suc k) steps)) (λ why. Err (k, why))) q.1 ∙ ap (λ j. look (k + 1) q.0 (drop j steps)) z) ∙ a.led;
          holds = (subst (IsVouchedBy heights) b.4 (lower_vouched n b.1 b.0 a.holds.0 b.2 there), q.2);
          leads = λ j l. a.leads j (subst (λ d. LeadTo f F n d j) (sym e) (b.0, b.1, b.2, b.3, subst (λ i. LeadTo f F b.1 (drop i steps) j) (sym z) (subst (λ x. LeadTo f F x (drop (k + 1) steps) j) (sym b.4) l)));
          spent = λ keyed has.
              let here = ap (λ x. halvings_here a.value + on_either x (λ w. 0) (λ why. 0)) q.1 in
              let sum = ap (λ d. halvings a.value d) e ∙ ap (λ x. halvings_here a.value + on_either x (λ w. halvings w (drop (suc k) steps)) (λ why. 0)) q.1 ∙ ap (λ j. halvings_here a.value + halvings q.0 (drop j steps)) z in
              omega (arith, a.spent keyed has, rises keyed has, here, sum);
          asked =
              (let old = a.asked in
              let here = ap (λ x. 36 + value_bytes lists a.value s + on_either x (λ w. 0) (λ why. 0)) q.1 in
              let sum = ap (λ d. path_bytes lists a.value d) e ∙ ap (λ x. 36 + value_bytes lists a.value s + on_either x (λ w. path_bytes lists w (drop (suc k) steps)) (λ why. 0)) q.1 ∙ ap (λ j. 36 + value_bytes lists a.value s + path_bytes lists q.0 (drop j steps)) z in
              omega (arith, old, asks, here, sum));
        }

    -- wherever the walk stops, no more has been asked for than all the steps ask for
    pub asked_off : after ≤ now + path_bytes lists a.value (s ∷ []) → after ≤ start + path_bytes lists v steps
    asked_off asks =
        let sum = ap (λ d. path_bytes lists a.value d) e in
        omega (arith, a.asked, asks, first_bytes a.value s (drop (suc k) steps), sum)

    pub off : (y : Why) → stepped a.value s ≡ Err y → look 0 v steps ≡ Err (k, y)
    off y x = sym a.led ∙ ap (λ d. look k a.value d) e ∙ ap (λ x. on_either x (λ w. look (k + 1) w (drop (suc k) steps)) (λ why. Err (k, why))) x

    pub spent_off : (y : Why) → stepped a.value s ≡ Err y → RisesAtMost checked comparisons more (halvings a.value (s ∷ [])) → RisesAtMost checked before more (halvings v steps)
    spent_off y x rises keyed has =
        let here = ap (λ x. halvings_here a.value + on_either x (λ w. 0) (λ why. 0)) x in
        let sum = ap (λ d. halvings a.value d) e ∙ ap (λ x. halvings_here a.value + on_either x (λ w. halvings w (drop (suc k) steps)) (λ why. 0)) x in
        omega (arith, a.spent keyed has, rises keyed has, here, sum)

  module _ (v : Value) (steps : List (List ℕ)) (k n before comparisons start now : ℕ) (e : drop k steps ≡ []) (a : Along checked v steps k n before comparisons start now) where
    pub done : LeadTo f F F.top.0 steps n × IsVouchedBy heights n × ((w : Value) × (look 0 v steps ≡ Ok w) × Holds f F n w)
    done = (a.leads n (subst (λ d. LeadTo f F n d n) (sym e) refl), a.holds.0, (a.value, sym a.led ∙ ap (λ d. look k a.value d) e, a.holds.1))

    pub spent_done : RisesAtMost checked before comparisons (halvings v steps)
    spent_done keyed has = let old = a.spent keyed has in omega (arith, old)

    pub asked_done : now ≤ start + path_bytes lists v steps
    asked_done = let old = a.asked in omega (arith, old)

  -- one step from an object that is vouched for
  pub one_step : (v : Value) (n : ℕ) (s : List ℕ) (m : ℕ) → IsHeld checked n v → LeadTo f F n (s ∷ []) m
      → LeadTo f F n (s ∷ []) m × IsVouchedBy heights m × ((w : Value) × (look 0 v (s ∷ []) ≡ Ok w) × Holds f F m w)
  one_step v n s m held leads =
      let q = leads_held f F (one_head f F) v n s m held.1 (λ c sp. few_refs f F (is.framed honest) n c sp) leads in
      let there = taken_there f F v n s leads.1 held.1 leads.0 leads.2 leads.3 in (
        leads,
        subst (IsVouchedBy heights) leads.4 (lower_vouched n leads.1 leads.0 held.0 leads.2 there),
        (q.0, ap (λ x. on_either x (λ w. look 1 w []) (λ why. Err (0, why))) q.1, q.2),
      )

  -- the reason why nothing was read is right if it is right for any value of the object
  pub unread_for : (n : ℕ) → IsVouchedBy heights n → (e : Unread) → ((v : Value) → Holds f F n v → IsUnread e) → IsUnread e
  unread_for n vouched e h = λ is. not_there (value_there n vouched) (λ p. h p.0 p.1 is)

  -- the reason why there is no answer is right in the same way
  pub excused_for : (n : ℕ) → IsVouchedBy heights n → (e : CursorFault) → ((v : Value) → Holds f F n v → IsExcused e) → IsExcused e
  excused_for n vouched e h = λ is. not_there (value_there n vouched) (λ p. h p.0 p.1 is)

  -- what is true of the answer for any value of the object is true of it without a value
  pub quiet : (n : ℕ) → IsVouchedBy heights n → {X : Type 0} (P : Value → X → Type 0) (r : Result X CursorFault)
      → ((v : Value) → Holds f F n v → GivesCursor (P v) r) → GivesCursor (λ _. ⊤) r
  quiet n vouched P (Ok x) h = tt
  quiet n vouched P (Err e) h = excused_for n vouched e h

-- one step that can't be taken
pub no_step : (v : Value) (s : List ℕ) (why : Why) → stepped v s ≡ Err why → look 0 v (s ∷ []) ≡ Err (0, why)
no_step v s why is = ap (λ x. on_either x (λ w. look 1 w []) (λ why. Err (0, why))) is

-- a source without failures has not failed
pub never_read : (old new : CheckedFile) (e : Unread) → OnlyReadsFile (read_failed {X = ⊤} (Err e)) old new → new.source.failures ≡ 0 → IsUnread e → ⊥
never_read old new (unread.Read x) k z h =
    let before : old.source.failures ≡ 0 = omega (arith, k.0.rises, z) in
    let no_read : Some x ≡ None = never_fails (Some x) old.source new.source before z k.0 in
    cc no_read
never_read old new unread.Changed k z h = h refl
