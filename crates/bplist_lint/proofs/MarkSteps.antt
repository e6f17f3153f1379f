-- Steps of the walk that marks the references of one object.
use Rattle.std.proofs.Common.{◌≡◌, ◌≢◌, ℕ, ◌+◌, ◌-◌, ◌<◌, ◌≤◌, ◌⊎◌, inl, inr, Bool, true, false, List, [], ◌∷◌, ◌++◌, length, get_or, slice_index, set, take, replicate, Contains, sym, ◌∙◌, subst, below_more, arith}
use Rattle.std.proofs.lemmas.Bool.{cases_eq, cases_lt, false≢true}
use Rattle.std.proofs.lemmas.List.{get_or-set_same, get_or-set_other, get_or-take, length-take, length-take-le, get_or_default}
use Rattle.std.proofs.lemmas.List.Elements.{Contains-append_left, Contains-push, Contains-push_cases, Contains-get_or}
use Rattle.bplist_keys.specs.Marks.{IsMarked}
use Rattle.bplist_lint.specs.ReachWalk.{AreApart, Noted}
use Rattle.bplist_lint.proofs.ListWrites.{seen-set, unwritten, differ_push, differ_front, differ_last}

-- what the second of two cases leads to
pub or_then : {A B C : Type 0} → A ⊎ B → (B → C) → A ⊎ C
or_then (inl a) next = inl a
or_then (inr b) next = inr (next b)

-- ---- a stack on which no object is twice
pub apart_none : AreApart []
apart_none j k less within = absurd (omega arith)

pub apart_push : (stack : List ℕ) (m : ℕ) → AreApart stack → (Contains stack m → ⊥) → AreApart (stack ++ m ∷ [])
apart_push stack m apart new = differ_push (λ n. n) 0 stack m apart (λ j low e. new (rw e at (Contains-get_or stack j 0 low)))

pub apart_front : (stack : List ℕ) (m : ℕ) → AreApart (stack ++ m ∷ []) → AreApart stack
apart_front = differ_front (λ n. n) 0

pub apart_last : (stack : List ℕ) (m n : ℕ) → AreApart (stack ++ m ∷ []) → Contains stack n → n ≢ m
apart_last stack m n apart c e = differ_last (λ k. k) 0 stack m apart c.0 c.1 (sym (get_or_default stack c.0 n 0 c.1) ∙ c.2 ∙ e)

-- what is marked after the write was marked or is m
pub fresh-set : (marks : List Bool) (m n : ℕ) → IsMarked (set marks m true) n → IsMarked marks n ⊎ (n ≡ m)
fresh-set marks m n h = elim (cases_eq n m) [
  | inl e ↦ inr e
  | inr d ↦ inl (rw (get_or-set_other marks m n true false d) at h)
]

-- what waits is marked if it was marked before
stack_marked : (references : List ℕ) (next i : ℕ) (marks : List Bool) (stack : List ℕ) (marks' : List Bool) (stack' : List ℕ) → Noted references next i marks stack marks' stack' → ((m : ℕ) → Contains stack m → IsMarked marks m) → (m : ℕ) → Contains stack' m → IsMarked marks' m
stack_marked references next i marks stack marks' stack' s on m c = elim (s.waiting m c) [
  | inl old ↦ s.keeps_marks m (on m old)
  | inr new ↦ new.0
]

module _ (references : List ℕ) (next : ℕ) (marks : List Bool) (stack : List ℕ) where
  pub noted_none : Noted references next 0 marks stack marks stack
  noted_none = record {
    keeps_marks = λ m h. h;
    keeps_stack = λ m h. h;
    fresh = λ m h. inl h;
    waiting = λ m h. inl h;
    apart = λ on h. h;
    all = λ k low. absurd (omega arith);
  }

  module _ (i : ℕ) (marks' : List Bool) (stack' : List ℕ) (s : Noted references next i marks stack marks' stack') where
    -- a reference that was marked
    pub note_old : IsMarked marks' (get_or references i 0) → Noted references next (i + 1) marks stack marks' stack'
    note_old h = record {
      keeps_marks = s.keeps_marks;
      keeps_stack = s.keeps_stack;
      fresh = s.fresh;
      waiting = s.waiting;
      apart = s.apart;
      all = below_more _ _ s.all h;
    }

    module _ (m : ℕ) (within : i < length references) (is : m ≡ get_or references i 0) (fits : m < length marks') where
      among : Contains references m
      among = rw is (Contains-get_or references i 0 within)

      all_more : (k : ℕ) → k < i + 1 → IsMarked (set marks' m true) (get_or references k 0)
      all_more = below_more _ _ (λ k h. seen-set marks' m _ fits (s.all k h)) (rw (← is) (get_or-set_same marks' m true false fits))

      -- a reference to an object to which the walk comes later
      pub note_later : next ≤ m → Noted references next (i + 1) marks stack (set marks' m true) stack'
      note_later above = record {
        keeps_marks = λ n h. seen-set marks' m n fits (s.keeps_marks n h);
        keeps_stack = s.keeps_stack;
        fresh = λ n h. elim (fresh-set marks' m n h) [
          | inl w ↦ s.fresh n w
          | inr e ↦ inr (rw e among, inl (rw e above))
        ];
        waiting = λ n h. or_then (s.waiting n h) (λ new. (seen-set marks' m n fits new.0, new.1, new.2));
        apart = s.apart;
        all = all_more;
      }

      -- a reference that was not marked, to an object that goes onto the stack
      pub note_new : get_or marks' m false ≡ false → m < next → Noted references next (i + 1) marks stack (set marks' m true) (stack' ++ m ∷ [])
      note_new new low = record {
        keeps_marks = λ n h. seen-set marks' m n fits (s.keeps_marks n h);
        keeps_stack = λ n h. Contains-append_left stack' (m ∷ []) n (s.keeps_stack n h);
        fresh = λ n h. elim (fresh-set marks' m n h) [
          | inl w ↦ or_then (s.fresh n w) (λ p. (p.0, or_then p.1 (Contains-append_left stack' (m ∷ []) n)))
          | inr e ↦ inr (rw e among, inr (rw e (Contains-push stack' m)))
        ];
        waiting = λ n h. elim (Contains-push_cases stack' m n h) [
          | inl w ↦ or_then (s.waiting n w) (λ later. (seen-set marks' m n fits later.0, later.1, later.2))
          | inr e ↦ rw (← e) (inr (get_or-set_same marks' m true false fits, (λ before. false≢true (sym new ∙ s.keeps_marks m before)), low))
        ];
        apart = λ on apart. apart_push stack' m (s.apart on apart) (λ c. false≢true (sym new ∙ stack_marked references next i marks stack marks' stack' s on m c));
        all = all_more;
      }

    -- one more block of references
    pub noted_more : (block : List ℕ) (count : ℕ) (marks2 : List Bool) (stack2 : List ℕ) → i + count ≤ length references → length block ≡ count → ((k : ℕ) → k < count → get_or block k 0 ≡ get_or references (i + k) 0)
        → Noted block next count marks' stack' marks2 stack2 → Noted references next (i + count) marks stack marks2 stack2
    noted_more block count marks2 stack2 within long same t =
        let among : (m : ℕ) → Contains block m → Contains references m =
        λ m c. rw (← c.2, get_or_default block c.0 m 0 c.1, same c.0 (omega (arith, c.1, long))) (Contains-get_or references (i + c.0) 0 (omega (arith, c.1, long))) in
        record {
          keeps_marks = λ m h. t.keeps_marks m (s.keeps_marks m h);
          keeps_stack = λ m h. t.keeps_stack m (s.keeps_stack m h);
          fresh = λ m h. elim (t.fresh m h) [
            | inl before ↦ or_then (s.fresh m before) (λ new. (new.0, or_then new.1 (t.keeps_stack m)))
            | inr now ↦ inr (among m now.0, now.1)
          ];
          waiting = λ m h. elim (t.waiting m h) [
            | inl before ↦ or_then (s.waiting m before) (λ new. (t.keeps_marks m new.0, new.1, new.2))
            | inr now ↦ inr (now.0, (λ old. now.1 (s.keeps_marks m old)), now.2)
          ];
          apart = λ on apart. t.apart (stack_marked references next i marks stack marks' stack' s on) (s.apart on apart);
          all = λ k low. elim (cases_lt k i) [
            | inl first ↦ t.keeps_marks _ (s.all k first)
            | inr later ↦
                let e : i + (k - i) ≡ k = omega (arith, later) in
                let part : k - i < count = omega (arith, low, later) in
                rw e at (rw (same (k - i) part) at (t.all (k - i) part))
          ];
        }

-- what is named of the front of a block is named of the block
pub named_front : (keys : ℕ) (block : List ℕ) (marks : List Bool) (j m : ℕ) → j < keys → keys ≤ length block → slice_index block j ≡ m → m < length marks
    → ((k : ℕ) → k < length (take keys block) → slice_index (take keys block) k < length marks → IsMarked marks (slice_index (take keys block) k)) → IsMarked marks m
named_front keys block marks j m low few is inside named =
    let here : slice_index (take keys block) j ≡ m = get_or-take keys block j 0 low ∙ is in
    rw here at (named j (rw (length-take-le keys block few) low) (rw here inside))

-- what the front of a block has is marked if all of the block is
pub front_marked : (keys : ℕ) (block : List ℕ) (marks : List Bool) (m : ℕ) → Contains (take keys block) m → ((k : ℕ) → k < length block → IsMarked marks (slice_index block k)) → IsMarked marks m
front_marked keys block marks m c all =
    let short = length-take keys block in
    let there : slice_index block c.0 ≡ m = sym (get_or-take keys block c.0 0 (omega (arith, c.1, short))) ∙ sym (get_or_default (take keys block) c.0 m 0 c.1) ∙ c.2 in
    subst (IsMarked marks) there (all c.0 (omega (arith, c.1, short)))

-- no object is marked at first
pub none_marked : (size m : ℕ) → IsMarked (replicate size false) m → ⊥
none_marked size m is = false≢true (sym (unwritten size m false) ∙ is)
