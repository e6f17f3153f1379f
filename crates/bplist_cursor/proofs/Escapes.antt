-- Path texts and their loose `~`, as lists of characters.
use Rattle.std.proofs.Common.{◌≡◌, ◌≢◌, ◌⊎◌, inl, inr, ℕ, zero, suc, ◌<◌, ◌==◌, Bool, true, false, cond, List, [], ◌∷◌, ◌++◌, arith, length, take, drop, flat_map, refl, sym, ap, ◌∙◌, subst, append_assoc, append-nil}
use Rattle.std.specs.Prelude.{encode_utf8_all, slice_get, Some, None}
use Rattle.std.specs.Str.{chars}
use Rattle.std.proofs.Math.Seq.{drop-append_seam, take-append_seam, drop-nil}
use Rattle.std.proofs.lemmas.Bool.Decides.{nat_tests}
use Rattle.bplist_cursor.specs.Path.{escaped, IsPathOf, IsLoose, IsWrong, IsNoPath}
use Rattle.bplist_cursor.specs.Tokens.{IsClosed}

-- the path text of tokens
abbrev pub written : List (List ℕ) → List ℕ
written tokens = flat_map (λ token. 0x2F ∷ flat_map escaped token) tokens

pub closed-nil : IsClosed []
closed-nil rest k low = absurd (omega (arith, low))

pub closed-cons : (c : ℕ) (xs : List ℕ) → c ≢ 0x7E → IsClosed xs → IsClosed (c ∷ xs)
closed-cons c xs other closed rest zero low loose = other (cc loose.0)
closed-cons c xs other closed rest (suc k) low loose = closed rest k (omega (arith, low)) loose

pub closed-append : (xs ys : List ℕ) → IsClosed xs → IsClosed ys → IsClosed (xs ++ ys)
closed-append [] ys p q rest k low loose = q rest k low loose
closed-append (x ∷ xs) ys p q rest zero low loose = p (ys ++ rest) 0 (omega arith) (subst IsLoose (ap (λ l. x ∷ l) (append_assoc xs ys rest)) loose)
closed-append (x ∷ xs) ys p q rest (suc k) low loose = closed-append xs ys (λ r j l. p r (suc j) (omega (arith, l))) q rest k (omega (arith, low)) loose

-- a `~` followed by `0` or `1` is not loose
pub closed_pair : (d : ℕ) (xs : List ℕ) → (d ≡ 0x30) ⊎ (d ≡ 0x31) → IsClosed xs → IsClosed (0x7E ∷ d ∷ xs)
closed_pair d xs is closed rest zero low loose = elim is [ inl p ↦ loose.1 (ap Some p) | inr p ↦ loose.2 (ap Some p) ]
closed_pair d xs is closed rest (suc k) low loose =
    let other : d ≢ 0x7E = λ e. elim is [ inl p ↦ omega (arith, e, p) | inr p ↦ omega (arith, e, p) ] in
    closed-cons d xs other closed rest k (omega (arith, low)) loose

-- by the two tests of `escaped`
closed_by : (a b : Bool) (c : ℕ) (xs : List ℕ) → (a ≡ false → c ≢ 0x7E) → IsClosed xs
    → IsClosed (cond a (0x7E ∷ 0x30 ∷ []) (cond b (0x7E ∷ 0x31 ∷ []) (c ∷ [])) ++ xs)
closed_by true b c xs other closed = closed_pair 0x30 xs (inl refl) closed
closed_by false true c xs other closed = closed_pair 0x31 xs (inr refl) closed
closed_by false false c xs other closed = closed-cons c xs (other refl) closed

not_by : (c d : ℕ) → (c == d) ≡ false → c ≢ d
not_by c d e is = grind (arith, nat_tests)

pub closed_escaped : (c : ℕ) (xs : List ℕ) → IsClosed xs → IsClosed (escaped c ++ xs)
closed_escaped c xs closed = closed_by (c == 0x7E) (c == 0x2F) c xs (not_by c 0x7E) closed

pub closed_token : (token : List ℕ) (xs : List ℕ) → IsClosed xs → IsClosed (flat_map escaped token ++ xs)
closed_token [] xs closed = closed
closed_token (c ∷ cs) xs closed =
    subst IsClosed (sym (append_assoc (escaped c) (flat_map escaped cs) xs)) (closed_escaped c (flat_map escaped cs ++ xs) (closed_token cs xs closed))

pub closed_written : (tokens : List (List ℕ)) (xs : List ℕ) → IsClosed xs → IsClosed (written tokens ++ xs)
closed_written [] xs closed = closed
closed_written (t ∷ ts) xs closed =
    closed-cons 0x2F ((flat_map escaped t ++ written ts) ++ xs) (λ e. omega (arith, e))
    (subst IsClosed (sym (append_assoc (flat_map escaped t) (written ts) xs)) (closed_token t (written ts ++ xs) (closed_written ts xs closed)))

loose_within : (cs : List ℕ) (k : ℕ) → IsLoose (drop k cs) → k < length cs
loose_within [] k loose = let none : None ≡ Some 0x7E = (subst IsLoose (drop-nil k) loose).0 in absurd (cc none)
loose_within (c ∷ cs) zero loose = omega arith
loose_within (c ∷ cs) (suc k) loose = let h = loose_within cs k loose in omega (arith, h)

-- a path text has no loose `~`
written_not_loose : (cs : List ℕ) (k : ℕ) (tokens : List (List ℕ)) → IsLoose (drop k cs) → cs ≡ written tokens → ⊥
written_not_loose cs k tokens loose is =
    let all : cs ≡ written tokens ++ [] = is ∙ sym (append-nil (written tokens)) in
    closed_written tokens [] closed-nil [] k (omega (arith, loose_within cs k loose, ap length all))
    (subst (λ xs. IsLoose (drop k xs)) (all ∙ sym (append-nil (written tokens ++ []))) loose)

-- a path text is not wrong
pub written_not_wrong : (cs : List ℕ) (k : ℕ) (tokens : List (List ℕ)) → IsWrong cs k → cs ≡ written tokens → ⊥
written_not_wrong cs k [] (inl other) is = let long = ap length is in omega (arith, long, other.1)
written_not_wrong cs k (t ∷ ts) (inl other) is = other.2 (ap (λ xs. slice_get xs 0) is)
written_not_wrong cs k tokens (inr loose) is = written_not_loose cs k tokens loose is

-- a wrong text spells no steps
pub wrong_no_path : (text : List ℕ) (k : ℕ) → IsWrong (chars text) k → (steps : List (List ℕ)) → ¬ IsPathOf text steps
wrong_no_path text k wrong steps (tokens, spelled, _) = written_not_wrong (chars text) k tokens wrong spelled

-- a loose `~` after characters without one that begin with `/`
pub first_wrong : (text front tail rest : List ℕ) → chars text ≡ front ++ tail → chars text ≡ 0x2F ∷ rest → IsClosed front → IsLoose tail → IsNoPath text (length (encode_utf8_all front))
first_wrong text front tail rest is begins closed loose =
    let wrong : IsWrong (chars text) (length front) = inr (subst IsLoose (sym (ap (drop (length front)) is ∙ drop-append_seam front tail)) loose) in
    record {
      none = wrong_no_path text (length front) wrong;
      before = length front;
      wrong = wrong;
      first = λ k low w. elim w [ inl other ↦ other.2 (ap (λ xs. slice_get xs 0) begins) | inr l ↦ closed tail k low (subst (λ xs. IsLoose (drop k xs)) is l) ];
      counted = ap (λ xs. length (encode_utf8_all xs)) (sym (ap (take (length front)) is ∙ take-append_seam front tail));
    }

-- the escape of one character says which it is

pub same_first : (c d : ℕ) (xs ys : List ℕ) → c ∷ xs ≡ d ∷ ys → c ≡ d
same_first c d xs ys e = cc

same_rest : (c d : ℕ) (xs ys : List ℕ) → c ∷ xs ≡ d ∷ ys → xs ≡ ys
same_rest c d xs ys e = cc

not_same : (c d : ℕ) (xs ys : List ℕ) → c ≢ d → c ∷ xs ≡ d ∷ ys → ⊥
not_same c d xs ys n e = n (same_first c d xs ys e)

same_by : (a b a' b' : Bool) (c d : ℕ) (xs ys : List ℕ) → (a ≡ true → c ≡ 0x7E) → (b ≡ true → c ≡ 0x2F) → (a' ≡ true → d ≡ 0x7E) → (b' ≡ true → d ≡ 0x2F)
    → (a ≡ false → c ≢ 0x7E) → (a' ≡ false → d ≢ 0x7E)
    → cond a (0x7E ∷ 0x30 ∷ []) (cond b (0x7E ∷ 0x31 ∷ []) (c ∷ [])) ++ xs ≡ cond a' (0x7E ∷ 0x30 ∷ []) (cond b' (0x7E ∷ 0x31 ∷ []) (d ∷ [])) ++ ys
    → (c ≡ d) × (xs ≡ ys)
same_by true b true b' c d xs ys p q p' q' n n' e = (p refl ∙ sym (p' refl), same_rest 0x30 0x30 xs ys (same_rest 0x7E 0x7E _ _ e))
same_by true b false true c d xs ys p q p' q' n n' e = absurd (not_same 0x30 0x31 xs ys (λ h. omega (arith, h)) (same_rest 0x7E 0x7E _ _ e))
same_by false true true b' c d xs ys p q p' q' n n' e = absurd (not_same 0x31 0x30 xs ys (λ h. omega (arith, h)) (same_rest 0x7E 0x7E _ _ e))
same_by false true false true c d xs ys p q p' q' n n' e = (q refl ∙ sym (q' refl), same_rest 0x31 0x31 xs ys (same_rest 0x7E 0x7E _ _ e))
same_by false false false false c d xs ys p q p' q' n n' e = (same_first c d xs ys e, same_rest c d xs ys e)
same_by false false _ _ c d xs ys p q p' q' n n' e = absurd (n refl (same_first c 0x7E xs _ e))
same_by _ _ _ _ c d xs ys p q p' q' n n' e = absurd (n' refl (sym (same_first 0x7E d _ ys e)))

is_by : (c d : ℕ) → (c == d) ≡ true → c ≡ d
is_by c d e = grind (arith, nat_tests)

same_escaped : (c d : ℕ) (xs ys : List ℕ) → escaped c ++ xs ≡ escaped d ++ ys → (c ≡ d) × (xs ≡ ys)
same_escaped c d xs ys e =
    same_by (c == 0x7E) (c == 0x2F) (d == 0x7E) (d == 0x2F) c d xs ys (is_by c 0x7E) (is_by c 0x2F) (is_by d 0x7E) (is_by d 0x2F) (not_by c 0x7E) (not_by d 0x7E) e

-- no escape begins with `/`
not_slash_by : (a b : Bool) (c : ℕ) (xs ys : List ℕ) → (b ≡ false → c ≢ 0x2F) → cond a (0x7E ∷ 0x30 ∷ []) (cond b (0x7E ∷ 0x31 ∷ []) (c ∷ [])) ++ xs ≡ 0x2F ∷ ys → ⊥
not_slash_by false false c xs ys n e = n refl (same_first c 0x2F xs ys e)
not_slash_by _ _ c xs ys n e = not_same 0x7E 0x2F _ ys (λ h. omega (arith, h)) e

pub not_empty : (c : ℕ) (xs : List ℕ) → c ∷ xs ≡ [] → ⊥
not_empty c xs e = cc

not_empty_by : (a b : Bool) (c : ℕ) (xs : List ℕ) → cond a (0x7E ∷ 0x30 ∷ []) (cond b (0x7E ∷ 0x31 ∷ []) (c ∷ [])) ++ xs ≡ [] → ⊥
not_empty_by false false c xs e = not_empty _ _ e
not_empty_by _ _ c xs e = not_empty _ _ e

not_written : (c : ℕ) (xs : List ℕ) (tokens : List (List ℕ)) → escaped c ++ xs ≡ written tokens → ⊥
not_written c xs [] e = not_empty_by (c == 0x7E) (c == 0x2F) c xs e
not_written c xs (t ∷ ts) e = not_slash_by (c == 0x7E) (c == 0x2F) c xs (flat_map escaped t ++ written ts) (not_by c 0x2F) e

same_token : (t u : List ℕ) (ts us : List (List ℕ)) → flat_map escaped t ++ written ts ≡ flat_map escaped u ++ written us → (t ≡ u) × (written ts ≡ written us)
same_token [] [] ts us e = (refl, e)
same_token [] (d ∷ ds) ts us e = absurd (not_written d (flat_map escaped ds ++ written us) ts (sym (append_assoc (escaped d) (flat_map escaped ds) (written us)) ∙ sym e))
same_token (c ∷ cs) [] ts us e = absurd (not_written c (flat_map escaped cs ++ written ts) us (sym (append_assoc (escaped c) (flat_map escaped cs) (written ts)) ∙ e))
same_token (c ∷ cs) (d ∷ ds) ts us e =
    let h = same_escaped c d (flat_map escaped cs ++ written ts) (flat_map escaped ds ++ written us)
    (sym (append_assoc (escaped c) (flat_map escaped cs) (written ts)) ∙ e ∙ append_assoc (escaped d) (flat_map escaped ds) (written us)) in
    let r = same_token cs ds ts us h.1 in
    let p : c ≡ d = h.0 in
    let q : cs ≡ ds = r.0 in
    (cc, r.1)

-- a path text is that of one list of tokens
pub same_written : (ts us : List (List ℕ)) → written ts ≡ written us → ts ≡ us
same_written [] [] e = refl
same_written [] (u ∷ us) e = absurd (not_empty _ _ (sym e))
same_written (t ∷ ts) [] e = absurd (not_empty _ _ e)
same_written (t ∷ ts) (u ∷ us) e =
    let tail : flat_map escaped t ++ written ts ≡ flat_map escaped u ++ written us = same_rest 0x2F 0x2F _ _ e in
    let h = same_token t u ts us tail in
    let p : t ≡ u = h.0 in
    let q : ts ≡ us = same_written ts us h.1 in
    cc
