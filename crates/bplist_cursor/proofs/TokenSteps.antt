-- What is read of a path text.
use Rattle.std.proofs.Common.{◌≡◌, ◌≢◌, ◌⊎◌, inl, inr, ℕ, ◌+◌, Bool, true, false, List, [], ◌∷◌, ◌++◌, arith, length, take, map, flat_map, refl, sym, ap, ◌∙◌, subst, append_assoc, append-nil, IsTrue}
use Rattle.std.specs.Prelude.{encode_utf8_all, encode_utf8, Some}
use Rattle.std.specs.Str.{chars}
use Rattle.std.specs.Str.Iter.{char_indices_rest, char_indices_offset}
use Rattle.std.specs.declared.str.CharIndices.{CharIndices}
use Rattle.std.specs.Char.Escape.{encode_utf16}
use Rattle.std.proofs.lemmas.List.{length-append, map-append}
use Rattle.std.proofs.lemmas.Grind.{flat_map-append}
use Rattle.std.proofs.lemmas.Str.{chars_past_char, IsUtf8-past_char, chars-nil, encodes-append}
use Rattle.bplist_cursor.specs.Path.{escaped, units, IsPathOf, IsLoose, IsWrong, IsNoPath}
use Rattle.bplist_cursor.specs.Tokens.{IsReadable, Reads, IsClosed, MeetsLoose, left, slash}
use Rattle.bplist_cursor.specs.PathFaults.{OnText}
use Rattle.bplist_cursor.specs.declared.path.PathFault.{PathFault}
use Rattle.bplist_cursor.specs.declared.path.PathFault.TheVariants.{Text, Memory}
use Rattle.bplist_cursor.proofs.Escapes.{written, closed-nil, closed-append, closed_written, closed-cons, first_wrong, wrong_no_path}

-- a token in a path text, with its `/`
abbrev written_token : List ℕ → List ℕ
written_token token = 0x2F ∷ flat_map escaped token

-- one character was read
pub reads_char : (s t : CharIndices) (c : ℕ) → IsReadable s → char_indices_rest s ≡ encode_utf8 c ++ char_indices_rest t
    → char_indices_offset t ≡ char_indices_offset s + length (encode_utf8 c) → Reads s t (c ∷ [])
reads_char s t c r spelled counted = record {
  read = chars_past_char (char_indices_rest s) (char_indices_rest t) c r.utf8 spelled;
  counted = counted ∙ ap (λ xs. char_indices_offset s + length xs) (sym (append-nil (encode_utf8 c)));
  after = record {
    utf8 = IsUtf8-past_char (char_indices_rest s) (char_indices_rest t) c r.utf8 spelled;
    fits = omega (arith, r.fits, ap length spelled, counted, length-append (encode_utf8 c) (char_indices_rest t));
  };
}

-- the bytes of two texts, one after the other
length-encoded : (xs ys : List ℕ) → length (encode_utf8_all (xs ++ ys)) ≡ length (encode_utf8_all xs) + length (encode_utf8_all ys)
length-encoded xs ys = ap length (encodes-append xs ys) ∙ length-append (encode_utf8_all xs) (encode_utf8_all ys)

pub reads_nothing : (s : CharIndices) → IsReadable s → Reads s s []
reads_nothing s r = record { read = refl; counted = omega arith; after = r }

pub reads_more : (s t u : CharIndices) (xs ys : List ℕ) → Reads s t xs → Reads t u ys → Reads s u (xs ++ ys)
reads_more s t u xs ys p q = record {
  read = p.read ∙ ap (λ l. xs ++ l) q.read ∙ sym (append_assoc xs ys (left u));
  counted = omega (arith, p.counted, q.counted, length-encoded xs ys);
  after = q.after;
}

-- if no bytes are left, no characters are
pub left_none : (s : CharIndices) → length (char_indices_rest s) ≡ 0 → left s ≡ []
left_none s none = ap chars (empty (char_indices_rest s) none) ∙ chars-nil
  where
    empty : (xs : List ℕ) → length xs ≡ 0 → xs ≡ []
    empty [] e = refl
    empty (x ∷ xs) e = absurd (omega (arith, e))

-- what is met later is met now
pub meets_later : (s t : CharIndices) (front : List ℕ) (place : ℕ) → Reads s t front → IsClosed front → MeetsLoose t place → MeetsLoose s place
meets_later s t front place p closed m = record {
  front = front ++ m.front;
  tail = m.tail;
  read = p.read ∙ ap (λ l. front ++ l) m.read ∙ sym (append_assoc front m.front m.tail);
  closed = closed-append front m.front closed m.closed;
  loose = m.loose;
  counted = omega (arith, p.counted, m.counted, length-encoded front m.front);
}

-- a `~` at the end
pub loose_end : (c : ℕ) (xs : List ℕ) → c ≡ 0x7E → xs ≡ [] → IsLoose (c ∷ xs)
loose_end c xs is e = subst (λ l. IsLoose (c ∷ l)) (sym e) (ap Some is, λ h. cc h, λ h. cc h)

-- a `~` before another character
pub loose_before : (c : ℕ) (xs : List ℕ) (d : ℕ) (ys : List ℕ) → c ≡ 0x7E → xs ≡ d ∷ ys → d ≢ 0x30 → d ≢ 0x31 → IsLoose (c ∷ xs)
loose_before c xs d ys is e m n = subst (λ l. IsLoose (c ∷ l)) (sym e) (ap Some is, λ h. m (cc h), λ h. n (cc h))

-- a loose `~` that is met now
pub meets_now : (s t : CharIndices) (c place : ℕ) → Reads s t (c ∷ []) → place ≡ char_indices_offset s → IsLoose (c ∷ left t) → MeetsLoose s place
meets_now s t c place p is loose = record {
  front = [];
  tail = c ∷ left t;
  read = p.read;
  closed = closed-nil;
  loose = loose;
  counted = omega (arith, is);
}

-- a part of a token was read, and its units added
pub record IsReading (old now : CharIndices) (before after : List ℕ) : Type 0 where
  pub token : List ℕ
  pub read : Reads old now (flat_map escaped token)
  pub added : after ≡ before ++ units token

pub reading_starts : (s : CharIndices) (step : List ℕ) → IsReadable s → IsReading s s step step
reading_starts s step r = record { token = []; read = reads_nothing s r; added = sym (append-nil step) }

-- one more character
pub reading_more : (s t u v : CharIndices) (c d : ℕ) (more before step step' : List ℕ) → IsReading s t before step → Reads t u (c ∷ []) → Reads u v more
    → escaped d ≡ c ∷ more → step' ≡ step ++ encode_utf16 d → IsReading s v before step'
reading_more s t u v c d more before step step' r p q is add = record {
  token = r.token ++ d ∷ [];
  read = subst (Reads s v) (ap (λ l. flat_map escaped r.token ++ l) (sym is ∙ sym (append-nil (escaped d))) ∙ sym (flat_map-append escaped r.token (d ∷ [])))
      (reads_more s t v (flat_map escaped r.token) (c ∷ more) r.read (reads_more t u v (c ∷ []) more p q));
  added = add ∙ ap (λ l. l ++ encode_utf16 d) r.added ∙ append_assoc before (units r.token) (encode_utf16 d)
      ∙ ap (λ l. before ++ l) (ap (λ l. units r.token ++ l) (sym (append-nil (encode_utf16 d))) ∙ sym (flat_map-append encode_utf16 r.token (d ∷ [])));
}

-- the tokens read so far, up to the `/` that begins the next one
pub record IsParsing (text : List ℕ) (now : CharIndices) (goes_on : Bool) (steps : List (List ℕ)) : Type 0 where
  pub tokens : List (List ℕ)
  pub read : chars text ≡ (written tokens ++ slash goes_on) ++ left now
  pub counted : char_indices_offset now ≡ length (encode_utf8_all (written tokens ++ slash goes_on))
  pub readable : IsReadable now
  pub ended : IsTrue goes_on ⊎ (left now ≡ [])
  pub steps_are : steps ≡ map units tokens

pub parsing_starts : (s t : CharIndices) (text : List ℕ) → char_indices_rest s ≡ text → char_indices_offset s ≡ 0 → Reads s t (0x2F ∷ []) → IsParsing text t true []
parsing_starts s t text is at p = record {
  tokens = [];
  read = ap chars (sym is) ∙ p.read;
  counted = omega (arith, p.counted, at);
  readable = p.after;
  ended = inl refl;
  steps_are = refl;
}

-- one more token
pub parsing_more : (text : List ℕ) (s t : CharIndices) (on : Bool) (steps steps' : List (List ℕ)) (token : List ℕ) → IsParsing text s true steps
    → Reads s t (flat_map escaped token ++ slash on) → IsTrue on ⊎ (left t ≡ []) → steps' ≡ steps ++ units token ∷ [] → IsParsing text t on steps'
parsing_more text s t on steps steps' token p r ended is =
    let written_on : (written p.tokens ++ 0x2F ∷ []) ++ (flat_map escaped token ++ slash on) ≡ written (p.tokens ++ token ∷ []) ++ slash on =
    append_assoc (written p.tokens) (0x2F ∷ []) (flat_map escaped token ++ slash on)
    ∙ sym (append_assoc (written p.tokens) (written_token token) (slash on))
    ∙ ap (λ l. (written p.tokens ++ l) ++ slash on) (sym (append-nil (written_token token)))
    ∙ ap (λ l. l ++ slash on) (sym (flat_map-append written_token p.tokens (token ∷ []))) in
    record {
      tokens = p.tokens ++ token ∷ [];
      read = p.read ∙ ap (λ l. (written p.tokens ++ 0x2F ∷ []) ++ l) r.read
          ∙ sym (append_assoc (written p.tokens ++ 0x2F ∷ []) (flat_map escaped token ++ slash on) (left t)) ∙ ap (λ l. l ++ left t) written_on;
      counted =
          let long = ap (λ xs. length (encode_utf8_all xs)) (sym written_on) ∙ length-encoded (written p.tokens ++ 0x2F ∷ []) (flat_map escaped token ++ slash on) in
          omega (arith, p.counted, r.counted, long);
      readable = r.after;
      ended = ended;
      steps_are = is ∙ ap (λ l. l ++ units token ∷ []) p.steps_are ∙ sym (map-append units p.tokens (token ∷ []));
    }

-- all of the text was read
pub parsing_ends : (text : List ℕ) (s : CharIndices) (steps : List (List ℕ)) → IsParsing text s false steps → IsPathOf text steps
parsing_ends text s steps p = (
  p.tokens,
  p.read ∙ ap (λ l. (written p.tokens ++ []) ++ l) (elim p.ended [ inl t ↦ absurd (cc) | inr e ↦ e ])
      ∙ append-nil (written p.tokens ++ []) ∙ append-nil (written p.tokens),
  p.steps_are,
)

-- the empty text has no steps
pub empty_text : (text : List ℕ) (s : CharIndices) → char_indices_rest s ≡ text → length (char_indices_rest s) ≡ 0 → IsPathOf text []
empty_text text s is none = ([], ap chars (sym is) ∙ left_none s none, refl)

-- a path text is empty or begins with `/`
pub not_begun : (text : List ℕ) (c : ℕ) (cs : List ℕ) → chars text ≡ c ∷ cs → c ≢ 0x2F → IsNoPath text 0
not_begun text c cs is other =
    let wrong : IsWrong (chars text) 0 = subst (λ l. IsWrong l 0) (sym is) (inl (refl, omega arith, λ e. other (cc e))) in
    record {
      none = wrong_no_path text 0 wrong;
      before = 0;
      wrong = wrong;
      first = λ k low w. omega (arith, low);
      counted = ap (λ l. length (encode_utf8_all (take 0 l))) (sym is);
    }

-- a token with a loose `~`
pub not_read : (text : List ℕ) (s : CharIndices) (steps : List (List ℕ)) (place : ℕ) → IsParsing text s true steps → MeetsLoose s place → IsNoPath text place
not_read text s steps place p m =
    let front : List ℕ = (written p.tokens ++ 0x2F ∷ []) ++ m.front in
    let all : chars text ≡ front ++ m.tail = p.read ∙ ap (λ l. (written p.tokens ++ 0x2F ∷ []) ++ l) m.read ∙ sym (append_assoc (written p.tokens ++ 0x2F ∷ []) m.front m.tail) in
    let closed : IsClosed front = closed-append (written p.tokens ++ 0x2F ∷ []) m.front (closed_written p.tokens (0x2F ∷ []) (closed-cons 0x2F [] (λ e. omega (arith, e)) closed-nil)) m.closed in
    let at : place ≡ length (encode_utf8_all front) = omega (arith, p.counted, m.counted, length-encoded (written p.tokens ++ 0x2F ∷ []) m.front) in
    let begun = begins p.tokens (m.front ++ m.tail) in
    let is : chars text ≡ 0x2F ∷ begun.0 = all ∙ append_assoc (written p.tokens ++ 0x2F ∷ []) m.front m.tail ∙ begun.1 in
    subst (IsNoPath text) (sym at) (first_wrong text front m.tail begun.0 all is closed m.loose)
  where
    begins : (tokens : List (List ℕ)) (xs : List ℕ) → (ys : List ℕ) × ((written tokens ++ 0x2F ∷ []) ++ xs ≡ 0x2F ∷ ys)
    begins [] xs = (xs, refl)
    begins (t ∷ ts) xs = (_, refl)

-- refused memory says nothing about the text
pub fails_at : (text : List ℕ) (s : CharIndices) (steps : List (List ℕ)) (e : PathFault) → IsParsing text s true steps → OnText (MeetsLoose s) e → OnText (IsNoPath text) e
fails_at text s steps (Text place) p m = not_read text s steps place p m
fails_at text s steps Memory p m = tt
