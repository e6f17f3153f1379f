-- The length of a text's old-style form, block by block.
use Rattle.std.proofs.Common.{◌≡◌, ℕ, ◌+◌, ◌≤◌, ◌<◌, Bool, true, false, ◌&&◌, if◌then◌else◌, List, [], ◌∷◌, ◌++◌, length, take, refl, sym, ap, ap₂, ◌∙◌, arith, flat_map, ◌⊎◌, inl, inr}
use Rattle.std.specs.List.{list_all}
use Rattle.std.proofs.Math.Seq.{take-add}
use Rattle.std.proofs.lemmas.List.{take_all, length-append}
use Rattle.std.proofs.lemmas.List.Folds.{list_all-append}
use Rattle.std.proofs.lemmas.Grind.{flat_map-append}
use Rattle.bplist_octets.specs.Octets.{part}
use Rattle.bplist_cursor.specs.Nodes.{cap}
use Rattle.std.specs.Char.{is_ascii_alphanumeric}
use Rattle.bplist_cursor.specs.Texts.{quoted_unit, quoted, text_of_units}

-- the units so far are plain, with those of a block
pub plain_more : (us block : List ℕ) (done n : ℕ) (before here : Bool) → before ≡ list_all is_ascii_alphanumeric (take done us) → block ≡ part us done n → here ≡ list_all is_ascii_alphanumeric block
    → (before && here) ≡ list_all is_ascii_alphanumeric (take (done + n) us)
plain_more us block done n before here b is h =
    ap₂ (λ x y. x && y) b (h ∙ ap (list_all is_ascii_alphanumeric) is)
    ∙ sym (list_all-append is_ascii_alphanumeric (take done us) (part us done n))
    ∙ ap (list_all is_ascii_alphanumeric) (sym (take-add done n us))

-- the units so far between quotes, with those of a block
pub quoted_more : (us block : List ℕ) (done n before here : ℕ) → before ≡ cap (2 + length (flat_map quoted_unit (take done us))) → block ≡ part us done n
    → here ≡ length (flat_map quoted_unit block)
    → cap (before + here) ≡ cap (2 + length (flat_map quoted_unit (take (done + n) us)))
quoted_more us block done n before here b is h =
    let all : flat_map quoted_unit (take (done + n) us) ≡ flat_map quoted_unit (take done us) ++ flat_map quoted_unit (part us done n) =
    ap (flat_map quoted_unit) (take-add done n us) ∙ flat_map-append quoted_unit (take done us) (part us done n) in
    let long : length (flat_map quoted_unit (take (done + n) us)) ≡ length (flat_map quoted_unit (take done us)) + length (flat_map quoted_unit (part us done n)) =
    ap length all ∙ length-append (flat_map quoted_unit (take done us)) (flat_map quoted_unit (part us done n)) in
    let same : here ≡ length (flat_map quoted_unit (part us done n)) = h ∙ ap (λ l. length (flat_map quoted_unit l)) is in
    omega (arith, b, long, same)

plain_text : (us : List ℕ) → list_all is_ascii_alphanumeric us ≡ true → 0 < length us → text_of_units us ≡ us
plain_text [] p l = absurd (omega arith)
plain_text (u ∷ us) p l = ap (λ b. if b then u ∷ us else quoted (u ∷ us)) p

quoted_text : (us : List ℕ) → (list_all is_ascii_alphanumeric us ≡ false) ⊎ (length us ≡ 0) → text_of_units us ≡ quoted us
quoted_text [] p = refl
quoted_text (u ∷ us) (inl p) = ap (λ b. if b then u ∷ us else quoted (u ∷ us)) p
quoted_text (u ∷ us) (inr e) = absurd (omega (arith, e))

length-quoted : (us : List ℕ) → length (quoted us) ≡ 2 + length (flat_map quoted_unit us)
length-quoted us = omega (arith, length-append (flat_map quoted_unit us) (0x22 ∷ []))

-- all units are plain, and there are some
pub plain_length : (us : List ℕ) (n : ℕ) → length us ≡ n → true ≡ list_all is_ascii_alphanumeric (take n us) → 0 < n → n ≤ 18446744073709551615 → n ≡ cap (length (text_of_units us))
plain_length us n e p l fits =
    let all = take_all n us (omega (arith, e)) in
    let is = plain_text us (sym (p ∙ ap (list_all is_ascii_alphanumeric) all)) (omega (arith, e, l)) in
    omega (arith, e, fits, ap length is)

-- some unit is not plain, or there is none
pub quoted_text_length : (us : List ℕ) (n q : ℕ) → length us ≡ n → (false ≡ list_all is_ascii_alphanumeric (take n us)) ⊎ (n ≡ 0) → q ≡ cap (2 + length (flat_map quoted_unit (take n us)))
    → q ≡ cap (length (text_of_units us))
quoted_text_length us n q e p is =
    let all = take_all n us (omega (arith, e)) in
    q_is all (quoted_text us (elim p [ inl not ↦ inl (sym (not ∙ ap (list_all is_ascii_alphanumeric) all)) | inr z ↦ inr (e ∙ z) ]))
  where
    q_is : take n us ≡ us → text_of_units us ≡ quoted us → q ≡ cap (length (text_of_units us))
    q_is all text = omega (arith, is ∙ ap (λ l. cap (2 + length (flat_map quoted_unit l))) all, ap length text, length-quoted us)
