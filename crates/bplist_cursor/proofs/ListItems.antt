-- A list that is made item by item gets one more.
use Rattle.std.proofs.Common.{arith, ◌≡◌, ◌<◌, ℕ, suc, ◌+◌, List, [], ◌∷◌, ◌++◌, map, take, length, slice_index_or, refl, sym, ap, ◌∙◌}
use Rattle.std.proofs.Math.Seq.{take-suc}
use Rattle.std.proofs.lemmas.List.{map-append}

-- the next item of the list itself
pub pushed : {A : Type 0} (xs ys : List A) (k : ℕ) (x d : A) → k < length ys → xs ≡ take k ys → x ≡ slice_index_or ys k d → xs ++ x ∷ [] ≡ take (k + 1) ys
pushed xs ys k x d l e h =
    let z : suc k ≡ k + 1 = omega arith in
    ap (λ l. l ++ x ∷ []) e ∙ ap (λ y. take k ys ++ y ∷ []) h ∙ sym (take-suc ys k d l) ∙ ap (λ j. take j ys) z

-- what is asked for the next item
pub asked : {A B : Type 0} (q : A → B) (xs : List B) (qs : List A) (k : ℕ) (x : B) (d : A) → k < length qs → xs ≡ map q (take k qs) → x ≡ q (slice_index_or qs k d) → xs ++ x ∷ [] ≡ map q (take (k + 1) qs)
asked q xs qs k x d l e h =
    ap (λ l. l ++ x ∷ []) e ∙ ap (λ y. map q (take k qs) ++ y ∷ []) h
    ∙ sym (map-append q (take k qs) (slice_index_or qs k d ∷ [])) ∙ ap (map q) (pushed (take k qs) qs k _ d l refl refl)
