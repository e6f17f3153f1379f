-- Equal parts make equal answers, and facts about bytes that follow from a truncated fact.
use Rattle.std.proofs.Common.{◌≡◌, ℕ, List, [], ◌∷◌, map, Bool, true, false, refl, sym, ◌∙◌}
use Rattle.std.specs.Str.{bytes_eq}
use Rattle.std.proofs.lemmas.Bool.{false≢true}
use Rattle.std.proofs.lemmas.Grind.{not_there}
use Rattle.std.proofs.lemmas.Slice.Eq.{bytes_eq-Decides}
use Rattle.bplist_objects.specs.declared.frame.ObjectNo.{ObjectNo}
use Rattle.bplist_cursor.proofs.Escapes.{not_empty}
use Rattle.bplist_lint.specs.Trail.{number}
use Rattle.bplint_lines.specs.declared.fault.Said.{Said}
use Rattle.bplint_lines.specs.Answers.{gives}

pub same_gives : (s t : Said) (xs ys : List ℕ) → s ≡ t → xs ≡ ys → gives s xs ≡ gives t ys
same_gives s t xs ys p q = λ i. gives (p i) (q i)

same_rest : (c d : ℕ) (xs ys : List ℕ) → c ∷ xs ≡ d ∷ ys → (c ≡ d) × (xs ≡ ys)
same_rest c d xs ys e = (cc, cc)

pub same_numbers : (ns ms : List ObjectNo) → map number ns ≡ map number ms → ns ≡ ms
same_numbers [] [] e = refl
same_numbers [] (m ∷ ms) e = absurd (not_empty _ _ (sym e))
same_numbers (n ∷ ns) [] e = absurd (not_empty _ _ e)
same_numbers (n ∷ ns) (m ∷ ms) e =
    let r = same_rest n.0 m.0 (map number ns) (map number ms) e in
    let rest : ns ≡ ms = same_numbers ns ms r.1 in
    λ i. record { 0 = r.0 i } ∷ rest i

-- ---- what follows from a truncated fact
module _ {P : Type 0} (t : ∥ P ∥₁) where
  bytes_by : (b : Bool) (xs ys : List ℕ) → bytes_eq xs ys ≡ b → (P → xs ≡ ys) → xs ≡ ys
  bytes_by true xs ys is from = (bytes_eq-Decides xs ys).0 is
  bytes_by false xs ys is from = absurd (not_there t (λ p. false≢true (sym is ∙ (bytes_eq-Decides xs ys).1 (from p))))

  pub open_bytes : (xs ys : List ℕ) → (P → xs ≡ ys) → xs ≡ ys
  open_bytes xs ys from = bytes_by (bytes_eq xs ys) xs ys refl from
