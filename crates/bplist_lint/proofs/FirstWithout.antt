-- The first of some numbers for which something is not true.
use Rattle.std.proofs.Common.{◌≡◌, ℕ, ◌<◌, ◌≤◌, ◌↔◌, inl, inr, List, length, slice_index, sym, ap, ◌∙◌, subst, arith, Contains}
use Rattle.std.proofs.lemmas.Bool.{cases_lt}
use Rattle.std.proofs.lemmas.List.Elements.{Contains-get_or}
use Rattle.bplist_objects.specs.declared.frame.Frame.{Frame}
use Rattle.bplist_objects.specs.Heads.{Content, Spells, refs}
use Rattle.bplist_objects.specs.Reach.{Founded}
use Rattle.bplist_objects.proofs.ClaimLaws.{one_failure, fails_too}
use Rattle.bplist_lint.specs.Graph.{IsFirstWithout}

-- m is the first reference of object n that is not founded
abbrev pub IsFirstUnfounded : List ℕ → Frame → ℕ → ℕ → Type 0
IsFirstUnfounded f F n m = (c : Content) × Spells f F n c × IsFirstWithout (Founded f F) (refs c) m

-- P holds of the first ones
abbrev Hold : (ℕ → Type 0) → List ℕ → ℕ → Type 0
Hold P ns many = (k : ℕ) → k < many → P (slice_index ns k)

module _ (P : ℕ → Type 0) (ns : List ℕ) (m : ℕ) where
  pub first_at : (i : ℕ) → i < length ns → slice_index ns i ≡ m → (P m → ⊥) → ((k : ℕ) → k < i → P (slice_index ns k)) → IsFirstWithout P ns m
  first_at i within at off before = (i, (within, before, λ all. off (subst P at (all i (omega arith)))), at)

  pub first_among : IsFirstWithout P ns m → Contains ns m
  first_among first = subst (Contains ns) first.2 (Contains-get_or ns first.0 0 first.1.0)

  pub first_off : IsFirstWithout P ns m → P m → ⊥
  first_off first on = first.1.2 (λ k low. elim (cases_lt k first.0) [
    | inl before ↦ first.1.1 k before
    | inr here ↦ let e : first.0 ≡ k = omega (arith, low, here) in subst P (sym first.2 ∙ ap (slice_index ns) e) on
  ])

  -- there is only one such number
  pub one_first : (n : ℕ) → IsFirstWithout P ns m → IsFirstWithout P ns n → m ≡ n
  one_first n a b =
      let same = one_failure (Hold P ns) (λ i j few all k low. all k (omega (arith, few, low))) (length ns) a.0 b.0 a.1 b.1 in
      sym a.2 ∙ ap (slice_index ns) same ∙ b.2

-- if two claims are true of the same numbers, the same number is the first without them
pub first_too : (P Q : ℕ → Type 0) (ns : List ℕ) → ((k : ℕ) → Contains ns k → P k ↔ Q k) → (m : ℕ) → IsFirstWithout P ns m → IsFirstWithout Q ns m
first_too P Q ns same m first =
    let each : (n k : ℕ) → n ≤ length ns → k < n → P (slice_index ns k) ↔ Q (slice_index ns k) = λ n k few low. same (slice_index ns k) (Contains-get_or ns k 0 (omega (arith, few, low))) in
    (first.0, fails_too (Hold P ns) (Hold Q ns) (length ns) (λ n few all k low. (each n k few low).0 (all k low)) (λ n few all k low. (each n k few low).1 (all k low)) first.0 first.1, first.2)
