-- The units of a text by index: unit k is number k in the body.
use Rattle.std.proofs.Common.{◌≡◌, ℕ, ◌+◌, ◌*◌, ◌<◌, ◌≤◌, List, length, slice_index, drop, sym, ap, ◌∙◌, arith, inl, inr, ◌⊎◌}
use Rattle.std.proofs.lemmas.List.{ext_get_or, length-take-le, length-drop}
use Rattle.bplist_octets.specs.Octets.{part}
use Rattle.bplist_objects.specs.declared.head.Kind.{Kind}
use Rattle.bplist_objects.specs.declared.head.Kind.TheVariants as kinds
use Rattle.bplist_objects.specs.Numbers.{num_at}
use Rattle.bplist_objects.specs.Scan.{nth_number, AreNumbers}
use Rattle.bplist_objects.specs.Announced.{item_size}
use Rattle.bplist_objects.specs.Units.{IsTextKind, units_at}
use Rattle.bplist_objects.proofs.Parts.{num-part_one, get_or-part}
use Rattle.bplist_objects.proofs.ScanLaws.{nth_number-behind}
use Rattle.bplist_objects.proofs.References.{length-nums_at, nth-nums_at}

-- the two kinds of texts
pub text_kind : (kind : Kind) → (kind ≡ kinds.Ascii) ⊎ (kind ≡ kinds.Wide) → IsTextKind kind
text_kind kind (inl e) = rw e tt
text_kind kind (inr e) = rw e tt

-- the length of a part that is inside
pub length-part : (xs : List ℕ) (place n : ℕ) → place + n ≤ length xs → length (part xs place n) ≡ n
length-part xs place n h =
    let left = length-drop place xs in
    length-take-le n (drop place xs) (omega (arith, left))

module _ (f : List ℕ) where
  pub length-units_at : (kind : Kind) (count at : ℕ) → IsTextKind kind → at + count * item_size 1 kind ≤ length f → length (units_at f kind count at) ≡ count
  length-units_at kinds.Ascii count at t h = length-part f at count (omega arith)
  length-units_at kinds.Wide count at t h = length-nums_at f at 2 count
  length-units_at _ count at t h = absurd t

  pub nth-units_at : (kind : Kind) (count at k : ℕ) → IsTextKind kind → at + count * item_size 1 kind ≤ length f → k < count → slice_index (units_at f kind count at) k ≡ nth_number f at (item_size 1 kind) k
  nth-units_at kinds.Ascii count at k t h l =
      let e : at + k ≡ at + k * 1 = omega arith in
      get_or-part f at count k 0 l ∙ sym (num-part_one f (at + k) (omega arith)) ∙ ap (λ p. num_at f p 1) e
  nth-units_at kinds.Wide count at k t h l = nth-nums_at f at 2 count k l
  nth-units_at _ count at k t h l = absurd t

  -- the numbers at the place of a part of the units are that part
  pub units_part : (kind : Kind) (count at from n : ℕ) (us : List ℕ) → IsTextKind kind → at + count * item_size 1 kind ≤ length f → from + n ≤ count → length us ≡ n
      → AreNumbers f (at + from * item_size 1 kind) (item_size 1 kind) us → us ≡ part (units_at f kind count at) from n
  units_part kind count at from n us t h w e numbers =
      let all = length-units_at kind count at t h in
      let len = length-part (units_at f kind count at) from n (omega (arith, all)) in
      ext_get_or 0 us (part (units_at f kind count at) from n) (e ∙ sym len) (λ k l.
      numbers k l
      ∙ nth_number-behind f at (item_size 1 kind) from k
      ∙ sym (nth-units_at kind count at (from + k) t h (omega arith))
      ∙ sym (get_or-part (units_at f kind count at) from n k 0 (omega (arith, l, e))))
