-- Texts in memory, one after the other.
use Rattle.std.proofs.Common.{◌≡◌, ℕ, ◌+◌, ◌-◌, ◌<◌, ◌≤◌, List, [], ◌∷◌, ◌++◌, length, take, drop, set, slice_index, refl, sym, ap, ap₂, ◌∙◌, inl, inr, arith}
use Rattle.std.proofs.lemmas.Bool.{cases_eq}
use Rattle.std.proofs.lemmas.List.{append-nil, take_at, drop_all, length-drop, length-append, get_or_append_left, get_or-append-add, take_all, take-append-le, drop_at, drop-append-le}
use borrow.Rule.Slice.PartMut.{post_of}
use Rattle.bplist_octets.specs.Octets.{part}
use Rattle.bplist_keys.specs.declared.key_texts.KeyTexts.{KeyTexts}
use Rattle.bplist_keys.specs.declared.sorting.Item.{Item}
use Rattle.bplist_keys.specs.Groups.{item_at}
use Rattle.bplist_keys.specs.KeyTexts.{IsTextBehind, IsHeld}
use Rattle.bplist_keys.proofs.Merging.{put_here, put_other}

-- a list whose end was written
pub filled : (old end into us : List ℕ) (xs : List ℕ) (start : ℕ) → xs ≡ old ++ end → length old ≡ start → into ≡ us → take start xs ++ (into ++ post_of start (length xs - start) xs) ≡ old ++ us
filled old end into us xs start is size units =
    let rest : post_of start (length xs - start) xs ≡ [] = drop_all (length xs - start) (drop start xs) (omega (arith, length-drop start xs)) in
    ap₂ (λ a b. a ++ b) (ap (take start) is ∙ take_at old end start size) (ap (λ none. into ++ none) rest ∙ append-nil into ∙ units)

-- the texts of the first `count` items are in memory, and no others
pub record AreRead (text : ℕ → List ℕ) (texts : KeyTexts) (xs : List Item) (count : ℕ) : Type 0 where
  pub many : length texts.starts.items ≡ count + 1
  pub last : slice_index texts.starts.items count ≡ length texts.units.items
  pub held : (k : ℕ) → k < count → IsHeld text texts (item_at xs k)

module _ (us : List ℕ) (old new : KeyTexts) (b : IsTextBehind us old new) where
  longer : length new.units.items ≡ length old.units.items + length us
  longer = ap length b.units ∙ length-append old.units.items us

  more : length new.starts.items ≡ length old.starts.items + 1
  more = ap length b.starts ∙ length-append old.starts.items (length new.units.items ∷ [])

  start_same : (k : ℕ) → k < length old.starts.items → slice_index new.starts.items k ≡ slice_index old.starts.items k
  start_same k low = ap (λ starts. slice_index starts k) b.starts ∙ get_or_append_left old.starts.items (length new.units.items ∷ []) 0 k low

  start_last : (k : ℕ) → k ≡ length old.starts.items → slice_index new.starts.items k ≡ length new.units.items
  start_last k e =
      let zero : length old.starts.items + 0 ≡ k = omega (arith, e) in
      ap (λ starts. slice_index starts k) b.starts ∙ rw zero at (get_or-append-add old.starts.items (length new.units.items ∷ []) 0 0)

  part_same : (start n : ℕ) → start + n ≤ length old.units.items → part new.units.items start n ≡ part old.units.items start n
  part_same start n low =
      ap (λ all. part all start n) b.units
      ∙ ap (take n) (drop-append-le start old.units.items us (omega (arith, low)))
      ∙ take-append-le n (drop start old.units.items) us (omega (arith, low, length-drop start old.units.items))

  held_still : (text : ℕ → List ℕ) (x : Item) → IsHeld text old x → IsHeld text new x
  held_still text x h =
      let here = start_same x.group (omega (arith, h.inside)) in
      let next = start_same (x.group + 1) h.inside in
      record {
        inside = omega (arith, h.inside, more);
        order = omega (arith, h.order, here, next);
        within = omega (arith, h.within, next, longer);
        units = rw (here, next) (part_same (slice_index old.starts.items x.group) (slice_index old.starts.items (x.group + 1) - slice_index old.starts.items x.group) (omega (arith, h.order, h.within)) ∙ h.units);
      }

  -- one more text
  pub held_more : (text : ℕ → List ℕ) (xs : List Item) (count : ℕ) (x : Item) → count < length xs → us ≡ text x.object → x.group ≡ count
      → AreRead text old xs count → AreRead text new (set xs count x) (count + 1)
  held_more text xs count x room is group h =
      let begin : slice_index new.starts.items count ≡ length old.units.items = start_same count (omega (arith, h.many)) ∙ h.last in
      let end : slice_index new.starts.items (count + 1) ≡ length new.units.items = start_last (count + 1) (sym h.many) in
      let size : length new.units.items - length old.units.items ≡ length us = omega (arith, longer) in
      let own : IsHeld text new x = record {
        inside = omega (arith, more, h.many, group);
        order = rw (group, begin, end) (omega (arith, longer));
        within = rw (group, end) (omega arith);
        units = rw (group, begin, end, size) (
            ap (λ all. part all (length old.units.items) (length us)) b.units
            ∙ ap (take (length us)) (drop_at old.units.items us (length old.units.items) refl)
            ∙ take_all (length us) us (omega arith)
            ∙ is);
      } in
      record {
        many = omega (arith, more, h.many);
        last = end;
        held = λ k low. elim (cases_eq k count) [
          | inl e ↦ rw (e, put_here xs count x room) own
          | inr d ↦ rw (put_other xs count k x d) (held_still text (item_at xs k) (h.held k (omega (arith, low, d))))
        ];
      }

-- an item has the index of its text also while fronts change
pub held_in : (text : ℕ → List ℕ) (old new : KeyTexts) (x : Item) → new.units.items ≡ old.units.items → new.starts.items ≡ old.starts.items
    → IsHeld text old x → IsHeld text new x
held_in text old new x units starts h = record {
  inside = rw starts h.inside;
  order = rw starts h.order;
  within = rw (starts, units) h.within;
  units = rw (starts, units) h.units;
}
