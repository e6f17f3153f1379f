-- Parts of lists.
use Rattle.std.proofs.Common.{◌≡◌, ℕ, ◌+◌, ◌-◌, ◌≤◌, List, ◌++◌, arith, length, take, drop, slice_range, sym, ap, ◌∙◌, le_refl, drop_at, length-take-le, refl, subst}
use Rattle.std.specs.Prelude.{Option, Some, None, IfSome}
use Rattle.std.proofs.lemmas.List.{drop-take, take-take, drop-drop}
use Rattle.std.proofs.lemmas.Slice.{take-put_mid_below, between_is}
use borrow.Rule.Slice.PartMut.{put_mid, post_of}
use lib.Seq.{take-add, take-append-le}
use Rattle.bplist_octets.specs.Octets.{part}
use Rattle.bplist_octets.specs.Streams.{ReadsOn}

-- a slice's range of n bytes is a part of it
pub range_is_part : (xs : List ℕ) (place n : ℕ) → slice_range xs place (place + n) ≡ part xs place n
range_is_part xs place n =
    let long : (place + n) - place ≡ n = omega arith in ap (λ k. take k (drop place xs)) long

window_range : (xs ys : List ℕ) (start filled from n : ℕ) → take filled xs ≡ slice_range ys start (start + filled) → from + n ≤ filled → slice_range xs from (from + n) ≡ slice_range ys (start + from) (start + from + n)
window_range xs ys start filled from n same inside =
    let to : start + (from + n) ≡ start + from + n = omega arith in
    let fits : start + (from + n) ≤ start + filled = omega arith in
    let front : take (from + n) xs ≡ drop start (take (start + from + n) ys) =
    sym (take-take (from + n) filled xs inside)
    ∙ ap (take (from + n)) (same ∙ between_is ys start (start + filled))
    ∙ sym (drop-take start (from + n) (take (start + filled) ys))
    ∙ ap (drop start) (take-take (start + (from + n)) (start + filled) ys fits)
    ∙ ap (λ m. drop start (take m ys)) to in
    between_is xs from (from + n)
    ∙ ap (drop from) front
    ∙ drop-drop from start (take (start + from + n) ys)
    ∙ sym (between_is ys (start + from) (start + from + n))

-- a range of a window's bytes is that part of the bytes that the window shows
pub window_part : (xs ys : List ℕ) (start filled from n : ℕ) → take filled xs ≡ part ys start filled → from + n ≤ filled → slice_range xs from (from + n) ≡ part ys (start + from) n
window_part xs ys start filled from n same inside =
    window_range xs ys start filled from n (same ∙ sym (range_is_part ys start filled)) inside
    ∙ range_is_part ys (start + from) n

take_split : (a b : ℕ) (old new : List ℕ) → a ≤ b → take a new ≡ take a old → take a old ++ slice_range new a b ≡ take b new
take_split a b old new h front =
    let same : a + (b - a) ≡ b = omega arith in
    ap (λ l. l ++ slice_range new a b) (sym front) ∙ sym (take-add a (b - a) new) ∙ ap (λ n. take n new) same

slice_range-put_mid : (a k n : ℕ) (xs ys : List ℕ) → a ≤ length xs → n ≤ length ys → slice_range (put_mid a k xs ys) a (a + n) ≡ take n ys
slice_range-put_mid a k n xs ys within fits =
    let same : (a + n) - a ≡ n = omega arith in
    let after = post_of a k xs in
    ap (take ((a + n) - a)) (drop_at (take a xs) (ys ++ after) a (length-take-le a xs within)) ∙ ap (λ m. take m (ys ++ after)) same ∙ take-append-le n ys after fits

-- a write to the part of a list from a on: the list up to the first n written
pub take-put_mid_part : (a k n : ℕ) (xs ys : List ℕ) → a ≤ length xs → n ≤ length ys → take (a + n) (put_mid a k xs ys) ≡ take a xs ++ take n ys
take-put_mid_part a k n xs ys within fits =
    sym (take_split a (a + n) xs (put_mid a k xs ys) (omega arith) (take-put_mid_below _ _ _ _ _ (le_refl _) within))
    ∙ ap (λ l. take a xs ++ l) (slice_range-put_mid a k n xs ys within fits)

-- two parts, one behind the other
pub part_joined : (xs : List ℕ) (place a n : ℕ) → part xs place a ++ part xs (place + a) n ≡ part xs place (a + n)
part_joined xs place a n =
    ap (λ l. part xs place a ++ take n l) (sym (drop-drop a place xs)) ∙ sym (take-add a n (drop place xs))

-- a loop that fills a buffer, after reading n more
pub reads_more : (a k n m start mid new : ℕ) (into read : List ℕ) (known now : Option (List ℕ)) → now ≡ known → m ≡ a + n → a ≤ length into → n ≤ length read
    → ReadsOn known start mid a into → ReadsOn now mid new n read → ReadsOn known start new m (put_mid a k into read)
reads_more a k n m start mid new into read None now same is within fits before more = tt
reads_more a k n m start mid new into read (Some xs) now same is within fits before more =
    let last : ReadsOn (Some xs) mid new n read = subst (λ o. ReadsOn o mid new n read) same more in (
      ap (λ i. take i (put_mid a k into read)) is ∙ take-put_mid_part a k n into read within fits
          ∙ ap (λ l. l ++ take n read) before.0
          ∙ ap (λ l. part xs start a ++ l) (last.0 ∙ ap (λ i. part xs i n) before.1)
          ∙ part_joined xs start a n
          ∙ ap (part xs start) (sym is),
      omega (arith, before.1, last.1),
    )

-- and after a read of nothing
pub reads_same : (a k m start mid new : ℕ) (into read : List ℕ) (known now : Option (List ℕ)) → now ≡ known → m ≡ a → a ≤ length into
    → ReadsOn known start mid a into → IfSome now (λ _. new ≡ mid) → ReadsOn known start new m (put_mid a k into read)
reads_same a k m start mid new into read None now same is within before stays = tt
reads_same a k m start mid new into read (Some xs) now same is within before stays =
    let still : new ≡ mid = subst (λ o. IfSome o (λ _. new ≡ mid)) same stays in
    reads_more a k 0 m start mid new into read (Some xs) (Some xs) refl (omega arith) within (omega arith) before (refl, omega arith)
