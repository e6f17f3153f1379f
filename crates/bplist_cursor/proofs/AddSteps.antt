-- Adding up the sizes of references, block by block.
use Rattle.std.proofs.Common.{◌≡◌, ℕ, ◌+◌, ◌≤◌, ◌<◌, List, length, take, drop, slice_index, Option, Some, None, refl, sym, ap, ◌∙◌, arith}
use Rattle.std.specs.Prelude.{option_and_then}
use Rattle.std.proofs.lemmas.List.{take-append-drop, drop-drop, drop_all, ext_get_or}
use Rattle.bplist_octets.specs.Octets.{part}
use Rattle.bplist_objects.specs.declared.frame.Frame.{Frame}
use Rattle.bplist_objects.specs.declared.head.Head.{Head}
use Rattle.bplist_objects.specs.Heads.{refs, content_at}
use Rattle.bplist_objects.specs.Safe.{ref_count}
use Rattle.bplist_objects.specs.Scan.{nth_number}
use Rattle.bplist_objects.proofs.References.{length-refs, nth-refs}
use Rattle.bplist_objects.proofs.Parts.{get_or-part}
use Rattle.bplist_objects.proofs.Units.{length-part}
use Rattle.bplist_cursor.specs.declared.sizes.Size.{Size}
use Rattle.bplist_cursor.specs.Sizes.{Table, added}
use Rattle.bplist_cursor.proofs.SizeSteps.{added-append}

-- an option that is not Some is None
pub none_of : {X : Type 0} (o : Option X) → ((x : X) → o ≡ Some x → ⊥) → o ≡ None
none_of None h = refl
none_of (Some x) h = absurd (h x refl)

-- a block and the references after it
block_front : (sizes : Table) (total : Size) (xs block : List ℕ) (from n : ℕ) → block ≡ part xs from n
    → added sizes total (drop from xs) ≡ option_and_then (λ t. added sizes t (drop (from + n) xs)) (added sizes total block)
block_front sizes total xs block from n is =
    ap (added sizes total) (sym (take-append-drop n (drop from xs)))
    ∙ added-append sizes total (take n (drop from xs)) (drop n (drop from xs))
    ∙ ap (λ l. option_and_then (λ t. added sizes t l) (added sizes total (take n (drop from xs)))) (drop-drop n from xs)
    ∙ ap (λ l. option_and_then (λ t. added sizes t (drop (from + n) xs)) (added sizes total l)) (sym is)

pub block_added : (sizes : Table) (total more whole : Size) (xs block : List ℕ) (from n : ℕ) → block ≡ part xs from n → added sizes total block ≡ Some more
    → added sizes total (drop from xs) ≡ Some whole → added sizes more (drop (from + n) xs) ≡ Some whole
block_added sizes total more whole xs block from n is here all =
    sym (ap (option_and_then (λ t. added sizes t (drop (from + n) xs))) here) ∙ sym (block_front sizes total xs block from n is) ∙ all

pub block_not : (sizes : Table) (total whole : Size) (xs block : List ℕ) (from n : ℕ) → block ≡ part xs from n → added sizes total block ≡ None
    → added sizes total (drop from xs) ≡ Some whole → ⊥
block_not sizes total whole xs block from n is here all =
    let none : None ≡ Some whole = sym (block_front sizes total xs block from n is ∙ ap (option_and_then (λ t. added sizes t (drop (from + n) xs))) here) ∙ all in
    cc none

-- the references that are read are those of the object
pub refs_block : (f : List ℕ) (F : Frame) (head : Head) (from : ℕ) (block : List ℕ) → from + length block ≤ ref_count head.kind head.count
    → ((k : ℕ) → k < length block → slice_index block k ≡ nth_number f head.body F.ref_size (from + k)) → block ≡ part (refs (content_at f F head)) from (length block)
refs_block f F head from block within numbers =
    let xs = refs (content_at f F head) in
    let all = length-refs f F head.kind head.count head.body in
    let len = length-part xs from (length block) (omega (arith, all, within)) in
    ext_get_or 0 block (part xs from (length block)) (sym len) (λ k l.
    numbers k l
    ∙ sym (nth-refs f F head.kind head.count head.body (from + k) (omega (arith, within, l)))
    ∙ sym (get_or-part xs from (length block) k 0 l))

-- nothing is left to add
pub none_left : (f : List ℕ) (F : Frame) (head : Head) (sizes : Table) (total whole : Size) (done : ℕ) → ref_count head.kind head.count ≤ done
    → added sizes total (drop done (refs (content_at f F head))) ≡ Some whole → total ≡ whole
none_left f F head sizes total whole done all is =
    let xs = refs (content_at f F head) in
    let long = length-refs f F head.kind head.count head.body in
    let here : Some total ≡ Some whole = ap (added sizes total) (sym (drop_all done xs (omega (arith, long, all)))) ∙ is in
    cc here
