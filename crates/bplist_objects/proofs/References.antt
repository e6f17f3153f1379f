-- The references of an object by index: reference i is number i in the body.
use Rattle.std.proofs.Common.{◌≡◌, ℕ, zero, suc, ◌<◌, ◌≤◌, ◌+◌, ◌-◌, ◌*◌, ◌⊎◌, inl, inr, List, length, slice_index, refl, sym, ap, ◌∙◌, subst, arith, length-append}
use Rattle.std.specs.List.{AllByRecursion}
use Rattle.std.proofs.Math.Nat.{add-mul}
use Rattle.std.proofs.lemmas.Bool.{cases_lt}
use Rattle.std.proofs.lemmas.List.{get_or_append_left, get_or-append_right}
use Rattle.std.proofs.lemmas.List.Elements.{recursion_from_All, All-from_get_or, All-from_recursion, All-get_or}
use Rattle.bplist_objects.specs.declared.frame.Frame.{Frame}
use Rattle.bplist_objects.specs.declared.head.Kind.{Kind}
use Rattle.bplist_objects.specs.declared.head.Kind.TheVariants as kinds
use Rattle.bplist_objects.specs.Numbers.{num_at, nums_at}
use Rattle.bplist_objects.specs.Scan.{nth_number}
use Rattle.bplist_objects.specs.Heads.{Content, refs, content_of}
use Rattle.bplist_objects.specs.Safe.{ref_count}

-- a list of `count` numbers has that length
pub length-nums_at : (f : List ℕ) (place width count : ℕ) → length (nums_at f place width count) ≡ count
length-nums_at f place width zero = refl
length-nums_at f place width (suc count) = ap suc (length-nums_at f (place + width) width count)

-- number k of them is the number at its place
pub nth-nums_at : (f : List ℕ) (place width count k : ℕ) → k < count → slice_index (nums_at f place width count) k ≡ nth_number f place width k
nth-nums_at f place width zero k l = absurd (omega (arith, l))
nth-nums_at f place width (suc count) zero l = let e : place ≡ place + 0 * width = omega arith in ap (λ p. num_at f p width) e
nth-nums_at f place width (suc count) (suc k) l =
    let e : place + width + k * width ≡ place + suc k * width = omega arith in
    nth-nums_at f (place + width) width count k (omega (arith, l)) ∙ ap (λ p. num_at f p width) e

module _ (f : List ℕ) (F : Frame) where
  -- a body has as many references as its kind and count say
  pub length-refs : (kind : Kind) (count body : ℕ) → length (refs (content_of f F kind count body)) ≡ ref_count kind count
  length-refs kinds.Array count body = length-nums_at f body F.ref_size count
  length-refs kinds.Set count body = length-nums_at f body F.ref_size count
  length-refs kinds.Dict count body =
      let keys = length-nums_at f body F.ref_size count in
      let values = length-nums_at f (body + count * F.ref_size) F.ref_size count in
      length-append (nums_at f body F.ref_size count) (nums_at f (body + count * F.ref_size) F.ref_size count) ∙ omega (arith, keys, values)
  length-refs _ count body = refl

  -- the references of keys come first, and then those of values
  nth_of_dict : (count body i : ℕ) → i < 2 * count → (i < count) ⊎ (count ≤ i) → slice_index (refs (content_of f F kinds.Dict count body)) i ≡ nth_number f body F.ref_size i
  nth_of_dict count body i l (inl key) =
      let keys = nums_at f body F.ref_size count in
      let values = nums_at f (body + count * F.ref_size) F.ref_size count in
      let len = length-nums_at f body F.ref_size count in
      get_or_append_left keys values 0 i (omega (arith, len, key)) ∙ nth-nums_at f body F.ref_size count i key
  nth_of_dict count body i l (inr value) =
      let keys = nums_at f body F.ref_size count in
      let values = nums_at f (body + count * F.ref_size) F.ref_size count in
      let j = i - count in
      let split : count + j ≡ i = omega (arith, value) in
      let e : body + count * F.ref_size + j * F.ref_size ≡ body + i * F.ref_size = omega (arith, add-mul count j F.ref_size, ap (λ x. x * F.ref_size) split) in
      get_or-append_right keys values count i 0 (length-nums_at f body F.ref_size count) value
      ∙ nth-nums_at f (body + count * F.ref_size) F.ref_size count j (omega (arith, l, value))
      ∙ ap (λ p. num_at f p F.ref_size) e

  -- reference i is number i of the body
  pub nth-refs : (kind : Kind) (count body i : ℕ) → i < ref_count kind count → slice_index (refs (content_of f F kind count body)) i ≡ nth_number f body F.ref_size i
  nth-refs kinds.Array count body i l = nth-nums_at f body F.ref_size count i l
  nth-refs kinds.Set count body i l = nth-nums_at f body F.ref_size count i l
  nth-refs kinds.Dict count body i l = nth_of_dict count body i l (cases_lt i count)
  nth-refs _ count body i l = absurd (omega (arith, l))

  module _ (P : ℕ → Type 0) (kind : Kind) (count body : ℕ) where
    -- what holds of each number of the body holds of all references
    pub all_refs : ((i : ℕ) → i < ref_count kind count → P (nth_number f body F.ref_size i)) → AllByRecursion P (refs (content_of f F kind count body))
    all_refs h =
        let len = length-refs kind count body in
        recursion_from_All P _ (All-from_get_or P _ 0 (λ i l.
        let i1 : i < ref_count kind count = omega (arith, l, len) in
        subst P (sym (nth-refs kind count body i i1)) (h i i1)))

    -- what holds of all references holds of each number of the body
    pub each_ref : AllByRecursion P (refs (content_of f F kind count body)) → (i : ℕ) → i < ref_count kind count → P (nth_number f body F.ref_size i)
    each_ref a i l =
        let len = length-refs kind count body in
        subst P (nth-refs kind count body i l) (All-get_or P _ i 0 (omega (arith, l, len)) (All-from_recursion P _ a))

  -- ---- a dictionary: the references to its keys, and then as many to its values
  -- a content that is a dictionary is that of a dictionary's body
  pub dict_parts : (kind : Kind) (count body : ℕ) (ks ms : List ℕ) → Content.dict ks ms ≡ content_of f F kind count body
      → (kind ≡ kinds.Dict) × (ks ≡ nums_at f body F.ref_size count) × (ms ≡ nums_at f (body + count * F.ref_size) F.ref_size count)
  dict_parts kinds.Dict count body ks ms e = (refl, cc e, cc e)
  dict_parts _ count body ks ms e = cc e

  -- a dictionary has as many keys as values
  pub as_many : (kind : Kind) (count body : ℕ) (ks ms : List ℕ) → Content.dict ks ms ≡ content_of f F kind count body → (length ks ≡ count) × (length ms ≡ count)
  as_many kind count body ks ms e =
      let parts = dict_parts kind count body ks ms e in
      (ap length parts.1 ∙ length-nums_at f body F.ref_size count, ap length parts.2 ∙ length-nums_at f (body + count * F.ref_size) F.ref_size count)
