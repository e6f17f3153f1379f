-- Members that are read into a buffer.
use Rattle.std.proofs.Common.{arith, ◌≡◌, ◌<◌, ◌≤◌, ◌+◌, ◌*◌, ◌-◌, ◌/◌, ◌%◌, ◌^◌, ◌∙◌, ◌++◌, min, ℕ, take, List, Option, Some, None, Ok, inl, inr, length, slice_index, slice_get, refl, sym, ap, subst}
use Rattle.std.specs.List.{AllByRecursion}
use Rattle.std.proofs.lemmas.Bool.{cases_lt}
use Rattle.std.proofs.Math.Nat.{mul-le-mul_left}
use Rattle.std.proofs.lemmas.List.{get_or-append_right, get_or-take, get_or_append_left, length-take-le}
use Rattle.std.proofs.lemmas.Option.{same_Some, slice_get-get_or, slice_get_past}
use Rattle.bplist_objects.specs.declared.frame.Frame.{Frame}
use Rattle.bplist_objects.specs.declared.head.Head.{Head}
use Rattle.bplist_objects.specs.declared.head.Kind.{Kind}
use Rattle.bplist_objects.specs.declared.head.Kind.TheVariants as kinds
use Rattle.bplist_objects.specs.Frame.{IsFrame}
use Rattle.bplist_objects.specs.Heads.{Content, Spells, content_at, refs}
use Rattle.bplist_objects.specs.Safe.{ref_count}
use Rattle.bplist_objects.specs.Scan.{nth_number, ref}
use Rattle.bplist_objects.proofs.FrameTies.{numbered}
use Rattle.bplist_objects.proofs.ProperLeaves.{refs_below}
use Rattle.bplist_objects.proofs.References.{each_ref, nth-refs}
use Rattle.bplist_cursor.specs.declared.node.Node.{Node}
use Rattle.bplist_cursor.specs.Members.{IsNumberOf, member_reference, named, node_of}
use Rattle.bplist_cursor.proofs.Membership.{no_node, node_of_number}
use Rattle.bplist_c.specs.Members.{AreSpelled, MembersSay}

-- the object of a node that is named, or none
named_object : (o : Option ℕ) (m : ℕ) → Some (node_of m) ≡ named o → o ≡ Some m
named_object None m e = cc e
named_object (Some x) m e = ap (λ (node : Node). Some node.object.0) (sym (same_Some (node_of m) (node_of x) e))

none_named : (o : Option ℕ) → None ≡ named o → o ≡ None
none_named None e = refl
none_named (Some x) e = cc e

-- each member is one of the references
pub number_of_member : (kind : Kind) (count i : ℕ) → i < ref_count kind count → (r : ℕ) × IsNumberOf kind count i r × (r < ref_count kind count)
number_of_member kinds.Array count i l = (i, refl, l)
number_of_member kinds.Set count i l = (i, refl, l)
number_of_member kinds.Dict count i l = elim (cases_lt (i % 2) 1) [
  | inl even ↦ (i / 2, ((λ j e. omega (arith, e)), (λ j e. absurd (omega (arith, e, even)))), omega (arith, l))
  | inr odd ↦ (count + i / 2, ((λ j e. absurd (omega (arith, e, odd))), (λ j e. omega (arith, e))), omega (arith, l))
]
number_of_member _ count i l = absurd (omega (arith, l))

-- members whose references follow one another
in_order : (kind : Kind) (count i number : ℕ) → (kind ≡ kinds.Dict → ⊥) → IsNumberOf kind count i number → number ≡ i
in_order kinds.Dict count i number other is = absurd (other refl)
in_order _ count i number other is = is

module _ (f : List ℕ) (F : Frame) (head : Head) (from : ℕ) where
  -- these are the references from number `start` on
  abbrev pub AreRow : ℕ → List ℕ → Type 0
  AreRow start row = (k : ℕ) → k < length row → slice_index row k ≡ nth_number f head.body F.ref_size (start + k)

  pub row_spelled : (row objects : List ℕ) → (head.kind ≡ kinds.Dict → ⊥) → length objects ≡ length row → AreRow from row
      → ((k : ℕ) → k < length objects → slice_index objects k ≡ slice_index row k % 2 ^ 32) → AreSpelled f F head from objects
  row_spelled row objects other len read each = λ k number l is.
      each k l ∙ ap (λ x. x % 2 ^ 32) (read k (omega (arith, l, len))
      ∙ ap (nth_number f head.body F.ref_size) (sym (in_order head.kind head.count (from + k) number other is)))

  -- an even member is a key, and an odd one a value
  abbrev pub AreInTurn : List ℕ → List ℕ → List ℕ → ℕ → Type 0
  AreInTurn keys values objects count = (k : ℕ) → k < count
      → ((from % 2 + k) % 2 ≡ 0 → slice_index objects k ≡ slice_index keys ((from % 2 + k) / 2) % 2 ^ 32)
      × ((from % 2 + k) % 2 ≡ 1 → slice_index objects k ≡ slice_index values ((from % 2 + k) / 2) % 2 ^ 32)

  pub pairs_spelled : (keys values objects : List ℕ) (pairs : ℕ) → head.kind ≡ kinds.Dict → length keys ≡ pairs → length values ≡ pairs
      → from % 2 + length objects ≤ 2 * pairs → AreRow (from / 2) keys → AreRow (head.count + from / 2) values
      → AreInTurn keys values objects (length objects) → AreSpelled f F head from objects
  pairs_spelled keys values objects pairs e some many room read_keys read_values turns = λ k number l is.
      let d : IsNumberOf kinds.Dict head.count (from + k) number = subst (λ kind. IsNumberOf kind head.count (from + k) number) e is in
      let j = (from % 2 + k) / 2 in
      elim (cases_lt ((from % 2 + k) % 2) 1) [
        | inl low ↦
            let even : (from % 2 + k) % 2 ≡ 0 = omega (arith, low) in
            let same : number ≡ from / 2 + j = d.0 (from / 2 + j) (omega (arith, even)) in
            (turns k l).0 even ∙ ap (λ x. x % 2 ^ 32) (read_keys j (omega (arith, l, some, room)) ∙ ap (nth_number f head.body F.ref_size) (sym same))
        | inr high ↦
            let odd : (from % 2 + k) % 2 ≡ 1 = omega (arith, high) in
            let same : number ≡ head.count + (from / 2 + j) = d.1 (from / 2 + j) (omega (arith, odd)) in
            let at : head.count + from / 2 + j ≡ number = omega (arith, same) in
            (turns k l).1 odd ∙ ap (λ x. x % 2 ^ 32) (read_values j (omega (arith, l, many, room)) ∙ ap (nth_number f head.body F.ref_size) at)
      ]

  -- the first of these are the members from one on
  abbrev pub AreSpelledTo : ℕ → List ℕ → Type 0
  AreSpelledTo count objects = (k number : ℕ) → k < count → IsNumberOf head.kind head.count (from + k) number
      → slice_index objects k ≡ ref f F head number % 2 ^ 32

  -- with the next block there are more of them
  pub spelled_more : (objects block rest : List ℕ) (done now : ℕ) → done ≤ length objects → length block ≡ now → AreSpelledTo done objects
      → AreSpelled f F head (from + done) block → AreSpelledTo (done + now) (take done objects ++ (block ++ rest))
  spelled_more objects block rest done now within len before here = λ k number l is.
      let front : length (take done objects) ≡ done = length-take-le done objects within in
      elim (cases_lt k done) [
        | inl a ↦ get_or_append_left (take done objects) (block ++ rest) 0 k (omega (arith, front, a)) ∙ get_or-take done objects k 0 a ∙ before k number a is
        | inr b ↦
            let at : from + done + (k - done) ≡ from + k = omega (arith, b) in
            get_or-append_right (take done objects) (block ++ rest) done k 0 front b
            ∙ get_or_append_left block rest 0 (k - done) (omega (arith, len, l, b))
            ∙ here (k - done) number (omega (arith, len, l, b)) (subst (λ i. IsNumberOf head.kind head.count i number) (sym at) is)
      ]

module _ (f : List ℕ) (F : Frame) (n : ℕ) (content : Content) (head : Head) (framed : IsFrame f F) (spells : Spells f F n content)
    (means : content ≡ content_at f F head) where
  -- a reference fits 32 bits
  ref_fits : (r : ℕ) → r < ref_count head.kind head.count → ref f F head r % 2 ^ 32 ≡ ref f F head r
  ref_fits r l =
      let all = subst (λ c. AllByRecursion (λ m. m < F.objects) (refs c)) means (refs_below f F n content spells) in
      let low = each_ref f F (λ m. m < F.objects) head.kind head.count head.body all r l in
      let ties = numbered framed in
      let entries : F.objects * 1 ≤ F.objects * F.offset_size = mul-le-mul_left F.objects ties.offset_size.0 in
      omega (arith, low, ties.large, ties.whole, entries)

  -- an object that is read is that of its member
  member_read : (objects : List ℕ) (from k : ℕ) → k < length objects → from + k < ref_count head.kind head.count → AreSpelled f F head from objects
      → slice_get objects k ≡ member_reference content (from + k)
  member_read objects from k l within read =
      let number = number_of_member head.kind head.count (from + k) within in
      let is = read k number.0 l number.1 ∙ ref_fits number.0 number.2 in
      let there = nth-refs f F head.kind head.count head.body number.0 number.2 in
      let same = node_of_number f F head.kind head.count head.body content means (from + k) number.0 (slice_index objects k) within number.1
      (is ∙ sym there ∙ ap (λ c. slice_index (refs c) number.0) (sym means)) in
      slice_get-get_or objects k 0 l ∙ sym (named_object (member_reference content (from + k)) (slice_index objects k) same)

  -- there is no member after the last
  member_missing : (objects : List ℕ) (from k : ℕ) → length objects ≤ k → ref_count head.kind head.count ≤ from + k
      → slice_get objects k ≡ member_reference content (from + k)
  member_missing objects from k l past =
      slice_get_past objects k l ∙ sym (none_named (member_reference content (from + k)) (no_node f F head.kind head.count head.body content means (from + k) past))

  -- the members that were read, as many as there are and as fit, are the answer
  pub members_say : (from room start now : ℕ) (objects : List ℕ) → start ≡ min from (ref_count head.kind head.count)
      → now ≡ min (ref_count head.kind head.count - start) room → length objects ≡ now → AreSpelled f F head start objects
      → MembersSay from room content (Ok objects)
  members_say from room start now objects begin many len read = (
    omega (arith, len, many),
    λ k l. elim (cases_lt k (length objects)) [
      | inl there ↦
          let same : start ≡ from = omega (arith, begin, many, len, there) in
          subst (λ s. slice_get objects k ≡ member_reference content (s + k)) same
          (member_read objects start k there (omega (arith, len, many, there, begin)) read)
      | inr past ↦ member_missing objects from k past (omega (arith, begin, many, len, past, l))
    ],
  )
