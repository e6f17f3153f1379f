-- The pass over the objects in the order of their heights.
use Rattle.std.proofs.Common.{◌≡◌, ℕ, ◌+◌, ◌<◌, List, length, slice_index, slice_set, Option, Some, None, inl, inr, sym, ap, ◌∙◌, subst, arith, replicate}
use Rattle.std.specs.Prelude.{option_map}
use Rattle.std.specs.List.{AllByRecursion}
use Rattle.std.proofs.Props.{props}
use Rattle.std.proofs.lemmas.Bool.{cases_lt, cases_eq}
use Rattle.std.proofs.lemmas.List.{get_or-replicate, length-replicate, get_or_past, get_or-set_other, get_or-set_same}
use Rattle.std.proofs.lemmas.List.Elements.{Contains-get_or}
use Rattle.bplist_objects.specs.declared.frame.Frame.{Frame}
use Rattle.bplist_objects.specs.Value.{Value}
use Rattle.bplist_objects.specs.Heads.{Content, Spells, refs}
use Rattle.bplist_objects.specs.Holds.{Holds}
use Rattle.bplist_objects.proofs.Lists.{all_from}
use Rattle.bplist_cert.specs.Valid.{IsVouchedBy, IsValid}
use Rattle.bplist_cert.proofs.VouchedObjects.{object_holds, references_lower}
use Rattle.bplist_cursor.specs.declared.sizes.Size.{Size}
use Rattle.bplist_cursor.specs.Sizes.{Table, size_of, size_in, IsSized, AreMeasures}
use Rattle.bplist_cursor.specs.declared.faults.CursorFault.{CursorFault}
use Rattle.bplist_cursor.proofs.Causes.{IsExcused}
use Rattle.bplist_cursor.specs.ObjectSizes.{IsOrder, IsEmpty, AreSet}
use Rattle.bplist_cursor.proofs.HeightOrder.{lower_before, not_last, order_inside, place_in}

module _ (f : List ℕ) (F : Frame) (heights order : List ℕ) (valid : IsValid f F heights) (is : IsOrder heights 0 order) where
  abbrev pub at : ℕ → ℕ
  at k = slice_index order k

  vouched_at : (k : ℕ) → k < length order → IsVouchedBy heights (at k)
  vouched_at k l = let above = is.only (at k) (Contains-get_or order k 0 l) in omega (arith, above)

  -- an object of the order holds a value
  pub value_at : (k : ℕ) → k < length order → (v : Value) × Holds f F (at k) v
  value_at k l = let o = object_holds f F heights valid (at k) (vouched_at k l) in (o.0, o.1)

  -- the references of an object of the order already have their sizes
  pub refs_sized : (k : ℕ) (sizes : Table) → k < length order → AreSet f F heights order k sizes → (c : Content) → Spells f F (at k) c → AllByRecursion (IsSized f F sizes) (refs c)
  refs_sized k sizes l set c s = all_from (IsSized f F sizes) (refs c) (λ m among.
      let lower = references_lower f F heights valid (at k) m (vouched_at k l) (c, s, among) in
      let place = lower_before heights order 0 k m is (omega (arith, lower.0)) lower.1 in
      subst (IsSized f F sizes) place.2 (set.done place.0 place.1))

  -- one more object has its size
  pub set_more : (k : ℕ) (sizes : Table) (s : Size) → k < length order → length sizes ≡ F.objects → AreSet f F heights order k sizes → ((v : Value) → Holds f F (at k) v → s ≡ size_of v)
      → AreSet f F heights order (k + 1) (slice_set sizes (at k) (Some s))
  set_more k sizes s l long set this =
      let room : at k < length sizes = omega (arith, order_inside heights order 0 F.objects is valid.count k l, long) in
      record {
        done = λ j below v h. elim (cases_eq (at j) (at k)) [
          | inl same ↦ ap (size_in (slice_set sizes (at k) (Some s))) same ∙ get_or-set_same sizes (at k) (Some s) None room ∙ ap Some (this v (subst (λ n. Holds f F n v) same h))
          | inr other ↦ get_or-set_other sizes (at k) (at j) (Some s) None other ∙ set.done j (not_last order k j below other) v h
        ];
        none = λ n not. get_or-set_other sizes (at k) n (Some s) None (λ same. not (subst (IsVouchedBy heights) (sym same) (vouched_at k l))) ∙ set.none n not;
      }

  -- all objects have their sizes
  pub measured : (sizes : Table) → AreSet f F heights order (length order) sizes → AreMeasures f F heights sizes
  measured sizes set = record {
    nodes = λ n v vo h. ap (option_map (λ s. s.nodes)) (size n v vo h);
    form = λ n v vo h. ap (option_map (λ s. s.form)) (size n v vo h);
    none = λ n not. (ap (option_map (λ s. s.nodes)) (set.none n not), ap (option_map (λ s. s.form)) (set.none n not));
  }
    where
      size : (n : ℕ) (v : Value) → IsVouchedBy heights n → Holds f F n v → size_in sizes n ≡ Some (size_of v)
      size n v vo h =
          let place = place_in order n (is.all n (omega (arith, vo))) in
          ap (size_in sizes) (sym place.2) ∙ set.done place.0 place.1 v (subst (λ m. Holds f F m v) (sym place.2) h)

pub are_measures_prop : (f : List ℕ) (F : Frame) (heights : List ℕ) (sizes : Table) → IsProp (AreMeasures f F heights sizes)
are_measures_prop f F heights sizes = Prim.hlevel props

abbrev nowhere : Option Size
nowhere = None

-- a table in which no object has a size
pub empty_table : (sizes : Table) (n : ℕ) → sizes ≡ replicate n None → IsEmpty sizes
empty_table sizes n is k = ap (λ t. size_in t k) is ∙ elim (cases_lt k n) [
  | inl l ↦ get_or-replicate n k nowhere None l
  | inr past ↦ get_or_past (replicate n nowhere) k None (omega (arith, past, length-replicate n nowhere))
]

pub excused_prop : (e : CursorFault) → IsProp (IsExcused e)
excused_prop e = Prim.hlevel props
