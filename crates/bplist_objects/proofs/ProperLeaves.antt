-- Rules 18 to 20 of a body, and the tests of them.
use Rattle.std.proofs.Common.{◌≡◌, ℕ, ◌<◌, ◌≤◌, ◌+◌, ◌*◌, ◌⊎◌, inl, inr, Bool, List, [], ◌∷◌, length, drop, get_or, nat_lt, nat_le, IsTrue, refl, sym, ap, ◌∙◌, subst, arith}
use Rattle.std.specs.Bool.{Decides}
use Rattle.std.specs.List.{AllByRecursion, list_all}
use Rattle.std.proofs.lemmas.Bool.{cases_lt, leb-true, le-leb}
use Rattle.std.proofs.lemmas.Bool.Decides.{Decides-and, Decides-ltb}
use Rattle.std.proofs.lemmas.List.{get_or_past, length-take}
use Rattle.std.proofs.lemmas.List.Elements.{recursion_from_All, All-from_get_or, All-from_recursion, All-get_or}
use Rattle.bplist_octets.specs.Octets.{part, num}
use Rattle.bplist_objects.specs.declared.frame.Frame.{Frame}
use Rattle.bplist_objects.specs.declared.head.Kind.{Kind}
use Rattle.bplist_objects.specs.declared.head.Kind.TheVariants as kinds
use Rattle.bplist_objects.specs.declared.head.Head.{Head}
use Rattle.bplist_objects.specs.Numbers.{num_at}
use Rattle.bplist_objects.specs.Announced.{HasHead}
use Rattle.bplist_objects.specs.Scan.{AreBelow, nth_number}
use Rattle.bplist_objects.specs.Rules.{KeepsAll}
use Rattle.bplist_objects.specs.ObjectRules.{KeepsByObject, body_rules}
use Rattle.bplist_objects.specs.Heads.{Content, refs, content_of, content_at, HasShape, Spells}
use Rattle.bplist_objects.specs.Spelled.{is_proper}
use Rattle.bplist_objects.proofs.BodyLaws.{bodies_keep}
use Rattle.bplist_objects.proofs.Leaves.{uid_value}
use Rattle.bplist_objects.proofs.Parts.{num-byte, get_or-part}
use Rattle.bplist_objects.proofs.References.{all_refs, each_ref}

-- a test of two numbers
pub le_decides : (a b : ℕ) → Decides (nat_le a b) (a ≤ b)
le_decides a b = (leb-true a b, le-leb a b)

-- a test of each member
pub all_decides : (test : ℕ → Bool) (P : ℕ → Type 0) → ((x : ℕ) → Decides (test x) (P x)) → (xs : List ℕ) → Decides (list_all test xs) (AllByRecursion P xs)
all_decides test P each [] = ((λ e. tt), λ a. refl)
all_decides test P each (x ∷ xs) = Decides-and (test x) (list_all test xs) (each x) (all_decides test P each xs)

-- a test that each number is below a bound
pub low_decides : (bound : ℕ) (xs : List ℕ) → Decides (list_all (λ x. nat_lt x bound) xs) (AllByRecursion (λ x. x < bound) xs)
low_decides bound = all_decides (λ x. nat_lt x bound) (λ x. x < bound) (λ x. Decides-ltb x bound)

-- ---- the bytes of a part by index
nth_byte : (f : List ℕ) (place count k : ℕ) → k < count → nth_number f place 1 k ≡ get_or (part f place count) k 0
nth_byte f place count k lt =
    let one : place + k * 1 ≡ place + k = omega arith in
    ap (λ a. num (part f a 1)) one ∙ num-byte f (place + k) ∙ sym (get_or-part f place count k 0 lt)

all_low : (f : List ℕ) (place count : ℕ) → AreBelow f place 1 count 128 → AllByRecursion (λ b. b < 128) (part f place count)
all_low f place count h =
    recursion_from_All _ _ (All-from_get_or (λ b. b < 128) (part f place count) 0 (λ k l.
    let lt : k < count = omega (arith, l, length-take count (drop place f)) in
    subst (λ b. b < 128) (nth_byte f place count k lt) (h k lt)))

each_low : (f : List ℕ) (place count : ℕ) → AllByRecursion (λ b. b < 128) (part f place count) → AreBelow f place 1 count 128
each_low f place count a k lt = subst (λ b. b < 128) (sym (nth_byte f place count k lt)) (go (cases_lt k (length (part f place count))))
  where
    go : (k < length (part f place count)) ⊎ (length (part f place count) ≤ k) → get_or (part f place count) k 0 < 128
    go (inl l) = All-get_or (λ b. b < 128) _ k 0 l (All-from_recursion _ _ a)
    go (inr past) = subst (λ b. b < 128) (sym (get_or_past (part f place count) k 0 past)) (omega arith)

module _ (f : List ℕ) (F : Frame) (n : ℕ) where
  module _ (head : Head) (has : HasHead f F n head) where
    -- an object keeps rules 18 to 20 if its body passes the test and its references are objects
    pub body_kept : IsTrue (is_proper f head.kind head.count head.body) → AllByRecursion (λ m. m < F.objects) (refs (content_at f F head)) → KeepsAll (KeepsByObject f F n) body_rules
    body_kept proper below =
        bodies_keep f F n head has (λ e. each_low f head.body head.count ((low_decides 128 _).0 (tested kinds.Ascii e)))
        (λ e. (le_decides _ _).0 (tested kinds.Uid e))
        (each_ref f F (λ m. m < F.objects) head.kind head.count head.body below)
      where
        tested : (kind : Kind) → head.kind ≡ kind → IsTrue (is_proper f kind head.count head.body)
        tested kind e = subst (λ k. IsTrue (is_proper f k head.count head.body)) e proper

    -- and only then
    pub kept_proper : KeepsAll (KeepsByObject f F n) body_rules → IsTrue (is_proper f head.kind head.count head.body)
    kept_proper kept = go head.kind refl
      where
        go : (kind : Kind) → head.kind ≡ kind → IsTrue (is_proper f kind head.count head.body)
        go kinds.Ascii e = (low_decides 128 _).1 (all_low f head.body head.count (kept.0 head has e))
        go kinds.Uid e = (le_decides _ _).1 (kept.1.0 head has e)
        go _ e = refl

  -- ---- what is spelled keeps rules 18 to 20
  -- the references of what an object spells are objects
  pub refs_below : (c : Content) → Spells f F n c → AllByRecursion (λ m. m < F.objects) (refs c)
  refs_below c s = recursion_from_All _ _ s.refs

  pub spells_bodies : (c : Content) → Spells f F n c → KeepsAll (KeepsByObject f F n) body_rules
  spells_bodies c s =
      let head = s.shape in
      bodies_keep f F n head s.has.has (λ e. each_low f head.body head.count (recursion_from_All _ _ (s.ascii e)))
      (λ e. s.uid (num_at f head.body head.count) (s.means ∙ ap (λ k. content_of f F k head.count head.body) e))
      (each_ref f F (λ m. m < F.objects) head.kind head.count head.body (subst (λ x. AllByRecursion (λ m. m < F.objects) (refs x)) s.means (refs_below c s)))

  -- and what keeps them is spelled
  pub bodies_spell : (head : Head) → HasShape f F n head → KeepsAll (KeepsByObject f F n) body_rules → Spells f F n (content_at f F head)
  bodies_spell head has kept = record {
    shape = head;
    has = has;
    means = refl;
    ascii = λ e. All-from_recursion _ _ (all_low f head.body head.count (kept.0 head has.has e));
    uid = λ x e. let value = uid_value f F head.kind head.count head.body x (sym e) in omega (arith, value.1, kept.1.0 head has.has value.0);
    refs = All-from_recursion _ _ (all_refs f F (λ m. m < F.objects) head.kind head.count head.body (kept.1.1.0 head has.has));
  }
