-- The keys of what an object spells are different texts exactly if its head's keys keep rules 21 and 22.
use Rattle.std.proofs.Common.{◌≡◌, ℕ, ◌<◌, List, refl, sym, subst, arith}
use Rattle.std.specs.List.{AllByRecursion, AllZip}
use Rattle.bplist_objects.specs.declared.frame.Frame.{Frame}
use Rattle.bplist_objects.specs.declared.head.Head.{Head}
use Rattle.bplist_objects.specs.declared.head.Kind.{Kind}
use Rattle.bplist_objects.specs.declared.head.Kind.TheVariants as kinds
use Rattle.bplist_objects.specs.Heads.{Content, HasShape, Spells, content_of, content_at, refs}
use Rattle.bplist_objects.specs.Holds.{AreDistinct}
use Rattle.bplist_objects.specs.Safe.{ref_count}
use Rattle.bplist_objects.proofs.References.{each_ref}
use Rattle.bplist_objects.proofs.ProperLeaves.{refs_below}
use Rattle.bplist_objects.proofs.HeadTies.{spells_body}
use Rattle.bplist_objects.specs.Scan.{ref}
use Rattle.bplist_cert.specs.Valid.{SpellsText, HasKeys}
use Rattle.bplist_cert.specs.DictKeys.{KeysAreTexts, KeysDiffer}
use Rattle.bplist_cert.proofs.TextKeys.{key_refs, texts_are, have_texts, distinct, differ}

module _ (f : List ℕ) (F : Frame) where
  -- what is true of the keys of a dictionary with this head
  abbrev pub HaveKeys : Head → Type 0
  HaveKeys head = KeysAreTexts f F head head.count × KeysDiffer f F head head.count

  -- what is true of all references of a dictionary is true of each key
  pub each_key : (P : ℕ → Type 0) (head : Head) → head.kind ≡ kinds.Dict → AllByRecursion P (refs (content_at f F head)) → (k : ℕ) → k < head.count → P (ref f F head k)
  each_key P head dict all k low =
      let each = subst (λ kind. (i : ℕ) → i < ref_count kind head.count → P (ref f F head i)) dict (each_ref f F P head.kind head.count head.body all) in
      each k (omega (arith, low))

  keys_of_kind : (kind : Kind) (count body : ℕ) → (kind ≡ kinds.Dict → HasKeys f F (content_of f F kinds.Dict count body)) → HasKeys f F (content_of f F kind count body)
  keys_of_kind kinds.Dict count body h = h refl
  keys_of_kind _ count body h = tt

  module _ (n : ℕ) (head : Head) (has : HasShape f F n head) (c : Content) (s : Spells f F n c) where
    body : c ≡ content_at f F head
    body = spells_body f F n head c has s

    -- from the rules to the list of the keys
    pub keys_from_rules : (head.kind ≡ kinds.Dict → HaveKeys head) → HasKeys f F c
    keys_from_rules h = subst (HasKeys f F) (sym body) (keys_of_kind head.kind head.count head.body (λ dict.
        let k = h dict in
        let us = texts_are f F head k.0 in
        (us.0, (us.1, distinct f F head us.0 us.1 k.0 k.1))))

    -- and back from the list of the keys to the rules
    pub rules_from_keys : HasKeys f F c → head.kind ≡ kinds.Dict → HaveKeys head
    rules_from_keys k e = (have_texts f F head us.0 us.1.0 low, differ f F head us.0 us.1.0 us.1.1)
      where
        us : (us : List (List ℕ)) × (AllZip (SpellsText f F) (key_refs f F head) us × AreDistinct us)
        us = subst (λ kind. HasKeys f F (content_of f F kind head.count head.body)) e (subst (HasKeys f F) body k)

        low : (k : ℕ) → k < head.count → ref f F head k < F.objects
        low k lt = each_key (λ m. m < F.objects) head e (subst (λ x. AllByRecursion (λ m. m < F.objects) (refs x)) body (refs_below f F n c s)) k lt
