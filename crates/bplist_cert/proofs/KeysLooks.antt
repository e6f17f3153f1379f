-- What a walk over the vouched objects finds out about the keys of dictionaries.
use Rattle.std.proofs.Common.{◌≡◌, ℕ, suc, ◌+◌, ◌-◌, ◌*◌, ◌≤◌, ◌<◌, ◌∙◌, ap, sym, subst, below_more, inl, inr, List, length, slice_index, IsTrue, Bool, Option, Some, None, MatchOption, ◌↔◌, arith}
use Rattle.std.proofs.lemmas.List.{get_or_past}
use Rattle.bplist_objects.specs.declared.frame.Frame.{Frame}
use Rattle.bplist_objects.specs.declared.head.Head.{Head}
use Rattle.bplist_objects.specs.declared.head.Kind.TheVariants.{Dict}
use Rattle.bplist_objects.specs.Announced.{HasHead}
use Rattle.bplist_objects.specs.Safe.{ref_count}
use Rattle.bplist_objects.specs.Scan.{ref}
use Rattle.bplist_objects.proofs.BodyLaws.{HasHead-unique}
use Rattle.bplist_keys.specs.Marks.{IsMarked}
use Rattle.bplist_cert.specs.declared.key_names.KeyNames.{KeyNames}
use Rattle.bplist_cert.specs.KeyRepeats.{HaveNamedKeys}
use Rattle.bplist_cert.specs.declared.key_lists.KeyListFindings.{KeyListFindings}
use Rattle.bplist_cert.specs.Lists.{Keyed, lists}
use Rattle.bplist_cert.specs.Valid.{IsVouchedBy}
use Rattle.bplist_cert.specs.KeysLooks.{AreLearnt, HaveGoodLists, AreListed, AreSeen}
use Rattle.bplist_cert.specs.Walks.{AreApart, AreCollected, HasCollected, HasStampedKeys, HaveKeysApart, IfCollected}
use Rattle.bplist_cert.proofs.KeyRepeats.{vouched_below}

-- if a block of numbers ends early, the list has no more after it
pub none_past : (numbers block : List ℕ) (from n m : ℕ) → ((k : ℕ) → k < n → slice_index block k ≡ slice_index numbers (from + k))
    → from + length block ≤ m → m < from + n → slice_index numbers m ≡ 0
none_past numbers block from n m at past low =
    ap (slice_index numbers) (omega (arith, past)) ∙ sym (at (m - from) (omega (arith, past, low))) ∙ get_or_past block (m - from) 0 (omega (arith, past))

-- about no objects nothing is said except what was learnt
pub none_listed : (f : List ℕ) (F : Frame) (heights : List ℕ) (keyed : Keyed) (look : KeyListFindings) → AreLearnt f F look → HaveGoodLists f F heights keyed 0 look
none_listed f F heights keyed look learnt = record {
  learnt = learnt;
  good = λ good n low. absurd (omega (arith, low));
}

-- without names, what is said about objects is said about none
pub none_seen : (f : List ℕ) (F : Frame) (heights : List ℕ) (keys : Option Keyed) (bound : ℕ) (named : Option KeyNames) (look : KeyListFindings)
    → AreSeen f F (lists heights keys) bound (record { named = named; lists = look }) → AreSeen f F (lists heights keys) 0 (record { named = None; lists = look })
none_seen f F heights None bound named look h = tt
none_seen f F heights (Some keyed) bound named look h = none_listed f F heights keyed look h.learnt

-- if object n is a dictionary, it has no keys
abbrev pub HasNoKeys : List ℕ → Frame → ℕ → Type 0
HasNoKeys f F n = (head : Head) → HasHead f F n head → head.kind ≡ Dict → (k : ℕ) → k < head.count → ⊥

-- an object without references has no keys
pub no_refs_keys : (f : List ℕ) (F : Frame) (n : ℕ) (head : Head) → HasHead f F n head → ref_count head.kind head.count ≡ 0 → HasNoKeys f F n
no_refs_keys f F n head has none other h dict k low =
    let same : ref_count other.kind other.count ≡ 0 = subst (λ (x : Head). ref_count x.kind x.count ≡ 0) (HasHead-unique f F n head other has h) none in
    let two : ref_count other.kind other.count ≡ 2 * other.count = ap (λ x. ref_count x other.count) dict in
    omega (arith, low, same, two)

module _ (f : List ℕ) (F : Frame) (heights : List ℕ) (n : ℕ) where
  -- with the keys of object n, those of the objects up to it are collected
  pub collected_next : (head : Head) → HasHead f F n head → length heights ≡ F.objects → ((k : ℕ) → k < ref_count head.kind head.count → IsVouchedBy heights (ref f F head k))
      → (before after : Option KeyNames) → IfCollected before after (HasCollected f F head) → AreCollected f F heights n before → AreCollected f F heights (suc n) after
  collected_next head has count vouched before None told h = tt
  collected_next head has count vouched None (Some after) told h = absurd told
  collected_next head has count vouched (Some before) (Some after) told (all, stamped, apart, only) = (
    told.all ∙ all,
    λ m low. below_more (λ k. IsVouchedBy heights k → HasStampedKeys f F after.last.items k) n (λ m low vouched other h dict k l. told.keeps _ (stamped m low vouched other h dict k l)) (λ _. here) m (omega (arith, low)),
    λ true m low. below_more _ n (apart (told.apart true).0) (λ _ other h. subst (λ (x : Head). x.kind ≡ Dict → AreApart f F x) (HasHead-unique f F n head other has h) (told.apart true).1) m (omega (arith, low)),
    λ m some. elim (told.only m some) [ inl was ↦ only m was | inr (k, low, is) ↦ subst (IsVouchedBy heights) (sym is) (vouched k low) ],
  )
    where
      here : HasStampedKeys f F after.last.items n
      here other h = subst (λ (x : Head). x.kind ≡ Dict → (k : ℕ) → k < x.count → 0 < slice_index after.last.items (ref f F x k)) (HasHead-unique f F n head other has h)
          (λ dict k low.
          let two : ref_count head.kind head.count ≡ 2 * head.count = ap (λ kind. ref_count kind head.count) dict in
          told.stamped dict k low (subst (λ many. ref f F head k < many) (count ∙ sym all) (vouched_below heights (ref f F head k) (vouched k (omega (arith, low, two))))))

  -- object n has no keys, or is not vouched for
  pub none_collected : (IsVouchedBy heights n → HasNoKeys f F n) → (names : Option KeyNames) → AreCollected f F heights n names → AreCollected f F heights (suc n) names
  none_collected none None h = tt
  none_collected none (Some names) (all, stamped, apart, only) = (
    all,
    λ m low. below_more _ n stamped (λ vouched head has dict k l. absurd (none vouched head has dict k l)) m (omega (arith, low)),
    λ true m low. below_more _ n (apart true) (λ vouched head has dict j k less l. absurd (none vouched head has dict k l)) m (omega (arith, low)),
    only,
  )

-- what is known of names and of lists is known of both
pub seen_on : (f : List ℕ) (F : Frame) (heights : List ℕ) (keys : Option Keyed) (from to : ℕ) (before after : Option KeyNames) (look more : KeyListFindings)
    → (AreCollected f F heights from before → AreCollected f F heights to after) → (AreListed f F (lists heights keys) from look → AreListed f F (lists heights keys) to more)
    → AreSeen f F (lists heights keys) from (record { named = before; lists = look }) → AreSeen f F (lists heights keys) to (record { named = after; lists = more })
seen_on f F heights None from to before after look more names listed h = names h
seen_on f F heights (Some keyed) from to before after look more names listed h = listed h

pub lists_seen : (f : List ℕ) (F : Frame) (heights : List ℕ) (keys : Option Keyed) (bound : ℕ) (named : Option KeyNames) (look : KeyListFindings)
    → AreSeen f F (lists heights keys) bound (record { named = named; lists = look }) → AreListed f F (lists heights keys) bound look
lists_seen f F heights None bound named look h = tt
lists_seen f F heights (Some keyed) bound named look h = h

module _ (f : List ℕ) (F : Frame) (heights : List ℕ) (bound : ℕ) where
  -- objects with a mark for each stamp are named
  pub stamps_marked : (names : KeyNames) (marks : List Bool) → length marks ≡ length names.last.items
      → ((m : ℕ) → m < length names.last.items → IsMarked marks m ↔ (0 < slice_index names.last.items m)) → AreCollected f F heights bound (Some names) → HaveNamedKeys f F heights bound marks
  stamps_marked names marks all marked (objects, stamped, apart, only) = (
    all ∙ objects,
    λ n low vouched head has dict k l.
        let some = stamped n low vouched head has dict k l in
        (marked (ref f F head k) (vouched_below names.last.items (ref f F head k) some)).1 some,
  )

  -- if names say that keys are different objects, they are
  pub collected_apart : (names : Option KeyNames) → MatchOption names ⊥ (λ given. IsTrue given.apart) → AreCollected f F heights bound names → HaveKeysApart f F heights bound
  collected_apart None given h = absurd given
  collected_apart (Some names) given h = h.2 given
