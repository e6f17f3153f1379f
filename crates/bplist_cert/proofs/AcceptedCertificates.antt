-- The rules of the check are kept exactly if the certificate is accepted.
use Rattle.std.proofs.Common.{◌≡◌, ℕ, suc, ◌<◌, ◌≤◌, ◌⊎◌, inl, inr, Bool, true, false, cond, List, [], length, drop, slice_index, slice_index_or, Option, Some, None, IfSome, MatchOption, Less, refl, sym, ap, ap₂, ◌∙◌, subst, arith}
use Rattle.std.specs.List.{AllByRecursion}
use Rattle.std.proofs.lemmas.List.{length-take-le, length-drop}
use Rattle.std.proofs.lemmas.List.Elements.{recursion_from_All, All-from_get_or, All-from_recursion, All-get_or}
use Rattle.bplist_octets.specs.Octets.{part}
use Rattle.bplist_objects.specs.declared.rule.Rule.{Rule}
use Rattle.bplist_objects.specs.declared.rule.Rule.TheVariants as rules
use Rattle.bplist_objects.specs.declared.fault.Fault.{Fault}
use Rattle.bplist_objects.specs.declared.frame.Frame.{Frame}
use Rattle.bplist_objects.specs.declared.frame.ObjectNo.{ObjectNo}
use Rattle.bplist_objects.specs.declared.head.Head.{Head}
use Rattle.bplist_objects.specs.declared.head.Kind.{Kind}
use Rattle.bplist_objects.specs.declared.head.Kind.TheVariants as kinds
use Rattle.bplist_objects.specs.Numbers.{nums_at}
use Rattle.bplist_objects.specs.Frame.{IsFrame}
use Rattle.bplist_objects.specs.Heads.{HasShape, dict, refs, content_of, content_at, Spells}
use Rattle.bplist_objects.specs.Safe.{ref_count}
use Rattle.bplist_objects.specs.Announced.{HasHead}
use Rattle.bplist_objects.specs.Rules.{KeepsAll, IsFirstFault, OfObject}
use Rattle.bplist_objects.specs.ObjectRules.{KeepsByObject, object_rules}
use Rattle.bplist_objects.specs.Extents.{IsOverfull}
use Rattle.bplist_objects.specs.Units.{compare_units}
use Rattle.bplist_objects.proofs.RuleLaws.{kept_all_after, kept_all_parts}
use Rattle.bplist_objects.proofs.Lists.{all_weaker}
use Rattle.bplist_objects.proofs.BodyLaws.{HasHead-unique}
use Rattle.bplist_objects.proofs.Broken.{kept_or_broken, no_first_fault}
use Rattle.bplist_objects.proofs.References.{length-nums_at, all_refs, each_ref}
use Rattle.bplist_objects.proofs.HeadTies.{kept_announces, kept_spells, spells_keeps, shape_announced}
use Rattle.bplist_objects.proofs.FirstFaults.{no_frame}
use Rattle.bplist_objects.specs.Scan.{ref}
use Rattle.bplist_cert.specs.Lists.{Keyed, Lists, lists, IsCompleteList, list_of}
use Rattle.bplist_cert.specs.Valid.{IsVouchedBy, IsVouched, IsValid}
use Rattle.bplist_cert.specs.Sorted.{IsSorted, IsAccepted}
use Rattle.bplist_cert.specs.Looks.{KeepBeforeKeysBelow}
use Rattle.bplist_cert.specs.DictKeys.{KeysAreTexts, KeysDiffer, AreInOrder}
use Rattle.bplist_cert.specs.CheckRules.{is_of_refs, Asks, KeepsByRefs, BreaksByRefs, KeepsRule, BreaksRule, KeepBelow, IsLeastFault, KeepsCheck, HasOrder, BreaksOrder, KeepsLast, check_rules, key_rules}
use Rattle.bplist_cert.specs.KeyRepeats.{HasGoodKeys}
use Rattle.bplist_cert.specs.PairFault.{KeepsPairRules, IsVouchedFault, IsCountFault, IsPairFault}
use Rattle.bplist_cert.specs.declared.walk.Pass.TheVariants.{Exact}
use Rattle.bplist_cert.proofs.AskedBytes.{all_room}
use Rattle.bplist_cert.proofs.CheckSteps.{vouched_inside, good_by_kept, good_keeps}
use Rattle.bplist_cert.proofs.KeyRepeats.{rules_after}
use Rattle.bplist_cert.proofs.KeyTies.{HaveKeys, keys_from_rules, rules_from_keys}
use Rattle.bplist_cert.proofs.TextKeys.{key_refs, texts_are, units_at_key, ordered_differ}

-- keys differ if the rule is kept
last_differs : (f : List ℕ) (F : Frame) (keys : Option Keyed) (n : ℕ) (head : Head) → KeysAreTexts f F head head.count → KeepsLast f F keys n head → KeysDiffer f F head head.count
last_differs f F None n head texts k = k
last_differs f F (Some keyed) n head texts k = ordered_differ f F head (list_of keyed n head.count) texts k.1

-- a dictionary's references by its content
dict_refs : (f : List ℕ) (F : Frame) (kind : Kind) (count body : ℕ) (ks ms : List ℕ) → dict ks ms ≡ content_of f F kind count body → (kind ≡ kinds.Dict) × (ks ≡ nums_at f body F.ref_size count)
dict_refs f F kinds.Dict count body ks ms e = (refl, cc e)
dict_refs f F _ count body ks ms e = absurd (cc e)

-- ---- what is kept is accepted
module _ (f : List ℕ) (F : Frame) (heights : List ℕ) (keys : Option Keyed) (n : ℕ) (frame : IsFrame f F) (lt : n < F.objects) (kept : KeepsCheck f F (lists heights keys) n) where
  parts : KeepsAll (KeepsByObject f F n) object_rules × KeepsAll (KeepsRule f F (IsVouchedBy heights) (lists heights keys) n) (rules_after (key_rules keys))
  parts = kept_all_parts (KeepsRule f F (IsVouchedBy heights) (lists heights keys) n) object_rules (rules_after (key_rules keys)) kept

  -- the keys of a vouched object are good
  good : HasGoodKeys f F keys n
  good = good_by_kept f F (IsVouchedBy heights) heights n keys parts.1.1.1.1

  there : (head : Head) × HasHead f F n head
  there = kept_announces f F n frame lt (kept.0, (kept.1.0, (kept.1.1.0, (kept.1.1.1.0, tt))))

  vouched : IsVouched f F heights n
  vouched =
      let head = there.0 in
      let has = there.1 in
      let spells = kept_spells f F n frame lt head has parts.0 in
      let met = parts.1.1.0 head has in
      let low = parts.1.1.1.0 head has in
      record {
        content = content_at f F head;
        spells = spells.1;
        lower = all_refs f F (λ m. IsVouchedBy heights m × (slice_index heights m < slice_index heights n)) head.kind head.count head.body (λ i l. (met i l, low i l));
        keys = keys_from_rules f F n head spells.0 (content_at f F head) spells.1 (λ kind.
            let known = good head has kind in
            (known.0, last_differs f F keys n head known.0 known.1));
      }

-- a list in order is sorted
sorted : (f : List ℕ) (F : Frame) (head : Head) (list : List ℕ) → length list ≡ head.count → KeysAreTexts f F head head.count → AreInOrder f F head list head.count → IsSorted f F (key_refs f F head) list
sorted f F head list all texts order =
    let us = texts_are f F head texts in
    let many = length-nums_at f head.body F.ref_size head.count in
    record {
      units = us.0;
      texts = us.1;
      count = all ∙ sym many;
      within = recursion_from_All (λ p. p < length (key_refs f F head)) list (All-from_get_or (λ p. p < length (key_refs f F head)) list 0 (λ k l. let o = (order k (omega (arith, l, all))).0 in omega (arith, o, many)));
      ascend = λ j l.
          let lt : suc j < head.count = omega (arith, l, all) in
          let p = (order j (omega (arith, lt))).0 in
          let q = (order (suc j) lt).0 in
          let a = texts (slice_index list j) p in
          let b = texts (slice_index list (suc j)) q in
          ap₂ compare_units (units_at_key f F head us.0 us.1 (slice_index list j) a.0 p a.1) (units_at_key f F head us.0 us.1 (slice_index list (suc j)) b.0 q b.1)
          ∙ (order (suc j) lt).1 j a.0 b.0 refl a.1 b.1;
    }

-- in version 2 each vouched dictionary has a key list that is complete and sorted
abbrev AreListed : List ℕ → Frame → List ℕ → Option Keyed → Type 0
AreListed f F heights keys =
    IfSome keys (λ keyed. (n : ℕ) (ks ms : List ℕ) → IsVouchedBy heights n → Spells f F n (dict ks ms)
    → IsCompleteList keyed n (length ks) × IsSorted f F ks (list_of keyed n (length ks)))

-- the lists of vouched dictionaries
listed : (f : List ℕ) (F : Frame) (heights : List ℕ) (keys : Option Keyed) → IsFrame f F → length heights ≡ F.objects
    → ((n : ℕ) → n < F.objects → IsVouchedBy heights n → KeepsCheck f F (lists heights keys) n) → AreListed f F heights keys
listed f F heights None frame all kept = tt
listed f F heights (Some keyed) frame all kept = λ n ks ms v s.
    let lt = vouched_inside heights F.objects n all v in
    let k = kept n lt v in
    let head = s.shape in
    let has = shape_announced f F n head s.has in
    let is = dict_refs f F head.kind head.count head.body ks ms s.means in
    let known = good f F heights (Some keyed) n frame lt k head has is.0 in
    let texts = known.0 in
    let order = known.1 in
    let many = length-nums_at f head.body F.ref_size head.count in
    let whole : length (list_of keyed n head.count) ≡ head.count = length-take-le head.count (drop (slice_index keyed.starts n) keyed.positions) (omega (arith, length-drop (slice_index keyed.starts n) keyed.positions, order.0)) in
    subst (λ ks. IsCompleteList keyed n (length ks) × IsSorted f F ks (list_of keyed n (length ks))) (sym is.1) (
      omega (arith, order.0, many),
      subst (λ c. IsSorted f F (key_refs f F head) (part keyed.positions (slice_index keyed.starts n) c)) (sym many) (sorted f F head (list_of keyed n head.count) whole texts order.1),
    )

pub accepted : (f : List ℕ) (F : Frame) (certificate : Lists) → KeepsPairRules f F certificate → IsAccepted f F certificate
accepted f F certificate k =
    let heights = certificate.heights in
    let keys = certificate.keys in
    let inside = λ (n : ℕ) (v : IsVouchedBy heights n). vouched_inside heights F.objects n k.count v in
    record {
      valid = record {
        frame = k.framed;
        count = k.count;
        top = k.top;
        room = all_room f F certificate Exact k.total k.count k.running;
        vouched = λ n v. vouched f F heights keys n k.framed (inside n v) (k.running.kept n (inside n v) v);
      };
      listed = listed f F heights keys k.framed k.count (λ n lt v. k.running.kept n lt v);
    }

-- ---- what is accepted is kept
module _ (f : List ℕ) (F : Frame) (heights : List ℕ) (valid : IsValid f F heights) (n : ℕ) (v : IsVouchedBy heights n) where
  abbrev is : IsVouched f F heights n
  is = valid.vouched n v

  abbrev shape : Head
  shape = is.spells.shape

  same : (head : Head) → HasHead f F n head → shape ≡ head
  same head has = HasHead-unique f F n shape head (shape_announced f F n shape is.spells.has) has

  content : (head : Head) → HasHead f F n head → is.content ≡ content_at f F head
  content head has = is.spells.means ∙ ap (content_at f F) (same head has)

  lower_at : (head : Head) → HasHead f F n head → (i : ℕ) → i < ref_count head.kind head.count → IsVouchedBy heights (ref f F head i) × (slice_index heights (ref f F head i) < slice_index heights n)
  lower_at head has = each_ref f F (λ m. IsVouchedBy heights m × (slice_index heights m < slice_index heights n)) head.kind head.count head.body
      (subst (λ c. AllByRecursion (λ m. IsVouchedBy heights m × (slice_index heights m < slice_index heights n)) (refs c)) (content head has) is.lower)

  module _ (head : Head) (has : HasHead f F n head) where
    pub vouched_shape : HasShape f F n head
    vouched_shape = subst (HasShape f F n) (same head has) is.spells.has

    -- the keys of a vouched dictionary
    pub vouched_keys : head.kind ≡ kinds.Dict → HaveKeys f F head
    vouched_keys = rules_from_keys f F n head vouched_shape is.content is.spells is.keys

  not_overfull : IsOverfull f F (IsVouchedBy heights) n → ⊥
  not_overfull (ns, r, d, a, w, large) =
      let b = valid.room ns r d (all_weaker _ _ (λ m p. p.0) ns a) w in
      omega (arith, b, large)

-- if heights are valid, a check of each object shows it
pub valid_seen : (f : List ℕ) (F : Frame) (heights : List ℕ) → IsValid f F heights → KeepBeforeKeysBelow f F heights F.objects
valid_seen f F heights valid n lt v =
    let o = valid.vouched n v in
    let lower = lower_at f F heights valid n v in
    kept_all_after (KeepsRule f F (IsVouchedBy heights) (lists heights None) n) object_rules (rules_after []) (spells_keeps f F n o.content o.spells)
    (not_overfull f F heights valid n v, (λ head has i l. (lower head has i l).0, (λ head has i l. (lower head has i l).1, tt)))

-- a sorted list is in order
in_order : (f : List ℕ) (F : Frame) (head : Head) (list : List ℕ) → IsSorted f F (key_refs f F head) list → AreInOrder f F head list head.count
in_order f F head list s j l = (
  low j l,
  λ i a b next x y.
      let e : suc i ≡ j = next in
      let first = low i (omega (arith, e, l)) in
      let ua = units_at_key f F head s.units s.texts (slice_index list i) a first x in
      let ub = units_at_key f F head s.units s.texts (slice_index list j) b (low j l) y in
      let up = s.ascend i (omega (arith, e, l, s.count, many)) in
      let up' = subst (λ k. compare_units (slice_index_or s.units (slice_index list i) []) (slice_index_or s.units (slice_index list k) []) ≡ Less) e up in
      ap₂ compare_units (sym ua) (sym ub) ∙ up',
)
  where
    many : length (key_refs f F head) ≡ head.count
    many = length-nums_at f head.body F.ref_size head.count

    low : (k : ℕ) → k < head.count → slice_index list k < head.count
    low k m = let p = All-get_or (λ p. p < length (key_refs f F head)) list k 0 (omega (arith, m, s.count, many)) (All-from_recursion (λ p. p < length (key_refs f F head)) list s.within) in omega (arith, p, many)

last_there : (f : List ℕ) (F : Frame) (heights : List ℕ) (keys : Option Keyed) → (valid : IsValid f F heights) → AreListed f F heights keys → (n : ℕ) (v : IsVouchedBy heights n) (head : Head) → HasHead f F n head
    → head.kind ≡ kinds.Dict → KeepsLast f F keys n head
last_there f F heights None valid listed n v head has kind = (vouched_keys f F heights valid n v head has kind).1
last_there f F heights (Some keyed) valid listed n v head has kind =
    let spelled : Spells f F n (content_of f F kinds.Dict head.count head.body) =
    subst (λ k. Spells f F n (content_of f F k head.count head.body)) kind (subst (Spells f F n) (content f F heights valid n v head has) (valid.vouched n v).spells) in
    let sorted = listed n (key_refs f F head) _ v spelled in
    let many = length-nums_at f head.body F.ref_size head.count in
    (omega (arith, sorted.0, many), in_order f F head (list_of keyed n head.count) (subst (λ c. IsSorted f F (key_refs f F head) (part keyed.positions (slice_index keyed.starts n) c)) many sorted.1))

pub keeps_all : (f : List ℕ) (F : Frame) (certificate : Lists) → IsAccepted f F certificate → (n : ℕ) → IsVouchedBy certificate.heights n → KeepsCheck f F certificate n
keeps_all f F certificate a n v =
    let heights = certificate.heights in
    let keys = certificate.keys in
    let valid = a.valid in
    let lt = vouched_inside heights F.objects n valid.count v in
    good_keeps f F heights keys n (valid_seen f F heights valid n lt v) (λ head has kind.
    ((vouched_keys f F heights valid n v head has kind).0, last_there f F heights keys valid a.listed n v head has kind))

-- ---- what is kept is not broken
order_broken : (f : List ℕ) (F : Frame) (count : ℕ) (keys : Option Keyed) (n : ℕ) (head : Head) (place : ℕ)
    → IfSome keys (λ keyed. HasOrder f F keyed n head) → MatchOption keys ⊥ (λ keyed. BreaksOrder f F count keyed n head place) → ⊥
order_broken f F count None n head place k b = b
order_broken f F count (Some keyed) n head place k (inl (short, p)) = omega (arith, k.0, short)
order_broken f F count (Some keyed) n head place k (inr (whole, (j, first, p))) = first.2 (λ i l. k.1 i (omega (arith, l, first.0)))

-- what a rule wants of references it wants of fewer of them, too
pub fewer : (f : List ℕ) (F : Frame) (heights : List ℕ) (n : ℕ) (rule : Rule) (head : Head) (m many : ℕ) → m ≤ many → Asks f F heights n rule head many → Asks f F heights n rule head m
fewer f F heights n rules.ChildNotVouched head m many few a = λ k l. a k (omega (arith, few, l))
fewer f F heights n rules.HeightNotLess head m many few a = λ k l. a k (omega (arith, few, l))
fewer f F heights n rules.KeyKind head m many few a = λ dict k l. a dict k (omega (arith, few, l))
fewer f F heights n rules.KeyTwice head m many few a = λ dict i j low l. a dict i j low (omega (arith, few, l))
fewer f F heights n _ head m many few a = tt

refs_broken : (f : List ℕ) (F : Frame) (heights : List ℕ) (n : ℕ) (rule : Rule) (place : ℕ) → KeepsByRefs f F heights n rule → BreaksByRefs f F heights n rule place → ⊥
refs_broken f F heights n rule place k (head, i, has, first, at) = first.2 (fewer f F heights n rule head (suc i) (ref_count head.kind head.count) (omega (arith, first.0)) (k head has))

-- what follows from two facts of a rule, whether it is one of references or not
pub by_class : {A B C D : Type 0} (of_refs : Bool) (R : Type 0) → (A → C → R) → (B → D → R) → cond of_refs A B → cond of_refs C D → R
by_class true R refs own a c = refs a c
by_class false R refs own b d = own b d

module _ (f : List ℕ) (F : Frame) (S : ℕ → Type 0) (certificate : Lists) where
  broken : (n : ℕ) (rule : Rule) (place : ℕ) → KeepsRule f F S certificate n rule → BreaksRule f F S certificate n rule place → ⊥
  broken n rules.Overfull place k b = k b.0
  broken n rules.KeyOrder place k b = order_broken f F (length certificate.heights) certificate.keys n b.0 place (k b.0 b.1 b.2) b.3
  broken n rule place k b = by_class (is_of_refs rule) ⊥ (refs_broken f F certificate.heights n rule place) (kept_or_broken f F n rule place) k b

  -- a rule that an object keeps is not broken by the object that is named
  pub rule_or_broken : (n : ℕ) (rule : Rule) (object : Option ObjectNo) (place : ℕ) → KeepsRule f F S certificate n rule → OfObject n (BreaksRule f F S certificate n) rule object place → ⊥
  rule_or_broken n rule object place k b = broken n rule place k b.1

  -- an object that keeps rules has no fault of them
  pub no_rule_fault : (n : ℕ) (listed : List Rule) (fault : Fault) → KeepsAll (KeepsRule f F S certificate n) listed
      → IsFirstFault (KeepsRule f F S certificate n) (OfObject n (BreaksRule f F S certificate n)) listed fault → ⊥
  no_rule_fault n listed fault = no_first_fault (KeepsRule f F S certificate n) (OfObject n (BreaksRule f F S certificate n)) (rule_or_broken n) listed fault

  -- if all objects of S keep these rules, there is no fault by them
  pub no_least_fault : (listed : List Rule) (bound : ℕ) → ((n : ℕ) → S n → n < bound) → (a : Fault) → KeepBelow f F S certificate listed bound → IsLeastFault f F S certificate listed a → ⊥
  no_least_fault listed bound within a kept h = no_rule_fault h.object listed a (kept h.object (within h.object h.member) h.member) h.first

-- if the pair has a fault, the certificate is not accepted
pub fault_refutes : (f : List ℕ) (F : Frame) (certificate : Lists) (fault : Fault) → IsPairFault f certificate fault → IsAccepted f F certificate → ⊥
fault_refutes f F certificate fault (inl h) a = no_frame f F fault h a.valid.frame
fault_refutes f F certificate fault (inr (G, frame, h)) a =
    let same : F ≡ G = a.valid.frame.spelled ∙ sym frame.spelled in
    by G (subst (λ H. IsAccepted f H certificate) same a) h
  where
    by : (G : Frame) → IsAccepted f G certificate
        → IsCountFault G certificate.heights fault ⊎ ((length certificate.heights ≡ G.objects) × IsVouchedBy certificate.heights G.top.0 × IsVouchedFault f G certificate fault) → ⊥
    by G b (inl (inl c)) = c.0 b.valid.count
    by G b (inl (inr c)) = omega (arith, c.1, b.valid.top)
    by G b (inr c) =
        no_rule_fault f G (IsVouchedBy certificate.heights) certificate c.2.object (check_rules certificate.keys) fault
        (keeps_all f G certificate b c.2.object c.2.member) c.2.first
