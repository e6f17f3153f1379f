-- Steps of making key lists, one after the other.
use Rattle.std.proofs.Common.{◌≡◌, ◌≢◌, inl, inr, ℕ, zero, suc, ◌+◌, ◌-◌, ◌*◌, ◌<◌, ◌≤◌, rules, true, false, List, [], ◌++◌, length, take, drop, set, slice_index, Option, Some, None, is_some, unwrap_or, nat_lt, cond, refl, sym, ◌∙◌, ap, subst, arith, lt-ltb}
use Rattle.std.proofs.Math.Seq.{drop-append_seam, take-length}
use Rattle.std.proofs.lemmas.Bool.{cases_Bool, cases_eq, ltb-true}
use Rattle.std.proofs.lemmas.List.{get_or-set_same, get_or-set_other, length-append, length-drop, drop-append-le, take-append-le}
use Rattle.bplist_octets.specs.Octets.{part}
use Rattle.bplist_objects.specs.declared.frame.Frame.{Frame}
use Rattle.bplist_objects.specs.declared.head.Kind.{Kind}
use Rattle.bplist_objects.specs.declared.head.Kind.TheVariants as kinds
use Rattle.bplist_objects.specs.declared.head.Head.{Head}
use Rattle.bplist_objects.specs.Frame.{off}
use Rattle.bplist_objects.specs.Numbers.{nums_at}
use Rattle.bplist_objects.specs.Heads.{Content, HasShape, Spells, content_of}
use Rattle.bplist_objects.proofs.References.{dict_parts, as_many, length-nums_at}
use Rattle.std.proofs.lemmas.Option.{same_Some}
use Rattle.std.specs.Option.{option_and_then}
use Rattle.bplist_objects.specs.Announced.{HasHead, item_size}
use Rattle.bplist_objects.specs.Markers.{markers_of, head_found}
use Rattle.bplist_objects.specs.Extents.{HaveRoom}
use Rattle.bplist_objects.proofs.HeadLaws.{head_parts, head_is_found}
use Rattle.bplist_objects.proofs.AnnouncedHeads.{announced_short}
use Rattle.bplist_objects.proofs.Lists.{all_weaker}
use Rattle.bplist_objects.proofs.ExtentSums.{shape_extent, sums_none, sums_more, sums_same}
use Rattle.bplist_objects.proofs.BodyLaws.{HasHead-unique}
use Rattle.bplist_cert.specs.Lists.{Keyed}
use Rattle.bplist_cert.specs.Valid.{IsVouchedBy, IsValid}
use Rattle.bplist_cert.specs.DictKeys.{AreInOrder}
use Rattle.bplist_lint.specs.KeyLists.{IsListed}
use Rattle.bplist_cert.proofs.CheckSteps.{good_keeps}
use Rattle.bplist_cert.proofs.AcceptedCertificates.{accepted, valid_seen, vouched_keys}
use Rattle.bplist_lint.specs.Upgraded.{pairs, pairs_below, HasPairs, Listed, IsUpgraded}
use Rattle.bplist_lint.proofs.ObjectReferences.{found_or_none}
use Rattle.bplist_lint.proofs.RangeSums.{found_next}
use Rattle.bplist_lint.proofs.TallySteps.{next_is}

-- ---- parts of lists
-- a part of the front
part_front : (xs ys : List ℕ) (s c : ℕ) → s + c ≤ length xs → part (xs ++ ys) s c ≡ part xs s c
part_front xs ys s c within =
    let long = length-drop s xs in
    ap (take c) (drop-append-le s xs ys (omega arith)) ∙ take-append-le c (drop s xs) ys (omega arith)

-- the whole back
part_back : (xs ys : List ℕ) (c : ℕ) → length ys ≡ c → part (xs ++ ys) (length xs) c ≡ ys
part_back xs ys c is = ap (take c) (drop-append_seam xs ys) ∙ ap (λ k. take k ys) (sym is) ∙ take-length ys

-- ---- pairs by their kind
-- how many pairs the head of a dictionary announces
abbrev pub pairs_of : Head → Option ℕ
pairs_of head = elim head.kind [ kinds.Dict ↦ Some head.count | _ ↦ None ]

-- a head of this kind, with the other parts of another
abbrev with_kind : Head → Kind → Head
with_kind head kind = record { kind = kind; count = head.count; body = head.body; «end» = head.«end» }

dict_pairs : (head : Head) → head.kind ≡ kinds.Dict → pairs_of head ≡ Some head.count
dict_pairs head e = ap (λ kind. pairs_of (with_kind head kind)) e

-- only that of a dictionary announces pairs
some_pairs : (head : Head) (k : ℕ) → pairs_of head ≡ Some k → (head.kind ≡ kinds.Dict) × (head.count ≡ k)
some_pairs head k = by head.kind
  where
    by : (kind : Kind) → pairs_of (with_kind head kind) ≡ Some k → (kind ≡ kinds.Dict) × (head.count ≡ k)
    by kinds.Dict e = (refl, same_Some head.count k e)
    by _ e = absurd (cc e)

other_pairs : (head : Head) → (head.kind ≡ kinds.Dict → ⊥) → pairs_of head ≡ None
other_pairs head no_dict = elim (found_or_none (pairs_of head)) [ inl none ↦ none | inr (k, e) ↦ absurd (no_dict (some_pairs head k e).0) ]

-- the pairs that are found are those of vouched dictionaries
module _ (f : List ℕ) (F : Frame) (heights : List ℕ) where
  pairs_vouched : (n : ℕ) → IsVouchedBy heights n → (c : Content) (s : Spells f F n c) → pairs f F heights n ≡ pairs_of s.shape
  pairs_vouched n v c s =
      ap (λ b. cond b (option_and_then pairs_of (head_found f F n)) None) (lt-ltb 0 (slice_index heights n) (omega (arith, v)))
      ∙ ap (option_and_then pairs_of) (head_is_found f F n s.shape s.has.has)

  pub pairs_there : (n k : ℕ) → HasPairs f F heights n k → pairs f F heights n ≡ Some k
  pairs_there n k (v, (ks, ms, s, long)) =
      let parts = dict_parts f F s.shape.kind s.shape.count s.shape.body ks ms s.means in
      let many = as_many f F s.shape.kind s.shape.count s.shape.body ks ms s.means in
      pairs_vouched n v (Content.dict ks ms) s ∙ dict_pairs s.shape parts.0 ∙ ap Some (sym many.0 ∙ long)

  pub pairs_given : IsValid f F heights → (n k : ℕ) → pairs f F heights n ≡ Some k → HasPairs f F heights n k
  pairs_given valid n k e = elim (cases_Bool (nat_lt 0 (slice_index heights n))) [
    | inr off ↦ absurd (let none : pairs f F heights n ≡ None = ap (λ b. cond b (option_and_then pairs_of (head_found f F n)) None) off in cc (e, none))
    | inl on ↦
        let v : IsVouchedBy heights n = omega (arith, ltb-true 0 (slice_index heights n) on) in
        let o = valid.vouched n v in
        let shape = o.spells.shape in
        let is = some_pairs shape k (sym (pairs_vouched n v o.content o.spells) ∙ e) in
        let dict : o.content ≡ content_of f F kinds.Dict shape.count shape.body = o.spells.means ∙ ap (λ kind. content_of f F kind shape.count shape.body) is.0 in
        (v, (nums_at f shape.body F.ref_size shape.count, nums_at f (shape.body + shape.count * F.ref_size) F.ref_size shape.count, subst (Spells f F n) dict o.spells, length-nums_at f shape.body F.ref_size shape.count ∙ is.1))
  ]

  -- without pairs none are found
  pub no_pairs : IsValid f F heights → (n : ℕ) → ((k : ℕ) → HasPairs f F heights n k → ⊥) → pairs f F heights n ≡ None
  no_pairs valid n none = elim (found_or_none (pairs f F heights n)) [ inl e ↦ e | inr (k, e) ↦ absurd (none k (pairs_given valid n k e)) ]

module _ (f : List ℕ) (F : Frame) (heights : List ℕ) where
  pairs_next : (n : ℕ) → pairs_below f F heights (suc n) ≡ pairs_below f F heights n + unwrap_or (pairs f F heights n) 0
  pairs_next n = found_next (pairs f F heights) n

  -- nothing is listed
  pub listed_none : (starts : List ℕ) → ((m : ℕ) → slice_index starts m ≡ 0) → Listed f F heights 0 starts []
  listed_none starts zeros = record {
    total = refl;
    begins = λ m low. absurd (omega arith);
    later = λ m low. zeros m;
    order = λ m low. absurd (omega arith);
    used = 0;
    sums = sums_none f F (IsVouchedBy heights);
    few = omega arith;
  }

  module _ (n : ℕ) (starts positions : List ℕ) (l : Listed f F heights n starts positions) where
    -- the next object is not vouched for
    pub listed_over : slice_index heights n ≡ 0 → Listed f F heights (n + 1) starts positions
    listed_over none =
        let off_n : nat_lt 0 (slice_index heights n) ≡ false = rw none refl in
        subst (λ k. Listed f F heights k starts positions) (next_is n) (record {
          total = let one = rw off_n at (pairs_next n) in omega (arith, one, l.total);
          begins = λ m low. elim (cases_eq m n) [
            | inl e ↦ rw (e, off_n) (l.later n (omega arith))
            | inr ne ↦ l.begins m (omega arith)
          ];
          later = λ m low. l.later m (omega arith);
          order = λ m low v. elim (cases_eq m n) [
            | inl e ↦ absurd (let z = rw e at v in omega arith)
            | inr ne ↦ l.order m (omega arith) v
          ];
          used = l.used;
          sums = sums_same f F (IsVouchedBy heights) n l.used (λ v. omega (arith, v, none)) l.sums;
          few = l.few;
        })

    module _ (vouched : IsVouchedBy heights n) (room : n < length starts) (head : Head) (shape : HasShape f F n head) where
      on_n : nat_lt 0 (slice_index heights n) ≡ true
      on_n = lt-ltb 0 (slice_index heights n) (omega (arith, vouched))

      -- an object that is vouched for, with its part of the positions
      step : (st : ℕ) (list : List ℕ) → length list ≡ unwrap_or (pairs f F heights n) 0 → st ≡ cond (is_some (pairs f F heights n)) (pairs_below f F heights n) 0 → length list ≤ head.«end» - off f F n
          → ((other : Head) → HasHead f F n other → other.kind ≡ kinds.Dict → (st + other.count ≤ length (positions ++ list)) × AreInOrder f F other (part (positions ++ list) st other.count) other.count)
          → Listed f F heights (suc n) (set starts n st) (positions ++ list)
      step st list many begin short here =
          let long = length-append positions list in
          let at_n : slice_index (set starts n st) n ≡ st = get_or-set_same starts n st 0 room in
          let other_at : (m : ℕ) → m ≢ n → slice_index (set starts n st) m ≡ slice_index starts m = λ m ne. get_or-set_other starts n m st 0 ne in
          record {
            total = omega (arith, pairs_next n, long, l.total, many);
            begins = λ m low. elim (cases_eq m n) [
              | inl e ↦ rw e (at_n ∙ begin)
              | inr ne ↦ other_at m ne ∙ l.begins m (omega arith)
            ];
            later = λ m low. other_at m (λ e. omega arith) ∙ l.later m (omega arith);
            order = λ m low v other has dict. elim (cases_eq m n) [
              | inl e ↦ rw (e, at_n) (here other (rw e at has) dict)
              | inr ne ↦
                  let old = l.order m (omega arith) v other has dict in
                  let whole = old.0 in
                  rw (other_at m ne, part_front positions list (slice_index starts m) other.count whole) (omega (arith, whole, long), old.1)
            ];
            used = l.used + (head.«end» - off f F n);
            sums = sums_more f F (IsVouchedBy heights) n (head.«end» - off f F n) l.used vouched (shape_extent f F n head shape) l.sums;
            few = omega (arith, long, l.few, short);
          }

      found : head_found f F n ≡ Some head
      found = head_is_found f F n head shape.has

      same_head : (other : Head) → HasHead f F n other → head ≡ other
      same_head other has = HasHead-unique f F n head other shape.has has

      -- an object that is not a dictionary
      pub listed_other : (head.kind ≡ kinds.Dict → ⊥) → Listed f F heights (n + 1) (set starts n 0) positions
      listed_other no_dict =
          let o = other_pairs head no_dict in
          let empty : positions ++ [] ≡ positions = search rules in
          subst (λ k. Listed f F heights k (set starts n 0) positions) (next_is n) (subst (Listed f F heights (suc n) (set starts n 0)) empty
          (step 0 [] (rw (on_n, found, o) refl) (rw (on_n, found, o) refl) (omega arith) (λ other has dict. absurd (no_dict (rw (← same_head other has) at dict)))))

      -- how far the bytes of a dictionary go
      pairs_within : head.kind ≡ kinds.Dict → 1 ≤ F.ref_size → head.count ≤ head.«end» - off f F n
      pairs_within dict low =
          let u : item_size F.ref_size head.kind ≡ 2 * F.ref_size = ap (item_size F.ref_size) dict in
          let parts = head_parts f F n head shape.has in
          let end : head.«end» ≡ head.body + head.count * (2 * F.ref_size) = parts.1 ∙ ap (λ x. head.body + head.count * x) u in
          let behind = (announced_short f (off f F n) (markers_of head.kind) head.count head.body parts.0).0 in
          count_within head.count F.ref_size head.body head.«end» (off f F n) low end (omega (arith, behind))
        where
          count_within : (count r body last place : ℕ) → 1 ≤ r → last ≡ body + count * (2 * r) → place ≤ body → count ≤ last - place
          count_within count zero body last place low is from = absurd (omega arith)
          count_within count (suc r) body last place low is from =
              let more : count * (2 * suc r) ≡ count * 2 + count * (2 * r) = omega arith in
              omega arith

      -- a dictionary, with its key list after the positions
      pub listed_dict : head.kind ≡ kinds.Dict → 1 ≤ F.ref_size → (after : List ℕ) → IsListed f F head positions after → Listed f F heights (n + 1) (set starts n (length positions)) after
      listed_dict dict low after is =
          let d = dict_pairs head dict in
          let long = length-append positions is.list in
          let short = pairs_within dict low in
          subst (λ k. Listed f F heights k (set starts n (length positions)) after) (next_is n) (subst (Listed f F heights (suc n) (set starts n (length positions))) (sym is.behind)
          (step (length positions) is.list (rw (on_n, found, d) is.count) (rw (on_n, found, d) l.total) (omega (arith, is.count, short))
          (λ other has k.
          subst (λ (h : Head). (length positions + h.count ≤ length (positions ++ is.list)) × AreInOrder f F h (part (positions ++ is.list) (length positions) h.count) h.count) (same_head other has)
          (omega (arith, long, is.count), subst (λ xs. AreInOrder f F head xs head.count) (sym (part_back positions is.list head.count is.count)) is.order))))

      -- there is room for the positions
      pub listed_room : head.kind ≡ kinds.Dict → 1 ≤ F.ref_size → HaveRoom f F (IsVouchedBy heights) → length positions + head.count + 8 ≤ F.table
      listed_room dict low have =
          let s = sums_more f F (IsVouchedBy heights) n (head.«end» - off f F n) l.used vouched (shape_extent f F n head shape) l.sums in
          let all = have s.objects _ s.differ (all_weaker _ _ (λ m k. k.0) s.objects s.inside) s.take_all in
          omega (arith, all, l.few, pairs_within dict low)

  -- all are listed
  module _ (valid : IsValid f F heights) (keyed : Keyed) (count : length keyed.starts ≡ F.objects) (l : Listed f F heights F.objects keyed.starts keyed.positions) where
    pub upgraded : IsUpgraded f F heights (record { heights = heights; keys = Some keyed })
    upgraded = record {
      keyed = keyed;
      is = refl;
      all = count;
      before = pairs_below f F heights;
      none = refl;
      dict = λ n k low has.
          let is = pairs_there f F heights n k has in
          (l.begins n low ∙ ap (λ o. cond (is_some o) (pairs_below f F heights n) 0) is, pairs_next n ∙ ap (λ o. pairs_below f F heights n + unwrap_or o 0) is);
      other = λ n low no.
          let is = no_pairs f F heights valid n no in
          (l.begins n low ∙ ap (λ o. cond (is_some o) (pairs_below f F heights n) 0) is, omega (arith, pairs_next n, ap (λ o. unwrap_or o 0) is));
      total = l.total;
      accepted = accepted f F (record { heights = heights; keys = Some keyed }) (record {
        framed = valid.frame;
        count = valid.count;
        top = valid.top;
        total = l.used;
        running = record {
          sums = record { objects = l.sums.objects; differ = l.sums.differ; inside = l.sums.inside; take_all = l.sums.take_all; most = l.sums.most };
          room = valid.room l.sums.objects l.used l.sums.differ (all_weaker _ _ (λ m k. k.0) l.sums.objects l.sums.inside) l.sums.take_all;
          kept = λ m low v.
              good_keeps f F heights (Some keyed) m (valid_seen f F heights valid m low v)
              (λ head has dict. ((vouched_keys f F heights valid m v head has dict).0, l.order m low v head has dict));
        };
      });
    }
