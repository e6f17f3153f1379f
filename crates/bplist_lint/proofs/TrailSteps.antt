-- Steps of the walk to the circle.
use Rattle.std.proofs.Common.{◌≡◌, ◌≢◌, ℕ, suc, ◌+◌, ◌<◌, inl, inr, Bool, true, false, not, List, [], ◌∷◌, ◌++◌, length, get_or, set, drop, map, replicate, count_by, refl, sym, ◌∙◌, ap, arith}
use Rattle.std.proofs.lemmas.Bool.{false≢true}
use Rattle.std.proofs.lemmas.List.{get_or-set_same, length-set, get_or_append_left, get_or_push, length_push, length-replicate, get_or_default, get_or-drop, length-drop}
use Rattle.std.proofs.lemmas.List.Elements.{Contains-append_left, Contains-push}
use Rattle.bplist_lint.specs.Graph.{Reaches, Ends, Least, IsFirstWithout, IsFirstUnfoundedIn, IsCircleOf, AreLeast}
use Rattle.bplist_lint.specs.Graph.Reaches.{start, onward}
use Rattle.bplist_lint.specs.Graph.Ends.{ends}
use Rattle.bplist_lint.specs.Graph.Least.{above}
use Rattle.bplist_lint.specs.Trail.{number, object, AllHave, IsFirstIndex, IsTrail, Leading}
use Rattle.bplist_lint.proofs.FirstWithout.{first_among, first_off, first_too}
use Rattle.bplist_lint.proofs.ListWrites.{push_cases, at_set, seen-set, count-set, unwritten, differ_push}

pub numbers_named : (xs : List ℕ) → map number (map object xs) ≡ xs
numbers_named [] = refl
numbers_named (x ∷ xs) = ap (λ ys. x ∷ ys) (numbers_named xs)

-- what has a least height is founded
pub Ends-from_least : (refs : ℕ → List ℕ) (n h : ℕ) → Least refs n h → Ends refs n
Ends-from_least refs _ _ (above n hs long each) =
    ends n (λ m c. rw (← c.2, get_or_default (refs n) c.0 m 0 c.1) (Ends-from_least refs (get_or (refs n) c.0 0) (get_or hs c.0 0) (each c.0 c.1)))

-- an object is founded if each of its references has a height
pub founded_all : (refs : ℕ → List ℕ) (top : ℕ) (heights : List ℕ) (n : ℕ) → AreLeast refs top heights → AllHave heights (refs n) (length (refs n)) → Ends refs n
founded_all refs top heights n a have =
    ends n (λ m c. rw (← c.2, get_or_default (refs n) c.0 m 0 c.1) (Ends-from_least refs _ _ (a.vouched _ (have c.0 c.1)).1))

-- the first reference without a height is the first that is not founded
pub is_next : (refs : ℕ → List ℕ) (top : ℕ) (heights : List ℕ) (n m : ℕ) → AreLeast refs top heights → Reaches refs top n → IsFirstWithout (λ k. 0 < get_or heights k 0) (refs n) m → Reaches refs top m × IsFirstUnfoundedIn refs n m
is_next refs top heights n m a reached f = (
  onward n m reached (first_among (λ k. 0 < get_or heights k 0) (refs n) m f),
  first_too (λ k. 0 < get_or heights k 0) (Ends refs) (refs n) (λ k c. (λ h. Ends-from_least refs _ _ (a.vouched k h).1, λ is. a.all k (onward n k reached c) is)) m f,
)

-- nothing is met yet
pub trail_none : (size : ℕ) → IsTrail size (replicate size false) []
trail_none size = record {
  all_met = length-replicate size false;
  on_trail = λ n h. absurd (false≢true (sym (unwritten size n false) ∙ h));
  marked = λ k h. absurd (omega arith);
  differ = λ j k less h. absurd (omega arith);
}

-- fewer objects are left to meet
pub fewer_left : (met : List Bool) (x : ℕ) → x < length met → get_or met x false ≡ false → count_by not (set met x true) < count_by not met
fewer_left met x within new = let n = rw new at (count-set not met x true false within) in omega (arith, n)

-- one more object is met
pub trail_more : (size : ℕ) (met : List Bool) (trail : List ℕ) (x : ℕ) → IsTrail size met trail → x < size → get_or met x false ≡ false → IsTrail size (set met x true) (trail ++ x ∷ [])
trail_more size met trail x p in' new =
    let within : x < length met = omega (arith, p.all_met) in
    let not_x : (j : ℕ) → j < length trail → get_or trail j 0 ≢ x = λ j h e. absurd (false≢true (sym new ∙ rw e at (p.marked j h))) in
    record {
      all_met = length-set met x true ∙ p.all_met;
      on_trail = λ n h. elim (at_set met x true false n within) [
        | inl c ↦ rw c.0 (Contains-push trail x)
        | inr c ↦ Contains-append_left trail (x ∷ []) n (p.on_trail n (sym c.1 ∙ h))
      ];
      marked = λ k h. elim (push_cases trail x 0 k h) [
        | inl c ↦ rw c.1 (seen-set met x _ within (p.marked k c.0))
        | inr c ↦ rw c.1 (get_or-set_same met x true false within)
      ];
      differ = differ_push (λ n. n) 0 trail x p.differ not_x;
    }

pub leading_more : (refs : ℕ → List ℕ) (top : ℕ) (trail : List ℕ) (x m : ℕ) → Leading refs top trail x → Reaches refs top m → IsFirstUnfoundedIn refs x m → Leading refs top (trail ++ x ∷ []) m
leading_more refs top trail x m l reached n =
    let walk : List ℕ = trail ++ x ∷ [] in
    let long = length_push trail x in
    let long' = length_push walk m in
    record {
      begins = get_or_append_left walk (m ∷ []) 0 0 (omega arith) ∙ l.begins;
      next = λ k h. elim (push_cases trail x 0 k h) [
        | inl c ↦ rw (get_or_append_left walk (m ∷ []) 0 k h, get_or_append_left walk (m ∷ []) 0 (suc k) (let low = c.0 in omega arith)) (l.next k c.0)
        | inr c ↦ let is : length walk ≡ suc k = let e = c.0 in omega arith in
            rw (get_or_append_left walk (m ∷ []) 0 k h, c.1, get_or_push walk m 0 (suc k) is) n
      ];
      reached = reached;
      not_founded = first_off (Ends refs) (refs x) m n;
    }

pub leading_start : (refs : ℕ → List ℕ) (top : ℕ) (heights : List ℕ) → AreLeast refs top heights → get_or heights top 0 ≡ 0 → Leading refs top [] top
leading_start refs top heights a zero_at = record {
  begins = refl;
  next = λ k h. absurd (omega arith);
  reached = start;
  not_founded = λ is. let h = a.all top start is in omega arith;
}

-- the trail from the index of x on is the circle
pub is_circle : (refs : ℕ → List ℕ) (top size : ℕ) (met : List Bool) (trail : List ℕ) (x index : ℕ) → IsTrail size met trail → Leading refs top trail x → IsFirstIndex trail x index → IsCircleOf refs top (drop index trail)
is_circle refs top size met trail x index p l at_index =
    let walk : List ℕ = trail ++ x ∷ [] in
    let low = at_index.within in
    let long = length-drop index trail in
    let end : index + length (drop index trail) ≡ length trail = omega (arith, long, low) in
    let on_trail : (k : ℕ) → k < length trail → get_or walk k 0 ≡ get_or trail k 0 = λ k h. get_or_append_left trail (x ∷ []) 0 k h in
    record {
      x = λ k. get_or walk k 0;
      i = index;
      begins = l.begins;
      leads = λ k h. l.next k (omega (arith, h, end));
      some = omega (arith, end, low);
      meets = on_trail index low ∙ at_index.here ∙ sym (get_or_push trail x 0 (length trail) refl) ∙ ap (λ k. get_or walk k 0) (sym end);
      least = λ k m less h same.
          let h' : m < length trail = omega (arith, h, end) in
          let k' : k < length trail = omega (arith, less, h') in
          p.differ k m less h' (sym (on_trail k k') ∙ same ∙ on_trail m h');
      listed = λ k h. get_or-drop index trail k 0 ∙ sym (on_trail (index + k) (omega (arith, long)));
    }
