-- A walk meets at most one circle, and if it meets one, it began at an object that is not founded.
use Rattle.std.proofs.Common.{◌≡◌, ℕ, zero, suc, ◌<◌, ◌≤◌, ◌+◌, List, length, sym, ap, ◌∙◌, subst, arith}
use Rattle.std.proofs.lemmas.List.{ext_get_or}
use Rattle.bplist_objects.specs.declared.frame.Frame.{Frame}
use Rattle.bplist_objects.specs.Heads.{refs}
use Rattle.bplist_objects.specs.Reach.{Founded}
use Rattle.bplist_objects.proofs.Fronts.{one_head}
use Rattle.bplist_objects.proofs.Lists.{one_number}
use Rattle.bplist_objects.proofs.ReachedObjects.{founded_refs}
use Rattle.bplist_lint.specs.Graph.{IsFirstWithout, IsCircleBy}
use Rattle.bplist_lint.specs.FileFault.{IsCircle}
use Rattle.bplist_lint.proofs.FirstWithout.{IsFirstUnfounded, first_among, first_off, one_first}

-- each object leads on to one object only
module _ (next : ℕ → ℕ → Type 0) (one : (n m k : ℕ) → next n m → next n k → m ≡ k) (top : ℕ) where
  module _ (circle other : List ℕ) (c : IsCircleBy next top circle) (d : IsCircleBy next top other) where
    same_walk : (k : ℕ) → k ≤ c.i + length circle → k ≤ d.i + length other → c.x k ≡ d.x k
    same_walk zero a b = c.begins ∙ sym d.begins
    same_walk (suc k) a b =
        let e = same_walk k (omega (arith, a)) (omega (arith, b)) in
        one (d.x k) (c.x (suc k)) (d.x (suc k)) (subst (λ n. next n (c.x (suc k))) e (c.leads k (omega (arith, a)))) (d.leads k (omega (arith, b)))

    -- the one that comes first to an earlier object does not come before the other
    no_earlier : c.i + length circle < d.i + length other → ⊥
    no_earlier l =
        let first = same_walk c.i (omega arith) (omega (arith, l)) in
        let last = same_walk (c.i + length circle) (omega arith) (omega (arith, l)) in
        d.least c.i (c.i + length circle) (omega (arith, c.some)) l (sym first ∙ c.meets ∙ last)

  module _ (circle other : List ℕ) (c : IsCircleBy next top circle) (d : IsCircleBy next top other) where
    same_end : c.i + length circle ≡ d.i + length other
    same_end = one_number (c.i + length circle) (d.i + length other) (no_earlier circle other c d) (no_earlier other circle d c)

    same_start : c.i ≡ d.i
    same_start =
        let e = same_end in
        let di = same_walk circle other c d d.i (omega (arith, e)) (omega arith) in
        let last : c.x (c.i + length circle) ≡ d.x (d.i + length other) = same_walk circle other c d (c.i + length circle) (omega arith) (omega (arith, e)) ∙ ap d.x e in
        let meet : c.x c.i ≡ c.x d.i = c.meets ∙ last ∙ sym d.meets ∙ sym di in
        one_number c.i d.i
        (λ l. c.least c.i d.i l (omega (arith, d.some, e)) meet)
        (λ l. c.least d.i c.i l (omega (arith, c.some)) (sym meet))

    pub one_circle_by : circle ≡ other
    one_circle_by =
        let e = same_end in
        let s = same_start in
        ext_get_or 0 circle other (omega (arith, e, s)) (λ k l.
        c.listed k l
        ∙ same_walk circle other c d (c.i + k) (omega (arith, l)) (omega (arith, l, e))
        ∙ ap (λ i. d.x (i + k)) s
        ∙ sym (d.listed k (omega (arith, l, e, s))))

module _ (f : List ℕ) (F : Frame) where
  -- there is at most one first reference that is not founded
  leads_one : (n m k : ℕ) → IsFirstUnfounded f F n m → IsFirstUnfounded f F n k → m ≡ k
  leads_one n m k a b =
      let e = one_head f F n a.0 b.0 a.1 b.1 in
      one_first (Founded f F) (refs b.0) m k (subst (λ x. IsFirstWithout (Founded f F) (refs x) m) e a.2) b.2

  -- a file has one circle
  pub one_circle : (circle other : List ℕ) → IsCircle f F circle → IsCircle f F other → circle ≡ other
  one_circle = one_circle_by (IsFirstUnfounded f F) leads_one F.top.0

  -- if there is a circle, the top is not founded
  pub circle_not_founded : (circle : List ℕ) → IsCircle f F circle → Founded f F F.top.0 → ⊥
  circle_not_founded circle c founded_top =
      let a = c.leads 0 (omega (arith, c.some)) in
      let among = first_among (Founded f F) (refs a.0) (c.x 1) a.2 in
      first_off (Founded f F) (refs a.0) (c.x 1) a.2 (founded_refs f F (c.x 0) (c.x 1) (subst (Founded f F) (sym c.begins) founded_top) (a.0, a.1, among))
