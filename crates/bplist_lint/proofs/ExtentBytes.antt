-- What objects take bounds what is read of them.
use Rattle.std.proofs.Common.{◌≡◌, ℕ, zero, suc, ◌+◌, ◌-◌, ◌*◌, ◌<◌, ◌≤◌, ◌↔◌, Bool, true, false, List, refl, sym, ap, ◌∙◌, subst, arith}
use Rattle.std.proofs.Math.Nat.{mul-le-mul_right}
use Rattle.std.proofs.lemmas.Bool.{false≢true}
use Rattle.bplist_objects.specs.declared.frame.Frame.{Frame}
use Rattle.bplist_objects.specs.declared.head.Head.{Head}
use Rattle.bplist_objects.specs.declared.head.Kind.TheVariants.{Dict}
use Rattle.bplist_objects.specs.Extents.{Sums}
use Rattle.bplist_objects.specs.Frame.{off}
use Rattle.bplist_objects.specs.Heads.{HasShape}
use Rattle.bplist_objects.specs.Reach.{Reach}
use Rattle.bplist_objects.specs.Safe.{ref_count}
use Rattle.bplist_objects.proofs.BodyLaws.{refs_fit}
use Rattle.bplist_objects.proofs.ExtentSums.{shape_extent, sums_none, sums_more, sums_same}
use Rattle.bplist_objects.proofs.HeadTies.{kept_announces, kept_spells}
use Rattle.bplist_keys.specs.Marks.{IsMarked}
use Rattle.bplist_lint.specs.KeyClasses.{AreSound}
use Rattle.bplist_lint.specs.ReachRules.{is_marked, Tallied}
use Rattle.bplist_lint.specs.ReachWalk.{extent, extents_below}
use Rattle.bplist_lint.specs.declared.tally.Tally.{Tally}
use Rattle.bplist_lint.proofs.RangeSums.{extent_is, extents_next}

module _ (f : List ℕ) (F : Frame) where
  -- the references of an object are among its bytes
  pub refs_bytes : (n : ℕ) (head : Head) → 1 ≤ F.ref_size → HasShape f F n head → ref_count head.kind head.count * F.ref_size ≤ extent f F n
  refs_bytes n head low shape =
      let fit = refs_fit F.ref_size head.count head.kind low in
      omega (arith, fit.0, shape.has.body, shape.has.ends, extent_is f F n head shape.has)

  -- and so are those to keys
  pub keys_bytes : (n : ℕ) (head : Head) → 1 ≤ F.ref_size → head.kind ≡ Dict → HasShape f F n head → head.count * F.ref_size ≤ extent f F n
  keys_bytes n head low dict shape =
      let two : ref_count head.kind head.count ≡ 2 * head.count = ap (λ kind. ref_count kind head.count) dict in
      let most : head.count * F.ref_size ≤ ref_count head.kind head.count * F.ref_size = mul-le-mul_right F.ref_size (omega (arith, two)) in
      omega (arith, most, refs_bytes n head low shape)

  module _ (marks : List Bool) (sound : AreSound f F marks) (marked : (n : ℕ) → IsMarked marks n ↔ Reach f F n) where
    -- a marked object has a head
    pub shape_of : (n : ℕ) → n < F.objects → IsMarked marks n → (head : Head) × HasShape f F n head
    shape_of n low is =
        let kept = sound.kept n is in
        let head = kept_announces f F n sound.framed low (kept.0, (kept.1.0, (kept.1.1.0, (kept.1.1.1.0, tt)))) in
        (head.0, (kept_spells f F n sound.framed low head.0 head.1 kept).0)

    -- the marked objects below n take this many bytes
    pub sums_at : (n : ℕ) → n ≤ F.objects → Sums f F (Reach f F) n (extents_below f F (is_marked marks) n)
    sums_at zero low = sums_none f F (Reach f F)
    sums_at (suc n) low = go (sums_at n (omega (arith, low))) (is_marked marks n) refl
      where
        go : Sums f F (Reach f F) n (extents_below f F (is_marked marks) n) → (b : Bool) → is_marked marks n ≡ b → Sums f F (Reach f F) (suc n) (extents_below f F (is_marked marks) (suc n))
        go before true e =
            let shape = shape_of n (omega (arith, low)) e in
            let bytes = shape.0.«end» - off f F n in
            let next = rw e at (extents_next f F (is_marked marks) n) in
            let both : extents_below f F (is_marked marks) n + bytes ≡ extents_below f F (is_marked marks) (suc n) = omega (arith, next, extent_is f F n shape.0 shape.1.has) in
            subst (Sums f F (Reach f F) (suc n)) both (sums_more f F (Reach f F) n bytes (extents_below f F (is_marked marks) n) ((marked n).0 e) (shape_extent f F n shape.0 shape.1) before)
        go before false e =
            let next = rw e at (extents_next f F (is_marked marks) n) in
            let same : extents_below f F (is_marked marks) n ≡ extents_below f F (is_marked marks) (suc n) = omega (arith, next) in
            subst (Sums f F (Reach f F) (suc n)) same (sums_same f F (Reach f F) n (extents_below f F (is_marked marks) n) (λ r. false≢true (sym e ∙ (marked n).1 r)) before)

    -- the marked objects take no more bytes than are tallied
    pub extents_tallied : (tally : Tally) → Tallied f F marks F.objects tally → extents_below f F (is_marked marks) F.objects ≤ tally.used.octets
    extents_tallied tally t =
        let s = sums_at F.objects (omega arith) in
        t.sums.most s.objects (extents_below f F (is_marked marks) F.objects) s.differ s.inside s.take_all
