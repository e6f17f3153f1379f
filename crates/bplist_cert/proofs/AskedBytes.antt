-- What the passes over the keys of version 1 ask for, by the bytes of the objects.
use Rattle.std.proofs.Common.{◌≡◌, ℕ, ◌+◌, ◌-◌, ◌*◌, ◌<◌, ◌≤◌, List, ◌∷◌, length, refl, ap, arith}
use Rattle.std.specs.List.{AllByRecursion}
use Rattle.std.proofs.Math.Nat.{mul-le-mul_right}
use Rattle.bplist_objects.specs.declared.frame.Frame.{Frame}
use Rattle.bplist_objects.specs.declared.head.Head.{Head}
use Rattle.bplist_objects.specs.declared.head.Kind.TheVariants.{Dict}
use Rattle.bplist_objects.specs.Announced.{HasHead}
use Rattle.bplist_objects.specs.Extents.{HaveRoom, TakeOctets, Takes}
use Rattle.bplist_objects.specs.Frame.{off, IsFrame}
use Rattle.bplist_objects.specs.Holds.{AreDistinct}
use Rattle.bplist_objects.specs.ObjectRules.{KeepsByObject, shape_rules}
use Rattle.bplist_objects.specs.Rules.{KeepsAll}
use Rattle.bplist_objects.specs.Safe.{ref_count}
use Rattle.bplist_objects.proofs.BodyLaws.{refs_fit}
use Rattle.bplist_objects.proofs.ExtentSums.{shape_extent}
use Rattle.bplist_objects.proofs.HeadTies.{announced_shape, kept_announces}
use Rattle.bplist_objects.proofs.Lists.{all_at, all_weaker, distinct_more}
use Rattle.bplist_cert.specs.Looks.{KeepsBeforeKeys}
use Rattle.bplist_cert.specs.PairFault.{AreCheckedBelow}
use Rattle.bplist_cert.specs.Lists.{Lists}
use Rattle.bplist_cert.specs.Valid.{IsVouchedBy}
use Rattle.bplist_cert.specs.declared.walk.Pass.{Pass}
use Rattle.bplist_cert.proofs.CheckSteps.{vouched_inside}
use Rattle.bplist_cert.proofs.KeyRepeats.{seen_own}

module _ (f : List ℕ) (F : Frame) where
  -- the references to the keys of a dictionary are among its bytes
  pub keys_within : (n : ℕ) (head : Head) → 1 ≤ F.ref_size → head.kind ≡ Dict → HasHead f F n head → off f F n + head.count * F.ref_size ≤ head.«end»
  keys_within n head low dict has =
      let two : ref_count head.kind head.count ≡ 2 * head.count = ap (λ kind. ref_count kind head.count) dict in
      let most : head.count * F.ref_size ≤ ref_count head.kind head.count * F.ref_size = mul-le-mul_right F.ref_size (omega (arith, two)) in
      omega (arith, most, (refs_fit F.ref_size head.count head.kind low).0, has.body, has.ends)

  -- an object that keeps the rules before those of keys has a head, and takes bytes
  pub head_taken : (heights : List ℕ) (n : ℕ) → IsFrame f F → n < F.objects → KeepsBeforeKeys f F heights n → (head : Head) × HasHead f F n head × Takes f F n (head.«end» - off f F n)
  head_taken heights n frame low seen =
      let kept = seen_own f F heights n seen in
      let shapes : KeepsAll (KeepsByObject f F n) shape_rules = (kept.0, (kept.1.0, (kept.1.1.0, (kept.1.1.1.0, tt)))) in
      let head = kept_announces f F n frame low shapes in
      (head.0, head.1, shape_extent f F n head.0 (announced_shape f F n frame low head.0 head.1 shapes))

  -- if a walk found no fault, the vouched objects fit before the table
  pub all_room : (certificate : Lists) (look : Pass) (t : ℕ) → length certificate.heights ≡ F.objects → AreCheckedBelow f F certificate look F.objects t → HaveRoom f F (IsVouchedBy certificate.heights)
  all_room certificate look t count run ns r d a w =
      let b = run.sums.most ns r d (all_weaker _ _ (λ m v. (v, vouched_inside certificate.heights F.objects m count v)) ns a) w in
      omega (arith, b, run.room)

  -- some of the objects of S below n take as many bytes as were asked for beside 36 for each number
  pub record ArePaid (S : ℕ → Type 0) (n start now : ℕ) : Type 0 where
    pub objects : List ℕ
    pub bytes : ℕ
    pub differ : AreDistinct objects
    pub inside : AllByRecursion (λ m. S m × (m < n)) objects
    pub take_all : TakeOctets f F objects bytes
    pub enough : now ≤ start + 36 * n + bytes

  module _ (S : ℕ → Type 0) where
    module _ (n start now : ℕ) (paid : ArePaid S n start now) where
      still : AllByRecursion (λ m. S m × (m < n + 1)) paid.objects
      still = all_weaker _ _ (λ m k. (k.0, let l = k.1 in omega arith)) paid.objects paid.inside

      pub paid_over : ArePaid S (n + 1) start now
      paid_over = record {
        objects = paid.objects;
        bytes = paid.bytes;
        differ = paid.differ;
        inside = still;
        take_all = paid.take_all;
        enough = let e = paid.enough in omega (arith, e);
      }

      pub paid_more : (e later : ℕ) → S n → Takes f F n e → later ≤ now + 36 + e → ArePaid S (n + 1) start later
      paid_more e later on takes asked = record {
        objects = n ∷ paid.objects;
        bytes = e + paid.bytes;
        differ = distinct_more n paid.objects (λ c. let l = (all_at _ paid.objects n paid.inside c).1 in omega arith) paid.differ;
        inside = ((on, omega arith), still);
        take_all = (e, paid.bytes, takes, paid.take_all, refl);
        enough = let before = paid.enough in omega (arith, before, asked);
      }

      pub paid_all : HaveRoom f F S → now + 8 ≤ start + 36 * n + F.table
      paid_all room =
          let all = room paid.objects paid.bytes paid.differ (all_weaker _ _ (λ m k. k.0) paid.objects paid.inside) paid.take_all in
          omega (arith, all, paid.enough)
