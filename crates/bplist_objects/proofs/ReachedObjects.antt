-- References, the objects reachable by them, and founded objects.
use Rattle.std.proofs.Common.{◌≡◌, ℕ, ◌<◌, ◌↔◌, List, [], Option, Some, None, refl, sym, ap, subst, Contains}
use Rattle.std.specs.Option.{option_map_or}
use Rattle.bplist_objects.specs.declared.frame.Frame.{Frame}
use Rattle.bplist_objects.specs.Heads.{Content, refs, Spells}
use Rattle.bplist_objects.specs.Reach.{Refs, Reach, top, next, Chain, last, more, Founded, founded}
use Rattle.bplist_objects.specs.Spelled.{spelled_at, refs_at}
use Rattle.bplist_objects.proofs.ProperLeaves.{refs_below}
use Rattle.bplist_objects.proofs.Lists.{all_at, none_in}
use Rattle.bplist_objects.proofs.Fronts.{one_head}
use Rattle.bplist_objects.proofs.SpelledContents.{spells_iff}

module _ (f : List ℕ) (F : Frame) where
  -- ---- references as a function
  -- the references of what is spelled
  pub refs_spelled : (n : ℕ) (c : Content) → Spells f F n c → refs_at f F n ≡ refs c
  unfolding refs_at
  refs_spelled n c s = ap (λ x. option_map_or refs x []) ((spells_iff f F n c).0 s)

  -- an object refers to each of them
  pub refs_iff : (n m : ℕ) → Refs f F n m ↔ Contains (refs_at f F n) m
  unfolding refs_at
  refs_iff n m = ((λ r. subst (λ ms. Contains ms m) (sym (refs_spelled n r.0 r.1)) r.2), from)
    where
      from : Contains (refs_at f F n) m → Refs f F n m
      from h = go (spelled_at f F n) refl h
        where
          go : (found : Option Content) → spelled_at f F n ≡ found → Contains (option_map_or refs found []) m → Refs f F n m
          go None e k = absurd (none_in m k)
          go (Some c) e k = (c, (spells_iff f F n c).1 e, k)

  -- ---- reachable objects
  -- a reference leads to an object
  pub refs_within : (n m : ℕ) → Refs f F n m → m < F.objects
  refs_within n m r = all_at (λ k. k < F.objects) (refs r.0) m (refs_below f F n r.0 r.1) r.2

  pub reach_within : F.top.0 < F.objects → (n : ℕ) → Reach f F n → n < F.objects
  reach_within t n top = t
  reach_within t n (next {n = k} r e) = refs_within k n e

  -- two chains, one after the other
  pub chain_append : (n m k : ℕ) → Chain f F n m → Chain f F m k → Chain f F n k
  chain_append n m k (last e) d = more e d
  chain_append n m k (more {m = j} e c) d = more e (chain_append j m k c d)

  -- ---- founded objects
  -- what a founded object refers to is founded
  pub founded_refs : (n m : ℕ) → Founded f F n → Refs f F n m → Founded f F m
  founded_refs n m (founded c s each) r = each m (subst (λ d. Contains (refs d) m) (one_head f F n r.0 c r.1 s) r.2)

  -- no founded object is on a circle
  pub founded_no_circle : (n : ℕ) → Founded f F n → Chain f F n n → ⊥
  founded_no_circle n (founded c s each) chain = go (λ k m. founded_no_circle k (each k m)) chain
    where
      among : (m : ℕ) → Refs f F n m → Contains (refs c) m
      among m r = subst (λ d. Contains (refs d) m) (one_head f F n r.0 c r.1 s) r.2

      go : ((k : ℕ) → Contains (refs c) k → Chain f F k k → ⊥) → Chain f F n n → ⊥
      go below (last e) = below n (among n e) (last e)
      go below (more {m = k} e d) = below k (among k e) (chain_append k n k d (last e))
