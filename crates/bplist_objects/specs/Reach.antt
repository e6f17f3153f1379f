-- The references between objects. Source: profile; the file format only says what a reference is.
use Rattle.std.specs.Prelude.{ℕ, List, Contains}
use Rattle.bplist_objects.specs.declared.frame.Frame.{Frame}
use Rattle.bplist_objects.specs.Heads.{Content, refs, Spells}

module _ (f : List ℕ) (F : Frame) where
  -- object n refers to m
  abbrev pub Refs : ℕ → ℕ → Type 0
  Refs n m = (c : Content) × Spells f F n c × Contains (refs c) m

  -- object n is reachable: the top is, and what reachable objects refer to
  pub data Reach : ℕ → Type 0 where
    top : Reach F.top.0
    next : {n m : ℕ} → Reach n → Refs n m → Reach m

  -- a chain of one or more references
  pub data Chain : ℕ → ℕ → Type 0 where
    last : {n m : ℕ} → Refs n m → Chain n m
    more : {n m k : ℕ} → Refs n m → Chain m k → Chain n k

  -- object n spells a content, and all its references are founded
  pub data Founded : ℕ → Type 0 where
    founded : {n : ℕ} (c : Content) → Spells f F n c → ((m : ℕ) → Contains (refs c) m → Founded m) → Founded n
