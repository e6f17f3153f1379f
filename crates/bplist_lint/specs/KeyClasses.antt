-- What the classes of keys say about a file whose objects are marked. Source: profile.
use Rattle.std.specs.Prelude.{ℕ, Bool, List}
use Rattle.bplist_objects.specs.declared.frame.Frame.{Frame}
use Rattle.bplist_objects.specs.Frame.{IsFrame}
use Rattle.bplist_objects.specs.Reach.{Refs}
use Rattle.bplist_objects.specs.Rules.{KeepsAll}
use Rattle.bplist_objects.specs.ObjectRules.{KeepsByObject, object_rules}
use Rattle.bplist_keys.specs.Marks.{IsMarked}

module _ (f : List ℕ) (F : Frame) where
  -- F is the frame of f; the marked objects keep rules 14 to 20 and refer to marked objects only
  pub record AreSound (marks : List Bool) : Type 0 where
    pub framed : IsFrame f F
    pub kept : (m : ℕ) → IsMarked marks m → KeepsAll (KeepsByObject f F m) object_rules
    pub closed : (n m : ℕ) → IsMarked marks n → Refs f F n m → IsMarked marks m
