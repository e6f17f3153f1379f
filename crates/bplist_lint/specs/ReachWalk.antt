-- The one walk over the reached objects: what it knows between two visits, and at its end. Source: profile.
use Rattle.std.specs.Prelude.{◌≡◌, ◌≢◌, ◌⊎◌, ◌↔◌, ℕ, ◌+◌, ◌-◌, ◌<◌, ◌≤◌, Bool, not, count_by, All, List, length, slice_index, vec_len, Contains, Option, Some, None, Result, Ok, Err, sum_by, filter}
use Rattle.std.specs.List.{range_with_len}
use Rattle.bplist_octets.specs.declared.source.ReadFault.{ReadFault}
use Rattle.bplist_objects.specs.declared.fault.ObjectFault.{ObjectFault}
use Rattle.bplist_objects.specs.declared.fault.ObjectFault.TheVariants as object_faults
use Rattle.bplist_objects.specs.declared.frame.Frame.{Frame}
use Rattle.bplist_objects.specs.declared.head.Head.{Head}
use Rattle.bplist_objects.specs.Announced.{HasHead}
use Rattle.bplist_objects.specs.Markers.{head_found}
use Rattle.bplist_objects.specs.Frame.{off}
use Rattle.bplist_objects.specs.ObjectRules.{KeepsByObject, object_rules}
use Rattle.bplist_objects.specs.Reach.{Reach}
use Rattle.bplist_objects.specs.Rules.{KeepsAll}
use Rattle.bplist_objects.specs.Spelled.{refs_at}
use Rattle.bplist_keys.specs.Classes.{HasNamedKeys}
use Rattle.bplist_keys.specs.Marks.{IsMarked}
use Rattle.bplist_keys.specs.declared.named_keys.NamedKeys.{NamedKeys}
use Rattle.bplist_lint.specs.declared.tally.Tally.{Tally}
use Rattle.bplist_lint.specs.declared.walk.Stop.{Stop}
use Rattle.bplist_lint.specs.declared.walk.Stop.TheVariants as stops
use Rattle.bplist_lint.specs.declared.walk.Worklist.{Worklist}
use Rattle.bplist_lint.specs.declared.walk.Progress.{Progress}
use Rattle.bplist_lint.specs.declared.walk.Reached.{Reached}
use Rattle.bplist_lint.specs.ReachSearch.{HasMarks}
use Rattle.bplist_lint.specs.ReferenceGraph.{AreChildless}
use Rattle.bplist_lint.specs.ReachRules.{number_below, references_below, is_marked, Tallied}
use Rattle.bplist_lint.specs.Tallies.{IsRoomy}

-- ---- why the walk ended
-- the reason, from a fault of an object or a failed read
abbrev pub of_object : ObjectFault → Stop
of_object (object_faults.Fault _) = stops.Trouble
of_object (object_faults.Read error) = stops.Read error

-- the fault of the failed read that stopped the walk, if one did
abbrev pub stopped_by_read : Stop → Option ReadFault
stopped_by_read (stops.Read fault) = Some fault
stopped_by_read _ = None

-- the fault of the failed read that the result is, if it is one
abbrev pub stop_failed : {X : Type 0} → Result X Stop → Option ReadFault
stop_failed (Ok x) = None
stop_failed (Err stop) = stopped_by_read stop

-- ---- whatever the source gives
-- each object has a mark, and the stack has objects only
pub record IsSteady (size : ℕ) (w : Worklist) : Type 0 where
  pub all_marks : vec_len w.marks ≡ size
  pub stack_in : All (λ m. m < size) w.stack.items

-- each object has its marks, the stack has objects only, and there is room for what was visited
pub record IsSteadyWalk (F : Frame) (p : Progress) : Type 0 where
  pub worklist : IsSteady F.objects p.worklist
  pub all_childless : vec_len p.childless ≡ F.objects
  pub all_named : length p.named.marks.items ≡ F.objects
  pub roomy : IsRoomy F p.tally

-- each object has both marks, and there is room for the reached objects
pub record HasRoomFor (F : Frame) (reached : Reached) : Type 0 where
  pub all_marks : vec_len reached.marks ≡ F.objects
  pub all_childless : vec_len reached.childless ≡ F.objects
  pub roomy : IsRoomy F reached.tally

-- ---- one visit
-- no object is on the stack twice
abbrev pub AreApart : List ℕ → Type 0
AreApart stack = (j k : ℕ) → j < k → k < length stack → slice_index stack j ≢ slice_index stack k

-- the first i of these references are marked; those that were not marked before are from `next` on, or on the stack,
-- once
pub record Noted (references : List ℕ) (next i : ℕ) (marks : List Bool) (stack : List ℕ) (marks' : List Bool) (stack' : List ℕ) : Type 0 where
  pub keeps_marks : (m : ℕ) → IsMarked marks m → IsMarked marks' m
  pub keeps_stack : (m : ℕ) → Contains stack m → Contains stack' m
  pub fresh : (m : ℕ) → IsMarked marks' m → IsMarked marks m ⊎ (Contains references m × ((next ≤ m) ⊎ Contains stack' m))
  pub waiting : (m : ℕ) → Contains stack' m → Contains stack m ⊎ (IsMarked marks' m × (IsMarked marks m → ⊥) × (m < next))
  pub apart : ((m : ℕ) → Contains stack m → IsMarked marks m) → AreApart stack → AreApart stack'
  pub all : (k : ℕ) → k < i → IsMarked marks' (slice_index references k)

-- after a visit or a part of one, the walk is at the same object, and has no more work left than before
pub record Worked (before after : Worklist) : Type 0 where
  pub current : after.current ≡ before.current
  pub work : count_by not after.marks.items + vec_len after.stack ≤ count_by not before.marks.items + vec_len before.stack

-- the first i of these references are noted in the worklist
abbrev pub NotedIn : List ℕ → ℕ → Worklist → Worklist → Type 0
NotedIn references i before after =
    Noted references (before.current + 1) i before.marks.items before.stack.items after.marks.items after.stack.items

-- there is one mark for each object, and no object lost its mark
pub record KeepsNames (size : ℕ) (before after : NamedKeys) : Type 0 where
  pub all : length after.marks.items ≡ size
  pub keeps : (m : ℕ) → IsMarked before.marks.items m → IsMarked after.marks.items m

-- only marked objects are named
abbrev pub NamesMarked : List Bool → List Bool → Type 0
NamesMarked marks named = (m : ℕ) → IsMarked named m → IsMarked marks m

-- the bytes that an object at this place takes, by its head
abbrev pub extent_by : ℕ → Option Head → ℕ
extent_by place None = 0
extent_by place (Some head) = head.end - place

module _ (f : List ℕ) (F : Frame) where
  -- the bytes that object n takes
  abbrev pub extent : ℕ → ℕ
  extent n = extent_by (off f F n) (head_found f F n)

  -- the bytes that the objects below n that satisfy p take together
  abbrev pub extents_below : (ℕ → Bool) → ℕ → ℕ
  extents_below p n = sum_by extent (filter p (range_with_len 0 n))

  -- object n keeps rules 14 to 20, its references are marked, and its keys are named
  pub record IsVisited (marks keys : List Bool) (n : ℕ) : Type 0 where
    pub head : Head
    pub has : HasHead f F n head
    pub kept : KeepsAll (KeepsByObject f F n) object_rules
    pub all : HasMarks marks (refs_at f F n)
    pub named : HasNamedKeys f F keys n

  -- between two visits: what is marked is reached; it is from `next` on, on the stack, or was visited once; the tally
  -- is that of what was visited
  pub record IsWalkState (next : ℕ) (stack : List ℕ) (marks childless keys : List Bool) (tally : Tally) : Type 0 where
    pub visited : List Bool
    pub all_visited : length visited ≡ F.objects
    pub begun : IsMarked marks F.top.0
    pub sound : (m : ℕ) → IsMarked marks m → Reach f F m
    pub waiting : (m : ℕ) → Contains stack m → IsMarked marks m × (IsMarked visited m → ⊥) × (m < next)
    pub apart : AreApart stack
    pub closed : (m : ℕ) → IsMarked marks m → (next ≤ m) ⊎ (Contains stack m ⊎ IsMarked visited m)
    pub each : (m : ℕ) → IsMarked visited m → IsMarked marks m × (m < next) × IsVisited marks keys m
    pub childless_known : AreChildless f F childless
    pub reached : tally.reached ≡ number_below (is_marked visited) F.objects
    pub used : tally.used.octets ≡ extents_below (is_marked visited) F.objects
    pub references : tally.references ≡ references_below f F (is_marked visited) F.objects

  -- the state of the walk between two visits, with this stack
  abbrev pub IsWalking : ℕ → List ℕ → Progress → Type 0
  IsWalking next stack p = IsWalkState next stack p.worklist.marks.items p.childless.items p.named.marks.items p.tally

  -- exactly the reached objects are marked, they keep rules 14 to 20 and 31, and this is their tally
  pub record IsWalked (reached : Reached) : Type 0 where
    pub marked : (n : ℕ) → IsMarked reached.marks.items n ↔ Reach f F n
    pub childless : AreChildless f F reached.childless.items
    pub tallied : Tallied f F reached.marks.items F.objects reached.tally

  -- the keys of the reached dictionaries are named
  abbrev pub AreNamed : List Bool → Type 0
  AreNamed keys = (n : ℕ) → Reach f F n → HasNamedKeys f F keys n
