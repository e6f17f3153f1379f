-- The references of a file's objects as a graph, and the parts of it that are in memory. Source: profile.
use Rattle.std.specs.Prelude.{◌≡◌, ℕ, ◌-◌, Bool, List, [], drop, Option, Some, None}
use Rattle.bplist_objects.specs.declared.frame.Frame.{Frame}
use Rattle.bplist_objects.specs.declared.head.Head.{Head}
use Rattle.bplist_objects.specs.Reach.{Reach}
use Rattle.bplist_objects.specs.Safe.{ref_count}
use Rattle.bplist_objects.specs.KeyCounts.{key_count}
use Rattle.bplist_objects.specs.Markers.{head_found}
use Rattle.bplist_objects.specs.Spelled.{refs_at}
use Rattle.bplist_keys.specs.Marks.{IsMarked}
use Rattle.bplist_lint.specs.declared.graph.View.{View}
use Rattle.bplist_lint.specs.declared.graph.View.TheVariants as views
use Rattle.bplist_lint.specs.Graph.{Graph}

-- how many references a head announces
abbrev pub refs_announced : Option Head → ℕ
refs_announced None = 0
refs_announced (Some head) = ref_count head.kind head.count

-- how many of the first references a view leaves out: those to the keys of a dictionary, in the view of values
abbrev pub hidden : View → Option Head → ℕ
hidden views.All head = 0
hidden views.Values None = 0
hidden views.Values (Some head) = key_count head.kind head.count

-- the references of object n in a view
abbrev pub refs_in : View → List ℕ → Frame → ℕ → List ℕ
refs_in view f F n = drop (hidden view (head_found f F n)) (refs_at f F n)

-- the objects of a file with this frame in this view; the file is read through a borrow with this ghost name
abbrev pub graph_of : ℕ → View → List ℕ → Frame → Graph
graph_of through view f F = record {
  through = through;
  size = F.objects;
  width = F.ref_size;
  refs = refs_in view f F;
  announced = λ n. refs_announced (head_found f F n) - hidden view (head_found f F n);
}

-- each object with a mark is reached and has no references
abbrev pub AreChildless : List ℕ → Frame → List Bool → Type 0
AreChildless f F childless = (n : ℕ) → IsMarked childless n → Reach f F n × (refs_at f F n ≡ [])
