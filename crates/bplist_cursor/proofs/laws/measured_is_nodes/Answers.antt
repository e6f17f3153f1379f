use Rattle.std.proofs.Common.{◌≤◌, slice_index}
use Rattle.bplist_objects.specs.Heads.{refs}
use Rattle.bplist_objects.proofs.Fronts.{one_head}
use Rattle.bplist_objects.proofs.Lists.{all_from}
use Rattle.bplist_cursor.proofs.TreeSizes.{nodes_at}
use Rattle.bplist_cursor.proofs.laws.measured_is_nodes.Goals as goal

pub returns : goal.returns
returns c = λ f F H M each closed n v vouched h.
    nodes_at f F (one_head f F) M (λ m. 1 ≤ slice_index H m) each
    (λ k x s spelled. all_from (λ m. 1 ≤ slice_index H m) (refs x) (λ m there. closed k m s (x, spelled, there))) v n vouched h
