use Rattle.std.proofs.Common.{◌<◌, ℕ, slice_index, slice_index_or}
use Rattle.bplist_c.specs.Objects.{IsFace}
use Rattle.bplist_c.specs.declared.object.BplistBody.{BplistBody}
use Rattle.bplist_c.proofs.faces.fill_faces.Given as goal

-- the faces so far are written
abbrev pub invariant-loop-k : goal.invariant-loop-k
invariant-loop-k l = (k : ℕ) (d : BplistBody) → k < l.k → IsFace l.checked (slice_index l.objects k) (slice_index_or l.into k d)
