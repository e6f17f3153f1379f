use Rattle.std.proofs.Common.{◌≡◌, ℕ, ◌+◌, ◌*◌, ◌≤◌, Bool, List, vec_len}
use Rattle.bplist_objects.specs.Framed.{frame_in, HonestlyIn}
use Rattle.bplist_cert.specs.Valid.{IsVouchedBy, IsValid}
use Rattle.bplist_keys.specs.Marks.{IsMarked}
use Rattle.bplist_lint.specs.KeyLists.{RankKeys}
use Rattle.bplist_lint.specs.ReachRules.{is_marked}
use Rattle.bplist_lint.specs.ReachWalk.{extents_below}
use Rattle.bplist_lint.specs.Upgraded.{Listed}
use Rattle.bplist_lint.proofs.upgrader.list_by_ranks.Given as goal

abbrev pub invariant-loop-n : goal.invariant-loop-n
invariant-loop-n g l =
    let means = g.P.Source.means in
    record {
      reads : means l.src ≡ means l.fn.src;
      asked : HonestlyIn (means l.fn.src) (λ f F. (marks : List Bool) → ((n : ℕ) → IsVouchedBy l.fn.heights.items n → IsMarked marks n)
          → g.P.Source.asked l.src ≤ g.P.Source.asked l.fn.src + 36 * l.n + extents_below f F (is_marked marks) l.n);
      all : vec_len l.starts ≡ (frame_in (means l.fn.src)).objects;
      few : vec_len l.lists.positions ≤ 4294967295;
      same : l.lists.ranks.table.items ≡ l.fn.ranks.table.items;
      exact : HonestlyIn (means l.fn.src) (λ f F. IsValid f F l.fn.heights.items → RankKeys f F (IsVouchedBy l.fn.heights.items) l.fn.ranks.table.items
          → Listed f F l.fn.heights.items l.n l.starts.items l.lists.positions.items);
    }
