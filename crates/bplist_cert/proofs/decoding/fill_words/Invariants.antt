use Rattle.std.proofs.Common.{◌≡◌, ◌+◌, ◌*◌, ◌≤◌, ◌-◌, vec_len, length}
use Rattle.bplist_octets.specs.Octets.{part}
use Rattle.bplist_octets.specs.Meaning.{Honestly}
use Rattle.bplist_cert.specs.Encoding.{words}
use Rattle.bplist_cert.proofs.decoding.fill_words.Given as goal

-- the source is as it was, and the numbers so far are those that its bytes spell
abbrev pub invariant-loop-octets : goal.invariant-loop-octets
invariant-loop-octets g l =
    let means = g.S.Source.means in
    record {
      same : means l.src ≡ means l.fn.src;
      asked : g.S.Source.asked l.src ≤ g.S.Source.asked l.fn.src + 4 * vec_len l.numbers;
      reached : vec_len l.numbers ≤ l.count;
      so_far : Honestly (means l.fn.src) (λ f. part f l.place (4 * length l.numbers.items) ≡ words l.numbers.items);
    }

abbrev pub decreases-loop-octets : goal.decreases-loop-octets
decreases-loop-octets g l = l.count - vec_len l.numbers
