use Rattle.std.proofs.Common.{◌+◌, ◌*◌, arith}
use Rattle.bplist_cert.proofs.CertificateBytes.{keyed_words}
use Rattle.bplist_cert.proofs.decoding.read_key_lists.Goals as goal

pub returns-clause-spelled : goal.returns-clause-spelled
returns-clause-spelled g c = λ honest.
    let f = (g.S.Source.means c.args.src.now).octets in
    let count = c.args.count in
    let behind = (rw (c.in_ok-starts.ensures.reads, c.len-len.ensures) at c.in_ok-positions.ensures.spelled) honest in
    keyed_words f c.in_ok-starts.starts.items c.in_ok-positions.positions.items (16 + 4 * count) count
    (omega (arith, c.requires.0)) (omega (arith, c.requires.0, c.requires.1)) (c.in_ok-starts.ensures.spelled honest) behind
