use Rattle.std.proofs.Common.{◌≡◌, ◌∙◌, ◌*◌, ◌+◌, ap₂, sym, arith, length, take}
use Rattle.std.proofs.lemmas.List.{length-take-le}
use Rattle.bplist_octets.specs.Octets.{part}
use Rattle.bplist_cert.proofs.CertificateBytes.{words_grown}
use Rattle.bplist_cert.proofs.decoding.fill_words.Goals as goal

pub loop-octets-preserved : goal.loop-octets-preserved
loop-octets-preserved g c =
    let f = (g.S.Source.means c.args.src.now).octets in
    let v = c.loop-octets.invariant in
    let block = c.spell_words.new.into in
    let long : length block ≡ c.min-now.result = omega (arith, c.spell_words.auto.into, length-take-le c.min-now.result c.loop-octets.block (omega (arith, c.min-now.ensures))) in
    let wide : 4 * length block ≡ length (take (4 * c.min-now.result) c.loop-octets.octets) = omega (arith, long, length-take-le (4 * c.min-now.result) c.loop-octets.octets (omega (arith, c.min-now.ensures))) in
    let at : c.args.place + 4 * length c.loop-octets.numbers.items ≡ c.args.place + 4 * c.len-in-loop-octets-2.result = omega (arith, c.len-in-loop-octets-2.ensures) in
    record {
      same = c.in_ok-read_at.ensures.reads ∙ v.same;
      asked = omega (arith, v.asked, c.in_ok-read_at.ensures.asks, wide, long, c.in_ok-extend_from_slice.ensures.len);
      reached = omega (arith, c.min-now.ensures, long, c.in_ok-extend_from_slice.ensures.len);
      so_far = λ honest.
          let here = ap₂ (part f) at wide ∙ sym ((rw v.same at c.in_ok-read_at.ensures.filled) honest) ∙ c.spell_words.ensures in
          rw c.in_ok-extend_from_slice.ensures.items (words_grown f c.loop-octets.numbers.items block c.args.place (v.so_far honest) here);
    }
