use Rattle.std.proofs.Common.{◌∙◌, arith, inr, sym}
use Rattle.std.proofs.lemmas.Result.{err_from_is_err_and}
use Rattle.bplist_objects.specs.Frame.{trailer}
use Rattle.bplist_objects.proofs.frame.trailer_of.Goals as goal

pub returns-in_err-frame_by-clause-exact : goal.returns-in_err-frame_by-clause-exact
returns-in_err-frame_by-clause-exact g c = λ honest.
    let f = (g.S.Source.means c.args.src.now).octets in
    let e = (rw c.in_ok-check_header.ensures.reads at c.in_ok-trailer.ensures.numbers) honest in
    let p = err_from_is_err_and c.from_residual-in_err-frame_by.result c.from_residual-in_err-frame_by.ensures.1 in
    let magic = c.in_ok-check_header.ensures.exact honest in
    rw (p.1, p.2) (inr (omega arith, inr (omega arith, inr (magic, c.in_err-frame_by.ensures.exact f (omega arith) e))))

pub returns-clause-exact : goal.returns-clause-exact
returns-clause-exact g c = λ honest.
    let f = (g.S.Source.means c.args.src.now).octets in
    let e = (rw c.in_ok-check_header.ensures.reads at c.in_ok-trailer.ensures.numbers) honest in
    let magic = c.in_ok-check_header.ensures.exact honest in
    let h = c.in_ok-frame_by.ensures.exact f (omega arith) e in
    (◌∙◌ {c = trailer f} h.0 (sym e), (omega arith, (omega arith, (magic, h.1))))

pub returns-clause-reads : goal.returns-clause-reads
returns-clause-reads g c = c.in_ok-trailer.ensures.reads ∙ c.in_ok-check_header.ensures.reads

pub returns-clause-safe : goal.returns-clause-safe
returns-clause-safe g c = rw c.len-len.ensures at c.in_ok-frame_by.ensures.safe
