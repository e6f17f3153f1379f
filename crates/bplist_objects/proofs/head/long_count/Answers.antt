use Rattle.std.proofs.Common.{◌≡◌, ◌+◌, ◌∙◌, ap, sym, arith, slice_index, get_or, add-zero}
use Rattle.bplist_objects.proofs.Parts.{num-part_one, get_or-part}
use Rattle.bplist_objects.proofs.head.long_count.Goals.{then-ends_before_table+in_ok-read_at+else-octets-eq16, else-ends_before_table}
use Rattle.bplist_objects.proofs.head.long_count.Goals as goal

pub returns-then-octets-eq16-clause-exact : goal.returns-then-octets-eq16-clause-exact
returns-then-octets-eq16-clause-exact g c = λ honest.
    let f = (g.S.Source.means c.args.src.now).octets in
    let filled = c.in_ok-read_at.ensures.filled honest in
    let form : slice_index f (c.args.place + 1) ≡ 16 =
    sym (ap (λ xs. get_or xs 0 0) filled ∙ get_or-part f (c.args.place + 1) 2 0 0 (omega arith) ∙ ap (λ i. get_or f i 0) (add-zero (c.args.place + 1))) ∙ c.if-octets-eq16.true in
    let next : c.args.place + 1 + 1 ≡ c.args.place + 2 = omega arith in
    let count : get_or c.read_at.new.into 1 0 ≡ get_or f (c.args.place + 2) 0 =
    ap (λ xs. get_or xs 1 0) filled ∙ get_or-part f (c.args.place + 1) 2 1 0 (omega arith) ∙ ap (λ i. get_or f i 0) next in
    (0, omega arith, form, count ∙ sym (num-part_one f (c.args.place + 2) (omega arith)), omega arith)

pub count_by_form-requires-clause-within : goal.count_by_form-requires-clause-within
count_by_form-requires-clause-within g c =
    let same : g.S.Source.means c.if-ends_before_table.src ≡ g.S.Source.means c.args.src.now =
    elim c.if-ends_before_table.branch [
      | then-ends_before_table+in_ok-read_at+else-octets-eq16 w ↦ ap (λ s. g.S.Source.means s) w.src-is ∙ w.in_ok-read_at.ensures.reads
      | else-ends_before_table w ↦ ap (λ s. g.S.Source.means s) w.src-is
    ] in
    rw same c.requires.within

pub returns-clause-reads : goal.returns-clause-reads
returns-clause-reads g c =
    let same : g.S.Source.means c.if-ends_before_table.src ≡ g.S.Source.means c.args.src.now =
    elim c.if-ends_before_table.branch [
      | then-ends_before_table+in_ok-read_at+else-octets-eq16 w ↦ ap (λ s. g.S.Source.means s) w.src-is ∙ w.in_ok-read_at.ensures.reads
      | else-ends_before_table w ↦ ap (λ s. g.S.Source.means s) w.src-is
    ] in
    rw same at c.count_by_form.ensures.reads

pub returns-clause-exact : goal.returns-clause-exact
returns-clause-exact g c =
    let same : g.S.Source.means c.if-ends_before_table.src ≡ g.S.Source.means c.args.src.now =
    elim c.if-ends_before_table.branch [
      | then-ends_before_table+in_ok-read_at+else-octets-eq16 w ↦ ap (λ s. g.S.Source.means s) w.src-is ∙ w.in_ok-read_at.ensures.reads
      | else-ends_before_table w ↦ ap (λ s. g.S.Source.means s) w.src-is
    ] in
    rw same at c.count_by_form.ensures.exact

pub returns-clause-safe : goal.returns-clause-safe
returns-clause-safe g c = c.count_by_form.ensures.safe
