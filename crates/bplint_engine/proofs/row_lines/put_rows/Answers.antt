use Rattle.std.proofs.Common.{◌≡◌, ◌∙◌, None, refl, rules}
use Rattle.std.proofs.lemmas.Result.{err_from_is_err_and}
use Rattle.bplist_cursor.proofs.SameFiles.{same_file}
use Rattle.bplint_engine.specs.Walks.{row_line}
use Rattle.bplint_engine.proofs.LowerFaults.{cursor_excused}
use Rattle.bplint_engine.proofs.RowSteps.{puts_all, puts_fail, puts_next, puts_none, puts_stop}
use Rattle.bplint_engine.proofs.row_lines.put_rows.Goals as goal

pub next-requires : goal.next-requires
next-requires g c = rw c.loop-row.invariant.same c.loop-row.invariant.ready

pub loop-row-init : goal.loop-row-init
loop-row-init g c = record {
  same = refl;
  ready = c.requires;
  style = refl;
  puts = λ honest left stands. puts_none c.args.lines.now.style c.args.checked.now _ _ c.args.walk.now left stands;
}

pub returns-in_err-row-clause-exact : goal.returns-in_err-row-clause-exact
returns-in_err-row-clause-exact g c = λ honest left stands.
    let i = c.loop-row.invariant in
    let style = c.args.lines.now.style in
    let on = i.puts honest left stands in
    let stops = (rw i.same at c.in_err-row.ensures.exact) honest style on.rest on.stands in
    let p = err_from_is_err_and c.from_residual.result c.from_residual.ensures.1 in
    rw (p.1, p.2) (puts_stop style c.args.checked.now on _ (cursor_excused c.in_err-row.field-0.0 stops))

pub returns-in_err-put-clause-exact : goal.returns-in_err-put-clause-exact
returns-in_err-put-clause-exact g c = λ honest left stands.
    let i = c.loop-row.invariant in
    let style = c.args.lines.now.style in
    let on = i.puts honest left stands in
    let (rest, next, is) = rw c.in-Some.is at ((rw i.same at c.in_ok-row.ensures.exact) honest style on.rest on.stands) in
    let p = err_from_is_err_and c.from_residual-in_err-put.result c.from_residual-in_err-put.ensures.1 in
    rw (p.1, p.2) (puts_fail style c.args.checked.now on _ (row_line style c.next.new.self.names c.in-Some.row) rest _ is (rw i.style at c.in_err-put.ensures.exact))

pub loop-row-preserved : goal.loop-row-preserved
loop-row-preserved g c =
    let i = c.loop-row.invariant in
    let style = c.args.lines.now.style in
    record {
      same = same_file c.args.checked.now c.in_ok-row.ensures.reads i.same;
      ready = rw i.same at c.in_ok-row.ensures.ready;
      style = c.in_ok-put.ensures.style ∙ i.style;
      puts = λ honest left stands.
          let on = i.puts honest left stands in
          let next = rw c.in-Some.is at ((rw i.same at c.in_ok-row.ensures.exact) honest style on.rest on.stands) in
          puts_next style c.args.checked.now on _ _ c.next.new.self (row_line style c.next.new.self.names c.in-Some.row) next (rw i.style at c.in_ok-put.ensures.exact);
    }

pub loop-row-preserved-in_ok-put : goal.loop-row-preserved-in_ok-put
loop-row-preserved-in_ok-put g c =
    let i = c.loop-row.invariant in
    let style = c.args.lines.now.style in
    record {
      same = same_file c.args.checked.now c.in_ok-row.ensures.reads i.same;
      ready = rw i.same at c.in_ok-row.ensures.ready;
      style = c.in_ok-put.ensures.style ∙ i.style;
      puts = λ honest left stands.
          let on = i.puts honest left stands in
          let next = rw c.in-Some.is at ((rw i.same at c.in_ok-row.ensures.exact) honest style on.rest on.stands) in
          puts_next style c.args.checked.now on _ _ c.next.new.self (row_line style c.next.new.self.names c.in-Some.row) next (rw i.style at c.in_ok-put.ensures.exact);
    }

pub loop-row-preserved-in_ok-put-2 : goal.loop-row-preserved-in_ok-put-2
loop-row-preserved-in_ok-put-2 g c =
    let i = c.loop-row.invariant in
    let style = c.args.lines.now.style in
    record {
      same = same_file c.args.checked.now c.in_ok-row.ensures.reads i.same;
      ready = rw i.same at c.in_ok-row.ensures.ready;
      style = c.in_ok-put.ensures.style ∙ i.style;
      puts = λ honest left stands.
          let on = i.puts honest left stands in
          let next = rw c.in-Some.is at ((rw i.same at c.in_ok-row.ensures.exact) honest style on.rest on.stands) in
          puts_next style c.args.checked.now on _ _ c.next.new.self (row_line style c.next.new.self.names c.in-Some.row) next (rw i.style at c.in_ok-put.ensures.exact);
    }

pub loop-row-preserved-in_ok-put-3 : goal.loop-row-preserved-in_ok-put-3
loop-row-preserved-in_ok-put-3 g c =
    let i = c.loop-row.invariant in
    let style = c.args.lines.now.style in
    record {
      same = same_file c.args.checked.now c.in_ok-row.ensures.reads i.same;
      ready = rw i.same at c.in_ok-row.ensures.ready;
      style = c.in_ok-put.ensures.style ∙ i.style;
      puts = λ honest left stands.
          let on = i.puts honest left stands in
          let next = rw c.in-Some.is at ((rw i.same at c.in_ok-row.ensures.exact) honest style on.rest on.stands) in
          puts_next style c.args.checked.now on _ _ c.next.new.self (row_line style c.next.new.self.names c.in-Some.row) next (rw i.style at c.in_ok-put.ensures.exact);
    }

pub loop-row-preserved-in_ok-put-4 : goal.loop-row-preserved-in_ok-put-4
loop-row-preserved-in_ok-put-4 g c =
    let i = c.loop-row.invariant in
    let style = c.args.lines.now.style in
    record {
      same = same_file c.args.checked.now c.in_ok-row.ensures.reads i.same;
      ready = rw i.same at c.in_ok-row.ensures.ready;
      style = c.in_ok-put.ensures.style ∙ i.style;
      puts = λ honest left stands.
          let on = i.puts honest left stands in
          let next = rw c.in-Some.is at ((rw i.same at c.in_ok-row.ensures.exact) honest style on.rest on.stands) in
          puts_next style c.args.checked.now on _ _ c.next.new.self (row_line style c.next.new.self.names c.in-Some.row) next (rw i.style at c.in_ok-put.ensures.exact);
    }

pub returns-clause-exact : goal.returns-clause-exact
returns-clause-exact g c = λ honest left stands.
    let i = c.loop-row.invariant in
    let style = c.args.lines.now.style in
    let on = i.puts honest left stands in
    let none : c.in_ok-row.field-0 ≡ None = search rules in
    puts_all style c.args.checked.now on (rw none at ((rw i.same at c.in_ok-row.ensures.exact) honest style on.rest on.stands))
