use Rattle.std.proofs.Common.{◌≡◌, Err, rules}
use Rattle.bplint_lines.specs.declared.fault.RunFault.TheVariants.{Memory}
use Rattle.bplint_engine.specs.Walks.{row_line}
use Rattle.bplint_engine.proofs.Puts.{excused_stops}
use Rattle.bplint_engine.proofs.row_lines.RowLines.put.Goals as goal

pub returns-in_err-extend_from_slice-clause-exact : goal.returns-in_err-extend_from_slice-clause-exact
returns-in_err-extend_from_slice-clause-exact g c =
    let is : c.from_residual.result ≡ Err Memory = search rules in
    rw is (excused_stops (g.W.Write.contents c.args.out.now) c.args.self.now.sink (row_line c.args.self.now.style c.args.walk.now.names c.args.row.now) Memory tt)

pub returns-in_err-add_value-clause-exact : goal.returns-in_err-add_value-clause-exact
returns-in_err-add_value-clause-exact g c =
    let is : c.from_residual-in_err-add_value.result ≡ Err Memory = search rules in
    rw is (excused_stops (g.W.Write.contents c.args.out.now) c.args.self.now.sink (row_line c.args.self.now.style c.args.walk.now.names c.args.row.now) Memory tt)
