use Rattle.std.proofs.Common.{arith, ◌≡◌, IfSome, sym, subst}
use Rattle.std.proofs.lemmas.Result.{on_ok_weaker}
use Rattle.bplist_cursor.specs.Causes.{GivesCursor}
use Rattle.bplist_cursor.specs.Found.{IsFound, AreMeasuresOf}
use Rattle.bplist_cursor.specs.Queries.{steps_in}
use Rattle.bplist_cursor.proofs.AskedSteps.{reply_to}
use Rattle.bplist_cursor.proofs.KeyReplies.{reply_found}
use Rattle.bplist_cursor.proofs.answers.answer_by.Goals as goal

pub returns-in-At-clause-exact : goal.returns-in-At-clause-exact
returns-in-At-clause-exact g c = λ honest table v h.
    let checked = c.args.checked.now in
    let query = c.args.query.now in
    let is = subst (IsFound checked checked.frame.top.0 v (steps_in query)) c.in-At.is ((rw c.path_of.ensures at c.in_ok-node.ensures.exact) honest v h) in
    subst (λ x. GivesCursor (λ told. (told ≡ x) × IfSome c.answer_at.new.measures (AreMeasuresOf checked)) c.answer_at.result) (sym (reply_found v is.2.0 query is.2.1))
    ((rw c.in_ok-node.ensures.reads at c.answer_at.ensures.exact) honest table is.2.0 (is.1, is.2.2))

pub returns-in-At-clause-asks : goal.returns-in-At-clause-asks
returns-in-At-clause-asks g c = λ honest few v h.
    let checked = c.args.checked.now in
    let query = c.args.query.now in
    let is = subst (IsFound checked checked.frame.top.0 v (steps_in query)) c.in-At.is ((rw c.path_of.ensures at c.in_ok-node.ensures.exact) honest v h) in
    let path = (rw c.path_of.ensures at c.in_ok-node.ensures.asks) honest v h in
    let told = (rw c.in_ok-node.ensures.reads at c.answer_at.ensures.asks) honest few is.2.0 (is.1, is.2.2) in
    omega (arith, path, told, reply_to checked.certificate.keys v is.2.0 query is.2.1)

pub returns-in-At-clause-asks_pass : goal.returns-in-At-clause-asks_pass
returns-in-At-clause-asks_pass g c = λ honest v h.
    let checked = c.args.checked.now in
    let query = c.args.query.now in
    let is = subst (IsFound checked checked.frame.top.0 v (steps_in query)) c.in-At.is ((rw c.path_of.ensures at c.in_ok-node.ensures.exact) honest v h) in
    let path = (rw c.path_of.ensures at c.in_ok-node.ensures.asks) honest v h in
    let told = (rw c.in_ok-node.ensures.reads at c.answer_at.ensures.asks_pass) honest is.2.0 (is.1, is.2.2) in
    omega (arith, path, told, reply_to checked.certificate.keys v is.2.0 query is.2.1)

pub returns-in-At-clause-asks_left : goal.returns-in-At-clause-asks_left
returns-in-At-clause-asks_left g c =
    let checked = c.args.checked.now in
    let query = c.args.query.now in
    on_ok_weaker c.answer_at.result
    (λ left honest v h.
    let is = subst (IsFound checked checked.frame.top.0 v (steps_in query)) c.in-At.is ((rw c.path_of.ensures at c.in_ok-node.ensures.exact) honest v h) in
    let path = (rw c.path_of.ensures at c.in_ok-node.ensures.asks) honest v h in
    omega (arith, path, left honest is.2.0 (is.1, is.2.2), reply_to checked.certificate.keys v is.2.0 query is.2.1))
    (rw c.in_ok-node.ensures.reads at c.answer_at.ensures.asks_left)
