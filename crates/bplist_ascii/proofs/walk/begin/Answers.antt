use Rattle.std.proofs.Common.{rules, ◌≡◌, ◌++◌, Err, refl, sym, ap, ◌∙◌, append_assoc}
use Rattle.std.proofs.lemmas.Result.{IfErr-weaker, on_ok_weaker, err_from_is_err_and}
use Rattle.bplist_octets.specs.Octets.{part}
use Rattle.bplist_objects.specs.Units.{units_of}
use Rattle.bplist_cursor.specs.Texts.{text_of_units, text_of_bytes}
use Rattle.bplist_cursor.specs.OldStyle.{plain}
use Rattle.bplist_cursor.proofs.StepReferences.{content_of_value}
use Rattle.bplist_ascii.specs.Walks.{opening_of, text_from}
use Rattle.bplist_ascii.proofs.WriteSteps.{on_err, adds_some, read_fails, fails_under, text_adds, adds_nothing, adds_fit, adds_fail}
use Rattle.bplist_ascii.proofs.WalkSteps.{shows, shows_text, shows_container, shows_none, text_opens, stack_push, safe_push}
use Rattle.bplist_ascii.specs.declared.printer.PrintFault.TheVariants.{Memory}
use Rattle.bplist_ascii.proofs.walk.begin.Goals as goal

pub returns-in_err-head-clause-fails : goal.returns-in_err-head-clause-fails
returns-in_err-head-clause-fails g c =
    let p = err_from_is_err_and c.from_residual.result c.from_residual.ensures.1 in
    rw (p.1, p.2) (λ honest v held formed low.
    let s = content_of_value c.args.checked.now.source.octets c.args.checked.now.frame v c.args.node.object.0 held.1 in
    read_fails (plain v) c.in_err-head.field-0.0 (adds_nothing (g.W.Write.contents c.args.out.now) c.args.sink.now c.args.walk.now.room) refl (c.in_err-head.ensures.exact honest held.0 s.0 s.1))

pub returns-in-Ascii-clause-fails : goal.returns-in-Ascii-clause-fails
returns-in-Ascii-clause-fails g c =
    let file = c.args.checked.now in
    let f = file.source.octets in
    let head = c.in_ok-head.head in
    IfErr-weaker c.write_text.result _ _
    (λ e fails honest v held formed low.
    let same = shows_text f file.frame head.kind head.count head.body v c.in-Ascii.is (shows f file.frame head c.args.node.object.0 v (c.in_ok-head.ensures.exact honest held.0) held.1 formed) in
    fails_under _ _ _ _ e (sym same) (fails honest) low)
    (rw c.in_ok-head.ensures.reads at c.write_text.ensures.fails)

pub returns-in-Bytes-clause-fails : goal.returns-in-Bytes-clause-fails
returns-in-Bytes-clause-fails g c =
    let file = c.args.checked.now in
    let f = file.source.octets in
    let head = c.in_ok-head.head in
    IfErr-weaker c.write_data.result _ _
    (λ e fails honest v held formed low.
    let same = rw c.in-Bytes.is at (shows f file.frame head c.args.node.object.0 v (c.in_ok-head.ensures.exact honest held.0) held.1 formed) in
    fails_under _ _ _ _ e (sym same) (fails honest) low)
    (rw c.in_ok-head.ensures.reads at c.write_data.ensures.fails)

pub returns-in_err-write-in-Array-clause-fails : goal.returns-in_err-write-in-Array-clause-fails
returns-in_err-write-in-Array-clause-fails g c =
    let is : c.from_residual-in_err-write-in-Array.result ≡ Err c.in_err-write-in-Array.field-0.0 = search rules in
    let file = c.args.checked.now in
    let head = c.in_ok-head.head in
    rw is (λ honest v held formed low.
    let kind = shows_container file.source.octets file.frame head.kind head.count head.body v c.in-Array.is (shows file.source.octets file.frame head c.args.node.object.0 v (c.in_ok-head.ensures.exact honest held.0) held.1 formed) in
    adds_fail _ _ _ (opening_of head.kind) (text_from v 0) (plain v) _ (adds_nothing _ _ _) (rw c.opening.ensures at c.in_err-write-in-Array.ensures.fails) (text_opens head.kind v kind) low)

pub returns-in_err-push-in-Array-clause-fails : goal.returns-in_err-push-in-Array-clause-fails
returns-in_err-push-in-Array-clause-fails g c =
    let is : c.from_residual-in_err-push-in-Array.result ≡ Err Memory = search rules in
    let file = c.args.checked.now in
    let head = c.in_ok-head.head in
    rw is (λ honest v held formed low.
    let kind = shows_container file.source.octets file.frame head.kind head.count head.body v c.in-Array.is (shows file.source.octets file.frame head c.args.node.object.0 v (c.in_ok-head.ensures.exact honest held.0) held.1 formed) in
    adds_some (text_from v 0) (rw c.opening.ensures at c.in_ok-write-in-Array.ensures.adds) (text_opens head.kind v kind))

pub returns-in_err-push-in-Array-clause-bounded : goal.returns-in_err-push-in-Array-clause-bounded
returns-in_err-push-in-Array-clause-bounded g c = on_err c.from_residual-in_err-push-in-Array.result (adds_fit c.in_ok-write-in-Array.ensures.adds)

pub returns-in-Ascii-clause-exact : goal.returns-in-Ascii-clause-exact
returns-in-Ascii-clause-exact g c =
    let file = c.args.checked.now in
    let f = file.source.octets in
    let head = c.in_ok-head.head in
    on_ok_weaker c.write_text.result
    (λ adds honest v held formed left stands.
    let same = shows_text f file.frame head.kind head.count head.body v c.in-Ascii.is (shows f file.frame head c.args.node.object.0 v (c.in_ok-head.ensures.exact honest held.0) held.1 formed) in
    record { written = text_of_units (units_of f head); rest = left; adds = text_adds adds honest; stands = stands; is = ap (λ l. l ++ left) same })
    (rw c.in_ok-head.ensures.reads at c.write_text.ensures.adds)

pub returns-in-Bytes-clause-exact : goal.returns-in-Bytes-clause-exact
returns-in-Bytes-clause-exact g c =
    let file = c.args.checked.now in
    let f = file.source.octets in
    let head = c.in_ok-head.head in
    on_ok_weaker c.write_data.result
    (λ adds honest v held formed left stands.
    let same = rw c.in-Bytes.is at (shows f file.frame head c.args.node.object.0 v (c.in_ok-head.ensures.exact honest held.0) held.1 formed) in
    record { written = text_of_bytes (part f head.body head.count); rest = left; adds = text_adds adds honest; stands = stands; is = ap (λ l. l ++ left) same })
    (rw c.in_ok-head.ensures.reads at c.write_data.ensures.adds)

pub returns-in_ok-push-in-Array-clause-heads : goal.returns-in_ok-push-in-Array-clause-heads
returns-in_ok-push-in-Array-clause-heads g c = rw c.in_ok-push-in-Array.ensures.items (safe_push _ _ _ c.requires.heads (c.in_ok-head.ensures.safe, tt))

pub returns-in_ok-push-in-Array-clause-exact : goal.returns-in_ok-push-in-Array-clause-exact
returns-in_ok-push-in-Array-clause-exact g c = λ honest v held formed left stands.
    let file = c.args.checked.now in
    let head = c.in_ok-head.head in
    let shown = c.in_ok-head.ensures.exact honest held.0 in
    let kind = shows_container file.source.octets file.frame head.kind head.count head.body v c.in-Array.is (shows file.source.octets file.frame head c.args.node.object.0 v shown held.1 formed) in
    record {
      written = opening_of head.kind;
      rest = text_from v 0 ++ left;
      adds = rw c.opening.ensures at c.in_ok-write-in-Array.ensures.adds;
      stands = rw c.in_ok-push-in-Array.ensures.items (stack_push file _ _ _ _ stands (v, record { object = c.args.node.object.0; held = held; shown = shown; kind = kind; formed = formed }, refl));
      is = ap (λ l. l ++ left) (text_opens head.kind v kind) ∙ append_assoc (opening_of head.kind) (text_from v 0) left;
    }

pub returns-in_default : goal.returns-in_default
returns-in_default g c = record {
  reads = c.in_ok-head.ensures.reads;
  heads = tt;
  exact = tt;
  fails = λ honest v held formed low.
      let file = c.args.checked.now in
      let head = c.in_ok-head.head in
      shows_none file.source.octets file.frame head.kind head.count head.body v c.in_default.not-Ascii c.in_default.not-Wide c.in_default.not-Bytes c.in_default.not-Array c.in_default.not-Dict
      (shows file.source.octets file.frame head c.args.node.object.0 v (c.in_ok-head.ensures.exact honest held.0) held.1 formed);
  adds = tt;
  falls = tt;
  bounded = adds_fit (adds_nothing (g.W.Write.contents c.args.out.now) c.args.sink.now c.args.walk.now.room);
}
