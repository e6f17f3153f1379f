use Rattle.std.proofs.Common.{◌≡◌, ◌+◌, ◌≤◌, None, sym, ap, ◌∙◌, arith}
use Rattle.std.proofs.lemmas.Bool.{false≢true}
use Rattle.bplist_objects.specs.declared.frame.Frame.{Frame}
use Rattle.bplist_objects.specs.Framed.{frame_in}
use Rattle.bplist_keys.proofs.LookUps.{new_low, stamped_low}
use Rattle.bplist_cert.specs.CheckRules.{key_rules}
use Rattle.bplist_cert.proofs.CheckSteps.{refused_weaker, on_err}
use Rattle.bplist_lint.proofs.KeySteps.{keys_fault, keys_more, childless_keys}
use Rattle.bplist_lint.proofs.KeptRules.{keep_more}
use Rattle.bplist_lint.proofs.KeyClasses.{reached_sound, keys_known}
use Rattle.bplist_lint.specs.ReachRules.{is_marked}
use Rattle.bplist_lint.proofs.RangeSums.{extents_more, extents_on}
use Rattle.bplist_lint.proofs.key_rules.check_numbers.Goals as goal
use Rattle.bplist_lint.proofs.key_rules.check_numbers.Goals.{then-marks-n+then-not-childless-n+in_ok-check_dict_keys, else-marks-n, else-marks-n-via-then-marks-n+else-not-childless-n, else-marks-n-via-else-marks-n}

pub returns-in_err-check_dict_keys-clause-exact : goal.returns-in_err-check_dict_keys-clause-exact
returns-in_err-check_dict_keys-clause-exact g c = λ honest named marks kept childless are_named classes.
    let v = c.loop-n.invariant in
    let n = c.loop-n.n in
    let within = rw c.frame-frame.ensures.frame at c.loop-n-test.true in
    let sound = reached_sound _ _ c.args.marks.now c.requires.marks (c.frame-frame.ensures.framed.framed honest) marks kept in
    let table_is : c.loop-n.table.classes.table.items ≡ c.args.numbers.table.items = v.same ∙ c.in_ok-table.ensures.classes in
    let here_named = are_named n ((marks n).0 c.if-marks-n.true) in
    let keys = keys_known _ _ c.args.marks.now named c.args.numbers.table.items n sound classes here_named within c.if-marks-n.true in
    let here = (rw (v.reads, table_is) at c.in_err-check_dict_keys.ensures.exact) honest (sound.kept n c.if-marks-n.true) keys (new_low n _ (v.low honest)) in
    on_err _ _ _ _ c.from_residual-in_err-check_dict_keys.ensures.1 (refused_weaker _ _ c.in_err-check_dict_keys.field-0.0 (λ fault h. keys_fault _ _ n fault ((marks n).0 c.if-marks-n.true) (v.exact honest named marks kept childless are_named classes) h) here)

pub loop-n-preserved : goal.loop-n-preserved
loop-n-preserved g c =
    let m = g.P.Source.means c.args.src.now in
    let v = c.loop-n.invariant in
    let n = c.loop-n.n in
    let within = rw c.frame-frame.ensures.frame at c.loop-n-test.true in
    let table_is : c.loop-n.table.classes.table.items ≡ c.args.numbers.table.items = v.same ∙ c.in_ok-table.ensures.classes in
    elim c.if-marks-n.branch [
      | then-marks-n+then-not-childless-n+in_ok-check_dict_keys w ↦ record {
        reads = rw w.src-is (w.in_ok-check_dict_keys.ensures.reads ∙ v.reads);
        asked = λ honest.
            let own = rw w.if-marks-n.true at (extents_more m.octets (frame_in m) (is_marked c.args.marks.now) n) in
            let one = (rw v.reads at w.in_ok-check_dict_keys.ensures.asks) honest in
            rw w.src-is (omega (arith, v.asked honest, own, one));
        same = rw w.table-is (w.in_ok-check_dict_keys.ensures.same ∙ v.same);
        low = λ honest. rw w.table-is (stamped_low n _ _ w.check_dict_keys.ensures.stamped (v.low honest));
        exact = λ honest named marks kept childless are_named classes.
            let sound = reached_sound _ _ c.args.marks.now c.requires.marks (c.frame-frame.ensures.framed.framed honest) marks kept in
            let here_named = are_named n ((marks n).0 w.if-marks-n.true) in
            let keys = keys_known _ _ c.args.marks.now named c.args.numbers.table.items n sound classes here_named within w.if-marks-n.true in
            keys_more _ _ n ((rw (v.reads, table_is) at w.in_ok-check_dict_keys.ensures.exact) honest (sound.kept n w.if-marks-n.true) keys (new_low n _ (v.low honest))) (v.exact honest named marks kept childless are_named classes);
      }
      | else-marks-n w ↦ record {
        reads = rw w.src-is v.reads;
        asked = λ honest.
            let over = extents_more m.octets (frame_in m) (is_marked c.args.marks.now) n in
            rw w.src-is (omega (arith, v.asked honest, over));
        same = rw w.table-is v.same;
        low = λ honest x. rw w.table-is (let l = v.low honest x in omega (arith, l));
        exact = λ honest named marks kept childless are_named classes.
            let sound = reached_sound _ _ c.args.marks.now c.requires.marks (c.frame-frame.ensures.framed.framed honest) marks kept in
            let before = v.exact honest named marks kept childless are_named classes in
            elim w.else-marks-n.branch [
              | else-marks-n-via-then-marks-n+else-not-childless-n w' ↦ keys_more _ _ n (childless_keys _ _ n sound.framed within (sound.kept _ w'.if-marks-n.true) (childless _ w'.if-not-childless-n.false).1) before
              | else-marks-n-via-else-marks-n w' ↦ keep_more _ _ (key_rules None) n _ (omega arith) before (λ r. absurd (false≢true (sym w'.if-marks-n.false ∙ (marks _).1 r)))
            ];
      }
    ]

pub returns-clause-exact : goal.returns-clause-exact
returns-clause-exact g c = λ honest named marks kept childless are_named classes m low. c.loop-n.invariant.exact honest named marks kept childless are_named classes m (let end = rw c.frame-frame.ensures.frame at c.loop-n-test.false in omega (arith, low, end))

pub returns-in_err-check_dict_keys-clause-asks : goal.returns-in_err-check_dict_keys-clause-asks
returns-in_err-check_dict_keys-clause-asks g c = λ honest.
    let m = g.P.Source.means c.args.src.now in
    let F : Frame = frame_in m in
    let v = c.loop-n.invariant in
    let n = c.loop-n.n in
    let objects = ap (λ (x : Frame). x.objects) c.frame-frame.ensures.frame in
    let low : n + 1 ≤ F.objects = omega (arith, c.loop-n-test.true, objects) in
    let own = rw c.if-marks-n.true at (extents_more m.octets F (is_marked c.args.marks.now) n) in
    let one = (rw v.reads at c.check_dict_keys.ensures.asks) honest in
    let all = extents_on m.octets F (is_marked c.args.marks.now) (n + 1) F.objects low in
    omega (arith, v.asked honest, own, one, all, low)
