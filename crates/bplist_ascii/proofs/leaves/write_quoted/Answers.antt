use Rattle.std.proofs.Common.{rules, ◌++◌, ◌∷◌, [], ◌≡◌, Err, refl}
use Rattle.std.specs.List.{flat_map}
use Rattle.std.proofs.lemmas.Result.{IfErr-weaker, on_ok_weaker, on_err_weaker}
use Rattle.bplist_objects.specs.Units.{units_of}
use Rattle.bplist_cursor.specs.Texts.{quoted_unit, quoted}
use Rattle.bplist_ascii.proofs.WriteSteps.{adds_within, adds_fail, adds_nothing, text_after, text_more, text_adds, all_fit}
use Rattle.bplist_ascii.proofs.leaves.write_quoted.Goals as goal

pub returns-in_err-write-clause-fails : goal.returns-in_err-write-clause-fails
returns-in_err-write-clause-fails g c =
    let is : c.from_residual.result ≡ Err c.in_err-write.field-0.0 = search rules in
    let all = units_of c.args.checked.now.source.octets c.args.head.now in
    rw is (λ honest low. adds_fail _ _ _ (34 ∷ []) (flat_map quoted_unit all ++ 34 ∷ []) (quoted all) _ (adds_nothing (g.W.Write.contents c.args.out.now) c.args.sink.now c.args.room.now) c.in_err-write.ensures.fails refl low)

pub returns-in_err-write_text_body-clause-fails : goal.returns-in_err-write_text_body-clause-fails
returns-in_err-write_text_body-clause-fails g c =
    let is : c.from_residual-in_err-write_text_body.result ≡ Err c.in_err-write_text_body.field-0.0 = search rules in
    let f = c.args.checked.now.source.octets in
    let all = units_of f c.args.head.now in
    rw is (λ honest low. adds_fail _ _ _ (flat_map quoted_unit all) (34 ∷ []) (quoted all) _ c.in_ok-write.ensures.adds (c.in_err-write_text_body.ensures.fails honest (all_fit all)) refl low)

pub returns-in_err-write_text_body-clause-bounded : goal.returns-in_err-write_text_body-clause-bounded
returns-in_err-write_text_body-clause-bounded g c =
    let is : c.from_residual-in_err-write_text_body.result ≡ Err c.in_err-write_text_body.field-0.0 = search rules in
    rw is (adds_within _ _ _ c.in_ok-write.ensures.adds c.in_err-write_text_body.ensures.bounded)

pub returns-clause-fails : goal.returns-clause-fails
returns-clause-fails g c =
    let all = units_of c.args.checked.now.source.octets c.args.head.now in
    IfErr-weaker c.write-2.result _ _
    (λ e fails honest low. adds_fail _ _ _ (34 ∷ []) [] (quoted all) e (text_adds (text_after c.in_ok-write.ensures.adds c.in_ok-write_text_body.ensures.adds) honest) fails refl low)
    c.write-2.ensures.fails

pub returns-clause-bounded : goal.returns-clause-bounded
returns-clause-bounded g c =
    on_err_weaker c.write-2.result (λ bounded. adds_within _ _ _ (text_after c.in_ok-write.ensures.adds c.in_ok-write_text_body.ensures.adds).adds bounded) c.write-2.ensures.bounded

pub returns-clause-adds : goal.returns-clause-adds
returns-clause-adds g c =
    on_ok_weaker c.write-2.result (λ adds. text_more _ _ (text_after c.in_ok-write.ensures.adds c.in_ok-write_text_body.ensures.adds) adds (λ _. refl)) c.write-2.ensures.adds
