use Rattle.std.proofs.Common.{rules, ◌++◌, ◌∷◌, [], ◌≡◌, Err, ap, refl, sym}
use Rattle.std.specs.List.{flat_map}
use Rattle.std.proofs.lemmas.Result.{IfErr-weaker, on_ok_weaker, on_err_weaker}
use Rattle.bplist_octets.specs.Octets.{part}
use Rattle.hex.specs.Hex.{encode_lower}
use Rattle.bplist_cursor.specs.Texts.{text_of_bytes}
use Rattle.bplist_ascii.specs.BoundedWrites.{hex_digits}
use Rattle.bplist_ascii.proofs.WriteSteps.{all_digits, adds_within, adds_fail, adds_nothing, text_after, text_more, text_adds}
use Rattle.bplist_ascii.proofs.leaves.write_data.Goals as goal

pub returns-in_err-write-clause-fails : goal.returns-in_err-write-clause-fails
returns-in_err-write-clause-fails g c =
    let is : c.from_residual.result ≡ Err c.in_err-write.field-0.0 = search rules in
    let all = part c.args.checked.now.source.octets c.args.head.now.body c.args.head.now.count in
    rw is (λ honest low. adds_fail _ _ _ (60 ∷ []) (encode_lower all ++ 62 ∷ []) (text_of_bytes all) _ (adds_nothing (g.W.Write.contents c.args.out.now) c.args.sink.now c.args.room.now) c.in_err-write.ensures.fails refl low)

pub returns-in_err-write_data_body-clause-fails : goal.returns-in_err-write_data_body-clause-fails
returns-in_err-write_data_body-clause-fails g c =
    let is : c.from_residual-in_err-write_data_body.result ≡ Err c.in_err-write_data_body.field-0.0 = search rules in
    let f = c.args.checked.now.source.octets in
    let all = part f c.args.head.now.body c.args.head.now.count in
    rw is (λ honest low. adds_fail _ _ _ (flat_map hex_digits all) (62 ∷ []) (text_of_bytes all) _ c.in_ok-write.ensures.adds (c.in_err-write_data_body.ensures.fails honest) (ap (λ l. 60 ∷ (l ++ 62 ∷ [])) (sym (all_digits all))) low)

pub returns-in_err-write_data_body-clause-bounded : goal.returns-in_err-write_data_body-clause-bounded
returns-in_err-write_data_body-clause-bounded g c =
    let is : c.from_residual-in_err-write_data_body.result ≡ Err c.in_err-write_data_body.field-0.0 = search rules in
    rw is (adds_within _ _ _ c.in_ok-write.ensures.adds c.in_err-write_data_body.ensures.bounded)

pub returns-clause-fails : goal.returns-clause-fails
returns-clause-fails g c =
    let all = part c.args.checked.now.source.octets c.args.head.now.body c.args.head.now.count in
    IfErr-weaker c.write-2.result _ _
    (λ e fails honest low. adds_fail _ _ _ (62 ∷ []) [] (text_of_bytes all) e (text_adds (text_after c.in_ok-write.ensures.adds c.in_ok-write_data_body.ensures.adds) honest) fails (ap (λ l. 60 ∷ (l ++ 62 ∷ [])) (sym (all_digits all))) low)
    c.write-2.ensures.fails

pub returns-clause-bounded : goal.returns-clause-bounded
returns-clause-bounded g c =
    on_err_weaker c.write-2.result (λ bounded. adds_within _ _ _ (text_after c.in_ok-write.ensures.adds c.in_ok-write_data_body.ensures.adds).adds bounded) c.write-2.ensures.bounded

pub returns-clause-adds : goal.returns-clause-adds
returns-clause-adds g c =
    let all = part c.args.checked.now.source.octets c.args.head.now.body c.args.head.now.count in
    on_ok_weaker c.write-2.result (λ adds. text_more _ _ (text_after c.in_ok-write.ensures.adds c.in_ok-write_data_body.ensures.adds) adds (λ _. ap (λ l. 60 ∷ (l ++ 62 ∷ [])) (all_digits all))) c.write-2.ensures.adds
