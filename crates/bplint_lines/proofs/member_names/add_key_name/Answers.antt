use Rattle.std.proofs.Common.{◌≡◌, true, rules, arith}
use Rattle.std.specs.List.{list_all}
use Rattle.std.proofs.lemmas.Grind.{common_steps}
use Rattle.bplint_lines.specs.MemberNames.{is_ascii}
use Rattle.bplint_lines.proofs.AsciiKeys.{ascii_bytes, ascii_paired}
use Rattle.bplint_lines.proofs.member_names.add_key_name.Goals as goal

pub returns-then-are_ascii : goal.returns-then-are_ascii
returns-then-are_ascii c =
    let ascii : list_all is_ascii c.args.pair.now.key.now ≡ true = first_of (search rules, grind (arith, common_steps)) in
    let paired = ascii_paired c.args.pair.now.key.now ascii in
    let bytes = ascii_bytes c.args.pair.now.key.now ascii in
    first_of (search (rules, paired, bytes), grind (arith, common_steps, paired, bytes))
