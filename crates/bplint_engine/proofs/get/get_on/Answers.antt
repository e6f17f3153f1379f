use Rattle.std.proofs.Math.Logic.{∥∥₁_map}
use Rattle.bplint_lines.specs.declared.texts.Style.TheVariants.{OldStyle}
use Rattle.bplint_engine.specs.Check.{CheckSays}
use Rattle.bplint_engine.specs.Get.{LinesSay, found_line}
use Rattle.bplint_engine.proofs.LeftBytes.{sent}
use Rattle.bplint_engine.proofs.get.get_on.Goals as goal

pub returns-clause-exact : goal.returns-clause-exact
returns-clause-exact g c = λ honest cert made.
    let f = (g.S.Source.means c.args.src).octets in
    ∥∥₁_map (c.get_output.ensures.exact honest cert made) (λ m. sent (LinesSay (found_line OldStyle) (CheckSays f cert) f _) 0 _ _ _ _ m c.send_made.ensures.sent)
