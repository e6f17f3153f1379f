use Rattle.std.proofs.Common.{◌∙◌}
use Rattle.bplist_octets.proofs.Parts.{window_part}
use Rattle.bplist_octets.proofs.window.Window.copy_part.Goals as goal

pub returns : goal.returns
returns g c honest =
    c.copy_from_slice.ensures.after
    ∙ window_part _ _ _ _ c.args.from _ (c.args.self.now.holds honest) c.requires
