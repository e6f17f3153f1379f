use Rattle.std.proofs.Common.{◌≡◌, rules, ap, ◌∙◌}
use Rattle.bplist_octets.specs.Meaning.{Meaning}
use Rattle.bplist_lint.specs.Upgraded.{IsUpgraded}
use Rattle.bplist_lint.proofs.UpgradeSteps.{open_upgrades}
use Rattle.bplist_lint.proofs.upgrader.upgrade.Goals as goal

pub returns-clause-exact : goal.returns-clause-exact
returns-clause-exact g c = λ honest.
    let same : c.in_ok-heights.heights.items ≡ c.args.checked.now.certificate.heights = search rules in
    let means = c.new.ensures.means ∙ c.in_ok-places.ensures.reads in
    open_upgrades (IsUpgraded c.args.checked.now.source.octets c.args.checked.now.frame c.args.checked.now.certificate.heights) (c.frame-frame.ensures.checked.accepted honest) c.list_vouched.result (λ a.
    (rw (same, ap (λ (m : Meaning). m.honest) means, ap (λ (m : Meaning). m.octets) means, c.new.ensures.frame, c.frame-frame.ensures.frame) at c.list_vouched.ensures.exact) honest a.valid)
