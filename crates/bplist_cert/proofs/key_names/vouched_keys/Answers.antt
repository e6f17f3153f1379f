use Rattle.std.proofs.Common.{ℕ, ◌<◌, List, Result, Ok, Err}
use Rattle.bplist_objects.specs.declared.frame.Frame.{Frame}
use Rattle.bplist_objects.specs.Answers.{Never}
use Rattle.bplist_objects.specs.Framed.{frame_in}
use Rattle.bplist_keys.specs.declared.named_keys.NamedKeys.{NamedKeys}
use Rattle.bplist_keys.specs.Classes.{HasNamedKeys}
use Rattle.bplist_cert.specs.declared.refusal.Refusal.{Refusal}
use Rattle.bplist_cert.specs.Valid.{IsVouchedBy}
use Rattle.bplist_cert.specs.KeyRepeats.{HaveNamedKeys}
use Rattle.bplist_cert.specs.Refusals.{Judges}
use Rattle.bplist_cert.proofs.CheckSteps.{vouched_inside}
use Rattle.bplist_cert.proofs.key_names.vouched_keys.Goals as goal

-- what is vouched for is an object
all_named : (f : List ℕ) (F : Frame) (heights : List ℕ) → ((n : ℕ) → IsVouchedBy heights n → n < F.objects) → (r : Result NamedKeys Refusal)
    → Judges (λ named. HaveNamedKeys f F heights F.objects named.marks.items) Never r
    → Judges (λ named. (n : ℕ) → IsVouchedBy heights n → HasNamedKeys f F named.marks.items n) Never r
all_named f F heights inside (Ok named) h = λ n vouched. h.1 n (inside n vouched) vouched
all_named f F heights inside (Err e) h = h

pub returns-clause-exact : goal.returns-clause-exact
returns-clause-exact g c = λ honest seen.
    let m = g.P.Source.means c.args.src.now in
    let F : Frame = frame_in m in
    all_named m.octets F c.args.heights.now (λ n vouched. vouched_inside c.args.heights.now F.objects n c.requires vouched)
    c.find_keys.result ((rw c.frame-bound.ensures.frame at c.find_keys.ensures.exact) honest seen)
