-- What the keys of a dictionary keep and break.
use Rattle.std.proofs.Common.{◌≡◌, ℕ, ◌+◌, ◌<◌, List, [], None, length, sym, ap, ◌∙◌, arith}
use Rattle.bplist_objects.specs.declared.fault.Fault.{Fault}
use Rattle.bplist_objects.specs.declared.frame.Frame.{Frame}
use Rattle.bplist_objects.specs.declared.head.Head.{Head}
use Rattle.bplist_objects.specs.declared.head.Kind.TheVariants.{Dict}
use Rattle.bplist_objects.specs.Announced.{HasHead}
use Rattle.bplist_objects.specs.Rules.{KeepsAll}
use Rattle.bplist_objects.specs.ObjectRules.{KeepsByObject, object_rules}
use Rattle.bplist_objects.specs.Reach.{Reach}
use Rattle.bplist_objects.specs.Frame.{IsFrame}
use Rattle.bplist_objects.specs.Safe.{ref_count}
use Rattle.bplist_objects.specs.Spelled.{refs_at}
use Rattle.bplist_objects.proofs.HeadTies.{head_tie}
use Rattle.bplist_objects.proofs.References.{length-refs}
use Rattle.bplist_objects.proofs.ReachedObjects.{refs_spelled}
use Rattle.bplist_cert.specs.KeyRepeats.{HasGoodKeys, BreaksKeys}
use Rattle.bplist_cert.proofs.CheckSteps.{kept_by_good, first_of_keys}
use Rattle.bplist_cert.specs.CheckRules.{key_rules}
use Rattle.bplist_lint.specs.ReachRules.{IsReachedFault, KeepReached}
use Rattle.bplist_lint.proofs.KeptRules.{keep_more}

module _ (f : List ℕ) (F : Frame) where
  -- the first fault of the keys
  pub keys_fault : (n : ℕ) (fault : Fault) → Reach f F n → KeepReached f F (key_rules None) n → BreaksKeys f F F.objects None n fault → IsReachedFault f F (key_rules None) fault
  keys_fault n fault reached kept h = record { object = n; member = reached; first = first_of_keys f F (Reach f F) [] n None fault h; least = kept }

  -- one more object
  pub keys_more : (n : ℕ) → HasGoodKeys f F None n → KeepReached f F (key_rules None) n → KeepReached f F (key_rules None) (n + 1)
  keys_more n good kept = keep_more f F (key_rules None) n (n + 1) (omega arith) kept (λ _. kept_by_good f F (Reach f F) [] n None good)

-- an object without references that keeps rules 14 to 20 has no keys
pub childless_keys : (f : List ℕ) (F : Frame) (n : ℕ) → IsFrame f F → n < F.objects → KeepsAll (KeepsByObject f F n) object_rules → refs_at f F n ≡ []
    → HasGoodKeys f F None n
childless_keys f F n framed within kept none head has dict =
    let z = no_keys head has dict in
    (λ k low. absurd (omega (arith, z, low)), λ i j _ low. absurd (omega (arith, z, low)))
  where
    no_keys : (head : Head) → HasHead f F n head → head.kind ≡ Dict → head.count ≡ 0
    no_keys head has dict =
        let spelled = ((head_tie f F n framed within head).0 (has, kept)).1 in
        let long : ref_count head.kind head.count ≡ 0 = sym (length-refs f F head.kind head.count head.body) ∙ ap length (sym (refs_spelled f F n _ spelled) ∙ none) in
        let pairs : ref_count Dict head.count ≡ 0 = sym (ap (λ k. ref_count k head.count) dict) ∙ long in
        omega (arith, pairs)
