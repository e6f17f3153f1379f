-- What the classes of the keys of a dictionary say about the keys.
use Rattle.std.proofs.Common.{◌≡◌, ℕ, ◌<◌, ◌↔◌, inl, inr, Bool, List, None, length, subst, arith, Contains}
use Rattle.bplist_objects.specs.declared.fault.Fault.{Fault}
use Rattle.bplist_objects.specs.declared.frame.Frame.{Frame}
use Rattle.bplist_objects.specs.declared.frame.ObjectNo.{ObjectNo}
use Rattle.bplist_objects.specs.declared.head.Head.{Head}
use Rattle.bplist_objects.specs.declared.head.Kind.TheVariants.{Dict}
use Rattle.bplist_objects.specs.Announced.{HasHead}
use Rattle.bplist_objects.specs.Frame.{IsFrame}
use Rattle.bplist_objects.specs.Heads.{content_at, refs}
use Rattle.bplist_objects.specs.Reach.{Reach, next}
use Rattle.bplist_objects.proofs.Lists.{all_from}
use Rattle.bplist_objects.proofs.HeadTies.{head_tie}
use Rattle.bplist_keys.specs.Ranks.{AreClasses}
use Rattle.bplist_keys.specs.Marks.{IsMarked}
use Rattle.bplist_objects.proofs.ClaimLaws.{fails_too}
use Rattle.bplist_objects.specs.Scan.{ref}
use Rattle.bplist_cert.specs.DictKeys.{KeysAreTexts}
use Rattle.bplist_cert.specs.KeyRepeats.{KeysAreSound, BreaksKeys}
use Rattle.bplist_cert.proofs.KeyRepeats as keys
use Rattle.bplist_lint.specs.ReachRules.{KeepReached, reach_rules}
use Rattle.bplist_keys.specs.Classes.{HasNamedKeys, AreClassed, HaveClasses, IsKeyDefect, IsWrongFault}
use Rattle.bplist_lint.specs.KeyClasses.{AreSound}
use Rattle.bplist_lint.specs.ReachWalk.{AreNamed}
use Rattle.bplist_objects.proofs.FrameTies.{numbered}
use Rattle.bplist_objects.proofs.ReachedObjects.{reach_within}
use Rattle.bplist_keys.specs.declared.class_table.KeyDefect.{KeyDefect}
use Rattle.bplist_keys.specs.declared.class_table.KeyDefect.TheVariants as defects
use Rattle.bplist_lint.proofs.ReachSteps.{marked_within}
use Rattle.bplist_lint.proofs.KeptRules.{parted_rules}
use Rattle.bplist_cert.proofs.KeyTies.{each_key}

module _ (f : List ℕ) (F : Frame) where
  -- exactly the reached objects are marked, and they keep the rules
  pub reached_sound : (marks : List Bool) → length marks ≡ F.objects → IsFrame f F → ((m : ℕ) → IsMarked marks m ↔ Reach f F m)
      → KeepReached f F reach_rules F.objects → AreSound f F marks
  reached_sound marks many framed reached kept = record {
    framed = framed;
    kept = λ m marked. (parted_rules f F m (kept m (subst (λ n. m < n) many (marked_within marks m marked)) ((reached m).0 marked))).0;
    closed = λ n m marked r. (reached m).1 (next ((reached n).0 marked) r);
  }

  -- the keys of a marked dictionary are marked
  keys_marked : (marks : List Bool) → AreSound f F marks → (n : ℕ) → n < F.objects → IsMarked marks n → (head : Head) → HasHead f F n head → head.kind ≡ Dict
      → (k : ℕ) → k < head.count → IsMarked marks (ref f F head k)
  keys_marked marks sound n within marked head has dict k low =
      let c = content_at f F head in
      let spells = ((head_tie f F n sound.framed within head).0 (has, sound.kept n marked)).1 in
      let among = each_key f F (Contains (refs c)) head dict (all_from (Contains (refs c)) (refs c) (λ m in_refs. in_refs)) k low in
      sound.closed n (ref f F head k) marked (c, spells, among)

  -- if the reached objects are named, so are the keys of the reached ones
  pub reached_named : (marks : List Bool) → length marks ≡ F.objects → IsFrame f F → ((m : ℕ) → IsMarked marks m ↔ Reach f F m)
      → KeepReached f F reach_rules F.objects → AreNamed f F marks
  reached_named marks many framed reached kept n r =
      keys_marked marks (reached_sound marks many framed reached kept) n (reach_within f F (numbered framed).top n r) ((reached n).1 r)

  -- the keys of a marked dictionary keep rules 14 to 20
  pub sound_keys : (marks : List Bool) → AreSound f F marks → (n : ℕ) → n < F.objects → IsMarked marks n → (head : Head) → HasHead f F n head → head.kind ≡ Dict
      → KeysAreSound f F head
  sound_keys marks sound n within marked head has dict k low inside = sound.kept (ref f F head k) (keys_marked marks sound n within marked head has dict k low)

  -- what is known of the keys of a marked dictionary
  pub keys_known : (marks named : List Bool) (classes : List ℕ) (n : ℕ) → AreSound f F marks → AreClasses f F named classes → HasNamedKeys f F named n → n < F.objects → IsMarked marks n
      → (head : Head) → HasHead f F n head → head.kind ≡ Dict → AreClassed f F classes head × KeysAreSound f F head
  keys_known marks named classes n sound are named_keys within marked head has dict =
      (keys.keys_classed f F named classes n are named_keys head has dict, sound_keys marks sound n within marked head has dict)

  module _ (framed : IsFrame f F) (head : Head) (classes : List ℕ) (classed : AreClassed f F classes head) (sound : KeysAreSound f F head)
      (inside : (k : ℕ) → k < head.count → ref f F head k < F.objects) where
    -- what is wrong with the keys is the fault
    pub wrong_fault : (n : ObjectNo) → HasHead f F n.0 head → head.kind ≡ Dict → (wrong : KeyDefect) (fault : Fault) → IsKeyDefect (ref f F head) classes head.count wrong → IsWrongFault F n head wrong fault
        → BreaksKeys f F F.objects None n.0 fault
    wrong_fault n has dict (defects.NotText i) fault is told =
        let texts = fails_too (HaveClasses (ref f F head) classes) (KeysAreTexts f F head) head.count (keys.classed_texts f F head classes classed framed sound inside) (keys.texts_classed f F head classes classed) i is in
        (head, has, (dict, inl (told.0, told.1, (i, texts, told.2))))
    wrong_fault n has dict (defects.Repeated j) fault is told =
        let texts = keys.classed_texts f F head classes classed framed sound inside head.count (omega arith) is.0 in
        (head, has, (dict, inr (texts, (told.0, told.1, (j, keys.again_twice f F head classes classed texts j is.1, told.2)))))
