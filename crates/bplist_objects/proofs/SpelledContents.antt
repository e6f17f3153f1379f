-- The function that finds what an object spells finds that and nothing else.
use Rattle.std.proofs.Common.{◌≡◌, ℕ, ◌<◌, ◌≤◌, ◌↔◌, List, length, Option, Some, None, if◌then◌else◌, IsTrue, refl, sym, ap, ◌∙◌, subst}
use Rattle.std.specs.Bool.{Decides}
use Rattle.std.specs.List.{AllByRecursion}
use Rattle.std.specs.Option.{option_and_then}
use Rattle.std.proofs.lemmas.Bool.Decides.{Decides-and, Decides-ltb}
use Rattle.bplist_objects.specs.declared.frame.Frame.{Frame}
use Rattle.bplist_objects.specs.declared.head.Head.{Head}
use Rattle.bplist_objects.specs.Frame.{off}
use Rattle.bplist_objects.specs.Heads.{Content, refs, content_at, Spells}
use Rattle.bplist_objects.specs.Markers.{head_found}
use Rattle.bplist_objects.specs.Spelled.{is_proper, is_spelled, spelled_at}
use Rattle.bplist_objects.proofs.HeadLaws.{if_some, head_is_found, found_head, head_within}
use Rattle.bplist_objects.proofs.ProperLeaves.{le_decides, low_decides, body_kept, kept_proper, refs_below, spells_bodies, bodies_spell}

module _ (f : List ℕ) (F : Frame) (n : ℕ) where
  abbrev o : ℕ
  o = off f F n

  -- the rules of an announced head, besides that it is announced
  abbrev IsSpelled : Head → Type 0
  IsSpelled head =
      (n < F.objects) × ((8 ≤ off f F n) × ((head.body ≤ length f) × ((head.«end» ≤ F.table)
      × (IsTrue (is_proper f head.kind head.count head.body) × AllByRecursion (λ m. m < F.objects) (refs (content_at f F head))))))

  spelled_decides : (head : Head) → Decides (is_spelled f F n head) (IsSpelled head)
  spelled_decides head =
      Decides-and _ _ (Decides-ltb n F.objects)
      (Decides-and _ _ (le_decides 8 (off f F n))
      (Decides-and _ _ (le_decides head.body (length f))
      (Decides-and _ _ (le_decides head.«end» F.table)
      (Decides-and _ _ (λ p. p, λ p. p)
      (low_decides F.objects (refs (content_at f F head)))))))

  found_spells : (head : Head) → head_found f F n ≡ Some head → IsSpelled head → Spells f F n (content_at f F head)
  found_spells head h s =
      let has = found_head f F n head s.1.1.0 h in
      bodies_spell f F n head (record { within = s.0; low = s.1.0; has = has; inside = s.1.1.1.0 }) (body_kept f F n head has s.1.1.1.1.0 s.1.1.1.1.1)

  abbrev content_found : Option Head → Option Content
  content_found = option_and_then (λ head. if is_spelled f F n head then Some (content_at f F head) else None)

  -- an object spells a content if and only if that content is computed
  pub spells_iff : (c : Content) → Spells f F n c ↔ (spelled_at f F n ≡ Some c)
  unfolding spelled_at
  spells_iff c = (to, from (head_found f F n) refl)
    where
      to : Spells f F n c → spelled_at f F n ≡ Some c
      to s =
          let head = s.shape in
          let rules : IsSpelled head = (s.has.within, (s.has.low, (head_within f F n head s.has.has, (s.has.inside, (kept_proper f F n head s.has.has (spells_bodies f F n c s), subst (λ x. AllByRecursion (λ m. m < F.objects) (refs x)) s.means (refs_below f F n c s)))))) in
          ap content_found (head_is_found f F n head s.has.has) ∙ ap (λ t. if t then Some (content_at f F head) else None) ((spelled_decides head).1 rules) ∙ ap Some (sym s.means)

      from : (found : Option Head) → head_found f F n ≡ found → content_found found ≡ Some c → Spells f F n c
      from None e r = absurd (cc r)
      from (Some head) e r =
          let t = if_some (is_spelled f F n head) (content_at f F head) c r in
          subst (Spells f F n) t.1 (found_spells head e ((spelled_decides head).0 t.0))
