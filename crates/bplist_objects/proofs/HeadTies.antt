-- What is said of an object by place and index is what the definitions say.
use Rattle.std.proofs.Common.{◌≡◌, ℕ, ◌<◌, ◌≤◌, ◌↔◌, List, ap, ◌∙◌, subst}
use Rattle.bplist_objects.specs.declared.frame.Frame.{Frame}
use Rattle.bplist_objects.specs.declared.head.Head.{Head}
use Rattle.bplist_objects.specs.Frame.{IsFrame}
use Rattle.bplist_objects.specs.Heads.{Content, HasShape, content_at, Spells, IsHeadOf}
use Rattle.bplist_objects.specs.Rules.{KeepsAll}
use Rattle.bplist_objects.specs.Announced.{HasHead}
use Rattle.bplist_objects.specs.ObjectRules.{KeepsByObject, shape_rules, body_rules, object_rules}
use Rattle.bplist_objects.proofs.BodyLaws.{HasHead-unique}
use Rattle.bplist_objects.proofs.Fronts.{one_shape}
use Rattle.bplist_objects.proofs.RuleLaws.{kept_all_after}
use Rattle.bplist_objects.proofs.ShapeLaws.{shape_kept}
use Rattle.bplist_objects.proofs.ProperLeaves.{spells_bodies, bodies_spell}

module _ (f : List ℕ) (F : Frame) (n : ℕ) where
  -- ---- marker and count
  -- the head of a shape is announced
  pub shape_announced : (head : Head) → HasShape f F n head → HasHead f F n head
  shape_announced head h = h.has

  -- an object with a shape keeps rules 14 to 17
  pub shape_keeps : (head : Head) → HasShape f F n head → KeepsAll (KeepsByObject f F n) shape_rules
  shape_keeps head h = shape_kept f F n h.low head (shape_announced head h) h.inside

  -- an object that spells a content has a head, and with a head it spells what the body means
  pub spells_head : (c : Content) (s : Spells f F n c) → IsHeadOf f F n s.shape
  spells_head c s = (s.has, subst (Spells f F n) s.means s)

  pub spells_body : (head : Head) (c : Content) → HasShape f F n head → Spells f F n c → c ≡ content_at f F head
  spells_body head c h s = s.means ∙ ap (content_at f F) (one_shape f F n s.shape head s.has h)

  -- an object that spells a content keeps rules 14 to 20
  pub spells_keeps : (c : Content) → Spells f F n c → KeepsAll (KeepsByObject f F n) object_rules
  spells_keeps c s = kept_all_after (KeepsByObject f F n) shape_rules body_rules (shape_keeps s.shape s.has) (spells_bodies f F n c s)

  module _ (frame : IsFrame f F) (lt : n < F.objects) where
    -- a head that is announced, and whose rules 14 to 17 are kept, is a shape
    pub announced_shape : (head : Head) → HasHead f F n head → KeepsAll (KeepsByObject f F n) shape_rules → HasShape f F n head
    announced_shape head h kept =
        let early = kept.1.1.1.0 kept.1.0 (kept.1.1.0 kept.1.0) in
        let inside : head.«end» ≤ F.table = subst (λ (x : Head). x.«end» ≤ F.table) (HasHead-unique f F n early.0 head early.1 h) early.2 in
        record { within = lt; low = kept.0; has = h; inside = inside }

    pub shape_tie : (head : Head) → (HasHead f F n head × KeepsAll (KeepsByObject f F n) shape_rules) ↔ HasShape f F n head
    shape_tie head = ((λ h. announced_shape head h.0 h.1), λ h. (shape_announced head h, shape_keeps head h))

    -- ---- the body
    -- the body of a head whose rules are all kept
    pub kept_spells : (head : Head) → HasHead f F n head → KeepsAll (KeepsByObject f F n) object_rules → IsHeadOf f F n head
    kept_spells head h kept =
        let shape = announced_shape head h (kept.0, (kept.1.0, (kept.1.1.0, (kept.1.1.1.0, tt)))) in
        (shape, bodies_spell f F n head shape kept.1.1.1.1)

    -- ---- the ties
    pub head_tie : (head : Head) → (HasHead f F n head × KeepsAll (KeepsByObject f F n) object_rules) ↔ IsHeadOf f F n head
    head_tie head = ((λ h. kept_spells head h.0 h.1), λ h. (shape_announced head h.0, spells_keeps (content_at f F head) h.1))

    -- an object that keeps rules 14 to 17 has a head
    pub kept_announces : KeepsAll (KeepsByObject f F n) shape_rules → (head : Head) × HasHead f F n head
    kept_announces kept = let early = kept.1.1.1.0 kept.1.0 (kept.1.1.0 kept.1.0) in (early.0, early.1)

    pub keeps_iff : KeepsAll (KeepsByObject f F n) object_rules ↔ ((c : Content) × Spells f F n c)
    keeps_iff = (
      λ kept.
          let head = kept_announces (kept.0, (kept.1.0, (kept.1.1.0, (kept.1.1.1.0, tt)))) in
          (content_at f F head.0, (kept_spells head.0 head.1 kept).1),
      λ s. spells_keeps s.0 s.1,
    )
