-- An object has at most one head and at most one content.
use Rattle.std.proofs.Common.{◌≡◌, ℕ, List, sym, ap, ◌∙◌}
use Rattle.bplist_objects.specs.declared.frame.Frame.{Frame}
use Rattle.bplist_objects.specs.declared.head.Head.{Head}
use Rattle.bplist_objects.specs.Heads.{Content, HasShape, Spells, content_at}
use Rattle.bplist_objects.proofs.BodyLaws.{HasHead-unique}

module _ (f : List ℕ) (F : Frame) (n : ℕ) where
  -- marker and count give at most one head
  pub one_shape : (a b : Head) → HasShape f F n a → HasShape f F n b → a ≡ b
  one_shape a b h k = HasHead-unique f F n a b h.has k.has

  -- an object spells at most one content
  pub one_head : (c d : Content) → Spells f F n c → Spells f F n d → c ≡ d
  one_head c d s t = s.means ∙ ap (content_at f F) (one_shape s.shape t.shape s.has t.has) ∙ sym t.means
