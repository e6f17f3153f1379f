-- What an object shows of the value that it holds. Source: profile.
use Rattle.std.specs.Prelude.{◌≡◌, ℕ, ◌*◌, ◌<◌, length}
use Rattle.bplist_objects.specs.Value.{Value}
use Rattle.bplist_objects.specs.Heads.{Content, leaf, array, set, dict}
use Rattle.bplist_cursor.specs.declared.replies.Face.{Face}
use Rattle.bplist_cursor.specs.declared.replies.Face.TheVariants as faces
use Rattle.bplist_cursor.specs.Replies.{face}

-- the face of an object with this content
abbrev pub content_face : Content → Face
content_face (leaf l) = face (Value.leaf l)
content_face (array ms) = faces.Array (length ms)
content_face (set ms) = faces.Set (length ms)
content_face (dict ks ms) = faces.Dict (length ks)

-- the container has fewer references than `len`
abbrev pub HasRoom : ℕ → Face → Type 0
HasRoom len shown = (n : ℕ) → (shown ≡ faces.Array n → n < len) × (shown ≡ faces.Set n → n < len) × (shown ≡ faces.Dict n → 2 * n < len)
