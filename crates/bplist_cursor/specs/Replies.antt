-- What a value replies to a query. Source: profile.
use Rattle.std.specs.Prelude.{ℕ, List, length, Ok, Err}
use Rattle.bplist_objects.specs.Value.{null, boolean, int, real, date, bytes, text, uid, Value, leaf, array, set, dict, keys}
use Rattle.bplist_cursor.specs.declared.replies.Face.{Face}
use Rattle.bplist_cursor.specs.declared.replies.Face.TheVariants as faces
use Rattle.bplist_cursor.specs.declared.replies.Query.{Query}
use Rattle.bplist_cursor.specs.declared.replies.Query.TheVariants as queries
use Rattle.bplist_cursor.specs.declared.replies.Reply.{Reply}
use Rattle.bplist_cursor.specs.declared.replies.Reply.TheVariants as replies
use Rattle.bplist_cursor.specs.Look.{look}
use Rattle.bplist_cursor.specs.Members.{members}
use Rattle.bplist_cursor.specs.Nodes.{cap, nodes}

-- the value of a leaf, or the kind and count of a container
abbrev pub face : Value → Face
face (leaf null) = faces.Null
face (leaf (boolean b)) = faces.Bool b
face (leaf (int i)) = faces.Int i
face (leaf (real l)) = faces.Real l
face (leaf (date l)) = faces.Date l
face (leaf (bytes l)) = faces.Bytes l
face (leaf (text u)) = faces.Text u
face (leaf (uid x)) = faces.Uid x
face (array vs) = faces.Array (length (members vs))
face (set vs) = faces.Set (length (members vs))
face (dict ps) = faces.Dict (length (keys ps))

-- the keys of a dictionary
abbrev pub keys_reply : Value → Reply
keys_reply v = elim v [ dict ps ↦ replies.Keys (keys ps) | _ ↦ replies.NoKeys ]

-- what is told of the value that these steps lead to, or why they lead nowhere
abbrev pub told_of : (Value → Reply) → Value → List (List ℕ) → Reply
told_of tell v steps =
    elim (look 0 v steps) [ Ok w ↦ tell w | Err (k, why) ↦ replies.Missing k why ]

-- a value's reply to a query
abbrev pub reply : Value → Query → Reply
reply v (queries.Get steps) = told_of (λ w. replies.Face (face w)) v steps
reply v (queries.Keys steps) = told_of keys_reply v steps
reply v (queries.Size steps) = told_of (λ w. replies.Size (cap (nodes w))) v steps
