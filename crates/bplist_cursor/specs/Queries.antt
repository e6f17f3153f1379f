-- The parts of a query. Source: profile.
use Rattle.std.specs.Prelude.{ℕ, List}
use Rattle.bplist_objects.specs.Value.{Value}
use Rattle.bplist_cursor.specs.declared.replies.Query.{Query}
use Rattle.bplist_cursor.specs.declared.replies.Query.TheVariants as queries
use Rattle.bplist_cursor.specs.declared.replies.Reply.{Reply}
use Rattle.bplist_cursor.specs.declared.replies.Reply.TheVariants as replies
use Rattle.bplist_cursor.specs.Nodes.{cap, nodes}
use Rattle.bplist_cursor.specs.Replies.{face, keys_reply}

-- the steps of the path that a query asks about
abbrev pub steps_in : Query → List (List ℕ)
steps_in (queries.Get steps) = steps
steps_in (queries.Keys steps) = steps
steps_in (queries.Size steps) = steps

-- the reply to a query, given the value that its path leads to
abbrev pub reply_at : Value → Query → Reply
reply_at w (queries.Get steps) = replies.Face (face w)
reply_at w (queries.Keys steps) = keys_reply w
reply_at w (queries.Size steps) = replies.Size (cap (nodes w))
