-- What a sink has sent of the bytes that are put into it. Source: profile.
use Rattle.std.specs.Prelude.{◌≡◌, ℕ, ◌+◌, ◌<◌, ◌≤◌, List, ◌++◌, length, take, Option}
use Rattle.std.specs.Io.KnownBytes.{Appends}

-- how many bytes a sink has sent, and the bytes that it holds
pub record Sending : Type 0 where
  pub sent : ℕ
  pub held : List ℕ

-- after `before` bytes a first part of these bytes was sent, not all; `sent` counts all bytes
abbrev pub SendsPart : Option (List ℕ) → Option (List ℕ) → ℕ → List ℕ → ℕ → Type 0
SendsPart old new before bytes sent = (n : ℕ) × (n < length bytes) × (sent ≡ before + n) × Appends old new (take n bytes)

-- a first part of these bytes was sent
abbrev pub SendsSome : Option (List ℕ) → Option (List ℕ) → List ℕ → Type 0
SendsSome old new bytes = (gone rest : List ℕ) × Appends old new gone × (bytes ≡ gone ++ rest)

-- a sink took bytes: a first part of what it held and these was sent, and it holds the rest
pub record Takes (old new : Option (List ℕ)) (before after : Sending) (bytes : List ℕ) : Type 0 where
  pub gone : List ℕ
  pub appended : Appends old new gone
  pub counted : after.sent ≡ before.sent + length gone
  pub all : before.held ++ bytes ≡ gone ++ after.held

-- a write failed: a first part of what the sink held and these bytes was sent, not all
abbrev pub TakesPart : Option (List ℕ) → Option (List ℕ) → Sending → List ℕ → ℕ → Type 0
TakesPart old new before bytes sent = SendsPart old new before.sent (before.held ++ bytes) sent

-- the text `written` was added to what the writer held at the start, except for what the sink holds
pub record IsOut (start now : Option (List ℕ)) (sink : Sending) (written : List ℕ) : Type 0 where
  pub gone : List ℕ
  pub counted : length gone ≡ sink.sent
  pub appended : Appends start now gone
  pub all : gone ++ sink.held ≡ written

-- at most n bytes were added
abbrev pub AtMost : Option (List ℕ) → Option (List ℕ) → ℕ → Type 0
AtMost start now n = (gone : List ℕ) × (length gone ≤ n) × Appends start now gone
