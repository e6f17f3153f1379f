-- What a caller asks the engine to do. Source: profile.
use Rattle.std.specs.Prelude.{◌≡◌, ℕ, Bool, List, length}
use Rattle.bplint_engine.specs.declared.run.Verb.{Verb}
use Rattle.bplint_engine.specs.declared.run.Verb.TheVariants.{Print}

-- a command: verb, path texts, limit of Print, whether inputs are hexadecimal, whether Certify writes key lists
pub record Asked : Type 0 where
  pub verb : Verb
  pub paths : List (List ℕ)
  pub limit : ℕ
  pub hex : Bool
  pub sorted : Bool

-- Print has exactly one path
abbrev pub PrintsOnePath : Asked → Type 0
PrintsOnePath command = command.verb ≡ Print → length command.paths ≡ 1
