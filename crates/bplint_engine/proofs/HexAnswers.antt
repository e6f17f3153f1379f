-- Answers for inputs that may be hexadecimal text.
use Rattle.std.proofs.Common.{◌≡◌, ◌⊎◌, inl, inr, ℕ, List, [], true, false, None, sym, subst, refl, Option, Result, Ok, Err}
use Rattle.std.specs.Prelude.{MatchResult, IsErr, if◌then◌else◌}
use Rattle.std.proofs.Math.Logic.{∥∥₁_map}
use Rattle.std.proofs.lemmas.Grind.{merely}
use Rattle.hex.specs.declared.error.FromHexError.{FromHexError}
use Rattle.bplint_lines.specs.declared.fault.RunFault.{RunFault}
use Rattle.bplint_lines.specs.declared.fault.RunFault.TheVariants.{Hex, Memory}
use Rattle.bplint_lines.specs.declared.fault.Said.{Said}
use Rattle.bplint_lines.specs.Answers.{Answer, refuses, Leaves}
use Rattle.bplint_engine.specs.Output.{read_fault_of}
use Rattle.bplint_engine.specs.Commands.{Asked}
use Rattle.bplint_engine.specs.Hexadecimal.{spelled}
use Rattle.bplint_engine.specs.Said.{Says, SaysOver, SaysSpelled, most, takes_cert}
use Rattle.bplint_engine.proofs.LeftBytes.{begins_nothing, kept_self, said_as}

-- the inputs are the bytes themselves
pub as_bytes : (command : Asked) (file cert : List ℕ) (old new : Option (List ℕ)) (result : Result Said RunFault) → command.hex ≡ false
    → Leaves (Says command file cert) (most command) old new result → Leaves (SaysOver command.hex command file cert) (most command) old new result
as_bytes command file cert old new result hex left =
    subst (λ b. Leaves (SaysOver b command file cert) (most command) old new result) (sym hex) left

-- the file's text spells bytes
over_file : (command : Asked) (file cert f : List ℕ) → command.hex ≡ true → spelled file ≡ Ok f → (a : Answer)
    → SaysSpelled (Says command f) (if takes_cert command.verb then cert else []) a → SaysOver command.hex command file cert a
over_file command file cert f hex is a h =
    subst (λ b. SaysOver b command file cert a) (sym hex)
    (subst (λ r. MatchResult r (λ g. SaysSpelled (Says command g) (if takes_cert command.verb then cert else []) a) (λ _. a ≡ refuses Hex)) (sym is) h)

-- the text of the certificate spells bytes too, if it is used
pub as_texts : (command : Asked) (file cert shown f octets : List ℕ) (old new : Option (List ℕ)) (result : Result Said RunFault) → command.hex ≡ true
    → spelled file ≡ Ok f → shown ≡ (if takes_cert command.verb then cert else []) → spelled shown ≡ Ok octets
    → Leaves (Says command f octets) (most command) old new result → Leaves (SaysOver command.hex command file cert) (most command) old new result
as_texts command file cert shown f octets old new result hex is shows spells left =
    ∥∥₁_map left (said_as (Says command f octets) (SaysOver command.hex command file cert) (most command) old new result
    (λ a h. over_file command file cert f hex is a (subst (λ s. SaysSpelled (Says command f) s a) shows
    (subst (λ r. MatchResult r (λ o. Says command f o a) (λ _. a ≡ refuses Hex)) (sym spells) h))))

-- a text that spells nothing
wrong_says : (r : Result (List ℕ) FromHexError) (X : List ℕ → Type 0) (Y : Type 0) → IsErr r → Y → MatchResult r X (λ _. Y)
wrong_says (Ok l) X Y h y = absurd (cc)
wrong_says (Err e) X Y h y = y

-- the text of the certificate is used, and is wrong
pub text_refused : (command : Asked) (file cert shown f : List ℕ) (old : Option (List ℕ)) (fault : RunFault) → command.hex ≡ true
    → spelled file ≡ Ok f → shown ≡ (if takes_cert command.verb then cert else []) → (fault ≡ Memory) ⊎ ((fault ≡ Hex) × IsErr (spelled shown))
    → Leaves (SaysOver command.hex command file cert) (most command) old old (Err fault)
text_refused command file cert shown f old fault hex is shows (inl memory) = rw memory (merely (begins_nothing (SaysOver command.hex command file cert) (most command) old old (kept_self old)))
text_refused command file cert shown f old fault hex is shows (inr (wrong, none)) =
    rw wrong (merely (
      over_file command file cert f hex is (refuses Hex) (subst (λ s. SaysSpelled (Says command f) s (refuses Hex)) shows
          (wrong_says (spelled shown) (λ o. Says command f o (refuses Hex)) (refuses Hex ≡ refuses Hex) none refl)),
      kept_self old,
    ))

-- neither refused memory nor a wrong text is a failed read
pub no_read : (cert : List ℕ) (fault : RunFault) → (fault ≡ Memory) ⊎ ((fault ≡ Hex) × IsErr (spelled cert)) → read_fault_of fault ≡ None
no_read cert fault (inl memory) = rw memory refl
no_read cert fault (inr (wrong, _)) = rw wrong refl
