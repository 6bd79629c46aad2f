-- What a grant and a cancellation come to: refused, the register stays; accepted, it is the next one. Assumes nothing.
use Rattle.std.proofs.Common.{◌≡◌, ℕ, true, false, refl, arith}
use Rattle.register.specs.declared.Register.{Register}
use Rattle.register.specs.Licences.{in_force, held, release}
use Rattle.register.specs.Rules.{cancel_rule}
use Rattle.register.specs.Promises.{CancelStep}

module _ (old : Register) (s : ℕ) where
  -- what is not in force is refused, and the register stays
  pub cancel-refused : held s (in_force old.places) ≡ false → (new : Register) → new.places ≡ old.places
      → CancelStep old s (record { next = new; refusal = 11 })
  unfolding cancel_rule
  cancel-refused h new e = record { number = simp h; refused = λ _ i. record { places = e i }; accepted = λ z. absurd (omega arith) }

  -- what is in force is cancelled, and the call sign's places are free
  pub cancel-done : held s (in_force old.places) ≡ true → (new : Register) → new.places ≡ release s old.places
      → CancelStep old s (record { next = new; refusal = 0 })
  unfolding cancel_rule
  cancel-done h new e = record { number = simp h; refused = λ n. absurd (n refl); accepted = λ _. e }
