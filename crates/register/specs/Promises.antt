-- What each function of the register ensures, for any register at all. Assumes nothing.
use Rattle.std.specs.Prelude.{ℕ, ◌<◌, ◌≡◌, List, length, get_or, set, replicate, Result, Ok, Err}
use Rattle.register.specs.declared.Licence.{Licence}
use Rattle.register.specs.declared.FlatLicence.{FlatLicence}
use Rattle.register.specs.declared.Register.{Register}
use Rattle.register.specs.declared.GrantRefusal.{GrantRefusal}
use Rattle.register.specs.declared.NotInForce.{NotInForce}
use Rattle.register.specs.declared.Step.{Step}
use Rattle.register.specs.Licences.{flat_of, free_place, in_force, release}
use Rattle.register.specs.Rules.{grant_number, cancel_number, limit, grant_rule, cancel_rule}

-- "The register": an empty register, every place free
abbrev pub EmptyDone : Register → Type 0
EmptyDone r = r.places ≡ replicate limit free_place

-- "What a contract pins": the licence takes a place that was free, and every other place stays. Which free place it is stays open.
pub record Placed (old : List FlatLicence) (l : Licence) (new : List FlatLicence) : Type 0 where
  pub place : ℕ
  pub within : place < length old
  pub was_free : (get_or old place free_place).call_sign ≡ 0
  pub now : new ≡ set old place (flat_of l)

-- "Refused by the state": a grant answers by its rule, leaves the register where it refuses, and else places the licence
pub record GrantStep (old : Register) (l : Licence) (r : Step) : Type 0 where
  pub number : r.refusal ≡ grant_rule (in_force old.places) l
  pub refused : (r.refusal ≡ 0 → ⊥) → r.next ≡ old
  pub accepted : r.refusal ≡ 0 → Placed old.places l r.next.places

-- "Refused by the state": a cancellation answers by its rule, leaves the register where it refuses, and else frees the call sign's places
pub record CancelStep (old : Register) (s : ℕ) (r : Step) : Type 0 where
  pub number : r.refusal ≡ cancel_rule (in_force old.places) s
  pub refused : (r.refusal ≡ 0 → ⊥) → r.next ≡ old
  pub accepted : r.refusal ≡ 0 → r.next.places ≡ release s old.places

-- the register that the caller goes on with after a grant or a cancellation, and the number of its refusal, 0 for none
abbrev pub next_of : {E : Type 0} → Register → Result Register E → Register
next_of old (Ok next) = next
next_of old (Err e) = old

abbrev pub refusal_of : {A E : Type 0} → (E → ℕ) → Result A E → ℕ
refusal_of number (Ok a) = 0
refusal_of number (Err e) = number e

abbrev pub granted_step : Register → Result Register GrantRefusal → Step
granted_step old r = record { next = next_of old r; refusal = refusal_of grant_number r }

abbrev pub cancelled_step : Register → Result Register NotInForce → Step
cancelled_step old r = record { next = next_of old r; refusal = refusal_of cancel_number r }

-- the same where the answer is a result: a refused call leaves the caller with its register
abbrev pub GrantDone : Register → Licence → Result Register GrantRefusal → Type 0
GrantDone old l r = GrantStep old l (granted_step old r)

abbrev pub CancelDone : Register → ℕ → Result Register NotInForce → Type 0
CancelDone old s r = CancelStep old s (cancelled_step old r)

-- the step that a call makes in its own register
abbrev pub step_to : {A E : Type 0} → (E → ℕ) → Register → Result A E → Step
step_to number next r = record { next = next; refusal = refusal_of number r }

-- a place for the licence that is free where the rule accepts it, else the rule's refusal
abbrev pub PlaceFound : List FlatLicence → Licence → Result ℕ GrantRefusal → Type 0
PlaceFound places l (Ok place) =
    (grant_rule (in_force places) l ≡ 0) × (place < length places) × ((get_or places place free_place).call_sign ≡ 0)
PlaceFound places l (Err e) = grant_rule (in_force places) l ≡ grant_number e
