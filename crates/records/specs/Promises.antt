-- What the ways in of a record ensure, over any bytes, any register and any record. Assumes nothing.
use Rattle.std.specs.Prelude.{ℕ, ◌≡◌, Result, Ok, Err, cond, List, [], ◌∷◌, eqb}
use Rattle.map.specs.Reading.{Read, bad, good}
use Rattle.map.specs.Format.{Area}
use Rattle.map.specs.declared.Fault.{Fault}
use Rattle.map.specs.Answers.{fault_number}
use Rattle.register.specs.declared.Licence.{Licence}
use Rattle.register.specs.declared.Register.{Register}
use Rattle.register.specs.declared.Step.{Step}
use Rattle.register.specs.Licences.{in_force, struck}
use Rattle.register.specs.declared.GrantRefusal.{GrantRefusal}
use Rattle.register.specs.declared.NotInForce.{NotInForce}
use Rattle.register.specs.Rules.{grant_number, cancel_number}
use Rattle.register.specs.Promises.{GrantStep, CancelStep}
use Rattle.coverage.specs.Answers.{Answer, refused, answers, answer_of}
use Rattle.records.specs.declared.Record.{Record}
use Rattle.records.specs.declared.KeptRefusal.{KeptRefusal}
use Rattle.records.specs.declared.KeptRefusal.TheVariants as refusal
use Rattle.records.specs.declared.Next.{Next}
use Rattle.records.specs.Record.{loaded, no_record, added, subtracted, changed}

-- the number of a refusal, by those of the call without a record
abbrev pub Numbered : {E : Type 0} → (Gives : E → ℕ → Type 0) → KeptRefusal E → ℕ → Type 0
Numbered Gives (refusal.Map f) n = n ≡ fault_number f
Numbered Gives (refusal.Register e) n = Gives e n

abbrev pub kept_number : {E : Type 0} → (number : E → ℕ) → KeptRefusal E → ℕ
kept_number number (refusal.Map f) = fault_number f
kept_number number (refusal.Register e) = number e

-- "Loading a map gives sums of 0, or is refused by 1 to 5"
abbrev pub load_by : Read (List Area) → Answer Record
load_by (bad n) = refused n
load_by (good areas e) = answers (loaded areas)

abbrev pub LoadDone : Read (List Area) → Result Record Fault → Type 0
LoadDone m r = answer_of r ≡ load_by m

-- the same of a load that hands back a record in each case: the number, which is 0 only where nothing is refused, and the record
abbrev pub LoadStep : Read (List Area) → (number : ℕ) → Record → Type 0
LoadStep (bad n) number r = (number ≡ n) × (r ≡ no_record) × (number ≡ 0 → ⊥)
LoadStep (good areas e) number r = (number ≡ 0) × (r ≡ loaded areas)

-- what the caller goes on with after a load
abbrev pub loaded_by : Read (List Area) → Record
loaded_by (bad n) = no_record
loaded_by (good areas e) = loaded areas

-- "With a record both read the map and are first refused by 1 to 5", which leaves both as they were. Else the register and the number are
-- those of the call without a record, and the record changes where the call is accepted
abbrev pub KeptStep : Read (List Area) → Register → Record → (Alone : Step → Type 0) → (after : List Area → Record) → Step → Record
    → Type 0
KeptStep (bad n) old kept Alone after r k = (r.refusal ≡ n) × (r.next ≡ old) × (k ≡ kept)
KeptStep (good areas e) old kept Alone after r k = Alone r × (k ≡ cond (eqb r.refusal 0) (after areas) kept)

-- "A grant adds the coverage of its ground"
abbrev pub GrantKept : Read (List Area) → Register → Record → Licence → Step → Record → Type 0
GrantKept m old kept l = KeptStep m old kept (GrantStep old l) (λ areas. changed (added (l ∷ []) areas) kept)

-- "and a cancellation subtracts it": that of what it strikes
abbrev pub CancelKept : Read (List Area) → Register → Record → ℕ → Step → Record → Type 0
CancelKept m old kept s =
    KeptStep m old kept (CancelStep old s) (λ areas. changed (subtracted (struck s (in_force old.places)) areas) kept)

-- what the caller goes on with after a result: a refused call leaves both as they were
abbrev pub next_step : {E : Type 0} → (number : E → ℕ) → (old : Register) → Result Next (KeptRefusal E) → Step
next_step number old (Ok next) = record { next = next.register; refusal = 0 }
next_step number old (Err r) = record { next = old; refusal = kept_number number r }

abbrev pub next_record : {E : Type 0} → (old : Record) → Result Next (KeptRefusal E) → Record
next_record old (Ok next) = next.kept
next_record old (Err r) = old

-- the same of that
abbrev pub GrantDone : Read (List Area) → Register → Record → Licence → Result Next (KeptRefusal GrantRefusal) → Type 0
GrantDone m old kept l r = GrantKept m old kept l (next_step grant_number old r) (next_record kept r)

abbrev pub CancelDone : Read (List Area) → Register → Record → ℕ → Result Next (KeptRefusal NotInForce) → Type 0
CancelDone m old kept s r = CancelKept m old kept s (next_step cancel_number old r) (next_record kept r)
