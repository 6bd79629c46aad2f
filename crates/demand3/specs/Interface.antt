-- Document 01, "The list of demand 3": calls made one after another through an interface, which is any set of functions for these calls:
-- the engine's own (crate `ledger`), or the exported ones (crate `abi_ledger`). Assumes nothing.
use Rattle.std.specs.Prelude.{ℕ, List, [], ◌∷◌}
use Rattle.register.specs.declared.Register.{Register}
use Rattle.demand3.specs.Calls.{Call, Outcome}

-- the function that makes a call through an interface
pub record Function (c : Call) : Type 1 where
  -- what it answers, with what it leaves of lent buffers
  pub Answer : Type 0
  -- the number of a refusal in an answer, 0 where nothing is refused
  pub number : Answer → ℕ
  -- what an answer says, in document 01's terms
  pub Says : Answer → Outcome c → Type 0
  -- what it asks of its caller: its own `requires`, over a map and the register that it gets
  pub Asks : (map : List ℕ) → Register → Type 0
  -- what it ensures: its own contract, over a map, from the register that it gets to the register that it hands back or leaves
  pub Step : (map : List ℕ) → Register → Answer → Register → Type 0

-- what an answer says is an outcome with a property
pub record Saying {c : Call} (f : Function c) (a : f.Answer) (P : Outcome c → Type 0) : Type 0 where
  pub outcome : Outcome c
  pub says : f.Says a outcome
  pub holds : P outcome

-- an interface: what it asks for an empty register and ensures of it, and its function for each call
pub record Interface : Type 1 where
  pub EmptyAsks : Type 0
  pub Empties : Register → Type 0
  pub function : (c : Call) → Function c

-- "The list of demand 3": a call that was made
pub record Made (i : Interface) : Type 0 where
  pub call : Call
  pub answer : (i.function call).Answer

module _ {i : Interface} where
  -- "The list of demand 3": the calls' arguments, which are all that the ledger is fed
  abbrev pub calls : List (Made i) → List Call
  calls [] = []
  calls (m ∷ made) = m.call ∷ calls made

  -- the number of what a call answered
  abbrev pub number_of : Made i → ℕ
  number_of m = (i.function m.call).number m.answer

-- "The list of demand 3": each call gets the register of the call before it, and nobody else writes it; "Proposals and footprints
-- read the same bytes throughout"
pub data Run (i : Interface) (map : List ℕ) : Register → List (Made i) → Register → Type 0 where
  done : {r : Register} → Run i map r [] r
  step : {r next last : Register} {made : List (Made i)} (m : Made i) →
      (i.function m.call).Step map r m.answer next → Run i map next made last → Run i map r (m ∷ made) last
