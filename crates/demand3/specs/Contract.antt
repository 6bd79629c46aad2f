-- What a function's own contract says, read off its clauses. A clause that is a plain fact says that fact, and no clause says nothing, at
-- every model of the logic: so it is what a caller shows and learns at any call. Assumes nothing.
use base.Logic.{emp}
use contract.Lifetimes.{Lfts}
use contract.Monad.{fact}
use denote.Triple.Clauses.{Ended, Clauses, AtExit}
use borrow.Fn.World.{World, Pr, ArgsD, ResD}

-- a clause, which is an assertion at every model
abbrev pub Clause : Type 2
Clause = (w : World) → Pr w

-- a clause in plain facts: none, or one that is a fact
pub data Said : Clause → Type 2 where
  nothing : Said (λ w. emp w.𝓤)
  says : (claim : Type 0) → Said (λ w. fact w.𝓤 claim)

-- what it says
abbrev pub fact_of : {P : Clause} → Said P → Type 0
fact_of nothing = Unit {0}
fact_of (says claim) = claim

-- a function's clauses in plain facts
pub record Contract
    (T : Ended)
    (clauses : (w : World) → Clauses w.𝓤 T)
    (ghosts : (w : World) (lives : Lfts T.signature.lifetimes) (given : ArgsD T.signature lives) → (clauses w lives given).ghost)
    : Type 2 where
  pub requires : (lives : Lfts T.signature.lifetimes) (given : ArgsD T.signature lives) →
      Said (λ w. (clauses w lives given).requires (ghosts w lives given))
  pub ensures : (lives : Lfts T.signature.lifetimes) (given : ArgsD T.signature lives) (result : ResD T.signature lives)
      (left : AtExit T lives) → Said (λ w. (clauses w lives given).ensures (ghosts w lives given) result left)

module _ {T : Ended} {clauses : (w : World) → Clauses w.𝓤 T}
    {ghosts : (w : World) (lives : Lfts T.signature.lifetimes) (given : ArgsD T.signature lives) → (clauses w lives given).ghost}
    (contract : Contract T clauses ghosts)
  where
    -- what the function asks of its caller: its `requires`
    abbrev pub Asks : (lives : Lfts T.signature.lifetimes) → ArgsD T.signature lives → Type 0
    Asks lives given = fact_of (contract.requires lives given)

    -- what it ensures of what it was given, its result and what it leaves: its `ensures`
    abbrev pub Ensures : (lives : Lfts T.signature.lifetimes) → ArgsD T.signature lives → ResD T.signature lives → AtExit T lives → Type 0
    Ensures lives given result left = fact_of (contract.ensures lives given result left)
