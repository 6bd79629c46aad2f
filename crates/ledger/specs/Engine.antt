-- Document 01, "The list of demand 3", through the engine's own functions. What is known of each is its own contract, read off the clauses
-- in the source, so nothing is said here of the functions a second time. Assumes nothing.
use Rattle.std.specs.Prelude.{◌≡◌, Result}
use Rattle.register.specs.declared.Register.{Register}
use Rattle.register.specs.declared.GrantRefusal.{GrantRefusal}
use Rattle.register.specs.declared.NotInForce.{NotInForce}
use Rattle.register.specs.Rules.{grant_number, cancel_number}
use Rattle.register.specs.Promises.{next_of, refusal_of}
use Rattle.register.specs.contracts.Register.empty as empty-fn
use Rattle.register.specs.contracts.Register.grant as grant-fn
use Rattle.register.specs.contracts.Register.cancel as cancel-fn
use Rattle.proposal.specs.Promises.{answer_means, Answers}
use Rattle.proposal.specs.contracts.propose as propose-fn
use Rattle.footprint.specs.Promises.{means}
use Rattle.footprint.specs.contracts.footprint as footprint-fn
use Rattle.demand3.specs.Calls.{licence, Call, grant, cancel, propose, footprint}
use Rattle.demand3.specs.Interface as interface
use Rattle.demand3.specs.Interface.{Function, Interface}
use Rattle.demand3.specs.Contract.{nothing, says, Contract, Asks, Ensures}
use Rattle.demand3.specs.Lent.{proposing, outlining}

-- ---- the functions' contracts: none has a `requires`, and each has one `ensures`

abbrev empty-contract : Contract empty-fn.ended (λ w. empty-fn.clauses w.𝓛 w.𝓜.mem w.𝓡.returns) (λ w lives given. tt)
empty-contract = record { requires = λ lives given. nothing; ensures = λ lives given result left. says _ }

abbrev grant-contract : Contract grant-fn.ended (λ w. grant-fn.clauses w.𝓛 w.𝓜.mem w.𝓡.returns) (λ w lives given. tt)
grant-contract = record { requires = λ lives given. nothing; ensures = λ lives given result left. says _ }

abbrev cancel-contract : Contract cancel-fn.ended (λ w. cancel-fn.clauses w.𝓛 w.𝓜.mem w.𝓡.returns) (λ w lives given. tt)
cancel-contract = record { requires = λ lives given. nothing; ensures = λ lives given result left. says _ }

abbrev propose-contract : Contract propose-fn.ended (λ w. propose-fn.clauses w.𝓛 w.𝓜.mem w.𝓡.returns) (λ w lives given. tt)
propose-contract = record { requires = λ lives given. nothing; ensures = λ lives given result left. says _ }

abbrev footprint-contract : Contract footprint-fn.ended (λ w. footprint-fn.clauses w.𝓛 w.𝓜.mem w.𝓡.returns) (λ w lives given. tt)
footprint-contract = record { requires = λ lives given. nothing; ensures = λ lives given result left. says _ }

-- ---- the interface

abbrev pub function : (c : Call) → Function c
-- "The register": `register.grant(l)`; without a width l is `Licence::full(s, g)`. After a refusal the caller goes on with its register
function (grant s g w) = record {
  Answer = Result Register GrantRefusal;
  number = refusal_of grant_number;
  Says = λ a n. refusal_of grant_number a ≡ n;
  Asks = λ map r. Asks grant-contract tt (r, (licence s g w, tt));
  Step = λ map r a next. Ensures grant-contract tt (r, (licence s g w, tt)) a (r, (licence s g w, tt)) × (next ≡ next_of r a);
}
-- "The register": `register.cancel(s)`
function (cancel s) = record {
  Answer = Result Register NotInForce;
  number = refusal_of cancel_number;
  Says = λ a n. refusal_of cancel_number a ≡ n;
  Asks = λ map r. Asks cancel-contract tt (r, (s, tt));
  Step = λ map r a next. Ensures cancel-contract tt (r, (s, tt)) a (r, (s, tt)) × (next ≡ next_of r a);
}
-- "The proposal": `propose(map, r, draw)`
function (propose draw) =
    proposing draw (λ a. (answer_means a).refused) (λ a p. Answers p a) (Asks propose-contract) (Ensures propose-contract)
-- "The footprint": `footprint(map, r, draw, mask, table)`
function (footprint draw mask table) = outlining draw mask table means (Asks footprint-contract) (Ensures footprint-contract)

-- the engine's functions; an empty register is `Register::empty()`
abbrev pub engine : Interface
engine = record { EmptyAsks = Asks empty-contract tt tt; Empties = λ r. Ensures empty-contract tt tt r tt; function = function }

-- a call that was made through the engine's functions
abbrev pub Made : Type 0
Made = interface.Made engine
