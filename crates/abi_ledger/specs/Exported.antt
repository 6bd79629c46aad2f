-- Document 01, "The list of demand 3", through the C interface: what is known of each exported function is its own contract, read off the
-- clauses in the source, as in ledger's specs/Engine. The functions are those of `abi`; each export of `abi_c` calls one and has the same
-- contract (abi_c's proofs/Exports). What lists, runs and demand 3 are stands in `demand3`. Assumes nothing.
use Rattle.std.specs.Prelude.{ℕ, ◌≡◌}
use Rattle.register.specs.declared.Ground.{Ground}
use Rattle.register.specs.declared.FlatLicence.{FlatLicence}
use Rattle.register.specs.Licences.{ground_of}
use Rattle.proposal.specs.Answer.{AreaCells}
use Rattle.abi.specs.declared.Given.{Given}
use Rattle.abi.specs.Flat.{flat_proposal, outline_means}
use Rattle.abi.specs.contracts.codwalet_empty as empty-fn
use Rattle.abi.specs.contracts.codwalet_grant as grant-fn
use Rattle.abi.specs.contracts.codwalet_grant_width as width-fn
use Rattle.abi.specs.contracts.codwalet_cancel as cancel-fn
use Rattle.abi.specs.contracts.codwalet_propose as propose-fn
use Rattle.abi.specs.contracts.codwalet_footprint as footprint-fn
use Rattle.demand3.specs.Calls.{without, mhz, Call, grant, cancel, propose, footprint}
use Rattle.demand3.specs.Interface.{Function, Interface}
use Rattle.demand3.specs.Contract.{nothing, says, Contract, Asks, Ensures}
use Rattle.demand3.specs.Lent.{proposing, outlining}

-- ---- the functions' contracts: none has a `requires`, and each has one `ensures`

abbrev empty-contract : Contract empty-fn.ended (λ w. empty-fn.clauses w.𝓛 w.𝓜.mem w.𝓡.returns) (λ w lives given. tt)
empty-contract = record { requires = λ lives given. nothing; ensures = λ lives given result left. says _ }

abbrev grant-contract : Contract grant-fn.ended (λ w. grant-fn.clauses w.𝓛 w.𝓜.mem w.𝓡.returns) (λ w lives given. tt)
grant-contract = record { requires = λ lives given. nothing; ensures = λ lives given result left. says _ }

abbrev width-contract : Contract width-fn.ended (λ w. width-fn.clauses w.𝓛 w.𝓜.mem w.𝓡.returns) (λ w lives given. tt)
width-contract = record { requires = λ lives given. nothing; ensures = λ lives given result left. says _ }

abbrev cancel-contract : Contract cancel-fn.ended (λ w. cancel-fn.clauses w.𝓛 w.𝓜.mem w.𝓡.returns) (λ w lives given. tt)
cancel-contract = record { requires = λ lives given. nothing; ensures = λ lives given result left. says _ }

abbrev propose-contract : Contract propose-fn.ended (λ w. propose-fn.clauses w.𝓛 w.𝓜.mem w.𝓡.returns) (λ w lives given. tt)
propose-contract = record { requires = λ lives given. nothing; ensures = λ lives given result left. says _ }

abbrev footprint-contract : Contract footprint-fn.ended (λ w. footprint-fn.clauses w.𝓛 w.𝓜.mem w.𝓡.returns) (λ w lives given. tt)
footprint-contract = record { requires = λ lives given. nothing; ensures = λ lives given result left. says _ }

-- ---- the interface

-- a call sign and a ground as the caller laid them out, for a grant that ensures `Post`
pub record Grants (s : ℕ) (g : Ground) (Post : FlatLicence → Type 0) : Type 0 where
  pub given : FlatLicence
  pub sign : given.call_sign ≡ s
  pub ground : ground_of given ≡ g
  pub post : Post given

-- a grant and a cancellation answer by document 01's number, 0 where they are accepted
abbrev pub function : (c : Call) → Function c
-- `codwalet_grant(r, given)`
function (grant s g without) = record {
  Answer = ℕ;
  number = λ n. n;
  Says = λ n m. n ≡ m;
  Asks = λ map r. (given : FlatLicence) → Asks grant-contract tt (r, (given, tt));
  Step = λ map r n next.
      Grants s g (λ given. Ensures grant-contract tt (r, (given, tt)) (record { next = next; refusal = n }) (r, (given, tt)));
}
-- `codwalet_grant_width(r, given, width)`
function (grant s g (mhz width)) = record {
  Answer = ℕ;
  number = λ n. n;
  Says = λ n m. n ≡ m;
  Asks = λ map r. (given : FlatLicence) → Asks width-contract tt (r, (given, (width, tt)));
  Step = λ map r n next.
      Grants s g (λ given.
      Ensures width-contract tt (r, (given, (width, tt))) (record { next = next; refusal = n }) (r, (given, (width, tt))));
}
-- `codwalet_cancel(r, s)`
function (cancel s) = record {
  Answer = ℕ;
  number = λ n. n;
  Says = λ n m. n ≡ m;
  Asks = λ map r. Asks cancel-contract tt (r, (s, tt));
  Step = λ map r n next. Ensures cancel-contract tt (r, (s, tt)) (record { next = next; refusal = n }) (r, (s, tt));
}
-- `codwalet_propose(map, r, draw)`
function (propose draw) = proposing draw (λ a. a.refusal) (λ a p. a ≡ flat_proposal p) (Asks propose-contract) (Ensures propose-contract)
-- `codwalet_footprint(map, r, draw, mask, table)`
function (footprint draw mask table) = outlining draw mask table outline_means (Asks footprint-contract) (Ensures footprint-contract)

-- the exported functions; an empty register is `codwalet_empty()`
abbrev pub exported : Interface
exported = record { EmptyAsks = Asks empty-contract tt tt; Empties = λ r. Ensures empty-contract tt tt r tt; function = function }

-- document 02, Paper 1: "The proposal shows the sum of cells for each map area": an area's number with the sum that its entry shows
abbrev pub cells_out : Given → AreaCells
cells_out g = record { number = g.number; cells = g.cells }
