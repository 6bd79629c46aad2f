-- The engine's functions once more, by what Rattle itself reads off their contracts: `Pre` is what a function may assume and `Post` is what
-- it has to show. The interface is the same, so demand 3 holds of this one too. Assumes nothing.
use Rattle.std.proofs.Common.{◌≡◌, refl, subst}
use Rattle.std.specs.Prelude.{Result}
use Rattle.register.specs.declared.Register.{Register}
use Rattle.register.specs.declared.GrantRefusal.{GrantRefusal}
use Rattle.register.specs.declared.NotInForce.{NotInForce}
use Rattle.register.specs.Rules.{grant_number, cancel_number}
use Rattle.register.specs.Promises.{next_of, refusal_of}
use Rattle.register.proofs.Register.empty.Reads as empty-reads
use Rattle.register.proofs.Register.grant.Reads as grant-reads
use Rattle.register.proofs.Register.cancel.Reads as cancel-reads
use Rattle.proposal.specs.Promises.{answer_means, Answers}
use Rattle.proposal.proofs.propose.Reads as propose-reads
use Rattle.footprint.specs.Promises.{means}
use Rattle.footprint.proofs.footprint.Reads as footprint-reads
use Rattle.demand3.specs.Calls.{licence, Call, grant, cancel, propose, footprint}
use Rattle.demand3.specs.Interface.{Function, Interface}
use Rattle.demand3.specs.Lent.{proposing, outlining}
use Rattle.demand3.specs.Right.{Demand3}
use Rattle.ledger.specs.Engine as by-contracts
use Rattle.ledger.proofs.Engine.{engine-demand-3}

abbrev function : (c : Call) → Function c
function (grant s g w) = record {
  Answer = Result Register GrantRefusal;
  number = refusal_of grant_number;
  Says = λ a n. refusal_of grant_number a ≡ n;
  Asks = λ map r. grant-reads.Pre tt (r, (licence s g w, tt));
  Step = λ map r a next. grant-reads.Post tt (r, (licence s g w, tt)) a (r, (licence s g w, tt)) × (next ≡ next_of r a);
}
function (cancel s) = record {
  Answer = Result Register NotInForce;
  number = refusal_of cancel_number;
  Says = λ a n. refusal_of cancel_number a ≡ n;
  Asks = λ map r. cancel-reads.Pre tt (r, (s, tt));
  Step = λ map r a next. cancel-reads.Post tt (r, (s, tt)) a (r, (s, tt)) × (next ≡ next_of r a);
}
function (propose draw) =
    proposing draw (λ a. (answer_means a).refused) (λ a p. Answers p a) propose-reads.Pre propose-reads.Post
function (footprint draw mask table) = outlining draw mask table means footprint-reads.Pre footprint-reads.Post

same-function : (c : Call) → by-contracts.function c ≡ function c
same-function (grant s g w) = refl
same-function (cancel s) = refl
same-function (propose draw) = refl
same-function (footprint draw mask table) = refl

abbrev engine : Interface
engine = record { EmptyAsks = empty-reads.Pre tt tt; Empties = λ r. empty-reads.Post tt tt r tt; function = function }

pub same-engine : by-contracts.engine ≡ engine
same-engine i = record { EmptyAsks = empty-reads.Pre tt tt; Empties = λ r. empty-reads.Post tt tt r tt; function = λ c. same-function c i }

pub demand-3-by-reads : Demand3 engine
demand-3-by-reads = subst Demand3 same-engine engine-demand-3
