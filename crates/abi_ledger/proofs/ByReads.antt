-- The exported functions once more, by what Rattle itself reads off their contracts: `Pre` is what a function may assume and `Post` is what
-- it has to show. The interface is the same, so demand 3 holds of this one too. Assumes nothing.
use Rattle.std.proofs.Common.{ℕ, ◌≡◌, refl, subst}
use Rattle.register.specs.declared.FlatLicence.{FlatLicence}
use Rattle.abi.specs.Flat.{flat_proposal, outline_means}
use Rattle.abi.proofs.codwalet_empty.Reads as empty-reads
use Rattle.abi.proofs.codwalet_grant.Reads as grant-reads
use Rattle.abi.proofs.codwalet_grant_width.Reads as width-reads
use Rattle.abi.proofs.codwalet_cancel.Reads as cancel-reads
use Rattle.abi.proofs.codwalet_propose.Reads as propose-reads
use Rattle.abi.proofs.codwalet_footprint.Reads as footprint-reads
use Rattle.demand3.specs.Calls.{without, mhz, Call, grant, cancel, propose, footprint}
use Rattle.demand3.specs.Interface.{Function, Interface}
use Rattle.demand3.specs.Lent.{proposing, outlining}
use Rattle.demand3.specs.Right.{Demand3}
use Rattle.abi_ledger.specs.Exported as by-contracts
use Rattle.abi_ledger.specs.Exported.{Grants}
use Rattle.abi_ledger.proofs.Exported.{exported-demand-3}

-- a grant and a cancellation answer by document 01's number, 0 where they are accepted
abbrev function : (c : Call) → Function c
-- `codwalet_grant(r, given)`
function (grant s g without) = record {
  Answer = ℕ;
  number = λ n. n;
  Says = λ n m. n ≡ m;
  Asks = λ map r. (given : FlatLicence) → grant-reads.Pre tt (r, (given, tt));
  Step = λ map r n next.
      Grants s g (λ given. grant-reads.Post tt (r, (given, tt)) (record { next = next; refusal = n }) (r, (given, tt)));
}
-- `codwalet_grant_width(r, given, width)`
function (grant s g (mhz width)) = record {
  Answer = ℕ;
  number = λ n. n;
  Says = λ n m. n ≡ m;
  Asks = λ map r. (given : FlatLicence) → width-reads.Pre tt (r, (given, (width, tt)));
  Step = λ map r n next.
      Grants s g (λ given.
      width-reads.Post tt (r, (given, (width, tt))) (record { next = next; refusal = n }) (r, (given, (width, tt))));
}
-- `codwalet_cancel(r, s)`
function (cancel s) = record {
  Answer = ℕ;
  number = λ n. n;
  Says = λ n m. n ≡ m;
  Asks = λ map r. cancel-reads.Pre tt (r, (s, tt));
  Step = λ map r n next. cancel-reads.Post tt (r, (s, tt)) (record { next = next; refusal = n }) (r, (s, tt));
}
-- `codwalet_propose(map, r, draw)`
function (propose draw) = proposing draw (λ a. a.refusal) (λ a p. a ≡ flat_proposal p) propose-reads.Pre propose-reads.Post
-- `codwalet_footprint(map, r, draw, mask, table)`
function (footprint draw mask table) = outlining draw mask table outline_means footprint-reads.Pre footprint-reads.Post

same-function : (c : Call) → by-contracts.function c ≡ function c
same-function (grant s g without) = refl
same-function (grant s g (mhz width)) = refl
same-function (cancel s) = refl
same-function (propose draw) = refl
same-function (footprint draw mask table) = refl

abbrev exported : Interface
exported = record { EmptyAsks = empty-reads.Pre tt tt; Empties = λ r. empty-reads.Post tt tt r tt; function = function }

pub same-exported : by-contracts.exported ≡ exported
same-exported i =
    record { EmptyAsks = empty-reads.Pre tt tt; Empties = λ r. empty-reads.Post tt tt r tt; function = λ c. same-function c i }

pub demand-3-by-reads : Demand3 exported
demand-3-by-reads = subst Demand3 same-exported exported-demand-3
