-- `abi::given_to`: what each area is given. Assumes nothing.
use Rattle.std.proofs.Common.{arith, rules}
use Rattle.proposal.specs.Promises.{blank}
use Rattle.abi.proofs.FlatLaws.{each-given}
use Rattle.abi.proofs.given_to.Goals as goal

pub returns : goal.returns
returns c =
    each-given c.args.areas (omega arith)
    (λ k d l. let t = (c.map.ensures.items.at k blank d (omega arith)).2 in search rules)
