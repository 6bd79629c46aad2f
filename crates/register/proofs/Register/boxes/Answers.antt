-- `register::Register::boxes` meets its contract: by what the three parts hand out. Assumes nothing.
use Rattle.std.proofs.Common.{◌≡◌, length, refl, arith}
use Rattle.register.specs.Rules.{limit}
use Rattle.register.proofs.GroundLaws.{last-box}
use Rattle.register.proofs.Register.boxes.Goals as goal

pub returns : goal.returns
returns c =
    let ps = c.args.self.places in
    let last = c.last_box in
    let n : length ps ≡ limit = omega arith in
    let few = last.ensures.few in
    record {
      counts = record { last = last.result; found = last-box ps last.result n few last.ensures.last; padded = refl; few = omega arith };
      edges = c.edges.ensures;
      widths = c.widths.ensures;
    }
