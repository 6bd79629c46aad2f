-- `map::fields::number_at`: the bytes stand before zeros. Assumes nothing.
use Rattle.std.proofs.Common.{◌≡◌, ℕ, ◌+◌, ◌-◌, take, drop, ap, ◌∙◌, arith}
use Rattle.map.proofs.FieldLaws.{number_of_bytes}
use Rattle.map.proofs.fields.number_at.Goals as goal

pub returns : goal.returns
returns g c =
    let a = c.args in
    let n : a.at + g.row.N - a.at ≡ g.row.N = omega arith in
    c.from_le_bytes.ensures
    ∙ number_of_bytes a.s.now a.at g.row.N c.requires.few c.requires.room _
    (c.copy_from_slice.ensures.after ∙ ap (λ (k : ℕ). take k (drop a.at a.s.now)) n)
