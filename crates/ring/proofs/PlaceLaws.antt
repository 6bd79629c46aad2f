-- Laws of one place: the places right and left of it. Assumes nothing.
use Prim.Native.Nat.{ℕ, ◌+◌, ◌%◌, ◌<◌}
use mathlib.Core.Path.{◌≡◌, sym, ap, ◌∙◌}
use native.Mathlib.Omega.{arith}
use native.Mathlib.Nat.{mod-add-mod, mod-eq_of_lt, mod_self}
use lib.Dec.{eqb}
use borrow.Author.Tests.{eqb-true, eqb-false, eq-eqb, ne_eqb}
use Rattle.lists.proofs.Tests.{by-test}
use Rattle.ring.specs.Code.{Inside}

-- the place after column c starts a row if that column is the last
pub ends_row : {rows columns row column number : ℕ} → Inside rows columns row column number
    → eqb ((number + 1) % columns) 0 ≡ eqb (column + 1) columns
ends_row {rows} {columns} {row} {column} {number} p =
    let next : (number + 1) % columns ≡ (column + 1) % columns =
    sym (mod-add-mod number columns 1) ∙ ap (λ (k : ℕ). (k + 1) % columns) p.is in
    by-test (eqb (column + 1) columns)
    (λ t.
    let e = eqb-true (column + 1) columns t in
    eq-eqb ((number + 1) % columns) 0 (next ∙ ap (λ (k : ℕ). k % columns) e ∙ mod_self columns) ∙ sym t)
    (λ t.
    let ne = eqb-false (column + 1) columns t in
    let low : column + 1 < columns = omega (arith, p.in_row) in
    let m : (number + 1) % columns ≡ column + 1 = next ∙ mod-eq_of_lt low in
    ne_eqb ((number + 1) % columns) 0 (λ z. let y = sym m ∙ z in absurd (omega arith)) ∙ sym t)
