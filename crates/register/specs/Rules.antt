-- Document 01, "The list of demand 3": what a grant and a cancellation answer, by the licences in force alone. Assumes nothing.
use Rattle.std.specs.Prelude.{ℕ, cond, not, List, leb, length}
use Rattle.register.specs.declared.Licence.{Licence}
use Rattle.register.specs.declared.GrantRefusal.{GrantRefusal}
use Rattle.register.specs.declared.GrantRefusal.TheVariants.{IllFormed, InForce, Full}
use Rattle.register.specs.declared.NotInForce.{NotInForce}
use Rattle.register.specs.Licences.{well_formed, held}

-- "Refused by the input" and "Refused by the state": the number of each refusal of a grant
abbrev pub grant_number : GrantRefusal → ℕ
grant_number IllFormed = 6
grant_number InForce = 9
grant_number Full = 10

-- "Refused by the state": the number of the refusal of a cancellation
abbrev pub cancel_number : NotInForce → ℕ
cancel_number _ = 11

-- "The register": its limit
abbrev pub limit : ℕ
limit = 64

-- "The list of demand 3", grant: 6 if ill formed; else 9 if a line has the call sign; else 10 if there are 64 lines; else accepted
unfoldable pub grant_rule : List Licence → Licence → ℕ
grant_rule lines l =
    cond (not (well_formed l)) 6
    (cond (held l.call_sign lines) 9
    (cond (leb limit (length lines)) 10 0))

-- "The list of demand 3", cancellation: 11 if no line has the call sign; else accepted
unfoldable pub cancel_rule : List Licence → ℕ → ℕ
cancel_rule lines s = cond (not (held s lines)) 11 0
