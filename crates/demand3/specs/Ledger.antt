-- Document 01, "The list of demand 3": the ledger, fed the calls' arguments and nothing from the register. Assumes nothing.
use Rattle.std.specs.Prelude.{cond, List, [], ◌∷◌, eqb}
use Rattle.register.specs.declared.Licence.{Licence}
use Rattle.register.specs.Licences.{strike}
use Rattle.register.specs.Rules.{grant_rule, cancel_rule}
use Rattle.demand3.specs.Calls.{licence, Call, grant, cancel, propose, footprint}

-- "The list of demand 3": an accepted grant adds its line, with its width (document 02, Paper 4)
abbrev pub granted : List Licence → Licence → List Licence
granted lines l = cond (eqb (grant_rule lines l) 0) (l ∷ lines) lines

-- "The list of demand 3": an accepted cancellation strikes its own line, width and all, and nothing but these two changes a line
abbrev pub lines_after : List Licence → Call → List Licence
lines_after lines (grant s g w) = granted lines (licence s g w)
lines_after lines (cancel s) = cond (eqb (cancel_rule lines s) 0) (strike s lines) lines
lines_after lines (propose draw) = lines
lines_after lines (footprint draw mask table) = lines

-- "The list of demand 3": the lines after a list of calls, from the lines before it
abbrev pub ledger : List Licence → List Call → List Licence
ledger lines [] = lines
ledger lines (c ∷ cs) = ledger (lines_after lines c) cs
