-- Document 02, Paper 4, in lists: where no grant has a width, every line of the ledger is 50 MHz wide, so that proposals are document 01's.
-- Assumes nothing.
use Prim.Native.Nat.{ℕ}
use mathlib.Core.Path.{refl}
use mathlib.Core.List.{List, [], ◌∷◌}
use lib.Dec.{eqb}
use Rattle.lists.specs.Sums.{All}
use Rattle.lists.proofs.Tests.{by-test}
use Rattle.register.specs.declared.Licence.{Licence}
use Rattle.register.specs.Licences.{has_sign, strike}
use Rattle.register.specs.Rules.{grant_rule, cancel_rule}
use Rattle.coverage.specs.FullWidth.{FullWidths}
use Rattle.proposal.proofs.FullWidth.{full-width-proposal}
use Rattle.demand3.specs.Calls.{without, mhz, licence, Call, grant, cancel, propose, footprint}
use Rattle.demand3.specs.Ledger.{lines_after, ledger}
use Rattle.demand3.specs.FullWidth.{WithoutWidth, ListsAsBefore}

full-strike : (s : ℕ) (lines : List Licence) → FullWidths lines → FullWidths (strike s lines)
full-strike s [] h = tt
full-strike s (l ∷ lines) h =
    let later = full-strike s lines h.1 in
    by-test (has_sign s l) (λ t. rw t later) (λ t. rw t (h.0, later))

full-after : (lines : List Licence) (c : Call) → WithoutWidth c → FullWidths lines → FullWidths (lines_after lines c)
full-after lines (grant s g without) w h =
    by-test (eqb (grant_rule lines (licence s g without)) 0) (λ t. rw t (refl, h)) (λ t. rw t h)
full-after lines (grant s g (mhz n)) w h = absurd w
full-after lines (cancel s) w h =
    by-test (eqb (cancel_rule lines s) 0) (λ t. rw t (full-strike s lines h)) (λ t. rw t h)
full-after lines (propose draw) w h = h
full-after lines (footprint draw mask table) w h = h

full-lines : (lines : List Licence) (cs : List Call) → All WithoutWidth cs → FullWidths lines → FullWidths (ledger lines cs)
full-lines lines [] w h = h
full-lines lines (c ∷ cs) w h = full-lines (lines_after lines c) cs w.1 (full-after lines c w.0 h)

pub lists-as-before : ListsAsBefore
lists-as-before cs w map areas end q = full-width-proposal (ledger [] cs) map areas end q (full-lines [] cs w tt)
