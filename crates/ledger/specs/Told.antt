-- What a list that is played comes to by document 01's definitions alone, over any bytes read as a map. Everything here computes; that
-- `play` comes to nothing else is `play-pinned` (proofs/ToldLaws). Assumes nothing.
use Rattle.std.specs.Prelude.{ℕ, zero, suc, ◌+◌, ◌/◌, not, List, [], eqb, length}
use Rattle.lists.specs.Sums.{flag}
use Rattle.map.specs.Reading.{Read}
use Rattle.map.specs.Format.{Area}
use Rattle.register.specs.declared.Licence.{Licence}
use Rattle.register.specs.Rules.{grant_rule, cancel_rule}
use Rattle.proposal.specs.Answer.{proposal_on}
use Rattle.footprint.specs.Footprint.{footprint_on}
use Rattle.footprint.specs.Promises.{reply_of, mask_after}
use Rattle.demand3.specs.Calls.{licence, Call, grant, cancel, propose, footprint}
use Rattle.demand3.specs.Ledger.{lines_after}
use Rattle.ledger.specs.Played.{Item, call, unknown, item_at}

-- how many calls are made, how many of them are refused, the mask that they leave, and the ledger's lines after them
pub record Told : Type 0 where
  pub calls : ℕ
  pub refused : ℕ
  pub mask : List ℕ
  pub lines : List Licence

-- the number of what document 01 defines for a call by the ledger's lines, 0 where nothing is refused
abbrev pub number_by : Read (List Area) → List Licence → Call → ℕ
number_by m lines (grant s g w) = grant_rule lines (licence s g w)
number_by m lines (cancel s) = cancel_rule lines s
number_by m lines (propose draw) = (proposal_on m lines draw).refused
number_by m lines (footprint draw mask table) = (reply_of (footprint_on m lines draw (length mask) (length table))).refused

-- the mask that the call leaves: only a footprint writes it
abbrev pub mask_by : Read (List Area) → List Licence → Call → List ℕ → List ℕ
mask_by m lines (grant s g w) mask = mask
mask_by m lines (cancel s) mask = mask
mask_by m lines (propose draw) mask = mask
mask_by m lines (footprint draw lent table) mask = mask_after (footprint_on m lines draw (length lent) (length table)) lent

-- no call is made
abbrev pub none_told : List ℕ → List Licence → Told
none_told mask lines = record { calls = 0; refused = 0; mask = mask; lines = lines }

-- a call with some number is made, and then what is told
abbrev pub one_more : (number : ℕ) → Told → Told
one_more n t = record { calls = suc t.calls; refused = flag (not (eqb n 0)) + t.refused; mask = t.mask; lines = t.lines }

-- an item, and what its call comes to with those after it
abbrev pub item_told : Read (List Area) → List ℕ → List Licence → Item → (later : Call → Told) → Told
item_told m mask lines (call c) later = one_more (number_by m lines c) (later c)
item_told m mask lines unknown later = none_told mask lines

-- n items of the words from a position on. A table counts by its length alone, which no call changes
abbrev pub told_from : Read (List Area) → (words : List ℕ) (n at : ℕ) (mask table : List ℕ) → List Licence → Told
told_from m words zero at mask table lines = none_told mask lines
told_from m words (suc n) at mask table lines = item_told m mask lines (item_at words at mask table)
    (λ c. told_from m words n (at + 8) (mask_by m lines c mask) table (lines_after lines c))

-- "The list of demand 3": all items of the words, from an empty ledger
abbrev pub told : Read (List Area) → (words mask table : List ℕ) → Told
told m words mask table = told_from m words (length words / 8) 0 mask table []
