-- How `play` goes about a list: what its calls are, and what is known of one that was made. Assumes nothing.
use Rattle.std.specs.Prelude.{ℕ, ◌≡◌, Bool, true, false, not, List, eqb, Option, Some, None, Result, Ok, Err}
use Rattle.register.specs.declared.Register.{Register}
use Rattle.ledger.specs.declared.Call.{Call}
use Rattle.ledger.specs.declared.Call.TheVariants.{Grant, Cancel, Propose, Footprint}
use Rattle.demand3.specs.Calls as list
use Rattle.demand3.specs.Calls.{Width, without, mhz, grant, cancel, propose, footprint}
use Rattle.ledger.specs.Engine.{function}
use Rattle.ledger.specs.Played.{Item, call, unknown, mask_left, table_left}

-- the width of a grant
abbrev pub width_means : Option ℕ → Width
width_means None = without
width_means (Some n) = mhz n

-- a call of the code, which is lent the mask and the table
abbrev pub call_means : Call → (mask table : List ℕ) → list.Call
call_means (Grant s g w) mask table = grant s g (width_means w)
call_means (Cancel s) mask table = cancel s
call_means (Propose draw) mask table = propose draw
call_means (Footprint draw) mask table = footprint draw mask table

-- an item, where no call may be
abbrev pub item_means : Option Call → (mask table : List ℕ) → Item
item_means None mask table = unknown
item_means (Some c) mask table = call (call_means c mask table)

-- what a grant or a cancellation leaves of the register, and whether it was refused
abbrev pub took_over : {E : Type 0} → Register → Result Register E → (next : Register) → (refused : Bool) → Type 0
took_over old (Ok register) next refused = (next ≡ register) × (refused ≡ false)
took_over old (Err e) next refused = (next ≡ old) × (refused ≡ true)

-- the mask and the table before and after a call, the register after it, and whether it was refused
pub record Left : Type 0 where
  pub mask : List ℕ
  pub after : List ℕ
  pub table : List ℕ
  pub entries : List ℕ
  pub next : Register
  pub refused : Bool

-- a call was made: its function answered, by its contract, and the mask and the table are as it left them
pub record CallDone (map : List ℕ) (r : Register) (c : list.Call) (l : Left) : Type 0 where
  pub answer : (function c).Answer
  pub steps : (function c).Step map r answer l.next
  pub masks : l.after ≡ mask_left c answer l.mask
  pub tables : l.entries ≡ table_left c answer l.table
  pub refused : l.refused ≡ not (eqb ((function c).number answer) 0)
