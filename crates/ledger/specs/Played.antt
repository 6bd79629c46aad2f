-- Document 01, "The list of demand 3": the list of calls that the words lent to `play` say, and what `play` ensures. Assumes nothing.
use Rattle.std.specs.Prelude.{ℕ, ◌+◌, ◌*◌, ◌/◌, ◌%◌, ◌≤◌, ◌<◌, ◌≡◌, cond, not, List, [], ◌∷◌, eqb, length, get_or}
use Rattle.lists.specs.Sums.{total, flag}
use Rattle.map.specs.Format.{signed32}
use Rattle.register.specs.declared.Ground.{Ground}
use Rattle.register.specs.declared.Ground.TheVariants as ground
use Rattle.register.specs.declared.Register.{Register}
use Rattle.ledger.specs.declared.Played.{Played}
use Rattle.demand3.specs.Calls.{without, mhz, Call, grant, cancel, propose, footprint}
use Rattle.demand3.specs.Ledger.{ledger}
use Rattle.demand3.specs.Interface.{calls, number_of, Run}
use Rattle.demand3.specs.Right.{Holds, ListClaim}
use Rattle.ledger.specs.Engine.{function, engine, Made}

-- "The register": the ground in the eight words of a grant at a position. The third is 0 and the fourth is an area's number, by its low
-- 16 bits; or the last four are the edges of a box, each the two's complement of an i32
unfoldable pub ground_at : (words : List ℕ) (at : ℕ) → Ground
ground_at words at =
    cond (eqb (get_or words (at + 2) 0) 0)
    (ground.Area (get_or words (at + 3) 0 % 65536))
    (ground.Box (record {
      south = signed32 (get_or words (at + 4) 0);
      north = signed32 (get_or words (at + 5) 0);
      west = signed32 (get_or words (at + 6) 0);
      east = signed32 (get_or words (at + 7) 0);
    }))

-- document 02, Paper 4: "its width in MHz", in the eight words of a grant with a width at a position: the fourth, above its low 16 bits
abbrev pub width_at : (words : List ℕ) (at : ℕ) → ℕ
width_at words at = get_or words (at + 3) 0 / 65536

-- an item of the list, which is eight words: a call, or none, where its first word is no call's kind
pub data Item : Type 0 where
  call : (c : Call) → Item
  unknown : Item

-- "The list of demand 3": the item at a position, by its first word; a footprint is lent the mask and the table
unfoldable pub item_at : (words : List ℕ) (at : ℕ) (mask table : List ℕ) → Item
item_at words at mask table =
    cond (eqb (get_or words at 0) 0) (call (grant (get_or words (at + 1) 0) (ground_at words at) without))
    (cond (eqb (get_or words at 0) 1) (call (cancel (get_or words (at + 1) 0)))
    (cond (eqb (get_or words at 0) 2) (call (propose (get_or words (at + 1) 0)))
    (cond (eqb (get_or words at 0) 3) (call (footprint (get_or words (at + 1) 0) mask table))
    (cond (eqb (get_or words at 0) 4) (call (grant (get_or words (at + 1) 0) (ground_at words at) (mhz (width_at words at))))
    unknown))))

-- the mask that a call leaves: a footprint's answer has it, and any other call leaves it as it was
abbrev pub mask_left : (c : Call) → (function c).Answer → List ℕ → List ℕ
mask_left (grant s g w) a mask = mask
mask_left (cancel s) a mask = mask
mask_left (propose draw) a mask = mask
mask_left (footprint draw lent entries) a mask = a.mask

-- the table that a call leaves
abbrev pub table_left : (c : Call) → (function c).Answer → List ℕ → List ℕ
table_left (grant s g w) a table = table
table_left (cancel s) a table = table
table_left (propose draw) a table = table
table_left (footprint draw lent entries) a table = a.table

-- the mask and the table that a list of calls leaves
abbrev pub masks_left : List Made → List ℕ → List ℕ
masks_left [] mask = mask
masks_left (m ∷ made) mask = masks_left made (mask_left m.call m.answer mask)

abbrev pub tables_left : List Made → List ℕ → List ℕ
tables_left [] table = table
tables_left (m ∷ made) table = tables_left made (table_left m.call m.answer table)

-- "The list of demand 3": calls that were made follow the words from a position: each is the call of its eight words, and is lent the mask
-- and the table as the calls before it left them
abbrev pub Follows : (words : List ℕ) (at : ℕ) (mask table : List ℕ) → List Made → Type 0
Follows words at mask table [] = Unit {0}
Follows words at mask table (m ∷ made) =
    (item_at words at mask table ≡ call m.call)
    × Follows words (at + 8) (mask_left m.call m.answer mask) (table_left m.call m.answer table) made

-- "Refused by the input", "Refused by the state": how many calls of a list were refused
abbrev pub refusals : List Made → ℕ
refusals = total (λ m. flag (not (eqb (number_of m) 0)))

-- "The list of demand 3": what `play` ensures of the words, of the mask and the table before and after, and of its answer
pub record PlayDone (map words mask after table entries : List ℕ) (r : Played) : Type 0 where
  -- the calls that were made, with what each answered: a run over the bytes of the map, from an empty register to the one that is handed
  -- back. So each answer keeps its function's own contract, also over bytes that 1 to 5 refuse
  pub made : List Made
  pub first : Register
  pub empty : engine.Empties first
  pub run : Run engine map first made r.register
  -- they are the calls that the words say, in their order, up to the first item that is no call
  pub within : length made ≤ length words / 8
  pub follows : Follows words 0 mask table made
  pub ends : length made < length words / 8 → item_at words (8 * length made) after entries ≡ unknown
  -- the mask and the table come back as the last call left them
  pub masks : after ≡ masks_left made mask
  pub tables : entries ≡ tables_left made table
  pub counted : r.calls ≡ length made
  pub refused : r.refused ≡ refusals made
  -- demand 3 holds of this list, and the register holds the ledger's lines after the last call
  pub claim : ListClaim run
  pub register : Holds r.register (ledger [] (calls made))
