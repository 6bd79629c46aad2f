-- What the answers of `footprint` mean, and what it ensures of its answer, its mask and its table. Assumes nothing.
use Rattle.std.specs.Prelude.{ℕ, ◌≡◌, Result, Ok, Err, List, map, ◌++◌, length, drop, replicate}
use Rattle.lists.specs.Sums.{flag}
use Rattle.lists.specs.Filters.{up_to}
use Rattle.map.specs.Answers.{fault_number}
use Rattle.footprint.specs.declared.FootprintRefusal.{FootprintRefusal}
use Rattle.footprint.specs.declared.FootprintRefusal.TheVariants.{Map, TooMany, NotOnePart, MaskShort, TableShort}
use Rattle.footprint.specs.Footprint.{Footprint, refused, short, made}

-- "A number comes only where its condition holds, and alone but for the count at 8": the number of the refusal or 0, the count of
-- entries needed or 0, and the area's number or 0
pub record Reply : Type 0 where
  pub refused : ℕ
  pub needed : ℕ
  pub area : ℕ

abbrev pub reply : (number needed area : ℕ) → Reply
reply number needed area = record { refused = number; needed = needed; area = area }

abbrev pub reply_of : Footprint → Reply
reply_of (refused n) = reply n 0 0
reply_of (short places needed) = reply 8 needed 0
reply_of (made number places used cells) = reply 0 0 number

-- the number of a refusal, and the count of entries that a table lacks
abbrev pub refusal_number : FootprintRefusal → ℕ
refusal_number (Map f) = fault_number f
refusal_number TooMany = 12
refusal_number NotOnePart = 13
refusal_number MaskShort = 7
refusal_number (TableShort needed) = 8

abbrev pub needed_by : FootprintRefusal → ℕ
needed_by (Map f) = 0
needed_by TooMany = 0
needed_by NotOnePart = 0
needed_by MaskShort = 0
needed_by (TableShort needed) = needed

-- the code's answer
abbrev pub means : Result ℕ FootprintRefusal → Reply
means (Ok number) = reply 0 0 number
means (Err r) = reply (refusal_number r) (needed_by r) 0

-- "a mask of rows × columns bytes, 1 in the footprint, else 0 .. and bytes past the area stay"; at 8 "the area's mask bytes are 0";
-- "Buffers are untouched, save the mask at 8"
abbrev pub mask_after : Footprint → List ℕ → List ℕ
mask_after (refused n) mask = mask
mask_after (short places needed) mask = replicate places 0 ++ drop places mask
mask_after (made number places used cells) mask = map (λ i. flag (cells i)) (up_to places) ++ drop places mask

-- "a lent table of u16 with slack + 1 entries, or none if there is no last ring. These entries may hold anything afterwards"
abbrev pub used_by : Footprint → ℕ
used_by (refused n) = 0
used_by (short places needed) = 0
used_by (made number places used cells) = used

-- "What a contract pins": the answer and every byte of the mask are those of the definitions; the table keeps its length, and only its
-- used entries are left free
pub record Leaves (o : Footprint) (r : Reply) (mask after table entries : List ℕ) : Type 0 where
  pub answer : r ≡ reply_of o
  pub bytes : after ≡ mask_after o mask
  pub size : length entries ≡ length table
  pub unused : drop (used_by o) entries ≡ drop (used_by o) table

-- the same of the code's answer
abbrev pub FootprintDone : (o : Footprint) (r : Result ℕ FootprintRefusal) (mask after table entries : List ℕ) → Type 0
FootprintDone o r mask after table entries = Leaves o (means r) mask after table entries
