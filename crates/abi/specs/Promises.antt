-- What the functions of the C interface ensure, in terms of the definitions of the crates below. Assumes nothing.
use Rattle.std.specs.Prelude.{ℕ, ◌≡◌, List, take, drop}
use Rattle.map.specs.Format.{read_map}
use Rattle.map.specs.Answers.{look_up, part_of}
use Rattle.footprint.specs.Footprint.{Footprint}
use Rattle.footprint.specs.Promises.{Leaves}
use Rattle.abi.specs.declared.FoundArea.{FoundArea}
use Rattle.abi.specs.declared.Outline.{Outline}
use Rattle.abi.specs.Flat.{flat_found, outline_means}

-- "When an area is looked up by its number": the area's numbers, and `length` bytes from `offset` on are the part that holds its rows
pub record FoundDone (bytes : List ℕ) (number : ℕ) (r : FoundArea) : Type 0 where
  pub answer : r ≡ flat_found (look_up number (read_map bytes))
  pub part : take r.length (drop r.offset bytes) ≡ part_of bytes number (read_map bytes)

-- "The footprint": the answer and what is left of the mask and the table are those of the engine's footprint
abbrev pub OutlineDone : (o : Footprint) (r : Outline) (mask after table entries : List ℕ) → Type 0
OutlineDone o r mask after table entries = Leaves o (outline_means r) mask after table entries
