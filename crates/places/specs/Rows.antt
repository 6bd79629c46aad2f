-- What the functions under `lay_out` lay: one place, one row. Assumes nothing.
use Rattle.std.specs.Prelude.{ℕ, ◌≡◌, List, ℤ, get_or}
use Rattle.lists.specs.Sums.{flag}
use Rattle.map.specs.Reading.{Read, bad, good}
use Rattle.map.specs.Format.{Place, gap, people_at}
use Rattle.places.specs.Places.{is_cell, is_covered, Lists, PlacesLaid}
use Rattle.places.specs.declared.Shown.{Shown}

-- what is laid for a place that was read
pub record Shows (p : Place) (always : ℕ) (edges : List ℤ) (x : Shown) : Type 0 where
  pub people : x.people ≡ people_at p
  pub cell : x.cell ≡ flag (is_cell p)
  pub covered : x.covered ≡ flag (is_covered always edges p)

abbrev pub PlaceShown : Read Place → (always : ℕ) → (edges : List ℤ) → Shown × ℕ → Type 0
PlaceShown (bad f) always edges x = Unit {0}
PlaceShown (good p e) always edges x = Shows p always edges x.0 × (x.1 ≡ e)

-- a row that was read is laid, and the position after it is handed back
abbrev pub RowLaid : Read (List Place) → (columns always : ℕ) → (edges : List ℤ) → (before after : Lists) → (next : ℕ) → Type 0
RowLaid (bad f) columns always edges before after next = Unit {0}
RowLaid (good row e) columns always edges before after next =
    PlacesLaid (λ j. get_or row j gap) columns always edges before after × (next ≡ e)
