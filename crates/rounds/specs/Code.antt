-- How the code goes about the footprint: what its inner functions ensure. The public contract cites none of this. Assumes nothing.
use Rattle.std.specs.Prelude.{ℕ, ◌+◌, ◌*◌, ◌≤◌, ◌<◌, ◌≡◌, Bool, true, false, cond, not, ◌&&◌, leb, ltb, eqb}
use Rattle.std.specs.Prelude.{List, length, get_or, Option, is_some, Some, None}
use Rattle.lists.specs.Sums.{flag, some_below, sum_below}
use Rattle.lists.specs.Filters.{among}
use Rattle.subset.specs.Marked.{left_out}
use Rattle.ring.specs.Ring.{Places, shown, fits}
use Rattle.rounds.specs.Footprint.{PartArea, places, value, both, ring_of, step, goes_on, last_set, overshoots, last_ring, outer}
use Rattle.rounds.specs.Promises.{area_of, Answer, answer_by}
use Rattle.units.specs.declared.People.{People}
use Rattle.rounds.specs.declared.Reached.{Reached}
use Rattle.rounds.specs.declared.Reached.TheVariants.{Next, LastRing, Share}

-- ---- the limits

-- the sizes of the grid and of what is lent for it
unfoldable pub sizes_fit : (rows columns mask cells people : ℕ) → Bool
sizes_fit rows columns mask cells people =
    fits rows columns mask && fits rows columns cells && leb (rows * columns) people && leb (rows * columns) 65535

-- some of the first n numbers is above a limit
unfoldable pub some_above : (limit : ℕ) → List ℕ → (n : ℕ) → Bool
some_above limit l n = some_below (λ i. ltb limit (get_or l i 0)) n

-- what `in_limits` says of the area and the share, each thing by itself
pub record Limited (rows columns weight share : ℕ) (cells people : List ℕ) : Type 0 where
  pub celled : fits rows columns (length cells) ≡ true
  pub counted : rows * columns ≤ length people
  pub numbered : rows * columns ≤ 65535
  pub heavy : 0 < weight
  pub light : weight ≤ 65535
  pub few : (i : ℕ) → i < rows * columns → get_or people i 0 ≤ 1_000_000
  pub above : 0 < share
  pub below : share < value (area_of rows columns weight cells people) (shown cells)

-- and of the mask
pub record Within (rows columns weight share : ℕ) (mask cells people : List ℕ) : Type 0 where
  pub limits : Limited rows columns weight share cells people
  pub masked : fits rows columns (length mask) ≡ true
  pub plain : (i : ℕ) → i < rows * columns → get_or mask i 0 ≤ 1

-- ---- sums

-- every place below n has a byte and a count of people, within the map's limits
pub record Countable (mask people : List ℕ) (n : ℕ) : Type 0 where
  pub long : n ≤ length mask
  pub counted : n ≤ length people
  pub numbered : n ≤ 65535
  pub few : (i : ℕ) → i < n → get_or people i 0 ≤ 1_000_000

-- the people of the places below n whose byte is the one given
unfoldable pub people_with : (mask people : List ℕ) → (n byte : ℕ) → ℕ
people_with mask people n byte = sum_below (λ i. get_or people i 0) (λ i. eqb (get_or mask i 0) byte) n

-- ---- a round

-- the set whose people a round gives: the next set of a round that is made, else the outer set of a last ring, else the set itself
unfoldable pub reached_set : (made last grow : Bool) → (f b : Places) → Places
reached_set made last grow f b = cond made (step grow f b) (cond last (cond grow (both f b) f) f)

-- a byte after a round, at a place of the ring or not: the ring is settled, or marked if it is the last ring
unfoldable pub round_byte : (made last grow in_ring : Bool) → (byte : ℕ) → ℕ
round_byte made last grow in_ring byte = cond in_ring (cond made (flag grow) (cond last 2 byte)) byte

-- whether a round is made, whether its ring is the last ring, and the people that come with it, or those of the set
abbrev pub made_of : Reached → Bool
made_of (Next p) = true
made_of (LastRing p) = false
made_of Share = false

abbrev pub last_of : Reached → Bool
last_of (Next p) = false
last_of (LastRing p) = true
last_of Share = false

abbrev pub people_in : Reached → (own : ℕ) → ℕ
people_in (Next p) own = p.0
people_in (LastRing p) own = p.0
people_in Share own = own

pub record RoundDone (a : PartArea) (share : ℕ) (grow : Bool) (r : Reached) (mask after : List ℕ) : Type 0 where
  pub made : made_of r ≡ goes_on a share grow (shown mask)
  pub last : last_of r ≡ (not (eqb (value a (shown mask)) share) && not (goes_on a share grow (shown mask)))
  pub people : people_in r (sum_below a.people (shown mask) (places a))
      ≡ sum_below a.people (reached_set (made_of r) (last_of r) grow (shown mask) (ring_of a grow (shown mask))) (places a)
  pub bytes : (i : ℕ) → get_or after i 0 ≡ round_byte (made_of r) (last_of r) grow (ring_of a grow (shown mask) i) (get_or mask i 0)

-- ---- all rounds

-- a byte of the area after the rounds: 2 in the last ring, else 1 in the last set
unfoldable pub last_byte : PartArea → (share : ℕ) → (f : Places) → (i : ℕ) → ℕ
last_byte a share f i = cond (overshoots a share f && last_ring a share f i) 2 (flag (last_set a share f i))

-- the people that come, or 0
abbrev pub people_or : Option People → ℕ
people_or (Some p) = p.0
people_or None = 0

pub record RoundsDone (a : PartArea) (share : ℕ) (r : Option People) (mask after : List ℕ) : Type 0 where
  pub last : is_some r ≡ overshoots a share (shown mask)
  pub people : overshoots a share (shown mask) ≡ true → people_or r ≡ sum_below a.people (outer a share (shown mask)) (places a)
  pub bytes : (i : ℕ) → get_or after i 0 ≡ cond (ltb i (places a)) (last_byte a share (shown mask) i) (get_or mask i 0)

-- ---- after the last ring is marked

-- a byte of the area after the choice: where the table is long enough, 1 at a place of the outer set that is not left out
unfoldable pub rest_byte : (short out : Bool) → (byte : ℕ) → ℕ
rest_byte short out byte = flag (not short && (not (eqb byte 0) && not out))

pub record Finished (people : List ℕ) (n slack : ℕ) (r : Answer) (mask after table entries : List ℕ) : Type 0 where
  pub answer : r ≡ answer_by (slack + 1) (length table)
  pub bytes : (i : ℕ) → get_or after i 0
      ≡ cond (ltb i n) (rest_byte (ltb (length table) (slack + 1)) (among i (left_out mask people n slack)) (get_or mask i 0)) (get_or mask i 0)
  pub unused : (s : ℕ) → (ltb (length table) (slack + 1) ≡ false → slack + 1 ≤ s) → get_or entries s 0 ≡ get_or table s 0
