-- Laws of a pass that marks places one after another, and of the ring that passes mark. Assumes nothing.
use Prim.Native.Nat.{ℕ, ◌+◌, ◌-◌, ◌*◌, ◌≤◌, ◌<◌}
use mathlib.Core.Path.{◌≡◌, refl, sym, ap, ◌∙◌}
use mathlib.Core.Bool.{Bool, true, false, not, ◌||◌, or-true, or-false}
use mathlib.Core.List.{List}
use native.Mathlib.Omega.{arith}
use native.Mathlib.Nat.{zero-mul, one-mul, mul-le-mul_right, mul-add-mod_self_right, mod-eq_of_lt}
use native.Mathlib.Numerals.{add-one}
use lib.ListN.{length, get_or, set, take, drop}
use borrow.Rule.Slice.PartMut.{put_mid}
use lib.Dec.{ltb}
use borrow.Author.Tests.{ltb-true, ltb-false, le-ltb}
use Rattle.std.proofs.lemmas.List.{get_or_past}
use Rattle.lists.specs.Sums.{some_below}
use Rattle.lists.proofs.Tests.{by-test}
use Rattle.lists.proofs.BelowLaws.{none_below, some_same, some-add}
use Rattle.lists.proofs.InPlace.{Rewritten, starts, turns, skips, ends, row-turns, row_ends}
use Rattle.ring.specs.Ring.{Places, around, outside, edge, ring, shown, seen, marked, fits}
use Rattle.ring.specs.declared.Pass.{Pass}
use Rattle.ring.specs.declared.Pass.TheVariants.{Around, Outside, Edge}
use Rattle.ring.specs.Code.{grows, to_mark, Inside}
use Rattle.ring.proofs.RingLaws.{Sizes, fits_in, few-places, outside-in, around-in, edge_in}

-- ---- the places that a pass marks

-- they are outside the set growing, and in it shrinking
mark-in : (pass : Pass) (cells f : Places) (n columns i : ℕ) → to_mark pass cells f n columns i ≡ true → f i ≡ not (grows pass)
unfolding to_mark
mark-in Around cells f n columns i h = (around-in cells f n columns i h).out
mark-in Outside cells f n columns i h = (outside-in cells f n i h).out
mark-in Edge cells f n columns i h = (edge_in cells f n columns i h).1

-- they are places of the grid
pub mark-past : (pass : Pass) (cells f : Places) (n columns i : ℕ) → n ≤ i → to_mark pass cells f n columns i ≡ false
unfolding to_mark around outside edge
mark-past Around cells f n columns i h = rw (le-ltb i n h)
mark-past Outside cells f n columns i h = rw (le-ltb i n h)
mark-past Edge cells f n columns i h = rw (le-ltb i n h)

-- ---- bytes that are marked from the front

-- the bytes below place i are marked, and whether any was is told
pub record Marks (places : Places) (before now : List ℕ) (any : Bool) (i : ℕ) : Type 0 where
  pub written : Rewritten (λ j b. marked (places j) b) before now i
  pub told : any ≡ some_below places i

module _ (places : Places) where
  pub marks-start : (l : List ℕ) → Marks places l l false 0
  unfolding some_below
  marks-start l = record { written = starts (λ j b. marked (places j) b) l; told = refl }

  module _ {before now : List ℕ} {any : Bool} {i : ℕ} (m : Marks places before now any i) where
    -- the byte at place i is marked, or stays
    pub marks-yes : i < length before → places i ≡ true → Marks places before (set now i 2) true (i + 1)
    unfolding some_below
    marks-yes h p = record {
      written = turns m.written h (rw p);
      told = rw (add-one i, p) (sym (or-true (some_below places i)));
    }

    pub marks-no : places i ≡ false → Marks places before now any (i + 1)
    unfolding some_below
    marks-no p = record {
      written = skips m.written (rw p);
      told = rw (add-one i, p) (m.told ∙ sym (or-false (some_below places i)));
    }

    -- no place from n on is marked
    pub marks-end : (n : ℕ) → i ≡ n → ((j : ℕ) → n ≤ j → places j ≡ false)
        → (any ≡ some_below places n) × ((j : ℕ) → get_or now j 0 ≡ marked (places j) (get_or before j 0))
    marks-end n e past = (
      m.told ∙ ap (some_below places) e,
      ends m.written n (omega arith) (λ j b h. ap (λ (t : Bool). marked t b) (past j h)),
    )

-- ---- the set while it is marked

-- a mark is outside the set growing, and in it shrinking
seen-mark : (grow : Bool) (now : List ℕ) (j : ℕ) → get_or now j 0 ≡ 2 → seen grow now j ≡ not grow
unfolding seen
seen-mark true now j e = rw e
seen-mark false now j e = rw e

seen-byte : (grow : Bool) (now before : List ℕ) (j : ℕ) → get_or now j 0 ≡ get_or before j 0 → seen grow now j ≡ seen grow before j
unfolding seen
seen-byte true now before j e = rw e
seen-byte false now before j e = rw e

-- the places of a pass over the mask, of which those below place i are marked
abbrev pub Passed : Pass → (cells before now : List ℕ) → (rows columns : ℕ) → (any : Bool) → (i : ℕ) → Type 0
Passed pass cells before now rows columns any i =
    Marks (to_mark pass (shown cells) (seen (grows pass) before) (rows * columns) columns) before now any i

module _ (pass : Pass) (cells : Places) (n columns : ℕ) {before now : List ℕ} {i : ℕ}
    (w : Rewritten (λ j b. marked (to_mark pass cells (seen (grows pass) before) n columns j) b) before now i) where
  -- the mask shows the same set, whatever part of the ring is marked
  seen_same : (j : ℕ) → seen (grows pass) now j ≡ seen (grows pass) before j
  seen_same j =
      let t = to_mark pass cells (seen (grows pass) before) n columns j in
      by-test (ltb j i)
      (λ low.
      let d : get_or now j 0 ≡ marked t (get_or before j 0) = w.done j (ltb-true j i low) in
      by-test t
      (λ e. seen-mark (grows pass) now j (d ∙ ap (λ (b : Bool). marked b (get_or before j 0)) e)
      ∙ sym (mark-in pass cells (seen (grows pass) before) n columns j e))
      (λ e. seen-byte (grows pass) now before j (d ∙ ap (λ (b : Bool). marked b (get_or before j 0)) e)))
      (λ past. seen-byte (grows pass) now before j (w.rest j (ltb-false j i past)))

  mark-same : (j : ℕ) → to_mark pass cells (seen (grows pass) now) n columns j ≡ to_mark pass cells (seen (grows pass) before) n columns j
  mark-same j = ap (λ (f : Places). to_mark pass cells f n columns j) (λ k p. seen_same p k)

-- ---- the rows

-- the row from place r * columns on lies in the mask
row-room : (rows columns r : ℕ) {bytes : ℕ} → rows * columns ≤ bytes → r < rows → r * columns + columns ≤ bytes
row-room rows columns r long h = omega (arith, (row_ends r rows columns (r * columns) refl h).0)

-- as it does where the grid fits, whose columns and starts of rows are few
pub row_fits : (rows columns r bytes : ℕ) → fits rows columns bytes ≡ true → r < rows
    → (r * columns + columns ≤ bytes) × (r * columns ≤ 65536) × (columns ≤ 256)
row_fits rows columns r bytes e h =
    let s = fits_in rows columns bytes e in
    let room = row-room rows columns r s.long h in
    let few = row-room rows columns r (few-places rows columns bytes s) h in
    (room, omega arith, s.narrow)

-- it is rewritten by a callee that is lent the part from there on
row-next : {f : ℕ → ℕ → ℕ} {before now : List ℕ} (rows columns r : ℕ) → Rewritten f before now (r * columns)
    → rows * columns ≤ length before → r < rows → (g : ℕ → ℕ → ℕ) (part : List ℕ)
    → length part ≡ length (take (length now - r * columns) (drop (r * columns) now))
    → ((j : ℕ) → get_or part j 0 ≡ g j (get_or (take (length now - r * columns) (drop (r * columns) now)) j 0))
    → ((j b : ℕ) → j < columns → g j b ≡ f (r * columns + j) b) → ((j b : ℕ) → columns ≤ j → g j b ≡ b)
    → Rewritten f before (put_mid (r * columns) (length now - r * columns) now part) ((r + 1) * columns)
row-next rows columns r w long h g part kept put inside past =
    rw (row_ends r rows columns (r * columns) refl h).1 at
    (row-turns w g part columns (row-room rows columns r long h) kept put inside past)

-- one more row is turned, by a callee that turns byte i of n to what `to` makes of it, and no byte past them
pub row-turned : (turn : (n i b : ℕ) → ℕ) (to : ℕ → ℕ)
    → ((n i b : ℕ) → i < n → turn n i b ≡ to b) → ((n i b : ℕ) → n ≤ i → turn n i b ≡ b)
    → {before now : List ℕ} (rows columns r : ℕ) → fits rows columns (length before) ≡ true → r < rows
    → Rewritten (turn (rows * columns)) before now (r * columns) → (part : List ℕ)
    → length part ≡ length (take (length now - r * columns) (drop (r * columns) now))
    → ((j : ℕ) → get_or part j 0 ≡ turn columns j (get_or (take (length now - r * columns) (drop (r * columns) now)) j 0))
    → Rewritten (turn (rows * columns)) before (put_mid (r * columns) (length now - r * columns) now part) ((r + 1) * columns)
row-turned turn to inside past {before} rows columns r e h w part kept put =
    let low = row-room rows columns r {bytes = rows * columns} (omega arith) h in
    row-next rows columns r w (fits_in rows columns (length before) e).long h (turn columns) part kept put
    (λ j b l. inside columns j b l ∙ sym (inside (rows * columns) (r * columns + j) b (omega arith)))
    (λ j b l. past columns j b l)

module _ (pass : Pass) (cells : List ℕ) (rows columns : ℕ) {before now : List ℕ} {any : Bool} {r : ℕ}
    (p : Passed pass cells before now rows columns any (r * columns)) where
  -- a row is marked by a callee that is lent the part from its start on
  pub pass-row : rows * columns ≤ length before → r < rows → (marks : List Bool) (part : List ℕ) {some next : Bool}
      → length marks ≡ columns
      → ((c : ℕ) → c < columns
      → get_or marks c false ≡ to_mark pass (shown cells) (seen (grows pass) now) (rows * columns) columns (r * columns + c))
      → length part ≡ length (take (length now - r * columns) (drop (r * columns) now))
      → ((c : ℕ) → get_or part c 0 ≡ marked (get_or marks c false) (get_or (take (length now - r * columns) (drop (r * columns) now)) c 0))
      → some ≡ some_below (λ c. get_or marks c false) (length marks) → next ≡ any || some
      → Passed pass cells before (put_mid (r * columns) (length now - r * columns) now part) rows columns next ((r + 1) * columns)
  pass-row long h marks part {some} {next} wide read kept put told n =
      let places = to_mark pass (shown cells) (seen (grows pass) before) (rows * columns) columns in
      let same : (c : ℕ) → c < columns → get_or marks c false ≡ places (r * columns + c) = λ c l.
      read c l ∙ mark-same pass (shown cells) (rows * columns) columns p.written (r * columns + c) in
      record {
        written = row-next rows columns r p.written long h (λ c b. marked (get_or marks c false) b) part kept put
            (λ c b l. ap (λ (t : Bool). marked t b) (same c l))
            (λ c b l. ap (λ (t : Bool). marked t b) (get_or_past marks c false (omega arith)));
        told = n ∙ (λ i. p.told i || (told ∙ ap (some_below (λ c. get_or marks c false)) wide
            ∙ some_same (λ c. get_or marks c false) (λ c. places (r * columns + c)) columns same) i)
            ∙ sym (some-add places (r * columns) columns)
            ∙ ap (some_below places) (row_ends r rows columns (r * columns) refl h).1;
      }

-- ---- a place of a grid

-- column c of row r
pub inside_of : (rows columns bytes r c : ℕ) → Sizes rows columns bytes → r < rows → c < columns
    → Inside rows columns r c (r * columns + c)
inside_of rows columns bytes r c s low h =
    let room = (row_ends r rows columns (r * columns) refl low).0 in
    record {
      low = omega arith;
      is = mul-add-mod_self_right r columns c ∙ mod-eq_of_lt h;
      in_grid = low;
      in_row = h;
      narrow = s.narrow;
      few = few-places rows columns bytes s;
      first = λ e. rw (e, zero-mul columns) (omega (arith, h));
      later = λ n. let one : 1 ≤ r = omega arith in omega (arith, mul-le-mul_right columns one, one-mul columns);
      last = λ e. omega (arith, (row_ends r rows columns (r * columns) refl low).1, ap (λ (k : ℕ). k * columns) e);
      earlier = λ n.
          let next : r + 1 < rows = omega arith in
          let e = row_ends (r + 1) rows columns ((r + 1) * columns) refl next in
          omega (arith, e.0, (row_ends r rows columns (r * columns) refl low).1);
      next = λ n. omega arith;
    }

-- ---- the ring

-- a pass that marks nothing leaves the mask
unmarked : (n : ℕ) (places : Places) (before now : List ℕ) → some_below places n ≡ false → ((j : ℕ) → n ≤ j → places j ≡ false)
    → ((j : ℕ) → get_or now j 0 ≡ marked (places j) (get_or before j 0)) → (j : ℕ) → get_or now j 0 ≡ get_or before j 0
unmarked n places before now none past e j =
    let no = by-test (ltb j n) (λ t. none_below places n none j (ltb-true j n t)) (λ t. past j (ltb-false j n t)) in
    e j ∙ ap (λ (t : Bool). marked t (get_or before j 0)) no

ring_outside : (cells f : Places) (n columns i : ℕ) → some_below (to_mark Around cells f n columns) n ≡ false
    → to_mark Outside cells f n columns i ≡ ring true cells f n columns i
unfolding to_mark ring
ring_outside cells f n columns i none = rw none

-- growing, no cell neighbours the set: after the first pass, the second marks all cells outside it
pub ring_second : (cells : Places) (n columns : ℕ) (before now last : List ℕ)
    → ((j : ℕ) → get_or now j 0 ≡ marked (to_mark Around cells (seen true before) n columns j) (get_or before j 0))
    → some_below (to_mark Around cells (seen true before) n columns) n ≡ false
    → ((j : ℕ) → get_or last j 0 ≡ marked (to_mark Outside cells (seen true now) n columns j) (get_or now j 0))
    → (j : ℕ) → get_or last j 0 ≡ marked (ring true cells (seen true before) n columns j) (get_or before j 0)
ring_second cells n columns before now last first none second j =
    let f = seen true before in
    let same = unmarked n (to_mark Around cells f n columns) before now none (mark-past Around cells f n columns) first in
    let set : seen true now ≡ f = λ k p. seen-byte true now before p (same p) k in
    second j
    ∙ ap (λ (b : ℕ). marked (to_mark Outside cells (seen true now) n columns j) b) (same j)
    ∙ ap (λ (q : Places). marked (to_mark Outside cells q n columns j) (get_or before j 0)) set
    ∙ ap (λ (t : Bool). marked t (get_or before j 0)) (ring_outside cells f n columns j none)
