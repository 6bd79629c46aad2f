-- Laws of a round and of all rounds in the mask. Assumes nothing.
use Prim.Native.Nat.{ℕ, zero, suc, ◌+◌, ◌-◌, ◌*◌, ◌≤◌, ◌<◌}
use mathlib.Core.Path.{◌≡◌, refl, sym, ap, ◌∙◌, fun_ext}
use mathlib.Core.Bool.{Bool, true, false, cond, not, ◌&&◌, ◌||◌, and-true, and-false, or-true, or-false}
use mathlib.Core.List.{List}
use native.Mathlib.Omega.{arith}
use native.Mathlib.Nat.{mul-mod_left}
use lib.Dec.{ltb, eqb}
use lib.ListN.{length, get_or}
use borrow.Author.Tests.{ltb-true, ltb-false, eq-eqb, ne_eqb}
use Rattle.lists.specs.Sums.{flag, sum_below}
use Rattle.lists.proofs.Tests.{by-test, not-both}
use Rattle.lists.proofs.BelowLaws.{sum-test, sum-split}
use Rattle.ring.specs.Ring.{Places, ring, shown, seen, fits, marked, settled}
use Rattle.ring.proofs.RingLaws.{ring_in, ring-below, ring-same, seen_plain}
use Rattle.rounds.specs.Footprint.{PartArea, places, value, both, ring_of, step, in_share, goes_on, rounds, growing, last_set, overshoots}
use Rattle.rounds.specs.Footprint.{last_ring, outer}
use Rattle.rounds.specs.Promises.{area_of}
use Rattle.rounds.specs.Code.{Within, reached_set, round_byte, made_of, last_of, people_in, RoundDone, last_byte, RoundsDone}
use Rattle.std.specs.Prelude.{Some, None}
use Rattle.units.specs.declared.People.{People}
use Rattle.rounds.specs.declared.Reached.{Reached}
use Rattle.rounds.specs.declared.Reached.TheVariants.{Next, LastRing, Share}
use Rattle.rounds.proofs.Rounds.{remaining, remaining-most, falls}
use Rattle.rounds.proofs.Theorems.{rest_sum}

-- ---- a ring that is marked

-- no place past the area is in a ring
past-ring : (grow : Bool) (cells f : Places) (n columns i : ℕ) → n ≤ i → ring grow cells f n columns i ≡ false
past-ring grow cells f n columns i h =
    by-test (ring grow cells f n columns i)
    (λ t. absurd (omega (arith, ring-below grow cells f n columns i t)))
    (λ t. t)

-- the ring of the set that is seen is the ring of the set that is shown
ring-seen : (grow : Bool) (mask : List ℕ) (cells : Places) (rows columns i : ℕ) → ((j : ℕ) → j < rows * columns → get_or mask j 0 ≤ 1)
    → ring grow cells (seen grow mask) (rows * columns) columns i ≡ ring grow cells (shown mask) (rows * columns) columns i
ring-seen grow mask cells rows columns i plain = by-test (ltb i n)
    (λ t. ring-same grow cells cells (seen grow mask) (shown mask) n columns (seen_plain grow mask n plain) (λ j l. refl)
    (mul-mod_left rows columns) i (ltb-true i n t))
    (λ t.
    let h = ltb-false i n t in
    past-ring grow cells (seen grow mask) n columns i h ∙ sym (past-ring grow cells (shown mask) n columns i h))
  where
    n : ℕ
    n = rows * columns

-- what `form` leaves, within the limits
pub marks-are : {rows columns weight share : ℕ} {mask cells people : List ℕ} (w : Within rows columns weight share mask cells people)
    (grow : Bool) (now : List ℕ)
    → ((i : ℕ) → get_or now i 0 ≡ marked (fits rows columns (length mask) && (fits rows columns (length cells)
    && ring grow (shown cells) (seen grow mask) (rows * columns) columns i)) (get_or mask i 0))
    → (i : ℕ) → get_or now i 0 ≡ marked (ring_of (area_of rows columns weight cells people) grow (shown mask) i) (get_or mask i 0)
marks-are {rows} {columns} {weight} {share} {mask} {cells} {people} w grow now e i =
    e i ∙ rw (w.masked, w.limits.celled, ring-seen grow mask (shown cells) rows columns i w.plain)

-- ---- the sums of a round

module _ (a : PartArea) (grow : Bool) (mask now : List ℕ) (plain : (i : ℕ) → i < places a → get_or mask i 0 ≤ 1)
    (marks : (i : ℕ) → get_or now i 0 ≡ marked (ring_of a grow (shown mask) i) (get_or mask i 0)) where
  abbrev f : Places
  f = shown mask

  abbrev b : Places
  b = ring_of a grow (shown mask)

  -- the marks are the ring
  twos : (i : ℕ) → i < places a → eqb (get_or now i 0) 2 ≡ b i
  twos i h = rw (marks i) (at (b i))
    where
      at : (t : Bool) → eqb (marked t (get_or mask i 0)) 2 ≡ t
      at true = refl
      at false = ne_eqb (get_or mask i 0) 2 (λ e. omega (arith, plain i h))

  pub ring-sum : sum_below a.people (λ (i : ℕ). eqb (get_or now i 0) 2) (places a) ≡ sum_below a.people b (places a)
  ring-sum = sum-test a.people (λ (i : ℕ). eqb (get_or now i 0) 2) b (places a) twos

  -- a mark that is settled
  settles : (i : ℕ) → settled (flag grow) (places a) i (get_or now i 0) ≡ cond (b i) (flag grow) (get_or mask i 0)
  settles i = by-test (ltb i (places a))
      (λ t. rw (t, twos i (ltb-true i (places a) t), marks i) (at (b i)))
      (λ t. rw (t, marks i, past-ring grow a.cells f (places a) a.columns i (ltb-false i (places a) t)))
    where
      at : (t : Bool) → cond t (flag grow) (marked t (get_or mask i 0)) ≡ cond t (flag grow) (get_or mask i 0)
      at true = refl
      at false = refl

-- the people of the next set, by those of the set and of its ring
next-sum : (a : PartArea) (grow : Bool) (f : Places)
    → (grow ≡ false → sum_below a.people (ring_of a grow f) (places a) ≤ sum_below a.people f (places a))
    × (cond grow (sum_below a.people f (places a) + sum_below a.people (ring_of a grow f) (places a))
    (sum_below a.people f (places a) - sum_below a.people (ring_of a grow f) (places a))
    ≡ sum_below a.people (step grow f (ring_of a grow f)) (places a))
next-sum a true f = (
  λ t. not-both refl t,
  sum-split a.people f (ring_of a true f) (both f (ring_of a true f)) (places a)
      (λ i h. at (f i) (ring_of a true f i) (a.people i) (ring_in true a.cells f (places a) a.columns i)),
)
  where
    at : (s t : Bool) (x : ℕ) → (t ≡ true → s ≡ false) → cond s x 0 + cond t x 0 ≡ cond (s || t) x 0
    at true true x h = not-both refl (h refl)
    at true false x h = omega arith
    at false true x h = omega arith
    at false false x h = refl
next-sum a false f =
    let e = rest_sum a.people f (ring_of a false f) (places a) (ring_in false a.cells f (places a) a.columns) in
    (λ t. omega arith, omega arith)

-- what is known after the ring is counted
pub record Weighed (a : PartArea) (grow : Bool) (f : Places) (sum ring : ℕ) : Type 0 where
  pub set : sum ≡ sum_below a.people f (places a)
  pub counted : ring ≡ sum_below a.people (ring_of a grow f) (places a)
  pub less : grow ≡ false → ring ≤ sum
  pub next : cond grow (sum + ring) (sum - ring) ≡ sum_below a.people (step grow f (ring_of a grow f)) (places a)

pub weighed : (a : PartArea) (grow : Bool) (mask now : List ℕ) → ((i : ℕ) → i < places a → get_or mask i 0 ≤ 1)
    → ((i : ℕ) → get_or now i 0 ≡ marked (ring_of a grow (shown mask) i) (get_or mask i 0)) → (sum ring : ℕ)
    → sum ≡ sum_below a.people (shown mask) (places a) → ring ≡ sum_below a.people (λ i. eqb (get_or now i 0) 2) (places a)
    → Weighed a grow (shown mask) sum ring
weighed a grow mask now plain marks sum ring p q =
    let e = q ∙ ring-sum a grow mask now plain marks in
    let n = next-sum a grow (shown mask) in
    record { set = p; counted = e; less = λ t. rw (p, e) (n.0 t); next = rw (p, e) n.1 }

-- ---- what a round ensures

module _ (a : PartArea) (share : ℕ) (grow : Bool) (mask : List ℕ) where
  abbrev set : Places
  set = shown mask

  abbrev ring_set : Places
  ring_set = ring_of a grow (shown mask)

  -- equality ends it
  pub round-equal : value a set ≡ share → RoundDone a share grow Share mask mask
  unfolding goes_on reached_set round_byte
  round-equal v =
      let q = eq-eqb (value a set) share v in
      record { made = rw q; last = rw q; people = refl; bytes = λ i. at (ring_set i) (get_or mask i 0) }
    where
      at : (t : Bool) (x : ℕ) → x ≡ cond t x x
      at true x = refl
      at false x = refl

  module _ (now : List ℕ) (plain : (i : ℕ) → i < places a → get_or mask i 0 ≤ 1)
      (marks : (i : ℕ) → get_or now i 0 ≡ marked (ring_of a grow (shown mask) i) (get_or mask i 0))
      (d : value a (shown mask) ≡ share → ⊥) (people : People) where
    -- the ring is the last ring
    pub round-last : in_share grow (value a (step grow set ring_set)) share ≡ false
        → people.0 ≡ cond grow (sum_below a.people (step grow set ring_set) (places a)) (sum_below a.people set (places a))
        → RoundDone a share grow (LastRing people) mask now
    unfolding goes_on reached_set round_byte
    round-last k p =
        let q = ne_eqb (value a set) share d in
        record {
          made = rw (q, k);
          last = rw (q, k);
          people = p ∙ at grow;
          bytes = λ i. marks i ∙ byte (ring_set i) (get_or mask i 0);
        }
      where
        at : (g : Bool)
            → cond g (sum_below a.people (step g (shown mask) (ring_of a grow (shown mask))) (places a))
            (sum_below a.people (shown mask) (places a))
            ≡ sum_below a.people (cond g (both (shown mask) (ring_of a grow (shown mask))) (shown mask)) (places a)
        at true = refl
        at false = refl

        byte : (t : Bool) (x : ℕ) → marked t x ≡ cond t 2 x
        byte true x = refl
        byte false x = refl

    -- the round is made
    pub round-made : (after : List ℕ) → in_share grow (value a (step grow set ring_set)) share ≡ true
        → people.0 ≡ sum_below a.people (step grow set ring_set) (places a)
        → ((i : ℕ) → get_or after i 0 ≡ settled (flag grow) (places a) i (get_or now i 0))
        → RoundDone a share grow (Next people) mask after
    unfolding goes_on reached_set round_byte
    round-made after k p s =
        let q = ne_eqb (value a set) share d in
        record {
          made = rw (q, k);
          last = rw (q, k);
          people = p;
          bytes = λ i. s i ∙ settles a grow mask now plain marks i;
        }

-- ---- all rounds

-- a plain byte is what its set shows
bit : (v : ℕ) → v ≤ 1 → v ≡ flag (eqb v 1)
bit zero h = refl
bit (suc zero) h = refl
bit (suc (suc v)) h = absurd (omega arith)

-- where no round is made, none is
stands : (a : PartArea) (share : ℕ) (grow : Bool) (k : ℕ) (f : Places) → goes_on a share grow f ≡ false → rounds a share grow k f ≡ f
unfolding rounds
stands a share grow zero f h = refl
stands a share grow (suc k) f h = rw h

module _ (a : PartArea) (share : ℕ) (grow : Bool) where
  -- the mask is plain, the people of its set are known, and the set that is left to reach is the one from the start
  pub record Going (before now : List ℕ) (sum : ℕ) : Type 0 where
    pub kept : length now ≡ length before
    pub plain : (i : ℕ) → i < places a → get_or now i 0 ≤ 1
    pub rest : (i : ℕ) → places a ≤ i → get_or now i 0 ≡ get_or before i 0
    pub people : sum ≡ sum_below a.people (shown now) (places a)
    pub left : ℕ
    pub enough : remaining grow (shown now) (places a) ≤ left
    pub goal : rounds a share grow (places a) (shown before) ≡ rounds a share grow left (shown now)

  pub going-starts : (mask : List ℕ) (sum : ℕ) → ((i : ℕ) → i < places a → get_or mask i 0 ≤ 1)
      → sum ≡ sum_below a.people (shown mask) (places a) → Going mask mask sum
  going-starts mask sum plain e = record {
    kept = refl;
    plain = plain;
    rest = λ i h. refl;
    people = e;
    left = places a;
    enough = remaining-most grow (shown mask) (places a);
    goal = refl;
  }

  module _ (now after : List ℕ) where
    module _ (people : People) (done : RoundDone a share grow (Next people) now after) where
      -- a byte after a round that is made
      byte : (i : ℕ) → get_or after i 0 ≡ cond (ring_of a grow (shown now) i) (flag grow) (get_or now i 0)
      unfolding round_byte
      byte i = done.bytes i

      shows : shown after ≡ step grow (shown now) (ring_of a grow (shown now))
      shows = fun_ext (λ i. ap (λ (x : ℕ). eqb x 1) (byte i) ∙ at grow (ring_of a grow (shown now)) i)
        where
          at : (g : Bool) (b : Places) (i : ℕ) → eqb (cond (b i) (flag g) (get_or now i 0)) 1 ≡ step g (shown now) b i
          at true b i = by-test (b i) (λ t. rw t (sym (or-true (shown now i)))) (λ t. rw t (sym (or-false (shown now i))))
          at false b i = by-test (b i) (λ t. rw t (sym (and-false (shown now i)))) (λ t. rw t (sym (and-true (shown now i))))

      next-plain : (v : ℕ) (b : Bool) → v ≤ 1 → cond b (flag grow) v ≤ 1
      next-plain v false h = h
      next-plain v true h = at grow
        where
          at : (g : Bool) → flag g ≤ 1
          at true = omega arith
          at false = omega arith

      module _ (above : 0 < share) (below : share < value a a.cells) (wide : 0 < a.columns) where
        -- less is left
        pub going_less : remaining grow (shown after) (places a) < remaining grow (shown now) (places a)
        going_less = rw shows (falls a share above below wide grow (shown now) (sym done.made))

        pub going-turns : (before : List ℕ) (sum : ℕ) → Going before now sum → length after ≡ length now
            → Going before after people.0
        unfolding rounds reached_set
        going-turns before sum c l =
            let less = going_less in
            let enough = c.enough in
            let k = c.left in
            let s : k ≡ suc (k - 1) = omega arith in
            record {
              kept = l ∙ c.kept;
              plain = λ i h. rw (byte i) (next-plain (get_or now i 0) (ring_of a grow (shown now) i) (c.plain i h));
              rest = λ i h. byte i
                  ∙ rw (past-ring grow a.cells (shown now) (places a) a.columns i h) (c.rest i h);
              people = done.people ∙ rw shows;
              left = k - 1;
              enough = omega arith;
              goal = c.goal ∙ ap (λ (j : ℕ). rounds a share grow j (shown now)) s
                  ∙ rw (sym done.made, shows);
            }

    -- no round is made: the mask shows the last set, with the last ring if there is one
    module _ (r : Reached) (done : RoundDone a share grow r now after) (before : List ℕ) (sum : ℕ) (c : Going before now sum)
        (g : grow ≡ growing a share (shown before)) (m : made_of r ≡ false) where
      stopped : goes_on a share grow (shown now) ≡ false
      stopped = sym done.made ∙ m

      last-is : last_set a share (shown before) ≡ shown now
      unfolding last_set
      last-is =
          ap (λ (t : Bool). rounds a share t (places a) (shown before)) (sym g)
          ∙ c.goal ∙ stands a share grow c.left (shown now) stopped

      over-is : overshoots a share (shown before) ≡ last_of r
      unfolding overshoots
      over-is = rw last-is (sym (done.last ∙ rw stopped (and-true (not (eqb (value a (shown now)) share)))))

      ring-is : last_ring a share (shown before) ≡ ring_of a grow (shown now)
      unfolding last_ring
      ring-is = λ k. ring_of a (sym g k) (last-is k)

      outer-is : outer a share (shown before) ≡ cond grow (both (shown now) (ring_of a grow (shown now))) (shown now)
      unfolding outer
      outer-is = λ k. cond (sym g k) (both (last-is k) (ring-is k)) (last-is k)

      last-people : overshoots a share (shown before) ≡ true
          → people_in r (sum_below a.people (shown now) (places a)) ≡ sum_below a.people (outer a share (shown before)) (places a)
      unfolding reached_set
      last-people o = done.people ∙ rw (m, sym over-is ∙ o, outer-is)

      last-bytes : (i : ℕ) → get_or after i 0 ≡ cond (ltb i (places a)) (last_byte a share (shown before) i) (get_or before i 0)
      unfolding round_byte last_byte
      last-bytes i = done.bytes i ∙ by-test (ltb i (places a))
          (λ t. rw (m, t, over-is, ring-is, last-is)
          (at (ring_of a grow (shown now) i) (last_of r) (bit (get_or now i 0) (c.plain i (ltb-true i (places a) t)))))
          (λ t.
          let h = ltb-false i (places a) t in
          rw (t, past-ring grow a.cells (shown now) (places a) a.columns i h) (c.rest i h))
        where
          at : (b l : Bool) {v : ℕ} → v ≡ flag (eqb v 1) → cond b (cond l 2 v) v ≡ cond (l && b) 2 (flag (eqb v 1))
          at true true e = refl
          at true false e = e
          at false true e = e
          at false false e = e

    -- V equals the share, or the ring is the last ring
    module _ (before : List ℕ) (sum : ℕ) (c : Going before now sum) (g : grow ≡ growing a share (shown before)) where
      pub going-equal : RoundDone a share grow Share now after → RoundsDone a share None before after
      going-equal d = record {
        last = sym (over-is Share d before sum c g refl);
        people = λ o. not-both o (over-is Share d before sum c g refl);
        bytes = last-bytes Share d before sum c g refl;
      }

      pub going-last : (people : People) → RoundDone a share grow (LastRing people) now after → RoundsDone a share (Some people) before after
      going-last people d = record {
        last = sym (over-is (LastRing people) d before sum c g refl);
        people = last-people (LastRing people) d before sum c g refl;
        bytes = last-bytes (LastRing people) d before sum c g refl;
      }

-- the limits hold of the mask of every round
pub going-within : {rows columns weight share : ℕ} {before now cells people : List ℕ} {grow : Bool} {sum : ℕ}
    → Within rows columns weight share before cells people → Going (area_of rows columns weight cells people) share grow before now sum
    → Within rows columns weight share now cells people
going-within {rows} {columns} w c = record { limits = w.limits; masked = rw c.kept w.masked; plain = c.plain }
