-- Laws of a list of numbers that is rewritten in place from its front: f i is what becomes of the number at place i. Assumes nothing.
use Prim.Native.Nat.{ℕ, zero, suc, ◌+◌, ◌-◌, ◌*◌, ◌≤◌, ◌<◌}
use mathlib.Core.Path.{◌≡◌, refl, sym, ap, ◌∙◌}
use mathlib.Core.Bool.{cond}
use mathlib.Core.List.{List, [], ◌∷◌, ◌++◌, map, map-append, append-nil}
use native.Mathlib.Omega.{arith}
use native.Mathlib.Nat.{suc-mul, mul-le-mul_right}
use native.Mathlib.Numerals.{add-one}
use lib.ListN.{length, get_or, set, take, drop, replicate, length-set, length-append, length-drop, drop_of_length-le, get_or-append}
use lib.Seq.{get_or-set_same, get_or-set_other, get_or-take, get_or-drop, get_or-append-add, get_or_at, ext_get_or, length-take-le, take_all}
use lib.Dec.{ltb, eqb}
use borrow.Rule.Slice.PartMut.{put_mid, same_len_mid}
use borrow.Author.Tests.{ltb-true, ltb-false, le-ltb, eqb-true, eqb-false}
use Rattle.lists.specs.Filters.{up_to}
use Rattle.lists.proofs.Tests.{by-test}

-- the numbers below place i are rewritten, the others as before
pub record Rewritten (f : ℕ → ℕ → ℕ) (before now : List ℕ) (i : ℕ) : Type 0 where
  pub kept : length now ≡ length before
  pub done : (j : ℕ) → j < i → get_or now j 0 ≡ f j (get_or before j 0)
  pub rest : (j : ℕ) → i ≤ j → get_or now j 0 ≡ get_or before j 0

pub starts : (f : ℕ → ℕ → ℕ) (l : List ℕ) → Rewritten f l l 0
starts f l = record { kept = refl; done = λ j h. absurd (omega arith); rest = λ j h. refl }

module _ {f : ℕ → ℕ → ℕ} {before now : List ℕ} {i : ℕ} (c : Rewritten f before now i) where
  -- the number at place i is written
  pub turns : {v : ℕ} → i < length before → v ≡ f i (get_or now i 0) → Rewritten f before (set now i v) (i + 1)
  turns {v} h e =
      let k = c.kept in
      record {
        kept = length-set now i v ∙ k;
        done = λ j l. by-test (eqb j i)
            (λ t. rw (eqb-true j i t) (get_or-set_same now i v 0 (omega arith) ∙ e ∙ ap (f i) (c.rest i (omega arith))))
            (λ t. let ne = eqb-false j i t in get_or-set_other now i j v 0 ne ∙ c.done j (omega arith));
        rest = λ j l. get_or-set_other now i j v 0 (omega arith) ∙ c.rest j (omega arith);
      }

  -- the number at place i stays
  pub skips : f i (get_or now i 0) ≡ get_or now i 0 → Rewritten f before now (i + 1)
  skips e = record {
    kept = c.kept;
    done = λ j l. by-test (eqb j i)
        (λ t. rw (eqb-true j i t) (sym e ∙ ap (f i) (c.rest i (omega arith))))
        (λ t. let ne = eqb-false j i t in c.done j (omega arith));
    rest = λ j l. c.rest j (omega arith);
  }

  -- all places are done, where f leaves the places from n on
  pub ends : (n : ℕ) → n ≤ i → ((j b : ℕ) → n ≤ j → f j b ≡ b) → (j : ℕ) → get_or now j 0 ≡ f j (get_or before j 0)
  ends n h past j = by-test (ltb j i)
      (λ t. c.done j (ltb-true j i t))
      (λ t. let o = ltb-false j i t in c.rest j o ∙ sym (past j (get_or before j 0) (omega arith)))

-- ---- a list that is filled from its front: f i is what comes to place i, whatever stood there

module _ {A : Type 0} (f : ℕ → A) (d : A) where
  pub record Filled (before now : List A) (i : ℕ) : Type 0 where
    pub size : length now ≡ length before
    pub filled : (j : ℕ) → j < i → get_or now j d ≡ f j

  pub fill-starts : (l : List A) → Filled l l 0
  fill-starts l = record { size = refl; filled = λ j h. absurd (omega arith) }

  pub fill-turns : {before now : List A} {i : ℕ} (c : Filled before now i) {v : A} → i < length before → v ≡ f i
      → Filled before (set now i v) (i + 1)
  fill-turns {before} {now} {i} c {v} h e = record {
    size = length-set now i v ∙ c.size;
    filled = λ j l. by-test (eqb j i)
        (λ t. rw (eqb-true j i t) (get_or-set_same now i v d (omega (arith, c.size)) ∙ e))
        (λ t. let ne = eqb-false j i t in get_or-set_other now i j v d ne ∙ c.filled j (omega arith));
  }

-- ---- a part that is lent from place a on

-- a number of the part
pub part_at : (l : List ℕ) (a j : ℕ) → get_or (take (length l - a) (drop a l)) j 0 ≡ get_or l (a + j) 0
part_at l a j = rw (take_all (length l - a) (drop a l) (omega (arith, length-drop a l))) (get_or-drop a l j 0)

-- a part has room for so many numbers
pub part_room : (l : List ℕ) (a k : ℕ) → a + k ≤ length l → k ≤ length (take (length l - a) (drop a l))
part_room l a k h =
    let from = length-drop a l in
    let n = length-take-le (length l - a) (drop a l) (omega arith) in
    omega arith

-- a number of the list after the part came back
pub back_at : (l part : List ℕ) (a j : ℕ) → a ≤ length l
    → get_or (put_mid a (length l - a) l part) j 0 ≡ cond (ltb j a) (get_or l j 0) (get_or part (j - a) 0)
back_at l part a j h =
    let front = length-take-le a l h in
    let none = drop_of_length-le (drop a l) {i = length l - a} (omega (arith, length-drop a l)) in
    by-test (ltb j a)
    (λ t.
    let k = ltb-true j a t in
    rw t (get_or-append (take a l) (part ++ drop (length l - a) (drop a l)) 0 j (omega arith) ∙ get_or-take a l j 0 k))
    (λ t.
    let k = ltb-false j a t in
    let at : length (take a l) + (j - a) ≡ j = omega arith in
    rw (t, none, append-nil part) (rw at at (get_or-append-add (take a l) part (j - a) 0)))

-- a row of so many columns from `a` on is rewritten by a callee that is lent the part from there on
pub row-turns : {f : ℕ → ℕ → ℕ} {before now : List ℕ} {a : ℕ} (c : Rewritten f before now a)
    (g : ℕ → ℕ → ℕ) (part : List ℕ) (columns : ℕ) → a + columns ≤ length before
    → length part ≡ length (take (length now - a) (drop a now))
    → ((j : ℕ) → get_or part j 0 ≡ g j (get_or (take (length now - a) (drop a now)) j 0))
    → ((j b : ℕ) → j < columns → g j b ≡ f (a + j) b) → ((j b : ℕ) → columns ≤ j → g j b ≡ b)
    → Rewritten f before (put_mid a (length now - a) now part) (a + columns)
row-turns {f} {before} {now} {a} c g part columns h l e inside past =
    let k = c.kept in
    let get : (j : ℕ) → a ≤ j → get_or (put_mid a (length now - a) now part) j 0 ≡ g (j - a) (get_or now j 0) = λ j o.
    let q : a + (j - a) ≡ j = omega arith in
    back_at now part a j (omega arith) ∙ rw (le-ltb j a o) (e (j - a) ∙ ap (g (j - a)) (rw q at (part_at now a (j - a)))) in
    record {
      kept = same_len_mid a (length now - a) now part l ∙ k;
      done = λ j o. by-test (ltb j a)
          (λ t. back_at now part a j (omega arith) ∙ rw t (c.done j (ltb-true j a t)))
          (λ t.
          let w = ltb-false j a t in
          let q : a + (j - a) ≡ j = omega arith in
          get j w ∙ inside (j - a) (get_or now j 0) (omega arith) ∙ rw (q, c.rest j w));
      rest = λ j o. get j (omega arith) ∙ past (j - a) (get_or now j 0) (omega arith) ∙ c.rest j (omega arith);
    }

-- the rows up to a row fill the places up to its start
pub row_ends : (r rows columns at : ℕ) → at ≡ r * columns → r < rows
    → (at + columns ≤ rows * columns) × (at + columns ≡ (r + 1) * columns)
row_ends r rows columns at e h =
    let m : (r + 1) * columns ≡ r * columns + columns = rw (add-one r) (suc-mul r columns) in
    let l : (r + 1) * columns ≤ rows * columns = mul-le-mul_right columns (omega arith) in
    (omega arith, omega arith)

-- ---- lists by their places

-- lists of one length that agree from place n on
pub drop-same : (n : ℕ) (l m : List ℕ) → length l ≡ length m → ((i : ℕ) → n ≤ i → get_or l i 0 ≡ get_or m i 0)
    → drop n l ≡ drop n m
drop-same n l m e h =
    ext_get_or 0 (drop n l) (drop n m) (length-drop n l ∙ ap (λ (k : ℕ). k - n) e ∙ sym (length-drop n m))
    (λ i b. get_or-drop n l i 0 ∙ h (n + i) (omega arith) ∙ sym (get_or-drop n m i 0))

-- a list that begins with `front` and goes on as it was
pub front-is : (front before after : List ℕ) → length front ≤ length before → length after ≡ length before
    → ((i : ℕ) → i < length front → get_or after i 0 ≡ get_or front i 0)
    → ((i : ℕ) → length front ≤ i → get_or after i 0 ≡ get_or before i 0)
    → after ≡ front ++ drop (length front) before
front-is front before after room e inside past =
    let sizes = length-append front (drop (length front) before) in
    let rest = length-drop (length front) before in
    ext_get_or 0 after (front ++ drop (length front) before) (omega arith)
    (λ i b. by-test (ltb i (length front))
    (λ t.
    let k = ltb-true i (length front) t in
    inside i k ∙ sym (get_or-append front (drop (length front) before) 0 i k))
    (λ t.
    let k = ltb-false i (length front) t in
    let at : length front + (i - length front) ≡ i = omega arith in
    past i k
    ∙ sym (rw at at (get_or-append-add front (drop (length front) before) (i - length front) 0)
    ∙ rw at at (get_or-drop (length front) before (i - length front) 0))))

-- the numbers below n, each put to use
pub each_below : (f : ℕ → ℕ) (n : ℕ) → length (map f (up_to n)) ≡ n
unfolding up_to
each_below f zero = refl
each_below f (suc n) =
    ap length (map-append f (up_to n) (n ∷ [])) ∙ length-append (map f (up_to n)) (f n ∷ []) ∙ omega (arith, each_below f n)

pub each_at : (f : ℕ → ℕ) (n i : ℕ) → i < n → get_or (map f (up_to n)) i 0 ≡ f i
unfolding up_to
each_at f zero i h = absurd (omega arith)
each_at f (suc n) i h =
    let size = each_below f n in
    ap (λ (l : List ℕ). get_or l i 0) (map-append f (up_to n) (n ∷ []))
    ∙ by-test (ltb i n)
    (λ t.
    let k = ltb-true i n t in
    get_or-append (map f (up_to n)) (f n ∷ []) 0 i (omega arith) ∙ each_at f n i k)
    (λ t.
    let k = ltb-false i n t in
    let e : i ≡ n = omega arith in
    rw e (get_or_at (map f (up_to n)) (f n) [] 0 n size))

pub zeros-at : (n i : ℕ) → ◌≡◌ {A = ℕ} (get_or (replicate n 0) i 0) 0
zeros-at zero i = refl
zeros-at (suc n) zero = refl
zeros-at (suc n) (suc i) = zeros-at n i
