-- How the code finds the cells that are left out: what its table holds, and what its inner functions do. The public contract cites
-- nothing of this; proofs/JoinLaws joins it to the rule. All is over the mark for none, so that no width comes in. Assumes nothing.
use Rattle.std.specs.Prelude.{ℕ, zero, suc, ◌-◌, ◌≤◌, ◌<◌, ◌≡◌, Bool, true, false, cond, not, ◌&&◌, ◌||◌, List, leb, eqb, length, get_or}
use Rattle.subset.specs.Marked.{people_at}

-- the people that the place i adds to a sum: those of a cell of the last ring, which has the mark 2, and none elsewhere
abbrev pub weight : (mask people : List ℕ) → ℕ → ℕ
weight mask people i = cond (eqb (get_or mask i 0) 2) (people_at people i) 0

-- ---- sums of the first k places, of weights w

-- some set of the first k places has the sum s
unfoldable pub reach : (ℕ → ℕ) → (k s : ℕ) → Bool
reach w zero s = eqb s 0
reach w (suc k) s = reach w k s || (leb (w k) s && reach w k (s - w k))

-- the place i is in the set of smallest set number among the sets of the first k places with the sum s
unfoldable pub member : (ℕ → ℕ) → (k s i : ℕ) → Bool
member w zero s i = false
member w (suc k) s i = cond (reach w k s) (member w k s i) (eqb i k || member w k (s - w k) i)

-- the greatest sum within a limit
unfoldable pub greatest_of : (ℕ → ℕ) → (k limit : ℕ) → ℕ
greatest_of w k zero = 0
greatest_of w k (suc l) = cond (reach w k (suc l)) (suc l) (greatest_of w k l)

-- the place i is in the set of greatest sum within a limit, then of smallest set number
unfoldable pub chosen : (ℕ → ℕ) → (n limit i : ℕ) → Bool
chosen w n limit i = member w n (greatest_of w n limit) i

-- ---- the table's entries; N is the mark for none

-- an entry after one place more, number i: `here` is the entry, `lower` the one of the sum without the place, `ok` says that there is one
abbrev pub renewed : (N i here : ℕ) → (ok : Bool) → (lower : ℕ) → ℕ
renewed N i here ok lower = cond (eqb here N && (ok && not (eqb lower N))) i here

-- the entry of the sum s after k places: N for none, 0 for the sum 0, else the first place with which s is reached
unfoldable pub entry : (N : ℕ) → (ℕ → ℕ) → (k s : ℕ) → ℕ
entry N w zero s = cond (eqb s 0) 0 N
entry N w (suc k) s = renewed N k (entry N w k s) (leb (w k) s) (entry N w k (s - w k))

-- the table after k places: the entries of the sums up to the slack, and the others as before
pub record Filled (N : ℕ) (w : ℕ → ℕ) (k slack : ℕ) (before after : List ℕ) : Type 0 where
  pub entries : (s : ℕ) → s ≤ slack → get_or after s 0 ≡ entry N w k s
  pub others : (s : ℕ) → slack < s → get_or after s 0 ≡ get_or before s 0

-- the table after one place more, number i, of p people, over the sums up to `top`
pub record Added (N top p i : ℕ) (before after : List ℕ) : Type 0 where
  pub upto : (s : ℕ) → s ≤ top → get_or after s 0 ≡ renewed N i (get_or before s 0) (leb p s) (get_or before (s - p) 0)
  pub others : (s : ℕ) → top < s → get_or after s 0 ≡ get_or before s 0

-- the table after k places, which are all places or reach the slack
pub record Enough (N : ℕ) (w : ℕ → ℕ) (n k slack : ℕ) (before after : List ℕ) : Type 0 where
  pub some : k ≤ n
  pub filled : Filled N w k slack before after
  pub enough : (k ≡ n → ⊥) → reach w k slack ≡ true

-- the greatest sum up to the slack that has an entry; the sum 0 always has one
pub record Topmost (N slack : ℕ) (table : List ℕ) (s : ℕ) : Type 0 where
  pub within : s ≤ slack
  pub found : 0 < s → get_or table s 0 ≡ N → ⊥
  pub above : (t : ℕ) → s < t → t ≤ slack → get_or table t 0 ≡ N

-- ---- the mask

-- a byte, or 0 where its place is struck
abbrev pub strike : Bool → ℕ → ℕ
strike b v = cond b 0 v

-- the places of a set are struck, the others as before
abbrev pub Struck : (ℕ → Bool) → (before after : List ℕ) → Type 0
Struck f before after = (i : ℕ) → get_or after i 0 ≡ strike (f i) (get_or before i 0)

-- what the inner functions start from: no test of room fails
pub record Room (N mask people n slack table : ℕ) : Type 0 where
  pub entries : slack < table
  pub few : n ≤ N
  pub bytes : n ≤ mask
  pub counts : n ≤ people

-- what the read-back starts from: k places are in the table, and the sum is reached
pub record Readable (N : ℕ) (mask people : List ℕ) (k : ℕ) (table : List ℕ) (sum : ℕ) : Type 0 where
  pub room : Room N (length mask) (length people) k sum (length table)
  pub reached : reach (weight mask people) k sum ≡ true
  pub entries : (s : ℕ) → s ≤ sum → get_or table s 0 ≡ entry N (weight mask people) k s
