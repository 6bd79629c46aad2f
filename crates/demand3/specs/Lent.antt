-- What is lent to the functions of an interface, and these functions by their own contracts. What is lent lies somewhere and is lent for
-- some time, both open. Assumes nothing.
use Rattle.std.specs.Prelude.{ℕ, ◌≡◌, List}
use Rattle.std.specs.Borrow.{GName, Bor, MutBor}
use contract.Lifetimes.{Lfts}
use Rattle.register.specs.declared.Register.{Register}
use Rattle.proposal.specs.Answer.{Proposal}
use Rattle.footprint.specs.Promises.{Reply}
use Rattle.demand3.specs.Calls.{propose, footprint, Outlined}
use Rattle.demand3.specs.Interface.{Function}

-- where bytes lie that are lent to be read: anywhere
abbrev pub Where : Type 0
Where = ℕ × ℕ

-- what is lent from there
abbrev pub lent : Where → List ℕ → Bor (List ℕ)
lent w l = record { ref_ptr = w; now = l }

-- where bytes or entries lie that are lent to be written, and the name that their value goes by: any
pub record WhereWritten : Type 0 where
  pub ptr : ℕ × ℕ
  pub name : GName

-- what is lent from there
abbrev pub lent_to_write : WhereWritten → List ℕ → MutBor (List ℕ)
lent_to_write w l = record { ref_ptr = w.ptr; ghost_name = w.name; now = l }

-- ---- a proposal's function

-- what it is given: the map, the register and the draw
abbrev pub OnMap : Type 0
OnMap = Bor (List ℕ) × (Register × (ℕ × Unit {0}))

abbrev pub on_map : Where → (map : List ℕ) → Register → (draw : ℕ) → OnMap
on_map lies map r draw = (lent lies map, (r, (draw, tt)))

-- what it ensures, lent the map from somewhere for some time
pub record Proposes {A : Type 0} (Post : Lfts 1 → OnMap → A → OnMap → Type 0) (map : List ℕ) (r : Register) (draw : ℕ) (a : A)
    : Type 0 where
  pub lives : Lfts 1
  pub lies : Where
  pub post : Post lives (on_map lies map r draw) a (on_map lies map r draw)

-- the function by what it asks and ensures; the same register goes on
abbrev pub proposing : (draw : ℕ) {A : Type 0} → (number : A → ℕ) → (Says : A → Proposal → Type 0) →
    (Pre : Lfts 1 → OnMap → Type 0) → (Post : Lfts 1 → OnMap → A → OnMap → Type 0) → Function (propose draw)
proposing draw {A} number Says Pre Post = record {
  Answer = A;
  number = number;
  Says = Says;
  Asks = λ map r. (lives : Lfts 1) (lies : Where) → Pre lives (on_map lies map r draw);
  Step = λ map r a next. Proposes Post map r draw a × (next ≡ r);
}

-- ---- a footprint's function

-- what it is given: the map, the register, the draw, the mask and the table
abbrev pub OnBuffers : Type 0
OnBuffers = Bor (List ℕ) × (Register × (ℕ × (MutBor (List ℕ) × (MutBor (List ℕ) × Unit {0}))))

abbrev pub on_buffers : (lies : Where) (masks tables : WhereWritten) → (map : List ℕ) → Register → (draw : ℕ) →
    (mask table : List ℕ) → OnBuffers
on_buffers lies masks tables map r draw mask table =
    (lent lies map, (r, (draw, (lent_to_write masks mask, (lent_to_write tables table, tt)))))

-- what it ensures, lent all three for some time; the mask and the table come back as it leaves them
pub record Outlines {A : Type 0} (Post : Lfts 3 → OnBuffers → A → OnBuffers → Type 0) (map : List ℕ) (r : Register) (draw : ℕ)
    (mask table : List ℕ) (a : Outlined A) : Type 0 where
  pub lives : Lfts 3
  pub lies : Where
  pub masks : WhereWritten
  pub tables : WhereWritten
  pub post : Post lives (on_buffers lies masks tables map r draw mask table) a.answer
      (on_buffers lies masks tables map r draw a.mask a.table)

-- the function by what its answer means, what it asks and what it ensures; the same register goes on
abbrev pub outlining : (draw : ℕ) (mask table : List ℕ) {A : Type 0} → (means : A → Reply) →
    (Pre : Lfts 3 → OnBuffers → Type 0) → (Post : Lfts 3 → OnBuffers → A → OnBuffers → Type 0) → Function (footprint draw mask table)
outlining draw mask table {A} means Pre Post = record {
  Answer = Outlined A;
  number = λ a. (means a.answer).refused;
  Says = λ a o. record { answer = means a.answer; mask = a.mask; table = a.table } ≡ o;
  Asks = λ map r. (lives : Lfts 3) (lies : Where) (masks tables : WhereWritten) →
      Pre lives (on_buffers lies masks tables map r draw mask table);
  Step = λ map r a next. Outlines Post map r draw mask table a × (next ≡ r);
}
