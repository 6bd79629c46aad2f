-- Reading from a position of a list of bytes. Assumes nothing.
use Rattle.std.specs.Prelude.{ℕ, zero, suc, ◌+◌, List, [], ◌∷◌}

-- "Refused by the input": the number of the first fault in byte order, or what was read and the position after it
pub data Read (A : Type 0) : Type 0 where
  bad : (fault : ℕ) → Read A
  good : A → (next : ℕ) → Read A

-- read one thing, then what follows it
abbrev pub bind : {A B : Type 0} → Read A → (A → ℕ → Read B) → Read B
bind (bad f) k = bad f
bind (good a e) k = k a e

-- the items j, j + 1, .. : n of them, one after another
unfoldable pub many : {A : Type 0} → (ℕ → ℕ → Read A) → ℕ → ℕ → ℕ → Read (List A)
many item zero j at = good [] at
many item (suc n) j at = bind (item j at) (λ a e. bind (many item n (j + 1) e) (λ l e'. good (a ∷ l) e'))

-- what is made of a reading
abbrev pub map_read : {A B : Type 0} → (A → B) → Read A → Read B
map_read f (bad x) = bad x
map_read f (good a e) = good (f a) e
