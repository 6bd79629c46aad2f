-- The rules of a grant and of a cancellation, evaluated on a table of cases. Assumes nothing.
use Rattle.std.specs.Prelude.{ℕ, zero, suc, ◌≡◌, refl, Bool, true, ◌&&◌, List, [], ◌∷◌, eqb, ℤ, pos, neg_ℤ}
use Rattle.register.specs.declared.Ground.TheVariants.{Area, Box}
use Rattle.register.specs.declared.Licence.{Licence}
use Rattle.register.specs.Licences.{
  full_licence,
  box_formed,
  ground_formed,
  width_formed,
  well_formed,
  has_sign,
}
use Rattle.register.specs.Rules.{grant_rule, cancel_rule}

-- a licence of 50 MHz by its call sign and its area
abbrev pub of_area : ℕ → ℕ → Licence
of_area s n = full_licence s (Area n)

-- a licence for area 1 by its call sign and its width
abbrev pub of_width : ℕ → ℕ → Licence
of_width s w = record (of_area s 1) { width = w }

-- a licence of 50 MHz and call sign 1 by the edges of its box: south, north, west, east
abbrev pub of_box : ℤ → ℤ → ℤ → ℤ → Licence
of_box s n w e = full_licence 1 (Box (record { south = s; north = n; west = w; east = e }))

-- lines with the call signs 1 to n
abbrev pub lines : ℕ → List Licence
lines zero = []
lines (suc n) = of_area (suc n) 1 ∷ lines n

-- the lines, the licence to grant, and the number that comes
pub data GrantRow : Type 0 where
  grants : List Licence → Licence → ℕ → GrantRow

-- "Refused by the input" 6, "Refused by the state" 9 and 10, in the order that a grant gives them
abbrev pub grant_rows : List GrantRow
grant_rows =
    -- accepted, and call sign 0
    grants (lines 3) (of_area 7 1) 0 ∷
    grants (lines 3) (of_area 0 1) 6 ∷
    -- PEA numbers
    grants [] (of_area 1 0) 6 ∷
    grants [] (of_area 1 1) 0 ∷
    grants [] (of_area 1 416) 0 ∷
    grants [] (of_area 1 417) 6 ∷
    -- south < north and west < east
    grants [] (of_box (pos 0) (pos 1) (pos 0) (pos 1)) 0 ∷
    grants [] (of_box (pos 1) (pos 1) (pos 0) (pos 1)) 6 ∷
    grants [] (of_box (pos 1) (pos 0) (pos 0) (pos 1)) 6 ∷
    grants [] (of_box (pos 0) (pos 1) (pos 1) (pos 1)) 6 ∷
    grants [] (of_box (pos 0) (pos 1) (pos 1) (pos 0)) 6 ∷
    grants [] (of_box (neg_ℤ (pos 1)) (pos 0) (neg_ℤ (pos 2)) (neg_ℤ (pos 1))) 0 ∷
    -- edges at the ends of their ranges, and one past each
    grants [] (of_box (neg_ℤ (pos 32_400_000)) (pos 32_400_000) (neg_ℤ (pos 64_800_000)) (pos 64_800_000)) 0 ∷
    grants [] (of_box (neg_ℤ (pos 32_400_001)) (pos 32_400_000) (neg_ℤ (pos 64_800_000)) (pos 64_800_000)) 6 ∷
    grants [] (of_box (neg_ℤ (pos 32_400_000)) (pos 32_400_001) (neg_ℤ (pos 64_800_000)) (pos 64_800_000)) 6 ∷
    grants [] (of_box (neg_ℤ (pos 32_400_000)) (pos 32_400_000) (neg_ℤ (pos 64_800_001)) (pos 64_800_000)) 6 ∷
    grants [] (of_box (neg_ℤ (pos 32_400_000)) (pos 32_400_000) (neg_ℤ (pos 64_800_000)) (pos 64_800_001)) 6 ∷
    -- document 02, Paper 4: widths at the ends of 1 to 50, and one past each
    grants [] (of_width 1 0) 6 ∷
    grants [] (of_width 1 1) 0 ∷
    grants [] (of_width 1 50) 0 ∷
    grants [] (of_width 1 51) 6 ∷
    -- 9, and 6 before 9
    grants (lines 3) (of_area 3 1) 9 ∷
    grants (lines 3) (of_area 3 0) 6 ∷
    grants (lines 3) (of_width 3 51) 6 ∷
    -- 10, 9 before 10, 6 before 10, and the last licence that has room
    grants (lines 64) (of_area 65 1) 10 ∷
    grants (lines 64) (of_area 64 1) 9 ∷
    grants (lines 64) (of_area 65 0) 6 ∷
    grants (lines 64) (of_width 65 0) 6 ∷
    grants (lines 63) (of_area 65 1) 0 ∷ []

-- every row has the number that the rule gives
abbrev pub grants_right : List GrantRow → Bool
grants_right [] = true
grants_right (grants ls l n ∷ rows) = eqb (grant_rule ls l) n && grants_right rows

pub grants-right : grants_right grant_rows ≡ true
unfolding grant_rule well_formed ground_formed box_formed width_formed has_sign
grants-right = refl

-- the lines, the call sign to cancel, and the number that comes
pub data CancelRow : Type 0 where
  cancels : List Licence → ℕ → ℕ → CancelRow

-- "Refused by the state" 11
abbrev pub cancel_rows : List CancelRow
cancel_rows =
    cancels (lines 3) 2 0 ∷
    cancels (lines 3) 4 11 ∷
    cancels (lines 3) 0 11 ∷
    cancels [] 1 11 ∷ []

-- every row has the number that the rule gives
abbrev pub cancels_right : List CancelRow → Bool
cancels_right [] = true
cancels_right (cancels ls s n ∷ rows) = eqb (cancel_rule ls s) n && cancels_right rows

pub cancels-right : cancels_right cancel_rows ≡ true
unfolding cancel_rule has_sign
cancels-right = refl
