-- Items read from words by hand: one of each kind, with both kinds of ground, and one that is no call; and what three lists come to.
-- Assumes nothing.
use Rattle.std.specs.Prelude.{ℕ, ◌+◌, ◌*◌, ◌≡◌, refl, List, [], ◌∷◌, map, pos, negsuc}
use Rattle.map.specs.Reading.{bad}
use Rattle.map.specs.Format.{signed32}
use Rattle.register.specs.declared.Ground.TheVariants as ground
use Rattle.register.specs.Licences.{well_formed, ground_formed, width_formed, has_sign}
use Rattle.register.specs.Rules.{grant_rule, cancel_rule}
use Rattle.proposal.specs.Answer.{refused_by, proposal_on}
use Rattle.footprint.specs.Footprint.{footprint_on}
use Rattle.demand3.specs.Calls.{without, mhz, licence, grant, cancel, propose, footprint}
use Rattle.ledger.specs.Played.{ground_at, call, unknown, item_at}
use Rattle.ledger.specs.Told.{Told, told}

abbrev pub words : List ℕ
words =
    0 ∷ 7 ∷ 0 ∷ 65_539 ∷ 0 ∷ 0 ∷ 0 ∷ 0 ∷
    0 ∷ 8 ∷ 1 ∷ 0 ∷ 4_294_967_295 ∷ 36 ∷ 2_147_483_648 ∷ 2_147_483_647 ∷
    1 ∷ 7 ∷ 0 ∷ 0 ∷ 0 ∷ 0 ∷ 0 ∷ 0 ∷
    2 ∷ 5 ∷ 0 ∷ 0 ∷ 0 ∷ 0 ∷ 0 ∷ 0 ∷
    3 ∷ 6 ∷ 0 ∷ 0 ∷ 0 ∷ 0 ∷ 0 ∷ 0 ∷
    4 ∷ 9 ∷ 0 ∷ 1_310_723 ∷ 0 ∷ 0 ∷ 0 ∷ 0 ∷
    5 ∷ 6 ∷ 0 ∷ 0 ∷ 0 ∷ 0 ∷ 0 ∷ 0 ∷
    4 ∷ 9 ∷ 1 ∷ 1_310_723 ∷ 0 ∷ 36 ∷ 0 ∷ 36 ∷ []

-- an area's number is its low 16 bits
pub grants-area : (mask table : List ℕ) → item_at words 0 mask table ≡ call (grant 7 (ground.Area 3) without)
unfolding item_at ground_at
grants-area mask table = refl

-- edges from 2^31 on are below 0
pub grants-box : (mask table : List ℕ) → item_at words 8 mask table ≡ call (grant 8
    (ground.Box (record { south = negsuc 0; north = pos 36; west = negsuc 2_147_483_647; east = pos 2_147_483_647 })) without)
unfolding item_at ground_at signed32
grants-box mask table = refl

pub cancels : (mask table : List ℕ) → item_at words 16 mask table ≡ call (cancel 7)
unfolding item_at
cancels mask table = refl

pub proposes : (mask table : List ℕ) → item_at words 24 mask table ≡ call (propose 5)
unfolding item_at
proposes mask table = refl

pub outlines : (mask table : List ℕ) → item_at words 32 mask table ≡ call (footprint 6 mask table)
unfolding item_at
outlines mask table = refl

-- 20 × 65,536 + 3: area 3, and a width of 20 MHz
pub grants-width : (mask table : List ℕ) → item_at words 40 mask table ≡ call (grant 9 (ground.Area 3) (mhz 20))
unfolding item_at ground_at
grants-width mask table = refl

-- a width beside a box, for which the low 16 bits of its word are not read
pub grants-width-box : (mask table : List ℕ) → item_at words 56 mask table ≡ call (grant 9
    (ground.Box (record { south = pos 0; north = pos 36; west = pos 0; east = pos 36 })) (mhz 20))
unfolding item_at ground_at signed32
grants-width-box mask table = refl

-- no call has the kind 5
pub says_none : (mask table : List ℕ) → item_at words 48 mask table ≡ unknown
unfolding item_at
says_none mask table = refl

-- ---- what a list comes to over bytes that are refused by 3, with a mask of two bytes and no table

-- eight words and those after them: a kind, a call sign or a draw, and area 3 as the ground
abbrev pub eight : (kind word : ℕ) → List ℕ → List ℕ
eight kind word later = kind ∷ word ∷ 0 ∷ 3 ∷ 0 ∷ 0 ∷ 0 ∷ 0 ∷ later

-- the same of a grant with a width
abbrev pub eight_wide : (word width : ℕ) → List ℕ → List ℕ
eight_wide word width later = 4 ∷ word ∷ 0 ∷ (65536 * width + 3) ∷ 0 ∷ 0 ∷ 0 ∷ 0 ∷ later

abbrev pub lists : List (List ℕ)
lists =
    -- a grant is accepted and then refused by 9, a cancellation is refused by 11, a proposal and a footprint by 3, and the licence is
    -- cancelled; the last word is no item
    eight 0 7 (eight 0 7 (eight 1 8 (eight 2 5 (eight 3 5 (eight 1 7 (2 ∷ [])))))) ∷
    -- a grant is refused by 6 and another accepted; no call has the kind 5, so the list ends before the cancellation
    eight 0 0 (eight 0 7 (eight 5 7 (eight 1 7 []))) ∷
    -- widths of 0 and of 51 are refused by 6, a width of 20 is accepted and stands in the line
    eight_wide 7 0 (eight_wide 7 51 (eight_wide 7 20 [])) ∷ []

abbrev pub results : List Told
results =
    record { calls = 6; refused = 4; mask = 9 ∷ 9 ∷ []; lines = [] } ∷
    record { calls = 2; refused = 1; mask = 9 ∷ 9 ∷ []; lines = licence 7 (ground.Area 3) without ∷ [] } ∷
    record { calls = 3; refused = 2; mask = 9 ∷ 9 ∷ []; lines = licence 7 (ground.Area 3) (mhz 20) ∷ [] } ∷ []

pub lists-told : map (λ words. told (bad 3) words (9 ∷ 9 ∷ []) []) lists ≡ results
unfolding item_at ground_at well_formed ground_formed width_formed has_sign grant_rule cancel_rule proposal_on refused_by footprint_on
lists-told = refl
