-- Coordinates in hundredths of an arc second; "Degrees south and west are negative". Assumes nothing.
use Rattle.std.specs.Prelude.{Bool, ◌&&◌, ℤ, pos, neg_ℤ}
use Rattle.std.specs.Int.Signed.{le_z}

-- a range, both ends included
abbrev pub within_z : (low high z : ℤ) → Bool
within_z low high z = le_z low z && le_z z high

-- "The map": latitude, ±32,400,000
abbrev pub is_latitude : ℤ → Bool
is_latitude z = within_z (neg_ℤ (pos 32_400_000)) (pos 32_400_000) z

-- "The map": longitude, ±64,800,000
abbrev pub is_longitude : ℤ → Bool
is_longitude z = within_z (neg_ℤ (pos 64_800_000)) (pos 64_800_000) z
