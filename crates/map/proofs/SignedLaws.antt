-- Laws of signed tests. Assumes nothing.
use Rattle.std.proofs.Common.{◌≡◌, ℕ, suc, ◌-◌, arith, w32, to_z}
use Rattle.map.specs.Format.{signed32}

-- the i32 of 32 bits is their two's complement
pub signed_is : (v : ℕ) → to_z w32 v ≡ signed32 v
unfolding signed32
signed_is v = let next : 4294967296 - suc v ≡ 4294967295 - v = omega arith in rw next
