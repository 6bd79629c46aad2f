-- What stands in the bytes of a file of cases, and what a caller goes on with after a call. Assumes nothing.
use Rattle.std.specs.Prelude.{ℕ, ℤ, ◌+◌, ◌==◌, cond, List, take, drop, length, get_or, leb, Option, Some, None, Result, Ok, Err}
use Rattle.map.specs.Reading.{Read, bad, good}
use Rattle.map.specs.Format.{unsigned_field, signed32}
use Rattle.register.specs.declared.Ground.{Ground}
use Rattle.register.specs.declared.Ground.TheVariants as kind
use Rattle.register.specs.declared.Licence.{Licence}
use Rattle.register.specs.Licences.{full_licence}

-- what was read, 0 where nothing was
abbrev pub value_or_zero : Read ℕ → ℕ
value_or_zero (good v e) = v
value_or_zero (bad f) = 0

abbrev pub u16_in : List ℕ → (at : ℕ) → ℕ
u16_in s at = value_or_zero (unsigned_field s at 2 0 65535)

abbrev pub u32_in : List ℕ → (at : ℕ) → ℕ
u32_in s at = value_or_zero (unsigned_field s at 4 0 4294967295)

abbrev pub i32_in : List ℕ → (at : ℕ) → ℤ
i32_in s at = signed32 (u32_in s at)

-- the bytes of the map whose length stands first
abbrev pub map_in : List ℕ → Option (List ℕ)
map_in s = cond (leb (4 + u32_in s 0) (length s)) (Some (take (u32_in s 0) (drop 4 s))) None

-- 0 and an area's number, or else the four edges of a box
abbrev pub ground_in : List ℕ → Ground
ground_in s =
    cond (get_or s 5 0 == 0)
    (kind.Area (u16_in s 6))
    (kind.Box (record {
      south = i32_in s 8;
      north = i32_in s 12;
      west = i32_in s 16;
      east = i32_in s 20;
    }))

abbrev licence_of : (sign : ℕ) → (ground : Ground) → (width : ℕ) → Licence
licence_of sign ground width = record { call_sign = sign; ground = ground; width = width }

-- 71 is the letter G, a grant without a width
abbrev pub licence_in : List ℕ → Licence
licence_in s =
    cond (get_or s 0 0 == 71)
    (full_licence (u32_in s 1) (ground_in s))
    (licence_of (u32_in s 1) (ground_in s) (u32_in s 24))

-- a refused call leaves the caller with what it had
abbrev pub next_of : {T E : Type 0} → T → Result T E → T
next_of before (Ok next) = next
next_of before (Err refusal) = before
