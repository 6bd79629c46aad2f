-- Document 01, "The list of demand 3": the calls of a list, and what comes of each in document 01's own terms. Assumes nothing.
use Rattle.std.specs.Prelude.{ℕ, List}
use Rattle.register.specs.declared.Ground.{Ground}
use Rattle.register.specs.declared.Licence.{Licence}
use Rattle.register.specs.Licences.{full_width}
use Rattle.proposal.specs.Answer.{Proposal}
use Rattle.footprint.specs.Promises.{Reply}

-- document 02, Paper 4: a licence is granted with a width in MHz, or without one
pub data Width : Type 0 where
  without : Width
  mhz : ℕ → Width

-- document 02, Paper 4: "a licence granted without one counts as 50"
abbrev pub width_of : Width → ℕ
width_of without = full_width
width_of (mhz n) = n

-- the licence that a grant is of: its call sign, its ground and its width
abbrev pub licence : (s : ℕ) → (ground : Ground) → Width → Licence
licence s g w = record { call_sign = s; ground = g; width = width_of w }

-- "The list of demand 3": a call with its arguments, but for the register and the map. "Draws, masks and tables may be any at each
-- call"
pub data Call : Type 0 where
  grant : (s : ℕ) (g : Ground) (w : Width) → Call
  cancel : (s : ℕ) → Call
  propose : (draw : ℕ) → Call
  footprint : (draw : ℕ) → (mask table : List ℕ) → Call

-- what comes of a footprint: its answer, and the mask and the table as it leaves them
pub record Outlined (A : Type 0) : Type 0 where
  pub answer : A
  pub mask : List ℕ
  pub table : List ℕ

-- "The list of demand 3": what comes of a call, accepted or refused. Of a grant and a cancellation it is a number, 0 where they are
-- accepted
abbrev pub Outcome : Call → Type 0
Outcome (grant s g w) = ℕ
Outcome (cancel s) = ℕ
Outcome (propose draw) = Proposal
Outcome (footprint draw mask table) = Outlined Reply

-- "Refused by the input", "Refused by the state": the number of an outcome, 0 where nothing is refused
abbrev pub number : (c : Call) → Outcome c → ℕ
number (grant s g w) n = n
number (cancel s) n = n
number (propose draw) p = p.refused
number (footprint draw mask table) o = o.answer.refused
