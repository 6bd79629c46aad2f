-- Laws of signed tests. Assumes nothing.
use Prim.Native.Nat.{ℕ, ◌+◌}
use mathlib.Core.Path.{◌≡◌, sym, ◌∙◌}
use mathlib.Core.Bool.{Bool, true, ◌&&◌}
use lib.IntN.{ℤ}
use lib.Signed.{le_z, lt_z}
use mir.Syntax.{w32}
use mir.Val.{SFits, to_z, of_z}
use mir.Facts.{to_z-of_z}
use Rattle.boxes.specs.Rows.{join_to}
use Rattle.boxes.specs.declared.rows.Span.{Span}
use Rattle.boxes.proofs.OrderLaws.{join-next}

-- a span's test is made on what is read back from the edges' bits
pub told_span : (s : Span) {low high : ℤ} {told : Bool} → SFits w32 low → SFits w32 high
    → told ≡ le_z (to_z w32 (of_z w32 low)) s.least && lt_z s.greatest (to_z w32 (of_z w32 high)) → told ≡ true
    → le_z low s.least && lt_z s.greatest high ≡ true
told_span s fl fh h t = sym (h ∙ (λ i. le_z (to_z-of_z fl i) s.least && lt_z s.greatest (to_z-of_z fh i))) ∙ t

-- coordinates are joined on what is read back from their bits
pub plain-next : (join : ℤ → ℤ → ℤ) (start : ℤ) (f : ℕ → ℤ) (k : ℕ) {a r : ℤ} → a ≡ join_to join start f k
    → r ≡ join a (to_z w32 (of_z w32 (f k))) → SFits w32 r → SFits w32 (f k) → to_z w32 (of_z w32 r) ≡ join_to join start f (k + 1)
plain-next join start f k e q fr fk = to_z-of_z fr ∙ q ∙ (λ i. join (e i) (to_z-of_z fk i)) ∙ join-next join start f k
