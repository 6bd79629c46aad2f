-- What `play` ensures leaves nothing open of its counts, of the mask and of the licences that the register holds, over any bytes: they
-- are those of specs/Told. Assumes nothing.
use Prim.Native.Nat.{ℕ, zero, suc, ◌+◌, ◌*◌, ◌/◌, ◌≤◌, ◌<◌}
use mathlib.Core.Path.{◌≡◌, refl, sym, ap, subst, ◌∙◌}
use mathlib.Core.List.{List, [], ◌∷◌}
use native.Mathlib.Omega.{arith}
use lib.Dec.{eqb}
use lib.ListN.{length, get_or}
use Rattle.lists.proofs.Tests.{by-test}
use Rattle.map.specs.Reading.{Read}
use Rattle.map.specs.Format.{field, Area, read_map}
use Rattle.register.specs.declared.Licence.{Licence}
use Rattle.proposal.specs.Answer.{refused_by, proposal_on}
use Rattle.footprint.specs.Footprint.{footprint_on}
use Rattle.footprint.specs.Promises.{Reply, reply_of, mask_after}
use Rattle.ledger.specs.declared.Played.{Played}
use Rattle.demand3.specs.Calls.{Call, grant, cancel, propose, footprint, Outlined}
use Rattle.demand3.specs.Ledger.{lines_after, ledger}
use Rattle.demand3.specs.Interface.{Saying, calls, number_of}
use Rattle.demand3.specs.Right.{AsDefined, Holds, Each}
use Rattle.ledger.specs.Engine.{function, Made}
use Rattle.ledger.specs.Played.{Item, call, unknown, item_at, mask_left, table_left, masks_left, tables_left, Follows, refusals, PlayDone}
use Rattle.ledger.specs.Told.{Told, number_by, mask_by, one_more, item_told, told_from, told}
use Rattle.ledger.specs.Examples.{eight}
use Rattle.ledger.proofs.Engine.{proposal-number}

-- ---- a call that is lent another table

abbrev lending : List ℕ → Call → Call
lending t (grant s g w) = grant s g w
lending t (cancel s) = cancel s
lending t (propose draw) = propose draw
lending t (footprint draw mask table) = footprint draw mask t

abbrev item_lending : List ℕ → Item → Item
item_lending t (call c) = call (lending t c)
item_lending t unknown = unknown

-- only the table of an item's call comes from the table that is lent
item-lending : (words : List ℕ) (at : ℕ) (mask table t : List ℕ) → item_at words at mask t ≡ item_lending t (item_at words at mask table)
unfolding item_at
item-lending words at mask table t =
    by-test (eqb (get_or words at 0) 0) (λ a. simp a)
    (λ a. by-test (eqb (get_or words at 0) 1) (λ b. simp (a, b))
    (λ b. by-test (eqb (get_or words at 0) 2) (λ d. simp (a, b, d))
    (λ d. by-test (eqb (get_or words at 0) 3) (λ e. simp (a, b, d, e))
    (λ e. by-test (eqb (get_or words at 0) 4) (λ f. simp (a, b, d, e, f)) (λ f. simp (a, b, d, e, f))))))

number-lending : (m : Read (List Area)) (lines : List Licence) (t u : List ℕ) → length t ≡ length u → (c : Call) →
    number_by m lines (lending t c) ≡ number_by m lines (lending u c)
number-lending m lines t u e (grant s g w) = refl
number-lending m lines t u e (cancel s) = refl
number-lending m lines t u e (propose draw) = refl
number-lending m lines t u e (footprint draw mask table) =
    ap (λ (n : ℕ). (reply_of (footprint_on m lines draw (length mask) n)).refused) e

mask-lending : (m : Read (List Area)) (lines : List Licence) (mask t u : List ℕ) → length t ≡ length u → (c : Call) →
    mask_by m lines (lending t c) mask ≡ mask_by m lines (lending u c) mask
mask-lending m lines mask t u e (grant s g w) = refl
mask-lending m lines mask t u e (cancel s) = refl
mask-lending m lines mask t u e (propose draw) = refl
mask-lending m lines mask t u e (footprint draw lent table) = ap (λ (n : ℕ). mask_after (footprint_on m lines draw (length lent) n) lent) e

lines-lending : (lines : List Licence) (t : List ℕ) (c : Call) → lines_after lines (lending t c) ≡ lines_after lines c
lines-lending lines t (grant s g w) = refl
lines-lending lines t (cancel s) = refl
lines-lending lines t (propose draw) = refl
lines-lending lines t (footprint draw mask table) = refl

-- ---- what an answer says, if it is as document 01 defines it

module _ (m : Read (List Area)) (lines : List Licence) where
  said-number : (c : Call) (a : (function c).Answer) → Saying (function c) a (AsDefined m lines c) →
      (function c).number a ≡ number_by m lines c
  said-number (grant k g w) a s = s.says ∙ s.holds
  said-number (cancel k) a s = s.says ∙ s.holds
  said-number (propose draw) a s = proposal-number a s.outcome s.says ∙ ap (λ p. p.refused) s.holds
  said-number (footprint draw mask table) a s =
      ap (λ (o : Outlined Reply). o.answer.refused) s.says ∙ ap (λ (r : Reply). r.refused) s.holds.answer

  said-mask : (c : Call) (a : (function c).Answer) (mask : List ℕ) → Saying (function c) a (AsDefined m lines c) →
      mask_left c a mask ≡ mask_by m lines c mask
  said-mask (grant k g w) a mask s = refl
  said-mask (cancel k) a mask s = refl
  said-mask (propose draw) a mask s = refl
  said-mask (footprint draw lent table) a mask s = ap (λ (o : Outlined Reply). o.mask) s.says ∙ s.holds.bytes

  -- of a call that is lent the table
  said-table : (table : List ℕ) (c : Call) (a : (function c).Answer) → c ≡ lending table c →
      Saying (function c) a (AsDefined m lines c) → length (table_left c a table) ≡ length table
  said-table table (grant k g w) a e s = refl
  said-table table (cancel k) a e s = refl
  said-table table (propose draw) a e s = refl
  said-table table (footprint draw mask entries) a e s =
      ap (λ (o : Outlined Reply). length o.table) s.says ∙ s.holds.size ∙ ap (λ (c : Call). length (table_of c)) e
    where
      table_of : Call → List ℕ
      table_of (grant s g w) = []
      table_of (cancel s) = []
      table_of (propose draw) = []
      table_of (footprint draw mask table) = table

-- ---- the call of an item, beside the same item with another table of that length

abbrev call_of : Call → Item → Call
call_of other (call c) = c
call_of other unknown = other

module _ (m : Read (List Area)) (lines : List Licence) (words : List ℕ) (at : ℕ) (mask table : List ℕ) (c : Call)
    (is : item_at words at mask table ≡ call c)
  where
    own-table : c ≡ lending table c
    own-table = ap (call_of c) (sym is ∙ item-lending words at mask table table ∙ ap (item_lending table) is)

    module _ (a : (function c).Answer) (s : Saying (function c) a (AsDefined m lines c)) where
      table-left : length (table_left c a table) ≡ length table
      table-left = said-table m lines table c a own-table s

      module _ (t : List ℕ) (size : length table ≡ length t) where
        other-number : number_by m lines (lending t c) ≡ (function c).number a
        other-number =
            number-lending m lines t table (sym size) c ∙ ap (number_by m lines) (sym own-table) ∙ sym (said-number m lines c a s)

        other-mask : mask_by m lines (lending t c) mask ≡ mask_left c a mask
        other-mask =
            mask-lending m lines mask t table (sym size) c ∙ ap (λ (d : Call). mask_by m lines d mask) (sym own-table)
            ∙ sym (said-mask m lines c a mask s)

-- ---- a list

-- what was made of a list, as it is told
abbrev told_of : List ℕ → List Licence → List Made → Told
told_of mask lines made = record {
  calls = length made;
  refused = refusals made;
  mask = masks_left made mask;
  lines = ledger lines (calls made);
}

module _ (m : Read (List Area)) (words table₀ : List ℕ) where
  -- an item and what is told after it
  abbrev item_then : (n at : ℕ) (mask : List ℕ) → List Licence → Item → Told
  item_then n at mask lines item =
      item_told m mask lines item (λ c. told_from m words n (at + 8) (mask_by m lines c mask) table₀ (lines_after lines c))

  list-told : (n at : ℕ) (mask table : List ℕ) (lines : List Licence) (made : List Made) → length table ≡ length table₀
      → Follows words at mask table made → Each (AsDefined m) lines made → length made ≤ n → (end : ℕ) → end ≡ at + 8 * length made
      → (length made < n → item_at words end (masks_left made mask) (tables_left made table) ≡ unknown)
      → told_from m words n at mask table₀ lines ≡ told_of mask lines made
  list-told zero at mask table lines [] size f h within end e ends = refl
  list-told (suc n) at mask table lines [] size f h within end e ends =
      let here : end ≡ at = e ∙ (let z : at + 0 ≡ at = omega arith in z) in
      let is = subst (λ (k : ℕ). item_at words k mask table ≡ unknown) here (ends (omega arith)) in
      ap (item_then n at mask lines) (item-lending words at mask table table₀ ∙ ap (item_lending table₀) is)
  list-told zero at mask table lines (x ∷ made) size f h within end e ends = absurd (omega arith)
  list-told (suc n) at mask table lines (x ∷ made) size f h within end e ends =
      let c = x.call in
      let a = x.answer in
      let left = table-left m lines words at mask table c f.0 a h.0 in
      let number = other-number m lines words at mask table c f.0 a h.0 table₀ size in
      let masks = other-mask m lines words at mask table c f.0 a h.0 table₀ size in
      let later = list-told n (at + 8) (mask_left c a mask) (table_left c a table) (lines_after lines c) made (left ∙ size) f.1 h.1
      (omega arith) end (omega arith) (λ below. ends (omega arith)) in
      ap (item_then n at mask lines) (item-lending words at mask table table₀ ∙ ap (item_lending table₀) f.0)
      ∙ (λ j. one_more (number j) (told_from m words n (at + 8) (masks j) table₀ (lines-lending lines table₀ c j)))
      ∙ ap (one_more (number_of x)) later

-- what `play` ensures tells its counts, the mask that it leaves and the licences in force, whatever bytes it is lent as a map. Of the table
-- its run tells all but the entries that a footprint uses (`Leaves`)
pub play-pinned : (map words mask after table entries : List ℕ) (r : Played) → PlayDone map words mask after table entries r →
    let t = told (read_map map) words mask table in
    (r.calls ≡ t.calls) × (r.refused ≡ t.refused) × (after ≡ t.mask) × Holds r.register t.lines
play-pinned map words mask after table entries r d =
    let made = d.made in
    let e = list-told (read_map map) words table (length words / 8) 0 mask table [] made refl d.follows d.claim.defined d.within
    (8 * length made) (omega arith)
    (λ below. (λ j. item_at words (8 * length made) (sym d.masks j) (sym d.tables j)) ∙ d.ends below) in (
      d.counted ∙ ap (λ (t : Told). t.calls) (sym e),
      d.refused ∙ ap (λ (t : Told). t.refused) (sym e),
      d.masks ∙ ap (λ (t : Told). t.mask) (sym e),
      subst (Holds r.register) (ap (λ (t : Told). t.lines) (sym e)) d.register,
    )

-- so over no bytes at all, which 1 refuses, a proposal is told as refused: an answer that tells 0 refusals there doesn't meet the contract
pub refusal-told : (mask after table entries : List ℕ) (r : Played) → PlayDone [] (eight 2 5 []) mask after table entries r →
    r.refused ≡ 1
unfolding read_map field item_at proposal_on refused_by
refusal-told mask after table entries r d = (play-pinned [] (eight 2 5 []) mask after table entries r d).1
