-- Laws of a list that is played: one call more at the end, and the loop of `play`. Assumes nothing.
use Prim.Native.Nat.{ℕ, ◌+◌, ◌*◌, ◌/◌, ◌≤◌, ◌<◌}
use mathlib.Core.Path.{◌≡◌, refl, sym, ap, subst, ◌∙◌}
use mathlib.Core.Bool.{Bool, not}
use mathlib.Core.List.{List, [], ◌∷◌, ◌++◌}
use native.Mathlib.Omega.{arith}
use lib.Dec.{eqb}
use lib.ListN.{length}
use Rattle.lists.specs.Sums.{flag}
use Rattle.lists.proofs.SumLaws.{total-append}
use Rattle.register.specs.declared.Register.{Register}
use Rattle.demand3.specs.Calls.{Call}
use Rattle.demand3.specs.Interface.{number_of, Run, done, step}
use Rattle.ledger.specs.Engine.{engine, function, Made}
use Rattle.ledger.specs.Played.{
  call,
  unknown,
  item_at,
  mask_left,
  table_left,
  masks_left,
  tables_left,
  Follows,
  refusals,
  PlayDone,
}
use Rattle.ledger.specs.Code.{CallDone}
use Rattle.ledger.proofs.CallLaws.{flag-le}
use Rattle.demand3.proofs.Lists.{last-holds}
use Rattle.ledger.proofs.Engine.{engine-demand-3}

-- ---- one call more

run-next : {map : List ℕ} {first r next : Register} {made : List Made} → Run engine map first made r
    → (m : Made) → (function m.call).Step map r m.answer next → Run engine map first (made ++ (m ∷ [])) next
run-next done m s = step m s done
run-next (step first t run) m s = step first t (run-next run m s)

length-next : (made : List Made) (m : Made) → length (made ++ (m ∷ [])) ≡ length made + 1
length-next [] m = refl
length-next (first ∷ made) m = let h = length-next made m in omega arith

masks-next : (made : List Made) (m : Made) (mask : List ℕ)
    → masks_left (made ++ (m ∷ [])) mask ≡ mask_left m.call m.answer (masks_left made mask)
masks-next [] m mask = refl
masks-next (first ∷ made) m mask = masks-next made m (mask_left first.call first.answer mask)

tables-next : (made : List Made) (m : Made) (table : List ℕ)
    → tables_left (made ++ (m ∷ [])) table ≡ table_left m.call m.answer (tables_left made table)
tables-next [] m table = refl
tables-next (first ∷ made) m table = tables-next made m (table_left first.call first.answer table)

follows_next : (words : List ℕ) (at : ℕ) (mask table : List ℕ) (made : List Made) (m : Made) → Follows words at mask table made
    → (end : ℕ) → end ≡ at + 8 * length made → item_at words end (masks_left made mask) (tables_left made table) ≡ call m.call
    → Follows words at mask table (made ++ (m ∷ []))
follows_next words at mask table [] m f end e is =
    (subst (λ (n : ℕ). item_at words n mask table ≡ call m.call) (e ∙ (let h : at + 0 ≡ at = omega arith in h)) is, tt)
follows_next words at mask table (first ∷ made) m f end e is = (
  f.0,
  follows_next words (at + 8) (mask_left first.call first.answer mask) (table_left first.call first.answer table) made m
      f.1 end (omega arith) is,
)

-- ---- the loop

-- the first calls of the words were made, from an empty register
pub record Playing (map words mask₀ table₀ mask table : List ℕ) (r : Register) (refused i : ℕ) : Type 0 where
  pub first : Register
  pub empty : engine.Empties first
  pub made : List Made
  pub run : Run engine map first made r
  pub size : length made ≡ i
  pub within : i ≤ length words / 8
  pub follows : Follows words 0 mask₀ table₀ made
  pub masks : mask ≡ masks_left made mask₀
  pub tables : table ≡ tables_left made table₀
  pub counted : refused ≡ refusals made
  pub few : refused ≤ i
  pub mask_size : length mask ≡ length mask₀
  pub table-size : length table ≡ length table₀

module _ (map words mask₀ table₀ : List ℕ) where
  pub playing-starts : (r : Register) → engine.Empties r → Playing map words mask₀ table₀ mask₀ table₀ r 0 0
  playing-starts r e = record {
    first = r;
    empty = e;
    made = [];
    run = done;
    size = refl;
    within = omega arith;
    follows = tt;
    masks = refl;
    tables = refl;
    counted = refl;
    few = omega arith;
    mask_size = refl;
    table-size = refl;
  }

  module _ {mask table : List ℕ} {r : Register} {refused i : ℕ} (p : Playing map words mask₀ table₀ mask table r refused i) where
    pub playing-turns : (c : Call) → item_at words (8 * i) mask table ≡ call c → i < length words / 8
        → {after entries : List ℕ} {next : Register} {said : Bool} {total : ℕ}
        → CallDone map r c (record { mask = mask; after = after; table = table; entries = entries; next = next; refused = said })
        → total ≡ refused + flag said → length after ≡ length mask → length entries ≡ length table
        → Playing map words mask₀ table₀ after entries next total (i + 1)
    playing-turns c says below {after} {entries} {next} {said} {total} d sums same-mask same-table =
        let m : Made = record { call = c; answer = d.answer } in
        let size = p.size in
        let few = p.few in
        let one = flag-le said in
        let is_one : flag said ≡ flag (not (eqb (number_of m) 0)) = ap flag d.refused in
        let counted = p.counted in
        let sum = total-append (λ (x : Made). flag (not (eqb (number_of x) 0))) p.made (m ∷ []) in
        record {
          first = p.first;
          empty = p.empty;
          made = p.made ++ (m ∷ []);
          run = run-next p.run m d.steps;
          size = length-next p.made m ∙ ap (λ (k : ℕ). k + 1) size;
          within = omega arith;
          follows = follows_next words 0 mask₀ table₀ p.made m p.follows (8 * i) (omega arith)
              ((λ j. item_at words (8 * i) (sym p.masks j) (sym p.tables j)) ∙ says);
          masks = d.masks ∙ ap (mask_left c d.answer) p.masks ∙ sym (masks-next p.made m mask₀);
          tables = d.tables ∙ ap (table_left c d.answer) p.tables ∙ sym (tables-next p.made m table₀);
          counted = omega arith;
          few = omega arith;
          mask_size = same-mask ∙ p.mask_size;
          table-size = same-table ∙ p.table-size;
        }

    pub playing-ends : (i < length words / 8 → item_at words (8 * i) mask table ≡ unknown)
        → PlayDone map words mask₀ mask table₀ table (record { register = r; calls = i; refused = refused })
    playing-ends ends =
        let within = p.within in
        let size = p.size in
        let claim = engine-demand-3.claim map p.first r p.made p.empty p.run in
        record {
          made = p.made;
          first = p.first;
          empty = p.empty;
          run = p.run;
          within = omega arith;
          follows = p.follows;
          ends = subst (λ (k : ℕ). k < length words / 8 → item_at words (8 * k) mask table ≡ unknown) (sym size) ends;
          masks = p.masks;
          tables = p.tables;
          counted = sym size;
          refused = p.counted;
          claim = claim;
          register = last-holds [] p.run claim.registers;
        }
