-- From the areas of a map, counted in one pass, to the entries of a record: loading, and sums added or subtracted. Assumes nothing.
use Prim.Native.Nat.{ℕ, zero, suc, ◌+◌, ◌-◌, ◌<◌}
use mathlib.Core.Path.{◌≡◌, refl, sym, ap, subst, ◌∙◌, fun_ext}
use Rattle.std.specs.Prelude.{Option, Some, None}
use mathlib.Core.Bool.{true, cond}
use mathlib.Core.List.{List, [], ◌∷◌, ◌++◌, map, map-append, map-map}
use native.Mathlib.Omega.{arith}
use lib.Dec.{eqb}
use borrow.Author.Tests.{ne_eqb}
use lib.ListN.{length, get_or, take, drop, replicate, length-map, take-append-drop}
use Rattle.std.proofs.lemmas.List.{same_lists, get_or-map}
use Rattle.lists.specs.Sums.{total}
use Rattle.lists.proofs.Tests.{by-test}
use Rattle.map.specs.Reading.{Read, bad, good}
use Rattle.map.specs.Format.{Area}
use Rattle.map.specs.Answers.{Located, none, some, locate}
use Rattle.register.specs.declared.Licence.{Licence}
use Rattle.register.specs.declared.Register.{Register}
use Rattle.register.specs.declared.Step.{Step}
use Rattle.register.specs.Licences.{in_force, well_formed, struck}
use Rattle.register.specs.Rules.{limit, grant_rule}
use Rattle.register.specs.Promises.{EmptyDone, GrantStep}
use Rattle.register.specs.Sums.{SameLicences}
use Rattle.register.proofs.Laws.{accepted-formed, rule-accepted}
use Rattle.register.proofs.Sums.{none-in-force, placed_total}
use Rattle.coverage.specs.declared.Holding.{Holding}
use Rattle.coverage.specs.declared.Holdings.{Holdings}
use Rattle.coverage.specs.Cover.{coverage_sums, holdings_of}
use Rattle.coverage.specs.declared.CoverageSums.{CoverageSums}
use Rattle.coverage.specs.Answers.{answers, no_holding}
use Rattle.coverage.specs.Holdings.{HoldingsAre}
use Rattle.coverage.proofs.SameLaws.{same-holdings}
use Rattle.records.specs.declared.Kept.{Kept}
use Rattle.records.specs.declared.Record.{Record}
use Rattle.records.specs.Record.{kept, no_kept, added_in, subtracted_in, added, subtracted, changed}
use Rattle.records.specs.Promises.{load_by, KeptStep}
use Rattle.records.specs.Code.{sums_in, plus_sums, minus_sums, moved, moved_all}

-- ---- loading

-- an array that is made from another, entry by entry
pub each-made : {A B : Type 0} (f : A → B) (d : A) (from : List A) {into : List B} → length into ≡ length from
    → ((k : ℕ) (e : B) → k < length from → get_or into k e ≡ f (get_or from k d)) → into ≡ map f from
each-made f d from {into} long each =
    same_lists into (map f from) (long ∙ sym (length-map from f))
    (λ k e l. each k e (omega (arith, l, long)) ∙ sym (get_or-map f from k d e (omega (arith, l, long))))

kept-blank : (n : ℕ) → map kept (replicate n no_holding) ≡ replicate n no_kept
kept-blank zero = refl
kept-blank (suc n) = ap (λ l. no_kept ∷ l) (kept-blank n)

-- what is kept of areas that end in blank entries
kept-entries : (count : ℕ) (held : List Holding) (areas : List Holding) → take count areas ≡ held
    → drop count areas ≡ replicate (32 - count) no_holding → map kept areas ≡ map kept held ++ replicate (32 - count) no_kept
kept-entries count held areas each past =
    ap (map kept) (sym (take-append-drop count areas))
    ∙ map-append kept (take count areas) (drop count areas)
    ∙ (λ i. map kept (each i) ++ map kept (past i))
    ∙ ap (λ l. map kept held ++ l) (kept-blank (32 - count))

-- the areas of a map, counted with an empty register
pub load-done : (m : Read (List Area)) (r : Register) (h : Holdings) → EmptyDone r → HoldingsAre (in_force r.places) m h
    → answers (record { count = h.count; areas = map kept h.areas }) ≡ load_by m
load-done m r h e d =
    let same : holdings_of (in_force r.places) d.areas ≡ holdings_of [] d.areas =
    ap (λ ls. holdings_of ls d.areas) (ap in_force e ∙ none-in-force limit) in
    (λ i. answers (record {
      count = d.count i;
      areas = (kept-entries h.count (holdings_of (in_force r.places) d.areas) h.areas d.each d.past
          ∙ (λ j. map kept (same j) ++ replicate (32 - d.count j) no_kept)
          ∙ ap (λ l. l ++ replicate (32 - length d.areas) no_kept) (map-map kept _ d.areas)) i;
    }))
    ∙ ap load_by (sym d.reads)

-- ---- sums added and subtracted

-- the sums of an area of the map
abbrev located : List Licence → Located → Option CoverageSums
located ls none = None
located ls (some a) = Some (coverage_sums ls a)

sums-located : (ls : List Licence) (n : ℕ) (areas : List Area) → sums_in n (holdings_of ls areas) ≡ located ls (locate n areas)
unfolding locate
sums-located ls n [] = refl
sums-located ls n (a ∷ areas) =
    by-test (eqb a.head.number n) (λ t. simp (t, t)) (λ t. simp (t, t) (sums-located ls n areas))

moved-added : (ls : List Licence) (areas : List Area) (k : Kept)
    → moved plus_sums (sums_in k.number (holdings_of ls areas)) k ≡ added ls areas k
moved-added ls areas k = ap (λ s. moved plus_sums s k) (sums-located ls k.number areas) ∙ go (locate k.number areas)
  where
    go : (x : Located) → moved plus_sums (located ls x) k ≡ added_in ls k x
    go none = refl
    go (some a) = refl

moved-subtracted : (ls : List Licence) (areas : List Area) (k : Kept)
    → moved minus_sums (sums_in k.number (holdings_of ls areas)) k ≡ subtracted ls areas k
moved-subtracted ls areas k = ap (λ s. moved minus_sums s k) (sums-located ls k.number areas) ∙ go (locate k.number areas)
  where
    go : (x : Located) → moved minus_sums (located ls x) k ≡ subtracted_in ls k x
    go none = refl
    go (some a) = refl

module _ (ls : List Licence) (areas : List Area) (held : List Holding) (e : held ≡ holdings_of ls areas) (r : Record) where
  all-added : moved_all plus_sums held r ≡ changed (added ls areas) r
  all-added = ap (λ hs. moved_all plus_sums hs r) e ∙ ap (λ (f : Kept → Kept). changed f r) (fun_ext (moved-added ls areas))

  all-subtracted : moved_all minus_sums held r ≡ changed (subtracted ls areas) r
  all-subtracted = ap (λ hs. moved_all minus_sums hs r) e ∙ ap (λ (f : Kept → Kept). changed f r) (fun_ext (moved-subtracted ls areas))

-- ---- a call with a record

-- not refused by the map
pub map-accepts : (m : Read (List Area)) (old : Register) (kept : Record) (Alone : Step → Type 0) (after : List Area → Record)
    (ls : List Licence) (h : Holdings) (d : HoldingsAre ls m h) (r : Step) (k : Record) → Alone r
    → k ≡ cond (eqb r.refusal 0) (after d.areas) kept → KeptStep m old kept Alone after r k
map-accepts m old kept Alone after ls h d r k alone is =
    subst (λ x. KeptStep x old kept Alone after r k) (sym d.reads) (alone, is)

-- "none if refused": a refused call changes neither register nor record
pub refused-stays : (m : Read (List Area)) (old : Register) (kept : Record) (Alone : Step → Type 0) (after : List Area → Record)
    (r : Step) (k : Record) → KeptStep m old kept Alone after r k → (Alone r → r.next ≡ old) → (r.refusal ≡ 0 → ⊥)
    → (r.next ≡ old) × (k ≡ kept)
refused-stays (bad n) old kept Alone after r k d leaves z = (d.1, d.2)
refused-stays (good areas end) old kept Alone after r k d leaves z = (leaves d.0, d.1 ∙ (simp (ne_eqb r.refusal 0 z)))

-- the licence alone, of a grant that is accepted
alone-same : (empty : Register) (l : Licence) (g : Step) → EmptyDone empty → GrantStep empty l g → well_formed l ≡ true
    → SameLicences (in_force g.next.places) (l ∷ [])
alone-same empty l g e d w f =
    let none : in_force empty.places ≡ [] = ap in_force e ∙ none-in-force limit in
    let zero_number = d.number ∙ ap (λ ls. grant_rule ls l) none ∙ rule-accepted [] l w refl (omega arith) in
    placed_total w (d.accepted zero_number) f ∙ ap (λ ls. f l + total f ls) none

-- what an accepted grant makes of the record, by what the licence alone covers
pub grant-moves : (empty : Register) (l : Licence) (g : Step) → EmptyDone empty → GrantStep empty l g → (old next : Register)
    → GrantStep old l (record { next = next; refusal = 0 }) → (held : List Holding) (areas : List Area)
    → held ≡ holdings_of (in_force g.next.places) areas → (kept : Record)
    → moved_all plus_sums held kept ≡ changed (added (l ∷ []) areas) kept
grant-moves empty l g e d old next s held areas q kept =
    let w = accepted-formed (in_force old.places) l (sym s.number) in
    let same = same-holdings (in_force g.next.places) (l ∷ []) (alone-same empty l g e d w) areas in
    all-added (l ∷ []) areas held (q ∙ same) kept

-- and a cancellation, by what the struck ones cover
pub cancel-moves : (old only : Register) (s : ℕ) → SameLicences (in_force only.places) (struck s (in_force old.places))
    → (held : List Holding) (areas : List Area) → held ≡ holdings_of (in_force only.places) areas → (kept : Record)
    → moved_all minus_sums held kept ≡ changed (subtracted (struck s (in_force old.places)) areas) kept
cancel-moves old only s same held areas q kept =
    all-subtracted (struck s (in_force old.places)) areas held
    (q ∙ same-holdings (in_force only.places) (struck s (in_force old.places)) same areas) kept
