-- What each area of the map is given, one area a turn. Assumes nothing.
use Prim.Native.Nat.{ℕ, suc, ◌+◌, ◌-◌, ◌/◌, ◌<◌, ◌≤◌}
use mathlib.Core.Path.{◌≡◌, refl, sym, ap, ◌∙◌}
use mathlib.Core.Bool.{Bool, true, false, cond}
use mathlib.Core.List.{List, [], ◌∷◌, ◌++◌, map, map-append, append_assoc, append-nil}
use native.Mathlib.Numerals.{add-one}
use native.Mathlib.Omega.{arith}
use lib.Dec.{ltb}
use borrow.Author.Tests.{lt-ltb, le-ltb}
use lib.ListN.{length, get_or, take, drop, set, replicate, length-set, drop_of_length-le}
use lib.Seq.{take-suc-set, drop-set-lt, drop-cons}
use Rattle.lists.specs.Filters.{filter}
use Rattle.lists.proofs.SumLaws.{drop-next}
use Rattle.lists.proofs.Tests.{takes, leaves}
use Rattle.coverage.specs.declared.Holding.{Holding}
use Rattle.coverage.specs.declared.AreaBlocks.{AreaBlocks}
use Rattle.coverage.specs.Blocks.{whole_blocks, partial, blocks_of}
use Rattle.coverage.specs.Answers.{no_holding}
use Rattle.search.specs.Choice.{Mark}
use Rattle.proposal.specs.declared.Gets as got
use Rattle.proposal.specs.declared.AreaAnswer.{AreaAnswer}
use Rattle.proposal.specs.Choices.{partials}
use Rattle.proposal.specs.Answer.{Gets, gets_nothing, gets_by, Given, first_mark, later_marks, given}
use Rattle.proposal.specs.Promises.{gets_means, area_means, blank}
use Rattle.proposal.specs.Code.{Bounded, mark_of, decode, Settled}
use Rattle.proposal.proofs.GatherLaws.{sized}

-- what one area is given, by the entry and the set number that are left
abbrev pub given_at : (kind sh : ℕ) → Holding → (e n : ℕ) → Given
given_at kind sh a e n = record {
  number = a.number;
  blocks = whole_blocks a;
  cells = a.cells.0;
  gets = cond (partial a) (gets_by kind sh (mark_of e n)) gets_nothing;
}

-- what the areas are given
abbrev pub given_from : (kind sh : ℕ) → List Holding → (e n : ℕ) → List Given
given_from kind sh areas e n = given kind sh areas (decode (length (partials areas)) e n)

given-more : (kind sh : ℕ) (a : Holding) (areas : List Holding) (e n : ℕ)
    → given_from kind sh (a ∷ areas) e n
    ≡ given_at kind sh a e n ∷ given_from kind sh areas (cond (partial a) (e - 1) e) (cond (partial a) (n / 2) n)
unfolding given partials filter decode first_mark later_marks
given-more kind sh a areas e n = go (partial a)
  where
    P : List Holding
    P = filter partial areas

    marks : Bool → List Mark
    marks b = decode (length (cond b (a ∷ P) P)) e n

    one : Gets → Given
    one g = record { number = a.number; blocks = whole_blocks a; cells = a.cells.0; gets = g }

    go : (b : Bool) → ◌≡◌ {A = List Given}
        (one (cond b (gets_by kind sh (first_mark (marks b))) gets_nothing)
        ∷ given kind sh areas (cond b (later_marks (marks b)) (marks b)))
        (one (cond b (gets_by kind sh (mark_of e n)) gets_nothing)
        ∷ given kind sh areas (decode (length P) (cond b (e - 1) e) (cond b (n / 2) n)))
    go true = refl
    go false = refl

-- after i areas: the first i entries say what they are given, e and n are what is left for the others, and no later entry is touched
pub record Settling (areas : List Holding) (kind sh e₀ n₀ i e n : ℕ) (r : List AreaAnswer) : Type 0 where
  pub within : i ≤ length areas
  pub room : length r ≡ 32
  pub each : map area_means (take i r) ++ given_from kind sh (drop i areas) e n ≡ given_from kind sh areas e₀ n₀
  pub past : drop i r ≡ replicate (32 - i) blank

tail_of : List AreaAnswer → List AreaAnswer
tail_of [] = []
tail_of (x ∷ l) = l

-- a turn: `x` are the blocks of the area at place i, and `m` tells what it gets
module _ {areas : List Holding} {kind sh e₀ n₀ i e n : ℕ} {r : List AreaAnswer} (b : Bounded areas)
    (g : Settling areas kind sh e₀ n₀ i e n r) (h : i < length areas) (x : AreaBlocks)
    (of : x ≡ blocks_of (get_or areas i no_holding)) where
  abbrev here : Holding
  here = get_or areas i no_holding

  abbrev answer : got.Gets → AreaAnswer
  answer m = record { number = here.number; blocks = x.whole; cells = here.cells; gets = m }

  inside : i < length r
  inside = omega (arith, g.room, b.few)

  step : given_from kind sh (drop i areas) e n
      ≡ given_at kind sh here e n
      ∷ given_from kind sh (drop (i + 1) areas) (cond (partial here) (e - 1) e) (cond (partial here) (n / 2) n)
  step =
      ap (λ l. given_from kind sh l e n) (drop-next areas i no_holding h)
      ∙ given-more kind sh here (drop (i + 1) areas) e n

  untouched : drop (i + 1) r ≡ replicate (32 - (i + 1)) blank
  unfolding tail_of
  untouched =
      let few = b.few in
      let m : 32 - i ≡ suc (32 - (i + 1)) = omega arith in
      ap (λ j. drop j r) (add-one i)
      ∙ ap tail_of (sym (drop-cons r i blank inside) ∙ g.past ∙ ap (λ j. replicate j blank) m)

  settle-turns : (m : got.Gets) (e' n' : ℕ) →
      gets_means m ≡ cond (ltb 0 x.size.0) (gets_by kind sh (mark_of e n)) gets_nothing →
      e' ≡ cond (ltb 0 x.size.0) (e - 1) e → n' ≡ cond (ltb 0 x.size.0) (n / 2) n →
      Settling areas kind sh e₀ n₀ (i + 1) e' n' (set r i (answer m))
  unfolding blocks_of
  settle-turns m e' n' mm ee ne =
      let later = given_from kind sh (drop (i + 1) areas) in
      let is-partial : ltb 0 x.size.0 ≡ partial here = sym (sized b h x of) in
      let new : AreaAnswer = answer m in
      let is : area_means new ≡ given_at kind sh here e n =
      λ j. record {
        number = here.number;
        blocks = (of j).whole;
        cells = here.cells.0;
        gets = (mm ∙ ap (λ q. cond q (gets_by kind sh (mark_of e n)) gets_nothing) is-partial) j;
      } in
      let e-is : e' ≡ cond (partial here) (e - 1) e = ee ∙ ap (λ q. cond q (e - 1) e) is-partial in
      let n-is : n' ≡ cond (partial here) (n / 2) n = ne ∙ ap (λ q. cond q (n / 2) n) is-partial in
      record {
        within = omega arith;
        room = length-set r i new ∙ g.room;
        each =
            ap (λ q. map area_means q ++ later e' n') (ap (λ j. take j (set r i new)) (add-one i) ∙ take-suc-set r i new inside)
            ∙ ap (λ q. q ++ later e' n') (map-append area_means (take i r) (new ∷ []))
            ∙ append_assoc (map area_means (take i r)) (area_means new ∷ []) (later e' n')
            ∙ (λ k. map area_means (take i r) ++ (is k ∷ later (e-is k) (n-is k)))
            ∙ ap (λ q. map area_means (take i r) ++ q) (sym step)
            ∙ g.each;
        past = drop-set-lt (i + 1) r i new (omega arith) ∙ untouched;
      }

  -- a partial area takes the mark that is next
  pub settle-partial : 0 < x.size.0 → (m : got.Gets) (e' n' : ℕ) → gets_means m ≡ gets_by kind sh (mark_of e n) → e' ≡ e - 1 → n' ≡ n / 2
      → Settling areas kind sh e₀ n₀ (i + 1) e' n' (set r i (answer m))
  settle-partial p m e' n' mm ee ne =
      let t = lt-ltb 0 x.size.0 p in
      settle-turns m e' n' (mm ∙ takes gets_nothing t) (ee ∙ takes e t) (ne ∙ takes n t)

  -- any other gets nothing
  pub settle-other : x.size.0 ≤ 0 → (m : got.Gets) (e' n' : ℕ) → gets_means m ≡ gets_nothing → e' ≡ e → n' ≡ n
      → Settling areas kind sh e₀ n₀ (i + 1) e' n' (set r i (answer m))
  settle-other p m e' n' mm ee ne =
      let t = le-ltb 0 x.size.0 p in
      settle-turns m e' n' (mm ∙ leaves (gets_by kind sh (mark_of e n)) t) (ee ∙ leaves (e - 1) t) (ne ∙ leaves (n / 2) t)

pub settle-ends : {areas : List Holding} {kind sh e₀ n₀ i e n : ℕ} {r : List AreaAnswer}
    → Settling areas kind sh e₀ n₀ i e n r → length areas ≤ i → Settled areas kind sh e₀ n₀ r
unfolding given
settle-ends {areas} {kind} {sh} {i = i} {e = e} {n = n} {r = r} g h =
    let m : length areas ≡ i = omega (arith, g.within) in
    record {
      each =
          ap (λ j. map area_means (take j r)) m ∙ sym (append-nil (map area_means (take i r)))
          ∙ ap (λ l. map area_means (take i r) ++ given_from kind sh l e n) (sym (drop_of_length-le areas {i = i} h)) ∙ g.each;
      past = ap (λ j. drop j r) m ∙ g.past ∙ ap (λ j. replicate (32 - j) blank) (sym m);
    }
