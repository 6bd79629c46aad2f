-- The tables before the search, as the loop of `fill` makes them; the entry of the answer; and the calls of `propose` together.
-- Assumes nothing.
use Prim.Native.Nat.{ℕ, ◌+◌, ◌%◌, ◌<◌, ◌≤◌}
use mathlib.Core.Path.{◌≡◌, refl, sym, ap, ◌∙◌}
use mathlib.Core.Bool.{true}
use mathlib.Core.Logic.{◌⊎◌, inl, inr, ⊎_elim}
use mathlib.Core.List.{List, [], ◌∷◌, ◌++◌, map, Memᴰ}
use native.Mathlib.Nat.{mod-lt}
use native.Mathlib.Numerals.{add-one}
use native.Mathlib.Omega.{arith}
use lib.ListN.{length, get_or, take, set, length-set, length-map, replicate}
use Rattle.std.proofs.lemmas.List.{map-append}
use lib.Seq.{take-suc-set, take-suc, take_all}
use Rattle.search.specs.Search.{Kept, as_kept, whites, sets, kept_of, searched}
use Rattle.search.specs.declared.Held.{Held}
use Rattle.search.specs.declared.Partial.{Partial}
use Rattle.search.proofs.Select.{none, size-of}
use Rattle.search.specs.Proposal.{sizes, start, table, present, tied_to, pick, answer_at, propose}
use Rattle.search.specs.declared.Answer.{Answer}
use Rattle.search.proofs.Optimal.{tied-best, of-best_at, at_place}

-- ---- the loop of `fill`

-- an entry before the search
abbrev pub blank : ℕ → Held
blank m = record { white = m; set = 0 }

-- entry 0 and those of the first i areas are filled
pub record Filled (partials : List Partial) (table : List Held) (i : ℕ) : Type 0 where
  pub within : i ≤ length partials
  pub room : length table ≡ length partials + 1
  pub same : take (i + 1) table ≡ map blank (1 ∷ take i (sizes partials))

pub fill-starts : (partials : List Partial) (table : List Held) → length table ≡ length partials + 1
    → Filled partials (set table 0 (blank 1)) 0
fill-starts partials table h = record {
  within = omega arith;
  room = simp length-set h;
  same = take-suc-set table 0 (blank 1) (omega arith);
}

pub fill-turns : (partials : List Partial) (table : List Held) (i : ℕ) → Filled partials table i → i < length partials
    → Filled partials (set table (i + 1) (blank (get_or partials i none).size.0)) (i + 1)
fill-turns partials table i f h = record {
  within = omega arith;
  room = simp length-set f.room;
  same =
      ap (λ (j : ℕ). take j (set table (i + 1) (blank m))) (add-one (i + 1))
      ∙ take-suc-set table (i + 1) (blank m) (omega (arith, f.room))
      ∙ ap (λ (q : List Held). q ++ (blank m ∷ [])) f.same
      ∙ sym (ap (λ (q : List ℕ). map blank (1 ∷ q)) more
      ∙ ap (λ (q : List Held). blank 1 ∷ q) (map-append blank (take i (sizes partials)) (m ∷ [])));
}
  where
    m : ℕ
    m = (get_or partials i none).size.0

    more : take (i + 1) (sizes partials) ≡ take i (sizes partials) ++ (m ∷ [])
    more =
        ap (λ (j : ℕ). take j (sizes partials)) (add-one i)
        ∙ take-suc (sizes partials) i 0 (omega (arith, length-map partials (λ (p : Partial). p.size.0)))
        ∙ ap (λ (x : ℕ). take i (sizes partials) ++ (x ∷ [])) (size-of partials i)

whites-blank : (l : List ℕ) → whites (map blank l) ≡ l
whites-blank [] = refl
whites-blank (m ∷ l) = ap (λ (q : List ℕ). m ∷ q) (whites-blank l)

sets-blank : (l : List ℕ) → sets (map blank l) ≡ replicate (length l) 0
sets-blank [] = refl
sets-blank (m ∷ l) = ap (λ (q : List ℕ). 0 ∷ q) (sets-blank l)

pub fill-ends : (partials : List Partial) (table : List Held) (i : ℕ) → Filled partials table i → length partials ≤ i
    → kept_of table ≡ start (sizes partials)
unfolding start
fill-ends partials table i f h =
    let ms : List ℕ = sizes partials in
    let all : take i ms ≡ ms = take_all i ms (omega (arith, length-map partials (λ (p : Partial). p.size.0))) in
    let e : table ≡ map blank (1 ∷ ms) =
    sym (take_all (i + 1) table (omega (arith, f.room, f.within))) ∙ f.same ∙ ap (λ (q : List ℕ). map blank (1 ∷ q)) all in
    ap (λ (q : List Held). kept_of q) e ∙ (λ j. as_kept (whites-blank (1 ∷ ms) j) (sets-blank (1 ∷ ms) j))

-- ---- the entry of the answer

pub pick-none : (l : List ℕ) (draw : ℕ) → length l ≡ 0 → 0 ≡ pick l draw
unfolding pick
pick-none [] draw h = refl
pick-none (x ∷ l) draw h = absurd (omega arith)

pub pick_some : (l : List ℕ) (draw : ℕ) → 0 < length l → pick l draw ≡ get_or l (draw % length l) 0
unfolding pick
pick_some [] draw h = absurd (omega arith)
pick_some (x ∷ l) draw h = refl

-- a picked entry is 0 or one of the list's
pick-in : (l : List ℕ) (draw : ℕ) → (pick l draw ≡ 0) ⊎ Memᴰ (pick l draw) l
unfolding pick
pick-in [] draw = inl refl
pick-in (x ∷ l) draw = inr (at_place (x ∷ l) (draw % length (x ∷ l)) (mod-lt draw (omega arith)))

-- the entry that is picked, as the answer asks for it
pub picked-entry : (ms ws wh : List ℕ) (draw t : ℕ) → t ≡ pick (tied_to ms ws wh (length ms)) draw
    → (t ≤ length ms) × ((t ≡ 0 → ⊥) → present ms wh t ≡ true)
picked-entry ms ws wh draw t p = ⊎_elim
    (λ z. (omega (arith, p, z), λ f. absurd (f (p ∙ z))))
    (λ m. let b = tied-best ms ws wh (length ms) u m in (omega (arith, p, b.1), λ f. rw p (of-best_at ms ws wh u b.2).0))
    (pick-in (tied_to ms ws wh (length ms)) draw)
  where
    u : ℕ
    u = pick (tied_to ms ws wh (length ms)) draw

-- ---- the calls of `propose`, one after the other

pub proposed : (T : ℕ) (ms ws : List ℕ) (draw : ℕ) (k₀ k₁ : Kept) (n t : ℕ) (r : Answer)
    → k₀ ≡ start ms
    → k₁ ≡ searched ms 0 T 0 0 1 k₀
    → n ≡ length (tied_to ms ws k₁.white (length ms))
    → t ≡ pick (tied_to ms ws k₁.white (length ms)) draw
    → r ≡ answer_at ms ws k₁ n t
    → r ≡ propose T ms ws draw
unfolding propose table
proposed T ms ws draw k₀ k₁ n t r e₀ e₁ e₂ e₃ e₄ =
    e₄
    ∙ (λ i. answer_at ms ws k₁ (e₂ i) (e₃ i))
    ∙ ap (λ (k : Kept). answer_at ms ws k (length (tied_to ms ws k.white (length ms))) (pick (tied_to ms ws k.white (length ms)) draw))
    (e₁ ∙ ap (λ (k : Kept). searched ms 0 T 0 0 1 k) e₀)
