-- The loop that gathers what a cancellation strikes. Assumes nothing.
use Prim.Native.Nat.{ℕ, zero, suc, ◌+◌, ◌≤◌, ◌<◌}
use mathlib.Core.Path.{◌≡◌, refl, sym, ap, ◌∙◌}
use mathlib.Core.Bool.{cond}
use mathlib.Core.List.{List}
use native.Mathlib.Omega.{arith}
use native.Mathlib.Numerals.{add-one}
use lib.ListN.{length, get_or, set, take, replicate, length-set}
use lib.Seq.{take_all, get_or-set_other}
use Rattle.lists.specs.Sums.{total}
use Rattle.lists.proofs.Tests.{by-test}
use Rattle.lists.proofs.SumLaws.{total-next}
use Rattle.register.specs.declared.Licence.{Licence}
use Rattle.register.specs.declared.FlatLicence.{FlatLicence}
use Rattle.register.specs.Licences.{licence_of, free_place, has_sign, in_force, struck}
use Rattle.register.specs.Rules.{limit}
use Rattle.register.specs.Sums.{SameLicences, at_place}
use Rattle.register.proofs.Laws.{sign-is, sign-not}
use Rattle.register.proofs.Sums.{none-in-force, set-total, struck-total, in-force-total}

-- what a place adds to a sum over what is struck
abbrev adds : (s : ℕ) (f : Licence → ℕ) → FlatLicence → ℕ
adds s f p = at_place (λ l. cond (has_sign s l) (f l) 0) (licence_of p)

-- a place with the call sign adds what it adds to a sum over the licences in force, and any other adds nothing
adds-all : (s : ℕ) (f : Licence → ℕ) (p : FlatLicence) → p.call_sign ≡ s → adds s f p ≡ at_place f (licence_of p)
unfolding at_place
adds-all s f p e = simp (sign-is s (licence_of p) e)

adds_none : (s : ℕ) (f : Licence → ℕ) (p : FlatLicence) → (p.call_sign ≡ s → ⊥) → adds s f p ≡ 0
unfolding at_place
adds_none s f p n =
    by-test (has_sign 0 (licence_of p)) (λ t. simp t) (λ t. simp (t, sign-not s (licence_of p) n))

-- the invariant at place i: what is struck of the places before it stands at the first `count` places of `only`
pub record Gathered (s : ℕ) (old only : List FlatLicence) (count i : ℕ) : Type 0 where
  pub within : i ≤ limit
  pub few : count ≤ i
  pub room : length only ≡ limit
  pub free : (j : ℕ) → count ≤ j → (get_or only j free_place).call_sign ≡ 0
  pub sums : (f : Licence → ℕ) → total f (in_force only) ≡ total (adds s f) (take i old)

pub gather-starts : (s : ℕ) (old only : List FlatLicence) → only ≡ replicate limit free_place → Gathered s old only 0 0
gather-starts s old only e = record {
  within = omega arith;
  few = omega arith;
  room = ap length e;
  free = λ j _. ap (λ (ps : List FlatLicence). (get_or ps j free_place).call_sign) e ∙ none-there limit j;
  sums = λ f. ap (λ (ps : List FlatLicence). total f (in_force ps)) e ∙ ap (total f) (none-in-force limit);
}
  where
    none-there : (n j : ℕ) → (get_or (replicate n free_place) j free_place).call_sign ≡ 0
    none-there zero j = refl
    none-there (suc n) zero = refl
    none-there (suc n) (suc j) = none-there n j

module _ {s : ℕ} {old only : List FlatLicence} {count i : ℕ} (size : length old ≡ limit) (g : Gathered s old only count i)
    (b : i < limit)
  where
    one_more : (f : Licence → ℕ) → total (adds s f) (take (i + 1) old) ≡ total (adds s f) (take i old) + adds s f (get_or old i free_place)
    one_more f = ap (λ (k : ℕ). total (adds s f) (take k old)) (add-one i) ∙ total-next (adds s f) old i free_place (omega arith)

    -- the place has the call sign, and is taken over
    pub gather-takes : {new : List FlatLicence} {next : ℕ} → (get_or old i free_place).call_sign ≡ s
        → new ≡ set only count (get_or old i free_place) → next ≡ count + 1 → Gathered s old new next (i + 1)
    gather-takes {new} {next} e x k =
        let few = g.few in
        let room = g.room in
        let p = get_or old i free_place in
        record {
          within = omega arith;
          few = omega arith;
          room = ap length x ∙ length-set only count p ∙ room;
          free = λ j h. ap (λ (ps : List FlatLicence). (get_or ps j free_place).call_sign) x
              ∙ ap (λ (q : FlatLicence). q.call_sign) (get_or-set_other only count j p free_place (λ z. absurd (omega arith)))
              ∙ g.free j (omega arith);
          sums = λ f.
              let here = set-total f only count p (omega arith) (g.free count (omega arith)) in
              let same = adds-all s f p e in
              let before = g.sums f in
              let after = one_more f in
              ap (λ (ps : List FlatLicence). total f (in_force ps)) x ∙ omega arith;
        }

    -- the place has another, and is passed over
    pub gather-leaves : {new : List FlatLicence} {next : ℕ} → ((get_or old i free_place).call_sign ≡ s → ⊥)
        → new ≡ only → next ≡ count → Gathered s old new next (i + 1)
    gather-leaves {new} {next} n x k =
        let few = g.few in
        record {
          within = omega arith;
          few = omega arith;
          room = ap length x ∙ g.room;
          free = λ j h. ap (λ (ps : List FlatLicence). (get_or ps j free_place).call_sign) x ∙ g.free j (omega arith);
          sums = λ f.
              let none = adds_none s f (get_or old i free_place) n in
              let before = g.sums f in
              let after = one_more f in
              ap (λ (ps : List FlatLicence). total f (in_force ps)) x ∙ omega arith;
        }

pub gather-ends : {s : ℕ} {old only : List FlatLicence} {count i : ℕ} → length old ≡ limit → Gathered s old only count i → limit ≤ i
    → SameLicences (in_force only) (struck s (in_force old))
gather-ends {s} {old} {i = i} size g all f =
    g.sums f ∙ ap (total (adds s f)) (take_all i old (omega arith))
    ∙ sym (in-force-total (λ l. cond (has_sign s l) (f l) 0) old) ∙ sym (struck-total f s (in_force old))
