-- What is decided by sums over the licences: the rules, and what a grant and a cancellation do to the lines. Assumes nothing.
use Prim.Native.Nat.{ℕ, zero, suc, ◌+◌, ◌≤◌, ◌<◌, zero-le}
use mathlib.Core.Path.{◌≡◌, refl, sym, ap, ◌∙◌}
use mathlib.Core.Bool.{Bool, true, false, cond}
use mathlib.Core.List.{List, [], ◌∷◌}
use native.Mathlib.Omega.{arith}
use native.Mathlib.Nat.{not-suc-le-zero, zero-add}
use lib.Dec.{ltb}
use lib.ListN.{length, get_or, set, replicate}
use borrow.Author.Tests.{ltb-true, ltb-false}
use Rattle.lists.specs.Sums.{flag, total, any}
use Rattle.lists.proofs.SumLaws.{length-total, any-total}
use Rattle.register.specs.declared.Licence.{Licence}
use Rattle.register.specs.declared.FlatLicence.{FlatLicence}
use Rattle.register.specs.Licences.{well_formed, licence_of, flat_of, free_place, has_sign, in_force, held, strike, struck, release}
use Rattle.register.specs.Rules.{grant_rule, cancel_rule}
use Rattle.register.specs.Promises.{Placed}
use Rattle.register.specs.Sums.{SameLicences, signs, OnceEach, at_place}
use Rattle.register.proofs.Laws.{sign-is, sign-not, is-sign, flat-means, formed-sign, formed-width}
use Rattle.lists.proofs.Tests.{by-test}

-- ---- tests and counts are sums

held-total : (s : ℕ) (xs : List Licence) → held s xs ≡ ltb 0 (total (signs s) xs)
held-total s xs = any-total (has_sign s) xs

strike-total : (f : Licence → ℕ) (s : ℕ) (xs : List Licence) → total f (strike s xs) ≡ total (λ l. cond (has_sign s l) 0 (f l)) xs
strike-total f s [] = refl
strike-total f s (l ∷ xs) =
    by-test (has_sign s l)
    (λ t. simp (t, zero-add) (strike-total f s xs))
    (λ t. simp t (ap (λ n. f l + n) (strike-total f s xs)))

-- what is struck, and what a strike leaves
pub struck-total : (f : Licence → ℕ) (s : ℕ) (xs : List Licence) → total f (struck s xs) ≡ total (λ l. cond (has_sign s l) (f l) 0) xs
struck-total f s [] = refl
struck-total f s (l ∷ xs) =
    by-test (has_sign s l)
    (λ t. simp t (ap (λ n. f l + n) (struck-total f s xs)))
    (λ t. simp (t, zero-add) (struck-total f s xs))

pub struck-apart : (f : Licence → ℕ) (s : ℕ) (xs : List Licence) → total f xs ≡ total f (struck s xs) + total f (strike s xs)
struck-apart f s [] = refl
struck-apart f s (l ∷ xs) =
    let h = struck-apart f s xs in
    by-test (has_sign s l) (λ t. simp t (omega arith)) (λ t. simp t (omega arith))

-- ---- the same licences in another order: the same answers

module _ (xs ys : List Licence) (same : SameLicences xs ys) where
  pub same-held : (s : ℕ) → held s xs ≡ held s ys
  same-held s = held-total s xs ∙ ap (ltb 0) (same (signs s)) ∙ sym (held-total s ys)

  pub same-any : (p : Licence → Bool) → any p xs ≡ any p ys
  same-any p = any-total p xs ∙ ap (ltb 0) (same (λ l. flag (p l))) ∙ sym (any-total p ys)

  pub same_length : length xs ≡ length ys
  same_length = length-total xs ∙ same (λ _. 1) ∙ sym (length-total ys)

  pub same-grant : (l : Licence) → grant_rule xs l ≡ grant_rule ys l
  unfolding grant_rule
  same-grant l = simp (same-held l.call_sign, same_length)

  pub same-cancel : (s : ℕ) → cancel_rule xs s ≡ cancel_rule ys s
  unfolding cancel_rule
  same-cancel s = simp (same-held s)

  pub same-strike : (s : ℕ) → SameLicences (strike s xs) (strike s ys)
  same-strike s f = strike-total f s xs ∙ same (λ l. cond (has_sign s l) 0 (f l)) ∙ sym (strike-total f s ys)

  pub same-struck : (s : ℕ) → SameLicences (struck s xs) (struck s ys)
  same-struck s f = struck-total f s xs ∙ same (λ l. cond (has_sign s l) (f l) 0) ∙ sym (struck-total f s ys)

-- ---- what a grant and a cancellation do to the licences in force

-- free places hold no licence in force
pub none-in-force : (n : ℕ) → in_force (replicate n free_place) ≡ []
none-in-force zero = refl
none-in-force (suc n) = simp (sign-is 0 (licence_of free_place) refl) (none-in-force n)

-- the places of a call sign freed: its lines struck
pub release-strike : (s : ℕ) (ps : List FlatLicence) → in_force (release s ps) ≡ strike s (in_force ps)
release-strike s [] = refl
release-strike s (p ∷ ps) =
    by-test (has_sign s (licence_of p))
    (λ t. by-test (has_sign 0 (licence_of p))
    (λ u. simp (t, u, sign-is 0 (licence_of free_place) refl) (release-strike s ps))
    (λ u. simp (t, u, sign-is 0 (licence_of free_place) refl, t) (release-strike s ps)))
    (λ t. by-test (has_sign 0 (licence_of p))
    (λ u. simp (t, u) (release-strike s ps))
    (λ u. simp (t, u, t) (ap (λ qs. licence_of p ∷ qs) (release-strike s ps))))

-- what takes a free place is one line more, where it is in force
pub set-total : (f : Licence → ℕ) (ps : List FlatLicence) (k : ℕ) (p : FlatLicence) → k < length ps
    → (get_or ps k free_place).call_sign ≡ 0 → total f (in_force (set ps k p)) ≡ at_place f (licence_of p) + total f (in_force ps)
unfolding at_place
set-total f [] k p b e = absurd (not-suc-le-zero b)
set-total f (q ∷ ps) zero p b e =
    by-test (has_sign 0 (licence_of p))
    (λ t. simp (sign-is 0 (licence_of q) e, t, zero-add))
    (λ t. simp (sign-is 0 (licence_of q) e, t))
set-total f (q ∷ ps) (suc k) p b e =
    let h = set-total f ps k p (omega arith) e in
    by-test (has_sign 0 (licence_of q)) (λ t. simp t h) (λ t. simp t (omega arith))

-- a licence placed: one line more
pub placed_total : {ps qs : List FlatLicence} {l : Licence} →
    well_formed l ≡ true → Placed ps l qs → SameLicences (in_force qs) (l ∷ in_force ps)
unfolding at_place
placed_total {ps} {qs} {l} w p f =
    ap (λ (x : List FlatLicence). total f (in_force x)) p.now ∙ set-total f ps p.place (flat_of l) p.within p.was_free
    ∙ ap (λ (x : Licence). at_place f x + total f (in_force ps)) (flat-means l (formed-width l w))
    ∙ simp (sign-not 0 l (formed-sign l w))

-- ---- the licences in force, place by place

pub in-force-total : (f : Licence → ℕ) (ps : List FlatLicence) → total f (in_force ps) ≡ total (λ p. at_place f (licence_of p)) ps
unfolding at_place
in-force-total f [] = refl
in-force-total f (p ∷ ps) =
    by-test (has_sign 0 (licence_of p))
    (λ t. simp (t, zero-add) (in-force-total f ps))
    (λ t. simp t (ap (λ n. f (licence_of p) + n) (in-force-total f ps)))

-- ---- lines that share no call sign

-- a strike adds to no sum
pub strike-le : (f : Licence → ℕ) (s : ℕ) (lines : List Licence) → total f (strike s lines) ≤ total f lines
strike-le f s [] = zero-le
strike-le f s (l ∷ lines) =
    let h = strike-le f s lines in
    by-test (has_sign s l) (λ t. simp t (omega arith)) (λ t. simp t (omega arith))

pub once-added : (l : Licence) (lines : List Licence) → OnceEach lines → held l.call_sign lines ≡ false → OnceEach (l ∷ lines)
once-added l lines once new s =
    let h = once s in
    by-test (has_sign s l)
    (λ t.
    let z : total (signs s) lines ≤ 0 = ltb-false 0 (total (signs s) lines) (sym (held-total s lines) ∙ rw (is-sign s l t) at new) in
    simp t (omega arith))
    (λ t. simp t (omega arith))

-- a strike leaves what has other call signs
struck-length : (s : ℕ) (lines : List Licence) → length lines ≡ total (signs s) lines + length (strike s lines)
struck-length s [] = refl
struck-length s (l ∷ lines) =
    let h = struck-length s lines in
    by-test (has_sign s l) (λ t. simp t (omega arith)) (λ t. simp t (omega arith))

-- a line that is held is struck
pub struck-some : (s : ℕ) (lines : List Licence) → held s lines ≡ true → length (strike s lines) < length lines
struck-some s lines h =
    let a = ltb-true 0 (total (signs s) lines) (sym (held-total s lines) ∙ h) in
    let d = struck-length s lines in
    omega arith

-- and is the one line struck where no two lines share a call sign
pub struck-one : (s : ℕ) (lines : List Licence) → OnceEach lines → held s lines ≡ true → length lines ≡ suc (length (strike s lines))
struck-one s lines once h =
    let a = struck-some s lines h in
    let b = once s in
    let d = struck-length s lines in
    omega arith

-- no line has a call sign that was struck
pub struck-gone : (s : ℕ) (lines : List Licence) → held s (strike s lines) ≡ false
struck-gone s [] = refl
struck-gone s (l ∷ lines) =
    by-test (has_sign s l) (λ t. simp t (struck-gone s lines)) (λ t. simp (t, t) (struck-gone s lines))
