-- Laws of the licences in force, the rules and a release. Assumes nothing.
use Prim.Native.Nat.{ℕ, zero, suc, ◌+◌, ◌-◌, ◌≤◌, ◌<◌}
use mathlib.Core.Path.{◌≡◌, refl, sym, ap, ◌∙◌}
use mathlib.Core.Bool.{Bool, true, false, cond, not, ◌||◌, ◌&&◌}
use mathlib.Core.List.{List, [], ◌∷◌}
use native.Mathlib.Omega.{arith}
use native.Mathlib.Nat.{not-suc-le-zero}
use native.Mathlib.Numerals.{add-one}
use lib.Dec.{leb, eqb}
use lib.ListN.{length, get_or, set}
use mathlib.Core.Logic.{◌≢◌}
use Rattle.std.specs.Prelude.{Option, Some, None, MatchOption, ok_or}
use Rattle.std.specs.List.{HoldsAt, AllWithin, list_any}
use lib.Seq.{set-get_or}
use borrow.Author.Tests.{eqb-true, eqb-false, eq-eqb, ne_eqb, le-leb, lt-leb, leb-true, leb-false}
use Rattle.lists.proofs.Tests.{by-test, not-both, second-of}
use Rattle.lists.specs.Sums.{any}
use Rattle.register.specs.declared.Ground.{Ground}
use Rattle.register.specs.declared.Ground.TheVariants.{Area, Box}
use Rattle.register.specs.declared.Licence.{Licence}
use Rattle.register.specs.declared.FlatLicence.{FlatLicence}
use Rattle.register.specs.Licences.{ground_formed, width_formed, well_formed, full_width, ground_of, licence_of, flat_of, free_place}
use Rattle.register.specs.Licences.{has_sign, in_force, held, release}
use Rattle.register.specs.declared.GrantRefusal.TheVariants.{Full}
use Rattle.register.specs.Rules.{limit, grant_rule, cancel_rule}
use Rattle.register.specs.Promises.{PlaceFound}

-- ---- the test for a call sign

pub sign-is : (s : ℕ) (l : Licence) → l.call_sign ≡ s → has_sign s l ≡ true
unfolding has_sign
sign-is s l e = eq-eqb l.call_sign s e

pub sign-not : (s : ℕ) (l : Licence) → (l.call_sign ≡ s → ⊥) → has_sign s l ≡ false
unfolding has_sign
sign-not s l e = ne_eqb l.call_sign s e

pub is-sign : (s : ℕ) (l : Licence) → has_sign s l ≡ true → l.call_sign ≡ s
unfolding has_sign
is-sign s l e = eqb-true l.call_sign s e

-- ---- a licence at a place

-- the place that a licence of at most 50 MHz takes holds just this licence
pub flat-means : (l : Licence) → l.width ≤ full_width → licence_of (flat_of l) ≡ l
unfolding ground_of flat_of
flat-means l h = go l.ground
  where
    kept : full_width - (full_width - l.width) ≡ l.width
    kept = omega arith

    go : (g : Ground) → licence_of (flat_of (record { call_sign = l.call_sign; ground = g; width = l.width }))
        ≡ record { call_sign = l.call_sign; ground = g; width = l.width }
    go (Area n) = λ i. record { call_sign = l.call_sign; ground = Area n; width = kept i }
    go (Box b) = λ i. record { call_sign = l.call_sign; ground = Box b; width = kept i }

-- ---- what is held

-- some place has the call sign
abbrev pub stands : ℕ → List FlatLicence → Bool
stands s ps = any (λ p. has_sign s (licence_of p)) ps

pub stands-none : (s : ℕ) (ps : List FlatLicence) →
    ((k : ℕ) → k < length ps → (get_or ps k free_place).call_sign ≡ s → ⊥) → stands s ps ≡ false
stands-none s [] h = refl
stands-none s (p ∷ ps) h =
    simp (sign-not s (licence_of p) (h zero (omega arith))) (stands-none s ps (λ k b. h (suc k) (omega arith)))

pub stands_at : (s : ℕ) (ps : List FlatLicence) (k : ℕ) → k < length ps → (get_or ps k free_place).call_sign ≡ s → stands s ps ≡ true
stands_at s [] k b e = absurd (not-suc-le-zero b)
stands_at s (p ∷ ps) zero b e = simp (sign-is s (licence_of p) e)
stands_at s (p ∷ ps) (suc k) b e =
    by-test (has_sign s (licence_of p)) (λ t. simp t) (λ t. simp t (stands_at s ps k (omega arith) e))

-- the search of the code says so
pub stands-any : (s : ℕ) (ps : List FlatLicence) → list_any (λ (p : FlatLicence). eqb p.call_sign s) ps ≡ stands s ps
unfolding has_sign
stands-any s [] = refl
stands-any s (p ∷ ps) = ap (λ b. eqb p.call_sign s || b) (stands-any s ps)

-- a call sign that is not 0 is held in force where it stands at a place
pub held-in-force : (s : ℕ) (ps : List FlatLicence) → (s ≡ 0 → ⊥) → held s (in_force ps) ≡ stands s ps
held-in-force s [] n = refl
held-in-force s (p ∷ ps) n =
    by-test (has_sign 0 (licence_of p))
    (λ t. simp (t, sign-not s (licence_of p) (λ e. n (sym e ∙ is-sign 0 (licence_of p) t))) (held-in-force s ps n))
    (λ t. simp t (ap (λ b. has_sign s (licence_of p) || b) (held-in-force s ps n)))

-- call sign 0 is never in force
pub zero-not-held : (ps : List FlatLicence) → held 0 (in_force ps) ≡ false
zero-not-held [] = refl
zero-not-held (p ∷ ps) =
    by-test (has_sign 0 (licence_of p)) (λ t. simp t (zero-not-held ps)) (λ t. simp (t, t) (zero-not-held ps))

-- ---- how many are in force

in-force-le : (ps : List FlatLicence) → length (in_force ps) ≤ length ps
in-force-le [] = omega arith
in-force-le (p ∷ ps) =
    let h = in-force-le ps in
    by-test (has_sign 0 (licence_of p)) (λ t. simp t (omega arith)) (λ t. simp t (omega arith))

-- where no place is free, as many as there are places
pub none_free : (ps : List FlatLicence) →
    ((k : ℕ) → k < length ps → (get_or ps k free_place).call_sign ≡ 0 → ⊥) → length (in_force ps) ≡ length ps
none_free [] h = refl
none_free (p ∷ ps) h =
    simp (sign-not 0 (licence_of p) (h zero (omega arith))) (ap suc (none_free ps (λ k b. h (suc k) (omega arith))))

-- where some place is free, fewer
pub some-free : (ps : List FlatLicence) (k : ℕ) →
    k < length ps → (get_or ps k free_place).call_sign ≡ 0 → length (in_force ps) < length ps
some-free [] k b e = absurd (not-suc-le-zero b)
some-free (p ∷ ps) zero b e = simp (sign-is 0 (licence_of p) e) (let h = in-force-le ps in omega arith)
some-free (p ∷ ps) (suc k) b e =
    let h = some-free ps k (omega arith) e in
    by-test (has_sign 0 (licence_of p)) (λ t. simp t (omega arith)) (λ t. simp t (omega arith))

-- ---- the rule of a grant, by its four answers

module _ (lines : List Licence) (l : Licence) where
  pub rule-ill-formed : well_formed l ≡ false → grant_rule lines l ≡ 6
  unfolding grant_rule
  rule-ill-formed w = simp w

  pub rule-in-force : well_formed l ≡ true → held l.call_sign lines ≡ true → grant_rule lines l ≡ 9
  unfolding grant_rule
  rule-in-force w h = simp (w, h)

  pub rule-full : well_formed l ≡ true → held l.call_sign lines ≡ false → limit ≤ length lines → grant_rule lines l ≡ 10
  unfolding grant_rule
  rule-full w h n = simp (w, h, le-leb limit (length lines) n)

  pub rule-accepted : well_formed l ≡ true → held l.call_sign lines ≡ false → length lines < limit → grant_rule lines l ≡ 0
  unfolding grant_rule
  rule-accepted w h n = simp (w, h, lt-leb limit (length lines) n)

  -- what is accepted is well formed
  pub accepted-formed : grant_rule lines l ≡ 0 → well_formed l ≡ true
  accepted-formed e =
      by-test (well_formed l) (λ w. w) (λ w. absurd (let h = rule-ill-formed w in omega arith))

  -- its call sign is new
  pub accepted-new : grant_rule lines l ≡ 0 → held l.call_sign lines ≡ false
  accepted-new e =
      let w = accepted-formed e in
      by-test (held l.call_sign lines) (λ h. absurd (let k = rule-in-force w h in omega arith)) (λ h. h)

  -- and there was room
  pub accepted-room : grant_rule lines l ≡ 0 → length lines < limit
  accepted-room e =
      let w = accepted-formed e in
      let h = accepted-new e in
      by-test (leb limit (length lines))
      (λ t. absurd (let k = rule-full w h (leb-true limit (length lines) t) in omega arith))
      (λ t. leb-false limit (length lines) t)

-- the call sign of a well-formed licence is not 0
pub formed-sign : (l : Licence) → well_formed l ≡ true → l.call_sign ≡ 0 → ⊥
unfolding well_formed
formed-sign l w e = not-both w (simp (eq-eqb l.call_sign 0 e))

-- and its width is at most 50
pub formed-width : (l : Licence) → well_formed l ≡ true → l.width ≤ full_width
unfolding well_formed width_formed
formed-width l w =
    let formed = second-of (not (eqb l.call_sign 0) && ground_formed l.ground) (width_formed l.width) w in
    leb-true l.width 50 (second-of (leb 1 l.width) (leb l.width 50) formed)

-- ---- the rule of a cancellation, by its two answers

module _ (lines : List Licence) (s : ℕ) where
  pub rule-not-held : held s lines ≡ false → cancel_rule lines s ≡ 11
  unfolding cancel_rule
  rule-not-held h = simp h

  -- what is accepted was held
  pub accepted-held : cancel_rule lines s ≡ 0 → held s lines ≡ true
  accepted-held e =
      by-test (held s lines) (λ h. h) (λ h. absurd (let k = rule-not-held h in omega arith))

-- ---- the place that a grant takes

-- the first free place, where the licence is well formed and its call sign is new
pub place-found : (ps : List FlatLicence) (l : Licence) → length ps ≡ limit → well_formed l ≡ true → held l.call_sign (in_force ps) ≡ false
    → (r : Option ℕ)
    → MatchOption r (AllWithin (λ (p : FlatLicence). p.call_sign ≢ 0) ps 0 (length ps))
    (λ i. (i < length ps) × HoldsAt (λ (p : FlatLicence). p.call_sign ≡ 0) ps i
    × AllWithin (λ (p : FlatLicence). p.call_sign ≢ 0) ps 0 i)
    → PlaceFound ps l (ok_or r Full)
place-found ps l size w h None none =
    let n = none_free ps (λ k b e. none k free_place (omega arith) b e) in
    rule-full (in_force ps) l w h (omega arith)
place-found ps l size w h (Some i) found =
    let n = some-free ps i found.0 (found.1 free_place) in
    (rule-accepted (in_force ps) l w h (omega arith), found.0, found.1 free_place)

-- ---- a release, place by place

-- the first i places released
abbrev pub release_to : ℕ → ℕ → List FlatLicence → List FlatLicence
release_to zero s ps = ps
release_to (suc i) s [] = []
release_to (suc i) s (p ∷ ps) = cond (has_sign s (licence_of p)) free_place p ∷ release_to i s ps

pub release-all : (i s : ℕ) (ps : List FlatLicence) → length ps ≤ i → release_to i s ps ≡ release s ps
release-all zero s [] h = refl
release-all zero s (p ∷ ps) h = absurd (not-suc-le-zero h)
release-all (suc i) s [] h = refl
release-all (suc i) s (p ∷ ps) h =
    ap (λ qs. cond (has_sign s (licence_of p)) free_place p ∷ qs) (release-all i s ps (omega arith))

-- nothing to release
release-unheld : (s : ℕ) (ps : List FlatLicence) → stands s ps ≡ false → release s ps ≡ ps
release-unheld s [] h = refl
release-unheld s (p ∷ ps) h =
    by-test (has_sign s (licence_of p)) (λ t. not-both (simp t) h) (λ t. simp t (ap (λ qs. p ∷ qs) (release-unheld s ps (simp t at h))))

pub release-not-held : (s : ℕ) (ps : List FlatLicence) → (s ≡ 0 → ⊥) → held s (in_force ps) ≡ false → release s ps ≡ ps
release-not-held s ps n h = release-unheld s ps (sym (held-in-force s ps n) ∙ h)

-- a place that is not reached yet
pub not-reached : (i s : ℕ) (ps : List FlatLicence) → get_or (release_to i s ps) i free_place ≡ get_or ps i free_place
not-reached zero s ps = refl
not-reached (suc i) s [] = refl
not-reached (suc i) s (p ∷ ps) = not-reached i s ps

-- a walk over the places that frees those of a call sign: the first i are released; `any` says that a place had it only if one had, and
-- that none had it only if none of these had
pub record Walked (s : ℕ) (old now : List FlatLicence) (any : Bool) (i : ℕ) : Type 0 where
  pub released : now ≡ release_to i s old
  pub yes : any ≡ true → stands s old ≡ true
  pub no : any ≡ false → (k : ℕ) → k < i → (get_or old k free_place).call_sign ≡ s → ⊥

pub walk-starts : (s : ℕ) (old : List FlatLicence) → Walked s old old false 0
walk-starts s old = record { released = refl; yes = λ e. not-both e refl; no = λ e k b. absurd (omega arith) }

module _ {s : ℕ} {old now : List FlatLicence} {any : Bool} {i : ℕ} (w : Walked s old now any i) where
  module _ (b : i < length old) where
    here : get_or now i free_place ≡ get_or old i free_place
    here = ap (λ ps. get_or ps i free_place) w.released ∙ not-reached i s old

    one_more : set now i (cond (has_sign s (licence_of (get_or now i free_place))) free_place (get_or now i free_place))
        ≡ release_to (i + 1) s old
    one_more = rw (add-one, w.released) (go i old b)
      where
        go : (i : ℕ) (ps : List FlatLicence) → i < length ps →
            (let p = get_or (release_to i s ps) i free_place in
            set (release_to i s ps) i (cond (has_sign s (licence_of p)) free_place p) ≡ release_to (suc i) s ps)
        go i [] b = absurd (not-suc-le-zero b)
        go zero (p ∷ ps) b = refl
        go (suc i) (p ∷ ps) b = ap (λ qs. cond (has_sign s (licence_of p)) free_place p ∷ qs) (go i ps (omega arith))

    -- the place has the call sign, and is freed
    pub walk-frees : (get_or now i free_place).call_sign ≡ s → Walked s old (set now i free_place) true (i + 1)
    walk-frees h = record {
      released = simp (sign-is s (licence_of (get_or now i free_place)) h) at one_more;
      yes = λ e. stands_at s old i b (sym (ap (λ (p : FlatLicence). p.call_sign) here) ∙ h);
      no = λ e. not-both refl e;
    }

    -- the place has another call sign, and stays
    pub walk-leaves : ((get_or now i free_place).call_sign ≡ s → ⊥) → Walked s old now any (i + 1)
    walk-leaves h = record {
      released = sym (set-get_or now i free_place) ∙ (simp (sign-not s (licence_of (get_or now i free_place)) h) at one_more);
      yes = w.yes;
      no = λ e k l q. by-test (eqb k i)
          (λ t. h (ap (λ (p : FlatLicence). p.call_sign) (here ∙ ap (λ j. get_or old j free_place) (sym (eqb-true k i t))) ∙ q))
          (λ t. let ne = eqb-false k i t in w.no e k (omega arith) q);
    }

  -- all places are passed
  pub walk-ends : length old ≤ i → (any ≡ stands s old) × (now ≡ release s old)
  walk-ends h = (go any w.yes w.no, w.released ∙ release-all i s old h)
    where
      go : (any : Bool) → (any ≡ true → stands s old ≡ true)
          → (any ≡ false → (k : ℕ) → k < i → (get_or old k free_place).call_sign ≡ s → ⊥) → any ≡ stands s old
      go true y n = sym (y refl)
      go false y n = sym (stands-none s old (λ k b. n refl k (omega arith)))
