-- Document 01, "The register": "A cancelled call sign may be granted again and its place is used again." Assumes nothing.
use Prim.Native.Nat.{ℕ, zero, suc, ◌<◌}
use mathlib.Core.Path.{◌≡◌, refl, sym, ap, ◌∙◌}
use mathlib.Core.Bool.{true, false}
use mathlib.Core.List.{List, [], ◌∷◌}
use native.Mathlib.Omega.{arith}
use native.Mathlib.Nat.{not-suc-le-zero}
use lib.ListN.{length, get_or}
use Rattle.register.specs.declared.Licence.{Licence}
use Rattle.register.specs.declared.FlatLicence.{FlatLicence}
use Rattle.register.specs.declared.Register.{Register}
use Rattle.register.specs.declared.GrantRefusal.{GrantRefusal}
use Rattle.register.specs.Licences.{well_formed, licence_of, free_place, has_sign, in_force, held, strike, release}
use Rattle.std.specs.Prelude.{Result, Ok, Err, IsOk}
use Rattle.register.specs.Rules.{grant_rule}
use Rattle.register.specs.declared.GrantRefusal.TheVariants.{IllFormed, InForce, Full}
use Rattle.register.specs.Promises.{GrantDone, CancelDone}
use Rattle.register.proofs.Laws.{is-sign, some-free, rule-accepted, accepted-held}
use Rattle.lists.proofs.Tests.{by-test}
use Rattle.register.proofs.Sums.{release-strike, struck-some, struck-gone}

length-release : (s : ℕ) (ps : List FlatLicence) → length (release s ps) ≡ length ps
length-release s [] = refl
length-release s (p ∷ ps) = ap suc (length-release s ps)

-- a place that a release made free had the call sign
released-place : (s : ℕ) (ps : List FlatLicence) (k : ℕ) → k < length ps → ((get_or ps k free_place).call_sign ≡ 0 → ⊥) →
    (get_or (release s ps) k free_place).call_sign ≡ 0 → (get_or ps k free_place).call_sign ≡ s
released-place s [] k b n e = absurd (not-suc-le-zero b)
released-place s (p ∷ ps) zero b n e = by-test (has_sign s (licence_of p)) (λ t. is-sign s (licence_of p) t) (λ t. absurd (n (simp t at e)))
released-place s (p ∷ ps) (suc k) b n e = released-place s ps k (omega arith) n e

-- a grant that the rule accepts is accepted
accepted-ok : (old : Register) (l : Licence) (g : Result Register GrantRefusal) → GrantDone old l g → grant_rule (in_force old.places) l ≡ 0
    → IsOk g
accepted-ok old l (Ok next) d e = refl
accepted-ok old l (Err IllFormed) d e = absurd (let n = d.number in omega arith)
accepted-ok old l (Err InForce) d e = absurd (let n = d.number in omega arith)
accepted-ok old l (Err Full) d e = absurd (let n = d.number in omega arith)

-- 64 licences are in force, and the cancellation of s is accepted
module _
    (old : Register)
    (s : ℕ)
    (now : Register)
    (places : length old.places ≡ 64)
    (full : length (in_force old.places) ≡ 64)
    (cancelled : CancelDone old s (Ok now))
  where
    struck : in_force now.places ≡ strike s (in_force old.places)
    struck = ap in_force (cancelled.accepted refl) ∙ release-strike s old.places

    was-held : held s (in_force old.places) ≡ true
    was-held = accepted-held (in_force old.places) s (sym cancelled.number)

    -- there is room for any licence whose call sign is not in force
    module _ (l : Licence) (formed : well_formed l ≡ true) where
      pub room-after-cancel : (g : Result Register GrantRefusal) → GrantDone now l g → held l.call_sign (in_force now.places) ≡ false → IsOk g
      room-after-cancel g granted new =
          let room = struck-some s (in_force old.places) was-held in
          let n = ap length struck in
          accepted-ok now l g granted (rule-accepted (in_force now.places) l formed new (omega arith))

      -- the cancelled call sign is such a one
      pub granted-again : (g : Result Register GrantRefusal) → GrantDone now l g → l.call_sign ≡ s → IsOk g
      granted-again g granted e = room-after-cancel g granted (rw (struck, e) (struck-gone s (in_force old.places)))

      -- and the place that the licence takes is one that held s
      pub place-used-again : (next : Register) (granted : GrantDone now l (Ok next)) →
          (get_or old.places (granted.accepted refl).place free_place).call_sign ≡ s
      place-used-again next granted =
          let p = granted.accepted refl in
          let freed = cancelled.accepted refl in
          let n = ap length freed ∙ length-release s old.places in
          let within : p.place < length old.places = omega arith in
          released-place s old.places p.place within
          (λ free. let h = some-free old.places p.place within free in omega arith)
          (rw freed at p.was_free)
