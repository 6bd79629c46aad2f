-- Document 01, "The list of demand 3": the claim about every list of grants, cancellations, proposals and footprints from an empty
-- register, through any interface. What holds of each call is in proofs/Steps. Assumes nothing.
use Prim.Native.Nat.{ℕ, zero-le}
use mathlib.Core.Path.{subst, ◌∙◌}
use mathlib.Core.List.{List, [], ◌∷◌, ◌++◌}
use native.Mathlib.Omega.{arith}
use Rattle.map.specs.Format.{Area, read_map}
use Rattle.register.specs.declared.Ground.{Ground}
use Rattle.register.specs.declared.Licence.{Licence}
use Rattle.register.specs.declared.Register.{Register}
use Rattle.register.specs.Licences.{in_force}
use Rattle.register.specs.Rules.{grant_rule, cancel_rule}
use Rattle.register.specs.Sums.{SameLicences, signs}
use Rattle.register.proofs.Sums.{same_length}
use Rattle.coverage.specs.Cover.{holdings_of}
use Rattle.proposal.specs.Answer.{proposal}
use Rattle.demand3.specs.Calls.{Width, licence, Call, grant, cancel, propose, Outcome}
use Rattle.demand3.specs.Ledger.{lines_after, ledger}
use Rattle.demand3.specs.Interface.{Function, Saying, Interface, Made, calls, Run, done, step}
use Rattle.demand3.specs.Right.{Right, AsDefined, Sound, Holds, Each, Registers, Demand3}
use Rattle.demand3.proofs.Lawful.{Laws}
use Rattle.demand3.proofs.Steps.{Same, same_step, refused-keeps, empty-same, defined-step, right-step, sound-after}

sound-from : (lines : List Licence) (cs : List Call) → Sound lines → Sound (ledger lines cs)
sound-from lines [] p = p
sound-from lines (c ∷ cs) p = sound-from (lines_after lines c) cs (sound-after lines c p)

-- what is sound of the lines is sound of the same licences in another order
same-sound : (xs ys : List Licence) → SameLicences xs ys → Sound ys → Sound xs
same-sound xs ys same p =
    let n = same_length xs ys same in
    let few = p.few in
    record { once = λ s. (let e = same (signs s) in let once = p.once s in omega arith); few = omega arith }

none-sound : Sound []
none-sound = record { once = λ s. zero-le; few = zero-le }

holds-lines : (r : Register) (lines : List Licence) → Same r lines → Sound lines → Holds r lines
holds-lines r lines same p = record { same = same; sound = same-sound (in_force r.places) lines same p }

-- ---- what each answer says

module _ {i : Interface} {P Q : List Licence → (c : Call) → Outcome c → Type 0}
    (f : (lines : List Licence) (c : Call) (o : Outcome c) → P lines c o → Q lines c o)
  where
    each-implies : (lines : List Licence) (made : List (Made i)) → Each P lines made → Each Q lines made
    each-implies lines [] h = tt
    each-implies lines (m ∷ made) h = (
      record { outcome = h.0.outcome; says = h.0.says; holds = f lines m.call h.0.outcome h.0.holds },
      each-implies (lines_after lines m.call) made h.1,
    )

-- what the answer at any place of the list says, by the ledger's lines before it
pub each_at : {i : Interface} (P : List Licence → (c : Call) → Outcome c → Type 0) (lines : List Licence)
    (before : List (Made i)) (m : Made i) (later : List (Made i)) → Each P lines (before ++ (m ∷ later)) →
    Saying (i.function m.call) m.answer (P (ledger lines (calls before)) m.call)
each_at P lines [] m later h = h.0
each_at P lines (b ∷ before) m later h = each_at P (lines_after lines b.call) before m later h.1

-- a right answer says document 01's own outcome: nothing is left open between the two. Of a footprint `Right` says it in full
module _ (areas : List Area) (lines : List Licence) where
  pub says-grant : {s : ℕ} {g : Ground} {w : Width} (f : Function (grant s g w)) {a : f.Answer} →
      Saying f a (Right areas lines (grant s g w)) → f.Says a (grant_rule lines (licence s g w))
  says-grant f {a} s = subst (f.Says a) s.holds s.says

  pub says-cancel : {k : ℕ} (f : Function (cancel k)) {a : f.Answer} → Saying f a (Right areas lines (cancel k)) →
      f.Says a (cancel_rule lines k)
  says-cancel f {a} s = subst (f.Says a) s.holds s.says

  pub says-proposal : {draw : ℕ} (f : Function (propose draw)) {a : f.Answer} → Saying f a (Right areas lines (propose draw)) →
      f.Says a (proposal (holdings_of lines areas) draw)
  says-proposal f {a} s = subst (f.Says a) s.holds.answer s.says

-- the last register of a run holds the lines that are left
pub last-holds : {i : Interface} {map : List ℕ} {r last : Register} {made : List (Made i)} (lines : List Licence)
    (run : Run i map r made last) → Registers lines run → Holds last (ledger lines (calls made))
last-holds lines done h = h
last-holds lines (step m s run) h = last-holds (lines_after lines m.call) run h.2

-- ---- the claim

module _ (i : Interface) (laws : Laws i) where
  from : {map : List ℕ} {r last : Register} {made : List (Made i)} (lines : List Licence) (run : Run i map r made last) →
      Same r lines → Sound lines → Each (AsDefined (read_map map)) lines made × Registers lines run
  from {r = r} lines done same p = (tt, holds-lines r lines same p)
  from {map} {r} lines (step {next = next} m s run) same p =
      let law = laws.each m.call in
      let d = law.said s in
      let after = same_step map r lines same m.call d.outcome next d.holds in
      let h = from (lines_after lines m.call) run after (sound-after lines m.call p) in (
        (
          record {
            outcome = d.outcome;
            says = d.says;
            holds = defined-step map r lines same m.call d.outcome next d.holds;
          },
          h.0,
        ),
        (
          holds-lines r lines same p,
          λ z. refused-keeps map r m.call d.outcome next d.holds (λ e. z (law.numbered d.says ∙ e)),
          h.1,
        ),
      )

  pub demand-3 : Demand3 i
  demand-3 = record {
    empty-free = laws.empty-asks-nothing;
    free = λ c. (laws.each c).asks_nothing;
    claim = λ map first last made e run.
        let h = from [] run (empty-same first (laws.empties e)) none-sound in
        record {
          right = λ areas end reads. each-implies (right-step map areas end reads) [] made h.0;
          defined = h.0;
          registers = h.1;
          sound = λ before later q. sound-from [] (calls before) none-sound;
        };
  }
