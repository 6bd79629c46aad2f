-- What an interface has to show, so that demand 3 holds of it: its functions ask nothing, and the contract of each says no less of its
-- call than document 01 does. Assumes nothing.
use Prim.Native.Nat.{ℕ}
use mathlib.Core.Path.{◌≡◌, refl, ap}
use mathlib.Core.List.{List}
use contract.Lifetimes.{Lfts}
use lib.ListN.{length}
use Rattle.map.specs.Format.{read_map}
use Rattle.register.specs.declared.Register.{Register}
use Rattle.register.specs.Licences.{in_force}
use Rattle.register.specs.Promises.{EmptyDone, GrantStep, CancelStep}
use Rattle.proposal.specs.Answer.{Proposal, proposal_on}
use Rattle.footprint.specs.Footprint.{footprint_on}
use Rattle.footprint.specs.Promises.{Reply, Leaves}
use Rattle.demand3.specs.Calls.{licence, Call, grant, cancel, propose, footprint, Outlined, Outcome, number}
use Rattle.demand3.specs.Interface.{Function, Saying, Interface}
use Rattle.demand3.specs.Lent.{Where, WhereWritten, OnMap, on_map, proposing, OnBuffers, on_buffers, outlining}

-- what a call does, by the register that it gets and over any bytes
abbrev pub Does : (map : List ℕ) → Register → (c : Call) → Outcome c → Register → Type 0
Does map r (grant s g w) n next = GrantStep r (licence s g w) (record { next = next; refusal = n })
Does map r (cancel s) n next = CancelStep r s (record { next = next; refusal = n })
Does map r (propose draw) p next = (p ≡ proposal_on (read_map map) (in_force r.places) draw) × (next ≡ r)
Does map r (footprint draw mask table) o next =
    Leaves (footprint_on (read_map map) (in_force r.places) draw (length mask) (length table)) o.answer mask o.mask table o.table
    × (next ≡ r)

-- what the function of a call has to show
pub record Lawful {c : Call} (f : Function c) : Type 0 where
  pub asks_nothing : (map : List ℕ) (r : Register) → f.Asks map r
  -- by its contract the answer says what the call does
  pub said : {map : List ℕ} {r : Register} {a : f.Answer} {next : Register} → f.Step map r a next →
      Saying f a (λ o. Does map r c o next)
  -- the number in an answer is that of the outcome that it says
  pub numbered : {a : f.Answer} {o : Outcome c} → f.Says a o → f.number a ≡ number c o

pub record Laws (i : Interface) : Type 0 where
  pub empty-asks-nothing : i.EmptyAsks
  pub empties : {r : Register} → i.Empties r → EmptyDone r
  pub each : (c : Call) → Lawful (i.function c)

-- ---- the functions of a proposal and of a footprint

-- a proposal's function that asks nothing, whose contract says document 01's proposal, and whose number is the proposal's
module _ (draw : ℕ) {A : Type 0} (number : A → ℕ) (Says : A → Proposal → Type 0)
    (Pre : Lfts 1 → OnMap → Type 0) (Post : Lfts 1 → OnMap → A → OnMap → Type 0)
  where
    pub proposing-lawful : ((lives : Lfts 1) (given : OnMap) → Pre lives given) →
        ((lives : Lfts 1) (lies : Where) (map : List ℕ) (r : Register) (a : A) →
        Post lives (on_map lies map r draw) a (on_map lies map r draw) →
        Says a (proposal_on (read_map map) (in_force r.places) draw)) →
        ((a : A) (p : Proposal) → Says a p → number a ≡ p.refused) → Lawful (proposing draw number Says Pre Post)
    proposing-lawful asks post numbered = record {
      asks_nothing = λ map r lives lies. asks lives (on_map lies map r draw);
      said = λ {map} {r} {a} {next} d. record {
        outcome = proposal_on (read_map map) (in_force r.places) draw;
        says = post d.0.lives d.0.lies map r a d.0.post;
        holds = (refl, d.1);
      };
      numbered = λ {a} {o} e. numbered a o e;
    }

-- a footprint's function that asks nothing, and whose contract says document 01's footprint
module _ (draw : ℕ) (mask table : List ℕ) {A : Type 0} (means : A → Reply)
    (Pre : Lfts 3 → OnBuffers → Type 0) (Post : Lfts 3 → OnBuffers → A → OnBuffers → Type 0)
  where
    pub outlining-lawful : ((lives : Lfts 3) (given : OnBuffers) → Pre lives given) →
        ((lives : Lfts 3) (lies : Where) (masks tables : WhereWritten) (map : List ℕ) (r : Register) (a : A) (after entries : List ℕ) →
        Post lives (on_buffers lies masks tables map r draw mask table) a (on_buffers lies masks tables map r draw after entries) →
        Leaves (footprint_on (read_map map) (in_force r.places) draw (length mask) (length table)) (means a) mask after table entries) →
        Lawful (outlining draw mask table means Pre Post)
    outlining-lawful asks post = record {
      asks_nothing = λ map r lives lies masks tables. asks lives (on_buffers lies masks tables map r draw mask table);
      said = λ {map} {r} {a} {next} d. record {
        outcome = record { answer = means a.answer; mask = a.mask; table = a.table };
        says = refl;
        holds = (
          post d.0.lives d.0.lies d.0.masks d.0.tables map r a.answer a.mask a.table d.0.post,
          d.1,
        );
      };
      numbered = λ e. ap (λ (x : Outlined Reply). x.answer.refused) e;
    }
