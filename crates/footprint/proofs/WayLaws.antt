-- From the holdings and the proposal to the footprint: each way through the code. Assumes nothing.
use Prim.Native.Nat.{ℕ}
use mathlib.Core.Path.{◌≡◌, refl, sym, ap, subst, ◌∙◌}
use mathlib.Core.List.{List, map}
use native.Mathlib.Omega.{arith}
use lib.ListN.{get_or, take}
use lib.Seq.{get_or-take, length-take-le}
use Rattle.std.specs.Prelude.{Result, Ok, Err}
use Rattle.lists.specs.Sums.{All}
use Rattle.units.specs.declared.Weighted.{Weighted}
use Rattle.map.specs.Reading.{Read, bad}
use Rattle.map.specs.Format.{Area, read_map}
use Rattle.map.specs.declared.Area as handed
use Rattle.map.specs.declared.Fault.{Fault}
use Rattle.map.specs.declared.Fault.TheVariants as fault
use Rattle.map.specs.Answers.{fault_number, summary}
use Rattle.map.specs.Accepted.{AreaHolds, MapHolds}
use Rattle.map.proofs.Accepted.{accepted, locates, located-self}
use Rattle.register.specs.declared.Licence.{Licence}
use Rattle.coverage.specs.declared.Holding.{Holding}
use Rattle.coverage.specs.declared.Holdings.{Holdings}
use Rattle.coverage.specs.Cover.{holdings_of}
use Rattle.coverage.specs.Limits.{Limits}
use Rattle.coverage.proofs.BlockLaws.{limits-in}
use Rattle.coverage.specs.Answers.{no_area}
use Rattle.coverage.specs.Holdings.{HoldingsAre}
use Rattle.search.specs.declared.Kind.{Kind}
use Rattle.search.specs.declared.Kind.TheVariants.{Exact, RoundedUp, OnePart}
use Rattle.search.specs.Proposal.{kind_number}
use Rattle.proposal.specs.declared.ProposalRefusal.{ProposalRefusal}
use Rattle.proposal.specs.declared.ProposalRefusal.TheVariants as proposing
use Rattle.proposal.specs.declared.answer.Proposal as proposed
use Rattle.proposal.specs.Answer.{Given, Proposal, proposal}
use Rattle.proposal.specs.Code.{Bounded}
use Rattle.proposal.specs.Promises as proposes
use Rattle.proposal.specs.Promises.{refusal_number, area_means, answer_means, Answers}
use Rattle.places.specs.Places.{IsGood}
use Rattle.footprint.specs.declared.FootprintRefusal.{FootprintRefusal}
use Rattle.footprint.specs.declared.FootprintRefusal.TheVariants.{NotOnePart}
use Rattle.footprint.specs.Footprint.{part_area, covered_cells, Footprint, refused, footprint_of, footprint_by, footprint_on}
use Rattle.footprint.specs.Promises.{reply, means, FootprintDone}
use Rattle.footprint.specs.Code.{refused_proposal, shared_from, part_at, part_by, Readable, Fits}
use Rattle.footprint.proofs.ShareLaws.{one-share}
use Rattle.footprint.proofs.CaseLaws.{by-refusal, by_kind, share-is}

-- "Refused by the input": no refusal has the number 0
fault-number : (f : Fault) → fault_number f ≡ 0 → ⊥
fault-number fault.Ends e = omega arith
fault-number fault.Limit e = omega arith
fault-number fault.Extra e = omega arith
fault-number fault.Order e = omega arith
fault-number fault.Population e = omega arith

-- "Buffers are untouched"
pub untouched : (n : ℕ) (r : FootprintRefusal) (mask table : List ℕ) (o : Footprint) → means (Err r) ≡ reply n 0 0 → o ≡ refused n
    → FootprintDone o (Err r) mask mask table table
untouched n r mask table o e q =
    subst (λ (x : Footprint). FootprintDone x (Err r) mask mask table table) (sym q)
    (record { answer = e; bytes = refl; size = refl; unused = refl })

-- the rows of an area of the map can be read
pub readable : {s : List ℕ} {a : Area} {b : handed.Area} → AreaHolds s a → b ≡ summary a → Readable s b
readable {s} {a} h e = subst (Readable s) (sym e) (record {
  rows = h.rows.1;
  columns = h.columns.1;
  reads = subst IsGood (sym h.reads) tt;
})

-- ---- what comes of a partial area, whatever is lent

module _ (s : List ℕ) (licences : List Licence) (draw : ℕ) where
  -- none: 1 to 5, 12 or 13
  pub record NoPart (r : FootprintRefusal) : Type 0 where
    pub number : ℕ
    pub told : means (Err r) ≡ reply number 0 0
    pub comes : (mask table : ℕ) → footprint_on (read_map s) licences draw mask table ≡ refused number

  -- the area that `b` stands for: 7, 8 or its footprint
  pub record HasPart (b : handed.Area) (share : ℕ) : Type 0 where
    pub area : Area
    pub handed : b ≡ summary area
    pub holds : AreaHolds s area
    pub fits : Fits licences share area
    pub comes : (mask table : ℕ) → footprint_on (read_map s) licences draw mask table
        ≡ footprint_of area.head.number (part_area area) share (covered_cells licences area) mask table

  abbrev pub ComesOf : Result (handed.Area × Weighted) FootprintRefusal → Type 0
  ComesOf (Err r) = NoPart r
  ComesOf (Ok part) = HasPart part.0 part.1.0

-- a map that is refused
pub map-refused : (s : List ℕ) (licences : List Licence) (draw : ℕ) (f : Fault) → read_map s ≡ bad (fault_number f) → (mask table : ℕ)
    → footprint_on (read_map s) licences draw mask table ≡ refused (fault_number f)
unfolding footprint_on
map-refused s licences draw f e mask table = ap (λ (m : Read (List Area)). footprint_on m licences draw mask table) e

-- ---- over an accepted map

-- its holdings, and the proposal that is made from them
module _ (s : List ℕ) (licences : List Licence) (h : Holdings) (d : HoldingsAre licences (read_map s) h) (draw : ℕ) where
  abbrev areas : List Area
  areas = d.areas

  abbrev p : Proposal
  p = proposal (holdings_of licences areas) draw

  holds : MapHolds s areas
  holds = accepted s areas d.next d.reads

  -- what a proposal asks of them
  pub bounded : Bounded (take h.count h.areas)
  bounded = record {
    few = omega (arith, d.few, length-take-le h.count h.areas (omega (arith, d.few, d.entries)));
    limits = subst (All Limits) (sym d.each) (limits-in licences s areas d.next d.reads);
  }

  on : (mask table : ℕ) → footprint_on (read_map s) licences draw mask table ≡ footprint_by areas licences mask table p
  unfolding footprint_on
  on mask table = ap (λ (m : Read (List Area)). footprint_on m licences draw mask table) d.reads

  module _ {r : Result proposed.Proposal ProposalRefusal} (a : Answers (proposal (take h.count h.areas) draw) r) where
    meant : answer_means r ≡ p
    meant = a.meaning ∙ ap (λ (l : List Holding). proposal l draw) d.each

  -- a refusal
  pub proposal-refused : (x : ProposalRefusal) → Answers (proposal (take h.count h.areas) draw) (Err x)
      → NoPart s licences draw (refused_proposal x)
  proposal-refused x a =
      let refusal = ap (λ (x : Proposal). x.refused) (meant a) in
      record {
        number = refusal_number x;
        told = told x;
        comes = λ mask table.
            on mask table ∙ by-refusal areas licences mask table p (λ z. some x (refusal ∙ z)) ∙ ap refused (sym refusal);
      }
    where
      told : (x : ProposalRefusal) → means (Err (refused_proposal x)) ≡ reply (refusal_number x) 0 0
      told (proposing.Map f) = refl
      told proposing.TooMany = refl

      some : (x : ProposalRefusal) → refusal_number x ≡ 0 → ⊥
      some (proposing.Map f) = fault-number f
      some proposing.TooMany = λ e. omega arith

  module _ (r : proposed.Proposal) (a : Answers (proposal (take h.count h.areas) draw) (Ok r)) where
    abbrev given : List Given
    given = map area_means (take r.count r.areas)

    refusal : p.refused ≡ 0
    unfolding proposes.means
    refusal = ap (λ (x : Proposal). x.refused) (sym (meant a))

    kind : {k : Kind} → r.kind ≡ k → p.kind ≡ kind_number k
    unfolding proposes.means
    kind e = ap (λ (x : Proposal). x.kind) (sym (meant a)) ∙ ap kind_number e

    same : given ≡ p.areas
    unfolding proposes.means
    same = ap (λ (x : Proposal). x.areas) (meant a)

    -- kinds 1 and 2
    not_three : (n : ℕ) → p.kind ≡ n → (n ≡ 3 → ⊥) → NoPart s licences draw NotOnePart
    not_three n k z = record {
      number = 13;
      told = refl;
      comes = λ mask table. on mask table ∙ by_kind areas licences mask table p refusal (λ q. z (sym k ∙ q));
    }

    -- kind 3: the area at the place of the share
    part : p.kind ≡ 3 → ComesOf s licences draw (part_at h.stands (shared_from 0 given))
    part k =
        let q = one-share areas licences draw refusal k in
        let inside = q.inside in
        let found = locates s q.area.head.number areas holds.each q.area
        (located-self 0 areas holds.ascending q.area q.member) in
        subst (λ x. ComesOf s licences draw (part_at h.stands x)) (sym (ap (shared_from 0) same ∙ q.placed)) (record {
          area = q.area;
          handed = sym (get_or-take h.count h.stands q.place no_area (omega (arith, inside, d.count)))
              ∙ ap (λ (l : List handed.Area). get_or l q.place no_area) d.stands
              ∙ q.stands;
          holds = found.1;
          fits = (q.above, q.below);
          comes = λ mask table. on mask table ∙ share-is holds licences draw mask table refusal k q;
        })

    pub proposal-made : ComesOf s licences draw (part_by h.stands r.kind (shared_from 0 given))
    proposal-made = go r.kind refl
      where
        go : (k : Kind) → r.kind ≡ k → ComesOf s licences draw (part_by h.stands k (shared_from 0 given))
        go Exact e = not_three 1 (kind e) (λ z. omega arith)
        go RoundedUp e = not_three 2 (kind e) (λ z. omega arith)
        go OnePart e = part (kind e)
