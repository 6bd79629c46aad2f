-- Document 01, "The list of demand 3": a footprint over an accepted map is right for the ledger's lines. Assumes nothing.
use Prim.Native.Nat.{ℕ, ◌<◌}
use mathlib.Core.Path.{◌≡◌, sym, ap, subst, ◌∙◌}
use mathlib.Core.List.{List, map, ◌++◌}
use native.Mathlib.Omega.{arith}
use lib.Dec.{eqb}
use lib.ListN.{length, drop, get_or-append}
use lib.Seq.{drop-append_seam}
use Rattle.lists.specs.Sums.{flag}
use Rattle.lists.specs.Filters.{up_to}
use Rattle.lists.proofs.Tests.{told}
use Rattle.lists.proofs.InPlace.{each_below, each_at}
use Rattle.map.specs.Reading.{good}
use Rattle.map.specs.Format.{Area, read_map}
use Rattle.map.specs.Accepted.{AreaHolds, MapHolds}
use Rattle.map.proofs.Accepted.{accepted, locates, located-self}
use Rattle.register.specs.declared.Licence.{Licence}
use Rattle.coverage.specs.Cover.{holdings_of}
use Rattle.proposal.specs.Answer.{Proposal, proposal}
use Rattle.ring.specs.Ring.{Places, shown}
use Rattle.rounds.specs.Footprint as outline
use Rattle.rounds.proofs.Theorems.{right-same}
use Rattle.footprint.specs.Footprint.{Footprint, part_area, covered_cells, footprint_by}
use Rattle.footprint.specs.Promises.{Reply, Leaves}
use Rattle.footprint.proofs.ShareLaws.{OneShare}
use Rattle.footprint.proofs.CaseLaws.{Case, refuses, lacks, makes, cases}
use Rattle.footprint.proofs.OutlineLaws.{outline-right}
use Rattle.demand3.specs.Right.{Partial, FootprintRight}

-- a set told by 1 and 0 in the first n bytes
shown-front : (cells : Places) (n : ℕ) (rest : List ℕ) (i : ℕ) → i < n → shown (map (λ j. flag (cells j)) (up_to n) ++ rest) i ≡ cells i
shown-front cells n rest i h =
    let size = each_below (λ j. flag (cells j)) n in
    ap (λ (b : ℕ). eqb b 1)
    (get_or-append (map (λ j. flag (cells j)) (up_to n)) rest 0 i (omega arith) ∙ each_at (λ j. flag (cells j)) n i h)
    ∙ told (cells i)

past-front : (cells : Places) (n : ℕ) (rest : List ℕ) → drop n (map (λ j. flag (cells j)) (up_to n) ++ rest) ≡ rest
past-front cells n rest =
    let front = map (λ (j : ℕ). flag (cells j)) (up_to n) in
    ap (λ (k : ℕ). drop k (front ++ rest)) (sym (each_below (λ j. flag (cells j)) n)) ∙ drop-append_seam front rest

module _ (s : List ℕ) (areas : List Area) (e : ℕ) (reads : read_map s ≡ good areas e) (lines : List Licence) (draw : ℕ)
    (mask table : List ℕ) (r : Reply) (after entries : List ℕ)
  where
    abbrev p : Proposal
    p = proposal (holdings_of lines areas) draw

    abbrev comes : Footprint
    comes = footprint_by areas lines (length mask) (length table) p

    abbrev Done : Footprint → Type 0
    Done x = Leaves x r mask after table entries

    h : MapHolds s areas
    h = accepted s areas e reads

    -- the partial area
    abbrev partial : OneShare areas lines p → Partial areas lines draw
    partial q = record {
      area = q.area;
      located = located-self 0 areas h.ascending q.area q.member;
      share = q.share;
      shared = q.shared;
    }

    holds : (q : OneShare areas lines p) → AreaHolds s q.area
    holds q = (locates s q.area.head.number areas h.each q.area (partial q).located).1

    by-case : Done comes → Case areas lines draw (length mask) (length table) comes →
        FootprintRight areas lines draw mask table r after entries
    by-case d (refuses n z k q) =
        let x = subst Done q d in
        let is : r.refused ≡ n = ap (λ (w : Reply). w.refused) x.answer in
        record {
          answer = d;
          table-left = λ _. x.unused;
          mask-left = λ _ _. x.bytes;
          short = λ y. absurd (k (sym is ∙ y));
          carries = λ y. absurd (z (sym is ∙ y));
        }
    by-case d (lacks q room few eq) =
        let x = subst Done eq d in
        let is : r.refused ≡ 8 = ap (λ (w : Reply). w.refused) x.answer in
        let needs = ap (λ (w : Reply). w.needed) x.answer in
        record {
          answer = d;
          table-left = λ _. x.unused;
          mask-left = λ _ y. absurd (y is);
          short = λ _. record {
            of = partial q;
            count = needs;
            lacks = subst (λ (n : ℕ). length table < n) (sym needs) few;
            zeros = x.bytes;
          };
          carries = λ y. absurd (let z : ◌≡◌ {A = ℕ} 8 0 = sym is ∙ y in omega arith);
        }
    by-case d (makes q room eq) =
        let x = subst Done eq d in
        let is : r.refused ≡ 0 = ap (λ (w : Reply). w.refused) x.answer in
        let n = outline.places (part_area q.area) in
        let cells = outline.footprint (part_area q.area) q.share (covered_cells lines q.area) in
        record {
          answer = d;
          table-left = λ y. absurd (y is);
          mask-left = λ y _. absurd (y is);
          short = λ y. absurd (let z : ◌≡◌ {A = ℕ} 0 8 = sym is ∙ y in omega arith);
          carries = λ _. record {
            of = partial q;
            number = ap (λ (w : Reply). w.area) x.answer;
            right = right-same (part_area q.area) q.share (covered_cells lines q.area) cells (shown after)
                (λ i k. ap (λ (m : List ℕ). shown m i) x.bytes ∙ shown-front cells n (drop n mask) i k)
                (outline-right (holds q) lines q.share (q.above, q.below));
            past = ap (drop n) x.bytes ∙ past-front cells n (drop n mask);
          };
        }

    pub footprint-right : Done comes → FootprintRight areas lines draw mask table r after entries
    footprint-right d = by-case d (cases h lines draw (length mask) (length table))
