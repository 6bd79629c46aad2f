-- The same licences in another order have the same coverage, blocks and holdings. Assumes nothing.
use Prim.Native.Nat.{ℕ}
use mathlib.Core.Path.{◌≡◌, ap, fun_ext}
use mathlib.Core.List.{List, map}
use Rattle.map.specs.Reading.{Read}
use Rattle.map.specs.Format.{Area, population}
use Rattle.register.specs.declared.Licence.{Licence}
use Rattle.register.specs.Sums.{SameLicences}
use Rattle.coverage.specs.declared.Holding.{Holding}
use Rattle.coverage.specs.declared.AreaBlocks.{AreaBlocks}
use Rattle.coverage.specs.Cover.{covered_by, cells_by, coverage_sums, holding_of, holdings_of}
use Rattle.coverage.specs.Blocks.{blocks_of}
use Rattle.coverage.specs.declared.CoverageSums.{CoverageSums}
use Rattle.coverage.specs.Answers.{of_map, no_sums, coverage_at, no_blocks, blocks_at}

module _ (xs ys : List Licence) (same : SameLicences xs ys) where
  -- c and the sum of cells are two such sums
  pub same-sums : (a : Area) → coverage_sums xs a ≡ coverage_sums ys a
  same-sums a = λ i. record { mhz_pops = record { 0 = same (covered_by a) i }; cells = record { 0 = same (cells_by a) i } }

  pub same-holding : (a : Area) → holding_of xs a ≡ holding_of ys a
  same-holding a =
      let with : CoverageSums → Holding = λ c. record {
        number = a.head.number;
        weight = a.head.weight;
        population = record { 0 = population a.grid };
        covered = c.mhz_pops;
        cells = c.cells;
      } in
      ap with (same-sums a)

  pub same-holdings : (areas : List Area) → holdings_of xs areas ≡ holdings_of ys areas
  same-holdings areas = ap (λ (f : Area → Holding). map f areas) (fun_ext same-holding)

  pub same-coverage-at : (number : ℕ) (r : Read (List Area)) → coverage_at number xs r ≡ coverage_at number ys r
  unfolding coverage_at
  same-coverage-at number r = ap (λ (f : Area → CoverageSums). of_map number no_sums f r) (fun_ext same-sums)

  pub same-blocks-at : (number : ℕ) (r : Read (List Area)) → blocks_at number xs r ≡ blocks_at number ys r
  unfolding blocks_at
  same-blocks-at number r =
      ap (λ (f : Area → AreaBlocks). of_map number no_blocks f r) (fun_ext (λ a. ap blocks_of (same-holding a)))
