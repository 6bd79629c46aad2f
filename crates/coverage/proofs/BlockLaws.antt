-- Laws of the blocks of an area. Assumes nothing.
use Prim.Native.Nat.{ℕ, ◌+◌, ◌*◌, ◌/◌, ◌%◌, ◌≤◌, ◌<◌}
use mathlib.Core.Path.{◌≡◌, sym, ap, ◌∙◌, subst}
use mathlib.Core.Bool.{Bool, true, false, cond, ◌&&◌}
use mathlib.Core.List.{List}
use native.Mathlib.Omega.{arith}
use native.Mathlib.Nat.{add-zero, mod-lt, mul-le-mul, mul-pos}
use lib.Dec.{ltb, leb}
use borrow.Author.Tests.{lt-ltb, le-ltb, leb-true, le-leb}
use Rattle.units.specs.Sums.{capped}
use Rattle.units.proofs.Laws.{exact}
use Rattle.lists.specs.Sums.{All}
use Rattle.lists.proofs.Tests.{by-test, takes, both, first_of, second-of}
use Rattle.lists.proofs.SumLaws.{all_map}
use Rattle.map.specs.Reading.{good}
use Rattle.map.specs.Format.{Area, read_map}
use Rattle.map.specs.Accepted.{AreaHolds}
use Rattle.map.proofs.Accepted.{accepted}
use Rattle.register.specs.declared.Licence.{Licence}
use Rattle.coverage.specs.declared.Holding.{Holding}
use Rattle.coverage.specs.declared.AreaBlocks.{AreaBlocks}
use Rattle.coverage.specs.Cover.{holding_of, holdings_of}
use Rattle.coverage.specs.Blocks.{remainder, rounds_up, whole_blocks, partial, value, size, blocks_of}
use Rattle.coverage.specs.Limits.{Limits, in_limits}
use Rattle.coverage.specs.Answers.{no_blocks}

-- ---- the holdings of an accepted map are within the limits

pub limits_of : (ls : List Licence) {s : List ℕ} (a : Area) → AreaHolds s a → Limits (holding_of ls a)
limits_of ls a h = record { heavy = h.weight.0; light = h.weight.1; peopled = h.peopled.0; small = h.peopled.1 }

pub limits-in : (ls : List Licence) (s : List ℕ) (areas : List Area) (e : ℕ) → read_map s ≡ good areas e
    → All Limits (holdings_of ls areas)
limits-in ls s areas e q = all_map (AreaHolds s) Limits (holding_of ls) (limits_of ls) areas (accepted s areas e q).each

-- ---- the limits as a test

module _ (h : Holding) where
  abbrev weight_test : Bool
  weight_test = leb 1 h.weight && leb h.weight 65535

  abbrev people_test : Bool
  people_test = leb 1 h.population.0 && leb h.population.0 40000000

  pub limits-pass : Limits h → in_limits h ≡ true
  unfolding in_limits
  limits-pass w =
      both (both (le-leb 1 h.weight w.heavy) (le-leb h.weight 65535 w.light))
      (both (le-leb 1 h.population.0 w.peopled) (le-leb h.population.0 40000000 w.small))

  pub limits-told : in_limits h ≡ true → Limits h
  unfolding in_limits
  limits-told e =
      let weight = first_of weight_test people_test e in
      let people = second-of weight_test people_test e in
      record {
        heavy = leb-true 1 h.weight (first_of (leb 1 h.weight) (leb h.weight 65535) weight);
        light = leb-true h.weight 65535 (second-of (leb 1 h.weight) (leb h.weight 65535) weight);
        peopled = leb-true 1 h.population.0 (first_of (leb 1 h.population.0) (leb h.population.0 40000000) people);
        small = leb-true h.population.0 40000000 (second-of (leb 1 h.population.0) (leb h.population.0 40000000) people);
      }

-- within the limits the blocks are those of the definition
pub blocks-exact : {h : Holding} {x : AreaBlocks} → Limits h → x ≡ cond (in_limits h) (blocks_of h) no_blocks → x ≡ blocks_of h
blocks-exact {h} w e = e ∙ sym (takes no_blocks (limits-pass h w))

-- ---- the blocks of an area within the limits

module _ {h : Holding} (w : Limits h) where
  -- the remainder is below a whole block
  pub remainder-small : remainder h < 100 * h.population.0
  unfolding remainder
  remainder-small = mod-lt h.covered.0 (omega (arith, w.peopled))

  -- v and M are at most what the largest area has
  pub value-small : value h ≤ 262140000000000
  unfolding value
  value-small =
      let r : remainder h ≤ 4000000000 = omega (arith, remainder-small, w.small) in
      omega (arith, mul-le-mul w.light r)

  pub size_small : size h ≤ 262140000000000
  unfolding size
  size_small =
      let m : 100 * h.weight ≤ 6553500 = omega (arith, w.light) in
      omega (arith, mul-le-mul m w.small)

  size-some : 0 < size h
  unfolding size
  size-some =
      let m : 0 < 100 * h.weight = omega (arith, w.heavy) in
      mul-pos m w.peopled

  -- a partial area has a size, and no other has one
  pub partial-sized : partial h ≡ ltb 0 (blocks_of h).size.0
  unfolding blocks_of
  partial-sized = by-test (partial h) (λ t. simp t (sym (lt-ltb 0 (size h) size-some))) (λ t. simp t)

  -- what the products give
  pub mhz-pops-exact : {k n : ℕ} → k ≤ 100 → n ≡ capped (k * h.population.0) → n ≡ k * h.population.0
  mhz-pops-exact {k} few e = e ∙ exact (k * h.population.0) (omega (arith, mul-le-mul few w.small))

  pub value-exact : {v : ℕ} → v ≡ capped (h.weight * remainder h) → v ≡ value h
  unfolding value
  value-exact e = e ∙ exact (h.weight * remainder h) (omega (arith, value-small))

  pub size_exact : {m : ℕ} → m ≡ capped (100 * h.weight * h.population.0) → m ≡ size h
  unfolding size
  size_exact e = e ∙ exact (100 * h.weight * h.population.0) (omega (arith, size_small))

-- ---- the blocks by the two tests

abbrev pub blocks_by : (whole value size : ℕ) → AreaBlocks
blocks_by w v m = record { whole = w; value = record { 0 = v }; size = record { 0 = m } }

-- by the MHz-pops of a block, and of 99 parts in the hundred of one
module _ (h : Holding) {block nearly : ℕ} (eb : block ≡ 100 * h.population.0) (en : nearly ≡ 99 * h.population.0) where
  pub rest-is : h.covered.0 % block ≡ remainder h
  unfolding remainder
  rest-is = ap (λ (n : ℕ). h.covered.0 % n) eb

  test-is : leb nearly (h.covered.0 % block) ≡ rounds_up h
  unfolding rounds_up
  test-is = λ i. leb (en i) (rest-is i)

  -- "one more whole block and nothing partial"
  pub blocks-up : leb nearly (h.covered.0 % block) ≡ true → blocks_by (h.covered.0 / block + 1) 0 0 ≡ blocks_of h
  unfolding blocks_of whole_blocks partial
  blocks-up t = ap (λ (n : ℕ). blocks_by (h.covered.0 / n + 1) 0 0) eb ∙ simp (sym test-is ∙ t)

  -- nothing remains
  pub blocks-even : leb nearly (h.covered.0 % block) ≡ false → h.covered.0 % block ≡ 0
      → blocks_by (h.covered.0 / block) 0 0 ≡ blocks_of h
  unfolding blocks_of whole_blocks partial
  blocks-even t e =
      let none : remainder h ≡ 0 = sym rest-is ∙ e in
      ap (λ (n : ℕ). blocks_by (h.covered.0 / n) 0 0) eb
      ∙ simp (sym test-is ∙ t, le-ltb 0 (remainder h) (omega arith), add-zero)

  -- "the area is partial, with value v .. and size M"
  pub blocks-part : {v m : ℕ} → leb nearly (h.covered.0 % block) ≡ false → (h.covered.0 % block ≡ 0 → ⊥) → v ≡ value h → m ≡ size h
      → blocks_by (h.covered.0 / block) v m ≡ blocks_of h
  unfolding blocks_of whole_blocks partial
  blocks-part {v} {m} t n ev em =
      let some : 0 < remainder h = subst (λ (k : ℕ). 0 < k) rest-is (omega (arith, n)) in
      ap (λ (k : ℕ). blocks_by (h.covered.0 / k) v m) eb
      ∙ simp (sym test-is ∙ t, lt-ltb 0 (remainder h) some, add-zero)
      (λ i. blocks_by (h.covered.0 / (100 * h.population.0)) (ev i) (em i))
