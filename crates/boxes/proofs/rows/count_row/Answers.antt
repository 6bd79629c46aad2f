-- `boxes::rows::count_row`: the most people and the spans tell whether every cell is within the map's limits. Assumes nothing.
use Rattle.std.proofs.Common.{◌≡◌, ℕ, ◌∙◌, sym, arith, Bool, ◌&&◌, leb, pos, neg_ℤ, length, get_or, take, max, rules}
use lib.Signed.{le_z}
use Rattle.boxes.specs.Rows.{row_fine, join_to, SpanOf}
use Rattle.boxes.specs.declared.Row.{Row}
use Rattle.boxes.specs.declared.rows.Span.{Span}
use Rattle.boxes.proofs.RowLaws.{row_fine-spans, fine-few, few-sum, span_taken, most_taken, sum_taken}
use Rattle.boxes.proofs.rows.count_row.Goals as goal

-- a row's arrays
record Rooms (row : Row) : Type 0 where
  people : length row.people ≡ 256
  latitudes : length row.latitudes ≡ 256
  longitudes : length row.longitudes ≡ 256

-- what the tests of a row told
fine : (row : Row) {m : ℕ} {la lo : Span} {p q told : Bool} → Rooms row
    → m ≡ join_to max 0 (λ k. get_or (take row.count row.people) k 0) (length (take row.count row.people))
    → SpanOf (take row.count row.latitudes) (length (take row.count row.latitudes)) la
    → SpanOf (take row.count row.longitudes) (length (take row.count row.longitudes)) lo
    → p ≡ le_z (neg_ℤ (pos 32_400_000)) la.least && le_z la.greatest (pos 32_400_000)
    → q ≡ le_z (neg_ℤ (pos 64_800_000)) lo.least && le_z lo.greatest (pos 64_800_000)
    → leb m 1_000_000 && p && q ≡ told → row_fine row.people row.latitudes row.longitudes row.count ≡ told
fine row {m} {la} {lo} r e a b f g t =
    let w = row.within in
    sym (row_fine-spans row.people row.latitudes row.longitudes row.count m la lo
    (most_taken row.people row.count (omega (arith, r.people)) e)
    (span_taken row.latitudes row.count (omega (arith, r.latitudes)) a)
    (span_taken row.longitudes row.count (omega (arith, r.longitudes)) b))
    ∙ (λ i. leb m 1_000_000 && sym f i && sym g i) ∙ t

pub returns-then-not-most-is_within : goal.returns-then-not-most-is_within
returns-then-not-most-is_within c =
    let row = c.args.row.now in
    let rooms : Rooms row = record { people = search rules; latitudes = search rules; longitudes = search rules } in
    fine row rooms c.most.ensures c.span_of-latitudes.ensures c.span_of-longitudes.ensures c.is_within.ensures c.is_within-2.ensures
    c.if-not-most-is_within.true

pub total-people-requires : goal.total-people-requires
total-people-requires c =
    let row = c.args.row.now in
    let w = row.within in
    let rooms : Rooms row = record { people = search rules; latitudes = search rules; longitudes = search rules } in
    let few = fine-few row.people row.latitudes row.longitudes row.count
    (fine row rooms c.most.ensures c.span_of-latitudes.ensures c.span_of-longitudes.ensures c.is_within.ensures c.is_within-2.ensures
    c.if-not-most-is_within.false) w in
    omega (
      arith,
      sum_taken row.people row.count (omega (arith, rooms.people)),
      few-sum row.people row.latitudes row.longitudes row.count few,
    )

pub under_boxes-under-requires : goal.under_boxes-under-requires
under_boxes-under-requires c =
    let row = c.args.row.now in
    let w = row.within in
    let rooms : Rooms row = record { people = search rules; latitudes = search rules; longitudes = search rules } in
    let few = fine-few row.people row.latitudes row.longitudes row.count
    (fine row rooms c.most.ensures c.span_of-latitudes.ensures c.span_of-longitudes.ensures c.is_within.ensures c.is_within-2.ensures
    c.if-not-most-is_within.false) w in
    record {
      few = few;
      outlined = record {
        latitudes = span_taken row.latitudes row.count (omega (arith, rooms.latitudes)) c.span_of-latitudes.ensures;
        longitudes = span_taken row.longitudes row.count (omega (arith, rooms.longitudes)) c.span_of-longitudes.ensures;
        people = c.total-people.ensures ∙ sum_taken row.people row.count (omega (arith, rooms.people));
      };
    }

pub returns : goal.returns
returns c =
    let row = c.args.row.now in
    let w = row.within in
    let rooms : Rooms row = record { people = search rules; latitudes = search rules; longitudes = search rules } in
    let all = fine row rooms c.most.ensures c.span_of-latitudes.ensures c.span_of-longitudes.ensures c.is_within.ensures
    c.is_within-2.ensures c.if-not-most-is_within.false in
    let few = few-sum row.people row.latitudes row.longitudes row.count
    (fine-few row.people row.latitudes row.longitudes row.count all w) in
    let people = c.total-people.ensures ∙ sum_taken row.people row.count (omega (arith, rooms.people)) in
    let under = c.under_boxes-under.ensures in
    record {
      fine = all;
      people = people;
      boxed-mhz-pops = under.mhz-pops;
      boxed-cells = under.cells;
      narrow = under.narrow;
      few-people = omega (arith, people, few);
      few-boxed-mhz-pops = under.few-mhz-pops;
      few-boxed-cells = under.few-cells;
    }
