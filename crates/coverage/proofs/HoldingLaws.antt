-- Laws of the loop over the areas of a map that gathers their holdings. Assumes nothing.
use Prim.Native.Nat.{ℕ, ◌+◌, ◌-◌, ◌≤◌, ◌<◌}
use mathlib.Core.Path.{◌≡◌, refl, sym, ap, ◌∙◌, subst}
use mathlib.Core.List.{List, [], ◌∷◌, ◌++◌, map, append-nil, map-append}
use mathlib.Core.Bool.{cond}
use native.Mathlib.Omega.{arith}
use borrow.Author.Tests.{eq-eqb, ne_eqb}
use lib.Dec.{eqb}
use lib.IntN.{ℤ}
use lib.ListN.{length, take, drop, set, replicate, length-append, length-map, length-replicate}
use lib.Seq.{append_snoc, set_at, take_at, drop_at}
use Rattle.map.specs.Reading.{Read, bad, good, bind, map_read}
use Rattle.map.specs.Format.{Area, read_area, read_areas, read_rest}
use Rattle.map.specs.Answers.{summary, counted_area}
use Rattle.map.specs.Accepted.{AreaHolds}
use Rattle.map.specs.declared.Area as handed
use Rattle.map.specs.declared.parts.CountedArea.{CountedArea}
use Rattle.map.proofs.Onward.{Gives}
use Rattle.map.proofs.Accepted.{AreaGiven, gives-area}
use Rattle.map.proofs.LoopLaws.{sub-step, sub-end}
use Rattle.map.proofs.AreaLaws.{map-bad}
use Rattle.register.specs.declared.Licence.{Licence}
use Rattle.coverage.specs.declared.Holding.{Holding}
use Rattle.coverage.specs.declared.Holdings.{Holdings}
use Rattle.coverage.specs.Cover.{holding_of}
use Rattle.coverage.specs.Answers.{no_holding, no_area}
use Rattle.coverage.specs.Holdings.{HoldingsAre}

-- ---- an area that was read, in a map that may yet be refused

-- the area that `b` is handed out for, counted under boxes
pub record ReadFrom (s : List ℕ) (edges : List ℤ) (widths : List ℕ) (before at : ℕ) (b : CountedArea) : Type 0 where
  pub area : Area
  pub reads : read_area s before at ≡ good area b.area.end
  pub handed : b ≡ counted_area edges widths area
  pub holds : AreaHolds s area

pub area-read : (s : List ℕ) (edges : List ℤ) (widths : List ℕ) (before at : ℕ) (b : CountedArea)
    → good b b.area.end ≡ map_read (counted_area edges widths) (read_area s before at) → ReadFrom s edges widths before at b
area-read s edges widths before at b q = go (read_area s before at) refl q
  where
    go : (r : Read Area) → read_area s before at ≡ r → good b b.area.end ≡ map_read (counted_area edges widths) r
        → ReadFrom s edges widths before at b
    go (bad x) e v = absurd (let z : ◌≡◌ {A = ℕ} 0 1 = cc in omega arith)
    go (good a m) e v =
        let next : m ≡ b.area.end = cc in
        record {
          area = a;
          reads = e ∙ ap (good a) next;
          handed = cc;
          holds = (subst (Gives (AreaGiven s before)) e (gives-area s before at)).0;
        }

-- ---- an array with an entry for each area that is done

-- what f makes of each, and a fixed value at the entries past them
pub record Written {A : Type 0} (f : Area → A) (blank : A) (done : List Area) (k : ℕ) (entries : List A) : Type 0 where
  pub is : entries ≡ map f done ++ replicate (32 - k) blank

module _ {A : Type 0} {f : Area → A} {blank : A} {done : List Area} {k : ℕ} {l : List A}
    (w : Written f blank done k l) (size : length done ≡ k)
  where
    -- the entry of one area more is written
    written-more : (a : Area) {x : A} → k < 32 → x ≡ f a → Written f blank (done ++ (a ∷ [])) (k + 1) (set l k x)
    written-more a h q =
        let left = replicate (32 - (k + 1)) blank in
        record {
          is = (λ i. set (w.is i) k (q i))
              ∙ ap (λ (m : ℕ). set (map f done ++ replicate m blank) k (f a)) (sub-step 32 k h)
              ∙ set_at (map f done) blank left (f a) k (length-map done f ∙ size)
              ∙ sym (append_snoc (map f done) (f a) left)
              ∙ ap (λ (m : List A). m ++ left) (sym (map-append f done (a ∷ [])));
        }

    -- so there are 32 entries
    written-entries : k ≤ 32 → length l ≡ 32
    written-entries few =
        ap length w.is
        ∙ length-append (map f done) (replicate (32 - k) blank)
        ∙ (let m = length-map done f in let n = length-replicate (32 - k) blank in omega arith)

    written-each : take k l ≡ map f done
    written-each = ap (take k) w.is ∙ take_at (map f done) (replicate (32 - k) blank) k (length-map done f ∙ size)

    written-past : drop k l ≡ replicate (32 - k) blank
    written-past = ap (drop k) w.is ∙ drop_at (map f done) (replicate (32 - k) blank) k (length-map done f ∙ size)

-- ---- the loop

module _ (s : List ℕ) (ls : List Licence) where
  -- the areas that are left, after those that are done
  abbrev after : List Area → Read (List Area) → Read (List Area)
  after done r = bind r (λ l e. good (done ++ l) e)

  -- the invariant at area k of n: the number of the area before is `before`
  pub record Gathered (n first k at before : ℕ) (areas : List Holding) (stands : List handed.Area) : Type 0 where
    pub inside : k ≤ n
    pub done : List Area
    pub size : length done ≡ k
    pub left : read_areas s n 0 first ≡ after done (read_areas s (n - k) before at)
    pub entries : Written (holding_of ls) no_holding done k areas
    pub standing : Written summary no_area done k stands

  pub gather-starts : (n first : ℕ) → Gathered n first 0 first 0 (replicate 32 no_holding) (replicate 32 no_area)
  gather-starts n first = record {
    inside = omega arith;
    done = [];
    size = refl;
    left = go (read_areas s n 0 first) ∙ ap (λ (m : ℕ). after [] (read_areas s m 0 first)) (omega arith);
    entries = record { is = refl };
    standing = record { is = refl };
  }
    where
      go : (r : Read (List Area)) → r ≡ after [] r
      go (bad x) = refl
      go (good l e) = refl

  -- one area more is done
  done_more : (done : List Area) (a : Area) (r : Read (List Area))
      → after done (bind r (λ l e. good (a ∷ l) e)) ≡ after (done ++ (a ∷ [])) r
  done_more done a (bad x) = refl
  done_more done a (good l e) = ap (λ (m : List Area). good m e) (sym (append_snoc done a l))

  module _ {n first k position before : ℕ} {xs : List Holding} {ys : List handed.Area} (w : Gathered n first k position before xs ys) where
    pub gather-turns : {edges : List ℤ} {widths : List ℕ} {b : CountedArea} {x : Holding} → k < n → n ≤ 32
        → (r : ReadFrom s edges widths before position b) → x ≡ holding_of ls r.area
        → Gathered n first (k + 1) b.area.end b.area.number (set xs k x) (set ys k b.area)
    unfolding read_areas
    gather-turns {edges} {widths} {b} {x} h few r q =
        let a = r.area in
        let size = w.size in
        let more : Area → ℕ → Read (List Area) =
        λ y m. bind (read_areas s (n - (k + 1)) y.head.number m) (λ l e. good (y ∷ l) e) in
        record {
          inside = omega arith;
          done = w.done ++ (a ∷ []);
          size = length-append w.done (a ∷ []) ∙ omega arith;
          left = w.left
              ∙ ap (λ (m : ℕ). after w.done (read_areas s m before position)) (sub-step n k h)
              ∙ ap (λ (y : Read Area). after w.done (bind y more)) r.reads
              ∙ done_more w.done a (read_areas s (n - (k + 1)) a.head.number b.area.end)
              ∙ ap (λ (y : CountedArea). after (w.done ++ (a ∷ [])) (read_areas s (n - (k + 1)) y.area.number b.area.end))
              (sym r.handed);
          entries = written-more w.entries size a (omega arith) q;
          standing = written-more w.standing size a (omega arith) (ap (λ (y : CountedArea). y.area) r.handed);
        }

    -- a fault of area k refuses the map
    pub gather-stops : (edges : List ℤ) (widths : List ℕ) {x : ℕ} → k < n
        → bad x ≡ map_read (counted_area edges widths) (read_area s before position) → read_rest s n first ≡ bad x
    unfolding read_rest read_areas
    gather-stops edges widths h q =
        let fault = map-bad (counted_area edges widths) (read_area s before position) q in
        ap (λ (r : Read (List Area)). bind r (λ l e. cond (eqb e (length s)) (good l e) (bad 3)))
        (w.left
        ∙ ap (λ (m : ℕ). after w.done (read_areas s m before position)) (sub-step n k h)
        ∙ ap (λ (y : Read Area).
        after w.done (bind y (λ y m. bind (read_areas s (n - (k + 1)) y.head.number m) (λ l e. good (y ∷ l) e)))) (sym fault))

    -- all areas are done
    gather-all : n ≤ k → read_rest s n first ≡ cond (eqb position (length s)) (good w.done position) (bad 3)
    unfolding read_rest read_areas
    gather-all h =
        ap (λ (r : Read (List Area)). bind r (λ l e. cond (eqb e (length s)) (good l e) (bad 3)))
        (w.left
        ∙ ap (λ (m : ℕ). after w.done (read_areas s m before position)) (sub-end n k h)
        ∙ ap (λ (l : List Area). good l position) (append-nil w.done))

    -- 3: bytes after the last area
    pub gather-extra : n ≤ k → (position ≡ length s → ⊥) → read_rest s n first ≡ bad 3
    gather-extra h d = gather-all h ∙ ap (λ t. cond t (good w.done position) (bad 3)) (ne_eqb position (length s) d)

    pub gather-ends : {r : Holdings} → n ≤ k → n ≤ 32 → position ≡ length s → r.count ≡ n → r.areas ≡ xs → r.stands ≡ ys
        → HoldingsAre ls (read_rest s n first) r
    gather-ends {r} h few d en ex ey =
        let all : k ≡ r.count = omega (arith, w.inside) in
        let size = w.size ∙ all in
        let entries = subst (λ m. Written (holding_of ls) no_holding w.done m r.areas) all
        (subst (Written (holding_of ls) no_holding w.done k) (sym ex) w.entries) in
        let standing = subst (λ m. Written summary no_area w.done m r.stands) all
        (subst (Written summary no_area w.done k) (sym ey) w.standing) in
        let small : r.count ≤ 32 = omega arith in
        record {
          areas = w.done;
          next = position;
          reads = gather-all h ∙ ap (λ t. cond t (good w.done position) (bad 3)) (eq-eqb position (length s) d);
          count = sym size;
          few = small;
          entries = written-entries entries size small;
          each = written-each entries size;
          past = written-past entries size;
          stand-entries = written-entries standing size small;
          stands = written-each standing size;
          stands-past = written-past standing size;
        }
