-- What holds of an accepted map and of an area that is looked up in it. Assumes nothing.
use Rattle.std.proofs.Common.{◌≡◌, ℕ, zero, suc, ◌<◌, ◌≤◌, Bool, true, false, cond, eqb, List, [], ◌∷◌, length, sym, refl, ap, ◌∙◌, subst}
use Rattle.std.proofs.Common.{⊎_elim, arith, eq-eqb, ne_eqb, eqb-true}
use mathlib.Core.List.Memᴰ
use mathlib.Core.List.{Memᴰ}
use Rattle.map.specs.Reading.{Read, bad, good}
use Rattle.map.specs.Format.{within, u8_field, population, read_rows, read_head, read_body, read_area, read_areas}
use Rattle.map.specs.Format.{read_rest, read_map, Area}
use Rattle.map.specs.Answers.{
  summary,
  Located,
  none,
  some,
  locate,
  LookedUp,
  refused,
  lacking,
  has,
  located,
  look_up,
  located_as,
  seek,
  between,
  rows_part,
  part_of,
}
use Rattle.map.specs.Accepted.{Within, GridHolds, AreaHolds, Ascending, MapHolds}
use Rattle.lists.specs.Sums.{All}
use Rattle.map.specs.declared.Area as handed
use Rattle.map.proofs.Onward.{
  Gives,
  gives-test,
  gives-bind,
  gives-limits,
  within-is,
  Onward,
  onward-rows,
  gives-rows,
  HeadHolds,
  gives_head,
}
use Rattle.map.proofs.Part.{part-reads}

-- ---- each area

abbrev pub AreaGiven : List ℕ → ℕ → Area → ℕ → Type 0
AreaGiven s before a e = AreaHolds s a × Ascending before (a ∷ [])

pub gives-area : (s : List ℕ) (before at : ℕ) → Gives (AreaGiven s before) (read_area s before at)
unfolding read_area read_body
gives-area s before at =
    gives-bind (HeadHolds s before) (AreaGiven s before) (read_head s before at) _ (gives_head s before at) (λ h start q k.
    gives-bind (Onward s start) (AreaGiven s before) (read_rows s h.columns h.rows start) _
    (onward-rows s h.columns h.rows start k.inside) (λ grid e r w.
    gives-test (AreaGiven s before) (within 1 40_000_000 (population grid))
    (good (record { head = h; start = start; grid = grid; end = e }) e) (bad 5)
    (λ t. (
      record {
        number = k.number;
        weight = k.weight;
        rows = k.rows;
        columns = k.columns;
        peopled = within-is 1 40_000_000 (population grid) t;
        grid = subst (Gives (λ g _. GridHolds h.columns h.rows g)) r (gives-rows s h.columns h.rows start);
        inside = w;
        reads = r;
        part = part-reads s h.columns h.rows start e grid w.0 w.1 r;
      },
      (k.above, tt),
    )) tt))

-- ---- all of them

abbrev AreasGiven : List ℕ → ℕ → ℕ → List Area → ℕ → Type 0
AreasGiven s n before l e = (length l ≡ n) × Ascending before l × All (AreaHolds s) l

gives-areas : (s : List ℕ) (n before at : ℕ) → Gives (AreasGiven s n before) (read_areas s n before at)
unfolding read_areas
gives-areas s zero before at = (refl, tt, tt)
gives-areas s (suc n) before at =
    gives-bind (AreaGiven s before) (AreasGiven s (suc n) before) (read_area s before at) _ (gives-area s before at) (λ a m q x.
    gives-bind (AreasGiven s n a.head.number) (AreasGiven s (suc n) before) (read_areas s n a.head.number m)
    (λ l e. good (a ∷ l) e) (gives-areas s n a.head.number m)
    (λ l e r y. (ap suc y.0, (x.1.0, y.1), (x.0, y.2))))

gives-map : (s : List ℕ) → Gives (λ l e. MapHolds s l) (read_map s)
unfolding read_map read_rest
gives-map s =
    gives-bind (λ n e. Within 1 32 n × (e ≤ length s)) (λ l e. MapHolds s l) (u8_field s 0 1 32) _ (gives-limits s 0 1 1 32)
    (λ n at q u.
    gives-bind (AreasGiven s n 0) (λ l e. MapHolds s l) (read_areas s n 0 at) _ (gives-areas s n 0 at) (λ l e r y.
    gives-test (λ l e. MapHolds s l) (eqb e (length s)) (good l e) (bad 3)
    (λ t. record { count = subst (Within 1 32) (sym y.0) u.0; ascending = y.1; each = y.2 }) tt))

-- what holds of an accepted map
pub accepted : (s : List ℕ) (areas : List Area) (e : ℕ) → read_map s ≡ good areas e → MapHolds s areas
accepted s areas e q = subst (Gives (λ l e. MapHolds s l)) q (gives-map s)

-- ---- an area that is looked up

-- the area of which `b` is handed out, as f makes it
pub record Stands {A : Type 0} (f : Area → A) (s : List ℕ) (n : ℕ) (areas : List Area) (b : A) : Type 0 where
  pub area : Area
  pub handed : b ≡ f area
  pub numbered : area.head.number ≡ n
  pub found : locate n areas ≡ some area
  pub holds : AreaHolds s area

-- the area that a number locates
pub locates : (s : List ℕ) (n : ℕ) (areas : List Area) → All (AreaHolds s) areas → (a : Area) → locate n areas ≡ some a
    → (a.head.number ≡ n) × AreaHolds s a
unfolding locate
locates s n [] x a q = absurd (let z : ◌≡◌ {A = ℕ} 0 1 = cc in omega arith)
locates s n (b ∷ l) x a q = go (locates s n l x.1 a) (eqb b.head.number n) refl q
  where
    go : (locate n l ≡ some a → (a.head.number ≡ n) × AreaHolds s a) → (t : Bool) → eqb b.head.number n ≡ t
        → cond t (some b) (locate n l) ≡ some a → (a.head.number ≡ n) × AreaHolds s a
    go f true e w =
        let same : b ≡ a = cc in
        subst (λ (y : Area). (y.head.number ≡ n) × AreaHolds s y) same (eqb-true b.head.number n e, x.0)
    go f false e w = f w

-- ---- an area is located by its own number

later-above : (before : ℕ) (areas : List Area) → Ascending before areas → (a : Area) → Memᴰ a areas → before < a.head.number
later-above before [] h a m = absurd (Memᴰ.not-nil m)
later-above before (x ∷ areas) h a m = ⊎_elim
    (λ e. subst (λ (y : Area). before < y.head.number) (sym e) h.0)
    (λ n. omega (arith, h.0, later-above x.head.number areas h.1 a n))
    (Memᴰ.cases_cons m)

pub located-self : (before : ℕ) (areas : List Area) → Ascending before areas → (a : Area) → Memᴰ a areas
    → locate a.head.number areas ≡ some a
unfolding locate
located-self before [] h a m = absurd (Memᴰ.not-nil m)
located-self before (x ∷ areas) h a m = ⊎_elim
    (λ e. subst (λ (y : Area). cond (eqb x.head.number y.head.number) (some x) (locate y.head.number areas) ≡ some y) (sym e)
    (rw (eq-eqb x.head.number x.head.number refl)))
    (λ n.
    let above = later-above x.head.number areas h.1 a n in
    rw (ne_eqb x.head.number a.head.number (λ e. omega arith)) (located-self x.head.number areas h.1 a n))
    (Memᴰ.cases_cons m)

-- ---- a look-up

-- a look-up that has an area: the map is accepted and the area stands in it
pub record LookedUpIn {A : Type 0} (f : Area → A) (s : List ℕ) (n : ℕ) (b : A) : Type 0 where
  pub areas : List Area
  pub next : ℕ
  pub reads : read_map s ≡ good areas next
  pub stands : Stands f s n areas b

pub sought-up : {A : Type 0} (f : Area → A) (s : List ℕ) (n : ℕ) (b : A) → has b ≡ seek f n (read_map s) → LookedUpIn f s n b
unfolding seek
sought-up f s n b q = from (read_map s) refl q
  where
    by : (areas : List Area) (e : ℕ) → read_map s ≡ good areas e
        → (g : Located) → locate n areas ≡ g → has b ≡ located_as f g → LookedUpIn f s n b
    by areas e r none w v = absurd (let z : ◌≡◌ {A = ℕ} 0 1 = cc in omega arith)
    by areas e r (some a) w v =
        let h = locates s n areas (accepted s areas e r).each a w in
        record {
          areas = areas;
          next = e;
          reads = r;
          stands = record { area = a; handed = cc; numbered = h.0; found = w; holds = h.1 };
        }

    from : (m : Read (List Area)) → read_map s ≡ m → has b ≡ seek f n m → LookedUpIn f s n b
    from (bad x) r v = absurd (let z : ◌≡◌ {A = ℕ} 0 1 = cc in omega arith)
    from (good areas e) r v = by areas e r (locate n areas) refl v

-- what is looked up is what is sought of it
look-up-seeks : (n : ℕ) (r : Read (List Area)) → look_up n r ≡ seek summary n r
unfolding look_up seek
look-up-seeks n (bad f) = refl
look-up-seeks n (good l e) = by (locate n l)
  where
    by : (g : Located) → located g ≡ located_as summary g
    by none = refl
    by (some a) = refl

pub looked-up : (s : List ℕ) (n : ℕ) (b : handed.Area) → has b ≡ look_up n (read_map s) → LookedUpIn summary s n b
looked-up s n b q = sought-up summary s n b (q ∙ look-up-seeks n (read_map s))

-- the area's part lies inside the map
pub inside_of : {s : List ℕ} {n : ℕ} {b : handed.Area} → LookedUpIn summary s n b → (b.start ≤ b.end) × (b.end ≤ length s)
inside_of {s} l =
    subst (λ (x : handed.Area). (x.start ≤ x.end) × (x.end ≤ length s)) (sym l.stands.handed) l.stands.holds.inside

-- ---- the part that is handed out, by what a look-up says

abbrev pub part_by : List ℕ → LookedUp → List ℕ
part_by s (refused f) = []
part_by s lacking = []
part_by s (has b) = between s b.start b.end

pub part-is : (s : List ℕ) (n : ℕ) (r : Read (List Area)) → part_by s (look_up n r) ≡ part_of s n r
unfolding look_up part_of
part-is s n (bad f) = refl
part-is s n (good l e) = by (locate n l)
  where
    by : (g : Located) → part_by s (located g) ≡ rows_part s g
    by none = refl
    by (some a) = refl
