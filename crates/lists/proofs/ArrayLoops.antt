-- Loops over an array, one entry a turn: one array made from another, and one rewritten in place. Assumes nothing.
use Prim.Native.Nat.{ℕ, zero, suc, ◌+◌, ◌≤◌, ◌<◌}
use mathlib.Core.Path.{◌≡◌, refl, sym, ap, ◌∙◌}
use mathlib.Core.List.{List, [], ◌∷◌, ◌++◌, map, map-append}
use native.Mathlib.Numerals.{add-one}
use native.Mathlib.Omega.{arith}
use lib.ListN.{length, get_or, take, drop, set, length-set, length-map, length-append, take-append-drop}
use lib.Seq.{take-suc, take-suc-set, take_all, append_snoc, set_at, get_or-append_seam}
use Rattle.lists.proofs.SumLaws.{drop-next}

-- ---- an array of n entries made from another

-- at entry i: the first i are made
pub record Filled {A B : Type 0} (f : A → B) (from : List A) (n i : ℕ) (into : List B) : Type 0 where
  pub within : i ≤ n
  pub room : length into ≡ n
  pub each : take i into ≡ map f (take i from)

module _ {A B : Type 0} {f : A → B} {from : List A} {n i : ℕ} {into : List B} where
  pub fill-turns : (d : A) {b : B} → length from ≡ n → Filled f from n i into → i < n → b ≡ f (get_or from i d)
      → Filled f from n (i + 1) (set into i b)
  fill-turns d {b} long w h e =
      let room = w.room in
      record {
        within = omega arith;
        room = length-set into i b ∙ w.room;
        each =
            ap (λ (j : ℕ). take j (set into i b)) (add-one i) ∙ take-suc-set into i b (omega arith)
            ∙ (λ k. w.each k ++ (e k ∷ []))
            ∙ sym (map-append f (take i from) (get_or from i d ∷ []))
            ∙ ap (map f) (sym (ap (λ (j : ℕ). take j from) (add-one i) ∙ take-suc from i d (omega arith)));
      }

  pub fill-ends : length from ≡ n → Filled f from n i into → n ≤ i → into ≡ map f from
  fill-ends long w h =
      let room = w.room in
      sym (take_all i into (omega arith)) ∙ w.each ∙ ap (map f) (take_all i from (omega arith))

-- ---- an array rewritten in place

-- at entry i: the first i are rewritten, and the others are as they were
pub record Renewed {A : Type 0} (f : A → A) (old : List A) (i : ℕ) (now : List A) : Type 0 where
  pub within : i ≤ length old
  pub is : now ≡ map f (take i old) ++ drop i old

module _ {A : Type 0} {f : A → A} {old : List A} where
  pub renew-starts : Renewed f old 0 old
  renew-starts = record { within = omega arith; is = refl }

  module _ {i : ℕ} {now : List A} (w : Renewed f old i now) where
    first_made : length (map f (take i old)) ≡ i
    first_made = length-map (take i old) f ∙ length-first i old w.within
      where
        length-first : (i : ℕ) (l : List A) → i ≤ length l → length (take i l) ≡ i
        length-first zero l h = refl
        length-first (suc i) [] h = absurd (omega arith)
        length-first (suc i) (x ∷ l) h = ap suc (length-first i l (omega arith))

    -- as many entries as before
    pub renew-length : length now ≡ length old
    renew-length =
        ap length w.is ∙ length-append (map f (take i old)) (drop i old)
        ∙ ap (λ (k : ℕ). k + length (drop i old)) (length-map (take i old) f)
        ∙ sym (length-append (take i old) (drop i old)) ∙ ap length (take-append-drop i old)

    module _ (d : A) (h : i < length old) where
      -- an entry that is not reached yet is as it was
      pub renew-here : get_or now i d ≡ get_or old i d
      renew-here =
          ap (λ (l : List A). get_or l i d) (w.is ∙ ap (λ (l : List A). map f (take i old) ++ l) (drop-next old i d h))
          ∙ ap (λ (k : ℕ). get_or (map f (take i old) ++ (get_or old i d ∷ drop (i + 1) old)) k d) (sym first_made)
          ∙ get_or-append_seam (map f (take i old)) (get_or old i d) (drop (i + 1) old) d

      pub renew-turns : {x : A} → x ≡ f (get_or old i d) → Renewed f old (i + 1) (set now i x)
      renew-turns {x} e =
          let done = map f (take i old) in
          let left = drop (i + 1) old in
          record {
            within = omega arith;
            is =
                (λ k. set ((w.is ∙ ap (λ (l : List A). done ++ l) (drop-next old i d h)) k) i (e k))
                ∙ set_at done (get_or old i d) left (f (get_or old i d)) i first_made
                ∙ sym (append_snoc done (f (get_or old i d)) left)
                ∙ ap (λ (l : List A). l ++ left) (sym (map-append f (take i old) (get_or old i d ∷ []))
                ∙ ap (map f) (sym (ap (λ (j : ℕ). take j old) (add-one i) ∙ take-suc old i d h)));
          }
