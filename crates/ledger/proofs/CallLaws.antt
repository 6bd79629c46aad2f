-- Laws of one item of a list that is played: the call of its eight words, and what is known of a call that was made. Assumes nothing.
use Prim.Native.Nat.{ℕ, ◌+◌, ◌≤◌, ◌<◌}
use mathlib.Core.Path.{◌≡◌, refl, sym, ap, ◌∙◌}
use mathlib.Core.Bool.{Bool, true, false, not}
use mathlib.Core.List.{List, ◌++◌}
use native.Mathlib.Omega.{arith}
use lib.Dec.{eqb}
use lib.ListN.{length, get_or, take, drop}
use lib.Seq.{take-append_seam, drop-append_seam}
use mir.Val.{bool_byte}
use borrow.Author.Tests.{eq-eqb, ne_eqb}
use Rattle.std.proofs.lemmas.List.{get_or-take, get_or-drop, length-append, length-drop, drop-drop}
use Rattle.lists.specs.Sums.{flag}
use Rattle.std.specs.Prelude.{Option, Some, None, unwrap_or, Result, Ok, Err}
use Rattle.std.specs.Result.{is_err}
use Rattle.map.specs.declared.Fault.{Fault}
use Rattle.map.specs.declared.Fault.TheVariants.{Ends, Limit, Extra, Order, Population}
use Rattle.map.specs.Answers.{fault_number}
use Rattle.register.specs.declared.Ground.{Ground}
use Rattle.register.specs.declared.Register.{Register}
use Rattle.register.specs.declared.GrantRefusal.{GrantRefusal}
use Rattle.register.specs.declared.GrantRefusal.TheVariants.{IllFormed, InForce, Full}
use Rattle.register.specs.declared.NotInForce.{NotInForce}
use Rattle.register.specs.Licences.{full_width}
use Rattle.register.specs.Rules.{grant_number, cancel_number}
use Rattle.register.specs.Promises.{next_of, refusal_of, GrantDone, CancelDone}
use Rattle.proposal.specs.declared.answer.Proposal as proposed
use Rattle.proposal.specs.declared.ProposalRefusal.{ProposalRefusal}
use Rattle.proposal.specs.declared.ProposalRefusal.TheVariants.{Map, TooMany}
use Rattle.proposal.specs.Promises.{means, answer_means}
use Rattle.footprint.specs.declared.FootprintRefusal.{FootprintRefusal}
use Rattle.footprint.specs.declared.FootprintRefusal.TheVariants as why
use Rattle.footprint.specs.Promises as outlined
use Rattle.demand3.specs.Calls.{Width, without, mhz, width_of, licence, grant, cancel, propose, footprint}
use Rattle.ledger.specs.Played.{ground_at, width_at, call, unknown, item_at}
use Rattle.ledger.specs.Code.{width_means, took_over, Left, CallDone}

-- ---- the item of eight words, by its kind

module _ (words : List ℕ) (at : ℕ) (mask table : List ℕ) where
  pub item-grant : get_or words at 0 ≡ 0 → (g : Ground) → g ≡ ground_at words at
      → call (grant (get_or words (at + 1) 0) g without) ≡ item_at words at mask table
  unfolding item_at
  item-grant k g e =
      rw (eq-eqb (get_or words at 0) 0 k) (ap (λ (x : Ground). call (grant (get_or words (at + 1) 0) x without)) e)

  pub item-width : get_or words at 0 ≡ 4 → (g : Ground) → g ≡ ground_at words at
      → call (grant (get_or words (at + 1) 0) g (mhz (width_at words at))) ≡ item_at words at mask table
  unfolding item_at
  item-width k g e = rw k (ap (λ (x : Ground). call (grant (get_or words (at + 1) 0) x (mhz (width_at words at)))) e)

  pub item-cancel : get_or words at 0 ≡ 1 → call (cancel (get_or words (at + 1) 0)) ≡ item_at words at mask table
  unfolding item_at
  item-cancel k = rw k

  pub item-propose : get_or words at 0 ≡ 2 → call (propose (get_or words (at + 1) 0)) ≡ item_at words at mask table
  unfolding item_at
  item-propose k = rw k

  pub item-footprint : get_or words at 0 ≡ 3 → call (footprint (get_or words (at + 1) 0) mask table) ≡ item_at words at mask table
  unfolding item_at
  item-footprint k = rw k

  pub item-unknown : (get_or words at 0 ≡ 0 → ⊥) → (get_or words at 0 ≡ 1 → ⊥) → (get_or words at 0 ≡ 2 → ⊥)
      → (get_or words at 0 ≡ 3 → ⊥) → (get_or words at 0 ≡ 4 → ⊥) → unknown ≡ item_at words at mask table
  unfolding item_at
  item-unknown a b c d e =
      let word = get_or words at 0 in
      rw (ne_eqb word 0 a, ne_eqb word 1 b, ne_eqb word 2 c, ne_eqb word 3 d, ne_eqb word 4 e)

-- the eight words of an item, read from where it stands
module _ (words : List ℕ) (at : ℕ) (item : List ℕ) (is : item ≡ take 8 (drop at words)) where
  word-at : (k : ℕ) → k < 8 → get_or item k 0 ≡ get_or words (at + k) 0
  word-at k b = ap (λ (l : List ℕ). get_or l k 0) is ∙ get_or-take 8 (drop at words) k 0 b ∙ get_or-drop at words k 0

  pub item-there : (mask table : List ℕ) → item_at item 0 mask table ≡ item_at words at mask table
  unfolding item_at ground_at
  item-there mask table =
      simp (
        ap (λ (l : List ℕ). get_or l 0 0) is ∙ get_or-take 8 (drop at words) 0 0 (omega arith) ∙ get_or-drop at words 0 0
            ∙ ap (λ (k : ℕ). get_or words k 0) (let z : at + 0 ≡ at = omega arith in z),
        word-at 1 (omega arith),
        word-at 2 (omega arith),
        word-at 3 (omega arith),
        word-at 4 (omega arith),
        word-at 5 (omega arith),
        word-at 6 (omega arith),
        word-at 7 (omega arith),
      )

-- the eight words are next of those that are left
pub chunk-turn : (words : List ℕ) (at : ℕ) (rest item next : List ℕ) → rest ≡ drop at words → rest ≡ item ++ next → length item ≡ 8
    → (item ≡ take 8 (drop at words)) × (next ≡ drop (at + 8) words) × (at + 8 ≤ length words)
chunk-turn words at rest item next left parts size =
    let whole : item ++ next ≡ drop at words = sym parts ∙ left in
    let long = ap length whole in (
      sym (take-append_seam item next) ∙ (λ j. take (size j) (whole j)),
      sym (drop-append_seam item next) ∙ (λ j. drop (size j) (whole j)) ∙ drop-drop 8 at words,
      omega (arith, length-append item next, length-drop at words),
    )

-- what a byte says of a test
pub byte-flag : (b : Bool) → bool_byte b ≡ flag b
byte-flag true = refl
byte-flag false = refl

pub flag-le : (b : Bool) → flag b ≤ 1
flag-le true = omega arith
flag-le false = omega arith

-- ---- a call that was made

-- without a width a licence has the full one
pub width-is : (w : Option ℕ) → unwrap_or w full_width ≡ width_of (width_means w)
width-is None = refl
width-is (Some n) = refl

-- what a grant or a cancellation leaves, and whether it was refused
module _ {E : Type 0} (r next : Register) (said : Bool) where
  next-is : (a : Result Register E) → took_over r a next said → next ≡ next_of r a
  next-is (Ok register) t = t.0
  next-is (Err e) t = t.0

  refused-is : (number : E → ℕ) → ((e : E) → not (eqb (number e) 0) ≡ true) → (a : Result Register E) → took_over r a next said
      → said ≡ not (eqb (refusal_of number a) 0)
  refused-is number some (Ok register) t = t.1
  refused-is number some (Err e) t = t.1 ∙ sym (some e)

-- a call that leaves the mask and the table
abbrev pub leaves : (mask table : List ℕ) (next : Register) (said : Bool) → Left
leaves mask table next said = record { mask = mask; after = mask; table = table; entries = table; next = next; refused = said }

module _ (map : List ℕ) (r : Register) (mask table : List ℕ) (next : Register) (said : Bool) where
  pub made-grant : (s : ℕ) (g : Ground) (w : Width) (a : Result Register GrantRefusal) → GrantDone r (licence s g w) a
      → took_over r a next said → CallDone map r (grant s g w) (leaves mask table next said)
  made-grant s g w a d t = record {
    answer = a;
    steps = (d, next-is r next said a t);
    masks = refl;
    tables = refl;
    refused = refused-is r next said grant_number some a t;
  }
    where
      some : (e : GrantRefusal) → not (eqb (grant_number e) 0) ≡ true
      some IllFormed = refl
      some InForce = refl
      some Full = refl

  pub made-cancel : (s : ℕ) (a : Result Register NotInForce) → CancelDone r s a → took_over r a next said
      → CallDone map r (cancel s) (leaves mask table next said)
  made-cancel s a d t = record {
    answer = a;
    steps = (d, next-is r next said a t);
    masks = refl;
    tables = refl;
    refused = refused-is r next said cancel_number (λ e. refl) a t;
  }

fault-some : (f : Fault) → not (eqb (fault_number f) 0) ≡ true
fault-some Ends = refl
fault-some Limit = refl
fault-some Extra = refl
fault-some Order = refl
fault-some Population = refl

-- an error is a refusal
pub proposal-refused : (a : Result proposed.Proposal ProposalRefusal) → is_err a ≡ not (eqb (answer_means a).refused 0)
unfolding means
proposal-refused (Ok p) = refl
proposal-refused (Err (Map f)) = sym (fault-some f)
proposal-refused (Err TooMany) = refl

pub footprint-refused : (a : Result ℕ FootprintRefusal) → is_err a ≡ not (eqb (outlined.means a).refused 0)
footprint-refused (Ok n) = refl
footprint-refused (Err (why.Map f)) = sym (fault-some f)
footprint-refused (Err why.TooMany) = refl
footprint-refused (Err why.NotOnePart) = refl
footprint-refused (Err why.MaskShort) = refl
footprint-refused (Err (why.TableShort n)) = refl
