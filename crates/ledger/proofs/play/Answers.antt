-- `ledger::play`: the invariant is `Playing`, a run from an empty register over the calls of the words so far, and that the words after
-- these calls' are left. Assumes nothing.
use Rattle.std.proofs.Common.{◌≡◌, ℕ, ◌+◌, ◌*◌, length, drop, sym, ap, ◌∙◌, arith, rules}
use Rattle.std.proofs.lemmas.List.{length-drop}
use Rattle.std.specs.Slice.Iter.{chunks_exact_rest, chunks_exact_size}
use Rattle.ledger.specs.Code.{call_means, item_means}
use Rattle.ledger.proofs.CallLaws.{item-there, chunk-turn, byte-flag, flag-le}
use Rattle.ledger.proofs.PlayLaws.{playing-starts, playing-turns, playing-ends}
use Rattle.ledger.proofs.play.Goals as goal

pub loop-item-init : goal.loop-item-init
loop-item-init c =
    let a = c.args in
    let same = c.into_iter-item-iterator.ensures.into_iter_gives in
    let items = c.chunks_exact-item-items.ensures in
    record {
      playing = playing-starts a.map.now a.calls.now a.mask.now a.table.now c.empty-register.result c.empty-register.ensures;
      size = ap chunks_exact_size same ∙ items.size;
      rest = ap chunks_exact_rest same ∙ items.rest;
    }

pub overflow_add-refused : goal.overflow_add-refused
overflow_add-refused c =
    let p = c.loop-item.invariant.playing in
    let few = p.few in
    let within = p.within in
    let one = c.from-refused.ensures ∙ byte-flag c.make.result in
    let most = flag-le c.make.result in
    search rules

pub overflow_add-made : goal.overflow_add-made
overflow_add-made c =
    let within = c.loop-item.invariant.playing.within in
    search rules

pub loop-item-preserved : goal.loop-item-preserved
loop-item-preserved c =
    let a = c.args in
    let v = c.loop-item in
    let st = c.in-Some.ensures.steps in
    let item = c.in-Some.item.now in
    let turn = chunk-turn a.calls.now (8 * v.made) _ item _ v.invariant.rest st.1.0 (st.1.1 ∙ v.invariant.size) in
    let there = item-there a.calls.now (8 * v.made) item turn.0 v.mask v.table in
    let says = sym there ∙ sym (c.call_in.ensures v.mask v.table) ∙ ap (λ o. item_means o v.mask v.table) c.in-Some-call_in.is in
    let room = turn.2 in
    record {
      playing = playing-turns a.map.now a.calls.now a.mask.now a.table.now v.invariant.playing
          (call_means c.in-Some-call_in.call v.mask v.table) says (omega arith) c.make.ensures
          (ap (λ (n : ℕ). v.refused + n) (c.from-refused.ensures ∙ byte-flag c.make.result)) c.make.auto.mask c.make.auto.table;
      size = st.0 ∙ v.invariant.size;
      rest = turn.1 ∙ ap (λ (k : ℕ). drop k a.calls.now) (let e : 8 * v.made + 8 ≡ 8 * (v.made + 1) = omega arith in e);
    }

pub returns-in-None : goal.returns-in-None
returns-in-None c =
    let a = c.args in
    let v = c.loop-item in
    let st = c.in-None.ensures.steps in
    let left = ap length v.invariant.rest ∙ length-drop (8 * v.made) a.calls.now in
    let size = v.invariant.size in
    let short = st.1.0 in
    playing-ends a.map.now a.calls.now a.mask.now a.table.now v.invariant.playing (λ below. absurd (omega arith))

pub returns-in_default : goal.returns-in_default
returns-in_default c =
    let a = c.args in
    let v = c.loop-item in
    let st = c.in-Some.ensures.steps in
    let item = c.in-Some.item.now in
    let turn = chunk-turn a.calls.now (8 * v.made) _ item _ v.invariant.rest st.1.0 (st.1.1 ∙ v.invariant.size) in
    let there = item-there a.calls.now (8 * v.made) item turn.0 v.mask v.table in
    let none = sym there ∙ sym (c.call_in.ensures v.mask v.table) ∙ ap (λ o. item_means o v.mask v.table) c.in_default.is in
    playing-ends a.map.now a.calls.now a.mask.now a.table.now v.invariant.playing (λ below. none)
