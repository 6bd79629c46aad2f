-- `ledger::make`: each call is its function's, by its own contract; a proposal and a footprint leave the register. Assumes nothing.
use Rattle.std.proofs.Common.{ℕ, refl, sym, subst, ◌∙◌}
use Rattle.register.specs.Promises.{GrantDone}
use Rattle.ledger.specs.declared.Call.{Call}
use Rattle.ledger.specs.Code.{width_means, call_means, CallDone}
use Rattle.ledger.proofs.CallLaws.{leaves, width-is, made-grant, made-cancel, proposal-refused, footprint-refused}
use Rattle.ledger.proofs.make.Goals as goal

pub returns-in-Grant : goal.returns-in-Grant
returns-in-Grant c =
    let a = c.args in
    let i = c.in-Grant in
    let t = c.take_over in
    subst (λ (k : Call). CallDone a.map.now a.register.now (call_means k a.mask.now a.table.now)
    (leaves a.mask.now a.table.now t.new.register t.result))
    (sym i.is)
    (made-grant a.map.now a.register.now a.mask.now a.table.now t.new.register t.result i.call_sign i.ground (width_means i.width)
    c.grant.result
    (subst (λ (n : ℕ). GrantDone a.register.now (record { call_sign = i.call_sign; ground = i.ground; width = n }) c.grant.result)
    (c.unwrap_or.ensures ∙ width-is i.width) c.grant.ensures)
    t.ensures)

pub returns-in-Cancel : goal.returns-in-Cancel
returns-in-Cancel c =
    let a = c.args in
    let t = c.take_over-in-Cancel in
    subst (λ (k : Call). CallDone a.map.now a.register.now (call_means k a.mask.now a.table.now)
    (leaves a.mask.now a.table.now t.new.register t.result))
    (sym c.in-Cancel.is)
    (made-cancel a.map.now a.register.now a.mask.now a.table.now t.new.register t.result c.in-Cancel.call_sign c.cancel.result
    c.cancel.ensures t.ensures)

pub returns-in-Propose : goal.returns-in-Propose
returns-in-Propose c =
    let a = c.args in
    let p = c.propose in
    subst (λ (k : Call). CallDone a.map.now a.register.now (call_means k a.mask.now a.table.now)
    (leaves a.mask.now a.table.now a.register.now c.is_err.result))
    (sym c.in-Propose.is)
    (record {
      answer = p.result;
      steps = (record { lives = p.lifetimes; lies = a.map.ref_ptr; post = p.ensures }, refl);
      masks = refl;
      tables = refl;
      refused = c.is_err.ensures.value ∙ proposal-refused p.result;
    })

pub returns-in-Footprint : goal.returns-in-Footprint
returns-in-Footprint c =
    let a = c.args in
    let f = c.footprint in
    subst (λ (k : Call). CallDone a.map.now a.register.now (call_means k a.mask.now a.table.now)
    (record {
      mask = a.mask.now;
      after = f.new.mask;
      table = a.table.now;
      entries = f.new.table;
      next = a.register.now;
      refused = c.is_err-in-Footprint.result;
    }))
    (sym c.in-Footprint.is)
    (record {
      answer = record { answer = f.result; mask = f.new.mask; table = f.new.table };
      steps = (
        record {
          lives = f.lifetimes;
          lies = a.map.ref_ptr;
          masks = record { ptr = a.mask.ref_ptr; name = a.mask.ghost_name };
          tables = record { ptr = a.table.ref_ptr; name = a.table.ghost_name };
          post = f.ensures;
        },
        refl,
      );
      masks = refl;
      tables = refl;
      refused = c.is_err-in-Footprint.ensures.value ∙ footprint-refused f.result;
    })
