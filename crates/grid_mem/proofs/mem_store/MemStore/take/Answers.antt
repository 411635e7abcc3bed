use Rattle.std.proofs.Common.{◌≡◌, Bool, true, ◌&&◌, sym, subst, ◌∙◌}
use Rattle.grid_mem.specs.declared.call.Call.{Call}
use Rattle.grid_mem.specs.declared.store_deed.StoreDeed.{StoreDeed}
use Rattle.grid_mem.specs.CallLaws.{both}
use Rattle.grid_mem.specs.MemFiles.{contents}
use Rattle.grid_mem.specs.StoreCalls.{StoreSure}
use Rattle.grid_mem.specs.MemStore.{store_of}
use Rattle.grid_mem.proofs.StoreTaking.{still_valid, still_same, acts, is_sure, valid_still, same_still, no_acts}
use Rattle.grid_mem.proofs.mem_store.MemStore.take.Goals as goal

-- a call that was done fitted
fitted : (admitted fits done : Bool) → done ≡ (admitted && fits) → done ≡ true → fits ≡ true
fitted admitted fits done is e = (both admitted fits (sym is ∙ e)).1

pub invariant_of-self : goal.invariant_of-self
invariant_of-self c =
    let self = c.args.self.now in
    let call : Call StoreDeed = record { moment = c.args.moment; deed = c.args.deed; done = c.in-Ok.done } in
    record {
      valid = still_valid self call (contents c.record_call-recorded.new.files) c.record_call-recorded.new.calls.items c.requires (fitted c.args.admitted _ c.in-Ok.done c.in-Ok.ensures.done) c.in-Ok.ensures.calls c.in-Ok.ensures.files;
      same = still_same self call (contents c.record_call-recorded.new.files) c.record_call-recorded.new.calls.items c.requires (fitted c.args.admitted _ c.in-Ok.done c.in-Ok.ensures.done) c.in-Ok.ensures.calls c.in-Ok.ensures.files;
    }

pub invariant_of-self-in-Ok : goal.invariant_of-self-in-Ok
invariant_of-self-in-Ok c =
    let self = c.args.self.now in
    let call : Call StoreDeed = record { moment = c.args.moment; deed = c.args.deed; done = c.in-Ok.done } in
    record {
      valid = still_valid self call (contents c.record_call-recorded.new.files) c.record_call-recorded.new.calls.items c.requires (fitted c.args.admitted _ c.in-Ok.done c.in-Ok.ensures.done) c.in-Ok.ensures.calls c.in-Ok.ensures.files;
      same = still_same self call (contents c.record_call-recorded.new.files) c.record_call-recorded.new.calls.items c.requires (fitted c.args.admitted _ c.in-Ok.done c.in-Ok.ensures.done) c.in-Ok.ensures.calls c.in-Ok.ensures.files;
    }

pub invariant_of-self-in-Err : goal.invariant_of-self-in-Err
invariant_of-self-in-Err c = record {
  valid = valid_still c.args.self.now c.args.moment c.args.deed (contents c.record_call-recorded.new.files) c.record_call-recorded.new.calls.items c.requires c.in-Err.ensures.err.0 c.in-Err.ensures.err.1;
  same = same_still c.args.self.now c.args.moment c.args.deed (contents c.record_call-recorded.new.files) c.record_call-recorded.new.calls.items c.requires c.in-Err.ensures.err.0 c.in-Err.ensures.err.1;
}

pub returns-then-done-clause-acts : goal.returns-then-done-clause-acts
unfolding store_of
returns-then-done-clause-acts c =
    let a = acts c.args.self.now (record { moment = c.args.moment; deed = c.args.deed; done = c.in-Ok.done }) (contents c.record_call-recorded.new.files) c.record_call-recorded.new.calls.items c.requires (fitted c.args.admitted _ c.in-Ok.done c.in-Ok.ensures.done) c.in-Ok.ensures.calls c.in-Ok.ensures.files c.args.self.now.faults in
    record { last = a.last; tells = a.tells; holds = a.holds; earlier = a.earlier; images = a.images }

pub returns-else-done-clause-acts : goal.returns-else-done-clause-acts
unfolding store_of
returns-else-done-clause-acts c =
    let a = acts c.args.self.now (record { moment = c.args.moment; deed = c.args.deed; done = c.in-Ok.done }) (contents c.record_call-recorded.new.files) c.record_call-recorded.new.calls.items c.requires (fitted c.args.admitted _ c.in-Ok.done c.in-Ok.ensures.done) c.in-Ok.ensures.calls c.in-Ok.ensures.files c.saturating_add-self.result in
    record { last = a.last; tells = a.tells; holds = a.holds; earlier = a.earlier; images = a.images }

pub returns-in-Err-clause-acts : goal.returns-in-Err-clause-acts
unfolding store_of
returns-in-Err-clause-acts c =
    let a = no_acts c.args.self.now c.args.moment c.args.deed (contents c.record_call-recorded.new.files) c.record_call-recorded.new.calls.items c.requires c.in-Err.ensures.err.0 c.in-Err.ensures.err.1 c.saturating_add-self-in-Err.result in
    record { last = a.last; tells = a.tells; holds = a.holds; earlier = a.earlier; images = a.images }

pub returns-then-done-clause-sure : goal.returns-then-done-clause-sure
unfolding store_of
returns-then-done-clause-sure c t image late left =
    let Q : Bool → Type 0 = λ done. StoreSure c.args.deed done (contents c.record_call-recorded.new.files) image in
    subst Q c.if-done.true (is_sure c.args.self.now (record { moment = c.args.moment; deed = c.args.deed; done = c.in-Ok.done }) (contents c.record_call-recorded.new.files) c.record_call-recorded.new.calls.items c.requires (fitted c.args.admitted _ c.in-Ok.done c.in-Ok.ensures.done) c.in-Ok.ensures.calls c.in-Ok.ensures.files t image late left)
