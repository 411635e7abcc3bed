use Rattle.std.proofs.Common.{inr, ◌≡◌, ℕ, ◌<◌, Vec, List, true, [], ◌∷◌, ◌++◌, refl, ap, ◌∙◌}
use Rattle.std.specs.declared.alloc.Global.{Global}
use Rattle.grid_outside.specs.Device.{Acts}
use Rattle.grid_outside.specs.Sink.{AddsPart}
use Rattle.grid_mem.specs.declared.call.Call.{Call}
use Rattle.grid_mem.specs.declared.mem_sink.MemSink.{MemSink}
use Rattle.grid_mem.specs.Calls.{held, held_after, is_record}
use Rattle.grid_mem.specs.SinkCalls.{sink_kind, sink_after}
use Rattle.grid_mem.specs.SinkLaws.{sink_laws, adds_nothing}
use Rattle.grid_mem.specs.MemSink.{sink_of}
use Rattle.grid_mem.specs.Recorded.{state_in}
use Rattle.grid_mem.proofs.Recording.{acts_more, valid_more, same_more, acts_none, valid_none, same_none}
use Rattle.grid_mem.proofs.Settling.{sink_settled}
use Rattle.grid_mem.proofs.mem_sink.MemSink.take.Goals as goal

-- a call that was recorded
module _ (s : MemSink) (call : Call (Vec ℕ Global)) (bytes : List ℕ) (calls : List (Call (Vec ℕ Global))) (after : s.last < call.moment)
    (calls_are : calls ≡ s.calls.items ++ call ∷ []) (bytes_are : bytes ≡ held_after sink_kind s.bytes.items call) where
  still_valid : is_record sink_kind 0 call.moment s.start.items calls ≡ true
  still_valid = valid_more sink_kind sink_laws true s.start.items s.bytes.items s.calls.items s.faults s.last s.valid s.same call.moment bytes calls call after refl refl calls_are bytes_are

  still_same : bytes ≡ held sink_kind s.start.items calls
  still_same = same_more sink_kind sink_laws true s.start.items s.bytes.items s.calls.items s.faults s.last s.valid s.same call.moment bytes calls call after refl refl calls_are bytes_are

  acts : (faults : ℕ) (is : is_record sink_kind 0 call.moment s.start.items calls ≡ true) (same : bytes ≡ held sink_kind s.start.items calls)
      → Acts call.moment (AddsPart call.deed.items) (state_in sink_kind sink_laws true s.faults s.last s.start.items s.bytes.items s.calls.items s.valid s.same) (state_in sink_kind sink_laws true faults call.moment s.start.items bytes calls is same)
  acts = acts_more sink_kind sink_laws true s.start.items s.bytes.items s.calls.items s.faults s.last s.valid s.same call.moment bytes calls call after refl refl calls_are bytes_are

pub invariant_of-self : goal.invariant_of-self
invariant_of-self c = let call : Call (Vec ℕ Global) = record { moment = c.args.moment; deed = c.args.deed; done = c.args.done } in record {
  valid = still_valid c.args.self.now call c.record.new.bytes.items c.record.new.calls.items c.requires c.in-Ok.ensures.calls c.in-Ok.ensures.bytes;
  same = still_same c.args.self.now call c.record.new.bytes.items c.record.new.calls.items c.requires c.in-Ok.ensures.calls c.in-Ok.ensures.bytes;
}

pub invariant_of-self-in-Ok : goal.invariant_of-self-in-Ok
invariant_of-self-in-Ok c = let call : Call (Vec ℕ Global) = record { moment = c.args.moment; deed = c.args.deed; done = c.args.done } in record {
  valid = still_valid c.args.self.now call c.record.new.bytes.items c.record.new.calls.items c.requires c.in-Ok.ensures.calls c.in-Ok.ensures.bytes;
  same = still_same c.args.self.now call c.record.new.bytes.items c.record.new.calls.items c.requires c.in-Ok.ensures.calls c.in-Ok.ensures.bytes;
}

pub invariant_of-self-in-Err : goal.invariant_of-self-in-Err
invariant_of-self-in-Err c = let self = c.args.self.now in record {
  valid = valid_none sink_kind sink_laws true self.start.items self.bytes.items self.calls.items self.faults self.last self.valid self.same c.args.moment c.record.new.bytes.items c.record.new.calls.items c.requires c.in-Err.ensures.err.0 c.in-Err.ensures.err.1;
  same = same_none sink_kind sink_laws true self.start.items self.bytes.items self.calls.items self.faults self.last self.valid self.same c.args.moment c.record.new.bytes.items c.record.new.calls.items c.requires c.in-Err.ensures.err.0 c.in-Err.ensures.err.1;
}

pub returns-then-done-clause-added : goal.returns-then-done-clause-added
returns-then-done-clause-added c = c.in-Ok.ensures.bytes ∙ ap (sink_after c.args.self.now.bytes.items c.args.deed) c.if-done.true

pub returns-then-done-clause-acts : goal.returns-then-done-clause-acts
unfolding sink_of
returns-then-done-clause-acts c =
    acts c.args.self.now (record { moment = c.args.moment; deed = c.args.deed; done = c.args.done }) c.record.new.bytes.items c.record.new.calls.items c.requires c.in-Ok.ensures.calls c.in-Ok.ensures.bytes c.args.self.now.faults _ _

pub returns-else-done-clause-acts : goal.returns-else-done-clause-acts
unfolding sink_of
returns-else-done-clause-acts c =
    acts c.args.self.now (record { moment = c.args.moment; deed = c.args.deed; done = c.args.done }) c.record.new.bytes.items c.record.new.calls.items c.requires c.in-Ok.ensures.calls c.in-Ok.ensures.bytes c.saturating_add-self.result _ _

pub returns-in-Err-clause-acts : goal.returns-in-Err-clause-acts
unfolding sink_of
returns-in-Err-clause-acts c = let self = c.args.self.now in
    acts_none sink_kind sink_laws true self.start.items self.bytes.items self.calls.items self.faults self.last self.valid self.same c.args.moment c.record.new.bytes.items c.record.new.calls.items c.requires c.in-Err.ensures.err.0 c.in-Err.ensures.err.1
    c.saturating_add-self-in-Err.result _ _ (AddsPart c.args.deed.items) (adds_nothing c.args.deed.items)

pub returns-then-done-clause-settled : goal.returns-then-done-clause-settled
returns-then-done-clause-settled c = sink_settled _

pub returns-else-done-clause-settled : goal.returns-else-done-clause-settled
returns-else-done-clause-settled c = sink_settled _

pub returns-in-Err-clause-settled : goal.returns-in-Err-clause-settled
returns-in-Err-clause-settled c = sink_settled _

pub returns-else-done-clause-recorded : goal.returns-else-done-clause-recorded
returns-else-done-clause-recorded c = record {
  start = refl;
  done = tt;
  failed = inr (record { call = record { moment = c.args.moment; deed = c.args.deed; done = c.args.done }; moment_is = refl; deed_is = refl; done_is = c.if-done.false; added = c.in-Ok.ensures.calls });
}
