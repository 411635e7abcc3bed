use Rattle.std.proofs.Common.{◌≡◌, ℕ, Vec, true, refl, ap, ◌∙◌}
use Rattle.std.specs.declared.alloc.Global.{Global}
use Rattle.grid_outside.specs.Sink.{AddsPart}
use Rattle.grid_mem.specs.SinkCalls.{sink_kind}
use Rattle.grid_mem.specs.SinkLaws.{sink_laws, adds_nothing}
use Rattle.grid_mem.specs.MemSink.{sink_of}
use Rattle.grid_mem.proofs.Recording.{records_as, acts_none, valid_none}
use Rattle.grid_mem.proofs.Settling.{sink_settled}
use Rattle.grid_mem.proofs.mem_sink.MemSinkSink.put.Goals as goal

pub invariant_of-self-in_default : goal.invariant_of-self-in_default
unfolding sink_of
invariant_of-self-in_default c = let self = c.args.self.now in record {
  valid = valid_none sink_kind sink_laws true self.start.items self.bytes.items self.calls.items self.faults self.last self.valid self.same c.args.moment self.bytes.items self.calls.items c.requires refl refl;
  same = self.same;
}

pub returns-in_default-clause-acts : goal.returns-in_default-clause-acts
unfolding sink_of
returns-in_default-clause-acts c = let self = c.args.self.now in
    acts_none sink_kind sink_laws true self.start.items self.bytes.items self.calls.items self.faults self.last self.valid self.same c.args.moment self.bytes.items self.calls.items c.requires refl refl
    c.saturating_add-self.result _ _ (AddsPart c.args.bytes.now) (adds_nothing c.args.bytes.now)

pub returns-in_default-clause-settled : goal.returns-in_default-clause-settled
returns-in_default-clause-settled c tells = sink_settled _

pub returns-clause-recorded : goal.returns-clause-recorded
returns-clause-recorded c =
    records_as c.args.moment (λ deed. deed ≡ c.in-Ok.deed) (λ deed. deed.items ≡ c.args.bytes.now) _ _ c.take.result
    (λ deed is. ap (λ (put : Vec ℕ Global). put.items) is ∙ c.in-Ok.ensures.items_if_clones_equal (λ x y e. e)) c.take.ensures.recorded
