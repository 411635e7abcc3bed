use Rattle.std.proofs.Common.{◌<◌, length, get_or, subst, List, ap, ◌∙◌}
use Rattle.grid_mem.specs.MemFiles.{contents}
use Rattle.grid_mem.specs.StoreCalls.{store_kind}
use Rattle.grid_mem.proofs.Replaying.{one_more}
use Rattle.grid_mem.proofs.store_record.StoreRecord.files.Goals as goal

pub loop-call-preserved : goal.loop-call-preserved
loop-call-preserved c =
    one_more store_kind (contents c.args.self.now.start) (contents c.loop-call.files) (contents c.step.new.files) c.args.self.now.calls.items c.loop-call.call-index c.call-item.result
    (c.call-item.is ∙ ap (λ (xs : List _). get_or xs c.loop-call.call-index c.call-item.result) c.deref-call-items.ensures.value)
    (subst (λ (xs : List _). c.loop-call.call-index < length xs) c.deref-call-items.ensures.value c.loop-call-test.true) c.loop-call.invariant c.in_ok-step.ensures
