use Rattle.std.proofs.Common.{List, [], length, sym, ap, ◌∙◌, subst}
use Rattle.std.specs.Prelude.{◌==◌}
use Rattle.grid_model.specs.declared.deltas.Delta.{Delta}
use Rattle.service_run.specs.Changes.{LeadOn}
use Rattle.service_run.proofs.ChangeSteps.{changes_made}
use Rattle.row_run.proofs.Planned.{empty_of, none_staged}
use Rattle.row_run.proofs.changing.change_if_any.Goals as goal

pub returns-then-is_empty-clause-step : goal.returns-then-is_empty-clause-step
returns-then-is_empty-clause-step g c source kept after call undo does held led makes within =
    let rows = c.args.store.now in
    let ready = c.requires.ready in
    let L : List Delta → Type 0 = λ ds. LeadOn rows.cat ds after in
    let none = subst L (empty_of c.args.deltas (ap (λ (l : List Delta). length l == 0) (sym c.as_slice.ensures) ∙ sym c.is_empty.ensures ∙ c.if-is_empty.true)) led in
    changes_made g.D.Disk.disk g.A.Ambient.ambient g.P.Plugin.plugin source c.args.outside.now (g.K.Sink.sink c.args.sink.now) kept rows c.args.command.now call undo held ready.outside.main_last ready.sink_last does
    c.requires.user after [] none makes within rows (none_staged kept after (g.D.Disk.disk c.args.outside.now.main) rows held none)

pub returns-clause-step : goal.returns-clause-step
returns-clause-step g c source kept after call undo does held led makes within = c.change.ensures.step source kept after call undo does held led makes within

pub returns-clause-grid : goal.returns-clause-grid
returns-clause-grid g c after led = c.change.ensures.grid after led
