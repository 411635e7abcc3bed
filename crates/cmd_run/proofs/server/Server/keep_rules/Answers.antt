use Rattle.std.proofs.Common.{List, refl, sym, ap, subst, ◌∙◌}
use Rattle.std.specs.List.{AllByRecursion}
use Rattle.std.specs.Result.{is_ok}
use Rattle.grid_model.specs.Rows.{Cat}
use Rattle.grid_journal.specs.Journal.{MayBeKept}
use Rattle.grid_model.specs.declared.deltas.Delta.{Delta}
use Rattle.cmd_run.specs.Rules.{ruled}
use Rattle.cmd_run.proofs.KeepLemmas.{applied_number, applied_text, kept_ok, kept_err, of_commit, not_kept, keep_still}
use Rattle.cmd_run.proofs.RuledRows.{turns_ruled, with_text}
use Rattle.cmd_run.proofs.Vaults.{some_vault}
use Rattle.cmd_run.proofs.server.Server.keep_rules.Goals as goal

pub returns-in_default-clause-kept : goal.returns-in_default-clause-kept
returns-in_default-clause-kept g c =
    not_kept c.args.self.now.store.cat _ c.args.outside.now.moments (g.D.Disk.disk c.args.outside.now.main) c.args.self.now.store _ c.requires.held
    c.requires.ready.main_last

pub returns-in_default-clause-whole : goal.returns-in_default-clause-whole
returns-in_default-clause-whole g c =
    keep_still g.P.Plugin.plugin c.args.self.now.store.cat c.args.outside.now.moments (g.D.Disk.disk c.args.outside.now.main) c.args.self.now.store
    c.args.outside.now.stores.items c.requires.held c.requires.ready.main_last

pub returns-in_default-numbers_alone-clause-kept : goal.returns-in_default-numbers_alone-clause-kept
returns-in_default-numbers_alone-clause-kept g c =
    not_kept c.args.self.now.store.cat _ c.args.outside.now.moments (g.D.Disk.disk c.args.outside.now.main) c.args.self.now.store _ c.requires.held
    c.requires.ready.main_last

pub returns-in_default-numbers_alone-clause-whole : goal.returns-in_default-numbers_alone-clause-whole
returns-in_default-numbers_alone-clause-whole g c =
    keep_still g.P.Plugin.plugin c.args.self.now.store.cat c.args.outside.now.moments (g.D.Disk.disk c.args.outside.now.main) c.args.self.now.store
    c.args.outside.now.stores.items c.requires.held c.requires.ready.main_last

pub returns-in-Err-clause-kept : goal.returns-in-Err-clause-kept
returns-in-Err-clause-kept g c =
    not_kept c.args.self.now.store.cat _ c.args.outside.now.moments (g.D.Disk.disk c.args.outside.now.main) c.args.self.now.store _ c.requires.held
    c.requires.ready.main_last

pub returns-in-Err-clause-whole : goal.returns-in-Err-clause-whole
returns-in-Err-clause-whole g c =
    keep_still g.P.Plugin.plugin c.args.self.now.store.cat c.args.outside.now.moments (g.D.Disk.disk c.args.outside.now.main) c.args.self.now.store
    c.args.outside.now.stores.items c.requires.held c.requires.ready.main_last

pub stage-requires-clause-held : goal.stage-requires-clause-held
stage-requires-clause-held g c = (c.args.self.now.store.cat, c.requires.held)

pub stage-requires-clause-apply : goal.stage-requires-clause-apply
stage-requires-clause-apply g c = ap is_ok (applied_text c.args.number c.args.text c.args.self.now.store.cat c.in-Ok.rules c.in-Ok.ensures)

pub stage-requires-clause-spelled : goal.stage-requires-clause-spelled
stage-requires-clause-spelled g c = subst (λ (ds : List Delta). AllByRecursion MayBeKept ds) (sym c.in-Ok.ensures) (c.requires.text, tt)

pub commit-requires-clause-held : goal.commit-requires-clause-held
commit-requires-clause-held g c =
    let cat = c.args.self.now.store.cat in
    let some = some_vault cat c.requires.held.made in
    let staged = c.in-Ok-stage.ensures cat (with_text c.args.number c.args.text cat) c.requires.held
    (applied_text c.args.number c.args.text cat c.in-Ok.rules c.in-Ok.ensures) in
    (cat, staged.held)

pub commit-requires-clause-apply : goal.commit-requires-clause-apply
commit-requires-clause-apply g c =
    let cat = c.args.self.now.store.cat in
    let some = some_vault cat c.requires.held.made in
    let staged = c.in-Ok-stage.ensures cat (with_text c.args.number c.args.text cat) c.requires.held
    (applied_text c.args.number c.args.text cat c.in-Ok.rules c.in-Ok.ensures) in
    let applied = applied_number c.args.number c.args.text cat some c.stage.new.store.cat staged.cat c.numbers.result
    (c.numbers.ensures ∙ ap (λ (x : Cat). x.numbers) c.tables.ensures) c.in-Ok-numbers_alone.last c.in-Ok-numbers_alone.ensures.is in
    ap is_ok applied

pub ending_of-requires : goal.ending_of-requires
ending_of-requires g c =
    let cat = c.args.self.now.store.cat in
    let some = some_vault cat c.requires.held.made in
    let staged = c.in-Ok-stage.ensures cat (with_text c.args.number c.args.text cat) c.requires.held
    (applied_text c.args.number c.args.text cat c.in-Ok.rules c.in-Ok.ensures) in
    let applied = applied_number c.args.number c.args.text cat some c.stage.new.store.cat staged.cat c.numbers.result
    (c.numbers.ensures ∙ ap (λ (x : Cat). x.numbers) c.tables.ensures) c.in-Ok-numbers_alone.last c.in-Ok-numbers_alone.ensures.is in
    of_commit cat (ruled c.args.number c.args.text cat) c.args.outside.now.moments c.stage.new.store (g.D.Disk.disk c.args.outside.now.main)
    (g.D.Disk.disk c.commit.new.outside.main)
    c.in-Err-commit.error c.commit.new.store
    (c.in-Err-commit.ensures.committed cat (ruled c.args.number c.args.text cat) staged.held applied).ends

pub returns-in-Ok-commit-clause-kept : goal.returns-in-Ok-commit-clause-kept
returns-in-Ok-commit-clause-kept g c =
    let cat = c.args.self.now.store.cat in
    let some = some_vault cat c.requires.held.made in
    let staged = c.in-Ok-stage.ensures cat (with_text c.args.number c.args.text cat) c.requires.held
    (applied_text c.args.number c.args.text cat c.in-Ok.rules c.in-Ok.ensures) in
    let applied = applied_number c.args.number c.args.text cat some c.stage.new.store.cat staged.cat c.numbers.result
    (c.numbers.ensures ∙ ap (λ (x : Cat). x.numbers) c.tables.ensures) c.in-Ok-numbers_alone.last c.in-Ok-numbers_alone.ensures.is in
    kept_ok cat (ruled c.args.number c.args.text cat) c.args.outside.now.moments c.stage.new.store (g.D.Disk.disk c.args.outside.now.main)
    (g.D.Disk.disk c.commit.new.outside.main)
    c.commit.new.store _ refl (c.in-Ok-commit.ensures.committed cat (ruled c.args.number c.args.text cat) staged.held applied)

pub returns-in-Ok-commit-clause-whole : goal.returns-in-Ok-commit-clause-whole
returns-in-Ok-commit-clause-whole g c =
    let cat = c.args.self.now.store.cat in
    let some = some_vault cat c.requires.held.made in
    let staged = c.in-Ok-stage.ensures cat (with_text c.args.number c.args.text cat) c.requires.held
    (applied_text c.args.number c.args.text cat c.in-Ok.rules c.in-Ok.ensures) in
    let applied = applied_number c.args.number c.args.text cat some c.stage.new.store.cat staged.cat c.numbers.result
    (c.numbers.ensures ∙ ap (λ (x : Cat). x.numbers) c.tables.ensures) c.in-Ok-numbers_alone.last c.in-Ok-numbers_alone.ensures.is in
    c.in-Ok-commit.ensures.whole cat (ruled c.args.number c.args.text cat) staged.held applied (turns_ruled c.args.number c.args.text cat some)

pub returns-in-Err-commit-clause-kept : goal.returns-in-Err-commit-clause-kept
returns-in-Err-commit-clause-kept g c =
    let cat = c.args.self.now.store.cat in
    let some = some_vault cat c.requires.held.made in
    let staged = c.in-Ok-stage.ensures cat (with_text c.args.number c.args.text cat) c.requires.held
    (applied_text c.args.number c.args.text cat c.in-Ok.rules c.in-Ok.ensures) in
    let applied = applied_number c.args.number c.args.text cat some c.stage.new.store.cat staged.cat c.numbers.result
    (c.numbers.ensures ∙ ap (λ (x : Cat). x.numbers) c.tables.ensures) c.in-Ok-numbers_alone.last c.in-Ok-numbers_alone.ensures.is in
    kept_err cat (ruled c.args.number c.args.text cat) c.args.outside.now.moments c.stage.new.store (g.D.Disk.disk c.args.outside.now.main)
    (g.D.Disk.disk c.commit.new.outside.main)
    c.in-Err-commit.error c.ending_of.result c.commit.new.store _ c.ending_of.ensures
    (c.in-Err-commit.ensures.committed cat (ruled c.args.number c.args.text cat) staged.held applied)

pub returns-in-Err-commit-clause-whole : goal.returns-in-Err-commit-clause-whole
returns-in-Err-commit-clause-whole g c =
    let cat = c.args.self.now.store.cat in
    let some = some_vault cat c.requires.held.made in
    let staged = c.in-Ok-stage.ensures cat (with_text c.args.number c.args.text cat) c.requires.held
    (applied_text c.args.number c.args.text cat c.in-Ok.rules c.in-Ok.ensures) in
    let applied = applied_number c.args.number c.args.text cat some c.stage.new.store.cat staged.cat c.numbers.result
    (c.numbers.ensures ∙ ap (λ (x : Cat). x.numbers) c.tables.ensures) c.in-Ok-numbers_alone.last c.in-Ok-numbers_alone.ensures.is in
    c.in-Err-commit.ensures.whole cat (ruled c.args.number c.args.text cat) staged.held applied (turns_ruled c.args.number c.args.text cat some)
