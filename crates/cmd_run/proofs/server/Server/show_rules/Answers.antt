use Rattle.std.proofs.Common.{[], refl, sym, ap, subst, ◌∙◌}
use Rattle.grid_model.specs.Orders.{shows_rules}
use Rattle.grid_model.specs.Names.{Text}
use Rattle.grid_model.specs.Rows.{Cat}
use Rattle.grid_model.specs.Runs.{Request}
use Rattle.grid_model.specs.Working.{well}
use Rattle.grid_model.specs.declared.replies.End.TheVariants as end
use Rattle.grid_model.specs.declared.refusal.Refusal.TheVariants as refusal
use Rattle.chain_core.specs.Seen.{rules_of}
use Rattle.rule_parse.specs.Printed.{print_rules}
use Rattle.cmd_run.specs.Answers.{said_lines}
use Rattle.cmd_run.specs.Fits.{state_of}
use Rattle.cmd_run.specs.Obeys.{Says, SaysOnly}
use Rattle.cmd_run.proofs.KeepLemmas.{keep_still}
use Rattle.cmd_run.proofs.LoginLemmas.{says_no_login}
use Rattle.cmd_run.proofs.Remembering.{still_remembers}
use Rattle.cmd_run.proofs.SayLemmas.{said_so, unsaid}
use Rattle.cmd_run.proofs.SetRules.{says_rules}
use Rattle.cmd_run.proofs.server.Server.show_rules.Goals as goal

pub returns-in_default-clause-obeys : goal.returns-in_default-clause-obeys
returns-in_default-clause-obeys g c = λ source request asks.
    let s = c.args.self.now in
    let Q : Request → Type 0 = λ r. SaysOnly (state_of s) r (end.Refused refusal.NoLogin) (state_of s) in
    c.say.ensures.obeys source request s refl
    (subst Q (sym asks) (says_no_login s c.args.session (shows_rules (print_rules (rules_of s.rules))) (sym c.in_default.ensures) refl))

pub returns-clause-obeys : goal.returns-clause-obeys
returns-clause-obeys g c = λ source request asks.
    let s = c.args.self.now in
    let shown = print_rules (rules_of s.rules) in
    let Q : Request → Type 0 = λ r. Says (state_of s) r shown [] well (state_of s) in
    let line = c.as_slice-2.ensures ∙ c.in-Ok-text_shown.ensures ∙ ap (λ (t : Text). said_lines c.args.number t [] (end.Done []))
    (c.in-Ok.ensures ∙ c.as_slice.ensures ∙ c.rules.ensures ∙ ap (λ (x : Cat). x.rules) c.tables.ensures ∙ c.requires.fits.rules) in
    said_so g.D.Disk.disk g.A.Ambient.ambient g.P.Plugin.plugin source c.args.outside.now (record c.args.outside.now { moments = c.put_text.new.moments })
    (g.K.Sink.sink c.args.sink.now) (g.K.Sink.sink c.put_text.new.sink) s s c.args.number request shown [] (end.Done []) refl refl refl refl
    c.requires.fits c.requires.ready.outside.main_last c.requires.ready.sink_last
    (subst Q (sym asks) (says_rules s c.args.session c.in-Some.field-0 (sym c.in-Some.ensures) shown))
    c.put_text.result (rw (sym line) c.put_text.ensures.put) (rw (sym line) c.put_text.ensures.ends)

pub returns-in_default-copy_of-clause-obeys : goal.returns-in_default-copy_of-clause-obeys
returns-in_default-copy_of-clause-obeys g c = λ source request asks.
    unsaid g.D.Disk.disk g.A.Ambient.ambient g.P.Plugin.plugin source c.args.outside.now (g.K.Sink.sink c.args.sink.now) c.args.self.now c.args.number request
    c.args.self.now c.requires.fits.held c.requires.ready.outside.main_last c.requires.ready.sink_last

pub returns-in_default-copy_of-clause-whole : goal.returns-in_default-copy_of-clause-whole
returns-in_default-copy_of-clause-whole g c =
    keep_still g.P.Plugin.plugin c.args.self.now.store.cat c.args.outside.now.moments (g.D.Disk.disk c.args.outside.now.main) c.args.self.now.store
    c.args.outside.now.stores.items c.requires.fits.held c.requires.ready.outside.main_last

pub returns-in_default-copy_of-clause-remembers : goal.returns-in_default-copy_of-clause-remembers
returns-in_default-copy_of-clause-remembers g c =
    let main = c.args.outside.now.main in
    still_remembers g.D.Disk.disk main main c.args.self.now.store c.args.outside.now.moments refl c.requires.ready.outside.main_last c.requires.fits.held
    c.requires.fits.pending

pub returns-in_default-text_shown-clause-obeys : goal.returns-in_default-text_shown-clause-obeys
returns-in_default-text_shown-clause-obeys g c = λ source request asks.
    unsaid g.D.Disk.disk g.A.Ambient.ambient g.P.Plugin.plugin source c.args.outside.now (g.K.Sink.sink c.args.sink.now) c.args.self.now c.args.number request
    c.args.self.now c.requires.fits.held c.requires.ready.outside.main_last c.requires.ready.sink_last

pub returns-in_default-text_shown-clause-whole : goal.returns-in_default-text_shown-clause-whole
returns-in_default-text_shown-clause-whole g c =
    keep_still g.P.Plugin.plugin c.args.self.now.store.cat c.args.outside.now.moments (g.D.Disk.disk c.args.outside.now.main) c.args.self.now.store
    c.args.outside.now.stores.items c.requires.fits.held c.requires.ready.outside.main_last

pub returns-in_default-text_shown-clause-remembers : goal.returns-in_default-text_shown-clause-remembers
returns-in_default-text_shown-clause-remembers g c =
    let main = c.args.outside.now.main in
    still_remembers g.D.Disk.disk main main c.args.self.now.store c.args.outside.now.moments refl c.requires.ready.outside.main_last c.requires.fits.held
    c.requires.fits.pending

pub returns-clause-whole : goal.returns-clause-whole
returns-clause-whole g c =
    keep_still g.P.Plugin.plugin c.args.self.now.store.cat c.args.outside.now.moments (g.D.Disk.disk c.args.outside.now.main) c.args.self.now.store
    c.args.outside.now.stores.items c.requires.fits.held c.requires.ready.outside.main_last

pub returns-clause-remembers : goal.returns-clause-remembers
returns-clause-remembers g c =
    let main = c.args.outside.now.main in
    still_remembers g.D.Disk.disk main main c.args.self.now.store c.args.outside.now.moments refl c.requires.ready.outside.main_last c.requires.fits.held
    c.requires.fits.pending
