use Rattle.std.proofs.Common.{◌≡◌, ◌≢◌, true, false, None, IsTrue, map, refl, sym, ap, subst, ◌∙◌}
use Rattle.std.specs.List.{list_all}
use Rattle.grid_model.specs.Checks.{first_fault, rules_faults}
use Rattle.grid_model.specs.Deltas.{delta_fits}
use Rattle.grid_model.specs.Names.{Text}
use Rattle.grid_model.specs.Parsed.{plain_rule, rule_of}
use Rattle.grid_model.specs.Replies.{end_line}
use Rattle.grid_model.specs.Rows.{Cat}
use Rattle.grid_model.specs.Working.{well}
use Rattle.grid_model.specs.declared.replies.End.{End}
use Rattle.grid_model.specs.declared.deltas.Delta.TheVariants as delta
use Rattle.rule_keep.specs.Kept.{IsKeptText}
use Rattle.cmd_run.specs.Fits.{state_of}
use Rattle.cmd_run.specs.Obeys.{SaysOnly}
use Rattle.cmd_run.specs.Rules.{is_line_byte, ruled}
use Rattle.cmd_run.proofs.KeepLemmas.{keep_still}
use Rattle.cmd_run.proofs.PrintedBytes.{printed_bytes}
use Rattle.cmd_run.proofs.Remembering.{kept_remembers, still_remembers}
use Rattle.cmd_run.proofs.RuledEnds.{cut_in_keeping, said_then}
use Rattle.cmd_run.proofs.RuledRows.{keeps_named}
use Rattle.cmd_run.proofs.SayLemmas.{unsaid}
use Rattle.cmd_run.proofs.SetRules.{base_rules, fits_ruled, says_same}
use Rattle.cmd_run.proofs.WornEnds.{room_kept}
use Rattle.cmd_run.proofs.server.Server.take_rules.Goals as goal

pub returns-in_default-clause-obeys : goal.returns-in_default-clause-obeys
returns-in_default-clause-obeys g c = λ source request sets.
    unsaid g.D.Disk.disk g.A.Ambient.ambient g.P.Plugin.plugin source c.args.outside.now (g.K.Sink.sink c.args.sink.now) c.args.self.now c.args.number request
    c.args.self.now c.requires.fits.held c.requires.ready.outside.main_last c.requires.ready.sink_last

pub returns-in_default-clause-whole : goal.returns-in_default-clause-whole
returns-in_default-clause-whole g c =
    keep_still g.P.Plugin.plugin c.args.self.now.store.cat c.args.outside.now.moments (g.D.Disk.disk c.args.outside.now.main) c.args.self.now.store
    c.args.outside.now.stores.items c.requires.fits.held c.requires.ready.outside.main_last

pub returns-in_default-clause-remembers : goal.returns-in_default-clause-remembers
returns-in_default-clause-remembers g c =
    let main = c.args.outside.now.main in
    still_remembers g.D.Disk.disk main main c.args.self.now.store c.args.outside.now.moments refl c.requires.ready.outside.main_last c.requires.fits.held
    c.requires.fits.pending

pub returns-in_default-new-clause-obeys : goal.returns-in_default-new-clause-obeys
returns-in_default-new-clause-obeys g c = λ source request sets.
    unsaid g.D.Disk.disk g.A.Ambient.ambient g.P.Plugin.plugin source c.args.outside.now (g.K.Sink.sink c.args.sink.now) c.args.self.now c.args.number request
    c.args.self.now c.requires.fits.held c.requires.ready.outside.main_last c.requires.ready.sink_last

pub returns-in_default-new-clause-whole : goal.returns-in_default-new-clause-whole
returns-in_default-new-clause-whole g c =
    keep_still g.P.Plugin.plugin c.args.self.now.store.cat c.args.outside.now.moments (g.D.Disk.disk c.args.outside.now.main) c.args.self.now.store
    c.args.outside.now.stores.items c.requires.fits.held c.requires.ready.outside.main_last

pub returns-in_default-new-clause-remembers : goal.returns-in_default-new-clause-remembers
returns-in_default-new-clause-remembers g c =
    let main = c.args.outside.now.main in
    still_remembers g.D.Disk.disk main main c.args.self.now.store c.args.outside.now.moments refl c.requires.ready.outside.main_last c.requires.fits.held
    c.requires.fits.pending

pub returns-in_default-end_text-clause-obeys : goal.returns-in_default-end_text-clause-obeys
returns-in_default-end_text-clause-obeys g c = λ source request sets.
    unsaid g.D.Disk.disk g.A.Ambient.ambient g.P.Plugin.plugin source c.args.outside.now (g.K.Sink.sink c.args.sink.now) c.args.self.now c.args.number request
    c.args.self.now c.requires.fits.held c.requires.ready.outside.main_last c.requires.ready.sink_last

pub returns-in_default-end_text-clause-whole : goal.returns-in_default-end_text-clause-whole
returns-in_default-end_text-clause-whole g c =
    keep_still g.P.Plugin.plugin c.args.self.now.store.cat c.args.outside.now.moments (g.D.Disk.disk c.args.outside.now.main) c.args.self.now.store
    c.args.outside.now.stores.items c.requires.fits.held c.requires.ready.outside.main_last

pub returns-in_default-end_text-clause-remembers : goal.returns-in_default-end_text-clause-remembers
returns-in_default-end_text-clause-remembers g c =
    let main = c.args.outside.now.main in
    still_remembers g.D.Disk.disk main main c.args.self.now.store c.args.outside.now.moments refl c.requires.ready.outside.main_last c.requires.fits.held
    c.requires.fits.pending

-- ---- the rules are kept already

pub say-requires-clause-fits : goal.say-requires-clause-fits
say-requires-clause-fits g c =
    let same = c.is_same.ensures.0 c.if-is_same.true ∙ c.rules-kept.ensures ∙ ap (λ (x : Cat). x.rules) c.tables.ensures in
    fits_ruled (g.D.Disk.disk c.args.outside.now.main) c.args.self.now c.in-Ok-new.base c.args.rules c.in-Ok-new.ensures c.requires.checked c.requires.fits
    (sym same ∙ c.in-Ok.ensures.printed)

pub returns-then-is_same-clause-obeys : goal.returns-then-is_same-clause-obeys
returns-then-is_same-clause-obeys g c = λ source request sets.
    let s = c.args.self.now in
    let base = c.in-Ok-new.base in
    let E : End → Type 0 = λ e. SaysOnly (state_of s) request e (state_of (record s { rules = base })) in
    c.say.ensures.obeys source request s refl
    (subst E (sym c.well.ensures.is) (says_same s request (map plain_rule (map rule_of c.args.rules)) sets base
    (base_rules base c.args.rules c.in-Ok-new.ensures)))

-- ---- they are kept now

pub keep_rules-requires-clause-text : goal.keep_rules-requires-clause-text
keep_rules-requires-clause-text g c =
    let lines = printed_bytes c.requires.spelled.0 (map rule_of c.args.rules) c.requires.spelled.1 in
    let fits = subst (λ (t : Text). list_all is_line_byte t ≡ true → IsTrue (delta_fits (delta.Rules t))) c.as_slice.ensures c.lines_are_kept.ensures in (
      fits (subst (λ (t : Text). list_all is_line_byte t ≡ true) (sym c.in-Ok.ensures.printed) lines),
      (
        map plain_rule (map rule_of c.args.rules),
        subst (λ (t : Text). IsKeptText t (map plain_rule (map rule_of c.args.rules))) (sym c.in-Ok.ensures.printed)
            (c.what_is_set_is_kept.ensures.kept c.requires.spelled.0 (map rule_of c.args.rules) c.requires.spelled.1 c.requires.checked),
      ),
    )

pub returns-in-Ok-keep_rules-clause-obeys : goal.returns-in-Ok-keep_rules-clause-obeys
returns-in-Ok-keep_rules-clause-obeys g c = λ source request sets.
    let kept = c.in-Ok-keep_rules.ensures in
    let base = c.in-Ok-new.base in
    let line : c.as_slice-in-Ok-keep_rules.result.now ≡ end_line c.args.number well =
    c.as_slice-in-Ok-keep_rules.ensures ∙ c.in-Ok-end_text.ensures ∙ ap (end_line c.args.number) c.well-2.ensures.is in
    let differs : c.in-Ok.printed ≢ c.args.self.now.store.cat.rules = λ same. (
    let is = c.is_same.ensures.1 (same ∙ sym (c.rules-kept.ensures ∙ ap (λ (x : Cat). x.rules) c.tables.ensures)) in
    let both : true ≡ false = sym is ∙ c.if-is_same.false in
    cc
    ) in
    said_then g.D.Disk.disk g.A.Ambient.ambient g.P.Plugin.plugin source c.args.outside.now
    (record c.keep_rules.new.outside { moments = c.put_text.new.moments }) (g.K.Sink.sink c.args.sink.now) (g.K.Sink.sink c.put_text.new.sink)
    c.args.self.now (record c.keep_rules.new.self { rules = c.in-Ok-new.base }) c.args.number request c.in-Ok.printed
    (map plain_rule (map rule_of c.args.rules))
    kept.frame.ambient kept.stores c.requires.fits c.requires.ready.sink_last sets c.in-Ok.ensures.printed
    c.keep_rules.new.outside.moments c.keep_rules.new.self kept.kept refl kept.sessions (base_rules base c.args.rules c.in-Ok-new.ensures)
    (subst (λ rs. first_fault (rules_faults (map rule_of rs)) ≡ None) (sym c.in-Ok-new.ensures) c.requires.checked)
    (rw (sym line) c.put_text.ensures.put) kept.frame.drawn (kept.frame.main_last c.requires.ready.outside.main_last) kept.frame.main.tells differs
    c.put_text.result (rw (sym line) c.put_text.ensures.ends)

pub returns-in-Ok-keep_rules-clause-remembers : goal.returns-in-Ok-keep_rules-clause-remembers
returns-in-Ok-keep_rules-clause-remembers g c =
    let s = c.args.self.now in
    let none = c.requires.fits.pending in
    kept_remembers s.store.cat (ruled c.args.number c.in-Ok.printed s.store.cat) c.args.outside.now.moments (g.D.Disk.disk c.args.outside.now.main)
    (g.D.Disk.disk c.keep_rules.new.outside.main) _ c.keep_rules.new.self none none (keeps_named c.args.number c.in-Ok.printed s.store.cat)
    c.in-Ok-keep_rules.ensures.kept

pub returns-in-Err-clause-obeys : goal.returns-in-Err-clause-obeys
returns-in-Err-clause-obeys g c = λ source request sets.
    let kept = c.in-Err.ensures in
    cut_in_keeping g.D.Disk.disk g.A.Ambient.ambient g.P.Plugin.plugin source c.args.outside.now c.keep_rules.new.outside (g.K.Sink.sink c.args.sink.now)
    (g.K.Sink.sink c.args.sink.now) c.args.self.now c.keep_rules.new.self c.args.number request c.in-Ok.printed (map plain_rule (map rule_of c.args.rules))
    kept.frame.ambient kept.stores c.requires.fits c.requires.ready.sink_last sets c.in-Ok.ensures.printed c.in-Err.ending kept.kept

pub returns-in-Err-clause-worn : goal.returns-in-Err-clause-worn
returns-in-Err-clause-worn g c =
    let cat = c.args.self.now.store.cat in
    room_kept cat (ruled c.args.number c.in-Ok.printed cat) (g.D.Disk.disk c.args.outside.now.main) (g.D.Disk.disk c.keep_rules.new.outside.main)
    c.keep_rules.new.self c.in-Err.ending c.in-Err.ensures.kept.ends

pub returns-in-Err-clause-remembers : goal.returns-in-Err-clause-remembers
returns-in-Err-clause-remembers g c =
    let s = c.args.self.now in
    let none = c.requires.fits.pending in
    kept_remembers s.store.cat (ruled c.args.number c.in-Ok.printed s.store.cat) c.args.outside.now.moments (g.D.Disk.disk c.args.outside.now.main)
    (g.D.Disk.disk c.keep_rules.new.outside.main) _ c.keep_rules.new.self none none (keeps_named c.args.number c.in-Ok.printed s.store.cat)
    c.in-Err.ensures.kept
