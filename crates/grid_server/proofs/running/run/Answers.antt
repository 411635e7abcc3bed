use Rattle.std.proofs.Common.{arith, inl, inr, sym, ◌∙◌}
use Rattle.grid_server.specs.declared.status.Status.TheVariants as status
use Rattle.grid_server.proofs.RunLemmas.{serve_or_init, inits_so, complete, complete_init, asked_names, usage_says_none, usage_says_no_stores, no_both, says_another, start_whole_as, took_none, long_fits}
use Rattle.grid_server.proofs.running.run.Goals as goal

pub init-requires-clause-zone : goal.init-requires-clause-zone
init-requires-clause-zone g c = (asked_names c.in-Init.ensures).0

pub init-requires-clause-admin : goal.init-requires-clause-admin
init-requires-clause-admin g c = (asked_names c.in-Init.ensures).1

pub returns-in-Serve-clause-init : goal.returns-in-Serve-clause-init
returns-in-Serve-clause-init g c = λ zone admin asks. absurd (serve_or_init c.in-Serve.ensures asks)

pub returns-in-Serve-clause-init_all : goal.returns-in-Serve-clause-init_all
returns-in-Serve-clause-init_all g c = λ zone admin asks. absurd (serve_or_init c.in-Serve.ensures asks)

pub returns-in-Init-clause-init : goal.returns-in-Init-clause-init
returns-in-Init-clause-init g c = λ zone admin asks.
    inits_so c.in-Init.zone.now c.in-Init.admin.now zone admin _ (g.D.Disk.disk c.args.outside.now.main) (g.D.Disk.disk c.init.new.outside.main) (g.D.Disk.disk c.args.outside.now.spare) (g.K.Sink.sink c.args.sink.now) (g.K.Sink.sink c.init.new.sink)
    c.init.result c.in-Init.ensures asks c.init.ensures.inits

pub returns-in-Init-clause-init_all : goal.returns-in-Init-clause-init_all
returns-in-Init-clause-init_all g c = λ zone admin asks main_told spare_told main_empty spare_empty main spare sink.
    complete_init c.in-Init.zone.now c.in-Init.admin.now _ (g.D.Disk.disk c.args.outside.now.main) (g.D.Disk.disk c.init.new.outside.main) (g.D.Disk.disk c.args.outside.now.spare) (g.K.Sink.sink c.args.sink.now) (g.K.Sink.sink c.init.new.sink)
    c.init.result c.init.ensures.inits main_told spare_told main_empty spare_empty (λ e. elim (c.init.ensures.disk e) [ inl rose ↦ main rose | inr rose ↦ spare rose ]) (λ e. sink (c.init.ensures.sink e))

pub returns-in-Init-clause-stores : goal.returns-in-Init-clause-stores
returns-in-Init-clause-stores g c = λ found asks. absurd (serve_or_init asks c.in-Init.ensures)

pub returns-in-Init-clause-refuses : goal.returns-in-Init-clause-refuses
returns-in-Init-clause-refuses g c = λ side place asks. absurd (serve_or_init asks c.in-Init.ensures)

pub returns-in-Init-clause-serve_all : goal.returns-in-Init-clause-serve_all
returns-in-Init-clause-serve_all g c = λ found asks. absurd (serve_or_init asks c.in-Init.ensures)

pub returns-in-Nothing-clause-not_a_catalogue : goal.returns-in-Nothing-clause-not_a_catalogue
returns-in-Nothing-clause-not_a_catalogue g c = λ side place is told. absurd (usage_says_none _ c.say.result (g.K.Sink.sink c.args.sink.now) (g.K.Sink.sink c.say.new.sink) side place c.say.ensures.says is)

pub returns-in-Nothing-clause-stores_only : goal.returns-in-Nothing-clause-stores_only
returns-in-Nothing-clause-stores_only g c = λ had given is. absurd (usage_says_no_stores _ c.say.result (g.K.Sink.sink c.args.sink.now) (g.K.Sink.sink c.say.new.sink) had given c.say.ensures.says is)

pub returns-in-Serve-clause-init_whole : goal.returns-in-Serve-clause-init_whole
returns-in-Serve-clause-init_whole g c = λ zone admin t asks. absurd (serve_or_init c.in-Serve.ensures asks)

pub returns-in-Init-clause-init_whole : goal.returns-in-Init-clause-init_whole
returns-in-Init-clause-init_whole g c = λ zone admin t asks none.
    start_whole_as g.P.Plugin.plugin (λ v. v.items) c.args.outside.now.stores c.init.new.outside.stores c.init.ensures.other_stores zone admin _ t none

pub returns-in-Init-clause-serve_spare : goal.returns-in-Init-clause-serve_spare
returns-in-Init-clause-serve_spare g c = λ asks. absurd (serve_or_init asks c.in-Init.ensures)

pub returns-in-Init-clause-worn : goal.returns-in-Init-clause-worn
returns-in-Init-clause-worn g c = λ found asks. absurd (serve_or_init asks c.in-Init.ensures)

pub returns-in-Init-clause-in_room : goal.returns-in-Init-clause-in_room
returns-in-Init-clause-in_room g c = λ asks. absurd (serve_or_init asks c.in-Init.ensures)

pub returns-in-Init-clause-serve : goal.returns-in-Init-clause-serve
returns-in-Init-clause-serve g c = λ asks. absurd (serve_or_init asks c.in-Init.ensures)

pub returns-in-Init-clause-long_only : goal.returns-in-Init-clause-long_only
returns-in-Init-clause-long_only g c = λ taken is. absurd (c.init.ensures.no_run.0 taken is)

pub returns-in-Init-clause-worn_only : goal.returns-in-Init-clause-worn_only
returns-in-Init-clause-worn_only g c = λ found what place is. absurd (c.init.ensures.no_run.1 what place is)

pub returns-in-Init-clause-took : goal.returns-in-Init-clause-took
returns-in-Init-clause-took g c = λ told. took_none (g.S.Source.source c.args.source.now)

pub returns-in-Nothing-clause-long_only : goal.returns-in-Nothing-clause-long_only
returns-in-Nothing-clause-long_only g c = λ taken is.
    absurd (says_another _ status.Usage c.say.result (status.Long taken) (g.K.Sink.sink c.args.sink.now) (g.K.Sink.sink c.say.new.sink) (λ e. cc e) (λ e. cc e) c.say.ensures.says is)

pub returns-in-Nothing-clause-worn_only : goal.returns-in-Nothing-clause-worn_only
returns-in-Nothing-clause-worn_only g c = λ found what place is.
    absurd (says_another _ status.Usage c.say.result (status.Worn what place) (g.K.Sink.sink c.args.sink.now) (g.K.Sink.sink c.say.new.sink) (λ e. cc e) (λ e. cc e) c.say.ensures.says is)

pub returns-in-Nothing-clause-took : goal.returns-in-Nothing-clause-took
returns-in-Nothing-clause-took g c = λ told. took_none (g.S.Source.source c.args.source.now)

pub returns-in-Nothing-clause-stores_last : goal.returns-in-Nothing-clause-stores_last
returns-in-Nothing-clause-stores_last g c = λ k store at. omega (arith, c.requires.stores_last k store at, c.say.ensures.went.drawn_from)

pub returns-in-Serve-clause-serve : goal.returns-in-Serve-clause-serve
returns-in-Serve-clause-serve g c = λ asks. c.serve.ensures.serve

pub returns-in-Serve-clause-serve_all : goal.returns-in-Serve-clause-serve_all
returns-in-Serve-clause-serve_all g c = λ found asks told source_told stood stores fits main spare source sink.
    complete c.serve.result c.serve.ensures.ends (λ e. main (c.serve.ensures.passes.frame.cause e)) (λ e. source (c.serve.ensures.source e)) (λ e. sink (c.serve.ensures.passes.sink_cause e))
    (λ taken e. let most = (c.serve.ensures.long_only taken e).1 source_told in long_fits (g.S.Source.source c.args.source.now) (g.S.Source.source c.serve.new.source) most.0 most.1 fits)
    (λ side place e. no_both (g.D.Disk.disk c.args.outside.now.main).holds (g.D.Disk.disk c.args.outside.now.spare).holds found side place stood (c.serve.ensures.not_a_catalogue side place e told))
    (λ had given e. let only = c.serve.ensures.stores_only had given e in only.0 (only.2 found told stood ∙ stores ∙ sym only.1))

pub returns-in-Init-clause-serving : goal.returns-in-Init-clause-serving
returns-in-Init-clause-serving g c = λ asks. absurd (serve_or_init asks c.in-Init.ensures)
