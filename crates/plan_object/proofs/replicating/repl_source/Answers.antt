use Rattle.std.proofs.Common.{sym, ◌∙◌}
use Rattle.plan_base.proofs.AtPaths.{sound_of}
use Rattle.plan_object.proofs.GotFiles.{found_row, known_named}
use Rattle.plan_object.proofs.PutLemmas.{row_missing}
use Rattle.plan_object.proofs.ReplRows.{may_repl, no_repl_file, no_repl_resource, no_repl_target, not_found}
use Rattle.plan_object.proofs.replicating.repl_source.Goals as goal

pub returns-in-Err : goal.returns-in-Err
returns-in-Err c = not_found c.args.tables.now _ c.args.path.now c.args.resource.now c.in-Err.refusal c.in-Err.ensures

pub returns-in-None : goal.returns-in-None
returns-in-None c = no_repl_resource c.args.tables.now _ c.args.path.now c.args.resource.now c.requires.made c.in-Ok.id c.in-Ok.ensures c.in-None.ensures

pub has_targets-requires-clause-there : goal.has_targets-requires-clause-there
has_targets-requires-clause-there c = (known_named c.args.tables.now c.args.resource.now (sound_of c.args.tables.now c.requires.made) c.in-Some.resource c.in-Some.ensures).there

pub returns-then-not-any : goal.returns-then-not-any
returns-then-not-any c =
    no_repl_target c.args.tables.now _ c.args.path.now c.args.resource.now c.requires.made c.in-Ok.id c.in-Ok.ensures c.in-Some.resource c.in-Some.ensures
    (sym c.if-not-any.true ∙ c.in-Ok-has_targets.ensures)

pub unreachable-requires : goal.unreachable-requires
unreachable-requires c = row_missing c.args.tables.now c.in-Ok.id c.in-Ok.ensures.there c.in-None-object.ensures.row

pub first_file-requires-clause-there : goal.first_file-requires-clause-there
first_file-requires-clause-there c = found_row c.args.tables.now c.in-Ok.id c.in-Some-object.object.now c.in-Some-object.ensures.row

pub returns-in-Err-first_file : goal.returns-in-Err-first_file
returns-in-Err-first_file c =
    no_repl_file c.args.tables.now _ c.args.path.now c.args.resource.now c.requires.made c.in-Ok.id c.in-Ok.ensures c.in-Some.resource c.in-Some.ensures
    (sym c.if-not-any.false ∙ c.in-Ok-has_targets.ensures) c.in-Some-object.object.now c.in-Some-object.ensures.row c.in-Err-first_file.refusal c.in-Err-first_file.ensures

pub returns-in-Ok-first_file : goal.returns-in-Ok-first_file
returns-in-Ok-first_file c =
    may_repl c.args.tables.now _ c.args.path.now c.args.resource.now c.requires.made c.in-Ok.id c.in-Ok.ensures c.in-Some.resource c.in-Some.ensures
    (sym c.if-not-any.false ∙ c.in-Ok-has_targets.ensures) c.in-Some-object.object.now c.in-Some-object.ensures.row c.in-Ok-first_file.file c.in-Ok-first_file.ensures
