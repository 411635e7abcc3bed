use Rattle.std.proofs.Common.{List, ap, sym, ◌∙◌}
use Rattle.std.specs.Prelude.{◌==◌, length}
use Rattle.grid_model.specs.declared.deltas.ReplicaRow.{ReplicaRow}
use Rattle.file_laws.specs.Rewriting.{replicas_dropped}
use Rattle.plan_base.proofs.AtPaths.{user_known}
use Rattle.plan_drop.specs.Stored.{stored_rows}
use Rattle.plan_drop.proofs.TrimmedReplicas.{known_there, last_good, leaves_there, no_replica, planned, refused_level, refused_nothing, refused_unknown}
use Rattle.plan_drop.proofs.trimming.plan_trim.Goals as goal

pub returns-in-None : goal.returns-in-None
returns-in-None c = refused_nothing c.args.tables.now c.requires.made c.args.user c.args.path.now c.args.resource.now c.in-None.ensures

pub may_at-requires-clause-user : goal.may_at-requires-clause-user
may_at-requires-clause-user c = user_known c.args.tables.now c.args.user c.requires.user

pub returns-then-not-may_at : goal.returns-then-not-may_at
returns-then-not-may_at c =
    refused_level c.args.tables.now c.requires.made c.args.user c.args.path.now c.args.resource.now c.in-Some.id c.in-Some.ensures
    (sym (c.may_at.ensures c.args.path.now (sym c.in-Some.ensures)) ∙ c.if-not-may_at.true)

pub returns-in-None-resource_named : goal.returns-in-None-resource_named
returns-in-None-resource_named c =
    refused_unknown c.args.tables.now c.requires.made c.args.user c.args.path.now c.args.resource.now c.in-Some.id c.in-Some.ensures
    (sym (c.may_at.ensures c.args.path.now (sym c.in-Some.ensures)) ∙ c.if-not-may_at.false) c.in-None-resource_named.ensures

pub rows_in-requires-clause-upper : goal.rows_in-requires-clause-upper
rows_in-requires-clause-upper c = known_there c.args.tables.now c.requires.made c.args.resource.now c.in-Some-resource_named.upper c.in-Some-resource_named.ensures

pub rows_in-requires-clause-leaves : goal.rows_in-requires-clause-leaves
rows_in-requires-clause-leaves c = leaves_there c.args.tables.now c.requires.made c.in-Some.id c.replicas_of-rows.result.now c.replicas_of-rows.ensures

pub returns-then-is_empty : goal.returns-then-is_empty
returns-then-is_empty c =
    no_replica c.args.tables.now c.requires.made c.args.user c.args.path.now c.in-Some.id c.in-Some.ensures (sym (c.may_at.ensures c.args.path.now (sym c.in-Some.ensures)) ∙ c.if-not-may_at.false)
    c.args.resource.now c.in-Some-resource_named.upper c.in-Some-resource_named.ensures c.replicas_of-rows.result.now c.replicas_of-rows.ensures c.in-Ok.gone.items c.in-Ok.ensures
    (ap (λ (xs : List ReplicaRow). length xs == 0) (sym c.as_slice.ensures.value) ∙ sym c.is_empty.ensures ∙ c.if-is_empty.true)

pub leaves_good-requires-clause-upper : goal.leaves_good-requires-clause-upper
leaves_good-requires-clause-upper c = known_there c.args.tables.now c.requires.made c.args.resource.now c.in-Some-resource_named.upper c.in-Some-resource_named.ensures

pub leaves_good-requires-clause-leaves : goal.leaves_good-requires-clause-leaves
leaves_good-requires-clause-leaves c = leaves_there c.args.tables.now c.requires.made c.in-Some.id c.replicas_of-rows.result.now c.replicas_of-rows.ensures

pub returns-then-not-leaves_good : goal.returns-then-not-leaves_good
returns-then-not-leaves_good c =
    last_good c.args.tables.now c.requires.made c.args.user c.args.path.now c.in-Some.id c.in-Some.ensures (sym (c.may_at.ensures c.args.path.now (sym c.in-Some.ensures)) ∙ c.if-not-may_at.false)
    c.args.resource.now c.in-Some-resource_named.upper c.in-Some-resource_named.ensures c.replicas_of-rows.result.now c.replicas_of-rows.ensures c.in-Ok.gone.items c.in-Ok.ensures
    (ap (λ (xs : List ReplicaRow). length xs == 0) (sym c.as_slice.ensures.value) ∙ sym c.is_empty.ensures ∙ c.if-is_empty.false)
    c.leaves_good.result c.leaves_good.ensures c.if-not-leaves_good.true

pub returns : goal.returns
returns c =
    planned c.args.tables.now c.requires.made c.args.user c.args.path.now c.in-Some.id c.in-Some.ensures (sym (c.may_at.ensures c.args.path.now (sym c.in-Some.ensures)) ∙ c.if-not-may_at.false)
    c.args.resource.now c.in-Some-resource_named.upper c.in-Some-resource_named.ensures c.replicas_of-rows.result.now c.replicas_of-rows.ensures c.in-Ok.gone.items c.in-Ok.ensures
    (ap (λ (xs : List ReplicaRow). length xs == 0) (sym c.as_slice.ensures.value) ∙ sym c.is_empty.ensures ∙ c.if-is_empty.false)
    c.leaves_good.result c.leaves_good.ensures c.if-not-leaves_good.false c.in-Ok-without_replicas.deltas
    (c.in-Ok-without_replicas.ensures.changes ∙ ap (λ (xs : List ReplicaRow). replicas_dropped (stored_rows c.args.tables.now xs)) c.as_slice-2.ensures.value)
    c.in-Ok-without_replicas.ensures.spelled
