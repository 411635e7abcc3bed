use Rattle.std.proofs.Common.{IsTrue, refl, ap, ◌∙◌}
use Rattle.grid_model.specs.Applying.{is_leaf}
use Rattle.grid_tree.proofs.Named.{named-as}
use Rattle.grid_model.specs.RowGrids.{grid_of}
use Rattle.grid_model.specs.Trees.{targets}
use Rattle.plan_base.proofs.AtPaths.{sound_of}
use Rattle.plan_object.specs.ReplPlans.{lacking_leaves}
use Rattle.plan_object.proofs.FewFiles.{few_repl}
use Rattle.plan_object.proofs.GotFiles.{known_named}
use Rattle.plan_object.proofs.LackingLeaves.{left_all}
use Rattle.plan_object.proofs.PutLemmas.{targets_as}
use Rattle.plan_object.proofs.ReplDeeds.{planned_idle, planned_repl}
use Rattle.plan_object.proofs.ReplRows.{resource_missing}
use Rattle.plan_object.proofs.replicating.plan_repl.Goals as goal

pub unreachable-requires-in-None-resource_named : goal.unreachable-requires-in-None-resource_named
unreachable-requires-in-None-resource_named c =
    resource_missing c.args.tables.now c.requires.may.0 c.args.path.now c.args.resource.now c.requires.may.1 c.requires.may.2 c.in-None-resource_named.ensures

pub targets-requires-clause-there : goal.targets-requires-clause-there
targets-requires-clause-there c =
    (known_named c.args.tables.now c.args.resource.now (sound_of c.args.tables.now c.requires.made) c.in-Some-resource_named.resource c.in-Some-resource_named.ensures).there

pub targets_of-requires : goal.targets_of-requires
targets_of-requires c =
    left_all (λ id. IsTrue (is_leaf c.args.tables.now id)) c.replicas_of.result.now c.in_ok-leaves.leaves c.as_slice.result.now c.in_ok-lacking.lacking.items c.as_slice-2.result.now
    c.in_ok-leaves.ensures.leaves c.as_slice.ensures c.in_ok-lacking.ensures c.as_slice-2.ensures.value

pub returns-clause-copies : goal.returns-clause-copies
returns-clause-copies c = λ user from now may.
    let cat = c.args.tables.now in
    let its = known_named cat c.args.resource.now (sound_of cat c.requires.made) c.in-Some-resource_named.resource c.in-Some-resource_named.ensures in
    planned_repl cat c.requires.made user c.args.path.now c.args.resource.now from may c.args.word now c.in_ok-leaves.leaves
    (named-as cat c.in_ok-leaves.leaves _ (targets (grid_of cat).resources c.args.resource.now c.args.word) (ap (λ n. targets (grid_of cat).resources n c.args.word) its.name_is) c.in_ok-leaves.ensures.names)
    c.in_ok-leaves.ensures.leaves c.in-Some.id c.in-Some.ensures c.in-Some-object.row.now c.in-Some-object.ensures.row c.as_slice-in-Some-object.result.now
    (targets_as cat _ c.as_slice-2.result.now _ _ c.in_ok-targets.ensures (c.as_slice-2.ensures.value ∙ c.in_ok-lacking.ensures ∙ (λ i. lacking_leaves (c.replicas_of.ensures i) (c.as_slice.ensures i))) c.as_slice-in-Some-object.ensures.value)
    c.replicas_plan.result c.replicas_plan.ensures

pub returns-clause-idle : goal.returns-clause-idle
returns-clause-idle c = planned_idle c.args.tables.now c.in-Some-object.row.now c.as_slice-in-Some-object.result.now c.replicas_plan.result c.replicas_plan.ensures

pub returns-clause-few : goal.returns-clause-few
returns-clause-few c =
    let cat = c.args.tables.now in
    let all = left_all (λ id. IsTrue (is_leaf cat id)) c.replicas_of.result.now c.in_ok-leaves.leaves c.as_slice.result.now
    c.in_ok-lacking.lacking.items c.as_slice-2.result.now
    c.in_ok-leaves.ensures.leaves c.as_slice.ensures c.in_ok-lacking.ensures c.as_slice-2.ensures.value in
    few_repl cat c.as_slice-2.result.now all c.as_slice-in-Some-object.result.now
    (targets_as cat c.as_slice-2.result.now c.as_slice-2.result.now _ _ c.in_ok-targets.ensures refl c.as_slice-in-Some-object.ensures.value)
    c.in-Some-object.row.now c.replicas_plan.result c.replicas_plan.ensures
