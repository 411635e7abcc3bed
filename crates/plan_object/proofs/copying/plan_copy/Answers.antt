use Rattle.std.proofs.Common.{ap}
use Rattle.grid_model.specs.RowGrids.{grid_of}
use Rattle.grid_model.specs.Trees.{targets}
use Rattle.grid_tree.proofs.Named.{named-as}
use Rattle.plan_base.proofs.AtPaths.{sound_of}
use Rattle.plan_object.specs.Writing.{Recorded}
use Rattle.plan_object.proofs.CopyDeeds.{planned_copy}
use Rattle.plan_object.proofs.CopyRows.{copy_resource}
use Rattle.plan_object.proofs.FewFiles.{few_new}
use Rattle.plan_object.proofs.GotFiles.{known_named}
use Rattle.plan_object.proofs.PutLemmas.{above_is, targets_as}
use Rattle.plan_object.proofs.copying.plan_copy.Goals as goal

pub unreachable-requires : goal.unreachable-requires
unreachable-requires c =
    copy_resource c.args.tables.now _ c.requires.may.0 c.args.to.now c.args.resource.now c.args.file.now c.requires.may.1 c.in-None.ensures

pub targets-requires-clause-there : goal.targets-requires-clause-there
targets-requires-clause-there c = (known_named c.args.tables.now c.args.resource.now (sound_of c.args.tables.now c.requires.made) c.in-Some.resource c.in-Some.ensures).there

pub new_object-requires-clause-inside : goal.new_object-requires-clause-inside
new_object-requires-clause-inside c =
    let puts = c.requires.may.1.puts in
    (puts.above, above_is (grid_of c.args.tables.now) c.args.to.now puts.above puts.parent_is puts.there)

pub returns-clause-copies : goal.returns-clause-copies
returns-clause-copies c = λ from may.
    let cat = c.args.tables.now in
    let its = known_named cat c.args.resource.now (sound_of cat c.requires.made) c.in-Some.resource c.in-Some.ensures in
    planned_copy cat c.requires.made c.args.user c.requires.user from c.args.to.now c.args.resource.now c.args.file.now may c.args.word c.args.now c.in_ok-leaves.leaves
    (named-as cat c.in_ok-leaves.leaves _ (targets (grid_of cat).resources c.args.resource.now c.args.word) (ap (λ n. targets (grid_of cat).resources n c.args.word) its.name_is) c.in_ok-leaves.ensures.names)
    c.in_ok-leaves.ensures.leaves c.as_slice-2.result.now
    (targets_as cat c.in_ok-leaves.leaves _ _ _ c.in_ok-targets.ensures c.as_slice.ensures c.as_slice-2.ensures.value) c.new_object.result c.new_object.ensures

pub returns-clause-few : goal.returns-clause-few
returns-clause-few c =
    let r : Recorded = record { size = c.args.file.now.size; digest = c.args.file.now.digest; now = c.args.now } in
    few_new c.args.tables.now c.in_ok-leaves.leaves c.in_ok-leaves.ensures.leaves c.as_slice-2.result.now
    (targets_as c.args.tables.now c.in_ok-leaves.leaves _ _ _ c.in_ok-targets.ensures c.as_slice.ensures c.as_slice-2.ensures.value)
    c.args.user c.args.to.now r c.new_object.result c.new_object.ensures
