use Rattle.std.proofs.Common.{arith, sym}
use Rattle.grid_model.specs.RowGrids.{grid_of}
use Rattle.plan_object.specs.Writing.{Recorded}
use Rattle.plan_object.proofs.FewFiles.{few_new, few_over}
use Rattle.plan_object.proofs.PutLemmas.{above_is, few_targets, id_there, only_over, only_to, planned, planned_over, targets_as}
use Rattle.plan_object.proofs.putting.plan_put.Goals as goal

pub plan_over-requires-clause-there : goal.plan_over-requires-clause-there
plan_over-requires-clause-there c = id_there c.args.tables.now c.requires.made c.args.path.now c.in-Some.id c.in-Some.ensures

pub plan_over-requires-clause-vault : goal.plan_over-requires-clause-vault
plan_over-requires-clause-vault c =
    omega (arith, c.requires.vault, few_targets c.args.tables.now c.args.leaves.now c.as_slice-in-Some.result.now (targets_as c.args.tables.now c.args.leaves.now _ _ _ c.in_ok-targets.ensures c.as_slice.ensures c.as_slice-in-Some.ensures.value))

pub returns-in-Some-clause-plan : goal.returns-in-Some-clause-plan
returns-in-Some-clause-plan c =
    let r : Recorded = record { size = c.args.size; digest = c.args.digest; now = c.args.now } in
    planned_over c.args.tables.now c.requires.made _ c.args.path.now c.args.leaves.now c.requires.may c.in-Some.id (sym c.in-Some.ensures) r c.as_slice-in-Some.result.now
    (targets_as c.args.tables.now c.args.leaves.now _ _ _ c.in_ok-targets.ensures c.as_slice.ensures c.as_slice-in-Some.ensures.value) c.plan_over.result c.plan_over.ensures

pub returns-in-Some-clause-slots : goal.returns-in-Some-clause-slots
returns-in-Some-clause-slots c =
    let r : Recorded = record { size = c.args.size; digest = c.args.digest; now = c.args.now } in
    only_over c.args.tables.now c.in-Some.id r c.args.leaves.now c.as_slice-in-Some.result.now
    (targets_as c.args.tables.now c.args.leaves.now _ _ _ c.in_ok-targets.ensures c.as_slice.ensures c.as_slice-in-Some.ensures.value) c.plan_over.result c.plan_over.ensures

pub returns-in-Some-clause-few : goal.returns-in-Some-clause-few
returns-in-Some-clause-few c =
    let r : Recorded = record { size = c.args.size; digest = c.args.digest; now = c.args.now } in
    few_over c.args.tables.now c.args.leaves.now c.requires.may.all c.as_slice-in-Some.result.now
    (targets_as c.args.tables.now c.args.leaves.now _ _ _ c.in_ok-targets.ensures c.as_slice.ensures c.as_slice-in-Some.ensures.value)
    c.in-Some.id r c.plan_over.result c.plan_over.ensures

pub new_object-requires-clause-inside : goal.new_object-requires-clause-inside
new_object-requires-clause-inside c =
    let may = c.requires.may in
    (may.above, above_is (grid_of c.args.tables.now) c.args.path.now may.above may.parent_is may.there)

pub new_object-requires-clause-vault : goal.new_object-requires-clause-vault
new_object-requires-clause-vault c =
    omega (arith, c.requires.vault, few_targets c.args.tables.now c.args.leaves.now c.as_slice-in-None.result.now (targets_as c.args.tables.now c.args.leaves.now _ _ _ c.in_ok-targets.ensures c.as_slice.ensures c.as_slice-in-None.ensures.value))

pub returns-clause-plan : goal.returns-clause-plan
returns-clause-plan c =
    let r : Recorded = record { size = c.args.size; digest = c.args.digest; now = c.args.now } in
    planned c.args.tables.now c.requires.made c.args.user c.requires.user c.args.path.now c.args.leaves.now c.requires.may (sym c.in-None.ensures) r c.as_slice-in-None.result.now
    (targets_as c.args.tables.now c.args.leaves.now _ _ _ c.in_ok-targets.ensures c.as_slice.ensures c.as_slice-in-None.ensures.value) c.new_object.result c.new_object.ensures

pub returns-clause-slots : goal.returns-clause-slots
returns-clause-slots c =
    let r : Recorded = record { size = c.args.size; digest = c.args.digest; now = c.args.now } in
    only_to c.args.tables.now c.args.user c.args.path.now r c.args.leaves.now c.as_slice-in-None.result.now
    (targets_as c.args.tables.now c.args.leaves.now _ _ _ c.in_ok-targets.ensures c.as_slice.ensures c.as_slice-in-None.ensures.value) c.new_object.result c.new_object.ensures

pub returns-clause-few : goal.returns-clause-few
returns-clause-few c =
    let r : Recorded = record { size = c.args.size; digest = c.args.digest; now = c.args.now } in
    few_new c.args.tables.now c.args.leaves.now c.requires.may.all c.as_slice-in-None.result.now
    (targets_as c.args.tables.now c.args.leaves.now _ _ _ c.in_ok-targets.ensures c.as_slice.ensures c.as_slice-in-None.ensures.value)
    c.args.user c.args.path.now r c.new_object.result c.new_object.ensures
