use Rattle.grid_model.specs.Grid.{object_at, collection_at}
use Rattle.plan_meta.proofs.NamedThings.{refused_so, one_thing, object_of_path, collection_of_path, no_object_named, no_collection_named, resource_of_name, user_of_name}
use Rattle.plan_meta.proofs.things.thing_named.Goals as goal

pub returns-in-Err-clause-none : goal.returns-in-Err-clause-none
returns-in-Err-clause-none c not thing = no_object_named c.as_slice.result.now c.args.name.now c.as_slice.ensures c.in-Err.error c.in-Err.ensures.refused thing not c.args.kind c.in-Object.is

pub returns-in-Err-clause-place : goal.returns-in-Err-clause-place
returns-in-Err-clause-place c = refused_so c.as_slice.result.now c.args.name.now c.as_slice.ensures c.in-Err.error c.in-Err.ensures.refused

pub returns-in-Ok-clause-named : goal.returns-in-Ok-clause-named
returns-in-Ok-clause-named c = object_of_path c.as_slice.result.now c.args.name.now c.as_slice.ensures c.in-Ok.path c.in-Ok.ensures.path c.args.kind c.in-Object.is

pub returns-in-Ok-clause-alone : goal.returns-in-Ok-clause-alone
returns-in-Ok-clause-alone c other named =
    one_thing c.args.kind c.args.name.now other (object_at c.in-Ok.path) named
    (object_of_path c.as_slice.result.now c.args.name.now c.as_slice.ensures c.in-Ok.path c.in-Ok.ensures.path c.args.kind c.in-Object.is)

pub returns-in-Err-parse-clause-none : goal.returns-in-Err-parse-clause-none
returns-in-Err-parse-clause-none c not thing =
    no_collection_named c.as_slice-in-Collection.result.now c.args.name.now c.as_slice-in-Collection.ensures c.in-Err-parse.error c.in-Err-parse.ensures.refused thing not c.args.kind c.in-Collection.is

pub returns-in-Err-parse-clause-place : goal.returns-in-Err-parse-clause-place
returns-in-Err-parse-clause-place c = refused_so c.as_slice-in-Collection.result.now c.args.name.now c.as_slice-in-Collection.ensures c.in-Err-parse.error c.in-Err-parse.ensures.refused

pub returns-in-Ok-parse-clause-named : goal.returns-in-Ok-parse-clause-named
returns-in-Ok-parse-clause-named c =
    collection_of_path c.as_slice-in-Collection.result.now c.args.name.now c.as_slice-in-Collection.ensures c.in-Ok-parse.path c.in-Ok-parse.ensures.path c.args.kind c.in-Collection.is

pub returns-in-Ok-parse-clause-alone : goal.returns-in-Ok-parse-clause-alone
returns-in-Ok-parse-clause-alone c other named =
    one_thing c.args.kind c.args.name.now other (collection_at c.in-Ok-parse.path) named
    (collection_of_path c.as_slice-in-Collection.result.now c.args.name.now c.as_slice-in-Collection.ensures c.in-Ok-parse.path c.in-Ok-parse.ensures.path c.args.kind c.in-Collection.is)

pub returns-in-Ok-copy_of-clause-named : goal.returns-in-Ok-copy_of-clause-named
returns-in-Ok-copy_of-clause-named c =
    resource_of_name c.as_slice-in-Resource.result.now c.args.name.now c.as_slice-in-Resource.ensures c.in-Ok-copy_of.name c.in-Ok-copy_of.ensures c.args.kind c.in-Resource.is

pub returns-in-Ok-copy_of-2-clause-named : goal.returns-in-Ok-copy_of-2-clause-named
returns-in-Ok-copy_of-2-clause-named c =
    user_of_name c.as_slice-in-User.result.now c.args.name.now c.as_slice-in-User.ensures c.in-Ok-copy_of-2.name c.in-Ok-copy_of-2.ensures c.args.kind c.in-User.is
