use Rattle.std.proofs.Common.{ℕ, List, IsTrue, sym, subst, ◌∙◌}
use Rattle.std.specs.List.{AllByRecursion}
use Rattle.grid_model.specs.Rows.{has_collection}
use Rattle.grid_model.specs.declared.queries.Cond.{Cond}
use Rattle.grid_model.specs.declared.queries.Column.TheVariants as column
use Rattle.tables_laws.proofs.Sound.{sound-made}
use Rattle.query_run.specs.Narrowing.{WantsText, FindsPrinted, HasShownCollections}
use Rattle.query_run.proofs.Members.{ids_there}
use Rattle.query_run.proofs.Narrowed.{all_collections, no_collection_shown, one_collection_shown}
use Rattle.query_run.proofs.narrowing.collections_to_try.Goals as goal

pub returns-in-None-clause-there : goal.returns-in-None-clause-there
returns-in-None-clause-there c =
    let P : List ℕ → Type 0 = λ xs. AllByRecursion (λ id. IsTrue (has_collection c.args.tables.now id)) xs in
    subst P (sym (c.into_vec.ensures ∙ c.in_ok-ids-in-None.ensures.ids)) (ids_there c.args.tables.now)

pub returns-in-None-clause-shown : goal.returns-in-None-clause-shown
returns-in-None-clause-shown c = λ user.
    let t = c.args.tables.now in
    let q = c.args.query.now in
    subst (λ (xs : List ℕ). HasShownCollections t user q xs) (sym (c.into_vec.ensures ∙ c.in_ok-ids-in-None.ensures.ids)) (all_collections t user q)

pub returns-in-None-2-clause-shown : goal.returns-in-None-2-clause-shown
returns-in-None-2-clause-shown c = λ user.
    let t = c.args.tables.now in
    let text = c.in-Some.text.now in
    let asks = subst (λ (conds : List Cond). WantsText conds column.CollName text) c.as_slice.ensures c.in-Some.ensures in
    no_collection_shown t (sound-made c.requires.0 t c.requires.1) user c.args.query.now text asks
    (subst (FindsPrinted t text) c.in-None-2.is c.in_ok-collection_printed.ensures) c.new.result.items

pub returns-in_ok-vec-in-Some-2-clause-shown : goal.returns-in_ok-vec-in-Some-2-clause-shown
returns-in_ok-vec-in-Some-2-clause-shown c = λ user.
    let t = c.args.tables.now in
    let q = c.args.query.now in
    let text = c.in-Some.text.now in
    let asks = subst (λ (conds : List Cond). WantsText conds column.CollName text) c.as_slice.ensures c.in-Some.ensures in
    let found = subst (FindsPrinted t text) c.in-Some-2.is c.in_ok-collection_printed.ensures in
    subst (λ (xs : List ℕ). HasShownCollections t user q xs) (sym c.in_ok-vec-in-Some-2.ensures.items)
    (one_collection_shown t (sound-made c.requires.0 t c.requires.1) user q text asks c.in-Some-2.id found)
