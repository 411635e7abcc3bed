use Rattle.std.proofs.Common.{◌≡◌, ◌++◌, ℕ, List, IsTrue, sym, ap, subst, ◌∙◌}
use Rattle.std.specs.Prelude.{flat_map}
use Rattle.std.specs.List.{AllByRecursion}
use Rattle.grid_model.specs.Names.{Text}
use Rattle.grid_model.specs.Rows.{has_collection}
use Rattle.grid_model.specs.RowGrids.{grid_of, user_name}
use Rattle.tables_laws.proofs.Sound.{sound-made}
use Rattle.query_run.specs.Shown.{shown_collection, shown_object}
use Rattle.query_run.specs.Unsorted.{HasMembers, unsorted_rows}
use Rattle.query_run.proofs.Members.{collections_shown, objects_shown}
use Rattle.query_run.proofs.OwnTriples.{own_triples}
use Rattle.query_run.proofs.query.unsorted_rows.Goals as goal

pub push_collections-requires-clause-there : goal.push_collections-requires-clause-there
push_collections-requires-clause-there c =
    let P : List ℕ → Type 0 = λ xs. AllByRecursion (λ id. IsTrue (has_collection c.args.tables.now id)) xs in
    subst P (sym c.as_slice.ensures.value) c.in_ok-ids.ensures.there

pub returns-then-names_collections_alone-clause-rows : goal.returns-then-names_collections_alone-clause-rows
returns-then-names_collections_alone-clause-rows c =
    let t = c.args.tables.now in
    let s = sound-made c.requires.made.0 t c.requires.made.1 in
    let user = user_name t c.args.user in
    let f = shown_collection t user c.args.query.now in
    let ids = c.in_ok-ids.ids.items in
    let all : c.push_collections.new.rows.items ≡ flat_map f ids =
    c.in_ok-push_collections.ensures.rows ∙ ap (λ (xs : List (List Text)). xs ++ flat_map f c.as_slice.result.now) c.new-rows.ensures.items ∙ ap (flat_map f) c.as_slice.ensures.value in
    subst (λ (rows : List (List Text)). HasMembers rows (unsorted_rows (grid_of t) user c.args.query.now)) (sym all)
    (collections_shown t s user c.args.query.now (own_triples t s) (sym c.names_collections_alone.ensures ∙ c.if-names_collections_alone.true) ids c.in_ok-ids.ensures.there (c.in_ok-ids.ensures.shown user))

pub returns-clause-rows : goal.returns-clause-rows
returns-clause-rows c =
    let t = c.args.tables.now in
    let s = sound-made c.requires.made.0 t c.requires.made.1 in
    let user = user_name t c.args.user in
    let f = shown_object t user c.args.query.now in
    let ids = c.in_ok-ids-2.ids.items in
    let all : c.push_objects.new.rows.items ≡ flat_map f ids =
    c.in_ok-push_objects.ensures.rows ∙ ap (λ (xs : List (List Text)). xs ++ flat_map f c.as_slice-2.result.now) c.new-rows.ensures.items ∙ ap (flat_map f) c.as_slice-2.ensures.value in
    subst (λ (rows : List (List Text)). HasMembers rows (unsorted_rows (grid_of t) user c.args.query.now)) (sym all)
    (objects_shown t s user c.args.query.now (own_triples t s) (sym c.names_collections_alone.ensures ∙ c.if-names_collections_alone.false) ids (c.in_ok-ids-2.ensures user))
