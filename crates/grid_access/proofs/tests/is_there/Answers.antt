use Rattle.std.proofs.Common.{◌≡◌, ◌==◌, true, Bor, refl, sym, subst}
use Rattle.grid_model.specs.Applying.{gives_access}
use Rattle.grid_model.specs.Rows.{id_of, item_there, kind_of}
use Rattle.grid_model.specs.declared.deltas.Item.{Item}
use Rattle.grid_model.specs.declared.deltas.CollectionRow.{CollectionRow}
use Rattle.grid_model.specs.declared.deltas.ObjectRow.{ObjectRow}
use Rattle.grid_access.proofs.Made.{there-found}
use Rattle.grid_access.proofs.tests.is_there.Goals as goal

pub returns-in-Object : goal.returns-in-Object
returns-in-Object c some =
    subst (λ (i : Item). (gives_access (kind_of i) ≡ true) × (item_there c.args.tables.now (kind_of i) (id_of i) ≡ true)) (sym c.in-Object.is) (
      refl,
      there-found (λ (r : ObjectRow). r.id == c.in-Object.id) c.args.tables.now.objects (λ (b : Bor ObjectRow). b.now) c.object.result c.is_some.result c.object.ensures.row c.is_some.ensures some,
    )

pub returns-in-Collection : goal.returns-in-Collection
returns-in-Collection c some =
    subst (λ (i : Item). (gives_access (kind_of i) ≡ true) × (item_there c.args.tables.now (kind_of i) (id_of i) ≡ true)) (sym c.in-Collection.is) (
      refl,
      there-found (λ (r : CollectionRow). r.id == c.in-Collection.id) c.args.tables.now.collections (λ (b : Bor CollectionRow). b.now) c.collection.result c.is_some-in-Collection.result c.collection.ensures.row c.is_some-in-Collection.ensures some,
    )
