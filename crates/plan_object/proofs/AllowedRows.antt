-- The object at a path, and whether the user may: the first tests of a row.
use Rattle.std.proofs.Common.{◌≡◌, ℕ, false, true, Option, Some, None, Ok, Err, sym, ap}
use Rattle.std.specs.Prelude.{⊤}
use Rattle.grid_model.specs.Names.{Text, Path}
use Rattle.grid_model.specs.Grid.{Object}
use Rattle.grid_model.specs.Levels.{may}
use Rattle.grid_model.specs.Refusing.{Or, ◌>>=◌, there, unless}
use Rattle.grid_model.specs.Rows.{Cat, object}
use Rattle.grid_model.specs.RowPaths.{object_at}
use Rattle.grid_model.specs.RowGrids.{grid_of, object_of}
use Rattle.grid_model.specs.Applying.{IsMade}
use Rattle.grid_model.specs.Deeds.{Act}
use Rattle.grid_model.specs.Operations.Common.{needs, object_there}
use Rattle.grid_model.specs.declared.deltas.Item.TheVariants as item
use Rattle.grid_model.specs.declared.deltas.ObjectRow.{ObjectRow}
use Rattle.grid_model.specs.declared.grid.Level.{Level}
use Rattle.grid_model.specs.declared.refusal.Refusal.TheVariants.{NoObject, NoAccess}
use Rattle.tables_laws.proofs.LookUps.{get-object_at}
use Rattle.tables_laws.proofs.Places.{row_there}
use Rattle.plan_base.proofs.AtPaths.{placed, sound_of}
use Rattle.plan_object.specs.Allowing.{FindsObject, IsAllowed}
use Rattle.plan_object.proofs.GotFiles.{nothing_at}

module _ (c : Cat) (made : IsMade c) (user : Text) (p : Path) (level : Level) where
  abbrev pub tests : (Object → Or Act) → Option Object → Or ⊤ → Or Act
  tests row o allowed = there o NoObject >>= (λ o. allowed >>= (λ _. row o))

  pub none_allowed : None ≡ object_at c p → FindsObject c user p level (Err NoObject)
  none_allowed none = λ row. ap (λ (o : Option Object). tests row o (needs (grid_of c) user p level)) (nothing_at c made p none)

  -- the row of what is there
  pub row_at : (id : ℕ) → Some id ≡ object_at c p → (o : ObjectRow) × (object c id ≡ Some o)
  row_at id at = let row = row_there (λ (r : ObjectRow). r.id) c.objects id (placed c made p (item.Object id) (sym at)).there in (row.0, row.3)

  module _ (id : ℕ) (at : Some id ≡ object_at c p) where
    pub not_allowed : may (grid_of c) user p level ≡ false → FindsObject c user p level (Err NoAccess)
    not_allowed may_not =
        let o = row_at id at in
        λ row. (λ i. tests row (get-object_at c (sound_of c made) p id o.0 (sym at) o.1 i) (unless (may_not i) NoAccess))

    pub is_allowed : may (grid_of c) user p level ≡ true → FindsObject c user p level (Ok id)
    is_allowed may_it = record {
      at = sym at;
      there = (placed c made p (item.Object id) (sym at)).there;
      allowed = ap (λ b. unless b NoAccess) may_it;
    }

  -- a row goes on where the user may
  pub allowed_row : (id : ℕ) → IsAllowed c user p level id → (o : ObjectRow) → object c id ≡ Some o → (row : Object → Or Act)
      → (object_there (grid_of c) p >>= (λ o. needs (grid_of c) user p level >>= (λ _. row o))) ≡ row (object_of c o)
  allowed_row id its o found row = λ i. tests row (get-object_at c (sound_of c made) p id o its.at found i) (its.allowed i)
