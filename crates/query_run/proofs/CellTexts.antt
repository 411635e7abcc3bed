-- What a row shows in a column of its object.
use Rattle.std.proofs.Common.{◌≡◌, false, [], ◌∷◌, ◌++◌, Option, Some, Bor, refl, ap, ◌∙◌}
use Rattle.std.specs.Prelude.{decimal, option_copied, option_map}
use Rattle.std.specs.Option.{option_map_or}
use Rattle.grid_model.specs.Names.{Text, Path}
use Rattle.grid_model.specs.Grid.{Object}
use Rattle.grid_model.specs.QueryRows.{cell, is_of_collection, is_of_replica, is_of_triple, last_name}
use Rattle.grid_model.specs.Rows.{Cat}
use Rattle.grid_model.specs.RowGrids.{grid_of, object_of}
use Rattle.grid_model.specs.declared.deltas.ObjectRow.{ObjectRow}
use Rattle.grid_model.specs.declared.queries.Column.{Column}
use Rattle.grid_model.specs.declared.queries.Column.TheVariants as column
use Rattle.query_run.specs.Parts.{combination_of, object_text}
use Rattle.query_run.specs.declared.parts.Parts.{Parts}

pub last-push : (p : Path) (n : Text) → last_name (p ++ n ∷ []) ≡ n
last-push [] n = refl
last-push (a ∷ []) n = refl
last-push (a ∷ b ∷ p) n = last-push (b ∷ p) n

module _ (c : Cat) (p : Parts) (o : Bor ObjectRow) (is : p.object ≡ Some o) where
  abbrev shown_by : (Path × Object → Text) → Option (Bor ObjectRow) → Text
  shown_by f found = option_map_or f (option_map (λ (x : ObjectRow). (p.collection.now ++ x.name ∷ [], object_of c x)) (option_copied found)) []

  pub object-cell : (col : Column) → is_of_replica col ≡ false → is_of_triple col ≡ false → is_of_collection col ≡ false
      → cell (grid_of c) (combination_of c p) col ≡ object_text o.now col
  object-cell column.DataName r t k = ap (shown_by (λ e. last_name e.0)) is ∙ last-push p.collection.now o.now.name
  object-cell column.DataModifyTime r t k = ap (shown_by (λ e. decimal e.1.time)) is
  object-cell column.CollName r t k = absurd cc
  object-cell column.MetaDataAttrName r t k = absurd cc
  object-cell column.MetaDataAttrValue r t k = absurd cc
  object-cell column.MetaDataAttrUnits r t k = absurd cc
  object-cell column.DataSize r t k = absurd cc
  object-cell column.DataReplNum r t k = absurd cc
  object-cell column.DataReplStatus r t k = absurd cc
  object-cell column.DataRescHier r t k = absurd cc
  object-cell column.DataChecksum r t k = absurd cc
