-- The grid once a user or a group was made.
use Rattle.std.proofs.Common.{◌≡◌, ℕ, true, List, [], Option, Ok, refl, sym, ap, ◌∙◌}
use Rattle.std.specs.Prelude.{option_map, unwrap_or}
use Rattle.std.specs.declared.cmp.Ordering.TheVariants.{Equal}
use Rattle.grid_model.specs.Maps.{put}
use Rattle.grid_model.specs.Grid.{user_named}
use Rattle.grid_model.specs.Rows.{Cat, item_there, user_cmp, with_row, empty_cat}
use Rattle.grid_model.specs.RowPaths.{collection_path}
use Rattle.grid_model.specs.RowGrids.{grid_at, grid_of, thing_of}
use Rattle.grid_model.specs.Applying.{apply, apply_all, user_fits}
use Rattle.grid_model.specs.declared.deltas.Delta.{Delta}
use Rattle.grid_model.specs.declared.deltas.Delta.TheVariants as delta
use Rattle.grid_model.specs.declared.deltas.UserRow.{UserRow}
use Rattle.grid_model.specs.declared.grid.ItemKind.{ItemKind}
use Rattle.grid_model.specs.declared.grid.ItemKind.TheVariants as kind
use Rattle.grid_model.proofs.Comparing.{text_cmp_total, text_cmp-IsAntisymmetric, other_text}
use Rattle.tables_laws.proofs.Rows.{IsIn, new_in_with_row, old_in_with_row}
use Rattle.tables_laws.proofs.Numbered.{same_number, put_other}
use Rattle.tables_laws.proofs.TableMaps.{from_list-new}
use Rattle.tables_laws.proofs.OwnNames.{names-user}
use Rattle.tables_laws.proofs.Ties.{not_taken}
use Rattle.tables_laws.proofs.Places.{row_there}
use Rattle.tables_laws.proofs.Frame.{same_grid, members_kept, triples_kept, access_kept}
use Rattle.tables_laws.proofs.Sound.{IsSound, sound-made, fits_so}
use Rattle.tables_laws.proofs.Grids.{grid-same}

module _ (c : Cat) (s : IsSound c) (r : UserRow) (fits : user_fits c r ≡ true) where
  abbrev after : Cat
  after = record c { users = with_row user_cmp c.users r }

  new : (x : UserRow) → IsIn c.users x → user_cmp r x ≡ Equal → ⊥
  new x here e = not_taken c r fits x here (sym (same_number r.id x.id e))

  thing_kept : (k : ItemKind) (id : ℕ) → item_there c k id ≡ true → thing_of after (collection_path c) k id ≡ thing_of c (collection_path c) k id
  thing_kept kind.Object id has = refl
  thing_kept kind.Collection id has = refl
  thing_kept kind.Resource id has = refl
  thing_kept kind.User id has =
      let row = row_there (λ (x : UserRow). x.id) c.users id has in
      ap (λ (o : Option UserRow). user_named (unwrap_or (option_map (λ x. x.name) o) [])) (put_other (λ (x : UserRow). x.id) c.users r id (λ is. not_taken c r fits row.0 row.1 (row.2 ∙ is)))

  pub grid-with_user : grid_of after ≡ record (grid_of c) { users = put (grid_of c).users r.name r.kind }
  grid-with_user =
      grid-same c after refl (record (grid_of c) { users = put (grid_of c).users r.name r.kind }) (
      same_grid (grid_at after (collection_path c)) (record (grid_of c) { users = put (grid_of c).users r.name r.kind }) refl refl
      (from_list-new text_cmp_total user_cmp (λ (x : UserRow). x.name) (λ (x : UserRow). x.kind) text_cmp-IsAntisymmetric c.users r new
      (λ x here. other_text x.name r.name (λ same. not_taken c r fits x here
      ((names-user c r fits s.names).users_apart x r (old_in_with_row user_cmp c.users r x here (new x here)) (new_in_with_row user_cmp c.users r) same))))
      (members_kept c after s.tied (collection_path c) thing_kept) refl refl (triples_kept c after s.tied (collection_path c) thing_kept) (access_kept c after s.tied (collection_path c) thing_kept) refl)

pub grid-user : (deltas : List Delta) (c d : Cat) (row : UserRow) → apply_all empty_cat deltas ≡ Ok c → apply c (delta.User row) ≡ Ok d
    → grid_of d ≡ record (grid_of c) { users = put (grid_of c).users row.name row.kind }
grid-user deltas c d row made e =
    let so = fits_so (user_fits c row) 2 (record c { users = with_row user_cmp c.users row }) d e in
    ap (λ (x : Cat). grid_of x) (sym so.1) ∙ grid-with_user c (sound-made deltas c made) row so.0
