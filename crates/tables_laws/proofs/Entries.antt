-- The grid once an item gave a user access, or no longer gives it.
use Rattle.std.proofs.Common.{◌≡◌, ◌==◌, ℕ, true, List, Ok, refl, sym, ap, ◌∙◌, subst, eq-eqb, eqb-true}
use Rattle.std.specs.Prelude.{filter, not}
use Rattle.std.specs.Ordering.{nat_cmp, ordering_then, is_eq}
use Rattle.std.specs.Cmp.{Equal-is}
use Rattle.std.proofs.lemmas.Bool.{and_parts, and_from}
use Rattle.grid_model.specs.Maps.{Map, put, remove}
use Rattle.grid_model.specs.Names.{Text, Path}
use Rattle.grid_model.specs.Grid.{access_cmp}
use Rattle.grid_model.specs.Rows.{Cat, has_user, item_there, item_number, same_item, entry_cmp, with_row, empty_cat}
use Rattle.grid_model.specs.RowPaths.{collection_path}
use Rattle.grid_model.specs.RowGrids.{grid_of, item_place, user_name}
use Rattle.grid_model.specs.Applying.{apply, apply_all, gives_access, is_given, entry_fits, is_entry, has_entry}
use Rattle.grid_model.specs.declared.deltas.Delta.{Delta}
use Rattle.grid_model.specs.declared.deltas.Delta.TheVariants as delta
use Rattle.grid_model.specs.declared.deltas.EntryRow.{EntryRow}
use Rattle.grid_model.specs.declared.grid.Level.{Level}
use Rattle.grid_model.specs.declared.grid.ItemKind.{ItemKind}
use Rattle.tables_laws.proofs.Rows.{IsIn, in_from_all, in_from_any}
use Rattle.tables_laws.proofs.Numbered.{same_number, equal_number}
use Rattle.tables_laws.proofs.RowLists.{not_not}
use Rattle.tables_laws.proofs.TableMaps.{tied_so, from_list-with_row, from_list-without}
use Rattle.tables_laws.proofs.GridOrders.{then_equal, kind_numbered, access_cmp_total, access_cmp-IsAntisymmetric}
use Rattle.tables_laws.proofs.Standing.{EntryStands}
use Rattle.tables_laws.proofs.Places.{user_names_apart, items_apart}
use Rattle.tables_laws.proofs.Sound.{IsSound, sound-made, fits_so, entry_stands}
use Rattle.tables_laws.proofs.Grids.{grid-same}

-- the path of an item and the name of a user
abbrev pub access_key : Cat → ItemKind → ℕ → ℕ → Path × Text
access_key c k id user = (item_place c (collection_path c) k id, user_name c user)

abbrev pub key_of : Cat → EntryRow → Path × Text
key_of c x = access_key c x.kind x.id x.user

module _ (c : Cat) (s : IsSound c) (k : ItemKind) (id user : ℕ) (gives : gives_access k ≡ true) (there : item_there c k id ≡ true) (known : has_user c user ≡ true) where
  -- other rows have other keys
  pub keys_apart : (x : EntryRow) → EntryStands c x → key_of c x ≡ access_key c k id user → (x.kind ≡ k) × (x.id ≡ id) × (x.user ≡ user)
  keys_apart x stands same =
      let items = items_apart c s x.kind k x.id id (and_parts (gives_access x.kind) (is_given x.level) stands.0).0 gives stands.1 there (ap (λ (p : Path × Text). p.0) same) in
      (items.0, items.1, user_names_apart c s x.user user stands.2 known (ap (λ (p : Path × Text). p.1) same))

  rows_same : (x : EntryRow) → IsIn c.entries x → key_of c x ≡ access_key c k id user → (x.kind ≡ k) × (x.id ≡ id) × (x.user ≡ user)
  rows_same x here same = keys_apart x (in_from_all (EntryStands c) c.entries s.tied.entries x here) same

  keys_same : (x : EntryRow) → x.kind ≡ k → x.id ≡ id → x.user ≡ user → key_of c x ≡ access_key c k id user
  keys_same x kinds ids users i = access_key c (kinds i) (ids i) (users i)

  pub grid-without_entry : grid_of (record c { entries = filter (λ x. not (is_entry k id user x)) c.entries }) ≡ record (grid_of c) { access = remove (grid_of c).access (access_key c k id user) }
  grid-without_entry =
      grid-same c (record c { entries = filter (λ x. not (is_entry k id user x)) c.entries }) refl (record (grid_of c) { access = remove (grid_of c).access (access_key c k id user) }) (
      ap (λ (m : Map access_cmp Level). record (grid_of c) { access = m }) (
      from_list-without access_cmp_total entry_cmp (key_of c) (λ (x : EntryRow). x.level) access_cmp-IsAntisymmetric c.entries (λ x. not (is_entry k id user x)) (access_key c k id user) (λ x here.
      tied_so access_cmp_total access_cmp-IsAntisymmetric (key_of c x) (access_key c k id user) (is_entry k id user x) (λ same. passes x (rows_same x here same)) (told x)
      ∙ not_not (is_entry k id user x))))
    where
      passes : (x : EntryRow) → (x.kind ≡ k) × (x.id ≡ id) × (x.user ≡ user) → is_entry k id user x ≡ true
      passes x same =
          and_from (same_item x.kind x.id k id) (x.user == user)
          (and_from (item_number x.kind == item_number k) (x.id == id) (eq-eqb (item_number x.kind) (item_number k) (ap item_number same.0)) (eq-eqb x.id id same.1)) (eq-eqb x.user user same.2)

      told : (x : EntryRow) → is_entry k id user x ≡ true → key_of c x ≡ access_key c k id user
      told x e =
          let parts = and_parts (same_item x.kind x.id k id) (x.user == user) e in
          let items = and_parts (item_number x.kind == item_number k) (x.id == id) parts.0 in
          keys_same x (kind_numbered x.kind k (eqb-true (item_number x.kind) (item_number k) items.0)) (eqb-true x.id id items.1) (eqb-true x.user user parts.1)

pub grid-with_entry : (c : Cat) (s : IsSound c) (e : EntryRow) → entry_fits c e ≡ true
    → grid_of (record c { entries = with_row entry_cmp c.entries e }) ≡ record (grid_of c) { access = put (grid_of c).access (key_of c e) e.level }
grid-with_entry c s e fits =
    grid-same c (record c { entries = with_row entry_cmp c.entries e }) refl (record (grid_of c) { access = put (grid_of c).access (key_of c e) e.level }) (
    ap (λ (m : Map access_cmp Level). record (grid_of c) { access = m }) (
    from_list-with_row access_cmp_total entry_cmp (key_of c) (λ (x : EntryRow). x.level) access_cmp-IsAntisymmetric c.entries e (λ x here.
    tied_so access_cmp_total access_cmp-IsAntisymmetric (key_of c x) (key_of c e) (is_eq (entry_cmp e x))
    (λ same. let ids = rows_same c s e.kind e.id e.user gives stands.1 stands.2 x here same in
    (Equal-is (entry_cmp e x)).1 (rw (equal_number (item_number e.kind) (item_number x.kind) (ap item_number (sym ids.0)), equal_number e.id x.id (sym ids.1), equal_number e.user x.user (sym ids.2)) refl))
    (λ tied. let first = then_equal (nat_cmp (item_number e.kind) (item_number x.kind)) (ordering_then (nat_cmp e.id x.id) (nat_cmp e.user x.user)) ((Equal-is (entry_cmp e x)).0 tied) in
    let rest = then_equal (nat_cmp e.id x.id) (nat_cmp e.user x.user) first.1 in
    keys_same c s e.kind e.id e.user gives stands.1 stands.2 x (sym (kind_numbered e.kind x.kind (same_number (item_number e.kind) (item_number x.kind) first.0))) (sym (same_number e.id x.id rest.0))
    (sym (same_number e.user x.user rest.1))))))
  where
    stands : EntryStands c e
    stands = entry_stands c e fits

    gives : gives_access e.kind ≡ true
    gives = (and_parts (gives_access e.kind) (is_given e.level) stands.0).0

pub grid-entry : (deltas : List Delta) (c d : Cat) (row : EntryRow) → apply_all empty_cat deltas ≡ Ok c → apply c (delta.Entry row) ≡ Ok d
    → grid_of d ≡ record (grid_of c) { access = put (grid_of c).access (item_place c (collection_path c) row.kind row.id, user_name c row.user) row.level }
grid-entry deltas c d row made e =
    let so = fits_so (entry_fits c row) 13 (record c { entries = with_row entry_cmp c.entries row }) d e in
    ap (λ (x : Cat). grid_of x) (sym so.1) ∙ grid-with_entry c (sound-made deltas c made) row so.0

pub grid-no_entry : (deltas : List Delta) (c d : Cat) (k : ItemKind) (id user : ℕ) → apply_all empty_cat deltas ≡ Ok c → apply c (delta.NoEntry k id user) ≡ Ok d
    → grid_of d ≡ record (grid_of c) { access = remove (grid_of c).access (item_place c (collection_path c) k id, user_name c user) }
grid-no_entry deltas c d k id user made e =
    let so = fits_so (has_entry c k id user) 14 (record c { entries = filter (λ x. not (is_entry k id user x)) c.entries }) d e in
    let s = sound-made deltas c made in
    let found = in_from_any (λ x. is_entry k id user x) c.entries so.0 in
    let parts = and_parts (same_item found.0.kind found.0.id k id) (found.0.user == user) found.2 in
    let items = and_parts (item_number found.0.kind == item_number k) (found.0.id == id) parts.0 in
    let kinds : found.0.kind ≡ k = kind_numbered found.0.kind k (eqb-true (item_number found.0.kind) (item_number k) items.0) in
    let ids : found.0.id ≡ id = eqb-true found.0.id id items.1 in
    let stands = in_from_all (EntryStands c) c.entries s.tied.entries found.0 found.1 in
    ap (λ (x : Cat). grid_of x) (sym so.1)
    ∙ grid-without_entry c s k id user (subst (λ l. gives_access l ≡ true) kinds (and_parts (gives_access found.0.kind) (is_given found.0.level) stands.0).0)
    (subst (λ i. item_there c k i ≡ true) ids (subst (λ l. item_there c l found.0.id ≡ true) kinds stands.1)) (subst (λ i. has_user c i ≡ true) (eqb-true found.0.user user parts.1) stands.2)
