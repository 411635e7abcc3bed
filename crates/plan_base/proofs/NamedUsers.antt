-- Users and groups by their names, and the access that they are given.
use Rattle.std.proofs.Common.{◌≡◌, ◌==◌, ℕ, Bool, true, false, cond, List, [], ◌∷◌, Option, Some, None, refl, sym, ap, ◌∙◌, eq-eqb, eqb-true}
use Rattle.std.specs.Prelude.{find, filter, option_map, unwrap_or, is_some, ◌&&◌}
use Rattle.std.specs.Ordering.{eq_by_cmp}
use Rattle.std.proofs.lemmas.Bool.{and_parts, and_from}
use Rattle.std.proofs.lemmas.Option.{same_Some}
use Rattle.grid_model.specs.Maps.{get, has}
use Rattle.grid_model.specs.Names.{Text, same_text}
use Rattle.grid_model.specs.Grid.{access_cmp}
use Rattle.grid_model.specs.Rows.{Cat, user, has_user, item_there, item_number, same_item, access_of}
use Rattle.grid_model.specs.RowGrids.{grid_of, user_name}
use Rattle.grid_model.specs.Applying.{gives_access, is_entry}
use Rattle.grid_model.specs.declared.deltas.UserRow.{UserRow}
use Rattle.grid_model.specs.declared.deltas.EntryRow.{EntryRow}
use Rattle.grid_model.specs.declared.grid.ItemKind.{ItemKind}
use Rattle.grid_model.specs.declared.grid.Level.{Level}
use Rattle.grid_model.proofs.Comparing.{same_text-Decides}
use Rattle.tables_laws.proofs.Rows.{in_from_all, in_from_find, any_from_in}
use Rattle.tables_laws.proofs.Numbered.{found_in}
use Rattle.tables_laws.proofs.RowLists.{find-congr}
use Rattle.tables_laws.proofs.TableMaps.{tied_so, get-rows}
use Rattle.tables_laws.proofs.GridOrders.{access_cmp_total, access_cmp-IsAntisymmetric, kind_numbered}
use Rattle.tables_laws.proofs.Standing.{EntryStands}
use Rattle.tables_laws.proofs.LookUps.{get-users}
use Rattle.tables_laws.proofs.Entries.{access_key, key_of, keys_apart}
use Rattle.tables_laws.proofs.Sound.{IsSound}
use Rattle.plan_base.specs.Found.{entry_level}

-- the id of the user or group of the name
abbrev pub id_named : Cat → Text → Option ℕ
id_named c name = option_map (λ r. r.id) (find (λ r. same_text r.name name) c.users)

is_some-option_map : {X Y : Type 0} (f : X → Y) (o : Option X) → is_some (option_map f o) ≡ is_some o
is_some-option_map f None = refl
is_some-option_map f (Some x) = refl

pub has-users : (c : Cat) (name : Text) → has (grid_of c).users name ≡ is_some (id_named c name)
has-users c name =
    ap is_some (get-users c name) ∙ is_some-option_map (λ (r : UserRow). r.kind) (find (λ r. same_text r.name name) c.users)
    ∙ sym (is_some-option_map (λ (r : UserRow). r.id) (find (λ r. same_text r.name name) c.users))

-- a row has the id and the name
pub record IsNamed (c : Cat) (name : Text) (id : ℕ) : Type 0 where
  pub known : has_user c id ≡ true
  pub name_is : user_name c id ≡ name
  pub kind_is : get (grid_of c).users name ≡ option_map (λ r. r.kind) (user c id)

module _ (c : Cat) (s : IsSound c) where
  pub is_named : (name : Text) (id : ℕ) → Some id ≡ id_named c name → IsNamed c name id
  is_named name id is = by (find (λ r. same_text r.name name) c.users) refl is
    where
      by : (o : Option UserRow) → find (λ r. same_text r.name name) c.users ≡ o → Some id ≡ option_map (λ (r : UserRow). r.id) o → IsNamed c name id
      by None none e = absurd cc
      by (Some x) some e =
          let its : x.id ≡ id = same_Some x.id id (sym e) in
          let found = in_from_find (λ (r : UserRow). same_text r.name name) c.users x some in
          let own : user c id ≡ Some x = ap (user c) (sym its) ∙ found_in (λ (r : UserRow). r.id) c.users x s.cat.users.ordered found.0 in
          record {
            known = any_from_in (λ (r : UserRow). r.id == id) c.users x found.0 (eq-eqb x.id id its);
            name_is = ap (λ (o : Option UserRow). unwrap_or (option_map (λ r. r.name) o) []) own ∙ (same_text-Decides x.name name).0 found.1;
            kind_is = get-users c name ∙ ap (option_map (λ (r : UserRow). r.kind)) (some ∙ sym own);
          }

  -- the level that an item gives a name is what a row gives the id
  pub get-access : (k : ItemKind) (id other : ℕ) → gives_access k ≡ true → item_there c k id ≡ true → has_user c other ≡ true
      → get (grid_of c).access (access_key c k id other) ≡ entry_level c k id other
  get-access k id other gives there known =
      get-rows access_cmp_total (key_of c) (λ (e : EntryRow). e.level) c.entries (access_key c k id other)
      ∙ ap (option_map (λ (e : EntryRow). e.level)) (find-congr (λ x. eq_by_cmp access_cmp (key_of c x) (access_key c k id other)) (is_entry k id other) c.entries (λ x here.
      tied_so access_cmp_total access_cmp-IsAntisymmetric (key_of c x) (access_key c k id other) (is_entry k id other x)
      (λ same. let its = keys_apart c s k id other gives there known x (in_from_all (EntryStands c) c.entries s.tied.entries x here) same in
      and_from (same_item x.kind x.id k id) (x.user == other)
      (and_from (item_number x.kind == item_number k) (x.id == id) (eq-eqb (item_number x.kind) (item_number k) (ap item_number its.0)) (eq-eqb x.id id its.1)) (eq-eqb x.user other its.2))
      (λ e. let parts = and_parts (same_item x.kind x.id k id) (x.user == other) e in
      let items = and_parts (item_number x.kind == item_number k) (x.id == id) parts.0 in
      let kinds = kind_numbered x.kind k (eqb-true (item_number x.kind) (item_number k) items.0) in
      let ids = eqb-true x.id id items.1 in
      let users = eqb-true x.user other parts.1 in
      λ i. access_key c (kinds i) (ids i) (users i))))

-- the first of those that pass a test to pass another is the first that passes both
find-kept : {X : Type 0} (p q : X → Bool) (xs : List X) → find q (filter p xs) ≡ find (λ x. p x && q x) xs
find-kept p q [] = refl
find-kept p q (x ∷ xs) = elim (p x) as (λ b. find q (cond b (x ∷ filter p xs) (filter p xs)) ≡ cond (b && q x) (Some x) (find (λ y. p y && q y) xs)) [
  | true ↦ ap (λ o. cond (q x) (Some x) o) (find-kept p q xs)
  | false ↦ find-kept p q xs
]

pub level_in : (c : Cat) (k : ItemKind) (id other : ℕ) (rows : List EntryRow) (level : Option Level) → rows ≡ access_of c k id
    → level ≡ option_map (λ e. e.level) (find (λ e. e.user == other) rows) → level ≡ entry_level c k id other
level_in c k id other rows level is level_is =
    level_is ∙ ap (λ (es : List EntryRow). option_map (λ (e : EntryRow). e.level) (find (λ (e : EntryRow). e.user == other) es)) is
    ∙ ap (option_map (λ (e : EntryRow). e.level)) (find-kept (λ (e : EntryRow). same_item e.kind e.id k id) (λ e. e.user == other) c.entries)
