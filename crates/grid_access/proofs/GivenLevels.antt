-- What the grid of a catalogue that changes made gives a user at an item is what the rows of the item give by ids.
use Rattle.std.proofs.Common.{◌≡◌, ◌==◌, ℕ, Bool, true, false, List, [], Option, Some, refl, sym, ap, ◌∙◌, subst, eq-eqb, eqb-true}
use Rattle.std.specs.Prelude.{find, filter, option_map, unwrap_or, is_some, ◌&&◌, ◌||◌}
use Rattle.std.proofs.lemmas.Bool.{and_parts, and_from}
use Rattle.grid_model.specs.Maps.{get, has}
use Rattle.grid_model.specs.Names.{Text, Path, same_text, same_path}
use Rattle.grid_model.specs.Grid.{everybody}
use Rattle.grid_model.specs.Rows.{Cat, entry_cmp, user, has_user, is_member, item_there, item_number, same_item, access_of}
use Rattle.grid_model.specs.RowPaths.{collection_path}
use Rattle.grid_model.specs.RowGrids.{grid_of, user_name, item_place}
use Rattle.grid_model.specs.Applying.{IsMade, gives_access, is_given}
use Rattle.grid_model.specs.Levels.{greatest, is_admin, speaks_for, levels_given, level_at}
use Rattle.grid_model.specs.declared.deltas.UserRow.{UserRow}
use Rattle.grid_model.specs.declared.deltas.MemberRow.{MemberRow}
use Rattle.grid_model.specs.declared.deltas.EntryRow.{EntryRow}
use Rattle.grid_model.specs.declared.grid.ItemKind.{ItemKind}
use Rattle.grid_model.specs.declared.grid.Level.{Level}
use Rattle.grid_model.specs.declared.grid.Level.TheVariants.{Own}
use Rattle.grid_model.proofs.Comparing.{text_cmp_total, text_cmp-IsAntisymmetric, same_text-Decides, same_path-Decides}
use Rattle.grid_model.proofs.RowOrders.{entry_cmp_total}
use Rattle.tables_laws.proofs.Rows.{IsIn, in_from_all, in_from_filter, filter_from_in, find_from_in, in_once}
use Rattle.tables_laws.proofs.Numbered.{equal_number, one_number}
use Rattle.tables_laws.proofs.TableMaps.{tied_so, get-rows}
use Rattle.tables_laws.proofs.GridOrders.{access_cmp_total, access_cmp-IsAntisymmetric, member_cmp_total, member_cmp-IsAntisymmetric, kind_numbered}
use Rattle.tables_laws.proofs.Standing.{EntryStands, MemberStands}
use Rattle.tables_laws.proofs.Ties.{members_there}
use Rattle.tables_laws.proofs.Places.{row_there, user_names_apart, items_apart}
use Rattle.tables_laws.proofs.LookUps.{get-users}
use Rattle.tables_laws.proofs.Entries.{key_of, keys_apart}
use Rattle.tables_laws.proofs.Sound.{IsSound, sound-made}
use Rattle.grid_access.specs.RowLevels.{speaks_by_id, levels_by_rows}
use Rattle.grid_access.proofs.Greatest.{greatest-same}
use Rattle.grid_access.proofs.MapEntries.{in_from_map, map_from_in, found-any, row_of_entry, entry_of_row}

module _ (c : Cat) (s : IsSound c) where
  -- ---- users and members by their names

  -- the kind of a user is that of the name
  pub get-user_name : (id : ℕ) → has_user c id ≡ true → get (grid_of c).users (user_name c id) ≡ option_map (λ r. r.kind) (user c id)
  get-user_name id known =
      let row = row_there (λ (r : UserRow). r.id) c.users id known in
      let named : user_name c id ≡ row.0.name = ap (λ (o : Option UserRow). unwrap_or (option_map (λ r. r.name) o) []) row.3 in
      let found : find (λ r. same_text r.name row.0.name) c.users ≡ Some row.0 =
      find_from_in (λ (r : UserRow). same_text r.name row.0.name) c.users row.0 row.1 ((same_text-Decides row.0.name row.0.name).1 refl) (λ y there passes.
      one_number (λ (r : UserRow). r.id) c.users y row.0 s.cat.users.ordered there row.1 (s.names.users_apart y row.0 there row.1 ((same_text-Decides y.name row.0.name).0 passes))) in
      get-users c (user_name c id) ∙ ap (λ (n : Text). option_map (λ (r : UserRow). r.kind) (find (λ r. same_text r.name n) c.users)) named
      ∙ ap (option_map (λ (r : UserRow). r.kind)) (found ∙ sym row.3)

  -- names are the same where the ids are
  same_user : (a b : ℕ) → has_user c a ≡ true → has_user c b ≡ true → same_text (user_name c a) (user_name c b) ≡ (a == b)
  same_user a b a_known b_known =
      tied_so text_cmp_total text_cmp-IsAntisymmetric (user_name c a) (user_name c b) (a == b) (λ same. eq-eqb a b (user_names_apart c s a b a_known b_known same)) (λ e. ap (user_name c) (eqb-true a b e))

  -- a user is in a group where the names tell so
  pub has-member : (group id : ℕ) → has_user c group ≡ true → has_user c id ≡ true → has (grid_of c).members (user_name c group, user_name c id) ≡ is_member c group id
  has-member group id group_known known =
      ap is_some (get-rows member_cmp_total (λ (m : MemberRow). (user_name c m.group, user_name c m.user)) (λ (m : MemberRow). tt) c.members (user_name c group, user_name c id))
      ∙ found-any _ (λ (m : MemberRow). (m.group == group) && (m.user == id)) (λ (m : MemberRow). tt) c.members (λ m here.
      tied_so member_cmp_total member_cmp-IsAntisymmetric (user_name c m.group, user_name c m.user) (user_name c group, user_name c id) ((m.group == group) && (m.user == id))
      (λ same. let theirs = members_there c m (in_from_all (MemberStands c) c.members s.tied.members m here) in
      and_from (m.group == group) (m.user == id)
      (eq-eqb m.group group (user_names_apart c s m.group group theirs.0 group_known (ap (λ (k : Text × Text). k.0) same)))
      (eq-eqb m.user id (user_names_apart c s m.user id theirs.1 known (ap (λ (k : Text × Text). k.1) same))))
      (λ e. let parts = and_parts (m.group == group) (m.user == id) e in
      λ i. (user_name c (eqb-true m.group group parts.0 i), user_name c (eqb-true m.user id parts.1 i))))

  -- a name speaks for a user where the id does
  speaks-same : (user id : ℕ) → has_user c user ≡ true → has_user c id ≡ true → speaks_for (grid_of c) (user_name c user) (user_name c id) ≡ speaks_by_id c user id
  speaks-same user id user_known known =
      ap (λ b. b || same_text (user_name c id) everybody || has (grid_of c).members (user_name c id, user_name c user)) (same_user id user known user_known)
      ∙ ap (λ b. (id == user) || same_text (user_name c id) everybody || b) (has-member id user known user_known)

  -- ---- what an item gives

  module _ (k : ItemKind) (id user : ℕ) (gives : gives_access k ≡ true) (there : item_there c k id ≡ true) (known : has_user c user ≡ true) where
    abbrev place : Path
    place = item_place c (collection_path c) k id

    abbrev by_names : List Level
    by_names = levels_given (grid_of c) (user_name c user) place

    abbrev by_ids : List Level
    by_ids = levels_by_rows c user (access_of c k id)

    abbrev passes : (Path × Text) × Level → Bool
    passes e = same_path e.0.0 place && speaks_for (grid_of c) (user_name c user) e.0.1

    -- an entry of the grid that passes gives a level of the rows
    entry_gives : (e : (Path × Text) × Level) → IsIn (grid_of c).access.entries e → passes e ≡ true → IsIn by_ids e.1
    entry_gives e here passing =
        let tests = and_parts (same_path e.0.0 place) (speaks_for (grid_of c) (user_name c user) e.0.1) passing in
        let x = row_of_entry access_cmp_total access_cmp-IsAntisymmetric (key_of c) (λ (r : EntryRow). r.level) c.entries e here in
        let stands : EntryStands c x.0 = in_from_all (EntryStands c) c.entries s.tied.entries x.0 x.1 in
        let at : item_place c (collection_path c) x.0.kind x.0.id ≡ place = ap (λ (q : Path × Text). q.0) x.2 ∙ (same_path-Decides e.0.0 place).0 tests.0 in
        let items = items_apart c s x.0.kind k x.0.id id (and_parts (gives_access x.0.kind) (is_given x.0.level) stands.0).0 gives stands.1 there at in
        let own : same_item x.0.kind x.0.id k id ≡ true =
        and_from (item_number x.0.kind == item_number k) (x.0.id == id) (eq-eqb (item_number x.0.kind) (item_number k) (ap item_number items.0)) (eq-eqb x.0.id id items.1) in
        let speaks : speaks_by_id c user x.0.user ≡ true =
        sym (speaks-same user x.0.user known stands.2) ∙ ap (λ (q : Path × Text). speaks_for (grid_of c) (user_name c user) q.1) x.2 ∙ tests.1 in
        subst (IsIn by_ids) x.3
        (map_from_in (λ (r : EntryRow). r.level) (filter (λ r. speaks_by_id c user r.user) (access_of c k id)) x.0
        (filter_from_in (λ (r : EntryRow). speaks_by_id c user r.user) (access_of c k id) x.0 (filter_from_in (λ (r : EntryRow). same_item r.kind r.id k id) c.entries x.0 x.1 own) speaks))

    -- two rows with one key are one
    one_row : (x y : EntryRow) → IsIn c.entries x → IsIn c.entries y → EntryStands c x → key_of c y ≡ key_of c x → y ≡ x
    one_row x y here other stands same =
        let parts =
        keys_apart c s x.kind x.id x.user (and_parts (gives_access x.kind) (is_given x.level) stands.0).0 stands.1 stands.2 y (in_from_all (EntryStands c) c.entries s.tied.entries y other) same in
        in_once entry_cmp entry_cmp_total c.entries y x s.cat.entries.ordered other here
        (rw (equal_number (item_number y.kind) (item_number x.kind) (ap item_number parts.0), equal_number y.id x.id parts.1, equal_number y.user x.user parts.2) refl)

    -- a row of the item that speaks for the user gives a level of the grid
    row_gives : (x : EntryRow) → IsIn c.entries x → x.kind ≡ k → x.id ≡ id → speaks_by_id c user x.user ≡ true → IsIn by_names x.level
    row_gives x here kinds ids speaking =
        let stands : EntryStands c x = in_from_all (EntryStands c) c.entries s.tied.entries x here in
        let e = entry_of_row access_cmp_total access_cmp-IsAntisymmetric (key_of c) (λ (r : EntryRow). r.level) c.entries x here (λ y other same. one_row x y here other stands same) in
        let moved : item_place c (collection_path c) x.kind x.id ≡ place = λ i. item_place c (collection_path c) (kinds i) (ids i) in
        let at : e.0.0.0 ≡ place = ap (λ (q : Path × Text). q.0) (sym e.2) ∙ moved in
        let speaks : speaks_for (grid_of c) (user_name c user) e.0.0.1 ≡ true =
        ap (λ (q : Path × Text). speaks_for (grid_of c) (user_name c user) q.1) (sym e.2) ∙ speaks-same user x.user known stands.2 ∙ speaking in
        subst (IsIn by_names) (sym e.3)
        (map_from_in (λ (e : (Path × Text) × Level). e.1) (filter passes (grid_of c).access.entries) e.0
        (filter_from_in passes (grid_of c).access.entries e.0 e.1
        (and_from (same_path e.0.0.0 place) (speaks_for (grid_of c) (user_name c user) e.0.0.1) ((same_path-Decides e.0.0.0 place).1 at) speaks)))

    to_rows : (l : Level) → IsIn by_names l → IsIn by_ids l
    to_rows l here =
        let e = in_from_map (λ (e : (Path × Text) × Level). e.1) (filter passes (grid_of c).access.entries) l here in
        let its = in_from_filter passes (grid_of c).access.entries e.0 e.1 in
        subst (IsIn by_ids) e.2 (entry_gives e.0 its.0 its.1)

    from_rows : (l : Level) → IsIn by_ids l → IsIn by_names l
    from_rows l here =
        let x = in_from_map (λ (r : EntryRow). r.level) (filter (λ r. speaks_by_id c user r.user) (access_of c k id)) l here in
        let speaking = in_from_filter (λ (r : EntryRow). speaks_by_id c user r.user) (access_of c k id) x.0 x.1 in
        let own = in_from_filter (λ (r : EntryRow). same_item r.kind r.id k id) c.entries x.0 speaking.0 in
        let items = and_parts (item_number x.0.kind == item_number k) (x.0.id == id) own.1 in
        subst (IsIn by_names) x.2
        (row_gives x.0 own.0 (kind_numbered x.0.kind k (eqb-true (item_number x.0.kind) (item_number k) items.0)) (eqb-true x.0.id id items.1) speaking.1)

    -- the grid and the rows give the same levels
    pub greatest-given : greatest by_names ≡ greatest by_ids
    greatest-given = greatest-same by_names by_ids to_rows from_rows

-- ---- the level

abbrev own_or : Bool → Level → Level
own_or b l = elim b [ true ↦ Own | false ↦ l ]

-- the level of a user in the grid, by the rows
pub level-rows : (c : Cat) → IsMade c → (k : ItemKind) (id number : ℕ) → gives_access k ≡ true → item_there c k id ≡ true → has_user c number ≡ true
    → (admin : Bool) → admin ≡ is_admin (option_map (λ r. r.kind) (user c number))
    → level_at (grid_of c) (user_name c number) (item_place c (collection_path c) k id) ≡ elim admin [ true ↦ Own | false ↦ greatest (levels_by_rows c number (access_of c k id)) ]
level-rows c made k id number gives there known admin is =
    let s = sound-made made.0 c made.1 in
    ap (λ b. own_or b (greatest (levels_given (grid_of c) (user_name c number) (item_place c (collection_path c) k id)))) (ap is_admin (get-user_name c s number known) ∙ sym is)
    ∙ ap (own_or admin) (greatest-given c s k id number gives there known)
