-- The access of a new item: what the changes that give it make of the rows is what the grid has then.
use Rattle.std.proofs.Common.{◌≡◌, ◌==◌, ◌⊎◌, ℕ, ◌+◌, Bool, true, false, cond, List, [], ◌∷◌, ◌++◌, length, Option, Some, None, Ok, IsTrue, inl, inr, refl, sym, ap, ◌∙◌, subst, eq-eqb, eqb-true}
use Rattle.std.specs.Prelude.{find, filter, map, option_map, unwrap_or, ◌&&◌, not}
use Rattle.std.specs.List.{AllByRecursion}
use Rattle.std.specs.declared.cmp.Ordering.TheVariants.{Equal}
use Rattle.std.specs.Ordering.{eq_by_cmp, nat_cmp, ordering_then}
use Rattle.std.specs.Cmp.{both_ways}
use Rattle.std.proofs.lemmas.Bool.{and_parts, and_from}
use Rattle.std.proofs.lemmas.List.{length-map}
use Rattle.grid_model.specs.Maps.{get, put}
use Rattle.grid_model.specs.Names.{Text, Path, same_path, same_text}
use Rattle.grid_model.specs.Grid.{access_cmp}
use Rattle.grid_model.specs.Rows.{Cat, IsTable, entry_cmp, has_user, item_there, item_number, access_of, same_item}
use Rattle.grid_model.specs.RowPaths.{collection_path, collection_at, object_at}
use Rattle.grid_model.specs.RowGrids.{grid_of, item_place, user_name}
use Rattle.grid_model.specs.Applying.{IsMade, apply_all, gives_access, is_given, entry_fits}
use Rattle.grid_model.specs.Operations.Common.{Access, inherits, is_taken, with_new_item}
use Rattle.grid_model.specs.declared.deltas.Delta.{Delta}
use Rattle.grid_model.specs.declared.deltas.Delta.TheVariants as delta
use Rattle.grid_model.specs.declared.deltas.CollectionRow.{CollectionRow}
use Rattle.grid_model.specs.declared.deltas.EntryRow.{EntryRow}
use Rattle.grid_model.specs.declared.deltas.UserRow.{UserRow}
use Rattle.grid_model.specs.declared.grid.ItemKind.{ItemKind}
use Rattle.grid_model.specs.declared.grid.ItemKind.TheVariants as kind
use Rattle.grid_model.specs.declared.grid.Level.TheVariants.{Own}
use Rattle.grid_model.proofs.Comparing.{same_path-Decides, same_text-Decides, other_text}
use Rattle.grid_model.proofs.TableLemmas.{IsTable-none}
use Rattle.grid_model.proofs.MapLemmas.{get-put, same_map}
use Rattle.grid_model.proofs.NewCollections.{at_of}
use Rattle.tables_laws.proofs.Rows.{IsIn, in_from_all, all_from_in, in_from_find, in_from_filter, IsTable-filter}
use Rattle.tables_laws.proofs.RowLists.{find-congr, find-filter}
use Rattle.tables_laws.proofs.Numbered.{same_number}
use Rattle.tables_laws.proofs.TableMaps.{get-rows}
use Rattle.tables_laws.proofs.GridOrders.{then_equal, kind_numbered, access_cmp_total, access_cmp-IsAntisymmetric}
use Rattle.tables_laws.proofs.Standing.{EntryStands}
use Rattle.tables_laws.proofs.Places.{row_there, place_is, items_apart, item_at, tree_of, user_names_apart}
use Rattle.tables_laws.proofs.LookUps.{get-collection_at}
use Rattle.tables_laws.proofs.Entries.{key_of}
use Rattle.tables_laws.proofs.Sound.{IsSound}
use Rattle.plan_base.specs.Found.{IsFree}
use Rattle.plan_base.specs.NewItems.{hands_on, handed_rows, handed_to, new_entries}
use Rattle.plan_base.proofs.AtPaths.{sound_of, free-not_taken}
use Rattle.plan_base.proofs.RaisedAccess.{eq-access, nested, get-new_item}
use Rattle.plan_base.proofs.Sizes.{Apart, apart_in_order, one_entry}
use Rattle.plan_base.proofs.PutAccess.{or_else, puts, level_for, get-puts, puts-handed, puts-then}
use Rattle.plan_base.proofs.PutEntries.{put_all, with_entries, applied-put_all, grid-put_all, Distinct, length-put_all}

pub all_given : (c : Cat) → IsMade c → (id : ℕ) (rows : List EntryRow) → rows ≡ access_of c kind.Collection id → AllByRecursion (λ e. IsTrue (is_given e.level)) rows
all_given c made id rows is =
    let P : List EntryRow → Type 0 = λ es. AllByRecursion (λ (e : EntryRow). IsTrue (is_given e.level)) es in
    subst P (sym is) (all_from_in (λ (e : EntryRow). IsTrue (is_given e.level)) (access_of c kind.Collection id) (λ x here.
    let stands : EntryStands c x = in_from_all (EntryStands c) c.entries (sound_of c made).tied.entries x (in_from_filter (λ (e : EntryRow). same_item e.kind e.id kind.Collection id) c.entries x here).0 in
    (and_parts (gives_access x.kind) (is_given x.level) stands.0).1))

find-and : {X : Type 0} (p q : X → Bool) (xs : List X) → find (λ x. p x && q x) xs ≡ find q (filter p xs)
find-and p q [] = refl
find-and p q (x ∷ xs) =
    elim (p x) as (λ b. cond (b && q x) (Some x) (find (λ y. p y && q y) xs) ≡ find q (cond b (x ∷ filter p xs) (filter p xs))) [
      | true ↦ ap (λ o. cond (q x) (Some x) o) (find-and p q xs)
      | false ↦ find-and p q xs
    ]

-- ---- an item that is not there is given nothing

module _ (c : Cat) (s : IsSound c) (p : Path) (free : IsFree c p) where
  not_at : (k : ItemKind) (id : ℕ) → gives_access k ≡ true → item_there c k id ≡ true → item_place c (collection_path c) k id ≡ p → ⊥
  not_at kind.Object id gives there place =
      let at : object_at c p ≡ Some id = (tree_of c s).objects_found id p (item_at c s kind.Object id gives there ∙ ap Some place) in
      let none = free.no_object in
      cc
  not_at kind.Collection id gives there place =
      let at : collection_at c p ≡ Some id = (tree_of c s).collections_found id p (item_at c s kind.Collection id gives there ∙ ap Some place) in
      let none = free.no_collection in
      cc
  not_at kind.Resource id gives there place = absurd cc
  not_at kind.User id gives there place = absurd cc

  pub empty_access : (n : Text) → get (grid_of c).access (p, n) ≡ None
  empty_access n = get-rows access_cmp_total (key_of c) (λ (e : EntryRow). e.level) c.entries (p, n) ∙ by (find (λ x. eq_by_cmp access_cmp (key_of c x) (p, n)) c.entries) refl
    where
      by : (o : Option EntryRow) → find (λ x. eq_by_cmp access_cmp (key_of c x) (p, n)) c.entries ≡ o → option_map (λ (e : EntryRow). e.level) o ≡ None
      by None is = refl
      by (Some x) is =
          let found = in_from_find (λ y. eq_by_cmp access_cmp (key_of c y) (p, n)) c.entries x is in
          let stands : EntryStands c x = in_from_all (EntryStands c) c.entries s.tied.entries x found.0 in
          let keys = and_parts (same_path (item_place c (collection_path c) x.kind x.id) p) (same_text (user_name c x.user) n) (sym (eq-access (item_place c (collection_path c) x.kind x.id) p (user_name c x.user) n) ∙ found.1) in
          absurd (not_at x.kind x.id (and_parts (gives_access x.kind) (is_given x.level) stands.0).0 stands.1 ((same_path-Decides (item_place c (collection_path c) x.kind x.id) p).0 keys.0))

-- ---- what a collection hands on

module _ (c : Cat) (s : IsSound c) (cid : ℕ) (above : Path) (at : collection_at c above ≡ Some cid) where
  pub hands-inherits : hands_on c cid ≡ inherits (grid_of c) above
  hands-inherits =
      let row = row_there (λ (r : CollectionRow). r.id) c.collections cid (at_of c cid above at).there in
      ap (λ (o : Option CollectionRow). unwrap_or (option_map (λ r. r.inherit) o) false) row.3
      ∙ sym (ap (λ (o : Option Bool). unwrap_or o false) (get-collection_at c s above cid row.0 at row.3))

  collection_place_is : item_place c (collection_path c) kind.Collection cid ≡ above
  collection_place_is = place_is c cid above (at_of c cid above at).path

  -- a row is of the collection where its place is
  its_rows : (x : EntryRow) → IsIn c.entries x → same_path (item_place c (collection_path c) x.kind x.id) above ≡ same_item x.kind x.id kind.Collection cid
  its_rows x here = both_ways (same_path (item_place c (collection_path c) x.kind x.id) above) (same_item x.kind x.id kind.Collection cid)
      (λ e. let items = items_apart c s x.kind kind.Collection x.id cid (and_parts (gives_access x.kind) (is_given x.level) stands.0).0 refl stands.1 (at_of c cid above at).there
      ((same_path-Decides (item_place c (collection_path c) x.kind x.id) above).0 e ∙ sym collection_place_is) in
      and_from (item_number x.kind == 2) (x.id == cid) (eq-eqb (item_number x.kind) 2 (ap item_number items.0)) (eq-eqb x.id cid items.1))
      (λ e. let parts = and_parts (item_number x.kind == 2) (x.id == cid) e in
      let kinds = kind_numbered x.kind kind.Collection (eqb-true (item_number x.kind) 2 parts.0) in
      let ids = eqb-true x.id cid parts.1 in
      (same_path-Decides (item_place c (collection_path c) x.kind x.id) above).1 ((λ i. item_place c (collection_path c) (kinds i) (ids i)) ∙ collection_place_is))
    where
      stands : EntryStands c x
      stands = in_from_all (EntryStands c) c.entries s.tied.entries x here

  level-access : (p : Path) (n : Text) → level_for p (user_name c) (access_of c kind.Collection cid) n ≡ get (grid_of c).access (above, n)
  level-access p n =
      sym (get-rows access_cmp_total (key_of c) (λ (e : EntryRow). e.level) c.entries (above, n)
      ∙ ap (option_map (λ (e : EntryRow). e.level)) (find-congr (λ x. eq_by_cmp access_cmp (key_of c x) (above, n)) (λ x. same_item x.kind x.id kind.Collection cid && same_text (user_name c x.user) n) c.entries
      (λ x here. eq-access (item_place c (collection_path c) x.kind x.id) above (user_name c x.user) n ∙ ap (λ b. b && same_text (user_name c x.user) n) (its_rows x here))
      ∙ find-and (λ (x : EntryRow). same_item x.kind x.id kind.Collection cid) (λ x. same_text (user_name c x.user) n) c.entries))

  -- the rows that it hands on
  pub record Handed (rows : List EntryRow) (hands : Bool) : Type 0 where
    pub table : IsTable entry_cmp (λ _. true) rows
    pub from : (x : EntryRow) → IsIn rows x → IsIn c.entries x × (x.kind ≡ kind.Collection) × (x.id ≡ cid)
    pub levels : (p : Path) (n : Text) → level_for p (user_name c) rows n ≡ cond hands (get (grid_of c).access (above, n)) None

  handed : (hands : Bool) → Handed (elim hands as (λ _. List EntryRow) [ true ↦ access_of c kind.Collection cid | false ↦ [] ]) hands
  handed true = record {
    table = IsTable-filter entry_cmp (λ _. true) (λ e. same_item e.kind e.id kind.Collection cid) c.entries s.cat.entries;
    from = λ x here.
        let its = in_from_filter (λ (e : EntryRow). same_item e.kind e.id kind.Collection cid) c.entries x here in
        let parts = and_parts (item_number x.kind == 2) (x.id == cid) its.1 in
        (its.0, kind_numbered x.kind kind.Collection (eqb-true (item_number x.kind) 2 parts.0), eqb-true x.id cid parts.1);
    levels = level-access;
  }
  handed false = record { table = IsTable-none entry_cmp (λ _. true) [] refl; from = λ x here. absurd here; levels = λ p n. refl }

  pub handed_is : Handed (handed_rows c cid) (hands_on c cid)
  handed_is = handed (hands_on c cid)

-- ---- what the changes are

module _ (k : ItemKind) (id user : ℕ) where
  abbrev own : EntryRow
  own = record { kind = k; id = id; user = user; level = Own }

  abbrev at_new : EntryRow → EntryRow
  at_new e = record e { kind = k; id = id }

  -- the entries of the new item, by those that are handed on to others
  abbrev pub rows_of : List EntryRow → List EntryRow
  rows_of xs = map at_new xs ++ own ∷ []

  deltas_of : (xs : List EntryRow) → handed_to k id xs ++ delta.Entry own ∷ [] ≡ map (λ e. delta.Entry e) (rows_of xs)
  deltas_of [] = refl
  deltas_of (x ∷ xs) = ap (λ ds. delta.Entry (at_new x) ∷ ds) (deltas_of xs)

  -- each of them is one that is handed on, or the maker's own
  in_rows_of : (xs : List EntryRow) (x : EntryRow) → IsIn (rows_of xs) x → ((z : EntryRow) × IsIn xs z × (at_new z ≡ x)) ⊎ (own ≡ x)
  in_rows_of [] x (inl is) = inr is
  in_rows_of [] x (inr none) = absurd none
  in_rows_of (z ∷ xs) x (inl is) = inl (z, inl refl, is)
  in_rows_of (z ∷ xs) x (inr later) = elim (in_rows_of xs x later) [ inl its ↦ inl (its.0, inr its.1, its.2) | inr is ↦ inr is ]

  tied_users : (x y : EntryRow) → entry_cmp x y ≡ Equal → (x.kind ≡ y.kind) × (x.id ≡ y.id) × (x.user ≡ y.user)
  tied_users x y e =
      let first = then_equal (nat_cmp (item_number x.kind) (item_number y.kind)) (ordering_then (nat_cmp x.id y.id) (nat_cmp x.user y.user)) e in
      let rest = then_equal (nat_cmp x.id y.id) (nat_cmp x.user y.user) first.1 in
      (kind_numbered x.kind y.kind (same_number (item_number x.kind) (item_number y.kind) first.0), same_number x.id y.id rest.0, same_number x.user y.user rest.1)

  distinct_rows : (named : ℕ → Text) (xs : List EntryRow) → Apart (λ (e : EntryRow). named e.user) xs → ((x : EntryRow) → IsIn xs x → x.user ≡ user → ⊥) → Distinct (rows_of xs)
  distinct_rows named [] apart others = (λ x none. absurd none, tt)
  distinct_rows named (e ∷ xs) apart others = (
    λ x later tied. elim (in_rows_of xs x later) [
      | inl z ↦ apart.0 z.0 z.1 (ap named (ap (λ (y : EntryRow). y.user) z.2 ∙ (tied_users x (at_new e) tied).2))
      | inr is ↦ others e (inl refl) (sym (tied_users x (at_new e) tied).2 ∙ ap (λ (y : EntryRow). y.user) (sym is))
    ],
    distinct_rows named xs apart.1 (λ x here. others x (inr here)),
  )

-- the catalogue has the new item at the path, and else the same users and access
pub record HasNew (c mid : Cat) (k : ItemKind) (id : ℕ) (p : Path) : Type 0 where
  pub sound : IsSound mid
  pub gives : gives_access k ≡ true
  pub there : item_there mid k id ≡ true
  pub place : item_place mid (collection_path mid) k id ≡ p
  pub users : mid.users ≡ c.users
  pub entries : mid.entries ≡ c.entries
  pub access : (grid_of mid).access ≡ (grid_of c).access
  pub fresh : item_there c k id ≡ false

-- what the changes make of it
pub record GivesNew (c mid : Cat) (access : Access) (deltas : List Delta) : Type 0 where
  pub rows : List EntryRow
  pub applied : apply_all mid deltas ≡ Ok (with_entries mid rows)
  pub grid : grid_of (with_entries mid rows) ≡ record (grid_of mid) { access = access }
  pub count : length rows ≡ length c.entries + length deltas

module _ (c : Cat) (made : IsMade c) (user cid : ℕ) (known : has_user c user ≡ true) (above p : Path) (at : collection_at c above ≡ Some cid) (none : is_taken (grid_of c) p ≡ false) where
  s : IsSound c
  s = sound_of c made

  abbrev others : List EntryRow
  others = filter (λ e. not (e.user == user)) (handed_rows c cid)

  its : Handed c (sound_of c made) cid above at (handed_rows c cid) (hands_on c cid)
  its = handed_is c (sound_of c made) cid above at

  other_user : (x : EntryRow) → IsIn others x → x.user ≡ user → ⊥
  other_user x here is =
      let kept : not (x.user == user) ≡ true = (in_from_filter (λ (e : EntryRow). not (e.user == user)) (handed_rows c cid) x here).1 in
      let same : (x.user == user) ≡ true = eq-eqb x.user user is in
      cc

  its_row : (x : EntryRow) → IsIn others x → IsIn c.entries x × (x.kind ≡ kind.Collection) × (x.id ≡ cid)
  its_row x here = its.from x (in_from_filter (λ (e : EntryRow). not (e.user == user)) (handed_rows c cid) x here).0

  stands_in : (x : EntryRow) → IsIn others x → EntryStands c x
  stands_in x here = in_from_all (EntryStands c) c.entries (sound_of c made).tied.entries x (its_row x here).0

  apart : Apart (λ (e : EntryRow). user_name c e.user) others
  apart = apart_in_order (λ (e : EntryRow). user_name c e.user) entry_cmp others (IsTable-filter entry_cmp (λ _. true) (λ e. not (e.user == user)) (handed_rows c cid) its.table).ordered (λ x y here there same.
      let a = its_row x here in
      let b = its_row y there in
      let users = user_names_apart c (sound_of c made) y.user x.user (stands_in y there).2 (stands_in x here).2 same in
      one_entry c (sound_of c made) x y a.0 b.0 (λ i. (item_place c (collection_path c) ((b.1 ∙ sym a.1) i) ((b.2 ∙ sym a.2) i), user_name c (users i))))

  -- one name after another the access is that of the grid with the new item
  access-same : put (puts p (user_name c) (grid_of c).access others) (p, user_name c user) Own ≡ with_new_item (grid_of c) (user_name c user) above p
  access-same = same_map access_cmp_total access_cmp-IsAntisymmetric (put (puts p (user_name c) (grid_of c).access others) (p, user_name c user) Own) (with_new_item (grid_of c) (user_name c user) above p) (λ key.
      get-put access_cmp_total (puts p (user_name c) (grid_of c).access others) (p, user_name c user) Own key
      ∙ ap (λ b. cond b (Some Own) (get (puts p (user_name c) (grid_of c).access others) key)) (eq-access key.0 p key.1 (user_name c user))
      ∙ ap (λ v. cond (same_path key.0 p && same_text key.1 (user_name c user)) (Some Own) v) (get-puts p (user_name c) others apart (grid_of c).access key.0 key.1)
      ∙ nested (same_path key.0 p) (same_text key.1 (user_name c user)) (Some Own) (or_else (level_for p (user_name c) others key.1) (get (grid_of c).access key)) (get (grid_of c).access key)
      ∙ by key.0 key.1 (same_path key.0 p) (same_text key.1 (user_name c user)) refl refl
      ∙ sym (get-new_item (grid_of c) (user_name c user) above p (empty_access c (sound_of c made) p (free-not_taken c made p none)) key.0 key.1))
    where
      no_more : {X : Type 0} (v w : Option X) → w ≡ None → or_else v w ≡ v
      no_more (Some x) w e = refl
      no_more None w e = e

      by : (q : Path) (n : Text) (b d : Bool) → same_path q p ≡ b → same_text n (user_name c user) ≡ d
          → cond b (cond d (Some Own) (or_else (level_for p (user_name c) others n) (get (grid_of c).access (q, n)))) (get (grid_of c).access (q, n))
          ≡ cond b (cond d (Some Own) (cond (inherits (grid_of c) above) (get (grid_of c).access (above, n)) None)) (get (grid_of c).access (q, n))
      by q n false d b_is d_is = refl
      by q n true true b_is d_is = refl
      by q n true false b_is d_is =
          no_more (level_for p (user_name c) others n) (get (grid_of c).access (q, n))
          (ap (λ (x : Path). get (grid_of c).access (x, n)) ((same_path-Decides q p).0 b_is) ∙ empty_access c (sound_of c made) p (free-not_taken c made p none) n)
          ∙ ap (option_map (λ (e : EntryRow). e.level)) (find-filter (λ (e : EntryRow). same_text (user_name c e.user) n) (λ e. not (e.user == user)) (handed_rows c cid) (λ x here dropped.
          other_text (user_name c x.user) n (λ same. let mine : x.user ≡ user = it_is x.user user dropped in
          let wrong : same_text n (user_name c user) ≡ true = (same_text-Decides n (user_name c user)).1 (sym same ∙ ap (user_name c) mine) in cc)))
          ∙ its.levels p n ∙ ap (λ h. cond h (get (grid_of c).access (above, n)) None) (hands-inherits c (sound_of c made) cid above at)
        where
          it_is : (a b : ℕ) → not (a == b) ≡ false → a ≡ b
          it_is a b e = eqb-true a b (turned (a == b) e)
            where
              turned : (t : Bool) → not t ≡ false → t ≡ true
              turned true h = refl
              turned false h = absurd cc

  module _ (mid : Cat) (k : ItemKind) (id : ℕ) (new : HasNew c mid k id p) where
    abbrev es : List EntryRow
    es = rows_of k id user others

    user_there : (u : ℕ) → has_user c u ≡ true → has_user mid u ≡ true
    user_there u h = ap (λ (rows : List UserRow). has_user (record c { users = rows }) u) new.users ∙ h

    fits : (x : EntryRow) → IsIn es x → entry_fits mid x ≡ true
    fits x here = elim (in_rows_of k id user others x here) [
      | inl z ↦ subst (λ (y : EntryRow). entry_fits mid y ≡ true) z.2
          (and_from (gives_access k && is_given z.0.level && item_there mid k id) (has_user mid z.0.user) (and_from (gives_access k && is_given z.0.level) (item_there mid k id)
          (and_from (gives_access k) (is_given z.0.level) new.gives (and_parts (gives_access z.0.kind) (is_given z.0.level) (stands_in z.0 z.1).0).1) new.there) (user_there z.0.user (stands_in z.0 z.1).2))
      | inr is ↦ subst (λ (y : EntryRow). entry_fits mid y ≡ true) is
          (and_from (gives_access k && true && item_there mid k id) (has_user mid user) (and_from (gives_access k && true) (item_there mid k id) (and_from (gives_access k) true new.gives refl) new.there) (user_there user known))
    ]

    of_new : (x : EntryRow) → IsIn es x → (x.kind ≡ k) × (x.id ≡ id)
    of_new x here = elim (in_rows_of k id user others x here) [
      | inl z ↦ (ap (λ (y : EntryRow). y.kind) (sym z.2), ap (λ (y : EntryRow). y.id) (sym z.2))
      | inr is ↦ (ap (λ (y : EntryRow). y.kind) (sym is), ap (λ (y : EntryRow). y.id) (sym is))
    ]

    not_old : (x y : EntryRow) → IsIn es x → IsIn mid.entries y → entry_cmp x y ≡ Equal → ⊥
    not_old x y here there tied =
        let P : List EntryRow → Type 0 = λ rows. IsIn rows y in
        let old : IsIn c.entries y = subst P new.entries there in
        let stands : EntryStands c y = in_from_all (EntryStands c) c.entries (sound_of c made).tied.entries y old in
        let same = tied_users k id user x y tied in
        let of = of_new x here in
        let wrong : item_there c k id ≡ true = (λ i. item_there c ((sym of.0 ∙ same.0) i) ((sym of.1 ∙ same.1) i)) ∙ stands.1 in
        let fresh = new.fresh in
        cc

    names-same : (u : ℕ) → user_name mid u ≡ user_name c u
    names-same u = ap (λ (rows : List UserRow). user_name (record c { users = rows }) u) new.users

    pub gives_new : GivesNew c mid (with_new_item (grid_of c) (user_name c user) above p) (new_entries c user cid k id)
    gives_new = record {
      rows = put_all mid.entries es;
      applied = ap (apply_all mid) (deltas_of k id user others) ∙ applied-put_all mid es mid.entries (all_from_in (λ e. entry_fits mid e ≡ true) es fits);
      grid = grid-put_all mid k id p new.place es mid.entries new.sound (all_from_in (λ e. entry_fits mid e ≡ true) es fits) (all_from_in (λ e. (e.kind ≡ k) × (e.id ≡ id)) es of_new)
          ∙ ap (λ (a : Access). record (grid_of mid) { access = a }) (
          (λ i. puts p (λ u. names-same u i) (new.access i) es) ∙ puts-then p (user_name c) (map (λ (e : EntryRow). record e { kind = k; id = id }) others) (record { kind = k; id = id; user = user; level = Own }) (grid_of c).access
          ∙ ap (λ (a : Access). put a (p, user_name c user) Own) (puts-handed p (user_name c) k id others (grid_of c).access) ∙ access-same);
      count = length-put_all es mid.entries not_old (distinct_rows k id user (user_name c) others apart other_user)
          ∙ (λ i. length (new.entries i) + length es)
          ∙ ap (λ n. length c.entries + n) (sym (ap length (deltas_of k id user others) ∙ length-map es (λ e. delta.Entry e)));
    }
