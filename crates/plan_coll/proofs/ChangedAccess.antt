-- What the changes that give a level or take one away make of the grid, and what the row of the operation comes to then.
use Rattle.std.proofs.Common.{◌≡◌, ◌≢◌, ◌⊎◌, inl, inr, ⊎_elim, ℕ, ◌+◌, ◌-◌, Bool, true, false, cond, List, [], ◌∷◌, length, Option, Some, None, eqb-true, eq-eqb, Ok, Err, IsTrue, refl, sym, ap, ◌∙◌}
use Rattle.std.specs.Prelude.{filter, not, is_some, ⊤}
use Rattle.std.specs.List.{list_all}
use Rattle.std.proofs.lemmas.Bool.{and_from}
use Rattle.grid_model.specs.Maps.{get, has, put, remove}
use Rattle.grid_model.specs.MapLists.{size}
use Rattle.grid_model.specs.Names.{Text, Path}
use Rattle.grid_model.specs.Grid.{Grid}
use Rattle.grid_model.specs.Refusing.{Or, ◌>>=◌, unless}
use Rattle.grid_model.specs.Bounds.{within}
use Rattle.grid_model.specs.Deeds.{Act, changes}
use Rattle.grid_model.specs.Levels.{may, level_rank}
use Rattle.grid_model.specs.Rows.{Cat, entry_cmp, item_there, with_row, kind_of, id_of}
use Rattle.grid_model.specs.RowGrids.{grid_of, user_name}
use Rattle.grid_model.specs.Applying.{IsMade, apply_all, where_fits, gives_access, is_given, is_entry, has_entry, entry_fits}
use Rattle.grid_model.specs.Operations.Common.{Access, is_taken}
use Rattle.grid_model.specs.Operations.Access.{with_entry}
use Rattle.grid_model.specs.Operations.Table.{chmod, row}
use Rattle.grid_model.specs.declared.deltas.Delta.{Delta}
use Rattle.grid_model.specs.declared.deltas.Delta.TheVariants as delta
use Rattle.grid_model.specs.declared.deltas.EntryRow.{EntryRow}
use Rattle.grid_model.specs.declared.deltas.Item.{Item}
use Rattle.grid_model.specs.declared.grid.ItemKind.{ItemKind}
use Rattle.grid_model.specs.declared.grid.Level.{Level}
use Rattle.grid_model.specs.declared.grid.Level.TheVariants.{Null, Read, Write, Own}
use Rattle.grid_model.specs.declared.refusal.Refusal.{Refusal}
use Rattle.grid_model.specs.declared.refusal.Refusal.TheVariants.{NoObject, NoAccess, NoUser}
use Rattle.grid_model.specs.declared.refusal.What.TheVariants as what
use Rattle.grid_journal.specs.Journal.{can_be_kept}
use Rattle.tables_laws.proofs.GridOrders.{access_cmp_total, access_cmp-IsAntisymmetric}
use Rattle.tables_laws.proofs.Entries.{access_key, grid-with_entry, grid-without_entry}
use Rattle.tables_laws.proofs.Sound.{IsSound}
use Rattle.grid_access.proofs.MapEntries.{found-any}
use Rattle.plan_base.specs.Found.{IsAt, IsFree, entry_level}
use Rattle.plan_base.specs.Plans.{Changes}
use Rattle.plan_base.proofs.AtPaths.{sound_of, not_taken-free, taken-at, Placed, placed}
use Rattle.plan_base.proofs.MapSizes.{size-put, size-remove, remove-none}
use Rattle.plan_base.proofs.Mere.{is_mere, plan_of}
use Rattle.plan_base.proofs.NamedUsers.{id_named, has-users, IsNamed, is_named, get-access}
use Rattle.plan_base.proofs.OtherMaps.{put-same, put-other, remove-there}
use Rattle.plan_base.proofs.Sizes.{size-access}
use Rattle.plan_coll.specs.AccessChanges.{entries_then, has_level, access_deltas}

-- ---- the row of the operation, test by test

abbrev tests : Bool → Bool → Bool → Or ⊤ → Grid → Or Act
tests there allowed known room g = unless there NoObject >>= (λ _. unless allowed NoAccess >>= (λ _. unless known NoUser >>= (λ _. room >>= (λ _. Ok (changes g)))))

module _ (g : Grid) (user : Text) (level : Level) (name : Text) (p : Path) where
  abbrev after_grid : Grid
  after_grid = record g { access = with_entry g.access (p, name) level }

  abbrev room_is : Or ⊤
  room_is = within what.Access (size (with_entry g.access (p, name) level))

  pub nothing : is_taken g p ≡ false → row g user (chmod level name p) ≡ Err NoObject
  nothing none i = tests (none i) (may g user p Own) (has g.users name) room_is after_grid

  pub may_not : is_taken g p ≡ true → may g user p Own ≡ false → row g user (chmod level name p) ≡ Err NoAccess
  may_not there refused i = tests (there i) (refused i) (has g.users name) room_is after_grid

  pub nobody : is_taken g p ≡ true → may g user p Own ≡ true → has g.users name ≡ false → row g user (chmod level name p) ≡ Err NoUser
  nobody there allowed none i = tests (there i) (allowed i) (none i) room_is after_grid

  pub to_room : is_taken g p ≡ true → may g user p Own ≡ true → has g.users name ≡ true → (room : Or ⊤) → room ≡ room_is
      → row g user (chmod level name p) ≡ (room >>= (λ _. Ok (changes after_grid)))
  to_room there allowed known room is i = tests (there i) (allowed i) (known i) (sym is i) after_grid

-- ---- what the changes make

-- the changes make of the access what is said, and of the grid another one where there are any
pub record Gives (c : Cat) (access : Access) (deltas : List Delta) : Type 0 where
  pub after : Cat
  pub applied : apply_all c deltas ≡ Ok after
  pub grid : grid_of after ≡ record (grid_of c) { access = access }
  pub mere : list_all is_mere deltas ≡ true
  pub still : (deltas ≡ []) ⊎ (grid_of after ≢ grid_of c)

-- the one of which an entry is has its level
level_same : (a b : Level) → level_rank a ≡ level_rank b → a ≡ b
level_same Null Null e = refl
level_same Null Read e = absurd cc
level_same Null Write e = absurd cc
level_same Null Own e = absurd cc
level_same Read Null e = absurd cc
level_same Read Read e = refl
level_same Read Write e = absurd cc
level_same Read Own e = absurd cc
level_same Write Null e = absurd cc
level_same Write Read e = absurd cc
level_same Write Write e = refl
level_same Write Own e = absurd cc
level_same Own Null e = absurd cc
level_same Own Read e = absurd cc
level_same Own Write e = absurd cc
level_same Own Own e = refl

has_level-is : (had : Option Level) (level : Level) → has_level had level ≡ true → had ≡ Some level
has_level-is None level e = absurd cc
has_level-is (Some a) level e = ap Some (level_same a level (eqb-true (level_rank a) (level_rank level) e))

is-has_level : (had : Option Level) (level : Level) → had ≡ Some level → has_level had level ≡ true
is-has_level had level is = ap (λ (o : Option Level). has_level o level) is ∙ eq-eqb (level_rank level) (level_rank level) refl

module _ (c : Cat) (s : IsSound c) (k : ItemKind) (id : ℕ) (p : Path) (name : Text) (other : ℕ) where
  module _ (gives : gives_access k ≡ true) (there : item_there c k id ≡ true) (named : IsNamed c name other) (same : access_key c k id other ≡ (p, name)) (had : Option Level) (is : had ≡ entry_level c k id other) where
    abbrev entry : Level → EntryRow
    entry level = record { kind = k; id = id; user = other; level = level }

    -- what the item gives the name
    had_is : get (grid_of c).access (p, name) ≡ had
    had_is = ap (get (grid_of c).access) (sym same) ∙ get-access c s k id other gives there named.known ∙ sym is

    -- ---- a level

    module _ (level : Level) (given : is_given level ≡ true) where
      abbrev with_it : Cat
      with_it = record c { entries = with_row entry_cmp c.entries (entry level) }

      fits : entry_fits c (entry level) ≡ true
      fits = and_from _ _ (and_from _ _ (and_from (gives_access k) (is_given level) gives given) there) named.known

      grid_with : grid_of with_it ≡ record (grid_of c) { access = put (grid_of c).access (p, name) level }
      grid_with = grid-with_entry c s (entry level) fits ∙ ap (λ (key : Path × Text). record (grid_of c) { access = put (grid_of c).access key level }) same

      put_level : (b : Bool) → has_level had level ≡ b → Gives c (put (grid_of c).access (p, name) level) (cond b [] (delta.Entry (entry level) ∷ []))
      put_level true has = record {
        after = c;
        applied = refl;
        grid = ap (λ (a : Access). record (grid_of c) { access = a }) (sym (put-same access_cmp_total access_cmp-IsAntisymmetric (grid_of c).access (p, name) level (had_is ∙ has_level-is had level has)));
        mere = refl;
        still = inl refl;
      }
      put_level false has = record {
        after = with_it;
        applied = ap (λ b. elim (where_fits b 13 with_it) [ Ok next ↦ apply_all next [] | Err cause ↦ Err cause ]) fits;
        grid = grid_with;
        mere = refl;
        still = inr (λ e. put-other access_cmp_total access_cmp-IsAntisymmetric (grid_of c).access (p, name) level
            (λ at. let wrong : true ≡ false = sym (is-has_level had level (sym had_is ∙ at)) ∙ has in cc) (ap (λ (g : Grid). g.access) (sym grid_with ∙ e)));
      }

    -- ---- none

    abbrev dropped : Cat
    dropped = record c { entries = filter (λ x. not (is_entry k id other x)) c.entries }

    had_entry : has_entry c k id other ≡ is_some had
    had_entry = sym (found-any (is_entry k id other) (is_entry k id other) (λ (e : EntryRow). e.level) c.entries (λ x here. refl)) ∙ ap is_some (sym is)

    grid_dropped : grid_of dropped ≡ record (grid_of c) { access = remove (grid_of c).access (p, name) }
    grid_dropped = grid-without_entry c s k id other gives there named.known ∙ ap (λ (key : Path × Text). record (grid_of c) { access = remove (grid_of c).access key }) same

    gives_none : (o : Option Level) → had ≡ o → Gives c (remove (grid_of c).access (p, name)) (access_deltas k id other Null o)
    gives_none None none = record {
      after = c;
      applied = refl;
      grid = ap (λ (a : Access). record (grid_of c) { access = a })
          (sym (remove-none access_cmp_total access_cmp-IsAntisymmetric (grid_of c).access (p, name) (sym (ap is_some (had_is ∙ none)))));
      mere = refl;
      still = inl refl;
    }
    gives_none (Some level) some = record {
      after = dropped;
      applied = ap (λ b. elim (where_fits b 14 dropped) [ Ok next ↦ apply_all next [] | Err cause ↦ Err cause ]) (had_entry ∙ ap is_some some);
      grid = grid_dropped;
      mere = refl;
      still = inr (λ e. remove-there access_cmp_total access_cmp-IsAntisymmetric (grid_of c).access (p, name) (ap is_some (had_is ∙ some)) (ap (λ (g : Grid). g.access) (sym grid_dropped ∙ e)));
    }

    pub gives_level : (level : Level) → Gives c (with_entry (grid_of c).access (p, name) level) (access_deltas k id other level had)
    gives_level Null = gives_none had refl
    gives_level Read = put_level Read refl (has_level had Read) refl
    gives_level Write = put_level Write refl (has_level had Write) refl
    gives_level Own = put_level Own refl (has_level had Own) refl

    -- ---- how many entries there are then

    put_size : (level : Level) → size (put (grid_of c).access (p, name) level) ≡ length c.entries + cond (is_some had) 0 1
    put_size level = size-put access_cmp_total (grid_of c).access (p, name) level (is_some had) (ap is_some (sym had_is)) ∙ ap (λ n. n + cond (is_some had) 0 1) (size-access c s)

    pub size_then : (level : Level) → size (with_entry (grid_of c).access (p, name) level) ≡ entries_then (length c.entries) level (is_some had)
    size_then Null = size-remove access_cmp_total (grid_of c).access (p, name) (is_some had) (ap is_some (sym had_is)) ∙ ap (λ n. n - cond (is_some had) 1 0) (size-access c s)
    size_then Read = put_size Read
    size_then Write = put_size Write
    size_then Own = put_size Own

-- ---- the plan

module _ (c : Cat) (made : IsMade c) (user : ℕ) (level : Level) (name : Text) (p : Path) where
  abbrev u : Text
  u = user_name c user

  pub refused_nothing : IsFree c p → row (grid_of c) u (chmod level name p) ≡ Err NoObject
  refused_nothing free = nothing (grid_of c) u level name p (not_taken-free c made p free)

  module _ (i : Item) (at : IsAt c p i) where
    pub refused_level : may (grid_of c) u p Own ≡ false → row (grid_of c) u (chmod level name p) ≡ Err NoAccess
    refused_level refused = may_not (grid_of c) u level name p (taken-at c made p i at) refused

    module _ (allowed : may (grid_of c) u p Own ≡ true) where
      pub refused_name : None ≡ id_named c name → row (grid_of c) u (chmod level name p) ≡ Err NoUser
      refused_name none = nobody (grid_of c) u level name p (taken-at c made p i at) allowed (has-users c name ∙ sym (ap is_some none))

      module _ (other : ℕ) (found : Some other ≡ id_named c name) (had : Option Level) (had_as : had ≡ entry_level c (kind_of i) (id_of i) other) (some : Bool) (some_is : some ≡ is_some had) where
        its : Placed c p i
        its = placed c made p i at

        named : IsNamed c name other
        named = is_named c (sound_of c made) name other found

        same : access_key c (kind_of i) (id_of i) other ≡ (p, name)
        same = λ j. (its.place j, named.name_is j)

        to_changes : (room : Or ⊤) → room ≡ within what.Access (entries_then (length c.entries) level some)
            → row (grid_of c) u (chmod level name p) ≡ (room >>= (λ _. Ok (changes (after_grid (grid_of c) u level name p))))
        to_changes room is =
            to_room (grid_of c) u level name p (taken-at c made p i at) allowed (has-users c name ∙ sym (ap is_some found)) room
            (is ∙ ap (λ (b : Bool). within what.Access (entries_then (length c.entries) level b)) some_is
            ∙ ap (within what.Access) (sym (size_then c (sound_of c made) (kind_of i) (id_of i) p name other its.gives its.there named same had had_as level)))

        pub refused_room : (refusal : Refusal) → Err refusal ≡ within what.Access (entries_then (length c.entries) level some) → row (grid_of c) u (chmod level name p) ≡ Err refusal
        refused_room refusal is = to_changes (Err refusal) is

        pub planned : (x : ⊤) → Ok x ≡ within what.Access (entries_then (length c.entries) level some) → (deltas : List Delta) → deltas ≡ access_deltas (kind_of i) (id_of i) other level had
            → IsTrue (list_all can_be_kept deltas) → Changes c u (chmod level name p) deltas
        planned x is deltas deltas_are spelled =
            let g = gives_level c (sound_of c made) (kind_of i) (id_of i) p name other its.gives its.there named same had had_as level in
            plan_of c g.after u (chmod level name p) deltas (ap (list_all is_mere) deltas_are ∙ g.mere) spelled (ap (apply_all c) deltas_are ∙ g.applied)
            (to_changes (Ok x) is ∙ ap (λ (h : Grid). Ok (changes h)) (sym g.grid)) (⊎_elim (λ none. inl (deltas_are ∙ none)) inr g.still)
