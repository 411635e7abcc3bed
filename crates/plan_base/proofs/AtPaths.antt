-- What is at a path, by what the look-ups tell.
use Rattle.std.proofs.Common.{◌≡◌, ◌==◌, ℕ, Bool, true, false, [], Option, Some, None, Ok, Err, refl, sym, ap, ◌∙◌, subst}
use Rattle.std.specs.Prelude.{find, option_map, unwrap_or, is_some, not, ◌&&◌, ◌||◌}
use Rattle.std.proofs.lemmas.Bool.{and_parts}
use Rattle.std.proofs.lemmas.Option.{same_Some}
use Rattle.grid_model.specs.Maps.{has}
use Rattle.grid_model.specs.Names.{Path, parent}
use Rattle.grid_model.specs.Refusing.{Or, ◌>>=◌, unless, there}
use Rattle.grid_model.specs.NewRows.{HasPaths}
use Rattle.grid_model.specs.Rows.{Cat, object, kind_of, id_of, item_there, has_user, has_collection}
use Rattle.grid_model.specs.RowPaths.{is_path_of, collection_path, object_path, collection_at, object_at}
use Rattle.grid_model.specs.RowGrids.{grid_of, object_place, item_place}
use Rattle.grid_model.specs.Applying.{IsMade, gives_access, is_user, is_group_kind}
use Rattle.grid_model.specs.Operations.Common.{is_taken, collection_above}
use Rattle.grid_model.specs.declared.deltas.Item.{Item}
use Rattle.grid_model.specs.declared.deltas.Item.TheVariants as item
use Rattle.grid_model.specs.declared.deltas.ObjectRow.{ObjectRow}
use Rattle.grid_model.specs.declared.refusal.Refusal.TheVariants.{NoCollection, Exists}
use Rattle.grid_model.proofs.NewCollections.{at_of, is_path_of-true}
use Rattle.tables_laws.proofs.Rows.{in_from_find, in_from_any, any_from_in, all_from_in}
use Rattle.tables_laws.proofs.Forest.{way_of}
use Rattle.tables_laws.proofs.Places.{place_is, object_found, object_placed, object_there}
use Rattle.tables_laws.proofs.LookUps.{has-collections, has-objects}
use Rattle.tables_laws.proofs.Sound.{IsSound, sound-made}
use Rattle.plan_base.specs.Found.{IsAt, IsFree, LiesIn}

pub sound_of : (c : Cat) → IsMade c → IsSound c
sound_of c made = sound-made made.0 c made.1

-- ---- whether something is there

module _ (c : Cat) (made : IsMade c) (p : Path) where
  is_there : (b d : Bool) → b ≡ is_some (collection_at c p) → d ≡ is_some (object_at c p) → is_taken (grid_of c) p ≡ (b || d)
  is_there b d b_is d_is =
      ap (λ x. x || has (grid_of c).objects p) (has-collections c (sound_of c made) p ∙ sym b_is) ∙ ap (λ x. b || x) (has-objects c (sound_of c made) p ∙ sym d_is)

  pub taken_first : (found : Option ℕ) (b : Bool) → found ≡ collection_at c p → b ≡ is_some found → b ≡ true → b ≡ is_taken (grid_of c) p
  taken_first found b is b_is so = so ∙ sym (is_there true (is_some (object_at c p)) (sym so ∙ b_is ∙ ap is_some is) refl)

  pub taken_then : (found other : Option ℕ) (b d : Bool) → found ≡ collection_at c p → b ≡ is_some found → b ≡ false → other ≡ object_at c p → d ≡ is_some other → d ≡ is_taken (grid_of c) p
  taken_then found other b d is b_is none also d_is = sym (is_there false d (sym none ∙ b_is ∙ ap is_some is) (d_is ∙ ap is_some also))

  -- nothing is there where it is not taken
  pub free-not_taken : is_taken (grid_of c) p ≡ false → IsFree c p
  free-not_taken none = by (collection_at c p) (object_at c p) refl refl (sym (is_there (is_some (collection_at c p)) (is_some (object_at c p)) refl refl) ∙ none)
    where
      by : (a b : Option ℕ) → collection_at c p ≡ a → object_at c p ≡ b → (is_some a || is_some b) ≡ false → IsFree c p
      by None None a_is b_is e = record { no_collection = a_is; no_object = b_is }
      by None (Some x) a_is b_is e = absurd cc
      by (Some x) b a_is b_is e = absurd cc

  pub not_taken-free : IsFree c p → is_taken (grid_of c) p ≡ false
  not_taken-free free = is_there false false (ap is_some (sym free.no_collection)) (ap is_some (sym free.no_object))

  pub taken-at : (i : Item) → IsAt c p i → is_taken (grid_of c) p ≡ true
  taken-at (item.Object id) at = is_there (is_some (collection_at c p)) true refl (ap is_some (sym at)) ∙ either (is_some (collection_at c p))
    where
      either : (b : Bool) → (b || true) ≡ true
      either true = refl
      either false = refl
  taken-at (item.Collection id) at = is_there true (is_some (object_at c p)) (ap is_some (sym at)) refl
  taken-at (item.Resource id) at = absurd at
  taken-at (item.User id) at = absurd at

-- ---- the collection above

module _ (c : Cat) (made : IsMade c) (p above : Path) (up : Some above ≡ parent p) where
  abbrev then_above : Option Path → (Path → Bool) → Or Path
  then_above o has = there o Exists >>= (λ x. unless (has x) NoCollection >>= (λ _. Ok x))

  abbrev checked : Bool → Or Path
  checked b = unless b NoCollection >>= (λ _. Ok above)

  above-checked : (b : Bool) → b ≡ is_some (collection_at c above) → collection_above (grid_of c) p ≡ checked b
  above-checked b is = ap (λ o. then_above o (has (grid_of c).collections)) (sym up) ∙ ap checked (has-collections c (sound_of c made) above ∙ sym is)

  pub above_none : None ≡ collection_at c above → collection_above (grid_of c) p ≡ Err NoCollection
  above_none none = above-checked false (ap is_some none)

  pub above_some : (id : ℕ) → Some id ≡ collection_at c above → LiesIn c p id
  above_some id some = record { above = above; parent_is = sym up; is_above = above-checked true (ap is_some some); at = sym some }

-- ---- what is at a path

pub record Placed (c : Cat) (p : Path) (i : Item) : Type 0 where
  pub gives : gives_access (kind_of i) ≡ true
  pub there : item_there c (kind_of i) (id_of i) ≡ true
  pub place : item_place c (collection_path c) (kind_of i) (id_of i) ≡ p

module _ (c : Cat) (made : IsMade c) (p : Path) where
  object_of_id : (id : ℕ) → object_at c p ≡ Some id → Placed c p (item.Object id)
  object_of_id id at = by (find (λ r. is_path_of (object_path c r) p) c.objects) refl at
    where
      by : (o : Option ObjectRow) → find (λ r. is_path_of (object_path c r) p) c.objects ≡ o → option_map (λ (r : ObjectRow). r.id) o ≡ Some id → Placed c p (item.Object id)
      by None is none = absurd cc
      by (Some x) is some =
          let same : x.id ≡ id = same_Some x.id id some in
          let found = in_from_find (λ r. is_path_of (object_path c r) p) c.objects x is in
          let own : object c id ≡ Some x = ap (object c) (sym same) ∙ object_found c (sound_of c made) x found.0 in
          let path : Some (object_place (collection_path c) x) ≡ Some p = sym (object_placed c (sound_of c made) x found.0) ∙ is_path_of-true (object_path c x) p found.1 in
          record {
            gives = refl;
            there = subst (λ i. item_there c (kind_of (item.Object i)) i ≡ true) same (object_there c (sound_of c made) x found.0);
            place = ap (λ (o : Option ObjectRow). unwrap_or (option_map (object_place (collection_path c)) o) []) own ∙ same_Some (object_place (collection_path c) x) p path;
          }

  pub placed : (i : Item) → IsAt c p i → Placed c p i
  placed (item.Object id) at = object_of_id id at
  placed (item.Collection id) at = let its = at_of c id p at in record { gives = refl; there = its.there; place = place_is c id p its.path }
  placed (item.Resource id) at = absurd at
  placed (item.User id) at = absurd at

-- ---- users, and collections with their paths

-- who is a user is there
pub user_known : (c : Cat) (id : ℕ) → is_user c id ≡ true → has_user c id ≡ true
user_known c id is =
    let found = in_from_any (λ u. (u.id == id) && not (is_group_kind u.kind)) c.users is in
    any_from_in (λ u. u.id == id) c.users found.0 found.1 (and_parts (found.0.id == id) (not (is_group_kind found.0.kind)) found.2).0

pub paths_of : (c : Cat) → IsMade c → HasPaths c
paths_of c made = record {
  collections = λ id there. ap is_some (way_of c (sound_of c made).forest id there).1;
  objects = all_from_in (λ o. has_collection c o.collection ≡ true) c.objects (sound_of c made).forest.housed;
}
