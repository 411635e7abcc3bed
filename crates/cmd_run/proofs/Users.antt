-- Users that are there stay, with their names, whatever changes are made.
use Rattle.std.proofs.Common.{◌≡◌, ◌==◌, ℕ, Bool, true, false, List, [], ◌∷◌, Ok, IsTrue, refl, sym, ap, ◌∙◌, subst, eq-eqb, eqb-true}
use Rattle.std.specs.Prelude.{not, ◌&&◌, ◌||◌, option_map, unwrap_or}
use Rattle.std.specs.List.{list_any}
use Rattle.std.proofs.lemmas.Bool.{and_parts}
use Rattle.grid_model.specs.Names.{same_text, is_name}
use Rattle.grid_model.specs.Rows.{Cat, with_row, user_cmp}
use Rattle.grid_model.specs.RowGrids.{user_name, grid_of}
use Rattle.grid_model.specs.Applying.{apply, apply_all, where_fits, user_fits, is_user, is_group_kind}
use Rattle.grid_model.specs.declared.deltas.Delta.{Delta}
use Rattle.grid_model.specs.declared.deltas.Delta.TheVariants as delta
use Rattle.grid_model.specs.declared.deltas.UserRow.{UserRow}
use Rattle.sess.specs.Places.{Places, sessions_of}
use Rattle.tables_laws.proofs.Rows.{IsIn, in_from_any, any_from_in, old_in_with_row}
use Rattle.tables_laws.proofs.Numbered.{put_other, same_number}
use Rattle.tables_laws.proofs.Sound.{fits_so, ok-same, after_first}
use Rattle.sess.proofs.PlacesLemmas.{sessions_of-names}
use Rattle.cmd_run.specs.Fits.{AreUsers, state_by}
use Rattle.grid_model.specs.Grid.{Grid}
use Rattle.grid_model.specs.RuleText.{Rule}
use Rattle.grid_model.specs.Sessions.{State, Sessions}

-- users of the one catalogue are there in the other, with their names
pub record KeepsUsers (c d : Cat) : Type 0 where
  pub there : (id : ℕ) → IsTrue (is_user c id) → IsTrue (is_user d id)
  pub names : (id : ℕ) → IsTrue (is_user c id) → user_name d id ≡ user_name c id

pub users_then : (c d e : Cat) → KeepsUsers c d → KeepsUsers d e → KeepsUsers c e
users_then c d e one two = record { there = λ id is. two.there id (one.there id is); names = λ id is. two.names id (one.there id is) ∙ one.names id is }

pub users_same : (c d : Cat) → d.users ≡ c.users → KeepsUsers c d
users_same c d same = record {
  there = λ id is. (let P : List UserRow → Type 0 = λ us. IsTrue (list_any (λ u. (u.id == id) && not (is_group_kind u.kind)) us) in subst P (sym same) is);
  names = λ id is. ap (λ (us : List UserRow). user_name (record c { users = us }) id) same;
}

module _ (c : Cat) (r : UserRow) (fits : user_fits c r ≡ true) where
  abbrev pub joined : Cat
  joined = record c { users = with_row user_cmp c.users r }

  free : not (list_any (λ u. (u.id == r.id) || same_text u.name r.name) c.users) ≡ true
  free = (and_parts (is_name r.name) (not (list_any (λ u. (u.id == r.id) || same_text u.name r.name) c.users)) fits).1

  or_left : (a b : Bool) → a ≡ true → (a || b) ≡ true
  or_left true b is = refl
  or_left false b is = absurd cc

  never_both : (b : Bool) → b ≡ true → not b ≡ true → ⊥
  never_both true is isnt = cc
  never_both false is isnt = cc

  -- the id of a row that is there is not the new one
  other : (u : UserRow) → IsIn c.users u → u.id ≡ r.id → ⊥
  other u here same =
      never_both (list_any (λ u. (u.id == r.id) || same_text u.name r.name) c.users)
      (any_from_in (λ u. (u.id == r.id) || same_text u.name r.name) c.users u here (or_left (u.id == r.id) (same_text u.name r.name) (eq-eqb u.id r.id same)))
      free

  users_joined : KeepsUsers c joined
  users_joined = record { there = there_still; names = names_still }
    where
      test : ℕ → UserRow → Bool
      test id u = (u.id == id) && not (is_group_kind u.kind)

      there_still : (id : ℕ) → IsTrue (is_user c id) → IsTrue (is_user joined id)
      there_still id is =
          let found = in_from_any (λ u. (u.id == id) && not (is_group_kind u.kind)) c.users is in
          any_from_in (λ u. (u.id == id) && not (is_group_kind u.kind)) joined.users found.0
          (old_in_with_row user_cmp c.users r found.0 found.1 (λ e. other found.0 found.1 (sym (same_number r.id found.0.id e)))) found.2

      names_still : (id : ℕ) → IsTrue (is_user c id) → user_name joined id ≡ user_name c id
      names_still id is =
          let found = in_from_any (λ u. (u.id == id) && not (is_group_kind u.kind)) c.users is in
          let same : found.0.id ≡ id = eqb-true found.0.id id (and_parts (found.0.id == id) (not (is_group_kind found.0.kind)) found.2).0 in
          ap (λ o. unwrap_or (option_map (λ (u : UserRow). u.name) o) [])
          (put_other (λ (u : UserRow). u.id) c.users r id (λ e. other found.0 found.1 (same ∙ e)))

-- where a change fits, what it makes keeps them
so : (b : Bool) (cause : ℕ) (c next d : Cat) → where_fits b cause next ≡ Ok d → next.users ≡ c.users → KeepsUsers c d
so b cause c next d e same = users_same c d (sym (ap (λ (x : Cat). x.users) (fits_so b cause next d e).1) ∙ same)

pub users_apply : (c d : Cat) (x : Delta) → apply c x ≡ Ok d → KeepsUsers c d
users_apply c d (delta.Zone name stores) e = so _ 1 c _ d e refl
users_apply c d (delta.User r) e =
    let f = fits_so (user_fits c r) 2 (record c { users = with_row user_cmp c.users r }) d e in subst (KeepsUsers c) f.1 (users_joined c r f.0)
users_apply c d (delta.Member m) e = so _ 3 c _ d e refl
users_apply c d (delta.NoMember m) e = so _ 4 c _ d e refl
users_apply c d (delta.Collection r) e = so _ 5 c _ d e refl
users_apply c d (delta.NoCollection id) e = so _ 6 c _ d e refl
users_apply c d (delta.Object r) e = so _ 7 c _ d e refl
users_apply c d (delta.NoObject id) e = so _ 8 c _ d e refl
users_apply c d (delta.Replica r) e = so _ 9 c _ d e refl
users_apply c d (delta.NoReplica of number) e = so _ 10 c _ d e refl
users_apply c d (delta.Triple t) e = so _ 11 c _ d e refl
users_apply c d (delta.NoTriple t) e = so _ 12 c _ d e refl
users_apply c d (delta.Entry x) e = so _ 13 c _ d e refl
users_apply c d (delta.NoEntry kind id name) e = so _ 14 c _ d e refl
users_apply c d (delta.Resource r) e = so _ 15 c _ d e refl
users_apply c d (delta.Rules text) e = users_same c d (sym (ap (λ (x : Cat). x.users) (ok-same _ d (apply c (delta.Rules text)) refl e)))
users_apply c d (delta.Orphan r) e = so _ 17 c _ d e refl
users_apply c d (delta.NoOrphan vault) e = so _ 18 c _ d e refl
users_apply c d (delta.Numbers n) e = so _ 19 c _ d e refl
users_apply c d (delta.Pending p) e = so _ 20 c _ d e refl
users_apply c d delta.NoPending e = so _ 21 c _ d e refl

pub users_apply_all : (deltas : List Delta) (c d : Cat) → apply_all c deltas ≡ Ok d → KeepsUsers c d
users_apply_all [] c d e = users_same c d (sym (ap (λ (x : Cat). x.users) (ok-same c d (apply_all c []) refl e)))
users_apply_all (x ∷ deltas) c d e =
    let step = after_first (apply c x) deltas d e in users_then c step.0 d (users_apply c step.0 x step.1) (users_apply_all deltas step.0 d step.2)

-- ---- who is logged in

pub users_stay : (c d : Cat) (places : Places) → KeepsUsers c d → AreUsers c places → AreUsers d places
users_stay c d places keeps are n id is = keeps.there id (are n id is)

pub sessions_stay : (c d : Cat) (places : Places) → KeepsUsers c d → AreUsers c places → sessions_of (user_name d) places ≡ sessions_of (user_name c) places
sessions_stay c d places keeps are = sessions_of-names (user_name d) (user_name c) places (λ n id is. keeps.names id (are n id is))

-- the state behind these rows
pub state_behind : (c fin : Cat) (rules : List Rule) (places : Places) (g : Grid) → KeepsUsers c fin → AreUsers c places → grid_of fin ≡ g
    → record (state_by c rules places) { grid = g } ≡ state_by fin rules places
state_behind c fin rules places g keeps are grid =
    ap (λ (x : Grid). (let s : State = record { grid = x; rules = rules; sessions = sessions_of (user_name c) places } in s)) (sym grid)
    ∙ ap (λ (x : Sessions). (let s : State = record { grid = grid_of fin; rules = rules; sessions = x } in s)) (sym (sessions_stay c fin places keeps are))
