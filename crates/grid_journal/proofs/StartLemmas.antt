-- The catalogue of a new grid is what its deltas make, and main has them.
use Rattle.std.proofs.Common.{◌≡◌, ◌≢◌, ℕ, suc, ◌+◌, ◌-◌, ◌^◌, ◌<◌, ◌≤◌, true, false, IsTrue, List, [], ◌∷◌, ◌++◌, length, get_or, drop, Some, Ok, refl, sym, ap, ◌∙◌, lit≤, arith}
use Rattle.std.specs.Prelude.{not, ◌&&◌, ◌||◌, nat_lt, nat_le, replicate}
use Rattle.std.specs.List.{list_all}
use Rattle.std.proofs.Math.ListN.{drop_of_length-le}
use Rattle.std.proofs.lemmas.Bool.{and_from, and_parts, lt-ltb, le-leb}
use Rattle.std.proofs.lemmas.List.{append-nil}
use Rattle.frame_log.specs.Log.{frame, IsLog}
use Rattle.frame_log.proofs.Adding.{first_log}
use Rattle.grid_model.specs.Names.{Text, is_name, is_name_byte, same_text}
use Rattle.grid_model.specs.Grid.{home, everybody}
use Rattle.grid_model.specs.Rows.{Cat, empty_cat}
use Rattle.grid_model.specs.Applying.{apply, apply_all, where_fits}
use Rattle.grid_model.specs.Deltas.{delta_fits, SpellsDeltas, text, is_shown_byte}
use Rattle.grid_model.specs.declared.deltas.Delta.{Delta}
use Rattle.grid_model.specs.declared.deltas.Delta.TheVariants as delta
use Rattle.grid_model.specs.declared.deltas.CollectionRow.{CollectionRow}
use Rattle.grid_model.specs.declared.grid.UserKind.TheVariants.{Rodsadmin, Rodsgroup}
use Rattle.grid_model.proofs.NameSpelling.{IsName-from_test}
use Rattle.grid_model.proofs.Comparing.{other_text}
use Rattle.grid_journal.specs.Stands.{magic, HasHead, taken, none_left, Stands, stands}
use Rattle.grid_journal.specs.Start.{start, start_users, start_collections, start_deltas, main_with}
use Rattle.grid_journal.proofs.DeltaLemmas.{then_all}
use Rattle.grid_journal.proofs.KeptDeltas.{no_rules_kept}

-- ---- names are texts of shown bytes

shown : (b : ℕ) → is_name_byte b ≡ true → b < 256 → is_shown_byte b ≡ true
shown b name lt =
    let p = and_parts _ _ name in
    and_from _ _ p.0 (lt-ltb b 256 lt)

all_shown : (t : Text) → list_all is_name_byte t ≡ true → ((i : ℕ) → get_or t i 0 < 256) → list_all is_shown_byte t ≡ true
all_shown [] names bytes = refl
all_shown (b ∷ t) names bytes =
    let p = and_parts (is_name_byte b) (list_all is_name_byte t) names in
    and_from (is_shown_byte b) (list_all is_shown_byte t) (shown b p.0 (bytes 0)) (all_shown t p.1 (λ i. bytes (suc i)))

pub name_fits : (t : Text) → IsTrue (is_name t) → ((i : ℕ) → get_or t i 0 < 256) → (text t).fits ≡ true
name_fits t name bytes =
    let n = IsName-from_test t name in
    and_from _ _ (lt-ltb (length t) (2 ^ 64) (omega (arith, n.few))) (all_shown t n.bytes bytes)

-- ---- what the deltas make

module _ (zone admin : Text) (stores : ℕ) (zone_name : IsTrue (is_name zone)) (admin_name : IsTrue (is_name admin))
    (not_public : admin ≢ everybody) (some : 0 < stores) (few : stores ≤ 16) where
  some_store : nat_lt 0 stores ≡ true
  some_store = lt-ltb 0 stores some

  few_stores : nat_le stores 16 ≡ true
  few_stores = le-leb stores 16 few

  other_name : same_text admin everybody ≡ false
  other_name = other_text admin everybody not_public

  abbrev with_zone : Cat
  with_zone = record empty_cat { zone = Some zone; stores = stores }

  abbrev with_admin : Cat
  with_admin = record with_zone { users = record { id = 1; kind = Rodsadmin; name = admin } ∷ [] }

  abbrev with_users : Cat
  with_users = record with_zone { users = start_users admin }

  abbrev root_row : CollectionRow
  root_row = record { id = 0; parent = 0; name = []; inherit = false }

  abbrev zone_row : CollectionRow
  zone_row = record { id = 1; parent = 0; name = zone; inherit = false }

  abbrev home_row : CollectionRow
  home_row = record { id = 2; parent = 1; name = home; inherit = false }

  abbrev with_root : Cat
  with_root = record with_users { collections = root_row ∷ [] }

  abbrev with_zone_row : Cat
  with_zone_row = record with_users { collections = root_row ∷ zone_row ∷ [] }

  abbrev with_home : Cat
  with_home = record with_users { collections = root_row ∷ zone_row ∷ home_row ∷ [] }

  abbrev with_collections : Cat
  with_collections = record with_users { collections = start_collections zone admin }

  step_zone : apply empty_cat (delta.Zone zone stores) ≡ Ok with_zone
  step_zone =
      ap (λ b. where_fits (true && b && nat_lt 0 stores && nat_le stores 16) 1 with_zone) zone_name
      ∙ ap (λ b. where_fits (b && nat_le stores 16) 1 with_zone) some_store
      ∙ ap (λ b. where_fits b 1 with_zone) few_stores

  step_admin : apply with_zone (delta.User (record { id = 1; kind = Rodsadmin; name = admin })) ≡ Ok with_admin
  step_admin = ap (λ b. where_fits (b && true) 2 with_admin) admin_name

  step_everybody : apply with_admin (delta.User (record { id = 2; kind = Rodsgroup; name = everybody })) ≡ Ok with_users
  step_everybody = ap (λ b. where_fits (not (b || false)) 2 with_users) other_name

  step_root : apply with_users (delta.Collection root_row) ≡ Ok with_root
  step_root = refl

  step_zone_row : apply with_root (delta.Collection zone_row) ≡ Ok with_zone_row
  step_zone_row = ap (λ b. where_fits (b && true) 5 with_zone_row) zone_name

  step_home : apply with_zone_row (delta.Collection home_row) ≡ Ok with_home
  step_home = refl

  step_admin_home : apply with_home (delta.Collection (record { id = 3; parent = 2; name = admin; inherit = false })) ≡ Ok with_collections
  step_admin_home = ap (λ b. where_fits (b && true) 5 with_collections) admin_name

  pub start_applies : apply_all empty_cat (start_deltas zone admin stores) ≡ Ok (start zone admin stores)
  start_applies =
      ap (then_all (drop 1 (start_deltas zone admin stores))) step_zone
      ∙ ap (then_all (drop 2 (start_deltas zone admin stores))) step_admin
      ∙ ap (then_all (drop 3 (start_deltas zone admin stores))) step_everybody
      ∙ ap (then_all (drop 4 (start_deltas zone admin stores))) step_root
      ∙ ap (then_all (drop 5 (start_deltas zone admin stores))) step_zone_row
      ∙ ap (then_all (drop 6 (start_deltas zone admin stores))) step_home
      ∙ ap (then_all (drop 7 (start_deltas zone admin stores))) step_admin_home

-- ---- their spellings

-- each has a spelling
abbrev EachFits : List Delta → Type 0
EachFits [] = Unit {0}
EachFits (d ∷ ds) = (delta_fits d ≡ true) × EachFits ds

all_fit_from : (ds : List Delta) → EachFits ds → list_all delta_fits ds ≡ true
all_fit_from [] h = refl
all_fit_from (d ∷ ds) h = and_from (delta_fits d) (list_all delta_fits ds) h.0 (all_fit_from ds h.1)

pub start_fits : (zone admin : Text) (stores : ℕ) → (text zone).fits ≡ true → (text admin).fits ≡ true → stores < 256
    → IsTrue (list_all delta_fits (start_deltas zone admin stores))
start_fits zone admin stores z a s =
    let zone_fits = and_from _ _ z (and_from _ true (lt-ltb stores 256 s) refl) in
    all_fit_from (start_deltas zone admin stores)
    (zone_fits, (and_from _ true a refl, (refl, (refl, (and_from _ true z refl, (refl, (and_from _ true a refl, (refl, (refl, (refl, (refl, (refl, tt))))))))))))

-- ---- main of a new grid

has_head : (body : Text) → HasHead (main_with body)
has_head body = record { root = 0; magic_is = refl; root_is = refl; even = refl }

abbrev head_bytes : Text
head_bytes = magic ++ replicate 8 0

has_log : (body : Text) → length body < 2 ^ 64 → IsLog 16 (body ∷ []) (main_with body)
has_log body short =
    first_log 16 body head_bytes (main_with body) short (lit≤ tt)
    (ap (λ l. head_bytes ++ l) (sym (append-nil (frame body ++ 0 ∷ []))) ∙ ap (λ l. head_bytes ++ ((frame body ++ 0 ∷ []) ++ l)) (sym (drop_of_length-le head_bytes {i = 16 + length (frame body ++ 0 ∷ [])} (omega arith))))

pub start_stands : (zone admin : Text) (stores : ℕ) (body other : Text) → IsTrue (is_name zone) → IsTrue (is_name admin) → admin ≢ everybody → 0 < stores → stores ≤ 16
    → SpellsDeltas body (start_deltas zone admin stores) → length body ≤ 2 ^ 62 - 16 → Stands (main_with body) other (Ok (start zone admin stores))
start_stands zone admin stores body other z a p some few spells short =
    stands (body ∷ []) (start zone admin stores) (has_head body) (has_log body (omega (arith, short)))
    (taken (start_deltas zone admin stores) spells (no_rules_kept (start_deltas zone admin stores) refl) (start_applies zone admin stores z a p some few) none_left) refl
