-- Names may stand as words in a reply, and so may lines of them.
use Rattle.std.proofs.Common.{◌≡◌, ◌==◌, ℕ, Bool, true, false, List, [], ◌∷◌, ◌++◌, Option, Some, None, refl, sym, ap, ◌∙◌}
use Rattle.std.specs.Prelude.{◌&&◌, not, option_map, unwrap_or, nat_le}
use Rattle.std.specs.List.{list_all}
use Rattle.std.proofs.lemmas.Bool.{and_parts, and_from}
use Rattle.std.proofs.lemmas.List.Folds.{list_all-append}
use Rattle.grid_model.specs.Names.{Text, is_name, is_name_byte}
use Rattle.grid_model.specs.Words.{is_word_byte}
use Rattle.grid_model.specs.Writable.{is_word}
use Rattle.grid_model.specs.Rows.{Cat, resource, is_named_resource}
use Rattle.grid_model.specs.RowGrids.{resource_name}
use Rattle.grid_model.specs.Applying.{IsMade}
use Rattle.grid_model.specs.declared.deltas.ResourceRow.{ResourceRow}
use Rattle.tables_laws.proofs.Rows.{in_from_all, in_from_find}
use Rattle.grid_tree.proofs.Named.{sound_of}

bytes_word : (t : Text) → list_all is_name_byte t ≡ true → is_word t ≡ true
bytes_word [] all = refl
bytes_word (b ∷ t) all =
    let parts = and_parts (is_name_byte b) (list_all is_name_byte t) all in
    let byte = and_parts (nat_le 0x20 b && not (b == 0x7F)) (not (b == 0x2F)) parts.0 in
    and_from (is_word_byte b) (is_word t) byte.0 (bytes_word t parts.1)

pub name_word : (t : Text) → is_name t ≡ true → is_word t ≡ true
name_word t named =
    let a = and_parts _ _ named in
    let b = and_parts _ _ a.0 in
    let d = and_parts _ (list_all is_name_byte t) b.0 in
    bytes_word t d.1

-- that of a resource, or no bytes where there is none
pub resource_word : (c : Cat) → IsMade c → (id : ℕ) → is_word (resource_name c id) ≡ true
resource_word c m id = by (resource c id) refl
  where
    by : (o : Option ResourceRow) → resource c id ≡ o → is_word (resource_name c id) ≡ true
    by None is = ap (λ (o : Option ResourceRow). is_word (unwrap_or (option_map (λ r. r.name) o) [])) is
    by (Some r) is =
        let here = (in_from_find (λ (x : ResourceRow). x.id == id) c.resources r is).0 in
        ap (λ (o : Option ResourceRow). is_word (unwrap_or (option_map (λ x. x.name) o) [])) is
        ∙ name_word r.name (in_from_all (λ (x : ResourceRow). is_named_resource x ≡ true) c.resources (sound_of c m).cat.resources.fit r here)

-- one in front of a line
pub line_word : (name line : Text) → is_word name ≡ true → is_word line ≡ true → is_word (name ++ 0x3B ∷ line) ≡ true
line_word name line one other = list_all-append is_word_byte name (0x3B ∷ line) ∙ and_from (is_word name) (is_word (0x3B ∷ line)) one other
