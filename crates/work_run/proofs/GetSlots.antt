-- The slot of a file that a get reads is one of those that the catalogue knows.
use Rattle.std.proofs.Common.{◌≡◌, ◌==◌, ℕ, ◌<◌, Bool, true, false, Option, Some, IsTrue, sym, ap, ◌∙◌, arith, eqb-true}
use Rattle.std.specs.Prelude.{option_map, ◌&&◌, nat_lt}
use Rattle.std.proofs.lemmas.Bool.{and_parts, ltb-true}
use Rattle.grid_model.specs.Applying.{IsMade, is_storage}
use Rattle.grid_model.specs.Names.{Path, Text}
use Rattle.grid_model.specs.Rows.{Cat, resource}
use Rattle.grid_model.specs.declared.deltas.ResourceRow.{ResourceRow}
use Rattle.grid_model.specs.declared.plans.OldFile.{OldFile}
use Rattle.file_laws.proofs.Members.{in_of}
use Rattle.tables_laws.proofs.Numbered.{found_in}
use Rattle.tables_laws.proofs.Rows.{in_from_all, in_from_any}
use Rattle.tables_laws.proofs.Sound.{IsSound, sound-made}
use Rattle.tables_laws.proofs.Standing.{ReplicaStands, ResourceStands}
use Rattle.plan_object.specs.Sending.{Sends}

of_storage : (b : Bool) (slot stores : ℕ) → b ≡ true → IsTrue (elim b as (λ _. Bool) [ true ↦ nat_lt slot stores | false ↦ slot == 0 ]) → slot < stores
of_storage true slot stores is fits = ltb-true slot stores fits
of_storage false slot stores is fits = absurd cc

pub slot_small : (c : Cat) → IsMade c → (user : Text) (p : Path) (asked : Option Text) (file : OldFile) → Sends c user p asked file → file.slot < c.stores
slot_small c made user p asked file s =
    let sound : IsSound c = sound-made made.0 c made.1 in
    let stands = in_from_all (ReplicaStands c) c.replicas sound.tied.replicas s.row (in_of c.replicas s.row s.there) in
    let leaf = in_from_any (λ (r : ResourceRow). (r.id == s.row.leaf) && is_storage r.kind) c.resources stands.1 in
    let parts = and_parts (leaf.0.id == s.row.leaf) (is_storage leaf.0.kind) leaf.2 in
    let id_is : leaf.0.id ≡ s.row.leaf = eqb-true leaf.0.id s.row.leaf parts.0 in
    let found : resource c s.row.leaf ≡ Some leaf.0 = ap (resource c) (sym id_is)
    ∙ found_in (λ (x : ResourceRow). x.id) c.resources leaf.0 sound.cat.resources.ordered leaf.1 in
    let both : Some leaf.0.slot ≡ Some file.slot = sym (ap (option_map (λ (r : ResourceRow). r.slot)) found) ∙ s.slot_is in
    let slot_is : leaf.0.slot ≡ file.slot = cc in
    let tied = in_from_all (ResourceStands c) c.resources sound.tied.resources leaf.0 leaf.1 in
    omega (arith, sym slot_is, of_storage (is_storage leaf.0.kind) leaf.0.slot c.stores parts.1 tied.0)
