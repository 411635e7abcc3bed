-- The row of a copy: what a get reads, and then what a put asks.
use Rattle.std.proofs.Common.{◌≡◌, ℕ, true, false, Bool, List, [], ◌∷◌, length, replicate, Option, Some, None, Ok, Err, refl, sym, ap, ◌∙◌}
use Rattle.std.specs.Prelude.{not, ◌||◌, find, option_map, ⊤}
use Rattle.std.proofs.lemmas.Bool.{and_parts}
use Rattle.std.proofs.lemmas.List.{length-replicate}
use Rattle.grid_model.specs.Digests.{Digest}
use Rattle.grid_model.specs.Maps.{get, has}
use Rattle.grid_model.specs.Names.{Text, Path, same_text}
use Rattle.grid_model.specs.Grid.{Grid, Object, Replica}
use Rattle.grid_model.specs.Refusing.{Or, ◌>>=◌, there, unless}
use Rattle.grid_model.specs.Rows.{Cat}
use Rattle.grid_model.specs.RowGrids.{grid_of}
use Rattle.grid_model.specs.Applying.{IsMade}
use Rattle.grid_model.specs.Trees.{candidates, is_any, possible, slots_of, targets}
use Rattle.grid_model.specs.Deeds.{Act, Deed, copying, deed}
use Rattle.grid_model.specs.Operations.Common.{collection_above, is_taken, needs, resource_there}
use Rattle.grid_model.specs.Operations.Objects.{may_put, may_stand, room_for, with_object, writes, written}
use Rattle.grid_model.specs.Operations.Replicas.{Source, copy_row, first_of, got}
use Rattle.grid_model.specs.declared.deltas.ResourceRow.{ResourceRow}
use Rattle.grid_model.specs.declared.grid.Level.TheVariants.{Read}
use Rattle.grid_model.specs.declared.grid.Mode.TheVariants.{New}
use Rattle.grid_model.specs.declared.plans.OldFile.{OldFile}
use Rattle.grid_model.specs.declared.plans.PlanError.{PlanError}
use Rattle.grid_model.specs.declared.plans.PlanError.TheVariants.{Refused, Memory}
use Rattle.grid_model.specs.declared.refusal.Refusal.{Refusal}
use Rattle.grid_model.specs.declared.refusal.Refusal.TheVariants.{NoObject, NoAccess, NoResource, Exists, NoTarget}
use Rattle.file_laws.proofs.Members.{in_of}
use Rattle.plan_base.proofs.AtPaths.{sound_of}
use Rattle.plan_object.specs.CopyPlans.{FindsCopy, MayCopy, put_of}
use Rattle.plan_object.specs.Sending.{PlansGet, Sends}
use Rattle.plan_object.specs.Writing.{ChecksPut, MayPut}
use Rattle.plan_object.proofs.GotFiles.{unknown}
use Rattle.plan_object.proofs.Leaves.{stored_slot}
use Rattle.plan_object.proofs.PutLemmas.{above_is}

-- ---- tests one after another

-- what a put asks once the collection is found, and what follows
abbrev tests : Or ⊤ → Or ⊤ → Or ⊤ → Or ⊤ → Or ⊤ → Act → Or Act
tests known allowed free any room act = known >>= (λ _. allowed >>= (λ _. free >>= (λ _. any >>= (λ _. room >>= (λ _. Ok act)))))

-- a refusal is the same, whatever would follow
refused : (known allowed free any room : Or ⊤) (x y : Act) (r : Refusal) → tests known allowed free any room x ≡ Err r → tests known allowed free any room y ≡ Err r
refused (Err e) allowed free any room x y r is = is
refused (Ok k) (Err e) free any room x y r is = is
refused (Ok k) (Ok a) (Err e) any room x y r is = is
refused (Ok k) (Ok a) (Ok f) (Err e) room x y r is = is
refused (Ok k) (Ok a) (Ok f) (Ok n) (Err e) x y r is = is
refused (Ok k) (Ok a) (Ok f) (Ok n) (Ok m) x y r is = absurd cc

-- where one thing follows so does any other
record Passes (known allowed free any room : Or ⊤) : Type 0 where
  pub known_is : known ≡ Ok tt
  pub free_is : free ≡ Ok tt
  pub any_act : (y : Act) → tests known allowed free any room y ≡ Ok y

passed : (known allowed free any room : Or ⊤) (x z : Act) → tests known allowed free any room x ≡ Ok z → Passes known allowed free any room
passed (Err e) allowed free any room x z is = absurd cc
passed (Ok k) (Err e) free any room x z is = absurd cc
passed (Ok k) (Ok a) (Err e) any room x z is = absurd cc
passed (Ok k) (Ok a) (Ok f) (Err e) room x z is = absurd cc
passed (Ok k) (Ok a) (Ok f) (Ok n) (Err e) x z is = absurd cc
passed (Ok k) (Ok a) (Ok f) (Ok n) (Ok m) x z is = record { known_is = refl; free_is = refl; any_act = λ y. refl }

refused_above : (above : Or Path) (f h : Path → Or Act) (r : Refusal) → ((p : Path) → f p ≡ Err r → h p ≡ Err r) → (above >>= f) ≡ Err r → (above >>= h) ≡ Err r
refused_above (Ok p) f h r more is = more p is
refused_above (Err e) f h r more is = is

test_holds : (b : Bool) (r : Refusal) → unless b r ≡ Ok tt → b ≡ true
test_holds true r is = refl
test_holds false r is = absurd cc

-- ---- the row

module _ (c : Cat) (user : Text) (a b : Path) (r : Text) where
  abbrev g : Grid
  g = grid_of c

  -- the deed of a copy into this collection of so many bytes with this digest, from the file in this slot
  abbrev pub copy_deed : Path → ℕ → Digest → ℕ → Deed
  copy_deed above size digest slot = record {
    size = size;
    digest = digest;
    ran = λ word now _. with_object g user above b (written None size digest now (targets g.resources r word));
    touch = copying slot (slots_of g.resources (possible g.resources r));
  }

  -- a put of so many bytes in this collection, and what follows
  abbrev put_in : ℕ → Act → Path → Or Act
  put_in size act above =
      tests (resource_there g r) (unless (may_put g user above b) NoAccess) (unless (may_stand g b New) Exists) (unless (is_any (possible g.resources r)) NoTarget) (room_for g user above b size) act

  abbrev copy_in : ℕ → Digest → ℕ → Path → Or Act
  copy_in size digest slot = λ above. put_in size (deed (copy_deed above size digest slot)) above

  abbrev copied : Source → Or Act
  copied from = collection_above g b >>= copy_in from.object.size from.object.digest from.slot

  row_is : copy_row g user a b r ≡ got g user a None >>= (λ from. copied from)
  row_is = by (get g.objects a) (needs g user a Read)
    where
      by_first : (o : Object) (es : List (ℕ × Replica)) → (first_of g o es >>= (λ from. collection_above g b >>= copy_in o.size o.digest from.slot)) ≡ first_of g o es >>= (λ from. copied from)
      by_first o [] = refl
      by_first o (e ∷ es) = refl

      by : (f : Option Object) (n : Or ⊤) → (there f NoObject >>= (λ o. n >>= (λ _. first_of g o (candidates g.resources o None) >>= (λ from. collection_above g b >>= copy_in o.size o.digest from.slot))))
          ≡ (there f NoObject >>= (λ o. n >>= (λ _. first_of g o (candidates g.resources o None)))) >>= (λ from. copied from)
      by None n = refl
      by (Some o) (Err e) = refl
      by (Some o) (Ok x) = by_first o (candidates g.resources o None)

  -- nothing can be read
  pub no_source : (e : Refusal) → PlansGet c user a None (Err e) → FindsCopy c user a b r (Err (Refused e))
  no_source e none = row_is ∙ ap (λ (x : Or Source). x >>= (λ from. copied from)) none

  module _ (file : OldFile) (reads : Sends c user a None file) where
    abbrev bytes : List ℕ
    bytes = replicate file.size 0

    long : length bytes ≡ file.size
    long = length-replicate file.size 0

    to_copied : copy_row g user a b r ≡ collection_above g b >>= copy_in file.size file.digest file.slot
    to_copied = row_is ∙ ap (λ (x : Or Source). x >>= (λ from. copied from)) reads.is ∙ (λ i. collection_above g b >>= copy_in (sym reads.size i) (sym reads.digest i) (sym reads.slot i))

    abbrev writing_of : Path → Act
    writing_of above = writes g.resources g user above b r bytes

    -- what a put is refused for a copy is refused for
    pub no_copy : (e : PlanError) → ChecksPut c user (put_of b r file) (Err e) → FindsCopy c user a b r (Err e)
    no_copy (Refused e) none =
        to_copied
        ∙ refused_above (collection_above g b) (λ above. put_in file.size (writing_of above) above) (copy_in file.size file.digest file.slot) e
        (λ above. refused (resource_there g r) (unless (may_put g user above b) NoAccess) (unless (may_stand g b New) Exists) (unless (is_any (possible g.resources r)) NoTarget) (room_for g user above b file.size) (writing_of above) (deed (copy_deed above file.size file.digest file.slot)) e)
        ((λ i. collection_above g b >>= (λ above. put_in (sym long i) (writing_of above) above)) ∙ none bytes long)
    no_copy Memory none = tt

    pub may_copy : IsMade c → (on : ℕ) → ChecksPut c user (put_of b r file) (Ok on) → FindsCopy c user a b r (Ok file)
    may_copy made on puts = record {
      reads = reads;
      within = stored_slot c (sound_of c made) reads.row (in_of c.replicas reads.row reads.there) file.slot reads.slot_is;
      on = on;
      puts = puts;
    }

    module _ (on : ℕ) (puts : MayPut c user (put_of b r file) on) where
      found : collection_above g b ≡ Ok puts.above
      found = above_is g b puts.above puts.parent_is puts.there

      passes : Passes (resource_there g r) (unless (may_put g user puts.above b) NoAccess) (unless (may_stand g b New) Exists) (unless (is_any (possible g.resources r)) NoTarget) (room_for g user puts.above b file.size)
      passes =
          passed _ _ _ _ _ (writing_of puts.above) (writing_of puts.above)
          ((λ i. put_in (sym long i) (writing_of puts.above) puts.above) ∙ sym (ap (λ (x : Or Path). x >>= (λ above. put_in (length bytes) (writing_of above) above)) found) ∙ puts.row_is bytes long)

      is_deed : copy_row g user a b r ≡ Ok (deed (copy_deed puts.above file.size file.digest file.slot))
      is_deed = to_copied ∙ ap (λ (x : Or Path). x >>= copy_in file.size file.digest file.slot) found ∙ passes.any_act (deed (copy_deed puts.above file.size file.digest file.slot))

      none_there : is_taken g b ≡ false
      none_there = ap (λ x. x || has g.objects b) puts.free ∙ not_so (has g.objects b) (and_parts (not (has g.objects b)) (not (has g.collections b)) (test_holds (may_stand g b New) Exists passes.free_is)).0
        where
          not_so : (x : Bool) → not x ≡ true → x ≡ false
          not_so true wrong = absurd cc
          not_so false is = refl

      missing : None ≡ option_map (λ (x : ResourceRow). x.id) (find (λ x. same_text x.name r) c.resources) → ⊥
      missing none = let wrong : Ok tt ≡ Err NoResource = sym passes.known_is ∙ unknown c r none in cc

  -- of what may be done
  module _ (file : OldFile) (its : MayCopy c user a b r file) where
    -- its row is that of the deed
    pub copy_is : copy_row g user a b r ≡ Ok (deed (copy_deed its.puts.above file.size file.digest file.slot))
    copy_is = is_deed file its.reads its.on its.puts

    -- nothing is at its path
    pub copy_free : is_taken g b ≡ false
    copy_free = none_there file its.reads its.on its.puts

    -- its resource is there
    pub copy_resource : None ≡ option_map (λ (x : ResourceRow). x.id) (find (λ x. same_text x.name r) c.resources) → ⊥
    copy_resource = missing file its.reads its.on its.puts
