-- Rows that differ in the command that is pending alone.
use Rattle.std.proofs.Common.{◌≡◌, ◌==◌, ℕ, zero, suc, true, false, [], ◌∷◌, length, Option, Some, None, List, Result, Ok, Err, IsTrue, refl, sym, ap, ◌∙◌, subst}
use Rattle.std.specs.Prelude.{option_map, reverse, find, Bool}
use Rattle.grid_model.specs.Maps.{has}
use Rattle.grid_model.specs.Names.{Text, Path}
use Rattle.grid_model.specs.Grid.{Grid}
use Rattle.grid_model.specs.Rows.{Cat, collection}
use Rattle.grid_model.specs.RowPaths.{names_within, object_path, object_at, is_path_of}
use Rattle.grid_model.specs.RowGrids.{grid_of, object_of}
use Rattle.grid_model.specs.Applying.{apply, apply_all, is_user, where_fits}
use Rattle.grid_model.specs.declared.deltas.Delta.{Delta}
use Rattle.grid_model.specs.Trees.{candidates, is_any, possible}
use Rattle.grid_model.specs.Whole.{Naming, Names, by_replica, by_orphan}
use Rattle.grid_model.specs.Operations.Common.{needs, resource_there}
use Rattle.grid_model.specs.Operations.Objects.{put_row, writes}
use Rattle.grid_model.specs.Operations.Replicas.{first_of, got}
use Rattle.grid_model.specs.declared.deltas.CollectionRow.{CollectionRow}
use Rattle.grid_model.specs.declared.deltas.Delta.TheVariants as delta
use Rattle.grid_model.specs.declared.deltas.ObjectRow.{ObjectRow}
use Rattle.grid_model.specs.declared.deltas.Pending.{Pending}
use Rattle.grid_model.specs.declared.grid.Level.TheVariants.{Write}
use Rattle.grid_model.specs.declared.grid.Mode.TheVariants.{New}
use Rattle.grid_model.specs.declared.plans.OldFile.{OldFile}
use Rattle.tables_laws.proofs.Grids.{grid-same}
use Rattle.file_laws.specs.Plans.{Turns}
use Rattle.file_laws.proofs.Turning.{turns_apply}
use Rattle.plan_object.specs.CopyPlans.{MayCopy}
use Rattle.plan_object.specs.ReplPlans.{MayRepl}
use Rattle.service_run.specs.Noting.{with_pending}

module _ (c : Cat) (p : Pending) where
  abbrev d : Cat
  d = with_pending c p

  -- the grid is the same
  pub grid_pending : grid_of (with_pending c p) ≡ grid_of c
  grid_pending = grid-same c d refl (grid_of c) refl

  -- one step up, on both sides
  abbrev step : (ℕ → Option Path) → ℕ → Option CollectionRow → Option Path
  step up id o = elim (id == 0) [
    | true ↦ Some []
    | false ↦ elim o [ None ↦ None | Some r ↦ option_map (λ names. r.name ∷ names) (up r.parent) ]
  ]

  up_same : (k id : ℕ) → names_within k d id ≡ names_within k c id
  up_same zero id = refl
  up_same (suc k) id =
      let ups : ◌≡◌ {A = ℕ → Option Path} (names_within k d) (names_within k c) = λ i j. up_same k j i in
      ap (λ (up : ℕ → Option Path). step up id (collection c id)) ups

  object_at_same : (path : Path) → object_at d path ≡ object_at c path
  object_at_same path =
      let paths : ◌≡◌ {A = ObjectRow → Option Path} (object_path d) (object_path c) = λ i r. option_map (λ names. reverse (r.name ∷ names)) (up_same (length c.collections) r.collection i) in
      ap (λ (of : ObjectRow → Option Path). option_map (λ (r : ObjectRow). r.id) (find (λ r. is_path_of (of r) path) c.objects)) paths

  -- and so is what is found of a repl
  pub may_pending : (user : Text) (path : Path) (resource : Text) (file : OldFile) → MayRepl c user path resource file → MayRepl (with_pending c p) user path resource file
  may_pending user path resource file may =
      let allowed : Grid → Type 0 = λ g. needs g user path Write ≡ Ok tt in
      let known : Grid → Type 0 = λ g. resource_there g resource ≡ Ok tt in
      let any : Grid → Type 0 = λ g. is_any (possible g.resources resource) ≡ true in
      let reads : Grid → Type 0 = λ g. first_of g (object_of c may.object_row) (candidates g.resources (object_of c may.object_row) None) ≡ Ok (record { object = object_of c may.object_row; number = file.number; slot = file.slot }) in
      record {
        object_row = may.object_row;
        found = may.found;
        may = record { at = object_at_same path ∙ may.may.at; there = may.may.there; allowed = subst allowed (sym grid_pending) may.may.allowed };
        known = subst known (sym grid_pending) may.known;
        any = subst any (sym grid_pending) may.any;
        reads = record {
          is = subst reads (sym grid_pending) may.reads.is;
          size = may.reads.size;
          digest = may.reads.digest;
          row = may.reads.row;
          there = may.reads.there;
          of_object = may.reads.of_object;
          good = may.reads.good;
          vault_is = may.reads.vault_is;
          slot_is = may.reads.slot_is;
        };
        within = may.within;
      }

  -- and of a copy
  pub may_copy_pending : (user : Text) (from to : Path) (resource : Text) (file : OldFile) → MayCopy c user from to resource file → MayCopy (with_pending c p) user from to resource file
  may_copy_pending user from to resource file may =
      let s = may.reads in
      let m = may.puts in
      let reads : Grid → Type 0 = λ g. got g user from None ≡ Ok s.from in
      let above : Grid → Type 0 = λ g. has g.collections m.above ≡ true in
      let free : Grid → Type 0 = λ g. has g.collections to ≡ false in
      let puts : Grid → Type 0 = λ g. (body : List ℕ) → length body ≡ file.size → put_row g user to resource New body ≡ Ok (writes g.resources g user m.above to resource body) in
      record {
        reads = record {
          from = s.from;
          is = subst reads (sym grid_pending) s.is;
          number = s.number;
          slot = s.slot;
          size = s.size;
          digest = s.digest;
          row = s.row;
          there = s.there;
          good = s.good;
          vault_is = s.vault_is;
          slot_is = s.slot_is;
          object_row = s.object_row;
          of_object = s.of_object;
          size_row = s.size_row;
          digest_row = s.digest_row;
        };
        within = may.within;
        on = may.on;
        puts = record {
          known = m.known;
          name_is = m.name_is;
          above = m.above;
          parent_is = m.parent_is;
          there = subst above (sym grid_pending) m.there;
          free = subst free (sym grid_pending) m.free;
          row_is = subst puts (sym grid_pending) m.row_is;
        };
      }

  -- the same rows name files
  pub names_pending : (slot name : ℕ) (row : Naming) → Names (with_pending c p) slot name row → Names c slot name row
  names_pending slot name (by_replica r) named = named
  names_pending slot name (by_orphan o) named = named

  -- a command of somebody may be pending
  pub applied_pending : IsTrue (is_user c p.user) → apply c (delta.Pending p) ≡ Ok (with_pending c p)
  applied_pending user = ap (λ b. where_fits b 20 (with_pending c p)) user

  -- by the change that says so
  pub applied_noted : IsTrue (is_user c p.user) → (pending : Pending) → pending ≡ p → (deltas : List Delta) → deltas ≡ delta.Pending pending ∷ [] → apply_all c deltas ≡ Ok (with_pending c p)
  applied_noted user pending same deltas is =
      ap (apply_all c) (is ∙ ap (λ (q : Pending). delta.Pending q ∷ []) same)
      ∙ ap (λ (b : Bool). elim (where_fits b 20 (with_pending c p)) as (λ _. Result Cat ℕ) [ Ok next ↦ Ok next | Err cause ↦ Err cause ]) user

  pub turns_pending : IsTrue (is_user c p.user) → Turns [] [] c (with_pending c p)
  turns_pending user = turns_apply [] [] c (with_pending c p) (delta.Pending p) refl (applied_pending user)
