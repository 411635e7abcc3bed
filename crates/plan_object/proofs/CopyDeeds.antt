-- A plan of a copy is that of the deed of the copy.
use Rattle.std.proofs.Common.{◌≡◌, ℕ, ◌<◌, true, List, [], Result, Ok, Err, IsTrue, refl, sym, ap, subst, arith}
use Rattle.std.specs.Prelude.{IfOk, None}
use Rattle.std.specs.List.{AllByRecursion}
use Rattle.grid_model.specs.Names.{Text, Path}
use Rattle.grid_model.specs.Grid.{Grid}
use Rattle.grid_model.specs.Rows.{Cat}
use Rattle.grid_model.specs.RowGrids.{grid_of, user_name}
use Rattle.grid_model.specs.Applying.{IsMade, is_leaf, is_user}
use Rattle.grid_model.specs.Trees.{possible, slots_of, targets}
use Rattle.grid_model.specs.Deeds.{Deed, is_among}
use Rattle.grid_model.specs.Operations.Objects.{with_object, written}
use Rattle.grid_model.specs.Operations.Replicas.{copy_row}
use Rattle.grid_model.specs.declared.plans.OldFile.{OldFile}
use Rattle.grid_model.specs.declared.plans.Plan.{Plan}
use Rattle.grid_vault.specs.Vault.{HasSlot}
use Rattle.file_laws.proofs.Members.{in_of}
use Rattle.tables_laws.proofs.Rows.{in_from_all}
use Rattle.tables_laws.proofs.Standing.{ReplicaStands}
use Rattle.grid_tree.specs.Names.{AreNamed}
use Rattle.grid_tree.proofs.Named.{named-as}
use Rattle.plan_base.proofs.AtPaths.{sound_of}
use Rattle.plan_object.specs.CopyPlans.{MayCopy, put_of}
use Rattle.plan_object.specs.PutPlans.{AreTargets, WritesNew}
use Rattle.plan_object.specs.ReplPlans.{CopiesFile, CopiesGrid}
use Rattle.plan_object.specs.Writing.{GoesTo, Recorded}
use Rattle.plan_object.specs.declared.placing.Target.{Target}
use Rattle.plan_object.proofs.CopyMarks.{bad_fits_so, slot_fits, source_fits}
use Rattle.plan_object.proofs.CopyRows.{copy_deed, copy_free, copy_is}
use Rattle.plan_object.proofs.NewPlans.{copies_new}
use Rattle.plan_object.proofs.PutDeeds.{among}
use Rattle.plan_object.proofs.PutLemmas.{goes_only}
use Rattle.plan_object.proofs.PutRows.{goes_to}

module _ (c : Cat) (made : IsMade c) (user : ℕ) (its_user : IsTrue (is_user c user)) (a b : Path) (r : Text) (file : OldFile) (may : MayCopy c (user_name c user) a b r file) (word now : ℕ)
    (ids : List ℕ) (named : AreNamed c ids (targets (grid_of c).resources r word)) (all : AllByRecursion (λ id. IsTrue (is_leaf c id)) ids) where
  abbrev g : Grid
  g = grid_of c

  abbrev name : Text
  name = user_name c user

  abbrev above : Path
  above = may.puts.above

  abbrev of : Deed
  of = copy_deed c name a b r above file.size file.digest file.slot

  abbrev slots : List ℕ
  slots = slots_of g.resources (possible g.resources r)

  abbrev rec : Recorded
  rec = record { size = file.size; digest = file.digest; now = now }

  goes : GoesTo c name (put_of b r file) word ids
  goes = goes_to c name (put_of b r file) may.on word ids may.puts (named-as c ids _ _ (ap (λ (n : Text). targets g.resources n word) (sym may.puts.name_is)) named) all

  low : file.name < c.numbers.next_vault
  low = omega (arith, (in_from_all (ReplicaStands c) c.replicas (sound_of c made).tied.replicas may.reads.row (in_of c.replicas may.reads.row may.reads.there)).3, may.reads.vault_is)

  module _ (ts : List Target) (are : AreTargets c ids ts) (plan : Plan) (is : WritesNew c user b rec ts plan) where
    makes : CopiesGrid c (of.ran word now []) file plan
    makes =
        subst (λ (names : List Text). CopiesGrid c (with_object g name above b (written None file.size file.digest now names)) file plan) goes.names
        (copies_new c made user its_user b (copy_free c name a b r file may) rec is.row is.is_row ids all ts are plan is.is_new file refl refl low above may.puts.parent_is)

    its_slot : (slot : ℕ) → HasSlot plan.files slot → is_among slots slot ≡ true
    its_slot slot has = among c made name (put_of b r file) word ids goes slot (goes_only c ids ts are plan is.is_new.files slot has)

    pub copies_file : CopiesFile c (copy_row g name a b r) word now file plan
    copies_file = record {
      of = of;
      row_is = copy_is c name a b r file may;
      size = refl;
      digest = refl;
      makes = makes;
      ran = refl;
      slots = slot_fits file.slot file.size file.digest slots plan.files its_slot;
      source = source_fits file.slot file.size file.digest slots plan.files its_slot;
      bad = bad_fits_so file.slot file.size file.digest slots plan.files its_slot;
    }

-- the same of what the steps of planning find
pub planned_copy : {E : Type 0} (c : Cat) (made : IsMade c) (user : ℕ) (its_user : IsTrue (is_user c user)) (a b : Path) (r : Text) (file : OldFile) (may : MayCopy c (user_name c user) a b r file) (word now : ℕ)
    (ids : List ℕ) (named : AreNamed c ids (targets (grid_of c).resources r word)) (all : AllByRecursion (λ id. IsTrue (is_leaf c id)) ids) (ts : List Target) → AreTargets c ids ts
    → (result : Result Plan E) → IfOk result (WritesNew c user b (record { size = file.size; digest = file.digest; now = now }) ts) → IfOk result (CopiesFile c (copy_row (grid_of c) (user_name c user) a b r) word now file)
planned_copy c made user its_user a b r file may word now ids named all ts are (Err e) is = tt
planned_copy c made user its_user a b r file may word now ids named all ts are (Ok plan) is = copies_file c made user its_user a b r file may word now ids named all ts are plan is
