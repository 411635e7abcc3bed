-- The row of a chksum, test by test, and the files that it reads.
use Rattle.std.proofs.Common.{◌≡◌, ◌==◌, ℕ, false, true, Bool, cond, List, [], ◌∷◌, length, map, Option, Some, None, Ok, Err, inl, inr, IsTrue, refl, sym, ap, ◌∙◌, subst, arith, eqb-true, eq-eqb}
use Rattle.std.specs.Prelude.{◌≢◌, ◌&&◌, filter, option_map}
use Rattle.std.specs.Option.{option_map_or}
use Rattle.std.proofs.lemmas.Bool.{and_from, ne_eqb}
use Rattle.grid_model.specs.Names.{Text, Path}
use Rattle.grid_model.specs.Grid.{Grid, Object, Replica, Resource}
use Rattle.grid_model.specs.Refusing.{Or, ◌>>=◌}
use Rattle.grid_model.specs.Rows.{Cat, object, replicas_of, resource}
use Rattle.grid_model.specs.RowGrids.{grid_of, object_of, resource_name}
use Rattle.grid_model.specs.Applying.{IsMade}
use Rattle.grid_model.specs.Trees.{Resources, is_up, readable, slot_of, slots_of}
use Rattle.grid_model.specs.Deeds.{Act, Deed, are_bad, deed, differs, fault_fits, reading}
use Rattle.grid_model.specs.Operations.Replicas.{Source, chksum_row, first_of, marked_bad, with_replicas}
use Rattle.grid_model.specs.declared.deltas.ObjectRow.{ObjectRow}
use Rattle.grid_model.specs.declared.deltas.ReplicaRow.{ReplicaRow}
use Rattle.grid_model.specs.declared.deltas.ResourceRow.{ResourceRow}
use Rattle.grid_model.specs.declared.grid.Level.TheVariants.{Write}
use Rattle.grid_model.specs.declared.marks.BadReplica.{BadReplica}
use Rattle.grid_model.specs.declared.plans.OldFile.{OldFile}
use Rattle.grid_model.specs.declared.plans.PlanError.TheVariants.{Refused}
use Rattle.grid_model.specs.declared.refusal.Refusal.{Refusal}
use Rattle.grid_model.specs.declared.refusal.Refusal.TheVariants.{NoReplica}
use Rattle.grid_access.proofs.MapEntries.{map_from_in}
use Rattle.tables_laws.proofs.Places.{row_there}
use Rattle.tables_laws.proofs.Resources.{leaf_there}
use Rattle.tables_laws.proofs.Rows.{IsIn, all_from_in, any_from_in, in_from_all, in_from_find}
use Rattle.tables_laws.proofs.Standing.{ReplicaStands}
use Rattle.tables_laws.proofs.Sound.{IsSound}
use Rattle.file_laws.proofs.Members.{contains_of}
use Rattle.grid_tree.specs.Reading.{up_by}
use Rattle.grid_tree.proofs.Candidates.{replicas-entries, told}
use Rattle.grid_tree.proofs.Named.{get-named}
use Rattle.plan_base.proofs.AtPaths.{sound_of}
use Rattle.plan_base.proofs.Sizes.{Apart}
use Rattle.plan_object.specs.Allowing.{FindsObject, IsAllowed}
use Rattle.plan_object.specs.ChksumPlans.{AreFilesOf, AreFound, FindsChksum, MayChksum, and_files, file_on, found_bad, found_none, found_whole, read_file, read_files}
use Rattle.plan_object.proofs.AllowedRows.{allowed_row, row_at}
use Rattle.plan_object.proofs.Leaves.{stored_slot}
use Rattle.plan_object.proofs.OverMaps.{row_in, rows_apart}
use Rattle.plan_object.proofs.PutDeeds.{slot_is}

-- ---- the files

module _ (c : Cat) (s : IsSound c) where
  abbrev tree : Resources
  tree = (grid_of c).resources

  -- the replica can be read
  abbrev can : ℕ × Replica → Bool
  can e = e.1.good && is_up tree e.1.leaf

  up_is : (x : ReplicaRow) → IsIn c.replicas x → is_up tree (resource_name c x.leaf) ≡ up_by (resource c x.leaf)
  up_is x here =
      let leaf = leaf_there c x.leaf (in_from_all (ReplicaStands c) c.replicas s.tied.replicas x here).1 in
      let r = row_there (λ (y : ResourceRow). y.id) c.resources x.leaf leaf in
      ap (λ (f : Option Resource). option_map_or (λ (y : Resource). y.up) f false) (get-named c s x.leaf r.0 r.3) ∙ sym (ap up_by r.3)

  module _ (x : ReplicaRow) (here : IsIn c.replicas x) (es : List (ℕ × Replica)) (files : List OldFile) (rest : AreFilesOf c es files) where
    by_up : (leaf : ResourceRow) → resource c x.leaf ≡ Some leaf → x.good ≡ true → (up : Bool)
        → AreFilesOf c (cond up (told c x ∷ es) es) (and_files (elim up as (λ _. Option OldFile) [ true ↦ Some (record { slot = leaf.slot; name = x.vault; number = x.number; size = x.size; digest = x.digest }) | false ↦ None ]) files)
    by_up leaf found good true =
        let at = ap (option_map (λ (r : ResourceRow). r.slot)) found in (
          record { row = x; there = contains_of c.replicas x here; is = refl; file_is = refl; good = good; slot_is = at; within = stored_slot c s x here leaf.slot at },
          rest,
        )
    by_up leaf found good false = rest

    by_leaf : (f : Option ResourceRow) → resource c x.leaf ≡ f → x.good ≡ true → AreFilesOf c (cond (up_by f) (told c x ∷ es) es) (and_files (file_on x f) files)
    by_leaf None none good = rest
    by_leaf (Some leaf) found good = by_up leaf found good leaf.up

    by_good : (b : Bool) → x.good ≡ b
        → AreFilesOf c (cond (b && is_up tree (resource_name c x.leaf)) (told c x ∷ es) es) (and_files (elim b as (λ _. Option OldFile) [ true ↦ file_on x (resource c x.leaf) | false ↦ None ]) files)
    by_good true good =
        subst (λ up. AreFilesOf c (cond up (told c x ∷ es) es) (and_files (file_on x (resource c x.leaf)) files)) (sym (up_is x here)) (by_leaf (resource c x.leaf) refl good)
    by_good false bad = rest

    one_more : AreFilesOf c (cond (can (told c x)) (told c x ∷ es) es) (and_files (read_file c x) files)
    one_more = by_good x.good refl

  files_of : (xs : List ReplicaRow) → ((x : ReplicaRow) → IsIn xs x → IsIn c.replicas x) → AreFilesOf c (filter can (map (told c) xs)) (read_files c xs)
  files_of [] there = tt
  files_of (x ∷ xs) there = one_more x (there x (inl refl)) (filter can (map (told c) xs)) (read_files c xs) (files_of xs (λ y later. there y (inr later)))

  -- they are those of the replicas that can be read
  pub files_read : (o : ObjectRow) → AreFilesOf c (readable tree (object_of c o)) (read_files c (replicas_of c o.id))
  files_read o =
      subst (λ es. AreFilesOf c es (read_files c (replicas_of c o.id))) (sym (ap (filter can) (replicas-entries c s o))) (files_of (replicas_of c o.id) (λ x here. (row_in c s o.id x here).0))

  slots_are : (es : List (ℕ × Replica)) (files : List OldFile) → AreFilesOf c es files → slots_of tree (map (λ e. e.1.leaf) es) ≡ map (λ (file : OldFile). file.slot) files
  slots_are [] [] are = refl
  slots_are [] (file ∷ files) are = absurd are
  slots_are (e ∷ es) [] are = absurd are
  slots_are (e ∷ es) (file ∷ files) are =
      let one : slot_of tree e.1.leaf ≡ file.slot = ap (λ (x : ℕ × Replica). slot_of tree x.1.leaf) are.0.is ∙ slot_is c s are.0.row.leaf file.slot are.0.slot_is in
      λ i. one i ∷ slots_are es files are.1 i

  -- ---- their numbers

  number_of : (x : ReplicaRow) (file : OldFile) → read_file c x ≡ Some file → file.number ≡ x.number
  number_of x file is = by x.good (resource c x.leaf) is
    where
      new : ResourceRow → OldFile
      new leaf = record { slot = leaf.slot; name = x.vault; number = x.number; size = x.size; digest = x.digest }

      of_leaf : (leaf : ResourceRow) (up : Bool) → elim up as (λ _. Option OldFile) [ true ↦ Some (record { slot = leaf.slot; name = x.vault; number = x.number; size = x.size; digest = x.digest }) | false ↦ None ] ≡ Some file → file.number ≡ x.number
      of_leaf leaf true e = let number : Some x.number ≡ Some file.number = ap (option_map (λ (f : OldFile). f.number)) e in cc
      of_leaf leaf false e = absurd cc

      by : (good : Bool) (f : Option ResourceRow) → elim good as (λ _. Option OldFile) [ true ↦ file_on x f | false ↦ None ] ≡ Some file → file.number ≡ x.number
      by true None e = absurd cc
      by true (Some leaf) e = of_leaf leaf leaf.up e
      by false f e = absurd cc

  row_of_file : (xs : List ReplicaRow) (file : OldFile) → IsIn (read_files c xs) file → (x : ReplicaRow) × IsIn xs x × (file.number ≡ x.number)
  row_of_file [] file here = absurd here
  row_of_file (x ∷ xs) file here = by (read_file c x) refl here (λ later. row_of_file xs file later)
    where
      by : (o : Option OldFile) → read_file c x ≡ o → IsIn (and_files o (read_files c xs)) file → (IsIn (read_files c xs) file → (y : ReplicaRow) × IsIn xs y × (file.number ≡ y.number)) → (y : ReplicaRow) × IsIn (x ∷ xs) y × (file.number ≡ y.number)
      by None none here rest = let its = rest here in (its.0, inr its.1, its.2)
      by (Some f) is (inl same) rest = (x, inl refl, ap (λ (g : OldFile). g.number) (sym same) ∙ number_of x f is)
      by (Some f) is (inr later) rest = let its = rest later in (its.0, inr its.1, its.2)

  apart_read : (xs : List ReplicaRow) → Apart (λ (r : ReplicaRow). r.number) xs → Apart (λ (f : OldFile). f.number) (read_files c xs)
  apart_read [] apart = tt
  apart_read (x ∷ xs) apart = by (read_file c x) refl (apart_read xs apart.1)
    where
      by : (o : Option OldFile) → read_file c x ≡ o → Apart (λ (f : OldFile). f.number) (read_files c xs) → Apart (λ (f : OldFile). f.number) (and_files o (read_files c xs))
      by None none rest = rest
      by (Some f) is rest = (λ g later same. (let its = row_of_file xs g later in apart.0 its.0 its.1 (sym its.2 ∙ same ∙ number_of x f is)), rest)

  -- ---- those that were found bad

  found_in : (files : List OldFile) (b : BadReplica) (bad : List BadReplica) → AreFound files (b ∷ bad) → (f : OldFile) × IsIn files f × (b.number ≡ f.number)
  found_in [] b bad found = elim found [ ]
  found_in (file ∷ files) b bad (found_whole _ more) = let its = found_in files b bad more in (its.0, inr its.1, its.2)
  found_in (file ∷ files) b bad (found_bad _ _ number other more) = (file, inl refl, number)

  bad_so : (es : List (ℕ × Replica)) (files : List OldFile) (bad : List BadReplica) → AreFilesOf c es files → Apart (λ (f : OldFile). f.number) files → AreFound files bad → are_bad es bad ≡ true
  bad_so [] [] [] are apart found_none = refl
  bad_so [] [] (b ∷ bad) are apart found = elim found [ ]
  bad_so (e ∷ es) [] bad are apart found = elim are [ ]
  bad_so [] (file ∷ files) bad are apart found = absurd are
  bad_so (e ∷ es) (file ∷ files) [] are apart (found_whole _ more) = refl
  bad_so (e ∷ es) (file ∷ files) (b ∷ bad) are apart (found_whole _ more) =
      let its = found_in files b bad more in
      let number : file.number ≡ e.0 = ap (λ (f : OldFile). f.number) are.0.file_is ∙ ap (λ (x : ℕ × Replica). x.0) (sym are.0.is) in
      let other : (e.0 == b.number) ≡ false = ne_eqb e.0 b.number (λ same. apart.0 its.0 its.1 (sym its.2 ∙ sym same ∙ sym number)) in
      ap (λ t. elim t as (λ _. Bool) [ true ↦ differs b.len b.found e.1.size e.1.digest && are_bad es bad | false ↦ are_bad es (b ∷ bad) ]) other ∙ bad_so es files (b ∷ bad) are.1 apart.1 more
  bad_so (e ∷ es) (file ∷ files) (b ∷ bad) are apart (found_bad _ _ number other more) =
      let its_number : e.0 ≡ b.number = ap (λ (x : ℕ × Replica). x.0) are.0.is ∙ ap (λ (f : OldFile). f.number) (sym are.0.file_is) ∙ sym number in
      let size : file.size ≡ e.1.size = ap (λ (f : OldFile). f.size) are.0.file_is ∙ ap (λ (x : ℕ × Replica). x.1.size) (sym are.0.is) in
      let digest : file.digest ≡ e.1.digest = ap (λ (f : OldFile). f.digest) are.0.file_is ∙ ap (λ (x : ℕ × Replica). x.1.digest) (sym are.0.is) in
      ap (λ t. elim t as (λ _. Bool) [ true ↦ differs b.len b.found e.1.size e.1.digest && are_bad es bad | false ↦ are_bad es (b ∷ bad) ]) (eq-eqb e.0 b.number its_number)
      ∙ and_from (differs b.len b.found e.1.size e.1.digest) (are_bad es bad) ((λ i. differs b.len b.found (sym size i) (sym digest i)) ∙ other) (bad_so es files bad are.1 apart.1 more)

-- ---- the row

module _ (c : Cat) (user : Text) (p : Path) where
  abbrev g : Grid
  g = grid_of c

  -- the deed of a chksum of this object
  abbrev pub chksum_deed : Object → Deed
  chksum_deed o = record {
    size = o.size;
    digest = o.digest;
    ran = λ word now bad. with_replicas g p o (marked_bad o.replicas bad);
    touch = reading (readable g.resources o) (slots_of g.resources (map (λ e. e.1.leaf) (readable g.resources o)));
  }

  abbrev pub sum_tests : Or Source → Object → Or Act
  sum_tests first o = first >>= (λ _. Ok (deed (chksum_deed o)))

  abbrev rest : Object → Or Act
  rest o = sum_tests (first_of g o (readable g.resources o)) o

  pub no_sums : (e : Refusal) → FindsObject c user p Write (Err e) → FindsChksum c user p (Err (Refused e))
  no_sums e none = none rest

  module _ (made : IsMade c) (id : ℕ) (its : IsAllowed c user p Write id) where
    abbrev s : IsSound c
    s = sound_of c made

    its_row : (o : ObjectRow) × (object c id ≡ Some o)
    its_row = row_at c made user p Write id (sym its.at)

    abbrev o : ObjectRow
    o = its_row.0

    id_is : o.id ≡ id
    id_is = eqb-true o.id id (in_from_find (λ (x : ObjectRow). x.id == id) c.objects o its_row.1).1

    abbrev es : List (ℕ × Replica)
    es = readable g.resources (object_of c o)

    row_is : chksum_row g user p ≡ sum_tests (first_of g (object_of c o) es) (object_of c o)
    row_is = allowed_row c made user p Write id its o its_row.1 rest

    files_are : (files : List OldFile) → files ≡ read_files c (replicas_of c id) → AreFilesOf c es files
    files_are files is = subst (AreFilesOf c es) (ap (λ n. read_files c (replicas_of c n)) id_is ∙ sym is) (files_read c s o)

    pub no_file_read : read_files c (replicas_of c id) ≡ [] → chksum_row g user p ≡ Err NoReplica
    no_file_read none = row_is ∙ ap (λ x. sum_tests x (object_of c o)) (by es (files_are [] (sym none)))
      where
        by : (xs : List (ℕ × Replica)) → AreFilesOf c xs [] → first_of g (object_of c o) xs ≡ Err NoReplica
        by [] are = refl
        by (e ∷ xs) are = absurd are

    module _ (files : List OldFile) (is : files ≡ read_files c (replicas_of c id)) (some : files ≢ []) where
      abbrev slots : List ℕ
      slots = slots_of g.resources (map (λ e. e.1.leaf) es)

      slots_so : slots ≡ map (λ (file : OldFile). file.slot) files
      slots_so = slots_are c s es files (files_are files is)

      any_first : (x : Source) × (first_of g (object_of c o) es ≡ Ok x)
      any_first = by es files (files_are files is) some
        where
          by : (xs : List (ℕ × Replica)) (fs : List OldFile) → AreFilesOf c xs fs → fs ≢ [] → (x : Source) × (first_of g (object_of c o) xs ≡ Ok x)
          by [] [] are any = absurd (any refl)
          by [] (f ∷ fs) are any = absurd are
          by (e ∷ xs) fs are any = (record { object = object_of c o; number = e.0; slot = slot_of g.resources e.1.leaf }, refl)

      apart : Apart (λ (f : OldFile). f.number) files
      apart = subst (Apart (λ (f : OldFile). f.number)) (ap (λ n. read_files c (replicas_of c n)) id_is ∙ sym is) (apart_read c s (replicas_of c o.id) (rows_apart c s o.id))

      pub may_chksum : MayChksum c user p files
      may_chksum = record {
        of = chksum_deed (object_of c o);
        row_is = row_is ∙ ap (λ x. sum_tests x (object_of c o)) any_first.1;
        read = es;
        touch_is = ap (reading es) slots_so;
        files_are = files_are files is;
        faults = all_from_in (λ (file : OldFile). IsTrue (fault_fits (reading es slots) (object_of c o).size file.slot 0)) files (λ file here.
            and_from _ _ (any_from_in (λ n. n == file.slot) slots file.slot (subst (λ (xs : List ℕ). IsIn xs file.slot) (sym slots_so) (map_from_in (λ (f : OldFile). f.slot) files file here)) (eq-eqb file.slot file.slot refl)) refl);
        ran = λ word now bad found. bad_so c s es files bad (files_are files is) apart found;
      }

-- ---- whether there are any

pub none_so_far : (files : List OldFile) → true ≡ (length files == 0) → files ≡ []
none_so_far [] is = refl
none_so_far (f ∷ files) is = absurd (omega (arith, eqb-true (length (f ∷ files)) 0 (sym is)))

pub some_so_far : (seen files : List OldFile) → seen ≡ files → false ≡ (length seen == 0) → files ≢ []
some_so_far [] files same is = let zero_is : (0 == 0) ≡ true = eq-eqb 0 0 refl in absurd cc
some_so_far (f ∷ seen) files same is = λ none. (let wrong : f ∷ seen ≡ [] = same ∙ none in cc)
