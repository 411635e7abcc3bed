-- A new object may be put on any leaves, if its changes apply.
use Rattle.std.proofs.Common.{◌≡◌, ◌⊎◌, inl, inr, ℕ, zero, suc, ◌+◌, ◌<◌, true, false, List, [], ◌∷◌, ◌++◌, length, slice_get, Some, Ok, IsTrue, refl, sym, ap, ◌∙◌, subst, arith}
use Rattle.std.specs.Prelude.{◌==◌, ◌≢◌, not, All, filter, find, option_map}
use Rattle.std.specs.List.{list_all, list_any}
use Rattle.std.specs.declared.cmp.Ordering.TheVariants.{Equal}
use Rattle.std.proofs.lemmas.Bool.Decides.{eqb_tells}
use Rattle.grid_model.specs.Digests.{HasDigest}
use Rattle.grid_model.specs.Names.{Text}
use Rattle.grid_model.specs.Rows.{Cat, object, has_object, with_row, object_cmp, orphan_cmp, replica_cmp}
use Rattle.grid_model.specs.Applying.{apply, apply_all, orphan_fits, object_fits, replica_fits, has_orphan}
use Rattle.grid_model.specs.Whole.{leaf_slot, IsNamed}
use Rattle.grid_model.specs.declared.deltas.Delta.{Delta}
use Rattle.grid_model.specs.declared.deltas.Delta.TheVariants as delta
use Rattle.grid_model.specs.declared.deltas.ObjectRow.{ObjectRow}
use Rattle.grid_model.specs.declared.deltas.ReplicaRow.{ReplicaRow}
use Rattle.grid_model.specs.declared.deltas.ResourceRow.{ResourceRow}
use Rattle.grid_model.specs.declared.deltas.OrphanRow.{OrphanRow}
use Rattle.grid_model.specs.declared.plans.NewFile.{NewFile}
use Rattle.grid_model.specs.declared.plans.Plan.{Plan}
use Rattle.grid_journal.specs.Journal.{can_be_kept}
use Rattle.grid_vault.specs.Vault.{IsAmong}
use Rattle.grid_vault.proofs.Writing.{all_of}
use Rattle.tables_laws.proofs.Rows.{IsIn, in_from_all, in_from_with_row, new_in_with_row, old_in_with_row, filter_from_in}
use Rattle.tables_laws.proofs.Numbered.{same_number, one_number, put_found}
use Rattle.tables_laws.proofs.Standing.{ReplicaStands}
use Rattle.tables_laws.proofs.Sound.{IsSound, sound-apply, sound-apply_all, fits_so, ok-same, after_first}
use Rattle.file_laws.specs.Plans.{new_file, Turns, IsPlan}
use Rattle.file_laws.specs.Puts.{Target, files_from, orphans_from, replicas_from, put_before, put_after}
use Rattle.file_laws.proofs.Members.{no_files, among_first, among_rest, among_where}
use Rattle.file_laws.proofs.Turning.{turns_then, turns_self, turns_as, turns_apply, turns_new_object, turns_orphan, orphan_named, no_orphan, turns_filed, same_key}

-- the rows that changes of orphans and numbers leave alone
pub record Same (c d : Cat) : Type 0 where
  pub objects : d.objects ≡ c.objects
  pub replicas : d.replicas ≡ c.replicas
  pub resources : d.resources ≡ c.resources
  pub stores : d.stores ≡ c.stores

same_as : (c d e : Cat) → d ≡ e → Same c d → Same c e
same_as c d e is s = let P : Cat → Type 0 = λ x. Same c x in subst P is s

same_then : (c d e : Cat) → Same c d → Same d e → Same c e
same_then c d e one two = record { objects = two.objects ∙ one.objects; replicas = two.replicas ∙ one.replicas; resources = two.resources ∙ one.resources; stores = two.stores ∙ one.stores }

-- the orphans of the targets stand there, numbered from this one on
abbrev pub AreThere : ℕ → List Target → List OrphanRow → Type 0
AreThere v [] rows = Unit {0}
AreThere v (t ∷ ts) rows = IsIn rows (record { vault = v; slot = t.slot }) × AreThere (v + 1) ts rows

-- and the files are among these
abbrev pub AreMade : ℕ → List Target → List NewFile → Type 0
AreMade v [] files = Unit {0}
AreMade v (t ∷ ts) files = IsAmong files t.slot v × AreMade (v + 1) ts files

-- ---- before

step_orphan : (c d : Cat) (o : OrphanRow) → apply c (delta.Orphan o) ≡ Ok d → (orphan_fits c o ≡ true) × (record c { orphans = with_row orphan_cmp c.orphans o } ≡ d)
step_orphan c d o e = fits_so (orphan_fits c o) 17 (record c { orphans = with_row orphan_cmp c.orphans o }) d e

same_orphans : (ts : List Target) (v : ℕ) (c d : Cat) → apply_all c (orphans_from v ts) ≡ Ok d → Same c d
same_orphans [] v c d e = same_as c c d (ok-same c d (apply_all c []) refl e) (record { objects = refl; replicas = refl; resources = refl; stores = refl })
same_orphans (t ∷ ts) v c d e =
    let step = after_first (apply c (delta.Orphan (record { vault = v; slot = t.slot }))) (orphans_from (v + 1) ts) d e in
    let is = step_orphan c step.0 (record { vault = v; slot = t.slot }) step.1 in
    same_then c step.0 d (same_as c (record c { orphans = with_row orphan_cmp c.orphans (record { vault = v; slot = t.slot }) }) step.0 is.1 (record { objects = refl; replicas = refl; resources = refl; stores = refl })) (same_orphans ts (v + 1) step.0 d step.2)

-- an orphan stays
stays : (ts : List Target) (v : ℕ) (c d : Cat) (x : OrphanRow) → IsIn c.orphans x → apply_all c (orphans_from v ts) ≡ Ok d → IsIn d.orphans x
stays [] v c d x here e = let P : Cat → Type 0 = λ y. IsIn y.orphans x in subst P (ok-same c d (apply_all c []) refl e) here
stays (t ∷ ts) v c d x here e =
    let o : OrphanRow = record { vault = v; slot = t.slot } in
    let step = after_first (apply c (delta.Orphan o)) (orphans_from (v + 1) ts) d e in
    let is = step_orphan c step.0 o step.1 in
    let P : Cat → Type 0 = λ y. IsIn y.orphans x in
    stays ts (v + 1) step.0 d x (subst P is.1 (old_in_with_row orphan_cmp c.orphans o x here (λ same. no_orphan [] [] c o is.0 x here (sym (same_number o.vault x.vault same))))) step.2

-- they stand there, each names its file, and nothing else changes
there_after : (ts : List Target) (v : ℕ) (c d : Cat) → apply_all c (orphans_from v ts) ≡ Ok d → AreThere v ts d.orphans
there_after [] v c d e = tt
there_after (t ∷ ts) v c d e =
    let o : OrphanRow = record { vault = v; slot = t.slot } in
    let step = after_first (apply c (delta.Orphan o)) (orphans_from (v + 1) ts) d e in
    let is = step_orphan c step.0 o step.1 in
    let P : Cat → Type 0 = λ y. IsIn y.orphans o in
    (stays ts (v + 1) step.0 d o (subst P is.1 (new_in_with_row orphan_cmp c.orphans o)) step.2, there_after ts (v + 1) step.0 d step.2)

turns_orphans : (ts : List Target) (v : ℕ) (c d : Cat) → apply_all c (orphans_from v ts) ≡ Ok d → Turns [] [] c d
turns_orphans [] v c d e = turns_as [] [] c c d (ok-same c d (apply_all c []) refl e) (turns_self [] [] c)
turns_orphans (t ∷ ts) v c d e =
    let o : OrphanRow = record { vault = v; slot = t.slot } in
    let step = after_first (apply c (delta.Orphan o)) (orphans_from (v + 1) ts) d e in
    let is = step_orphan c step.0 o step.1 in
    turns_then [] [] c step.0 d (turns_as [] [] c (record c { orphans = with_row orphan_cmp c.orphans o }) step.0 is.1 (turns_orphan [] [] c o is.0)) (turns_orphans ts (v + 1) step.0 d step.2)

named_orphans : (ts : List Target) (v : ℕ) (c d : Cat) → apply_all c (orphans_from v ts) ≡ Ok d → (slot name : ℕ) → IsAmong (files_from v ts) slot name → IsNamed d slot name
named_orphans [] v c d e slot name a = absurd (no_files slot name a)
named_orphans (t ∷ ts) v c d e slot name a =
    let o : OrphanRow = record { vault = v; slot = t.slot } in
    let step = after_first (apply c (delta.Orphan o)) (orphans_from (v + 1) ts) d e in
    let is = step_orphan c step.0 o step.1 in
    let C : Cat → Type 0 = λ x. IsNamed x t.slot v in
    let S : ℕ → Type 0 = λ s. IsNamed d s v in
    let N : ℕ → Type 0 = λ m. IsNamed d slot m in
    elim (among_where (record { slot = t.slot; name = v }) (files_from (v + 1) ts) slot name a) [
      | inl it ↦ subst N it.1 (subst S it.0 ((turns_orphans ts (v + 1) step.0 d step.2).named t.slot v (subst C is.1 (orphan_named [] [] c o is.0))))
      | inr rest ↦ named_orphans ts (v + 1) step.0 d step.2 slot name rest
    ]

-- ---- the files

made_more : (ts : List Target) (v : ℕ) (f : NewFile) (files : List NewFile) → AreMade v ts files → AreMade v ts (f ∷ files)
made_more [] v f files m = tt
made_more (t ∷ ts) v f files m = (among_rest f files t.slot v m.0, made_more ts (v + 1) f files m.1)

pub made_all : (ts : List Target) (v : ℕ) → AreMade v ts (files_from v ts)
made_all [] v = tt
made_all (t ∷ ts) v = (among_first (record { slot = t.slot; name = v }) (files_from (v + 1) ts) t.slot v refl refl, made_more ts (v + 1) (record { slot = t.slot; name = v }) (files_from (v + 1) ts) (made_all ts (v + 1)))

slots_small : (ts : List Target) (v : ℕ) (d : Cat) → IsSound d → AreThere v ts d.orphans → (i : ℕ) (f : NewFile) → slice_get (files_from v ts) i ≡ Some f → f.slot < d.stores
slots_small [] v d s there i f is = absurd cc
slots_small (t ∷ ts) v d s there zero f is =
    let same : record { slot = t.slot; name = v } ≡ f = cc in
    let P : NewFile → Type 0 = λ x. x.slot < d.stores in
    subst P same (s.vaults.orphans (record { vault = v; slot = t.slot }) there.0).2
slots_small (t ∷ ts) v d s there (suc i) f is = slots_small ts (v + 1) d s there.1 i f is

-- ---- after

pub past : (ts : List Target) (v w : ℕ) (rows : List OrphanRow) → w < v → AreThere v ts rows → AreThere v ts (filter (λ o. not (o.vault == w)) rows)
past [] v w rows lt there = tt
past (t ∷ ts) v w rows lt there = (filter_from_in (λ (o : OrphanRow). not (o.vault == w)) rows (record { vault = v; slot = t.slot }) there.0 (apart (eqb_tells v w)), past ts (v + 1) w rows (omega (arith, lt)) there.1)
  where
    apart : ((v == w) ≡ true) × (v ≡ w) ⊎ ((v == w) ≡ false) × (v ≢ w) → not (v == w) ≡ true
    apart (inl same) = absurd (omega (arith, same.1, lt))
    apart (inr other) = ap not other.0

module _ (made : List NewFile) (body : Text) (o : ObjectRow) (has : HasDigest o.size o.digest body) where
  pub turns_replicas : (ts : List Target) (number v : ℕ) (c d : Cat) → IsSound c → AreThere v ts c.orphans → AreMade v ts made → ((t : Target) → IsIn ts t → leaf_slot c t.leaf ≡ Some t.slot) → object c o.id ≡ Some o
      → ((y : ReplicaRow) → IsIn c.replicas y → y.object ≡ o.id → y.number < number) → (more : List Delta) → apply_all c (replicas_from o number v ts ++ more) ≡ Ok d → (e : Cat) × Turns made body c e × (apply_all e more ≡ Ok d)
  turns_replicas [] number v c d s there files leaves found below more e = (c, turns_self made body c, e)
  turns_replicas (t ∷ ts) number v c d s there files leaves found below more e =
      let r : ReplicaRow = record { object = o.id; number = number; leaf = t.leaf; good = true; size = o.size; digest = o.digest; vault = v } in
      let x : OrphanRow = record { vault = v; slot = t.slot } in
      let one = after_first (apply c (delta.NoOrphan v)) (delta.Replica r ∷ (replicas_from o (number + 1) (v + 1) ts ++ more)) d e in
      let two = after_first (apply one.0 (delta.Replica r)) (replicas_from o (number + 1) (v + 1) ts ++ more) d one.2 in
      let freed = fits_so (has_orphan c v) 18 (record c { orphans = filter (λ o. not (o.vault == v)) c.orphans }) one.0 one.1 in
      let kept = fits_so (replica_fits one.0 r) 9 (record one.0 { replicas = with_row replica_cmp one.0.replicas r }) two.0 two.1 in
      let filed : Cat = record c { replicas = with_row replica_cmp c.replicas r; orphans = filter (λ o. not (o.vault == v)) c.orphans } in
      let F : Cat → Type 0 = λ y. record y { replicas = with_row replica_cmp y.replicas r } ≡ two.0 in
      let is : filed ≡ two.0 = subst F (sym freed.1) kept.1 in
      let fresh : (y : ReplicaRow) → IsIn c.replicas y → replica_cmp r y ≡ Equal → ⊥ = λ y here same. (let k = same_key r y same in omega (arith, below y here (sym k.0), k.1)) in
      let step : Turns made body c filed = turns_filed made body c x there.0 (λ y here e. one_number (λ (o : OrphanRow). o.vault) c.orphans y x s.cat.orphans.ordered here there.0 e) r refl (leaves t (inl refl)) fresh (λ good. record { row = o; there = found; size = refl; digest = refl }) (λ good. new_file files.0 has) in
      let T : Cat → Type 0 = λ y. AreThere (v + 1) ts y.orphans in
      let L : Cat → Type 0 = λ y. (u : Target) → IsIn ts u → leaf_slot y u.leaf ≡ Some u.slot in
      let O : Cat → Type 0 = λ y. object y o.id ≡ Some o in
      let B : Cat → Type 0 = λ y. (z : ReplicaRow) → IsIn y.replicas z → z.object ≡ o.id → z.number < number + 1 in
      let rest = turns_replicas ts (number + 1) (v + 1) two.0 d (sound-apply one.0 two.0 (delta.Replica r) (sound-apply c one.0 (delta.NoOrphan v) s one.1) two.1)
      (subst T is (past ts (v + 1) v c.orphans (omega arith) there.1)) files.1 (subst L is (λ u later. leaves u (inr later))) (subst O is found)
      (subst B is (λ z here its. elim (in_from_with_row replica_cmp c.replicas r z here) [
        | inl same ↦ omega (arith, ap (λ (y : ReplicaRow). y.number) same)
        | inr was ↦ omega (arith, below z was its)
      ])) more two.2 in
      (rest.0, turns_then made body c two.0 rest.0 (turns_as made body c filed two.0 is step) rest.1, rest.2)

-- ---- the plan

-- the files are orphans
module _ (c : Cat) (ts : List Target) (mid : Cat) (first : apply_all c (put_before c ts) ≡ Ok mid) where
  abbrev v : ℕ
  v = c.numbers.next_vault

  numbered : (e : Cat) × (apply c (delta.Numbers (record c.numbers { next_vault = v + length ts })) ≡ Ok e) × (apply_all e (orphans_from v ts) ≡ Ok mid)
  numbered = after_first (apply c (delta.Numbers (record c.numbers { next_vault = v + length ts }))) (orphans_from v ts) mid first

  numbered_same : Same c numbered.0
  numbered_same = same_as c (record c { numbers = record c.numbers { next_vault = v + length ts } }) numbered.0 (fits_so _ 19 (record c { numbers = record c.numbers { next_vault = v + length ts } }) numbered.0 numbered.1).1 (record { objects = refl; replicas = refl; resources = refl; stores = refl })

  pub mid_same : Same c mid
  mid_same = same_then c numbered.0 mid numbered_same (same_orphans ts v numbered.0 mid numbered.2)

  pub mid_there : AreThere v ts mid.orphans
  mid_there = there_after ts v numbered.0 mid numbered.2

  pub put_begins : Turns [] [] c mid
  put_begins = turns_then [] [] c numbered.0 mid (turns_apply [] [] c numbered.0 (delta.Numbers (record c.numbers { next_vault = v + length ts })) refl numbered.1) (turns_orphans ts v numbered.0 mid numbered.2)

  pub put_named : (slot name : ℕ) → IsAmong (files_from v ts) slot name → IsNamed mid slot name
  put_named = named_orphans ts v numbered.0 mid numbered.2

  pub put_slots : IsSound c → (stores : ℕ) → c.stores ≡ stores → All (λ f. f.slot < stores) (files_from v ts)
  put_slots s stores stores_are = all_of (λ f. f.slot < stores) (files_from v ts) (λ i f is. omega (arith, slots_small ts v mid (sound-apply_all (put_before c ts) c mid s first) mid_there i f is, mid_same.stores, stores_are))

-- and then they are the object's
module _ (c : Cat) (s : IsSound c) (stores : ℕ) (stores_are : c.stores ≡ stores) (o : ObjectRow) (fresh : has_object c o.id ≡ false) (body : Text) (has : HasDigest o.size o.digest body) (ts : List Target) (leaves : (t : Target) → IsIn ts t → leaf_slot c t.leaf ≡ Some t.slot) (n : ℕ) (mid end : Cat)
    (first : apply_all c (put_before c ts) ≡ Ok mid) (then : apply_all mid (put_after c o ts n) ≡ Ok end) where
  mid_sound : IsSound mid
  mid_sound = sound-apply_all (put_before c ts) c mid s first

  abbrev vault : ℕ
  vault = c.numbers.next_vault

  its_object : (e : Cat) × (apply mid (delta.Object o) ≡ Ok e) × (apply_all e (replicas_from o 0 vault ts ++ delta.Numbers (record { next_vault = vault + length ts; run = c.numbers.run; last = n }) ∷ []) ≡ Ok end)
  its_object = after_first (apply mid (delta.Object o)) (replicas_from o 0 vault ts ++ delta.Numbers (record { next_vault = vault + length ts; run = c.numbers.run; last = n }) ∷ []) end then

  object_is : record mid { objects = with_row object_cmp mid.objects o } ≡ its_object.0
  object_is = (fits_so (object_fits mid o) 7 (record mid { objects = with_row object_cmp mid.objects o }) its_object.0 its_object.1).1

  mid_fresh : has_object mid o.id ≡ false
  mid_fresh = ap (λ (rows : List ObjectRow). list_any (λ (r : ObjectRow). r.id == o.id) rows) (mid_same c ts mid first).objects ∙ fresh

  no_replica_yet : (y : ReplicaRow) → IsIn mid.replicas y → y.object ≡ o.id → ⊥
  no_replica_yet y here is =
      let there : has_object mid y.object ≡ true = (in_from_all (ReplicaStands mid) mid.replicas mid_sound.tied.replicas y here).0 in
      let wrong : has_object mid o.id ≡ true = ap (has_object mid) (sym is) ∙ there in
      let not_there : has_object mid o.id ≡ false = mid_fresh in
      cc

  leaves_mid : (t : Target) → IsIn ts t → leaf_slot mid t.leaf ≡ Some t.slot
  leaves_mid t here = ap (λ (rows : List ResourceRow). option_map (λ (r : ResourceRow). r.slot) (find (λ (r : ResourceRow). r.id == t.leaf) rows)) (mid_same c ts mid first).resources ∙ leaves t here

  replicas : (e : Cat) × Turns (files_from vault ts) body its_object.0 e × (apply_all e (delta.Numbers (record { next_vault = vault + length ts; run = c.numbers.run; last = n }) ∷ []) ≡ Ok end)
  replicas =
      let T : Cat → Type 0 = λ y. AreThere vault ts y.orphans in
      let L : Cat → Type 0 = λ y. (u : Target) → IsIn ts u → leaf_slot y u.leaf ≡ Some u.slot in
      let O : Cat → Type 0 = λ y. object y o.id ≡ Some o in
      let B : Cat → Type 0 = λ y. (z : ReplicaRow) → IsIn y.replicas z → z.object ≡ o.id → z.number < 0 in
      turns_replicas (files_from vault ts) body o has ts 0 vault its_object.0 end (sound-apply mid its_object.0 (delta.Object o) mid_sound its_object.1)
      (subst T object_is (mid_there c ts mid first)) (made_all ts vault) (subst L object_is leaves_mid) (subst O object_is (put_found (λ (x : ObjectRow). x.id) mid.objects o))
      (subst B object_is (λ z here is. absurd (no_replica_yet z here is))) _ its_object.2

  ends : Turns (files_from vault ts) body mid end
  ends =
      let numbers = after_first (apply replicas.0 (delta.Numbers (record { next_vault = vault + length ts; run = c.numbers.run; last = n }))) [] end replicas.2 in
      turns_then (files_from vault ts) body mid its_object.0 end
      (turns_as (files_from vault ts) body mid (record mid { objects = with_row object_cmp mid.objects o }) its_object.0 object_is (turns_new_object (files_from vault ts) body mid mid_sound o mid_fresh))
      (turns_then (files_from vault ts) body its_object.0 replicas.0 end replicas.1
      (turns_as (files_from vault ts) body replicas.0 numbers.0 end (ok-same numbers.0 end (apply_all numbers.0 []) refl numbers.2) (turns_apply (files_from vault ts) body replicas.0 numbers.0 (delta.Numbers (record { next_vault = vault + length ts; run = c.numbers.run; last = n })) refl numbers.1)))

  -- a body may be put on all of them
  pub put_plan : (plan : Plan) → plan.before ≡ put_before c ts → plan.files ≡ files_from vault ts → plan.after ≡ put_after c o ts n → IsTrue (list_all can_be_kept plan.before) → IsTrue (list_all can_be_kept plan.after) → IsPlan c c stores plan body
  put_plan plan before_is files_are after_is spelled_first spelled_then =
      let N : List NewFile → Type 0 = λ fs. (slot name : ℕ) → IsAmong fs slot name → IsNamed mid slot name in
      let T : List NewFile → Type 0 = λ fs. Turns fs body mid end in
      let S : List NewFile → Type 0 = λ fs. All (λ f. f.slot < stores) fs in
      record {
        mid = mid;
        end = end;
        first = ap (apply_all c) before_is ∙ first;
        then = ap (apply_all mid) after_is ∙ then;
        spelled_first = spelled_first;
        spelled_then = spelled_then;
        slots = subst S (sym files_are) (put_slots c ts mid first s stores stores_are);
        begins = put_begins c ts mid first;
        named = subst N (sym files_are) (put_named c ts mid first);
        ends = subst T (sym files_are) ends;
      }
