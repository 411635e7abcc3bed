use Rattle.std.proofs.Common.{◌≡◌, ℕ, true, false, [], Option, Some, is_none, refl, sym, ap, subst, ◌∙◌}
use Rattle.std.specs.Ordering.{nat_cmp}
use Rattle.std.specs.FinMap.{empty, get-empty}
use Rattle.grid_outside.specs.Files.{File, Files, file_at, finished}
use Rattle.grid_outside.specs.StoreModel.{Known, exactly, MayBe, after_writing}
use Rattle.grid_mem.specs.declared.store_deed.StoreDeed.TheVariants.{Create, Finish}
use Rattle.grid_mem.specs.FilesLaws.{at_same}
use Rattle.grid_mem.specs.StoreCalls.{store_after, with_file, is_begun, bytes_of, known_files_after, MayBeFiles}
use Rattle.grid_mem.specs.StoreLaws.{after_done}
use Rattle.grid_mem.proofs.StoreLeaving.{to_each, to_own, own_known}
use Rattle.grid_mem.proofs.tests.pictures.a_new_file.Goals as goal

at_first : ℕ → Known
at_first name = exactly (file_at empty name)

created : MayBeFiles (known_files_after true empty (Create 7) true at_first) empty
unfolding own_known at_first
created =
    let P : Option File → Type 0 = λ o. MayBe (after_writing (exactly o)) o in
    to_each true empty (Create 7) true at_first empty (subst P (sym (get-empty nat_cmp 7)) tt) (λ other apart. refl)

pub returns-clause-absent : goal.returns-clause-absent
unfolding own_known at_first
returns-clause-absent c =
    let P : Option File → Type 0 = λ o. MayBe (after_writing (after_writing (exactly o))) o in
    to_each false (store_after empty (Create 7) true) (Finish 7) true (known_files_after true empty (Create 7) true at_first) empty (subst P (sym (get-empty nat_cmp 7)) tt) (λ other apart. created other)

new_file : Files
new_file = with_file empty 7 [] false

create_is : store_after empty (Create 7) true ≡ new_file
unfolding new_file
create_is = after_done (Create 7) empty (ap is_none (get-empty nat_cmp 7))

begun_is : file_at new_file 7 ≡ Some (record { bytes = []; finished = false })
unfolding new_file
begun_is = at_same empty 7 (record { bytes = []; finished = false })

finish_is : file_at (store_after new_file (Finish 7) true) 7 ≡ finished []
finish_is =
    ap (λ (fs : Files). file_at fs 7) (after_done (Finish 7) new_file (ap is_begun begun_is)) ∙ at_same new_file 7 (record { bytes = bytes_of (file_at new_file 7); finished = true })
    ∙ ap (λ (o : Option File). finished (bytes_of o)) begun_is

pub returns-clause-stable : goal.returns-clause-stable
unfolding own_known at_first
returns-clause-stable c image allowed =
    to_own true (store_after empty (Create 7) true) (Finish 7) true (known_files_after true empty (Create 7) true at_first) image allowed
    ∙ ap (λ (fs : Files). file_at (store_after fs (Finish 7) true) 7) create_is ∙ finish_is
