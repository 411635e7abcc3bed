-- What a deed of a store does is what it may do. Proofs, which what a store means carries with it.
use Rattle.std.proofs.Common.{◌≡◌, ◌⊎◌, inl, inr, ℕ, ◌+◌, ◌^◌, ◌<◌, Bool, true, false, List, [], ◌++◌, length, Option, Some, None, is_none}
use Rattle.std.proofs.Common.{if◌then◌else◌, arith, refl, sym, ap, subst, ◌∙◌, length-append, lit<}
use Rattle.std.specs.FinMap.{insert}
use Rattle.grid_outside.specs.Files.{File, Files, file_at, finished, IsHashable, Writes}
use Rattle.grid_mem.specs.declared.store_deed.StoreDeed.{StoreDeed}
use Rattle.grid_mem.specs.declared.store_deed.StoreDeed.TheVariants.{Create, Append, Finish, Remove}
use Rattle.grid_mem.specs.CallLaws.{Laws, both, lt_of}
use Rattle.grid_mem.specs.FilesLaws.{at_same, at_other, at_removed, at_kept}
use Rattle.grid_mem.specs.StoreCalls.{call_fitted, store_kind, store_done, store_fits, store_after, StoreMay, StoreSure, is_begun, bytes_of}

pub writes_same : (name : ℕ) (files : Files) → Writes name files files
writes_same name files = record { others = λ other not_same. refl; stable = λ bytes is. is; short = λ short. short }

not_finished : (o : Option File) (bytes : List ℕ) {A : Type 0} → (is_none o ≡ true) ⊎ (is_begun o ≡ true) → o ≡ finished bytes → A
not_finished o bytes (inl none) is = absurd (cc (sym none ∙ ap is_none is))
not_finished o bytes (inr some) is = absurd (cc (sym some ∙ ap is_begun is))

writes_one : (name : ℕ) (files : Files) (f : File) → (is_none (file_at files name) ≡ true) ⊎ (is_begun (file_at files name) ≡ true)
    → (IsHashable (file_at files name) → IsHashable (Some f)) → Writes name files (insert files name f)
writes_one name files f open_file short = record {
  others = λ other not_same. at_other files name other f not_same;
  stable = λ bytes is. not_finished (file_at files name) bytes open_file is;
  short = λ was. subst IsHashable (sym (at_same files name f)) (short was);
}

short_bytes : (o : Option File) → IsHashable o → length (bytes_of o) < 2 ^ 61
short_bytes None short = lit< tt
short_bytes (Some f) short = short

done_may : (deed : StoreDeed) (files : Files) → store_fits files deed ≡ true → StoreMay deed files (store_done files deed)
done_may (Create name) files fits = writes_one name files (record { bytes = []; finished = false }) (inl fits) (λ was. lit< tt)
done_may (Append name written) files fits =
    let parts = both _ _ fits in
    writes_one name files (record { bytes = bytes_of (file_at files name) ++ written.items; finished = false }) (inr parts.0)
    (λ was. omega (
      arith,
      length-append (bytes_of (file_at files name)) written.items,
      lt_of (length (bytes_of (file_at files name)) + length written.items)
          (2 ^ 61) parts.1,
    ))
done_may (Finish name) files fits =
    writes_one name files (record { bytes = bytes_of (file_at files name); finished = true }) (inr fits) (short_bytes (file_at files name))
done_may (Remove name) files fits = record { others = λ other not_same. at_kept files name other not_same; there_or_not = inr (at_removed files name) }

pub nothing_may : (deed : StoreDeed) (files : Files) → StoreMay deed files files
nothing_may (Create name) files = writes_same name files
nothing_may (Append name written) files = writes_same name files
nothing_may (Finish name) files = writes_same name files
nothing_may (Remove name) files = record { others = λ other not_same. refl; there_or_not = inl refl }

pub after_done : (deed : StoreDeed) (files : Files) → store_fits files deed ≡ true → store_after files deed true ≡ store_done files deed
after_done deed files fits = ap (λ (b : Bool). if b then store_done files deed else files) fits

store_may : (deed : StoreDeed) (done : Bool) (files : Files) → call_fitted files deed done ≡ true → StoreMay deed files (store_after files deed done)
store_may deed true files fits = subst (StoreMay deed files) (sym (after_done deed files fits)) (done_may deed files fits)
store_may deed false files fits = nothing_may deed files

store_sure : (deed : StoreDeed) (done : Bool) (files : Files) → StoreSure deed done files files
store_sure (Finish name) true files = refl
store_sure (Remove name) true files = refl
store_sure (Finish name) false files = tt
store_sure (Remove name) false files = tt
store_sure (Create name) done files = tt
store_sure (Append name written) done files = tt

pub store_laws : Laws store_kind
store_laws = record { may = store_may; sure = store_sure }
