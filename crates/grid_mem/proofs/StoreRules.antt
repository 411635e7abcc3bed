-- The steps of a store, one after another, leave of each file what its rules allow.
use Rattle.std.proofs.Common.{◌≡◌, ◌≢◌, ◌⊎◌, inl, inr, ℕ, Bool, true, false, Option, Some, None, refl, sym, subst, ◌∙◌}
use Rattle.std.proofs.Common.{List}
use Rattle.std.specs.FinMap.{insert, remove}
use Rattle.grid_outside.specs.Files.{File, Files, file_at, finished, IsHashable}
use Rattle.grid_outside.specs.StoreModel.{Known, exactly, there_or_not, anything, MayBe, after_writing, after_removing}
use Rattle.grid_mem.specs.FilesLaws.{at_same, at_other, at_removed, at_kept}

-- what is known of the file is of fewer than 2^61 bytes
abbrev pub IsKnownShort : Known → Type 0
IsKnownShort (exactly file) = IsHashable file
IsKnownShort (there_or_not file) = IsHashable (Some file)
IsKnownShort anything = Unit {0}

-- a file that is finished stays, and a short one stays short
pub record Rewrites (old new : Option File) : Type 0 where
  pub stable : (bytes : List ℕ) → old ≡ finished bytes → new ≡ finished bytes
  pub short : IsHashable old → IsHashable new

-- it is there as it was, or not there
abbrev pub Loses : Option File → Option File → Type 0
Loses old new = (new ≡ old) ⊎ (new ≡ None)

none_is_not : (bytes : List ℕ) {A : Type 0} → None ≡ finished bytes → A
none_is_not bytes e = absurd (cc e)

from_none : (new : Option File) → IsHashable new → Rewrites None new
from_none new short = record { stable = λ bytes e. none_is_not bytes e; short = λ was. short }

-- the file as it is, by its mark
finished_is : (file : File) → file.finished ≡ true → Some file ≡ finished file.bytes
finished_is file mark = λ i. Some (record { bytes = file.bytes; finished = mark i })

unfinished_is_not : (file : File) (bytes : List ℕ) {A : Type 0} → file.finished ≡ false → Some file ≡ finished bytes → A
unfinished_is_not file bytes mark e = absurd (cc (mark, e))

written_one : (file : File) (mark : Bool) → file.finished ≡ mark → (old new : Option File) → IsHashable (Some file) → old ≡ Some file → Rewrites old new → MayBe (elim mark [ true ↦ exactly (Some file) | false ↦ anything ]) new
written_one file true is old new short was rewrites = rewrites.stable file.bytes (was ∙ finished_is file is) ∙ sym (finished_is file is)
written_one file false is old new short was rewrites = rewrites.short (subst IsHashable (sym was) short)

unwritten_one : (file : File) (mark : Bool) → file.finished ≡ mark → (new : Option File) → MayBe (elim mark [ true ↦ exactly (Some file) | false ↦ anything ]) new → (old : Option File) × (old ≡ Some file) × Rewrites old new
unwritten_one file true is new allowed = (Some file, refl, record { stable = λ bytes e. allowed ∙ e; short = λ short. subst IsHashable (sym allowed) short })
unwritten_one file false is new allowed = (Some file, refl, record { stable = λ bytes e. unfinished_is_not file bytes is e; short = λ short. allowed })

-- a create, an append or a finish: from what was allowed before to what is allowed after
pub written : (known : Known) (old new : Option File) → IsKnownShort known → MayBe known old → Rewrites old new → MayBe (after_writing known) new
written (exactly None) old new short was rewrites = rewrites.short (subst IsHashable (sym was) tt)
written (exactly (Some file)) old new short was rewrites = written_one file file.finished refl old new short was rewrites
written (there_or_not file) old new short (inl was) rewrites = rewrites.short (subst IsHashable (sym was) short)
written (there_or_not file) old new short (inr was) rewrites = rewrites.short (subst IsHashable (sym was) tt)
written anything old new short was rewrites = rewrites.short was

-- and back
pub unwritten : (known : Known) (new : Option File) → MayBe (after_writing known) new → (old : Option File) × MayBe known old × Rewrites old new
unwritten (exactly None) new allowed = (None, refl, from_none new allowed)
unwritten (exactly (Some file)) new allowed = unwritten_one file file.finished refl new allowed
unwritten (there_or_not file) new allowed = (None, inr refl, from_none new allowed)
unwritten anything new allowed = (None, tt, from_none new allowed)

written_short_one : (file : File) (mark : Bool) → IsHashable (Some file) → IsKnownShort (elim mark [ true ↦ exactly (Some file) | false ↦ anything ])
written_short_one file true short = short
written_short_one file false short = tt

pub written_short : (known : Known) → IsKnownShort known → IsKnownShort (after_writing known)
written_short (exactly None) short = tt
written_short (exactly (Some file)) short = written_short_one file file.finished short
written_short (there_or_not file) short = tt
written_short anything short = tt

-- a removal: from what was allowed before to what is allowed after
pub removed : (known : Known) (old new : Option File) → MayBe known old → Loses old new → MayBe (after_removing known) new
removed (exactly None) old new was (inl same) = same ∙ was
removed (exactly None) old new was (inr gone) = gone
removed (exactly (Some file)) old new was (inl same) = inl (same ∙ was)
removed (exactly (Some file)) old new was (inr gone) = inr gone
removed (there_or_not file) old new (inl was) (inl same) = inl (same ∙ was)
removed (there_or_not file) old new (inr was) (inl same) = inr (same ∙ was)
removed (there_or_not file) old new was (inr gone) = inr gone
removed anything old new was (inl same) = subst IsHashable (sym same) was
removed anything old new was (inr gone) = subst IsHashable (sym gone) tt

-- and back
pub unremoved : (known : Known) (new : Option File) → MayBe (after_removing known) new → (old : Option File) × MayBe known old × Loses old new
unremoved (exactly None) new allowed = (None, refl, inr allowed)
unremoved (exactly (Some file)) new allowed = (Some file, refl, allowed)
unremoved (there_or_not file) new allowed = (new, allowed, inl refl)
unremoved anything new allowed = (new, allowed, inl refl)

pub removed_short : (known : Known) → IsKnownShort known → IsKnownShort (after_removing known)
removed_short (exactly None) short = tt
removed_short (exactly (Some file)) short = short
removed_short (there_or_not file) short = short
removed_short anything short = tt

-- the files with another file, or none, of this name
pub replaced : Files → ℕ → Option File → Files
replaced files name None = remove files name
replaced files name (Some file) = insert files name file

pub at_replaced : (files : Files) (name : ℕ) (file : Option File) → file_at (replaced files name file) name ≡ file
unfolding replaced
at_replaced files name None = at_removed files name
at_replaced files name (Some file) = at_same files name file

pub beside_replaced : (files : Files) (name : ℕ) (file : Option File) (other : ℕ) → other ≢ name → file_at (replaced files name file) other ≡ file_at files other
unfolding replaced
beside_replaced files name None other apart = at_kept files name other apart
beside_replaced files name (Some file) other apart = at_other files name other file apart
