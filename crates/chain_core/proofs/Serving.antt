-- A call is one of a micro-service where its name is and its arguments are of the form.
use Rattle.std.proofs.Common.{◌≡◌, Bool, true, false, List, [], ◌∷◌, Option, Some, None, refl, sym, ◌∙◌, ap, arith, ◌≤◌, ◌<◌, length, get_or}
use Rattle.std.specs.Prelude.{is_some, ◌↔◌, IsTrue, codes}
use Rattle.std.specs.Option.{option_map_or}
use Rattle.std.proofs.lemmas.Bool.{false_from_ne_true}
use Rattle.grid_model.specs.Names.{Text, Path, same_text}
use Rattle.grid_model.specs.Grid.{Triple as Tagged}
use Rattle.grid_model.specs.Operations.Table.{Operation, mkdir, rmdir, mv, repl, chksum, trim, rm, addmeta, rmmeta}
use Rattle.grid_model.specs.Chains
use Rattle.grid_model.specs.Chains.{Doing, cutting, succeeding, failing, serving, naming, doing}
use Rattle.grid_model.specs.Services
use Rattle.grid_model.specs.Services.{Service, service, services, word_in, thing_words, level_words, reads_nop, reads_path, reads_paths, reads_place, reads_copy, reads_triple, reads_access}
use Rattle.grid_model.specs.declared.calls.Call.{Call}
use Rattle.grid_model.proofs.Comparing.{same_text-Decides}
use Rattle.chain_core.specs.declared.services.Reading.{Reading}
use Rattle.chain_core.specs.declared.services.Reading.TheVariants.{Nop, Path as APath, Paths, Place, Copy, Triple, Access}
use Rattle.chain_core.specs.Readings.{readings, fits_reading}

pub word_test : (r : Bool) (a b : Text) → (IsTrue r ↔ (b ≡ a)) → r ≡ same_text a b
word_test true a b h = sym ((same_text-Decides a b).1 (sym (h.0 refl)))
word_test false a b h = sym (false_from_ne_true (same_text a b) (λ e. absurd (cc (h.1 (sym ((same_text-Decides a b).0 e))))))

-- a reading takes the arguments of its form
abbrev Reads : Services.ServiceReading → Reading → Type 0
Reads f r = (args : List Text) → is_some (f args) ≡ fits_reading r args

nop_reads : Reads reads_nop Nop
nop_reads [] = refl
nop_reads (a ∷ args) = refl

path_reads : (f : Path → Operation) → Reads (reads_path f) APath
path_reads f [] = refl
path_reads f (a ∷ []) = refl
path_reads f (a ∷ b ∷ args) = refl

paths_reads : (f : Path → Path → Operation) → Reads (reads_paths f) Paths
paths_reads f [] = refl
paths_reads f (a ∷ []) = refl
paths_reads f (a ∷ b ∷ []) = refl
paths_reads f (a ∷ b ∷ c ∷ args) = refl

place_reads : (f : Path → Text → Operation) → Reads (reads_place f) Place
place_reads f [] = refl
place_reads f (a ∷ []) = refl
place_reads f (a ∷ b ∷ []) = refl
place_reads f (a ∷ b ∷ c ∷ args) = refl

copy_reads : Reads reads_copy Copy
copy_reads [] = refl
copy_reads (a ∷ []) = refl
copy_reads (a ∷ b ∷ []) = refl
copy_reads (a ∷ b ∷ c ∷ []) = refl
copy_reads (a ∷ b ∷ c ∷ d ∷ args) = refl

-- what is found is read
found_reads : {A B : Type 0} (g : A → B) (o : Option A) → is_some (option_map_or (λ x. Some (g x)) o None) ≡ is_some o
found_reads g None = refl
found_reads g (Some x) = refl

triple_reads : (f : Tagged → Operation) → Reads (reads_triple f) Triple
triple_reads f [] = refl
triple_reads f (a ∷ []) = refl
triple_reads f (a ∷ b ∷ []) = refl
triple_reads f (a ∷ b ∷ c ∷ []) = refl
triple_reads f (a ∷ b ∷ c ∷ d ∷ []) = refl
triple_reads f (a ∷ b ∷ c ∷ d ∷ e ∷ []) = found_reads _ (word_in thing_words a)
triple_reads f (a ∷ b ∷ c ∷ d ∷ e ∷ g ∷ args) = refl

access_reads : Reads reads_access Access
access_reads [] = refl
access_reads (a ∷ []) = refl
access_reads (a ∷ b ∷ []) = refl
access_reads (a ∷ b ∷ c ∷ []) = found_reads _ (word_in level_words a)
access_reads (a ∷ b ∷ c ∷ d ∷ args) = refl

-- ---- the table

-- the two tables have the same names, and readings of the same forms
abbrev Match : List (Text × Services.ServiceReading) → List (Text × Reading) → Type 0
Match [] [] = Unit {0}
Match (a ∷ fs) (b ∷ bs) = (a.0 ≡ b.0) × Reads a.1 b.1 × Match fs bs
Match fs bs = ⊥

matched : (fs : List (Text × Services.ServiceReading)) (bs : List (Text × Reading)) → Match fs bs → (name : Text) (args : List Text)
    → is_some (option_map_or (λ f. f args) (word_in fs name) None) ≡ option_map_or (λ r. fits_reading r args) (word_in bs name) false
matched [] [] same name args = refl
matched [] (b ∷ bs) same name args = absurd same
matched (a ∷ fs) [] same name args = absurd same
matched (a ∷ fs) (b ∷ bs) same name args =
    by_name (matched fs bs same.2 name args) (same_text a.0 name)
    ∙ ap (λ n. option_map_or (λ r. fits_reading r args) (elim (same_text n name) [ true ↦ Some b.1 | false ↦ word_in bs name ]) false) same.0
  where
    by_name : is_some (option_map_or (λ f. f args) (word_in fs name) None) ≡ option_map_or (λ r. fits_reading r args) (word_in bs name) false → (t : Bool)
        → is_some (option_map_or (λ f. f args) (elim t [ true ↦ Some a.1 | false ↦ word_in fs name ]) None) ≡ option_map_or (λ r. fits_reading r args) (elim t [ true ↦ Some b.1 | false ↦ word_in bs name ]) false
    by_name rest true = same.1 args
    by_name rest false = rest

pub serves : (c : Call) → is_some (service c) ≡ option_map_or (λ r. fits_reading r c.args) (word_in readings c.name) false
serves c = matched services readings same c.name c.args
  where
    same : Match services readings
    same = (
      refl,
      nop_reads,
      (
        refl,
        path_reads mkdir,
        (
          refl,
          path_reads rmdir,
          (
            refl,
            paths_reads mv,
            (
              refl,
              place_reads repl,
              (
                refl,
                path_reads chksum,
                (
                  refl,
                  copy_reads,
                  (
                    refl,
                    place_reads trim,
                    (
                      refl,
                      path_reads rm,
                      (
                        refl,
                        triple_reads addmeta,
                        (
                          refl,
                          triple_reads rmmeta,
                          (
                            refl,
                            access_reads,
                            tt,
                          ),
                        ),
                      ),
                    ),
                  ),
                ),
              ),
            ),
          ),
        ),
      ),
    )

-- ---- the kinds of calls that are no special steps

module _ (c : Call) (no_cut : same_text c.name (codes "cut") ≡ false) (no_succeed : same_text c.name (codes "succeed") ≡ false) (no_fail : same_text c.name (codes "fail") ≡ false) where
  -- what the call is, by which of the names it has
  abbrev is_by : Bool → Bool → Bool → Doing
  is_by a b d = elim a [
    | true ↦ cutting
    | false ↦ elim b [ true ↦ succeeding | false ↦ elim d [ true ↦ failing | false ↦ Chains.serves (service c) ] ]
  ]

  is_plain : doing c ≡ Chains.serves (service c)
  is_plain =
      ap (λ x. is_by x (same_text c.name (codes "succeed")) (same_text c.name (codes "fail"))) no_cut
      ∙ ap (λ x. is_by false x (same_text c.name (codes "fail"))) no_succeed
      ∙ ap (is_by false false) no_fail

  by_service : (o : Option Service) → service c ≡ o → is_some o ≡ true → (x : Service) × (doing c ≡ serving x) × (service c ≡ Some x)
  by_service None is e = absurd (cc e)
  by_service (Some x) is e = (x, is_plain ∙ ap Chains.serves is, is)

  pub is_served : is_some (service c) ≡ true → (x : Service) × (doing c ≡ serving x) × (service c ≡ Some x)
  is_served = by_service (service c) refl

  by_none : (o : Option Service) → service c ≡ o → is_some o ≡ false → doing c ≡ naming
  by_none None is e = is_plain ∙ ap Chains.serves is
  by_none (Some x) is e = absurd (cc e)

  pub is_named : is_some (service c) ≡ false → doing c ≡ naming
  is_named = by_none (service c) refl

-- three arguments, by their first
pub access_takes : (args : List Text) (w : Text) → 3 ≤ length args → length args < 4 → w ≡ get_or args 0 w → is_some (word_in level_words w) ≡ fits_reading Access args
access_takes [] w some few is = absurd (omega (arith, some))
access_takes (a ∷ []) w some few is = absurd (omega (arith, some))
access_takes (a ∷ b ∷ []) w some few is = absurd (omega (arith, some))
access_takes (a ∷ b ∷ c ∷ []) w some few is = ap (λ x. is_some (word_in level_words x)) is
access_takes (a ∷ b ∷ c ∷ d ∷ args) w some few is = absurd (omega (arith, few))
