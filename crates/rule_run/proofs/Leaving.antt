-- The rows that a command leaves with its last commit.
use Rattle.std.proofs.Common.{◌≡◌, ℕ, ◌<◌, Bool, List, [], ◌∷◌, Option, None, Some, Ok, IsTrue, refl, ap, ◌∙◌, arith}
use Rattle.std.specs.Prelude.{is_some, nat_le, nat_lt}
use Rattle.std.proofs.lemmas.Bool.{and_from, le-leb, lt-ltb}
use Rattle.grid_model.specs.Applying.{apply, apply_all, where_fits}
use Rattle.grid_model.specs.Rows.{Cat}
use Rattle.grid_model.specs.RowGrids.{grid_of}
use Rattle.grid_model.specs.Whole.{Names, Naming, by_orphan, by_replica}
use Rattle.grid_model.specs.declared.deltas.Delta.{Delta}
use Rattle.grid_model.specs.declared.deltas.Delta.TheVariants as delta
use Rattle.grid_model.specs.declared.deltas.Numbers.{Numbers}
use Rattle.grid_model.specs.declared.deltas.Pending.{Pending}
use Rattle.file_laws.specs.Plans.{Turns}
use Rattle.file_laws.proofs.Turning.{turns_apply, turns_then}
use Rattle.grid_journal.proofs.DeltaLemmas.{then_all}
use Rattle.grid_headline.specs.Files.{KeepsNamed}
use Rattle.grid_headline.specs.Numbers.{KeepsNumbers}
use Rattle.count_laws.specs.GivenNumbers.{GivesFew}
use Rattle.count_laws.proofs.GivenNumbers.{gives_alike}
use Rattle.run_laws.proofs.Users.{KeepsUsers, users_same}
use Rattle.tables_laws.proofs.Grids.{grid-same}
use Rattle.rule_run.specs.Finishing.{end_deltas, ended}

-- numbers of files, over two changes of the rows
pub keeps_then : (a b c : Cat) → KeepsNumbers a b → KeepsNumbers b c → KeepsNumbers a c
keeps_then a b c one two = record {
  rises = omega (arith, one.rises, two.rises);
  names = λ slot name row low its.
      let was = two.names slot name row (omega (arith, low, one.rises)) its in
      one.names slot name was.0 low was.1;
}

module _ (n : ℕ) (c : Cat) where
  -- ---- what they stand for

  pub grid_ended : grid_of (ended n c) ≡ grid_of c
  grid_ended = grid-same c (ended n c) refl (grid_of c) refl

  names_back : (slot name : ℕ) (row : Naming) → Names (ended n c) slot name row → Names c slot name row
  names_back slot name (by_replica r) its = its
  names_back slot name (by_orphan o) its = its

  names_on : (slot name : ℕ) (row : Naming) → Names c slot name row → Names (ended n c) slot name row
  names_on slot name (by_replica r) its = its
  names_on slot name (by_orphan o) its = its

  pub keeps_ended : KeepsNumbers c (ended n c)
  keeps_ended = record { rises = omega arith; names = λ slot name row low its. (row, names_back slot name row its) }

  pub gives_ended : GivesFew c (ended n c) 0
  gives_ended = gives_alike c (ended n c) refl refl

  pub named_ended : KeepsNamed c (ended n c)
  named_ended slot name one =
      record { row = one.row; names = names_on slot name one.row one.names; only = λ other its. one.only other (names_back slot name other its) }

  pub users_ended : KeepsUsers c (ended n c)
  users_ended = users_same c (ended n c) refl

  -- ---- the changes that lead there

  abbrev numbers : Numbers
  numbers = record c.numbers { last = n }

  module _ (some : 0 < c.numbers.next_vault) where
    -- a catalogue with these numbers, whatever is pending
    numbered : (o : Option Pending) → apply (record c { pending = o }) (delta.Numbers numbers) ≡ Ok (record c { numbers = numbers; pending = o })
    numbered o =
        ap (λ b. where_fits b 19 (record c { numbers = numbers; pending = o }))
        (and_from (nat_lt 0 c.numbers.next_vault) (nat_le c.numbers.next_vault c.numbers.next_vault) (lt-ltb 0 c.numbers.next_vault some)
        (le-leb c.numbers.next_vault c.numbers.next_vault (omega arith)))

    cleared : (o : Option Pending) → IsTrue (is_some o) → apply (record c { pending = o }) delta.NoPending ≡ Ok (record c { pending = None })
    cleared o is = ap (λ b. where_fits b 21 (record c { pending = None })) is

    -- from a catalogue with this pending command
    applied_from : (o : Option Pending) → apply_all (record c { pending = o }) (end_deltas (is_some o) numbers) ≡ Ok (ended n c)
    applied_from None = ap (then_all []) (numbered None)
    applied_from (Some p) = ap (then_all (delta.Numbers numbers ∷ [])) (cleared (Some p) refl) ∙ ap (then_all []) (numbered None)

    turns_from : (o : Option Pending) → Turns [] [] (record c { pending = o }) (ended n c)
    turns_from None = turns_apply [] [] (record c { pending = None }) (ended n c) (delta.Numbers numbers) refl (numbered None)
    turns_from (Some p) =
        let none : Cat = record c { pending = None } in
        turns_then [] [] (record c { pending = Some p }) none (ended n c)
        (turns_apply [] [] (record c { pending = Some p }) none delta.NoPending refl (cleared (Some p) refl))
        (turns_apply [] [] none (ended n c) (delta.Numbers numbers) refl (numbered None))

    pub applied_end : (pending : Bool) → pending ≡ is_some c.pending → (k : Numbers) → k ≡ numbers → (deltas : List Delta) → deltas ≡ end_deltas pending k
        → apply_all c deltas ≡ Ok (ended n c)
    applied_end pending is k k_is deltas deltas_are =
        ap (apply_all c) (deltas_are ∙ ap (end_deltas pending) k_is ∙ ap (λ b. end_deltas b numbers) is) ∙ applied_from c.pending

    pub turns_end : Turns [] [] c (ended n c)
    turns_end = turns_from c.pending
