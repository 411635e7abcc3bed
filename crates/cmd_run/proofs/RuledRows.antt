-- Rows with another text of rules, as the command of a number left them.
use Rattle.std.proofs.Common.{◌≡◌, ℕ, ◌<◌, [], Ok, refl, ap, ◌∙◌, arith}
use Rattle.std.specs.Prelude.{nat_lt, nat_le}
use Rattle.std.proofs.lemmas.Bool.{and_from, lt-ltb, le-leb}
use Rattle.grid_model.specs.Names.{Text}
use Rattle.grid_model.specs.Rows.{Cat}
use Rattle.grid_model.specs.RowGrids.{grid_of}
use Rattle.grid_model.specs.Applying.{apply, where_fits}
use Rattle.grid_model.specs.Whole.{Naming, by_replica, by_orphan, Names}
use Rattle.grid_model.specs.declared.deltas.Delta.TheVariants as delta
use Rattle.file_laws.specs.Plans.{Turns}
use Rattle.file_laws.proofs.Turning.{turns_apply, turns_then}
use Rattle.grid_headline.specs.Files.{KeepsNamed}
use Rattle.grid_headline.specs.Numbers.{KeepsNumbers}
use Rattle.tables_laws.proofs.Grids.{grid-rules, grid-unseen}
use Rattle.cmd_run.specs.Rules.{ruled}
use Rattle.cmd_run.proofs.Users.{KeepsUsers, users_same}

module _ (n : ℕ) (text : Text) (c : Cat) where
  -- the text alone
  abbrev pub with_text : Cat
  with_text = record c { rules = text }

  -- the number of the last command behind it
  pub applied_last : 0 < c.numbers.next_vault → apply with_text (delta.Numbers (record c.numbers { last = n })) ≡ Ok (ruled n text c)
  applied_last some = ap (λ b. where_fits b 19 (ruled n text c))
      (and_from (nat_lt 0 c.numbers.next_vault) (nat_le c.numbers.next_vault c.numbers.next_vault)
      (lt-ltb 0 c.numbers.next_vault some) (le-leb c.numbers.next_vault c.numbers.next_vault (omega arith)))

  -- neither is seen of the grid
  pub grid_ruled : 0 < c.numbers.next_vault → grid_of (ruled n text c) ≡ grid_of c
  grid_ruled some =
      grid-unseen with_text (ruled n text c) (delta.Numbers (record c.numbers { last = n })) refl (applied_last some)
      ∙ grid-rules c with_text text refl

  -- nor of the rows that name files
  names_back : (slot name : ℕ) (row : Naming) → Names (ruled n text c) slot name row → Names c slot name row
  names_back slot name (by_replica r) its = its
  names_back slot name (by_orphan o) its = its

  names_on : (slot name : ℕ) (row : Naming) → Names c slot name row → Names (ruled n text c) slot name row
  names_on slot name (by_replica r) its = its
  names_on slot name (by_orphan o) its = its

  pub keeps_numbers : KeepsNumbers c (ruled n text c)
  keeps_numbers = record { rises = omega arith; names = λ slot name row less its. (row, names_back slot name row its) }

  pub keeps_named : KeepsNamed c (ruled n text c)
  keeps_named slot name is =
      record { row = is.row; names = names_on slot name is.row is.names; only = λ other its. is.only other (names_back slot name other its) }

  pub keeps_users : KeepsUsers c (ruled n text c)
  keeps_users = users_same c (ruled n text c) refl

  -- and all files stay whole
  pub turns_ruled : 0 < c.numbers.next_vault → Turns [] [] c (ruled n text c)
  turns_ruled some =
      turns_then [] [] c with_text (ruled n text c) (turns_apply [] [] c with_text (delta.Rules text) refl refl)
      (turns_apply [] [] with_text (ruled n text c) (delta.Numbers (record c.numbers { last = n })) refl (applied_last some))
