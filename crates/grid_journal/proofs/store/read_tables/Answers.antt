use Rattle.std.proofs.Common.{◌≡◌, ℕ, List, None, Ok, refl, sym, ap, subst, ◌∙◌}
use Rattle.std.specs.Option.{option_copied}
use Rattle.grid_model.specs.Names.{Text}
use Rattle.grid_model.specs.Rows.{empty_cat}
use Rattle.grid_journal.specs.Stands.{Replays}
use Rattle.grid_journal.specs.Replaying.{IsUnread, no_zone}
use Rattle.grid_journal.specs.declared.error.JournalError.{JournalError}
use Rattle.grid_journal.proofs.store.read_tables.Goals as goal

pub returns-in-None : goal.returns-in-None
returns-in-None c =
    let P : JournalError → Type 0 = IsUnread c.args.records.now in
    let Q : List (ℕ × Text) → Type 0 = λ rs. Replays empty_cat rs (Ok c.in-Ok.tables) in
    let none : c.in-Ok.tables.zone ≡ None = sym c.zone.ensures ∙ ap option_copied c.in-None.is in
    subst P (sym c.not_at.ensures) (refl, no_zone c.in-Ok.tables (subst Q c.as_slice.ensures c.in-Ok.ensures) none refl)
