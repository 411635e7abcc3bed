use Rattle.std.proofs.Common.{◌≡◌, ◌==◌, ℕ, List, sym, ap, ◌∙◌}
use Rattle.std.specs.Prelude.{◌||◌}
use Rattle.std.specs.List.{list_any}
use Rattle.std.specs.Ordering.{is_eq}
use Rattle.grid_model.specs.Names.{Text, same_text, text_cmp}
use Rattle.grid_model.specs.Rows.{Cat}
use Rattle.grid_model.proofs.Comparing.{text_cmp_total}
use Rattle.grid_model.specs.declared.deltas.UserRow.{UserRow}
use Rattle.grid_tables.specs.Probes.{tied}
use Rattle.grid_tables.proofs.KeyLookUps.{any_alike, any_of_two, or_told, or_other}
use Rattle.grid_tables.proofs.tables.Tables.is_user_taken.Goals as goal

either : (rows users : List UserRow) (id : ℕ) (name : Text) → rows ≡ users → (list_any (λ u. u.id == id) rows || list_any (λ u. same_text u.name name) rows)
    ≡ list_any (λ u. (u.id == id) || same_text u.name name) users
either rows users id name is =
    sym (any_of_two (λ (u : UserRow). u.id == id) (λ u. same_text u.name name) rows)
    ∙ ap (λ (l : List UserRow). list_any (λ u. (u.id == id) || same_text u.name name) l) is

pub returns-then-has : goal.returns-then-has
returns-then-has c =
    let has = c.has.ensures ∙ ap (λ n. list_any (λ (u : UserRow). u.id == n) c.self.inside.users) c.from.ensures in
    has ∙ or_told (list_any (λ u. u.id == c.args.id) c.self.inside.users) (list_any (λ u. same_text u.name c.args.name.now) c.self.inside.users) (sym has ∙ c.if-has.true)
    ∙ either c.self.inside.users c.args.self.now.users c.args.id c.args.name.now (ap (λ (d : Cat). d.users) c.self.view_is)

pub returns-else-has : goal.returns-else-has
returns-else-has c =
    let has = c.has.ensures ∙ ap (λ n. list_any (λ (u : UserRow). u.id == n) c.self.inside.users) c.from.ensures in
    c.has_at.ensures
    ∙ sym (any_alike (λ (u : UserRow). same_text u.name c.args.name.now) (λ u. is_eq (text_cmp c.args.name.now u.name)) c.self.inside.users (λ u. tied text_cmp_total c.args.name.now u.name))
    ∙ or_other (list_any (λ u. u.id == c.args.id) c.self.inside.users) (list_any (λ u. same_text u.name c.args.name.now) c.self.inside.users) (sym has ∙ c.if-has.false)
    ∙ either c.self.inside.users c.args.self.now.users c.args.id c.args.name.now (ap (λ (d : Cat). d.users) c.self.view_is)
