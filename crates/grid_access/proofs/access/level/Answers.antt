use Rattle.std.proofs.Common.{true, false, sym, ◌∙◌}
use Rattle.grid_model.specs.Rows.{id_of, kind_of}
use Rattle.grid_access.proofs.GivenLevels.{level-rows}
use Rattle.grid_access.proofs.access.level.Goals as goal

pub returns-then-is_admin : goal.returns-then-is_admin
returns-then-is_admin c =
    sym (level-rows c.args.tables.now c.requires.made (kind_of c.args.item) (id_of c.args.item) c.args.user c.requires.gives c.requires.there c.requires.user true (sym c.if-is_admin.true ∙ c.is_admin.ensures))

pub returns : goal.returns
returns c =
    c.greatest_given.ensures
    ∙ sym (level-rows c.args.tables.now c.requires.made (kind_of c.args.item) (id_of c.args.item) c.args.user c.requires.gives c.requires.there c.requires.user false (sym c.if-is_admin.false ∙ c.is_admin.ensures))
