use Rattle.std.proofs.Common.{sym, ap, ◌∙◌}
use Rattle.grid_model.specs.Levels.{is_admin}
use Rattle.grid_access.proofs.GivenLevels.{get-user_name}
use Rattle.plan_base.proofs.AtPaths.{sound_of}
use Rattle.plan_base.proofs.users.is_admin.Goals as goal

pub returns : goal.returns
returns c = c.is_admin_kind.ensures ∙ ap is_admin (c.kind_of_user.ensures ∙ sym (get-user_name c.args.tables.now (sound_of c.args.tables.now c.requires.made) c.args.user c.requires.user))
