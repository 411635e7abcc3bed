use Rattle.std.proofs.Common.{sym, ap, ◌∙◌}
use Rattle.std.specs.Prelude.{is_some}
use Rattle.tables_laws.proofs.LookUps.{has-objects}
use Rattle.tables_laws.proofs.Sound.{sound-made}
use Rattle.work_run.proofs.pointing.is_object.Goals as goal

pub returns : goal.returns
returns c =
    c.is_some.ensures ∙ ap is_some c.object_at.ensures
    ∙ sym (has-objects c.args.tables.now (sound-made c.requires.made.0 c.args.tables.now c.requires.made.1) c.args.path.now)
