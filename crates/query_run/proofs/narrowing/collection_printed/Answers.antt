use Rattle.std.proofs.Common.{subst}
use Rattle.grid_model.specs.Names.{Text, SpellsPath}
use Rattle.grid_model.specs.Places.{IsRefusedAt}
use Rattle.tables_laws.proofs.Sound.{sound-made}
use Rattle.query_run.proofs.PrintedPaths.{found_printed, none_printed}
use Rattle.query_run.proofs.narrowing.collection_printed.Goals as goal

pub returns-in-Err-BadPath : goal.returns-in-Err-BadPath
returns-in-Err-BadPath c =
    let t = c.args.tables.now in
    none_printed t (sound-made c.requires.0 t c.requires.1) c.args.text.now c.in-Err-BadPath.field-0-0
    (subst (λ (x : Text). IsRefusedAt SpellsPath x c.in-Err-BadPath.field-0-0) c.as_slice.ensures
    (c.in-Err-BadPath.ensures.refused c.in-Err-BadPath.field-0-0 c.in-Err-BadPath.field-0-is))

pub returns-in-Ok : goal.returns-in-Ok
returns-in-Ok c =
    let t = c.args.tables.now in
    found_printed t (sound-made c.requires.0 t c.requires.1) c.args.text.now c.in-Ok.path
    (subst (λ (x : Text). SpellsPath x c.in-Ok.path) c.as_slice.ensures c.in-Ok.ensures.path) c.collection_at.result c.collection_at.ensures
