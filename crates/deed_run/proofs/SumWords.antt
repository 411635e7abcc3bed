-- What a chksum says where no object is there.
use Rattle.std.proofs.Common.{◌≡◌, false, [], ◌∷◌, Option, None, Some, refl, ap, ◌∙◌}
use Rattle.std.specs.Prelude.{is_some}
use Rattle.std.specs.Option.{option_map_or}
use Rattle.grid_model.specs.Digests.{checksum}
use Rattle.grid_model.specs.Grid.{Object}
use Rattle.grid_model.specs.Maps.{get}
use Rattle.grid_model.specs.Names.{Text, Path}
use Rattle.grid_model.specs.Applying.{IsMade}
use Rattle.grid_model.specs.Operations.Table.{chksum}
use Rattle.grid_model.specs.Rows.{Cat}
use Rattle.grid_model.specs.RowGrids.{grid_of}
use Rattle.grid_model.specs.RowPaths.{object_at}
use Rattle.grid_model.specs.Working.{words_of}
use Rattle.tables_laws.proofs.LookUps.{has-objects}
use Rattle.plan_base.proofs.AtPaths.{sound_of}

pub no_words : (c : Cat) → IsMade c → (user : Text) (p : Path) → object_at c p ≡ None → words_of (grid_of c) user (chksum p) ≡ []
no_words c made user p none = by (get (grid_of c).objects p) (has-objects c (sound_of c made) p ∙ ap is_some none)
  where
    by : (o : Option Object) → is_some o ≡ false → option_map_or (λ (x : Object). checksum x.digest ∷ []) o [] ≡ []
    by None is = refl
    by (Some x) is = absurd cc
