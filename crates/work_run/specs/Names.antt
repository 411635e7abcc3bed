-- The rules of a point, by its verb.
use Rattle.std.specs.Prelude.{Bool, true, false, ◌++◌, Option, Some, None, codes}
use Rattle.grid_model.specs.Names.{Text}
use Rattle.grid_model.specs.declared.requests.Verb.{Verb}
use Rattle.grid_model.specs.declared.requests.Verb.TheVariants as verb

-- what the point of a verb is of, where it has one
abbrev pub point_name : Verb → Option Text
point_name (verb.MkDir path) = Some (codes "coll_create")
point_name (verb.RmDir path) = Some (codes "rm_coll")
point_name (verb.Mv from to) = Some (codes "data_obj_rename")
point_name (verb.ChMod level name path) = Some (codes "mod_access_control")
point_name (verb.Inherit path) = Some (codes "mod_access_control")
point_name (verb.NoInherit path) = Some (codes "mod_access_control")
point_name (verb.Put path resource mode count) = Some (codes "data_obj_put")
point_name (verb.Get path resource) = Some (codes "data_obj_get")
point_name (verb.Repl path resource) = Some (codes "data_obj_repl")
point_name (verb.ChkSum path) = Some (codes "data_obj_chksum")
point_name (verb.Trim path resource) = Some (codes "data_obj_trim")
point_name (verb.Rm path) = Some (codes "data_obj_unlink")
point_name (verb.AddMeta kind name attribute value unit) = Some (codes "mod_avu_metadata")
point_name (verb.RmMeta kind name attribute value unit) = Some (codes "mod_avu_metadata")
point_name (verb.Query text) = Some (codes "gen_query")
point_name other = None

-- the name of the rules before or behind what is named so
abbrev pub rules_name : Text → Text → Text
rules_name name end = codes "pep_api_" ++ name ++ end

-- rows alone are changed, where the verb has an operation and sends no bytes
abbrev pub changes_rows : Verb → Bool
changes_rows (verb.Put path resource mode count) = false
changes_rows (verb.Repl path resource) = false
changes_rows (verb.ChkSum path) = false
changes_rows other = true
