-- What is read of a call of a micro-service, as the definition has it.
use Rattle.std.specs.Prelude.{◌≡◌, List, [], ◌∷◌, codes, Option, Some, None}
use Rattle.grid_model.specs.Names.{Text}
use Rattle.grid_model.specs.Grid
use Rattle.grid_model.specs.Grid.{Thing, object_at, collection_at, resource_named, user_named}
use Rattle.grid_model.specs.Operations.Table.{mkdir, rmdir, mv, repl, copy, chksum, trim, rm, addmeta, rmmeta, chmod}
use Rattle.grid_model.specs.Services
use Rattle.grid_model.specs.Services.{ServiceReading, ServiceOfThing, nothing, operation, no_path, on_path}
use Rattle.grid_model.specs.Services.{reads_nop, reads_path, reads_paths, reads_place, reads_copy, reads_triple, reads_access}
use Rattle.grid_model.specs.declared.grid.ItemKind.{ItemKind}
use Rattle.grid_model.specs.declared.grid.ItemKind.TheVariants as kind
use Rattle.service_read.specs.declared.error.ServiceError.{ServiceError}
use Rattle.service_read.specs.declared.error.ServiceError.TheVariants as error
use Rattle.service_read.specs.declared.names.ServiceName.{ServiceName}
use Rattle.service_read.specs.declared.names.ServiceName.TheVariants as name
use Rattle.service_read.specs.declared.services.Service.{Service}
use Rattle.service_read.specs.declared.services.Service.TheVariants as asked
use Rattle.service_read.specs.declared.services.Subject.{Subject}
use Rattle.service_read.specs.declared.services.Subject.TheVariants as subject
use Rattle.service_read.specs.declared.services.Triple.{Triple}

-- what metadata is of
abbrev pub subject_thing : Subject → Thing
subject_thing (subject.Object path) = object_at path
subject_thing (subject.Collection path) = collection_at path
subject_thing (subject.Resource text) = resource_named text
subject_thing (subject.User text) = user_named text

-- a piece of metadata
abbrev pub whole_triple : Triple → Grid.Triple
whole_triple t = record { of = subject_thing t.of; attribute = t.attribute.now; value = t.value.now; unit = t.unit.now }

-- what is asked for
abbrev pub service_of : Service → Services.Service
service_of asked.Nothing = nothing
service_of (asked.MkDir path) = operation (mkdir path)
service_of (asked.RmDir path) = operation (rmdir path)
service_of (asked.Mv from to) = operation (mv from to)
service_of (asked.Repl path resource) = operation (repl path resource.now)
service_of (asked.ChkSum path) = operation (chksum path)
service_of (asked.Copy from to resource) = operation (copy from to resource.now)
service_of (asked.Trim path resource) = operation (trim path resource.now)
service_of (asked.Rm path) = operation (rm path)
service_of (asked.AddMeta triple) = operation (addmeta (whole_triple triple))
service_of (asked.RmMeta triple) = operation (rmmeta (whole_triple triple))
service_of (asked.ChMod level name path) = operation (chmod level name.now path)
service_of (asked.NoPath at) = no_path at

-- the error says what there is in place of an operation
abbrev pub Explains : ServiceError → Option Services.Service → Type 0
Explains error.NoService s = s ≡ None
Explains (error.NoPath at) s = s ≡ Some (no_path at)
Explains error.Memory s = Unit {0}

-- the micro-services by their names
abbrev pub service_names : List (Text × ServiceName)
service_names =
    (codes "nop", name.Nop)
    ∷ (codes "msiCollCreate", name.CollCreate)
    ∷ (codes "msiRmColl", name.RmColl)
    ∷ (codes "msiDataObjRename", name.DataObjRename)
    ∷ (codes "msiDataObjRepl", name.DataObjRepl)
    ∷ (codes "msiDataObjChksum", name.DataObjChksum)
    ∷ (codes "msiDataObjCopy", name.DataObjCopy)
    ∷ (codes "msiDataObjTrim", name.DataObjTrim)
    ∷ (codes "msiDataObjUnlink", name.DataObjUnlink)
    ∷ (codes "msiAddAVU", name.AddAvu)
    ∷ (codes "msiRmAVU", name.RmAvu)
    ∷ (codes "msiSetACL", name.SetAcl)
    ∷ []

-- what the micro-service does with its arguments
abbrev pub reading_by : ServiceName → ServiceReading
reading_by name.Nop = reads_nop
reading_by name.CollCreate = reads_path mkdir
reading_by name.RmColl = reads_path rmdir
reading_by name.DataObjRename = reads_paths mv
reading_by name.DataObjRepl = reads_place repl
reading_by name.DataObjChksum = reads_path chksum
reading_by name.DataObjCopy = reads_copy
reading_by name.DataObjTrim = reads_place trim
reading_by name.DataObjUnlink = reads_path rm
reading_by name.AddAvu = reads_triple addmeta
reading_by name.RmAvu = reads_triple rmmeta
reading_by name.SetAcl = reads_access

-- what is said of a thing of this kind, by its name
abbrev pub thing_by_kind : ItemKind → ServiceOfThing
thing_by_kind kind.Object name f = on_path name (λ p. f (object_at p))
thing_by_kind kind.Collection name f = on_path name (λ p. f (collection_at p))
thing_by_kind kind.Resource name f = f (resource_named name)
thing_by_kind kind.User name f = f (user_named name)
