-- Operations by their verbs.
use Rattle.std.specs.Prelude.{◌≡◌, true, false, Option, Some, None, IsTrue}
use Rattle.grid_model.specs.Names.{Text, is_name}
use Rattle.grid_model.specs.Grid.{Thing}
use Rattle.grid_model.specs.Operations.Table.{Operation, mkuser, mkgroup, mkdir, rmdir, mv, chmod, inherit, addmember, rmmember}
use Rattle.grid_model.specs.Operations.Table.{mkresc, addchild, modresc, trim, rm, addmeta, rmmeta, put, get as fetch, repl, chksum}
use Rattle.grid_model.specs.Writable.{is_word}
use Rattle.grid_model.specs.declared.grid.ItemKind.{ItemKind}
use Rattle.grid_model.specs.declared.grid.ResourceKind.TheVariants.{Storage}
use Rattle.grid_model.specs.declared.requests.Verb.{Verb}
use Rattle.grid_model.specs.declared.requests.Verb.TheVariants as verb
use Rattle.cmd_read.specs.Orders.{NamesThing}

-- the operation of a verb that changes rows alone and tells no thing
abbrev pub operation_by : Verb → Option Operation
operation_by (verb.MkUser name kind) = Some (mkuser name kind)
operation_by (verb.MkGroup name) = Some (mkgroup name)
operation_by (verb.MkDir path) = Some (mkdir path)
operation_by (verb.RmDir path) = Some (rmdir path)
operation_by (verb.Mv from to) = Some (mv from to)
operation_by (verb.ChMod level name path) = Some (chmod level name path)
operation_by (verb.Inherit path) = Some (inherit path true)
operation_by (verb.NoInherit path) = Some (inherit path false)
operation_by (verb.AddMember group user) = Some (addmember group user)
operation_by (verb.RmMember group user) = Some (rmmember group user)
operation_by (verb.MkStorage name slot) = Some (mkresc name Storage slot)
operation_by (verb.MkCoordinating name kind) = Some (mkresc name kind 0)
operation_by (verb.AddChild parent child) = Some (addchild parent child)
operation_by (verb.ModResc name up) = Some (modresc name up)
operation_by (verb.Trim path resource) = Some (trim path resource)
operation_by (verb.Rm path) = Some (rm path)
operation_by other = None

-- the verb does this operation, which changes rows alone
abbrev pub IsRowsVerb : Verb → Operation → Type 0
IsRowsVerb (verb.AddMeta kind name attribute value unit) op =
    (thing : Thing) × NamesThing kind name thing × (op ≡ addmeta (record { of = thing; attribute = attribute; value = value; unit = unit }))
IsRowsVerb (verb.RmMeta kind name attribute value unit) op =
    (thing : Thing) × NamesThing kind name thing × (op ≡ rmmeta (record { of = thing; attribute = attribute; value = value; unit = unit }))
IsRowsVerb other op = operation_by other ≡ Some op

-- the verb, with this body, does this operation
abbrev pub WorksBy : Verb → Text → Operation → Type 0
WorksBy (verb.Put path resource mode count) body op = op ≡ put path resource mode body
WorksBy (verb.Get path resource) body op = op ≡ fetch path resource
WorksBy (verb.Repl path resource) body op = op ≡ repl path resource
WorksBy (verb.ChkSum path) body op = op ≡ chksum path
WorksBy other body op = IsRowsVerb other op

-- the kind and the name are those of a thing
abbrev pub NamesSome : ItemKind → Text → Type 0
NamesSome kind name = (thing : Thing) × NamesThing kind name thing

-- the resource, if one is told, is a word
abbrev pub IsWordIfAny : Option Text → Type 0
IsWordIfAny None = Unit {0}
IsWordIfAny (Some resource) = IsTrue (is_word resource)

-- A new name is a name, the resource of a deed is a word, a thing is told by its path or its name, and what is to be said of it are words.
abbrev pub HasGoodWords : Verb → Type 0
HasGoodWords (verb.MkUser name kind) = IsTrue (is_name name)
HasGoodWords (verb.MkGroup name) = IsTrue (is_name name)
HasGoodWords (verb.MkStorage name slot) = IsTrue (is_name name)
HasGoodWords (verb.MkCoordinating name kind) = IsTrue (is_name name)
HasGoodWords (verb.Put path resource mode count) = IsTrue (is_word resource)
HasGoodWords (verb.Get path resource) = IsWordIfAny resource
HasGoodWords (verb.Repl path resource) = IsTrue (is_word resource)
HasGoodWords (verb.AddMeta kind name attribute value unit) =
    NamesSome kind name × IsTrue (is_word attribute) × IsTrue (is_word value) × IsTrue (is_word unit)
HasGoodWords (verb.RmMeta kind name attribute value unit) = NamesSome kind name
HasGoodWords (verb.LsMeta kind name) = NamesSome kind name
HasGoodWords other = Unit {0}
