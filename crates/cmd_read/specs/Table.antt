-- Which words make which request. The verbs and their words are this project's own.
use Rattle.std.specs.Prelude.{◌≡◌, ℕ, ◌^◌, Bool, true, false, ◌&&◌, List, [], ◌∷◌, ◌++◌, Option, Some, None, codes, decimal, nat_lt, is_some}
use Rattle.std.specs.Str.Parse.{digits_value}
use Rattle.grid_model.specs.Names.{Text, Path, same_text, SpellsPath, SpellsName}
use Rattle.grid_model.specs.declared.grid.Level.{Level}
use Rattle.grid_model.specs.declared.grid.Level.TheVariants.{Null, Read, Write, Own}
use Rattle.grid_model.specs.declared.grid.Mode.{Mode}
use Rattle.grid_model.specs.declared.grid.Mode.TheVariants.{New, Over}
use Rattle.grid_model.specs.declared.grid.UserKind.{UserKind}
use Rattle.grid_model.specs.declared.grid.UserKind.TheVariants.{Rodsadmin, Rodsuser}
use Rattle.grid_model.specs.declared.grid.ResourceKind.{ResourceKind}
use Rattle.grid_model.specs.declared.grid.ResourceKind.TheVariants.{Passthru, Random, Replication}
use Rattle.grid_model.specs.declared.grid.ItemKind.{ItemKind}
use Rattle.grid_model.specs.declared.grid.ItemKind.TheVariants as item
use Rattle.grid_model.specs.declared.requests.Verb.{Verb}
use Rattle.grid_model.specs.declared.requests.Verb.TheVariants as verb

-- what a word of such a list stands for
abbrev pub among : {A : Type 0} → List (Text × A) → Text → Option A
among [] w = None
among (x ∷ xs) w = elim (same_text x.0 w) [ true ↦ Some x.1 | false ↦ among xs w ]

-- whether a put makes a new object only
abbrev pub modes : List (Text × Mode)
modes = (codes "new", New) ∷ (codes "over", Over) ∷ []

-- what a user may do
abbrev pub levels : List (Text × Level)
levels = (codes "null", Null) ∷ (codes "read", Read) ∷ (codes "write", Write) ∷ (codes "own", Own) ∷ []

-- the kinds of new users
abbrev pub user_kinds : List (Text × UserKind)
user_kinds = (codes "rodsadmin", Rodsadmin) ∷ (codes "rodsuser", Rodsuser) ∷ []

-- the kinds of resources that choose among children
abbrev pub coordinating_kinds : List (Text × ResourceKind)
coordinating_kinds = (codes "passthru", Passthru) ∷ (codes "random", Random) ∷ (codes "replication", Replication) ∷ []

-- whether a resource is up
abbrev pub states : List (Text × Bool)
states = (codes "up", true) ∷ (codes "down", false) ∷ []

-- the kinds of items that are named by a path
abbrev pub kinds_with_path : List (Text × ItemKind)
kinds_with_path = (codes "-d", item.Object) ∷ (codes "-C", item.Collection) ∷ []

-- the others
abbrev pub kinds_with_name : List (Text × ItemKind)
kinds_with_name = (codes "-R", item.Resource) ∷ (codes "-u", item.User) ∷ []

-- the number below 2^64 that the text writes in decimal, without a sign and without leading zeros
unfoldable pub number_of : Text → Option ℕ
number_of w = elim (nat_lt (digits_value 10 w) (2 ^ 64) && same_text (decimal (digits_value 10 w)) w) [ true ↦ Some (digits_value 10 w) | false ↦ None ]

-- What a word is to be.
pub data Form : Type 0 where
  a_text : Form
  a_number : Form
  a_path : Form
  -- a path, which is kept as it was written
  a_path_text : Form
  -- the name of a new user, group or resource
  a_new_name : Form
  -- a resource, or `-` for none
  a_resource_or_none : Form
  a_mode : Form
  a_level : Form
  a_user_kind : Form
  a_coordinating_kind : Form
  a_state : Form
  a_kind_with_path : Form
  a_kind_with_name : Form
  -- just this word
  the_word : Text → Form

-- what a word of the form stands for
abbrev pub FormValue : Form → Type 0
FormValue a_text = Text
FormValue a_number = ℕ
FormValue a_path = Path
FormValue a_path_text = Text
FormValue a_new_name = Text
FormValue a_resource_or_none = Option Text
FormValue a_mode = Mode
FormValue a_level = Level
FormValue a_user_kind = UserKind
FormValue a_coordinating_kind = ResourceKind
FormValue a_state = Bool
FormValue a_kind_with_path = ItemKind
FormValue a_kind_with_name = ItemKind
FormValue (the_word t) = Unit {0}

-- whether the word is of the form; of a path and of a new name that is not asked yet
abbrev pub has_form : Form → Text → Bool
has_form a_number w = is_some (number_of w)
has_form a_mode w = is_some (among modes w)
has_form a_level w = is_some (among levels w)
has_form a_user_kind w = is_some (among user_kinds w)
has_form a_coordinating_kind w = is_some (among coordinating_kinds w)
has_form a_state w = is_some (among states w)
has_form a_kind_with_path w = is_some (among kinds_with_path w)
has_form a_kind_with_name w = is_some (among kinds_with_name w)
has_form (the_word t) w = same_text t w
has_form other w = true

-- the resource that is asked for
abbrev pub named_resource : Text → Option Text
named_resource w = elim (same_text (codes "-") w) [ true ↦ None | false ↦ Some w ]

-- The word stands for the value.
abbrev pub Means : (f : Form) → Text → FormValue f → Type 0
Means a_text w text = w ≡ text
Means a_number w n = number_of w ≡ Some n
Means a_path w path = SpellsPath w path
Means a_path_text w text = (w ≡ text) × (path : Path) × SpellsPath w path
Means a_new_name w name = SpellsName w name
Means a_resource_or_none w resource = named_resource w ≡ resource
Means a_mode w mode = among modes w ≡ Some mode
Means a_level w level = among levels w ≡ Some level
Means a_user_kind w kind = among user_kinds w ≡ Some kind
Means a_coordinating_kind w kind = among coordinating_kinds w ≡ Some kind
Means a_state w up = among states w ≡ Some up
Means a_kind_with_path w kind = among kinds_with_path w ≡ Some kind
Means a_kind_with_name w kind = among kinds_with_name w ≡ Some kind
Means (the_word t) w nothing = t ≡ w

-- a verb, asked for by a value of each form
abbrev pub VerbFrom : List Form → Type 0
VerbFrom [] = Verb
VerbFrom (f ∷ fs) = FormValue f → VerbFrom fs

-- a way to ask for a verb: the forms of the words behind it, and the verb that they make
pub record Way : Type 0 where
  pub forms : List Form
  pub makes : VerbFrom forms

-- the same, written in one line
abbrev pub way : (fs : List Form) → VerbFrom fs → Way
way fs v = record { forms = fs; makes = v }

-- a row of the table: the second word of a line, and the ways to ask for its verb
abbrev pub Row : Type 0
Row = Text × List Way

-- a row with one way
abbrev pub one_way_row : Text → (fs : List Form) → VerbFrom fs → Row
one_way_row t fs v = (t, way fs v ∷ [])

-- sessions and the run
abbrev pub of_sessions : List Row
of_sessions =
    one_way_row (codes "login") (a_text ∷ []) verb.Login
    ∷ one_way_row (codes "logout") [] verb.Logout
    ∷ one_way_row (codes "quit") [] verb.Quit
    ∷ []

-- users and groups
abbrev pub of_users : List Row
of_users =
    one_way_row (codes "mkuser") (a_new_name ∷ a_user_kind ∷ []) verb.MkUser
    ∷ one_way_row (codes "mkgroup") (a_new_name ∷ []) verb.MkGroup
    ∷ one_way_row (codes "addmember") (a_text ∷ a_text ∷ []) verb.AddMember
    ∷ one_way_row (codes "rmmember") (a_text ∷ a_text ∷ []) verb.RmMember
    ∷ []

-- with a slot where the resource keeps files itself, and without one where it chooses among children
abbrev pub ways_to_make : List Way
ways_to_make =
    way (a_new_name ∷ the_word (codes "unixfilesystem") ∷ a_number ∷ []) (λ name kind slot. verb.MkStorage name slot)
    ∷ way (a_new_name ∷ a_coordinating_kind ∷ []) verb.MkCoordinating
    ∷ []

-- resources and their trees
abbrev pub of_resources : List Row
of_resources =
    (codes "mkresc", ways_to_make)
    ∷ one_way_row (codes "addchild") (a_text ∷ a_text ∷ []) verb.AddChild
    ∷ one_way_row (codes "modresc") (a_text ∷ a_state ∷ []) verb.ModResc
    ∷ []

-- rules, queries and single calls
abbrev pub of_rules : List Row
of_rules =
    one_way_row (codes "rules") (a_number ∷ []) verb.Rules
    ∷ one_way_row (codes "showrules") [] verb.ShowRules
    ∷ one_way_row (codes "sweep") [] verb.Sweep
    ∷ one_way_row (codes "query") (a_text ∷ []) verb.Query
    ∷ one_way_row (codes "exec") (a_text ∷ []) verb.Exec
    ∷ []

-- collections and access
abbrev pub of_collections : List Row
of_collections =
    one_way_row (codes "mkdir") (a_path ∷ []) verb.MkDir
    ∷ one_way_row (codes "rmdir") (a_path ∷ []) verb.RmDir
    ∷ one_way_row (codes "mv") (a_path ∷ a_path ∷ []) verb.Mv
    ∷ one_way_row (codes "ls") (a_path ∷ []) verb.Ls
    ∷ one_way_row (codes "chmod") (a_level ∷ a_text ∷ a_path ∷ []) verb.ChMod
    ∷ one_way_row (codes "inherit") (a_path ∷ []) verb.Inherit
    ∷ one_way_row (codes "noinherit") (a_path ∷ []) verb.NoInherit
    ∷ []

-- objects and replicas
abbrev pub of_objects : List Row
of_objects =
    one_way_row (codes "put") (a_path ∷ a_text ∷ a_mode ∷ a_number ∷ []) verb.Put
    ∷ one_way_row (codes "get") (a_path ∷ a_resource_or_none ∷ []) verb.Get
    ∷ one_way_row (codes "repl") (a_path ∷ a_text ∷ []) verb.Repl
    ∷ one_way_row (codes "chksum") (a_path ∷ []) verb.ChkSum
    ∷ one_way_row (codes "trim") (a_path ∷ a_text ∷ []) verb.Trim
    ∷ one_way_row (codes "rm") (a_path ∷ []) verb.Rm
    ∷ []

-- uploads in parts
abbrev pub of_uploads : List Row
of_uploads =
    one_way_row (codes "open") (a_path ∷ a_text ∷ a_mode ∷ []) verb.Open
    ∷ one_way_row (codes "part") (a_number ∷ []) verb.Part
    ∷ one_way_row (codes "close") [] verb.Close
    ∷ one_way_row (codes "abort") [] verb.Abort
    ∷ []

-- what is said of an item, which stands there by its path or by its name
abbrev pub ways_to_triples : (ItemKind → Text → Text → Text → Text → Verb) → List Way
ways_to_triples v =
    way (a_kind_with_path ∷ a_path_text ∷ a_text ∷ a_text ∷ a_text ∷ []) v
    ∷ way (a_kind_with_name ∷ a_text ∷ a_text ∷ a_text ∷ a_text ∷ []) v
    ∷ []

-- the item alone
abbrev pub ways_to_items : List Way
ways_to_items = way (a_kind_with_path ∷ a_path_text ∷ []) verb.LsMeta ∷ way (a_kind_with_name ∷ a_text ∷ []) verb.LsMeta ∷ []

-- metadata of items
abbrev pub of_metadata : List Row
of_metadata =
    (codes "addmeta", ways_to_triples verb.AddMeta)
    ∷ (codes "rmmeta", ways_to_triples verb.RmMeta)
    ∷ (codes "lsmeta", ways_to_items)
    ∷ []

-- all rows
abbrev pub table : List Row
table = of_sessions ++ of_users ++ of_resources ++ of_rules ++ of_collections ++ of_objects ++ of_uploads ++ of_metadata
