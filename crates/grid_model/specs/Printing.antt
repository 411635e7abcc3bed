-- How refusals and failures are printed: the name, and then the fields in the order of their declaration. The words are
-- this project's own.
use Rattle.std.specs.Prelude.{ℕ, List, [], ◌∷◌, ◌++◌, codes, decimal}
use Rattle.std.specs.Fmt.{signed_decimal}
use Rattle.std.specs.List.{join_with_byte}
use Rattle.grid_model.specs.Names.{Text}
use Rattle.grid_model.specs.Digests.{checksum}
use Rattle.grid_model.specs.declared.refusal.What.{What}
use Rattle.grid_model.specs.declared.refusal.What.TheVariants as what
use Rattle.grid_model.specs.declared.refusal.TreeCause.{TreeCause}
use Rattle.grid_model.specs.declared.refusal.TreeCause.TheVariants as tree
use Rattle.grid_model.specs.declared.refusal.RuleCause.{RuleCause}
use Rattle.grid_model.specs.declared.refusal.RuleCause.TheVariants as rule
use Rattle.grid_model.specs.declared.refusal.Refusal.{Refusal}
use Rattle.grid_model.specs.declared.refusal.Refusal.TheVariants as refusal
use Rattle.grid_model.specs.declared.refusal.Failure.{Failure}
use Rattle.grid_model.specs.declared.refusal.Failure.TheVariants as failure

-- words with a space between each two
abbrev pub spaced : List Text → Text
spaced ws = join_with_byte 0x20 ws

-- a line of the reply to the request of this number: the number, the words, and a newline
abbrev pub line : ℕ → List Text → Text
line n ws = spaced (decimal n ∷ ws) ++ 0x0A ∷ []

-- what there may be only so many of, as one word
abbrev pub print_what : What → Text
print_what what.Users = codes "users"
print_what what.Members = codes "members"
print_what what.Collections = codes "collections"
print_what what.Objects = codes "objects"
print_what what.Resources = codes "resources"
print_what what.Triples = codes "triples"
print_what what.Access = codes "access"
print_what what.Uploads = codes "uploads"

-- why a tree of resources is not made so, as one word
abbrev pub print_tree_cause : TreeCause → Text
print_tree_cause tree.Leaf = codes "Leaf"
print_tree_cause tree.HasParent = codes "HasParent"
print_tree_cause tree.Cycle = codes "Cycle"
print_tree_cause tree.Full = codes "Full"
print_tree_cause tree.Coordinating = codes "Coordinating"

-- why a text is no text of rules, as one word
abbrev pub print_rule_cause : RuleCause → Text
print_rule_cause rule.Token = codes "Token"
print_rule_cause rule.Grammar = codes "Grammar"
print_rule_cause rule.Taken = codes "Taken"
print_rule_cause rule.Param = codes "Param"
print_rule_cause rule.TooManyRules = codes "TooManyRules"
print_rule_cause rule.Arity = codes "Arity"
print_rule_cause rule.Unknown = codes "Unknown"
print_rule_cause rule.Recovery = codes "Recovery"
print_rule_cause rule.Variable = codes "Variable"
print_rule_cause rule.Typing = codes "Typing"
print_rule_cause rule.Literal = codes "Literal"

-- the name, and then the fields
abbrev pub print_refusal : Refusal → Text
print_refusal refusal.TooLong = codes "TooLong"
print_refusal (refusal.Syntax place) = spaced (codes "Syntax" ∷ decimal place ∷ [])
print_refusal refusal.UnknownCommand = codes "UnknownCommand"
print_refusal (refusal.BadWord index) = spaced (codes "BadWord" ∷ decimal index ∷ [])
print_refusal (refusal.BadPath place) = spaced (codes "BadPath" ∷ decimal place ∷ [])
print_refusal (refusal.BadName place) = spaced (codes "BadName" ∷ decimal place ∷ [])
print_refusal (refusal.Truncated have want) = spaced (codes "Truncated" ∷ decimal have ∷ decimal want ∷ [])
print_refusal refusal.NoLogin = codes "NoLogin"
print_refusal refusal.Open = codes "Open"
print_refusal refusal.NoUpload = codes "NoUpload"
print_refusal (refusal.TooLarge limit) = spaced (codes "TooLarge" ∷ decimal limit ∷ [])
print_refusal (refusal.TooMany w limit) = spaced (codes "TooMany" ∷ print_what w ∷ decimal limit ∷ [])
print_refusal (refusal.BadTriple which) = spaced (codes "BadTriple" ∷ decimal which ∷ [])
print_refusal refusal.NoUser = codes "NoUser"
print_refusal refusal.NoMember = codes "NoMember"
print_refusal refusal.NoCollection = codes "NoCollection"
print_refusal refusal.NoObject = codes "NoObject"
print_refusal refusal.NoResource = codes "NoResource"
print_refusal (refusal.NoSlot slot) = spaced (codes "NoSlot" ∷ decimal slot ∷ [])
print_refusal refusal.NoTarget = codes "NoTarget"
print_refusal refusal.NoReplica = codes "NoReplica"
print_refusal refusal.NoTriple = codes "NoTriple"
print_refusal refusal.NoAccess = codes "NoAccess"
print_refusal refusal.NotAdmin = codes "NotAdmin"
print_refusal refusal.Exists = codes "Exists"
print_refusal refusal.NotEmpty = codes "NotEmpty"
print_refusal refusal.Fixed = codes "Fixed"
print_refusal refusal.Inside = codes "Inside"
print_refusal refusal.LastGood = codes "LastGood"
print_refusal (refusal.BadTree cause) = spaced (codes "BadTree" ∷ print_tree_cause cause ∷ [])
print_refusal (refusal.BadRule place cause) = spaced (codes "BadRule" ∷ decimal place ∷ print_rule_cause cause ∷ [])
print_refusal (refusal.BadQuery place) = spaced (codes "BadQuery" ∷ decimal place ∷ [])
print_refusal (refusal.Fault slot) = spaced (codes "Fault" ∷ decimal slot ∷ [])
print_refusal (refusal.Damaged slot size digest len found) =
    spaced (codes "Damaged" ∷ decimal slot ∷ decimal size ∷ checksum digest ∷ decimal len ∷ checksum found ∷ [])

-- a refusal as it is, a number with its sign behind `Code`, and the name of any other failure
abbrev pub print_failure : Failure → Text
print_failure (failure.Refused r) = print_refusal r
print_failure (failure.Code n) = spaced (codes "Code" ∷ signed_decimal n ∷ [])
print_failure failure.NoRule = codes "NoRule"
print_failure failure.Depth = codes "Depth"
print_failure failure.Spent = codes "Spent"
print_failure failure.LongText = codes "LongText"
print_failure failure.Stopped = codes "Stopped"
