-- Reading causes by their names.
use Rattle.std.proofs.Common.{◌≡◌, ℕ, ◌<◌, List, [], ◌∷◌, length, get_or, refl, lit<}
use Rattle.std.specs.Prelude.{Result}
use Rattle.grid_model.specs.Names.{Text}
use Rattle.grid_model.specs.Printing.{print_rule_cause, print_tree_cause, print_what}
use Rattle.grid_model.specs.declared.refusal.What.{What}
use Rattle.grid_model.specs.declared.refusal.What.TheVariants as what
use Rattle.grid_model.specs.declared.refusal.TreeCause.{TreeCause}
use Rattle.grid_model.specs.declared.refusal.TreeCause.TheVariants as tree
use Rattle.grid_model.specs.declared.refusal.RuleCause.{RuleCause}
use Rattle.grid_model.specs.declared.refusal.RuleCause.TheVariants as rule
use Rattle.reply_fields.specs.declared.error.ReplyError.{ReplyError}
use Rattle.reply_fields.specs.Fronts.{ReadsFrom}
use Rattle.reply_fields.specs.Spelled.{IsNameOf}
use Rattle.reply_fields.proofs.Codes.{IsCode}
use Rattle.reply_reader.specs.Fields.{IsPrinted}
use Rattle.reply_reader.proofs.Readings.{mapped}
use Rattle.reply_reader.proofs.FieldReading.{printed_names, reads_printed, IsCode-printed}

abbrev pub whats : List What
whats = what.Users ∷ what.Members ∷ what.Collections ∷ what.Objects ∷ what.Resources ∷ what.Triples ∷ what.Access ∷ what.Uploads ∷ []

abbrev find_what : (v : What) → (i : ℕ) × (i < length whats) × (get_or whats i what.Users ≡ v)
find_what what.Users = (0, lit< tt, refl)
find_what what.Members = (1, lit< tt, refl)
find_what what.Collections = (2, lit< tt, refl)
find_what what.Objects = (3, lit< tt, refl)
find_what what.Resources = (4, lit< tt, refl)
find_what what.Triples = (5, lit< tt, refl)
find_what what.Access = (6, lit< tt, refl)
find_what what.Uploads = (7, lit< tt, refl)

pub reads_what : (text : Text) (at : ℕ) (r : Result (ℕ × ℕ) ReplyError) → ReadsFrom (IsNameOf (printed_names print_what 0x20 whats what.Users find_what)) text at r → ReadsFrom (IsPrinted print_what 0x20) text at (mapped (λ i. get_or whats i what.Users) r)
reads_what = reads_printed print_what 0x20 whats what.Users find_what

pub IsCode-what : IsCode (IsPrinted print_what 0x20)
IsCode-what = IsCode-printed print_what 0x20 whats what.Users find_what refl

abbrev pub tree_causes : List TreeCause
tree_causes = tree.Leaf ∷ tree.HasParent ∷ tree.Cycle ∷ tree.Full ∷ tree.Coordinating ∷ []

abbrev find_tree : (v : TreeCause) → (i : ℕ) × (i < length tree_causes) × (get_or tree_causes i tree.Leaf ≡ v)
find_tree tree.Leaf = (0, lit< tt, refl)
find_tree tree.HasParent = (1, lit< tt, refl)
find_tree tree.Cycle = (2, lit< tt, refl)
find_tree tree.Full = (3, lit< tt, refl)
find_tree tree.Coordinating = (4, lit< tt, refl)

pub reads_tree : (text : Text) (at : ℕ) (r : Result (ℕ × ℕ) ReplyError) → ReadsFrom (IsNameOf (printed_names print_tree_cause 0x0A tree_causes tree.Leaf find_tree)) text at r → ReadsFrom (IsPrinted print_tree_cause 0x0A) text at (mapped (λ i. get_or tree_causes i tree.Leaf) r)
reads_tree = reads_printed print_tree_cause 0x0A tree_causes tree.Leaf find_tree

pub IsCode-tree : IsCode (IsPrinted print_tree_cause 0x0A)
IsCode-tree = IsCode-printed print_tree_cause 0x0A tree_causes tree.Leaf find_tree refl

abbrev pub rule_causes : List RuleCause
rule_causes = rule.Token ∷ rule.Grammar ∷ rule.Taken ∷ rule.Param ∷ rule.TooManyRules ∷ rule.Arity ∷ rule.Unknown ∷ rule.Recovery ∷ rule.Variable ∷ rule.Typing ∷ rule.Literal ∷ []

abbrev find_rule : (v : RuleCause) → (i : ℕ) × (i < length rule_causes) × (get_or rule_causes i rule.Token ≡ v)
find_rule rule.Token = (0, lit< tt, refl)
find_rule rule.Grammar = (1, lit< tt, refl)
find_rule rule.Taken = (2, lit< tt, refl)
find_rule rule.Param = (3, lit< tt, refl)
find_rule rule.TooManyRules = (4, lit< tt, refl)
find_rule rule.Arity = (5, lit< tt, refl)
find_rule rule.Unknown = (6, lit< tt, refl)
find_rule rule.Recovery = (7, lit< tt, refl)
find_rule rule.Variable = (8, lit< tt, refl)
find_rule rule.Typing = (9, lit< tt, refl)
find_rule rule.Literal = (10, lit< tt, refl)

pub reads_rule : (text : Text) (at : ℕ) (r : Result (ℕ × ℕ) ReplyError) → ReadsFrom (IsNameOf (printed_names print_rule_cause 0x0A rule_causes rule.Token find_rule)) text at r → ReadsFrom (IsPrinted print_rule_cause 0x0A) text at (mapped (λ i. get_or rule_causes i rule.Token) r)
reads_rule = reads_printed print_rule_cause 0x0A rule_causes rule.Token find_rule

pub IsCode-rule : IsCode (IsPrinted print_rule_cause 0x0A)
IsCode-rule = IsCode-printed print_rule_cause 0x0A rule_causes rule.Token find_rule refl
