-- What the tables of names say.
use Rattle.std.specs.Prelude.{◌≡◌, ℕ, Bool, true, false, ◌||◌, List, Option, Some, None, map}
use Rattle.std.specs.Borrow.{Bor}
use Rattle.std.specs.Str.{bytes_eq}
use Rattle.std.specs.declared.hash.FoldHasher.{FoldHasher}
use Rattle.std.specs.declared.hash.BuildHasherDefault.{BuildHasherDefault}
use Rattle.indexmap.specs.IndexMap.{IndexMap, get_by}
use Rattle.indexmap.specs.IndexSet.{IndexSet, contains_by}
use Rattle.grid_model.specs.Checks.{is_one_of, params_of}
use Rattle.grid_model.specs.Names.{Text, same_text}
use Rattle.grid_model.specs.Parsed.{plain_rule, rule_of}
use Rattle.grid_model.specs.RuleText as meaning
use Rattle.grid_model.specs.declared.rules.Rule.{Rule}

-- numbers by names
abbrev pub NumbersByName : Type 0
NumbersByName = IndexMap (Bor Text) ℕ (BuildHasherDefault FoldHasher)

-- a set of names
abbrev pub NameSet : Type 0
NameSet = IndexSet (Bor Text) (BuildHasherDefault FoldHasher)

-- the number of this name
abbrev pub count_at : NumbersByName → Text → Option ℕ
count_at m n = get_by (λ k. bytes_eq n k.now) m

-- the name is in the set
abbrev pub is_in_set : NameSet → Text → Bool
is_in_set s n = contains_by (λ k. bytes_eq n k.now) s

-- rules without their places
abbrev pub without_places : List Rule → List meaning.Rule
without_places rs = map plain_rule (map rule_of rs)

-- the numbers are those of the parameters of the first rule of each name
pub record CountsRules (m : NumbersByName) (rs : List Rule) : Type 0 where
  pub same : (n : Text) → count_at m n ≡ params_of (without_places rs) n

-- the set has just these
pub record HasTexts (s : NameSet) (ts : List Text) : Type 0 where
  pub same : (n : Text) → is_in_set s n ≡ is_one_of ts n

-- what is there, and else this, where the test holds
abbrev pub or_else : Option ℕ → Bool → ℕ → Option ℕ
or_else (Some k) b count = Some k
or_else None true count = Some count
or_else None false count = None

-- after a name was added, where it was not there yet
pub record AddsName (old : NumbersByName) (name : Text) (count : ℕ) (new : NumbersByName) : Type 0 where
  pub same : (n : Text) → count_at new n ≡ or_else (count_at old n) (same_text name n) count

-- after a text was added
pub record AddsText (old : NameSet) (text : Text) (new : NameSet) : Type 0 where
  pub same : (n : Text) → is_in_set new n ≡ (is_in_set old n || same_text n text)
