-- Deltas that may be kept, one by one and in lists.
use Rattle.std.proofs.Common.{IsTrue, List, [], ◌∷◌, ◌++◌, refl}
use Rattle.std.specs.List.{list_all, AllByRecursion}
use Rattle.std.proofs.lemmas.Bool.{and_parts, and_from}
use Rattle.grid_model.specs.Deltas.{delta_fits}
use Rattle.grid_model.specs.declared.deltas.Delta.{Delta}
use Rattle.grid_model.specs.declared.deltas.Delta.TheVariants as delta
use Rattle.grid_journal.specs.Journal.{can_be_kept, sets_no_rules, MayBeKept}
use Rattle.grid_journal.specs.Stands.{SetsKeptRules}

-- ---- lists of which each element has a property

module _ {X : Type 0} (P : X → Type 0) where
  pub all_both : (xs ys : List X) → AllByRecursion P xs → AllByRecursion P ys → AllByRecursion P (xs ++ ys)
  all_both [] ys first behind = behind
  all_both (x ∷ xs) ys first behind = (first.0, all_both xs ys first.1 behind)

  pub all_second : (xs ys : List X) → AllByRecursion P (xs ++ ys) → AllByRecursion P ys
  all_second [] ys all = all
  all_second (x ∷ xs) ys all = all_second xs ys all.1

-- ---- what deltas may be kept

-- a delta that sets no rules sets no others than kept ones
no_rules_kept_one : (d : Delta) → IsTrue (sets_no_rules d) → SetsKeptRules d
no_rules_kept_one (delta.Rules text) none = cc
no_rules_kept_one other none = tt

pub no_rules_kept : (deltas : List Delta) → IsTrue (list_all sets_no_rules deltas) → AllByRecursion SetsKeptRules deltas
no_rules_kept [] none = tt
no_rules_kept (d ∷ deltas) none =
    let parts = and_parts (sets_no_rules d) (list_all sets_no_rules deltas) none in
    (no_rules_kept_one d parts.0, no_rules_kept deltas parts.1)

pub plain_kept : (deltas : List Delta) → IsTrue (list_all can_be_kept deltas) → AllByRecursion MayBeKept deltas
plain_kept [] kept = tt
plain_kept (d ∷ deltas) kept =
    let parts = and_parts (can_be_kept d) (list_all can_be_kept deltas) kept in
    let each = and_parts (delta_fits d) (sets_no_rules d) parts.0 in
    ((each.0, no_rules_kept_one d each.1), plain_kept deltas parts.1)

-- deltas that may be kept have spellings, and set no rules but kept ones
pub fit_of : (deltas : List Delta) → AllByRecursion MayBeKept deltas → IsTrue (list_all delta_fits deltas)
fit_of [] kept = refl
fit_of (d ∷ deltas) kept = and_from (delta_fits d) (list_all delta_fits deltas) kept.0.0 (fit_of deltas kept.1)

pub rules_of : (deltas : List Delta) → AllByRecursion MayBeKept deltas → AllByRecursion SetsKeptRules deltas
rules_of [] kept = tt
rules_of (d ∷ deltas) kept = (kept.0.1, rules_of deltas kept.1)

-- such deltas may be kept
pub both_kept : (deltas : List Delta) → IsTrue (list_all delta_fits deltas) → AllByRecursion SetsKeptRules deltas → AllByRecursion MayBeKept deltas
both_kept [] fit rules = tt
both_kept (d ∷ deltas) fit rules =
    let parts = and_parts (delta_fits d) (list_all delta_fits deltas) fit in
    ((parts.0, rules.0), both_kept deltas parts.1 rules.1)
