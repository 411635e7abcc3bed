-- Deltas that are applied in a loop, up to one that is refused.
use Rattle.std.proofs.Common.{◌≡◌, ℕ, suc, ◌<◌, Bool, true, false, IsTrue, List, [], ◌∷◌, ◌++◌, length, take, drop, get_or, Result, Ok, Err, refl, sym, ap, subst, ◌∙◌}
use Rattle.std.specs.Prelude.{is_ok, Option, Some, None, is_some, IfNone, IfSome, map}
use Rattle.std.specs.List.{AllByRecursion}
use Rattle.std.proofs.Math.Seq.{drop-cons}
use Rattle.std.proofs.lemmas.List.{take-append-drop}
use Rattle.grid_model.specs.Names.{Text}
use Rattle.grid_model.specs.Parsed.{plain_rule, rule_of}
use Rattle.grid_model.specs.RuleText.{Rule}
use Rattle.grid_model.specs.Rows.{Cat}
use Rattle.grid_model.specs.Applying.{apply, apply_all}
use Rattle.grid_model.specs.declared.deltas.Delta.{Delta}
use Rattle.grid_model.specs.declared.deltas.Delta.TheVariants as delta
use Rattle.grid_model.specs.declared.rules.Rule as code
use Rattle.rule_keep.specs.Kept.{IsKeptText}
use Rattle.grid_journal.specs.Journal.{MayBeKept}
use Rattle.grid_journal.specs.Replaying.{TakesAll, RefusesNext}
use Rattle.grid_journal.specs.Stands.{IsRefused, SetsKeptRules}
use Rattle.grid_journal.proofs.DeltaLemmas.{apply_all_push, apply_all_after, not_taken}
use Rattle.grid_journal.proofs.KeptDeltas.{all_both, all_second, rules_of}

-- ---- whether the rules that a delta sets are kept ones

module _ (d : Delta) (text : Text) (found : Option (List code.Rule)) (is_kept : Bool) (of_rules : d ≡ delta.Rules text) (told : is_kept ≡ is_some found) where
  pub found_kept : IfSome found (λ rs. IsKeptText text (map plain_rule (map rule_of rs))) → IsTrue is_kept → SetsKeptRules d
  found_kept kept is = subst SetsKeptRules (sym of_rules) (by found kept (sym told ∙ is))
    where
      by : (o : Option (List code.Rule)) → IfSome o (λ rs. IsKeptText text (map plain_rule (map rule_of rs))) → is_some o ≡ true
          → (rules : List Rule) × IsKeptText text rules
      by None h some = cc
      by (Some rs) h some = (map plain_rule (map rule_of rs), h)

  pub none_kept : IfNone found ((rules : List Rule) → ¬ IsKeptText text rules) → is_kept ≡ false → ¬ SetsKeptRules d
  none_kept none is sets = by found none (sym told ∙ is) (subst SetsKeptRules of_rules sets)
    where
      by : (o : Option (List code.Rule)) → IfNone o ((rules : List Rule) → ¬ IsKeptText text rules) → is_some o ≡ false
          → (rules : List Rule) × IsKeptText text rules → ⊥
      by None h some kept = h kept.0 kept.1
      by (Some rs) h some kept = cc

pub others_kept : (d : Delta) → ((text : Text) → d ≡ delta.Rules text → ⊥) → SetsKeptRules d
others_kept (delta.Rules text) none = absurd (none text refl)
others_kept other none = tt

-- ---- what is taken in a loop

-- a list at one of its members
pub split_at : (all done : List Delta) (d : Delta) → done ≡ take (length done) all → (length done < length all) × (d ≡ get_or all (length done) d)
    → all ≡ done ++ d ∷ drop (suc (length done)) all
split_at all done d front here =
    let n = length done in
    let lt : n < length all = here.0 in
    sym (take-append-drop n all) ∙ ap (λ l. take n all ++ l) (drop-cons all n d lt ∙ ap (λ x. x ∷ drop (suc n) all) (sym here.1)) ∙ ap (λ l. l ++ d ∷ drop (suc n) all) (sym front)

pub takes_more : (done : List Delta) (d : Delta) (c mid next : Cat) → TakesAll done c mid → SetsKeptRules d → apply mid d ≡ Ok next → TakesAll (done ++ d ∷ []) c next
takes_more done d c mid next t sets applied = record {
  kept = all_both SetsKeptRules done (d ∷ []) t.kept (sets, tt);
  applied = apply_all_push done d c mid next t.applied applied;
}

pub refuses_next : (all done : List Delta) (d : Delta) (count : ℕ) (c mid : Cat) → done ≡ take (length done) all → (length done < length all) × (d ≡ get_or all (length done) d)
    → count ≡ length done → TakesAll done c mid → IsRefused mid d → RefusesNext all count c
refuses_next all done d count c mid front here counted t refused = record {
  done = done;
  next = d;
  left = drop (suc (length done)) all;
  before = mid;
  split = split_at all done d front here;
  count_is = counted;
  taken = t;
  refused = refused;
}

-- deltas that can all be taken have no refused one
pub none_refused : (all : List Delta) (count : ℕ) (c : Cat) → is_ok (apply_all c all) ≡ true → AllByRecursion MayBeKept all → RefusesNext all count c → ⊥
none_refused all count c ok kept r = by (apply_all c all) refl ok
  where
    behind : apply_all c all ≡ apply_all r.before (r.next ∷ r.left)
    behind = ap (apply_all c) r.split ∙ apply_all_after r.done (r.next ∷ r.left) c r.before r.taken.applied

    sets : AllByRecursion SetsKeptRules (r.next ∷ r.left)
    sets = all_second SetsKeptRules r.done (r.next ∷ r.left) (subst (AllByRecursion SetsKeptRules) r.split (rules_of all kept))

    by : (result : Result Cat ℕ) → apply_all c all ≡ result → is_ok result ≡ true → ⊥
    by (Ok after) is here = not_taken r.before after r.next r.left r.refused sets (sym behind ∙ is)
    by (Err cause) is here = cc
