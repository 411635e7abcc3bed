-- Which rules a catalogue has: ones that are allowed, as they are printed.
use Rattle.std.proofs.Common.{◌≡◌, ℕ, Bool, true, false, List, [], ◌∷◌, Result, Ok, Err, refl, subst}
use Rattle.std.specs.List.{AllByRecursion}
use Rattle.grid_model.specs.Names.{Text}
use Rattle.grid_model.specs.Rows.{Cat}
use Rattle.grid_model.specs.Applying.{apply, apply_all, where_fits}
use Rattle.grid_model.specs.declared.deltas.Delta.{Delta}
use Rattle.grid_model.specs.declared.deltas.Delta.TheVariants as delta
use Rattle.rule_keep.specs.Kept.{IsKeptText}
use Rattle.rule_lex.specs.Tokens.{at_end}
use Rattle.rule_parse.specs.Grammar.{no_rules}
use Rattle.grid_journal.specs.Journal.{Journal, Keeps, HasKeptRules, MayBeKept}
use Rattle.grid_journal.specs.Stands.{Replays, none_left, taken, Stands, stands, SetsKeptRules}
use Rattle.grid_journal.proofs.DeltaLemmas.{then_all, ok_same}
use Rattle.grid_journal.proofs.KeptDeltas.{rules_of}

-- no rules are printed as no text, which spells none
pub nothing_kept : IsKeptText [] []
nothing_kept = record {
  placed = [];
  spells = record { tokens = []; made = at_end; spells = no_rules };
  allowed = refl;
  printed = refl;
}

-- ---- one delta

then_has : (fits : Bool) (cause : ℕ) (next d : Cat) → HasKeptRules next → where_fits fits cause next ≡ Ok d → HasKeptRules d
then_has true cause next d has e = let same : next ≡ d = cc in subst HasKeptRules same has
then_has false cause next d has e = absurd cc

has-apply : (c d : Cat) (x : Delta) → SetsKeptRules x → apply c x ≡ Ok d → HasKeptRules c → HasKeptRules d
has-apply c d (delta.Zone name stores) sets e has = then_has _ 1 _ d has e
has-apply c d (delta.User r) sets e has = then_has _ 2 _ d has e
has-apply c d (delta.Member m) sets e has = then_has _ 3 _ d has e
has-apply c d (delta.NoMember m) sets e has = then_has _ 4 _ d has e
has-apply c d (delta.Collection r) sets e has = then_has _ 5 _ d has e
has-apply c d (delta.NoCollection id) sets e has = then_has _ 6 _ d has e
has-apply c d (delta.Object r) sets e has = then_has _ 7 _ d has e
has-apply c d (delta.NoObject id) sets e has = then_has _ 8 _ d has e
has-apply c d (delta.Replica r) sets e has = then_has _ 9 _ d has e
has-apply c d (delta.NoReplica object number) sets e has = then_has _ 10 _ d has e
has-apply c d (delta.Triple t) sets e has = then_has _ 11 _ d has e
has-apply c d (delta.NoTriple t) sets e has = then_has _ 12 _ d has e
has-apply c d (delta.Entry x) sets e has = then_has _ 13 _ d has e
has-apply c d (delta.NoEntry k id user) sets e has = then_has _ 14 _ d has e
has-apply c d (delta.Resource r) sets e has = then_has _ 15 _ d has e
has-apply c d (delta.Rules text) sets e has = then_has true 16 (record c { rules = text }) d sets e
has-apply c d (delta.Orphan r) sets e has = then_has _ 17 _ d has e
has-apply c d (delta.NoOrphan vault) sets e has = then_has _ 18 _ d has e
has-apply c d (delta.Numbers n) sets e has = then_has _ 19 _ d has e
has-apply c d (delta.Pending p) sets e has = then_has _ 20 _ d has e
has-apply c d delta.NoPending sets e has = then_has _ 21 _ d has e

-- ---- more of them

has-apply_all : (deltas : List Delta) (c after : Cat) → AllByRecursion SetsKeptRules deltas → apply_all c deltas ≡ Ok after → HasKeptRules c → HasKeptRules after
has-apply_all [] c after sets e has = subst HasKeptRules (ok_same c after e) has
has-apply_all (x ∷ deltas) c after sets e has =
    by (λ next step rest. has-apply_all deltas next after sets.1 rest step) (apply c x) (λ next is. has-apply c next x sets.0 is has) e
  where
    by : ((next : Cat) → HasKeptRules next → apply_all next deltas ≡ Ok after → HasKeptRules after)
        → (r : Result Cat ℕ) → ((next : Cat) → r ≡ Ok next → HasKeptRules next) → then_all deltas r ≡ Ok after → HasKeptRules after
    by more (Ok next) one h = more next (one next refl) h
    by more (Err cause) one h = absurd cc

-- deltas that may be kept leave a catalogue rules that are kept ones
pub staged_rules : (deltas : List Delta) (c after : Cat) → AllByRecursion MayBeKept deltas → apply_all c deltas ≡ Ok after → HasKeptRules c → HasKeptRules after
staged_rules deltas c after kept e has = has-apply_all deltas c after (rules_of deltas kept) e has

-- ---- records and disks

-- so do records
pub has_rules : {c after : Cat} {places : List (ℕ × Text)} → Replays c places (Ok after) → HasKeptRules c → HasKeptRules after
has_rules none_left has = has
has_rules (taken {c = c} {after = next} deltas spells sets applied more) has = has_rules more (has-apply_all deltas c next sets applied has)

-- what disks stand for has kept rules
pub standing_rules : {main spare : Text} {c : Cat} → Stands main spare (Ok c) → HasKeptRules c
standing_rules (stands records c head log replays zone) = has_rules replays ([], nothing_kept)

-- and so has what main keeps
pub kept_catalogue_rules : {kept : Cat} {journal : Journal} {main : Text} → Keeps kept journal main → HasKeptRules kept
kept_catalogue_rules keeps = has_rules keeps.replays ([], nothing_kept)
