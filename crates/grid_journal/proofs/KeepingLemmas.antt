-- What main keeps for a journal, before a change and after it.
use Rattle.std.proofs.Common.{◌≡◌, ◌⊎◌, inl, inr, ℕ, Bool, List, [], ◌∷◌, ◌++◌, take, Ok, sym, ap, subst, ◌∙◌, lit≤}
use Rattle.std.specs.Prelude.{IsSome}
use Rattle.std.specs.List.{AllByRecursion}
use Rattle.frame_log.specs.Log.{IsLog, IsOldOrNew}
use Rattle.frame_log.specs.Extent.{Extent, IsLogOf, placed}
use Rattle.frame_log.proofs.Frames.{placed-push}
use Rattle.grid_model.specs.Names.{Text}
use Rattle.grid_model.specs.Rows.{Cat, empty_cat}
use Rattle.grid_model.specs.Applying.{apply_all}
use Rattle.grid_model.specs.Deltas.{SpellsDeltas}
use Rattle.grid_model.specs.declared.deltas.Delta.{Delta}
use Rattle.grid_journal.specs.Journal.{Journal, Keeps, MayBeKept}
use Rattle.grid_journal.specs.Stands.{HasHead, Replays, Stands, stands, StandsEither, SetsKeptRules}
use Rattle.grid_journal.proofs.DeltaLemmas.{apply_all_after}
use Rattle.grid_journal.proofs.HeadLemmas.{same_head}
use Rattle.grid_journal.proofs.KeptDeltas.{all_both, rules_of}
use Rattle.grid_journal.proofs.ReplayLemmas.{Replays-push}
use Rattle.grid_journal.proofs.ZoneLemmas.{zone_stays}

pub keeps_stands : (kept : Cat) (j : Journal) (main spare : Text) → Keeps kept j main → Stands main spare (Ok kept)
keeps_stands kept j main spare k =
    let P : ℕ → Type 0 = λ n. IsLog n k.records main in
    stands k.records kept k.head (subst P k.base k.log.is_log) k.replays k.zone

-- staging more
pub keeps_staged : (kept : Cat) (old new : Journal) (main : Text) (ds : List Delta) → Keeps kept old main
    → apply_all old.cat ds ≡ Ok new.cat → new.staged ≡ old.staged ++ ds → new.log ≡ old.log → Keeps kept new main
keeps_staged kept old new main ds k applied staged log =
    let P : Extent → Type 0 = λ e. IsLogOf e k.records main in
    record {
      records = k.records;
      head = k.head;
      base = ap (λ (e : Extent). e.base) log ∙ k.base;
      log = subst P (sym log) k.log;
      replays = k.replays;
      zone = k.zone;
      staged = ap (apply_all kept) staged ∙ apply_all_after old.staged ds kept old.cat k.staged ∙ applied;
    }

-- a commit of more deltas, behind the staged ones
module _ (kept after : Cat) (old : Journal) (main body : Text) (ds : List Delta) (k : Keeps kept old main)
    (spells : SpellsDeltas body (old.staged ++ ds)) (sets : AllByRecursion SetsKeptRules (old.staged ++ ds)) (applied : apply_all old.cat ds ≡ Ok after) where
  led : apply_all kept (old.staged ++ ds) ≡ Ok after
  led = apply_all_after old.staged ds kept old.cat k.staged ∙ applied

  replayed : Replays empty_cat (placed 16 (k.records ++ body ∷ [])) (Ok after)
  replayed =
      let P : List (ℕ × Text) → Type 0 = λ rs. Replays empty_cat rs (Ok after) in
      subst P (sym (placed-push 16 k.records body)) (Replays-push _ body (old.staged ++ ds) after k.replays spells sets led)

  has_zone : IsSome after.zone
  has_zone = zone_stays (old.staged ++ ds) kept after led k.zone

  -- the log was cut short in it, or has one more record
  pub either : (image : Text) → IsOldOrNew old.log.base k.records body main image → StandsEither kept after image
  either image now = by now.reads
    where
      front : take 16 main ≡ take 16 image
      front = let P : ℕ → Type 0 = λ n. take n image ≡ take n main in sym (subst P k.base now.before)

      head : HasHead image
      head = same_head 16 (lit≤ tt) main image front k.head

      at : {records : List Text} → IsLog old.log.base records image → IsLog 16 records image
      at {records} log = let P : ℕ → Type 0 = λ n. IsLog n records image in subst P k.base log

      by : IsLog old.log.base k.records image ⊎ IsLog old.log.base (k.records ++ body ∷ []) image → StandsEither kept after image
      by (inl log) = inl (λ spare. stands k.records kept head (at log) k.replays k.zone)
      by (inr log) = inr (λ spare. stands (k.records ++ body ∷ []) after head (at log) replayed has_zone)

  -- the log has one more record
  pub committed : (new : Journal) (image : Text) → take 16 image ≡ take 16 main → IsLogOf new.log (k.records ++ body ∷ []) image
      → new.log.base ≡ old.log.base → new.staged ≡ [] → new.cat ≡ after → Keeps new.cat new image
  committed new image front log base staged cat =
      let P : Cat → Type 0 = λ c. Replays empty_cat (placed 16 (k.records ++ body ∷ [])) (Ok c) in
      let Q : Cat → Type 0 = λ c. IsSome c.zone in
      record {
        records = k.records ++ body ∷ [];
        head = same_head 16 (lit≤ tt) main image (sym front) k.head;
        base = base ∙ k.base;
        log = log;
        replays = subst P (sym cat) replayed;
        zone = subst Q (sym cat) has_zone;
        staged = ap (apply_all new.cat) staged;
      }

-- nothing was written
pub untouched : (kept after : Cat) (j : Journal) (main : Text) → Keeps kept j main → StandsEither kept after main
untouched kept after j main k = inl (λ spare. keeps_stands kept j main spare k)

abbrev pub journal_of : Cat → List Delta → Extent → Bool → Journal
journal_of tables staged log sound = record { cat = tables; staged = staged; log = log; sound = sound }

-- the same of a store's fields, and of the bytes that were written
module _ (kept after : Cat) (now : Journal) (tables : Cat) (staged : List Delta) (log : Extent) (sound : Bool) (view : journal_of tables staged log sound ≡ now)
    (main body written : Text) (ds : List Delta) (k : Keeps kept now main) (spells : SpellsDeltas body (staged ++ ds)) (is : written ≡ body)
    (first : AllByRecursion MayBeKept staged) (behind : AllByRecursion MayBeKept ds) (applied : apply_all now.cat ds ≡ Ok after) where
  before : Keeps kept (journal_of tables staged log sound) main
  before = let P : Journal → Type 0 = λ j. Keeps kept j main in subst P (sym view) k

  sets : AllByRecursion SetsKeptRules (staged ++ ds)
  sets = rules_of (staged ++ ds) (all_both MayBeKept staged ds first behind)

  applied_here : apply_all tables ds ≡ Ok after
  applied_here = ap (λ (j : Journal). apply_all j.cat ds) view ∙ applied

  spelled : SpellsDeltas written (staged ++ ds)
  spelled = let P : Text → Type 0 = λ b. SpellsDeltas b (staged ++ ds) in subst P (sym is) spells

  pub log_held : (records : List Text) × IsLogOf log records main
  log_held = (before.records, before.log)

  pub stands_either : (image : Text) → IsOldOrNew log.base log_held.0 written main image → StandsEither kept after image
  unfolding log_held before
  stands_either image = either kept after (journal_of tables staged log sound) main written ds before spelled sets applied_here image

  pub keeps_after : (new : Journal) (image : Text) → IsOldOrNew log.base log_held.0 written main image → IsLogOf new.log (log_held.0 ++ written ∷ []) image
      → new.log.base ≡ log.base → new.staged ≡ [] → new.cat ≡ after → Keeps new.cat new image
  unfolding log_held before
  keeps_after new image torn added base empty cat =
      let P : ℕ → Type 0 = λ n. take n image ≡ take n main in
      committed kept after (journal_of tables staged log sound) main written ds before spelled sets applied_here new image (subst P before.base torn.before) added base empty cat
