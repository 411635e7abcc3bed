-- From the words of the program to the statuses.
use Rattle.std.proofs.Common.{◌≡◌, ◌⊎◌, inl, inr, ℕ, ◌^◌, ◌≤◌, List, [], length, length-append, Result, Ok, Err, IsTrue, arith, refl, sym, subst, ap, ◌∙◌}
use Rattle.grid_outside.specs.Device.{DeviceState}
use Rattle.grid_outside.specs.Disk.{DiskState}
use Rattle.grid_outside.specs.Sink.{SinkState}
use Rattle.grid_outside.specs.Files.{StoreState}
use Rattle.grid_outside.specs.Source.{SourceState}
use Rattle.grid_model.specs.Inputs.{Asked}
use Rattle.grid_journal.specs.Start.{start}
use Rattle.grid_deed.specs.Safe.{AreWhole}
use Rattle.grid_headline.specs.Ends.{ReadsMost}
use Rattle.grid_server.specs.Files.{HaveNoFiles}
use Rattle.grid_server.specs.Serving.{TookFew}
use Rattle.grid_model.specs.Names.{Text, is_name}
use Rattle.grid_model.specs.Rows.{Cat}
use Rattle.grid_model.specs.declared.grid.Side.{Side}
use Rattle.grid_model.specs.declared.grid.Side.TheVariants.{Main, Spare}
use Rattle.grid_journal.specs.Stands.{Stands}
use Rattle.grid_journal.specs.Store.{IsNotEmpty}
use Rattle.grid_journal.proofs.StandsLemmas.{Stands-same}
use Rattle.run_laws.specs.Went.{Rests}
use Rattle.run_laws.proofs.Goings.{rests-then}
use Rattle.grid_server.specs.declared.status.Status.{Status}
use Rattle.grid_server.specs.declared.status.Status.TheVariants as status
use Rattle.grid_server.specs.Running.{RefusesDisks, RefusesStores, Inits, SaysLine, IsComplete, EndsServing}
use Rattle.grid_server.specs.Tasks.{AsksForTask, to_serve, to_init, init, serve}

-- ---- what the disks stand for

-- one thing, and not two
pub one_cat : (main spare : Text) (c d : Cat) → Stands main spare (Ok c) → Stands main spare (Ok d) → c ≡ d
one_cat main spare c d one other = let same : Result.Ok d ≡ Ok c = Stands-same main spare (Ok c) (Ok d) one other in cc

pub no_both : (main spare : Text) (c : Cat) (side : Side) (place : ℕ) → Stands main spare (Ok c) → Stands main spare (Err (side, place)) → ⊥
no_both main spare c side place one other = let same = Stands-same main spare (Ok c) (Err (side, place)) one other in cc

-- ---- where a catalogue is refused

one_fault : (a b : Side × ℕ) → (let r : Result Cat (Side × ℕ) = Err a in r ≡ Err b) → a ≡ b
one_fault a b e = cc

pub refuses_there : (main spare : Text) (side at_side : Side) (place at : ℕ) (sink_old sink_new : SinkState) (s : Status) → Stands main spare (Err (at_side, at)) → Stands main spare (Err (side, place)) → RefusesDisks at_side at sink_old sink_new s
    → RefusesDisks side place sink_old sink_new s
refuses_there main spare side at_side place at sink_old sink_new s one other refused =
    let same : (side, place) ≡ (at_side, at) = one_fault (side, place) (at_side, at) (Stands-same main spare (Err (at_side, at)) (Err (side, place)) one other) in
    let sides : at_side ≡ side = sym (ap (λ (p : Side × ℕ). p.0) same) in
    let places : at ≡ place = sym (ap (λ (p : Side × ℕ). p.1) same) in
    let S : Side → Type 0 = λ x. RefusesDisks x at sink_old sink_new s in
    let P : ℕ → Type 0 = λ n. RefusesDisks side n sink_old sink_new s in
    subst P places (subst S sides refused)

-- the place is the one that was found wrong
pub refused_at : (main spare : Text) (side at_side : Side) (place at : ℕ) (s : Status) → Stands main spare (Err (at_side, at)) → (s ≡ status.NotACatalogue at_side at) ⊎ (s ≡ status.Memory) ⊎ (s ≡ status.SinkFault)
    → s ≡ status.NotACatalogue side place → Stands main spare (Err (side, place))
refused_at main spare side at_side place at s stood (inl said) is =
    let sides : at_side ≡ side = cc in
    let places : at ≡ place = cc in
    let S : Side → Type 0 = λ x. Stands main spare (Err (x, at)) in
    let P : ℕ → Type 0 = λ n. Stands main spare (Err (side, n)) in
    subst P places (subst S sides stood)
refused_at main spare side at_side place at s stood (inr (inl memory)) is = absurd (cc (memory, is))
refused_at main spare side at_side place at s stood (inr (inr sink)) is = absurd (cc (sink, is))

-- ---- the words

pub serve_or_init : {words : List Text} {z a : Text} → AsksForTask words serve → AsksForTask words (init z a) → ⊥
serve_or_init (to_serve e) (to_init f zone_is admin_is other) = cc

pub asked_names : {words : List Text} {z a : Text} → AsksForTask words (init z a) → IsTrue (is_name z) × IsTrue (is_name a)
asked_names (to_init e zone_is admin_is other) = (zone_is.name, admin_is.name)

pub one_zone : {words : List Text} {z a y b : Text} → AsksForTask words (init z a) → AsksForTask words (init y b) → z ≡ y
one_zone (to_init e zone_is admin_is other) (to_init f zone_too admin_too another) = cc

pub one_admin : {words : List Text} {z a y b : Text} → AsksForTask words (init z a) → AsksForTask words (init y b) → a ≡ b
one_admin (to_init e zone_is admin_is other) (to_init f zone_too admin_too another) = cc

pub inits_so : {words : List Text} (z a y b : Text) (stores : ℕ) (main_old main_new spare : DiskState) (sink_old sink_new : SinkState) (s : Status) → AsksForTask words (init z a) → AsksForTask words (init y b)
    → Inits z a stores main_old main_new spare sink_old sink_new s → Inits y b stores main_old main_new spare sink_old sink_new s
inits_so z a y b stores main_old main_new spare sink_old sink_new s one two inits =
    let Z : Text → Type 0 = λ t. Inits t a stores main_old main_new spare sink_old sink_new s in
    let A : Text → Type 0 = λ t. Inits y t stores main_old main_new spare sink_old sink_new s in
    subst A (one_admin one two) (subst Z (one_zone one two) inits)

-- ---- where nothing fails

pub complete : (s : Status) → EndsServing s → (s ≡ status.DiskFault → ⊥) → (s ≡ status.SourceFault → ⊥) → (s ≡ status.SinkFault → ⊥) → ((taken : ℕ) → s ≡ status.Long taken → ⊥)
    → ((side : Side) (place : ℕ) → s ≡ status.NotACatalogue side place → ⊥) → ((had given : ℕ) → s ≡ status.Stores had given → ⊥) → IsComplete s
complete status.Done ends disk source sink long catalogue stores = tt
complete status.Usage ends disk source sink long catalogue stores = absurd ends
complete (status.NotACatalogue side place) ends disk source sink long catalogue stores = absurd (catalogue side place refl)
complete (status.NotEmpty side len) ends disk source sink long catalogue stores = absurd ends
complete (status.Stores had given) ends disk source sink long catalogue stores = absurd (stores had given refl)
complete status.DiskFault ends disk source sink long catalogue stores = absurd (disk refl)
complete status.SourceFault ends disk source sink long catalogue stores = absurd (source refl)
complete status.SinkFault ends disk source sink long catalogue stores = absurd (sink refl)
complete status.Memory ends disk source sink long catalogue stores = tt
complete (status.Long taken) ends disk source sink long catalogue stores = absurd (long taken refl)
complete (status.Worn what place) ends disk source sink long catalogue stores = tt

said : (line : Text) (wanted s : Status) (sink_old sink_new : SinkState) → (s ≡ status.SinkFault → ⊥) → SaysLine line wanted sink_old sink_new s → s ≡ wanted
said line wanted s sink_old sink_new sink (inl ok) = ok.0
said line wanted s sink_old sink_new sink (inr bad) = absurd (sink bad.0)

both_empty : (main_old spare : DiskState) → IsTrue main_old.tells → IsTrue spare.tells → main_old.holds ≡ [] → spare.holds ≡ [] → (side : Side) (len : ℕ) → IsNotEmpty main_old spare len side → ⊥
both_empty main_old spare main_told spare_told main_empty spare_empty Main len n = omega (arith, n.0, n.1 main_told, ap length main_empty)
both_empty main_old spare main_told spare_told main_empty spare_empty Spare len n = omega (arith, n.0, n.2 spare_told, ap length spare_empty)

pub complete_init : (zone admin : Text) (stores : ℕ) (main_old main_new spare : DiskState) (sink_old sink_new : SinkState) (s : Status) → Inits zone admin stores main_old main_new spare sink_old sink_new s
    → IsTrue main_old.tells → IsTrue spare.tells → main_old.holds ≡ [] → spare.holds ≡ [] → (s ≡ status.DiskFault → ⊥) → (s ≡ status.SinkFault → ⊥) → (s ≡ status.Done) ⊎ (s ≡ status.Memory)
complete_init zone admin stores main_old main_new spare sink_old sink_new s (inl began) main_told spare_told main_empty spare_empty disk sink = inl (said _ status.Done s sink_old sink_new sink began.1)
complete_init zone admin stores main_old main_new spare sink_old sink_new s (inr (inl refused)) main_told spare_told main_empty spare_empty disk sink =
    absurd (both_empty main_old spare main_told spare_told main_empty spare_empty refused.0 refused.1 refused.2)
complete_init zone admin stores main_old main_new spare sink_old sink_new s (inr (inr (inl failed))) main_told spare_told main_empty spare_empty disk sink = absurd (disk failed.0)
complete_init zone admin stores main_old main_new spare sink_old sink_new s (inr (inr (inr memory))) main_told spare_told main_empty spare_empty disk sink = inr memory.0

-- ---- main that was only looked at

pub rests_more : {C : Type 0} (old mid new : DeviceState C) → Rests old mid → Rests mid new → Rests old new
rests_more old mid new first then = rests-then old mid new first then

-- the numbers of stores are those that were compared
pub stores_so : (had given kept handed : ℕ) (sink_old sink_new : SinkState) (s : Status) → kept ≡ had → handed ≡ given → RefusesStores kept handed sink_old sink_new s → RefusesStores had given sink_old sink_new s
stores_so had given kept handed sink_old sink_new s one other refused =
    let K : ℕ → Type 0 = λ n. RefusesStores n handed sink_old sink_new s in
    let G : ℕ → Type 0 = λ n. RefusesStores had n sink_old sink_new s in
    subst G other (subst K one refused)

-- another number of stores
pub other_stores : (main spare : Text) (held found : Cat) (given : ℕ) (sink_old sink_new : SinkState) (s : Status) → Stands main spare (Ok held) → Stands main spare (Ok found) → RefusesStores held.stores given sink_old sink_new s
    → RefusesStores found.stores given sink_old sink_new s
other_stores main spare held found given sink_old sink_new s one other refused =
    let P : Cat → Type 0 = λ c. RefusesStores c.stores given sink_old sink_new s in
    subst P (one_cat main spare held found one other) refused

-- ---- lines

pub says_as : (line text : Text) → line ≡ text → (wanted : Status) (old new : SinkState) (s : Status) → SaysLine line wanted old new s → SaysLine text wanted old new s
says_as line text same wanted old new s said = let P : Text → Type 0 = λ t. SaysLine t wanted old new s in subst P same said

-- ---- words that ask for nothing

pub says_another : (line : Text) (wanted s t : Status) (old new : SinkState) → (wanted ≡ t → ⊥) → (status.SinkFault ≡ t → ⊥) → SaysLine line wanted old new s → s ≡ t → ⊥
says_another line wanted s t old new other no_fault (inl ok) is = other (sym ok.0 ∙ is)
says_another line wanted s t old new other no_fault (inr bad) is = no_fault (sym bad.0 ∙ is)

pub usage_says_none : (line : Text) (s : Status) (old new : SinkState) (side : Side) (place : ℕ) → SaysLine line status.Usage old new s → s ≡ status.NotACatalogue side place → ⊥
usage_says_none line s old new side place said is = says_another line status.Usage s (status.NotACatalogue side place) old new (λ e. cc) (λ e. cc) said is

pub usage_says_no_stores : (line : Text) (s : Status) (old new : SinkState) (had given : ℕ) → SaysLine line status.Usage old new s → s ≡ status.Stores had given → ⊥
usage_says_no_stores line s old new had given said is = says_another line status.Usage s (status.Stores had given) old new (λ e. cc) (λ e. cc) said is

-- ---- beside the statuses

-- nothing was taken
pub took_none : (s : SourceState) → TookFew s s
took_none s = record { taken = []; split = refl; few = omega arith }

-- an input that is read whole does not go on
pub long_fits : (from to : SourceState) (asked : List Asked) → ReadsMost asked from to → length from.left ≤ 2 ^ 48 → ⊥
long_fits from to asked most fits = omega (arith, fits, most.size, ap length most.split, length-append most.taken to.left)

module _ {B : Type 0} (state : B → StoreState) where
  start_whole : (zone admin : Text) (count t : ℕ) (stores : List B) → HaveNoFiles state t stores → AreWhole state t (start zone admin count) stores
  start_whole zone admin count t stores none = record {
    rows = tt;
    files = λ slot store image is told left. record {
      good = tt;
      accounted = λ name file there. let gone = none slot store image is told left name in absurd cc;
    };
  }

  pub start_whole_as : {V : Type 0} (items : V → List B) (old new : V) → new ≡ old → (zone admin : Text) (count t : ℕ) → HaveNoFiles state t (items old) → AreWhole state t (start zone admin count) (items new)
  start_whole_as {V = V} items old new same zone admin count t none = let P : V → Type 0 = λ v. AreWhole state t (start zone admin count) (items v) in subst P (sym same) (start_whole zone admin count t (items old) none)
