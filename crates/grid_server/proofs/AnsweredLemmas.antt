-- A request that is handled behind those that were answered.
use Rattle.std.proofs.Common.{◌≡◌, ◌⊎◌, inl, inr, ℕ, ◌+◌, List, [], ◌∷◌, ◌++◌, length, ap, subst, IsTrue}
use Rattle.std.specs.Prelude.{Result, Ok, ⊤}
use Rattle.std.specs.List.{AllByRecursion}
use Rattle.grid_outside.specs.Source.{SourceState}
use Rattle.grid_model.specs.Names.{Text}
use Rattle.grid_model.specs.Inputs.{Asked}
use Rattle.grid_model.specs.Rows.{Cat}
use Rattle.grid_model.specs.Runs.{Request}
use Rattle.grid_journal.specs.Stands.{Stands, stands as made_of, StandsFor}
use Rattle.grid_headline.specs.Headline.{BeginsOn}
use Rattle.grid_headline.specs.Reads.{MeansRequest, EndsInput}
use Rattle.grid_headline.specs.Worlds.{World}
use Rattle.run_laws.specs.Sofar.{CallsGoOn, KeepsWhole, Sofar}
use Rattle.grid_model.specs.Working.{Done}
use Rattle.run_laws.specs.Steps.{ComesAfter, NotesLine, RequestStep, kept, swept, unseen}
use Rattle.run_laws.proofs.RunLaws.{one_more}
use Rattle.cmd_run.specs.Asking.{IsLineOf}
use Rattle.cmd_run.specs.Fits.{FitsMain, state_of}
use Rattle.cmd_run.specs.Obeys.{Obeys, handled, quiet}
use Rattle.cmd_run.specs.Sweeping.{SweepLeavesFew}
use Rattle.cmd_run.specs.declared.server.Server.{Server}
use Rattle.cmd_run.specs.declared.server.Ending.{Ending}
use Rattle.run_laws.specs.declared.around.Around.{Around}
use Rattle.grid_server.specs.Turning.{Command, Commanded}
use Rattle.grid_server.specs.Views.{Views, world_of}

-- what the disks stand for does not hang on spare
pub any_spare : {main spare : Text} {c : Cat} → Stands main spare (Ok c) → StandsFor main c
any_spare (made_of records c head log replays zone) spare = made_of records c head log replays zone

-- the files stay whole while a request is handled
pub keeps_whole : {D S K A P : Type 0} (v : Views D S K A P) (a b : Around D S K A P) (c : Command) (r : Result ⊤ Ending) (after : Server) → IsTrue (v.disk a.outside.main).tells
    → Commanded (world_of v a) (world_of v b) c r after → (line : Text) → IsLineOf c.heard.asked c.heard.line line → KeepsWhole (world_of v a) (world_of v b) c.before.store.cat
keeps_whole v a b c r after told cmd line its_line settled whole t main spare d late left its =
    let stood = any_spare its in
    let was = cmd.whole told settled.of_main (λ s late. (
    let w = whole s late in
    record { rows = w.rows; files = λ slot store image is tells left. w.files slot image (record { store = store; is = is; tells = tells; of_store = left }) }
    )) t main d late left.of_main stood in
    record {
      rows = was.rows;
      call = (cmd.call line its_line told settled.of_main t main d late left.of_main stood).0;
      files = λ slot image there. was.files slot there.store image there.is there.tells there.of_store;
    }

-- and no other line is noted than that of the request
pub notes_line : {D S K A P : Type 0} (v : Views D S K A P) (a b : Around D S K A P) (c : Command) (r : Result ⊤ Ending) (after : Server) → Commanded (world_of v a) (world_of v b) c r after
    → (line : Text) → IsLineOf c.heard.asked c.heard.line line → NotesLine line (world_of v a) (world_of v b)
notes_line v a b c r after cmd line its_line told settled t main d late left stands = (cmd.call line its_line told settled t main d late left stands).1

all_then : (asked : List Asked) (a : Asked) → AllByRecursion (λ x. ¬ EndsInput x) asked → ¬ EndsInput a → AllByRecursion (λ x. ¬ EndsInput x) (asked ++ a ∷ [])
all_then [] a none not = (not, tt)
all_then (x ∷ asked) a none not = (none.0, all_then asked a none.1 not)

pub none_end_more : (asked : List Asked) (a : Asked) → AllByRecursion (λ x. ¬ EndsInput x) asked → ¬ EndsInput a → AllByRecursion (λ x. ¬ EndsInput x) (asked ++ a ∷ [])
none_end_more = all_then

pub none_end_at : (all : List Asked) → AllByRecursion (λ x. ¬ EndsInput x) all → (a : Asked) (front behind : List Asked) → all ≡ front ++ a ∷ behind → ¬ EndsInput a
none_end_at [] none a [] behind e = absurd cc
none_end_at [] none a (f ∷ front) behind e = absurd cc
none_end_at (x ∷ all) none a [] behind e = let same : x ≡ a = cc in subst (λ (y : Asked). ¬ EndsInput y) same none.0
none_end_at (x ∷ all) none a (f ∷ front) behind e = let rest : all ≡ front ++ a ∷ behind = cc in none_end_at all none.1 a front behind rest

-- the number of the next request
pub obeys_at : {B : Type 0} (old new : World B) (before : Server) (m n : ℕ) (request : Request) (r : Result ⊤ Ending) (after : Server) → m ≡ n → Obeys old new before (m + 1) request r after → Obeys old new before (n + 1) request r after
obeys_at old new before m n request r after e o = let O : ℕ → Type 0 = λ k. Obeys old new before (k + 1) request r after in subst O e o

pub step_at : {B : Type 0} (old new : World B) (before : Server) (m n : ℕ) (request : Request) → m ≡ n
    → RequestStep old new (state_of before) before.store.cat (m + 1) request → RequestStep old new (state_of before) before.store.cat (n + 1) request
step_at old new before m n request e s = let S : ℕ → Type 0 = λ k. RequestStep old new (state_of before) before.store.cat (k + 1) request in subst S e s

-- what holds with any source
pub uncalled_or_begun : {Uncalled : Type 0} {Begun : SourceState → Type 0} (source : SourceState) → Uncalled ⊎ ((s : SourceState) → Begun s) → Uncalled ⊎ Begun source
uncalled_or_begun source (inl same) = inl same
uncalled_or_begun source (inr begun) = inr (begun source)

module _ {B : Type 0} {old mid new : World B} {found : Cat} {before : Server} {asked : List Asked} {a : Asked} {request : Request} (after : Server) (begin : BeginsOn old found)
    (so : Sofar old mid found before.store.cat (state_of before) asked) (goes : CallsGoOn old.source.left mid new before.store.cat) (notes : NotesLine a.line mid new) (means : MeansRequest (state_of before) a request) where
  -- it was handled whole, and does not end the input
  pub answered_more : (done : ⊤) → Obeys mid new before (length asked + 1) request (Ok done) after → SweepLeavesFew mid new before request (Ok done) after → ¬ EndsInput a
      → Sofar old new found after.store.cat (state_of after) (asked ++ a ∷ [])
  answered_more done (handled step ends) few not = one_more begin so goes notes means not step (few step.marks step.d step.does_so) ends.0
  answered_more done (quiet ending e q) few not = absurd (cc e)

-- it fits, and the catalogue is of as many stores
pub fits_more : {B : Type 0} (old new : World B) (before : Server) (n : ℕ) (request : Request) (done : ⊤) (after : Server) → Obeys old new before n request (Ok done) after
    → FitsMain new.main after × (after.store.cat.stores ≡ before.store.cat.stores)
fits_more old new before n request done after (handled step ends) = (ends.1, stores_of ends.0.follows)
  where
    stores_of : {d : Done} → ComesAfter before.store.cat n request d after.store.cat → after.store.cat.stores ≡ before.store.cat.stores
    stores_of (kept its had) = its.stores
    stores_of (unseen same marks grid rules) = ap (λ (c : Cat). c.stores) same
    stores_of (swept sweep like gives marks grid rules) = like.stores
fits_more old new before n request done after (quiet ending e q) = absurd (cc e)
