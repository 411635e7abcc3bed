-- What a get leaves for the calls behind it.
use Rattle.std.proofs.Common.{◌≡◌, ◌⊎◌, inl, inr, ℕ, ◌≤◌, Bool, true, List, [], ◌∷◌, ◌++◌, Option, Result, Ok, Err, IsTrue, length}
use Rattle.std.proofs.Common.{refl, sym, ap, ◌∙◌, subst, length-append, arith}
use Rattle.std.specs.Prelude.{⊤, ◌&&◌, IfOk, IsErrOf, OnOk}
use Rattle.std.specs.List.{list_all}
use Rattle.grid_outside.specs.Ambient.{AmbientState}
use Rattle.grid_outside.specs.Disk.{DiskState}
use Rattle.grid_outside.specs.Files.{StoreState}
use Rattle.grid_outside.specs.Sink.{SinkState}
use Rattle.grid_outside.specs.Source.{SourceState}
use Rattle.grid_outside.specs.declared.outside.Wear.TheVariants as wear
use Rattle.grid_model.specs.Applying.{is_user}
use Rattle.grid_model.specs.Deltas.{all_fit, mark as mark_parts, passed as passed_parts, text as text_part, u32, u64}
use Rattle.grid_model.specs.Names.{Path, Text}
use Rattle.grid_model.specs.Operations.Table.{get as fetch}
use Rattle.grid_model.specs.Points.{Point}
use Rattle.grid_model.specs.Rows.{Cat}
use Rattle.grid_model.specs.RowGrids.{grid_of, user_name}
use Rattle.grid_model.specs.Grid.{Grid}
use Rattle.grid_model.specs.Operations.Replicas.{got}
use Rattle.tables_laws.proofs.Grids.{grid-same}
use Rattle.grid_model.specs.Sessions.{State}
use Rattle.grid_model.specs.Runs.{Request}
use Rattle.grid_model.specs.declared.deltas.Pending.{Pending}
use Rattle.grid_model.specs.declared.marks.Mark.{Mark}
use Rattle.grid_model.specs.declared.plans.OldFile.{OldFile}
use Rattle.grid_model.specs.declared.refusal.Failure.{Failure}
use Rattle.grid_journal.specs.Journal.{Journal}
use Rattle.grid_deed.specs.Held.{IsHeld}
use Rattle.deed_run.specs.Sent.{TookMark}
use Rattle.plan_object.specs.Sending.{Sends}
use Rattle.point_laws.specs.Works.{AfterWorkEnds, AfterWorkSends, WorksEndByRows, WorksTakeInOrder, operation}
use Rattle.run_laws.specs.Passes.{CallsPass, Seen}
use Rattle.service_run.specs.Commands.{place_by}
use Rattle.service_run.specs.SentFiles.{SendsFile}
use Rattle.service_run.specs.Steps.{lines_of}
use Rattle.service_run.specs.declared.command.Command.{Command}
use Rattle.service_run.specs.declared.ending.Ending.{Ending}
use Rattle.service_run.specs.declared.ending.Ending.TheVariants as ending
use Rattle.call_laws.specs.Amid.{IsAmid, world}
use Rattle.call_laws.specs.OneCall.{AreKeepable, IsKeepable}
use Rattle.call_laws.proofs.Joined.{passes_well}
use Rattle.call_laws.proofs.Keepable.{joined_of}
use Rattle.rule_run.specs.Asked.{IsAsked, asked_setting}
use Rattle.work_run.specs.Behind.{IsBehind, from_work}
use Rattle.work_run.specs.Fetched.{FetchEnds, IsSentFor}
use Rattle.work_run.specs.Next.{CanGoOn}
use Rattle.work_run.specs.Works.{DoesSo}
use Rattle.work_run.proofs.Fetched.{fetch_cut, fetched}
use Rattle.size_laws.specs.Within.{IsWithin}

-- ---- rows that are others by the pending command alone

grid_pending : (c : Cat) (q : Option Pending) → grid_of (record c { pending = q }) ≡ grid_of c
grid_pending c q = grid-same c (record c { pending = q }) refl (grid_of c) refl

module _ (rows later : Journal) (same : later.cat ≡ record rows.cat { pending = later.cat.pending }) where
  pub sends_same : (user : Text) (path : Path) (asked : Option Text) (file : OldFile) → Sends rows.cat user path asked file → Sends later.cat user path asked file
  sends_same user path asked file s =
      let its : (q : Option Pending) → Sends (record rows.cat { pending = q }) user path asked file = λ q. record {
        from = s.from;
        is = ap (λ (g : Grid). got g user path asked) (grid_pending rows.cat q) ∙ s.is;
        number = s.number;
        slot = s.slot;
        size = s.size;
        digest = s.digest;
        row = s.row;
        there = s.there;
        good = s.good;
        vault_is = s.vault_is;
        slot_is = s.slot_is;
        object_row = s.object_row;
        of_object = s.of_object;
        size_row = s.size_row;
        digest_row = s.digest_row;
      } in
      subst (λ (c : Cat). Sends c user path asked file) (sym same) (its later.cat.pending)

  pub within_so : (result : Result (Result ⊤ Failure) Ending) → IfOk result (λ ran. IsWithin (grid_of rows.cat) → IsWithin (grid_of later.cat))
  within_so (Ok ran) =
      let same_grid : grid_of later.cat ≡ grid_of rows.cat = ap grid_of same ∙ grid_pending rows.cat later.cat.pending in
      let W : Grid → Type 0 = λ g. IsWithin g in
      λ within. subst W (sym same_grid) within
  within_so (Err e) = tt

  module _ (y z : Command) (command : z ≡ record y { untold = [] }) where
    pub name_same : user_name later.cat z.user ≡ user_name rows.cat y.user
    name_same i = user_name (same i) (command i).user

    pub place_same : place_by later.cat z ≡ place_by rows.cat y
    place_same i = record {
      user = name_same i;
      grid = (ap grid_of same ∙ grid_pending rows.cat later.cat.pending) i;
      taken = (command i).marks;
      passed = (command i).passed;
    }

    pub user_same : IsTrue (is_user rows.cat y.user) → IsTrue (is_user later.cat z.user)
    user_same user = (λ i. is_user (same i) (command i).user) ∙ user

-- ---- a mark was taken

module _ (rows : Journal) (y : Command) (later : Journal) (z last : Command) where
  pub marked_so : (result : Result (Result ⊤ Failure) Ending) → OnOk result (TookMark z last) → IfOk result (λ ran. last.marks ≡ [] → ⊥)
  marked_so (Ok ran) took = λ none. omega (arith, ap (λ (ms : List Mark). length ms) (sym none ∙ ap (λ (k : Command). k.marks) took.is), length-append z.marks (took.m ∷ []))
  marked_so (Err e) took = tt

  pub name_so : later.cat ≡ record rows.cat { pending = later.cat.pending } → z ≡ record y { untold = [] } → (result : Result (Result ⊤ Failure) Ending)
      → OnOk result (TookMark z last) → IfOk result (λ ran. user_name later.cat last.user ≡ user_name rows.cat y.user)
  name_so same command (Ok ran) took = ap (user_name later.cat) (ap (λ (k : Command). k.user) took.is) ∙ name_same rows later same y z command
  name_so same command (Err e) took = tt

  pub stores_so : later.cat ≡ record rows.cat { pending = later.cat.pending } → (result : Result (Result ⊤ Failure) Ending)
      → IfOk result (λ ran. later.cat.stores ≡ rows.cat.stores)
  stores_so same (Ok ran) = ap (λ (c : Cat). c.stores) same
  stores_so same (Err e) = tt

  one_fits : (m : Mark) → IsTrue (all_fit (mark_parts m)) → IsTrue (list_all (λ k. all_fit (mark_parts k)) (m ∷ []))
  one_fits m its = ap (λ (b : Bool). b && true) its

  pub next_so : {D : Type 0} (disk : D → DiskState) (main_mid main_new : D) → (kept : Cat) → IsHeld kept (disk main_mid) later
      → (same : later.cat ≡ record rows.cat { pending = later.cat.pending }) → (command : z ≡ record y { untold = [] }) → IsTrue (is_user rows.cat y.user)
      → IsKeepable y → AreKeepable y [] → main_new ≡ main_mid → (result : Result (Result ⊤ Failure) Ending) → OnOk result (TookMark z last)
      → IfOk result (λ ran. CanGoOn (disk main_new) later last)
  next_so disk main_mid main_new kept held same command user words keeps still (Ok ran) took = record {
    held = (kept, subst (λ d. IsHeld kept (disk d) later) (sym still) held);
    user = ap (λ (k : Command). is_user later.cat k.user) took.is ∙ user_same rows later same y z command user;
    words = record {
      run = (λ i. (u64 (took.is i).run).fits) ∙ (λ i. (u64 (command i).run).fits) ∙ words.run;
      number = (λ i. (u64 (took.is i).number).fits) ∙ (λ i. (u64 (command i).number).fits) ∙ words.number;
      user = (λ i. (u32 (took.is i).user).fits) ∙ (λ i. (u32 (command i).user).fits) ∙ words.user;
      line = (λ i. (text_part (took.is i).line).fits) ∙ (λ i. (text_part (command i).line).fits) ∙ words.line;
    };
    kept = record {
      marks = (λ i. list_all (λ m. all_fit (mark_parts m)) (took.is i).marks)
          ∙ (λ i. list_all (λ m. all_fit (mark_parts m)) ((command i).marks ++ took.m ∷ []))
          ∙ joined_of (λ m. all_fit (mark_parts m)) y.marks (took.m ∷ []) keeps.marks (one_fits took.m took.fits);
      passed = (λ i. list_all (λ q. all_fit (passed_parts q)) (took.is i).passed)
          ∙ (λ i. list_all (λ q. all_fit (passed_parts q)) (command i).passed)
          ∙ keeps.passed;
      calls = refl;
    };
  }
  next_so disk main_mid main_new kept held same command user words keeps still (Err e) took = tt

-- an error of a sending is none of vault numbers
pub none_worn : (result : Result (Result ⊤ Failure) Ending) → ((e : Ending) → IsErrOf result e → (e ≡ ending.Sink) ⊎ (e ≡ ending.Memory)) → (place : ℕ)
    → IsErrOf result (ending.Worn wear.Vaults place) → ⊥
none_worn result errors place is = by (errors (ending.Worn wear.Vaults place) is)
  where
    by : (ending.Worn wear.Vaults place ≡ ending.Sink) ⊎ (ending.Worn wear.Vaults place ≡ ending.Memory) → ⊥
    by (inl same) = cc same
    by (inr same) = cc same

-- ---- by how it ended

module _ {D A P K : Type 0} (disk : D → DiskState) (ambient : A → AmbientState) (plugin : P → StoreState) (sink : K → SinkState) (source : SourceState)
    (at : State) (request : Request) (before : Cat) (x : Command) (asked : IsAsked at request before x) (from : Seen D A P K)
    (user : Text) (path : Path) (asking : Option Text) (p : Option Point) (b : ℕ) (mid : Seen D A P K) (y : Command) (rows : Journal) (taken : List Mark)
    (amid : IsAmid disk ambient plugin sink source (asked_setting at request before x (lines_of x.number)) from mid y rows taken) (untold : y.untold ≡ [])
    (main_last : (disk mid.outside.main).last ≤ mid.outside.moments)
    (behind : IsBehind at request taken (place_by rows.cat y) b (from_work at p user (operation (fetch path asking)))) (file : OldFile)
    (sends : Sends rows.cat user path asking file) (new : Seen D A P K) (z : Command) (does_so : DoesSo at request user (operation (fetch path asking)))
    (ends : WorksEndByRows) (takes : WorksTakeInOrder) (works : AfterWorkEnds) (sends_so : AfterWorkSends) where
  pub fetched_so : (result : Result (Result ⊤ Failure) Ending)
      → CallsPass disk plugin sink (IsErrOf result ending.Disk) (IsErrOf result ending.Sink) mid new
      → SendsFile (world disk ambient plugin sink source mid) (world disk ambient plugin sink source new) rows.cat file y z result
      → FetchEnds disk ambient plugin sink source at request before x from new taken p b file.number rows z result
  fetched_so (Ok ran) passes step =
      fetched disk ambient plugin sink source at request before x asked from user path asking p b mid y rows taken amid untold main_last behind file sends new z
      ran (passes_well disk plugin sink _ _ ⊥ ⊥ mid new (λ f. cc f) (λ f. f) (λ f. f) passes) step
  fetched_so (Err e) passes step =
      fetch_cut disk ambient plugin sink source at request before x asked from user path asking p b mid y rows taken amid untold main_last behind file sends new z
      does_so ends takes works sends_so e _ _ passes step rows

-- how it ran is said in another way
module _ {D A P K : Type 0} (disk : D → DiskState) (ambient : A → AmbientState) (plugin : P → StoreState) (sink : K → SinkState) (source : SourceState)
    (at : State) (request : Request) (before : Cat) (x : Command) (from new : Seen D A P K) (taken : List Mark) (p : Option Point) (b number : ℕ)
    (after : Journal) (z : Command) where
  pub sent_as : (ran other : Result ⊤ Failure) → ran ≡ other → IsSentFor disk ambient plugin sink source at request before x from new taken p b number ran after z
      → IsSentFor disk ambient plugin sink source at request before x from new taken p b number other after z
  sent_as ran other is its =
      subst (λ (r : Result ⊤ Failure). IsSentFor disk ambient plugin sink source at request before x from new taken p b number r after z) is its
