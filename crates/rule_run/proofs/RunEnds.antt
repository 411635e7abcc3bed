-- How rules end that were run for a request: to their end, or cut short.
use Rattle.std.proofs.Common.{◌≡◌, ℕ, Bool, true, false, List, [], ◌++◌, Some, None, Ok, Err, IsTrue, sym, ap, ◌∙◌, subst}
use Rattle.std.proofs.Common.{◌≤◌, append_assoc, append-nil}
use Rattle.std.specs.Prelude.{All}
use Rattle.std.proofs.lemmas.List.{append_cancel_left}
use Rattle.grid_outside.specs.Ambient.{AmbientState}
use Rattle.grid_outside.specs.Disk.{DiskState}
use Rattle.grid_outside.specs.Files.{StoreState}
use Rattle.grid_outside.specs.Sink.{SinkState}
use Rattle.grid_outside.specs.Source.{SourceState}
use Rattle.grid_outside.specs.declared.outside.Wear.TheVariants as wear
use Rattle.grid_model.specs.Names.{Text}
use Rattle.grid_model.specs.Rows.{Cat}
use Rattle.grid_model.specs.RowGrids.{user_name}
use Rattle.grid_model.specs.RuleText.{Rule}
use Rattle.grid_model.specs.Values.{Env}
use Rattle.grid_model.specs.Meanings.{Meaning, waits}
use Rattle.grid_model.specs.Chains.{Named}
use Rattle.grid_model.specs.Doing.{do_call}
use Rattle.grid_model.specs.Sessions.{State}
use Rattle.grid_model.specs.Runs.{Request, does}
use Rattle.grid_model.specs.declared.calls.Call.{Call}
use Rattle.grid_model.specs.declared.deltas.Numbers.{Numbers}
use Rattle.grid_model.specs.declared.marks.Mark.{Mark}
use Rattle.grid_journal.specs.Stands.{StandsFor}
use Rattle.grid_deed.proofs.Keeping.{held_stands}
use Rattle.chain_core.specs.declared.actions.Outcome as told
use Rattle.chain_core.specs.declared.frames.Frames.{Frames}
use Rattle.chain_run.specs.Calls.{Made, OnlyLastStops}
use Rattle.chain_run.specs.Places.{Place, course_at}
use Rattle.chain_run.specs.Runs.{IsDue, ReachesEnd}
use Rattle.chain_laws.specs.Ending.{Completes, MachinesComplete}
use Rattle.run_laws.specs.Passes.{Seen}
use Rattle.service_run.specs.Commands.{WaitsAt, place_by, waiting_at}
use Rattle.service_run.specs.Steps.{IsWornSo}
use Rattle.service_run.specs.declared.command.Command.{Command}
use Rattle.service_run.specs.declared.ending.Ending.{Ending}
use Rattle.service_run.specs.declared.ending.Ending.TheVariants as ending
use Rattle.call_laws.specs.Amid.{IsAmid, IsSetting, MayCall}
use Rattle.call_laws.specs.OneCall.{IsCut, cut, ran_out}
use Rattle.call_laws.proofs.Rounds.{short_amid}
use Rattle.rule_run.specs.Asked.{IsAsked, asked_setting}
use Rattle.rule_run.specs.Calls.{Chain, Did, Spot, performed, recovered, refused, world_at}
use Rattle.rule_run.specs.Running.{HasRunDry, IsRunShort, RunEnds, WaitsWith}
use Rattle.rule_run.proofs.Chains.{FrontGoesOn, Leaves, Walked, front_goes_on, last_stops, leaves, left_begun, left_behind, some_stopped, walked}
use Rattle.rule_run.proofs.Noting.{may_call}
use Rattle.rule_run.proofs.OneCall.{AmidAt, does_there, not_both}

-- ---- a call that waits

-- it waits whatever the steps are that were begun, stopped or not
waits_any : (user : Text) (c : Call) (p : Place) → WaitsAt (do_call user c) p c → (begun : ℕ) (stopped : Bool)
    → do_call user c (course_at p [] begun stopped) ≡ waits (waiting_at p c)
waits_any user c p its begun true = (its begun).1
waits_any user c p its begun false = (its begun).0

-- where all does
due_waits : {Stop : Type 0} (rules : List Rule) (env : Env) (whole : List Mark → Meaning Named) (from : Place) (x : Made Stop)
    (due : IsDue rules env whole from x)
    → WaitsAt (do_call env.user x.call) x.place x.call → whole due.reached.marks ≡ waits (record (waiting_at x.place x.call) { undo = x.undo })
due_waits rules env whole from x due its =
    ap whole (sym (append-nil due.reached.marks))
    ∙ due.waits_so [] (waiting_at x.place x.call) (waits_any env.user x.call x.place its due.machine.begun due.machine.stopped)

module _ {D A P K : Type 0} (disk : D → DiskState) (ambient : A → AmbientState) (plugin : P → StoreState) (sink : K → SinkState) (source : SourceState)
    (at : State) (request : Request) (before : Cat) (x : Command) (asked : IsAsked at request before x)
    (text_of : List Mark → Text) (setting : IsSetting (asked_setting at request before x text_of))
    (from : Seen D A P K) (taken : List Mark) (start : Spot D A P K)
    (begun : IsAmid disk ambient plugin sink source (asked_setting at request before x text_of) from start.seen start.command start.rows taken)
    (main_last : (disk start.seen.outside.main).last ≤ start.seen.outside.moments)
    (rules : List Rule) (env : Env) (whole : List Mark → Meaning Named) (name : user_name start.rows.cat start.command.user ≡ env.user)
  where
    abbrev entry : Place
    entry = place_by start.rows.cat start.command

    abbrev Due : Made Ending → Type 0
    Due = IsDue rules env whole entry

    abbrev Amid : Spot D A P K → List Mark → Type 0
    Amid = AmidAt disk ambient plugin sink source (asked_setting at request before x text_of) setting from

    -- ---- marks

    marks_at : (b : Spot D A P K) (marks : List Mark) → Amid b marks → b.command.marks ≡ x.marks ++ marks
    marks_at b marks amid = ap (λ (y : Command). y.marks) amid.command

    -- those that were taken are those that the place has
    same_marks : (b : Spot D A P K) (marks reached : List Mark) → Amid b (taken ++ marks) → b.command.marks ≡ entry.taken ++ reached → marks ≡ reached
    same_marks b marks reached amid is =
        append_cancel_left taken marks reached (append_cancel_left x.marks (taken ++ marks) (taken ++ reached)
        (sym (marks_at b (taken ++ marks) amid)
        ∙ is
        ∙ ap (λ (ms : List Mark). ms ++ reached) (marks_at start taken begun)
        ∙ append_assoc x.marks taken reached))

    due_marks : (b : Spot D A P K) (c : Made Ending) (marks : List Mark) → Amid b (taken ++ marks) → c.place ≡ place_by b.rows.cat b.command → (due : Due c)
        → marks ≡ due.reached.marks
    due_marks b c marks amid place due = same_marks b marks due.reached.marks amid (sym (ap (λ (p : Place). p.taken) place) ∙ due.reached.taken)

    -- ---- the user

    name_at : (b : Spot D A P K) (marks : List Mark) → Amid b marks → user_name b.rows.cat b.command.user ≡ user_name before x.user
    name_at b marks amid = ap (user_name b.rows.cat) (ap (λ (y : Command). y.user) amid.command) ∙ amid.beside.names x.user asked.user

    user_at : (b : Spot D A P K) (marks : List Mark) → Amid b marks → user_name b.rows.cat b.command.user ≡ env.user
    user_at b marks amid = name_at b marks amid ∙ sym (name_at start taken begun) ∙ name

    module _ (waits_with : WaitsWith at request whole taken) where
      -- a call that is due may be made
      may : (b : Spot D A P K) (c : Made Ending) (marks : List Mark) → Amid b (taken ++ marks) → c.place ≡ place_by b.rows.cat b.command → Due c
          → MayCall (asked_setting at request before x text_of) b.rows.cat b.command (taken ++ marks) (does_there b c) c.call c.undo
      may b c marks amid place due =
          may_call at request before x asked text_of b.rows.cat b.command (taken ++ marks) c.call c.undo amid.command amid.beside (does_there b c)
          (λ its. waits_there its)
        where
          at_place : WaitsAt (do_call (user_name b.rows.cat b.command.user) c.call) (place_by b.rows.cat b.command) c.call
              → WaitsAt (do_call env.user c.call) c.place c.call
          at_place its =
              let U : Text → Type 0 = λ u. WaitsAt (do_call u c.call) (place_by b.rows.cat b.command) c.call in
              let W : Place → Type 0 = λ p. WaitsAt (do_call env.user c.call) p c.call in
              subst W (sym place) (subst U (user_at b (taken ++ marks) amid) its)

          waits_there : WaitsAt (do_call (user_name b.rows.cat b.command.user) c.call) (place_by b.rows.cat b.command) c.call
              → does at request (taken ++ marks) ≡ waits (record (waiting_at (place_by b.rows.cat b.command) c.call) { undo = c.undo })
          waits_there its =
              ap (λ (ms : List Mark). does at request (taken ++ ms)) (due_marks b c marks amid place due)
              ∙ waits_with due.reached.marks (record (waiting_at c.place c.call) { undo = c.undo }) (due_waits rules env whole entry c due (at_place its))
              ∙ ap (λ (p : Place). waits (record (waiting_at p c.call) { undo = c.undo })) place

      module _ (calls : List (Made Ending)) (b : Spot D A P K) (chain : Chain disk ambient plugin sink start calls b) (due : All Due calls) where
        abbrev WalkedTo : Spot D A P K → Type 0
        WalkedTo = Walked disk ambient plugin sink start source (asked_setting at request before x text_of) setting from taken Due may begun main_last

        -- ---- to its end

        pub ends_well : OnlyLastStops None calls → (outcome : told.Outcome) (m : Frames)
            → ReachesEnd whole entry outcome m (place_by b.rows.cat b.command)
            → RunEnds disk ambient plugin sink source at request before x text_of from b.seen whole taken m (Ok outcome) b.command b.rows
        ends_well on outcome m ends =
            let w = walked disk ambient plugin sink start source (asked_setting at request before x text_of) setting from taken Due may begun main_last calls b
            chain due on in
            let same : w.marks ≡ ends.marks = same_marks b w.marks ends.marks w.amid ends.taken in
            record {
              more = w.marks;
              amid = w.amid;
              gives_so = λ later. ap (λ (ms : List Mark). whole (ms ++ later)) same ∙ ends.gives_so later;
            }

        -- ---- cut short

        abbrev Short : Type 0
        Short = IsRunShort disk ambient plugin sink source at request before x text_of from b.seen whole taken

        abbrev Dry : Ending → Type 0
        Dry = HasRunDry disk ambient plugin sink source at request before x text_of from b.seen whole taken

        module _ (machines : MachinesComplete) (completes : Completes whole) where
          short_by : Leaves disk ambient plugin sink start source (asked_setting at request before x text_of) setting from taken Due may begun main_last calls b
              → Short
          short_by (left_begun same is) =
              let S : Spot D A P K → Type 0 = λ at_b. IsRunShort disk ambient plugin sink source at request before x text_of from at_b.seen whole taken in
              subst S (sym same) (record {
                more = [];
                cut = short_amid disk ambient plugin sink source (asked_setting at request before x text_of) from start.seen start.command start.rows
                    (taken ++ []) (subst (Amid start) (sym (append-nil taken)) begun);
                rest = completes.rest;
                ran = completes.ran;
                end = completes.end;
                gives_so = completes.gives_so;
              })
          short_by (left_behind front mid c is w its called cut_there) =
              let ends = machines rules env its.machine c.place in
              record {
                more = w.marks;
                cut = cut_there;
                rest = ends.rest;
                ran = ends.ran;
                end = ends.end;
                gives_so = λ later.
                    ap (λ (ms : List Mark). whole (ms ++ (ends.rest ++ later))) (due_marks mid c w.marks w.amid called.place its)
                    ∙ sym (its.reached.same (ends.rest ++ later))
                    ∙ ends.gives_so later;
              }

          -- what has run out, where the last one answered so
          module _ (mid : Spot D A P K) (w : WalkedTo mid) where
            told_mid : IsTrue (disk from.outside.main).tells → IsTrue (disk mid.seen.outside.main).tells
            told_mid told = subst IsTrue (sym w.amid.passes.frame.main.tells) told

            worn_dry : (c : Made Ending) (y : Command) (e : Ending)
                → IsWornSo (world_at disk ambient plugin sink source mid) (world_at disk ambient plugin sink source b) w.amid.holds.cat mid.rows mid.command
                c.call
                c.undo y b.rows e
                → Dry e
            worn_dry c y (ending.Worn wear.Vaults place) worn = (
              worn.1,
              λ told. (
                w.amid.holds.cat,
                subst (λ (t : Text). StandsFor t w.amid.holds.cat) (sym (worn.2.looks.holds (told_mid told)))
                    (held_stands w.amid.holds.cat (disk mid.seen.outside.main) mid.rows w.amid.holds.held (told_mid told)),
                ap (λ (n : Numbers). n.next_vault) (sym w.amid.holds.numbers) ∙ sym worn.0,
              ),
            )
            worn_dry c y (ending.Worn wear.Log place) worn = (worn.0, λ told. worn.1 (told_mid told))
            worn_dry c y (ending.Worn wear.Runs place) worn = worn
            worn_dry c y ending.Disk worn = tt
            worn_dry c y ending.Sink worn = tt
            worn_dry c y ending.Memory worn = tt

            dry_as : (e f : Ending) (c : Made Ending) → c.stop ≡ Some e → c.stop ≡ Some f → Dry f → Dry e
            dry_as e f c one other dry = let same : f ≡ e = same_Some f e (sym other ∙ one) in subst Dry same dry
              where
                same_Some : (f e : Ending) → Some f ≡ Some e → f ≡ e
                same_Some f e is = cc

            dry_by : (c : Made Ending) (e : Ending) → c.stop ≡ Some e → Did disk ambient plugin sink mid c b → Dry e
            dry_by c e stops (refused stop same) = dry_as e ending.Memory c stops stop tt
            dry_by c e stops (performed (Ok ran) stop step) = absurd (not_both c.stop e stop stops)
            dry_by c e stops (performed (Err f) stop step) =
                dry_as e f c stops stop (worn_dry c b.command f (step source w.amid.holds.cat w.amid.holds.held).ends)
            dry_by c e stops (recovered (Ok failure) stop runs) = absurd (not_both c.stop e stop stops)
            dry_by c e stops (recovered (Err f) stop runs) = dry_as e f c stops stop (cut_dry f (runs source w.amid.holds.cat w.amid.holds.held))
              where
                cut_dry : (f : Ending)
                    → IsCut (world_at disk ambient plugin sink source mid) (world_at disk ambient plugin sink source b) w.amid.holds.cat mid.rows mid.command
                    c.call c.undo b.rows b.command f → Dry f
                cut_dry f (cut step) = worn_dry c b.command f step.ends
                cut_dry f (ran_out ran left step) = tt

          dry_left : (e : Ending) → OnlyLastStops (Some e) calls
              → Leaves disk ambient plugin sink start source (asked_setting at request before x text_of) setting from taken Due may begun main_last calls b
              → Dry e
          dry_left e stops (left_begun same is) = absurd (some_stopped e calls stops is)
          dry_left e stops (left_behind front mid c is w its called cut_there) = dry_by mid w c e (last_stops e calls stops front c is) called.did

          left : FrontGoesOn calls
              → Leaves disk ambient plugin sink start source (asked_setting at request before x text_of) setting from taken Due may begun main_last calls b
          left front = leaves disk ambient plugin sink start source (asked_setting at request before x text_of) setting from taken Due may begun main_last calls
              b chain due front

          -- a call was stopped
          pub ends_stopped : (e : Ending) → OnlyLastStops (Some e) calls → (m : Frames) (y : Command)
              → RunEnds disk ambient plugin sink source at request before x text_of from b.seen whole taken m (Err e) y b.rows
          ends_stopped e stops m y = (short_by (left (front_goes_on (Some e) calls stops)), dry_left e stops (left (front_goes_on (Some e) calls stops)))

          -- there was no memory to go on
          pub ends_without_memory : OnlyLastStops None calls → (m : Frames) (y : Command)
              → RunEnds disk ambient plugin sink source at request before x text_of from b.seen whole taken m (Err ending.Memory) y b.rows
          ends_without_memory on m y = (short_by (left (front_goes_on None calls on)), tt)
