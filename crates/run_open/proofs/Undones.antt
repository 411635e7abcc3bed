-- Behind the first lines of a report come the recoveries: what they leave opens a run, or is how far that came.
use Rattle.std.proofs.Common.{◌≡◌, ◌⊎◌, inl, inr, ℕ, ◌+◌, ◌<◌, ◌≤◌, List, [], ◌∷◌, ◌++◌, length, Some, Result, Ok, IsTrue, refl, sym, ap, ◌∙◌, subst, append_assoc, arith}
use Rattle.std.specs.Prelude.{◌≢◌, ⊤}
use Rattle.std.proofs.lemmas.Bool.{cases_lt}
use Rattle.grid_outside.specs.Device.{Between, IsSettled}
use Rattle.grid_outside.specs.Sink.{AddsPart, SinkState}
use Rattle.grid_outside.specs.declared.outside.Wear.TheVariants as wear
use Rattle.grid_model.specs.Names.{Text}
use Rattle.grid_model.specs.ReplyTexts.{report_rest}
use Rattle.grid_model.specs.Rows.{Cat}
use Rattle.grid_model.specs.RuleText.{Rule}
use Rattle.grid_model.specs.Whole.{Names, by_replica}
use Rattle.grid_model.specs.declared.calls.Call.{Call}
use Rattle.grid_model.specs.declared.deltas.Pending.{Pending}
use Rattle.grid_model.specs.declared.marks.Mark.{Mark}
use Rattle.grid_journal.specs.Journal.{Journal}
use Rattle.grid_deed.specs.Safe.{AreWhole}
use Rattle.grid_deed.proofs.Keeping.{held_stands}
use Rattle.grid_headline.specs.Ends.{HasRecovery}
use Rattle.grid_headline.specs.Files.{AllStayWhole, DisksAreSettled, IsKnown, KeepsReplicas, ReplicasStayNamed, WereWhole}
use Rattle.grid_headline.specs.Headline.{BeginsOn}
use Rattle.grid_headline.specs.Numbers.{KeepsNumbers}
use Rattle.grid_headline.specs.Served.{report_back}
use Rattle.grid_headline.specs.Stops.{AreFirst}
use Rattle.grid_headline.specs.Worlds.{World}
use Rattle.grid_headline.proofs.PutStops.{the_catalogue}
use Rattle.count_laws.specs.GivenNumbers.{GivesFew}
use Rattle.count_laws.proofs.GivenNumbers.{gives_before}
use Rattle.run_laws.specs.Handled.{IsUnbegun}
use Rattle.run_laws.specs.Opening.{OneOfOpening, Opens, ShowsReport, not_begun}
use Rattle.run_laws.specs.Steps.{IsToldOf}
use Rattle.run_laws.specs.Undone.{Undone, recoveries_told, report_begun, whole_report}
use Rattle.run_laws.specs.Went.{AreInOrder, Went}
use Rattle.run_laws.proofs.Goings.{went-then, whole-then}
use Rattle.run_laws.proofs.Images.{keeps-then}
use Rattle.run_laws.proofs.Known.{told-less}
use Rattle.run_laws.proofs.Lists.{all-map}
use Rattle.service_run.specs.Steps.{IsKnownBy, lines_of}
use Rattle.service_run.specs.declared.command.Command.{Command}
use Rattle.service_run.specs.declared.ending.Ending.{Ending}
use Rattle.service_run.specs.declared.ending.Ending.TheVariants as ending
use Rattle.call_laws.proofs.Told.{adds_behind, adds_more, lines-append}
use Rattle.undo_run.specs.Undoing.{Undoes, IsOut}
use Rattle.run_open.specs.Beginning.{run_begun}
use Rattle.run_open.specs.Errors.{error_by}
use Rattle.run_open.specs.Preparing.{OpenStops, OpensOver, Prepared}
use Rattle.run_open.proofs.Fronts.{any_spare, front_of, gives_same, gives_start, images-told, keeps_same, keeps_start, named-told, told_world}
use Rattle.run_open.proofs.Fronts.{went-told, whole-told}
use Rattle.run_open.proofs.Parts.{adds-as}
use Rattle.run_open.proofs.ToldMarks.{front-split, recoveries-told}

-- what has run out is what ran out in a recovery
pub stops_so : {B : Type 0} (old new : World B) (found : Cat) (p : Pending) (e : Ending) → HasRecovery found.pending → IsOut old new found p e
    → OpenStops found old.main new.main (error_by e)
stops_so old new found p ending.Disk some out = tt
stops_so old new found p ending.Sink some out = tt
stops_so old new found p ending.Memory some out = tt
stops_so old new found p (ending.Worn wear.Runs place) some out = absurd out
stops_so old new found p (ending.Worn wear.Vaults place) some out = (some, out.0, out.1)
stops_so old new found p (ending.Worn wear.Log place) some out = out

-- a command that is pending and has recoveries
no_undo : (p : Pending) → ¬ (p.undo ≢ []) → p.undo ≡ []
no_undo p free = by p.undo refl
  where
    by : (cs : List Call) → p.undo ≡ cs → p.undo ≡ []
    by [] e = e
    by (c ∷ cs) e = absurd (free (λ none. cc (e, none)))

module _ {B : Type 0} (old : World B) (base : Cat) (p : Pending) where
  abbrev pub found : Cat
  found = record base { pending = Some p }

  module _ (begin : BeginsOn old found) (order : AreInOrder old) (sink : SinkState) (m : ℕ) (drawn : old.moments ≤ m) (told : Between old.moments m (AddsPart (front_of found)) old.sink sink)
      (all : IsTrue old.sink.tells → sink.holds ≡ old.sink.holds ++ front_of found) (sink_settled : IsTrue old.sink.tells → IsSettled old.sink → IsSettled sink) where
    abbrev mid : World B
    mid = told_world old found begin order sink m drawn told

    mid_tells : IsTrue old.sink.tells → IsTrue sink.tells
    mid_tells tells = subst IsTrue (sym told.tells) tells

    -- what was known of files is so behind the lines
    whole-mid : WereWhole old old.moments found → (t : ℕ) → m < t → AreWhole old.plugin t found old.stores
    whole-mid whole t late =
        let was = whole t (omega (arith, drawn, late)) in
        record { rows = was.rows; files = λ slot store image is tells left. was.files slot image (record { store = store; is = is; tells = tells; of_store = left }) }

    pub known-mid : (slot : ℕ) → IsKnown old found slot → IsKnownBy mid found slot
    known-mid slot known = record {
      settled = known.settled.of_main;
      whole = whole-mid known.whole;
      there = record { store = known.there.store; is = known.there.is; tells = known.there.tells };
    }

    module _ (new : World B) (went : Went mid new) (rules : List Rule) (result : Result ⊤ Ending) (y : Command) (after : Journal)
        (undoes : Undoes mid new found p rules result y after) (start : Cat) where
      abbrev u : Undone found
      u = undoes.undone

      abbrev lines : Text
      lines = lines_of p.number u.report

      abbrev back : Text
      back = report_back found.pending u.opened.passed

      split : report_begun found u ≡ front_of found ++ lines
      split = front-split found.pending u.report

      abbrev taken_lines : Text
      taken_lines = lines_of p.number undoes.taken

      lines-split : lines ≡ taken_lines ++ lines_of p.number undoes.first.rest
      lines-split = ap (lines_of p.number) undoes.first.are ∙ lines-append p.number undoes.taken undoes.first.rest

      -- a part of the lines, behind those in front
      abbrev lines-part : (mid_holds shown : Text) → mid_holds ≡ old.sink.holds ++ front_of found → AddsPart lines mid_holds shown → AddsPart (report_begun found u) old.sink.holds shown
      lines-part mid_holds shown is part =
          adds-as (front_of found ++ lines) (report_begun found u) old.sink.holds shown shown (sym split) refl (adds_behind (front_of found) lines old.sink.holds mid_holds shown is part)

      pub shown-undone : IsTrue old.sink.tells → ShowsReport found u undoes.taken old.sink.holds new.sink.holds
      shown-undone tells =
          let part = undoes.shown (mid_tells tells) in
          let of_lines = adds-as (taken_lines ++ lines_of p.number undoes.first.rest) lines sink.holds new.sink.holds new.sink.holds (sym lines-split) refl
          (adds_more taken_lines (lines_of p.number undoes.first.rest) sink.holds new.sink.holds part) in
          record {
            part = adds_more (report_begun found u) back old.sink.holds new.sink.holds (lines-part sink.holds new.sink.holds (all tells) of_lines);
            told = told_first part.count part.within;
          }
        where
          told_first : (k : ℕ) → k ≤ length taken_lines → AreFirst (recoveries_told found u (length (front_of found) + k)) undoes.taken
          told_first k within = recoveries-told p undoes.taken u.report (length (front_of found) + k) undoes.first (omega (arith, within))

      pub whole-undone : DisksAreSettled old → WereWhole old old.moments found → AllStayWhole new old.moments
      whole-undone settled whole = whole-then old mid new (went-told old found begin order sink m drawn told) went (whole-told old found begin order sink m drawn told settled whole) later
        where
          later : AllStayWhole new m
          later t main spare c late left stands =
              let is = undoes.whole (whole-mid whole) begin.main_tells settled.of_main t main c late left.of_main (any_spare stands) in
              let way = undoes.main begin.main_tells settled.of_main t main c late left.of_main (any_spare stands) in
              record {
                rows = is.rows;
                call = way.call (whole (m + 1) (omega (arith, drawn))).call;
                files = λ slot files its. is.files slot its.store files its.is its.tells its.of_store;
              }

      pub named-undone : ¬ HasRecovery found.pending → IsSettled old.main → ReplicasStayNamed new old.moments found
      named-undone free settled t main c late left stands = by (cases_lt m t)
        where
          by : (m < t) ⊎ (t ≤ m) → KeepsReplicas found c
          by (inl later) = λ slot name row names is. (undoes.main begin.main_tells settled t main c later left stands).named slot name is
          by (inr early) = named-told old found begin order sink m drawn told free settled t main c late (went.main.earlier t main early left) stands

      pub images-undone : IsTrue old.sink.tells → IsSettled old.main → IsSettled old.sink → (t : ℕ) (main shown : Text) → old.moments < t → new.main.left t main → new.sink.left t shown
          → OneOfOpening found u start old.sink.holds main shown
      images-undone tells settled of_sink t main shown late main_left sink_left = by (cases_lt m t)
        where
          by : (m < t) ⊎ (t ≤ m) → OneOfOpening found u start old.sink.holds main shown
          by (inl later) =
              let one = undoes.images begin.main_tells (mid_tells tells) settled (sink_settled tells of_sink) t main shown later main_left sink_left in
              not_begun one.cat one.stands (lines-part sink.holds shown (all tells) one.part) one.unbegun
          by (inr early) =
              images-told old found begin order sink m drawn told u start tells settled of_sink t main shown late (went.main.earlier t main early main_left)
              (went.sink.earlier t shown early sink_left)

      abbrev pub opens-undone : KeepsNumbers found start → GivesFew found start (length u.report) → Opens old new found
      opens-undone keeps few = record {
        undone = u;
        taken = undoes.taken;
        first = undoes.first;
        told_of = all-map (IsToldOf (IsKnownBy mid found) (length old.stores)) (IsToldOf (IsKnown old found) (length old.stores))
            (told-less (IsKnownBy mid found) (IsKnown old found) known-mid (length old.stores)) u.report (undoes.told_of begin.main_tells);
        went = went-then old mid new (went-told old found begin order sink m drawn told) went;
        caused = record { counted = undoes.caused.counted; there = undoes.caused.there };
        gave = undoes.gave;
        begins = start;
        keeps = keeps;
        few = few;
        shown = shown-undone;
        whole = whole-undone;
        named = named-undone;
        images = images-undone;
      }

    -- all recoveries were run
    module _ (new : World B) (went : Went mid new) (new_last : new.main.last ≤ new.moments) (new_sink_last : new.sink.last ≤ new.moments) (rules : List Rule)
        (y : Command) (after : Journal) where
      pub undo_done : (undoes : Undoes mid new found p rules (Ok tt) y after) → (p.undo ≡ [] → after.cat ≡ found) → (rest : Text)
          → rest ≡ y.untold ++ report_rest y.number y.passed → Prepared old new found rules after rest
      undo_done undoes same rest rest_is =
          let d = undoes.ends.1 in
          let u = undoes.undone in
          let kept = undoes.ends.0 in
          record {
            opens = opens-undone new went rules (Ok tt) y after undoes (run_begun after.cat)
                (keeps-then found after.cat (run_begun after.cat) d.keeps (keeps_start after.cat)) (gives_before (few_rows undoes) (gives_start after.cat));
            rules_are = undoes.rules_are;
            all = d.all;
            begins_is = refl;
            kept = kept;
            held = d.held;
            unbegun = λ tells settled of_sink. unbegun_kept undoes tells settled of_sink;
            grid = d.grid;
            run = d.run;
            rules = d.rules;
            stores = d.stores;
            keeps = d.keeps;
            few = few_rows undoes;
            named = d.named;
            replicas = λ free slot name r names. (let N : Cat → Type 0 = λ c. Names c slot name (by_replica r) in subst N (sym (same (no_undo p free))) names);
            whole_now = λ settled whole. d.whole_now (whole-mid whole) begin.main_tells settled.of_main;
            settled = d.settled begin.main_tells;
            sink_settled = λ tells settled. d.sink_settled (mid_tells tells) (sink_settled tells settled);
            text = λ tells. text_is undoes tells;
            none = λ none. absurd (cc none);
          }
        where
          few_rows : (undoes : Undoes mid new found p rules (Ok tt) y after) → GivesFew found after.cat (length undoes.undone.report)
          few_rows undoes = subst (λ (ms : List Mark). GivesFew found after.cat (length ms)) undoes.ends.1.all undoes.ends.1.few

          text_is : (undoes : Undoes mid new found p rules (Ok tt) y after) → IsTrue old.sink.tells → new.sink.holds ++ rest ≡ old.sink.holds ++ whole_report found undoes.undone
          text_is undoes tells =
              let d = undoes.ends.1 in
              let u = undoes.undone in
              let lines = lines_of p.number u.report in
              let back = report_rest p.number u.opened.passed in
              let number : y.number ≡ p.number = ap (λ (c : Command). c.number) d.command in
              let rest_back : rest ≡ y.untold ++ back = rest_is ∙ (λ i. y.untold ++ report_rest (number i) (d.passed i)) in
              ap (λ (t : Text). new.sink.holds ++ t) rest_back
              ∙ sym (append_assoc new.sink.holds y.untold back)
              ∙ ap (λ (t : Text). t ++ back) (d.untold (mid_tells tells) ∙ (λ i. all tells i ++ lines_of p.number (d.all i)))
              ∙ ap (λ (t : Text). t ++ back) (append_assoc old.sink.holds (front_of found) lines ∙ ap (λ (t : Text). old.sink.holds ++ t) (sym (front-split found.pending u.report)))
              ∙ append_assoc old.sink.holds (report_begun found u) back

          -- what main has is before the run is begun
          unbegun_kept : (undoes : Undoes mid new found p rules (Ok tt) y after) → IsTrue old.sink.tells → IsSettled old.main → IsSettled old.sink
              → (part : AddsPart (report_begun found undoes.undone) old.sink.holds new.sink.holds) × IsUnbegun found undoes.undone undoes.ends.0 part.count
          unbegun_kept undoes tells settled of_sink =
              let t = new.moments + 1 in
              let kept = undoes.ends.0 in
              let main_told : IsTrue new.main.tells = subst IsTrue (sym went.main.tells) begin.main_tells in
              let sink_told : IsTrue new.sink.tells = subst IsTrue (sym went.sink.tells) (mid_tells tells) in
              let one = undoes.images begin.main_tells (mid_tells tells) settled (sink_settled tells of_sink) t new.main.holds new.sink.holds (omega (arith, went.drawn))
              (new.main.now main_told t (omega (arith, new_last))) (new.sink.now sink_told t (omega (arith, new_sink_last))) in
              let is : one.cat ≡ kept = the_catalogue new.main.holds [] kept one.cat (held_stands kept new.main after undoes.ends.1.held main_told []) (one.stands []) in
              let part = lines-part new went rules (Ok tt) y after undoes kept sink.holds new.sink.holds (all tells) one.part in
              (part, subst (λ (c : Cat). IsUnbegun found undoes.undone c part.count) is one.unbegun)

-- ---- over the catalogue that was found

module _ {B : Type 0} (old : World B) (c : Cat) (p : Pending) (pending : c.pending ≡ Some p) (begin : BeginsOn old c) (order : AreInOrder old) (sink : SinkState) (m : ℕ) (drawn : old.moments ≤ m)
    (told : Between old.moments m (AddsPart (front_of c)) old.sink sink) (all : IsTrue old.sink.tells → sink.holds ≡ old.sink.holds ++ front_of c) (sink_settled : IsTrue old.sink.tells → IsSettled old.sink → IsSettled sink)
    (new : World B) (went : Went (record old { sink = sink; moments = m }) new) (rules : List Rule) (y : Command) (after : Journal) where
  same : record c { pending = Some p } ≡ c
  same i = record c { pending = sym pending i }

  -- recoveries were run, or how far that came
  pub opens-at : (r : Result ⊤ Ending) → Undoes (record old { sink = sink; moments = m }) new c p rules r y after → OpensOver old new c rules
  opens-at r = subst P same base begin told all
    where
      P : Cat → Type 0
      P f = BeginsOn old f → Between old.moments m (AddsPart (front_of f)) old.sink sink → (IsTrue old.sink.tells → sink.holds ≡ old.sink.holds ++ front_of f)
          → Undoes (record old { sink = sink; moments = m }) new f p rules r y after → OpensOver old new f rules

      base : P (record c { pending = Some p })
      base begin told all undoes = (
        opens-undone old c p begin order sink m drawn told all sink_settled new went rules r y after undoes (found old c p) (keeps_same (found old c p))
            (gives_same (found old c p) (length undoes.undone.report)),
        undoes.rules_are,
      )

  -- all were
  pub prepared-at : new.main.last ≤ new.moments → new.sink.last ≤ new.moments → Undoes (record old { sink = sink; moments = m }) new c p rules (Ok tt) y after
      → (p.undo ≡ [] → after.cat ≡ c) → (rest : Text) → rest ≡ y.untold ++ report_rest y.number y.passed → Prepared old new c rules after rest
  prepared-at main_last sink_last = subst P same base begin told all
    where
      P : Cat → Type 0
      P f = BeginsOn old f → Between old.moments m (AddsPart (front_of f)) old.sink sink → (IsTrue old.sink.tells → sink.holds ≡ old.sink.holds ++ front_of f)
          → Undoes (record old { sink = sink; moments = m }) new f p rules (Ok tt) y after → (p.undo ≡ [] → after.cat ≡ f)
          → (rest : Text) → rest ≡ y.untold ++ report_rest y.number y.passed → Prepared old new f rules after rest

      base : P (record c { pending = Some p })
      base begin told all = undo_done old c p begin order sink m drawn told all sink_settled new went main_last sink_last rules y after
