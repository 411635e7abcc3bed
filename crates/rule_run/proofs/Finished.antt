-- How the end of a command comes of what was called for it.
use Rattle.std.proofs.Common.{◌≡◌, inl, inr, ℕ, ◌<◌, ◌≤◌, ◌++◌, Result, Ok, Err, IsTrue, refl, sym, ap, ◌∙◌, subst, arith}
use Rattle.std.specs.Prelude.{⊤}
use Rattle.grid_outside.specs.Device.{Between, IsSettled}
use Rattle.grid_outside.specs.Disk.{DiskState}
use Rattle.grid_outside.specs.Files.{StoreState}
use Rattle.grid_outside.specs.Sink.{AddsPart, SinkState}
use Rattle.grid_outside.proofs.Spans.{since_settled}
use Rattle.grid_model.specs.Applying.{apply_all}
use Rattle.grid_model.specs.Names.{Text}
use Rattle.grid_model.specs.Rows.{Cat}
use Rattle.grid_journal.specs.Journal.{Journal}
use Rattle.grid_journal.specs.Stands.{StandsFor}
use Rattle.grid_deed.specs.Held.{IsHeld}
use Rattle.grid_deed.specs.Safe.{KeepBothWhole}
use Rattle.grid_deed.proofs.Keeping.{held_stands}
use Rattle.grid_deed.proofs.Wholes.{one_cat, whole_of}
use Rattle.service_run.specs.Noting.{IsNotedSo, NoteEnds, noted, unnoted}
use Rattle.service_run.specs.declared.command.Command.{Command}
use Rattle.service_run.specs.declared.ending.Ending.{Ending}
use Rattle.service_run.specs.declared.ending.Ending.TheVariants as ending
use Rattle.service_run.proofs.NoteSteps.{adds_none}
use Rattle.rule_run.specs.Finishing.{FinishEnds, Finishes, HasNothing, ended}

module _ (kept : Cat) (from n : ℕ) (rows : Journal) (x : Command) (text : Text) (main : DiskState) (sink : SinkState) (held : IsHeld kept main rows)
    (main_last : main.last ≤ from) (sink_last : sink.last ≤ from) where
  -- main was not called
  stands_still : IsTrue main.tells → IsSettled main → (t : ℕ) (image : Text) → from < t → main.left t image → StandsFor image kept
  stands_still told settled t image late left =
      let S : Text → Type 0 = λ m. StandsFor m kept in
      subst S (sym (settled t image (omega (arith, late, main_last)) left)) (held_stands kept main rows held told)

  -- files are whole by what it has
  pub whole_still : {B : Type 0} (plugin : B → StoreState) (stores : _) → KeepBothWhole plugin from kept rows.cat main main stores stores
  whole_still plugin stores whole_cat told settled were t image c late left stands =
      whole_of plugin t kept c stores (one_cat image kept c (stands_still told settled t image late left) stands) (were t late)

  -- nothing was called, for want of memory
  pub unfinished : (new : Journal) → Finishes main main sink sink kept from n rows x text (Err ending.Memory) new
  unfinished new = record {
    left = ended n rows.cat;
    is_left = inl refl;
    leaves = record {
      shown = λ told. adds_none text sink.holds;
      main = λ told settled t image late left. inl (stands_still told settled t image late left);
      images = λ told s_told settled s_settled t image shown late left s_left.
          unnoted (stands_still told settled t image late left) (s_settled t shown (omega (arith, late, sink_last)) s_left);
    };
    ends = tt;
  }

  -- nothing was to be kept, and the sink alone was called
  module _ (nothing : HasNothing rows x) (to : ℕ) (later : from ≤ to) (new_sink : SinkState) (told : Between from to (AddsPart text) sink new_sink) where
    same : rows.cat ≡ kept
    same =
        let both : Ok kept ≡ Ok rows.cat = sym (ap (apply_all kept) nothing.staged) ∙ held.staged in
        let is : kept ≡ rows.cat = cc both in
        sym is

    said : (r : Result ⊤ Ending) → FinishEnds main main sink new_sink rows.cat text r rows → Finishes main main sink new_sink kept from n rows x text r rows
    said r ends = record {
      left = rows.cat;
      is_left = inr (nothing, refl);
      leaves = record {
        shown = told.holds;
        main = λ tells settled t image late left. inl (stands_still tells settled t image late left);
        images = λ tells s_tells settled s_settled t image shown late left s_left.
            noted (subst (StandsFor image) (sym same) (stands_still tells settled t image late left))
            (since_settled from to (AddsPart text) sink new_sink s_tells s_settled sink_last told t shown late s_left);
      };
      ends = ends;
    }

    pub said_cut : Finishes main main sink new_sink kept from n rows x text (Err ending.Sink) rows
    said_cut = said (Err ending.Sink) tt

    pub said_all : (IsTrue sink.tells → new_sink.holds ≡ sink.holds ++ text) → (IsTrue sink.tells → IsSettled sink → IsSettled new_sink)
        → Finishes main main sink new_sink kept from n rows x text (Ok tt) rows
    said_all all settles = said (Ok tt) (record {
      held = subst (λ (c : Cat). IsHeld c main rows) (sym same) held;
      cat = refl;
      staged = nothing.staged;
      settled = λ tells settled. settled;
      sink = all;
      sink_settled = settles;
    })

-- one commit was tried, and then the text was told, or how far that came
module _ (main_old main_new : DiskState) (sink_old sink_new : SinkState) (kept : Cat) (from n : ℕ) (rows : Journal) (x : Command) (text : Text)
    (new : Journal) where
  ends_kept : (r : Result ⊤ Ending) → NoteEnds main_old main_new sink_old sink_new (ended n rows.cat) text r new
      → FinishEnds main_old main_new sink_old sink_new (ended n rows.cat) text r new
  ends_kept (Ok done) ends = record {
    held = ends.main.held;
    cat = ends.main.cat;
    staged = ends.main.staged;
    settled = λ told settled. ends.main.settled told;
    sink = ends.sink;
    sink_settled = ends.sink_settled;
  }
  ends_kept (Err e) ends = ends

  pub kept_all : (r : Result ⊤ Ending) → IsNotedSo main_old main_new sink_old sink_new kept (ended n rows.cat) from text r new
      → Finishes main_old main_new sink_old sink_new kept from n rows x text r new
  kept_all r so = record { left = ended n rows.cat; is_left = inl refl; leaves = so.leaves; ends = ends_kept r so.ends }
