-- Before any recovery is run.
use Rattle.std.proofs.Common.{◌≡◌, ℕ, [], ◌∷◌, ◌++◌, length, Option, Some, refl, ap, arith}
use Rattle.grid_outside.specs.Ambient.{AmbientState}
use Rattle.grid_outside.specs.Disk.{DiskState}
use Rattle.grid_outside.specs.Files.{StoreState}
use Rattle.grid_outside.specs.Sink.{SinkState}
use Rattle.grid_outside.specs.Source.{SourceState}
use Rattle.grid_model.specs.Rows.{Cat}
use Rattle.grid_model.specs.Reopening.{reopened_by}
use Rattle.grid_model.specs.declared.deltas.Pending.{Pending}
use Rattle.grid_model.specs.declared.marks.Mark.TheVariants.{Stop}
use Rattle.grid_journal.specs.Journal.{Journal}
use Rattle.grid_deed.specs.Held.{IsHeld}
use Rattle.run_laws.specs.Passes.{AreReady, Seen}
use Rattle.count_laws.proofs.GivenNumbers.{gives_more, gives_none}
use Rattle.service_run.proofs.StillSteps.{beside_same}
use Rattle.tables_laws.proofs.Sound.{sound-made}
use Rattle.call_laws.specs.Amid.{IsSetting}
use Rattle.call_laws.proofs.Beginning.{amid_begun}
use Rattle.call_laws.proofs.Rows.{first_all}
use Rattle.undo_run.specs.Undoing.{stopped_command}
use Rattle.undo_run.proofs.OneImage.{is_setting}
use Rattle.undo_run.proofs.Undoings.{AreAmid, IsOnMain, undoings}

-- the catalogue that was found
found_on_main : (found : Cat) (p : Pending) → found.pending ≡ Some p → IsOnMain found p found []
found_on_main found p has = record {
  now = p;
  pending = has;
  undoing = λ report first. record {
    of_run = refl;
    number = refl;
    line = refl;
    user = refl;
    d = [];
    kept = refl;
    same = λ w. refl;
    of_report = record { rest = Stop ∷ report; are = refl };
  };
  told_kept = first_all (p.marks ++ Stop ∷ []);
  on_the_way = record { named = λ slot name named. named; call = λ call. call };
  run = refl;
  rules = refl;
  stores = refl;
  keeps = (beside_same found).keeps;
  few = λ d same. gives_more (length d) (omega arith) (gives_none found);
}

module _ {D A P K : Type 0} (disk : D → DiskState) (ambient : A → AmbientState) (plugin : P → StoreState) (sink : K → SinkState) (source : SourceState)
    (from : Seen D A P K) (rows : Journal) (p : Pending) (has : rows.cat.pending ≡ Some p) (held : IsHeld rows.cat (disk from.outside.main) rows) (more : ℕ)
    (ready : AreReady disk plugin sink more from) where
  -- the user of what is pending is there
  setting_begun : IsSetting (undoings rows.cat p)
  setting_begun = is_setting rows.cat p has ((sound-made held.made.0 rows.cat held.made.1).tied.pending p has)

  pub begun : AreAmid disk ambient plugin sink source from rows.cat p from p.undo (stopped_command p) rows []
  begun = record {
    setting = setting_begun;
    amid = amid_begun disk ambient plugin sink source (undoings rows.cat p) from setting_begun (found_on_main rows.cat p has) rows held refl more ready refl
        (λ marks. refl);
    goes = λ later. ap (λ (o : Option Pending). reopened_by rows.cat o later) has;
  }
