-- The reopening of what a stop in a step left, and stops in it.
use Rattle.std.proofs.Common.{arith, ◌≡◌, ℕ, zero, suc, List, [], ◌∷◌, Some, None, refl, sym, ap, subst, inl, inr}
use Rattle.std.specs.Prelude.{◌⊎◌, ◌<◌, Ok, codes, length}
use Rattle.std.specs.Fmt.{digits}
use Rattle.std.specs.List.{Contains}
use Rattle.grid_model.specs.Names.{Text}
use Rattle.grid_model.specs.Rows.{Cat}
use Rattle.grid_model.specs.RowGrids.{grid_of}
use Rattle.grid_model.specs.Whole.{IsNamed, Naming, by_replica, by_orphan, Names}
use Rattle.grid_model.specs.Inputs.{none_taken}
use Rattle.grid_model.specs.Meanings.{Meaning, gives}
use Rattle.grid_model.specs.Beginning.{begins}
use Rattle.grid_model.specs.Runs as runs
use Rattle.grid_model.specs.Reopening.{Unwound, reopened}
use Rattle.grid_model.specs.declared.deltas.Pending.{Pending}
use Rattle.grid_model.specs.declared.deltas.OrphanRow.{OrphanRow}
use Rattle.grid_model.specs.declared.deltas.ReplicaRow.{ReplicaRow}
use Rattle.grid_model.specs.declared.marks.Mark.{Mark}
use Rattle.grid_model.specs.declared.marks.Mark.TheVariants.{Ran, Stop}
use Rattle.grid_model.specs.declared.replies.Passed.{Passed}
use Rattle.grid_journal.specs.Stands.{Stands}
use Rattle.grid_headline.specs.Served.{Run, all, reached, run_text}
use Rattle.grid_headline.specs.Files.{KeepsNamed}
use Rattle.grid_headline.specs.Stops.{OneImage, IsBeforeRun, IsInRun}
use Rattle.grid_headline.proofs.Scene.{ran}
use Rattle.grid_headline.proofs.PutStops.{the_catalogue}
use Rattle.grid_headline.proofs.StepStops.{a_copy, copies, trims, is_no_stop}
use Rattle.grid_headline.proofs.StepStops as step

-- what a meaning gives, if it gives anything
abbrev pub unwound_or : Unwound → Meaning Unwound → Unwound
unwound_or u (gives x) = x
unwound_or u other = u

module _ (known : ℕ → Type 0) where
  -- ---- the recovery changes rows alone, and is refused as there is no replica to trim

  abbrev pub found : Cat
  found = step.within known

  abbrev not_trimmed : Passed
  not_trimmed = record { call = trims; failure = codes "NoReplica" }

  abbrev pub run : Run known found []
  run = record {
    report = [];
    opened = record { grid = grid_of found; passed = not_trimmed ∷ []; left = [] };
    opened_is = refl;
    opened_all = refl;
    rules = a_copy ∷ [];
    rules_are = refl;
    begun = [];
    first = inl ([], none_taken);
    end_last = tt;
    done = [];
    end = begins (grid_of found) (a_copy ∷ []);
    after = runs.none;
    pieces = [];
    sure = [];
    are_sure = all tt refl;
    no_stop = tt;
  }

  its_text : run_text run
      ≡ codes "stopped 1 2\n2 mark ran 7 1000\n2 mark stop\n2 passed msiDataObjTrim /tempZone/home/rods/f d1 NoReplica\n2 err Stopped\n"
  unfolding digits
  its_text = refl

  same_names : (slot name : ℕ) (row : Naming) → Names (record found { pending = None }) slot name row → Names found slot name row
  same_names slot name (by_replica r) h = h
  same_names slot name (by_orphan o) h = h

  -- what was found still stands, and two of the three marks are shown
  pub image_during : (main spare : Text) → Stands main spare (Ok found)
      → OneImage run [] (record { main = main; spare = spare; sink = codes "stopped 1 2\n2 mark ran 7 1000\n2 ma" })
  unfolding digits
  image_during main spare s = record {
    cat = found;
    stands = s;
    part = codes "stopped 1 2\n2 mark ran 7 1000\n2 ma";
    more = codes "rk stop\n2 passed msiDataObjTrim /tempZone/home/rods/f d1 NoReplica\n2 err Stopped\n";
    sink = refl;
    split = refl;
    on_the_way = inl (record {
      number = refl;
      rules = refl;
      same = record {
        of_run = refl;
        number = refl;
        line = refl;
        user = refl;
        d = [];
        kept = refl;
        same = λ w. refl;
        of_report = record { rest = Stop ∷ []; are = refl };
      };
      named = λ slot name one. one;
      shown = omega arith;
    });
    told = record { of_request = λ e. absurd (omega (arith, e)); of_report = λ e. record { rest = Stop ∷ []; are = refl } };
    numbers = record { rises = omega arith; names = λ slot name row less h. (row, h) };
    stores = refl;
  }

  -- the run was begun, and the rest of the report is not shown yet; the file of the copy is an orphan
  abbrev opened : Cat
  opened = record found { numbers = record { next_vault = 3; run = 2; last = 0 }; pending = None }

  same_files : (slot name : ℕ) (row : Naming) → name < 3 → Names opened slot name row → Names found slot name row
  same_files slot name (by_replica r) less h = h
  same_files slot name (by_orphan o) less h = h

  pub image_after : (main spare : Text) → Stands main spare (Ok opened)
      → OneImage run [] (record { main = main; spare = spare; sink = codes "stopped 1 2\n2 mark ran 7 1000\n2 mark stop\n" })
  unfolding digits
  image_after main spare s = record {
    cat = opened;
    stands = s;
    part = codes "stopped 1 2\n2 mark ran 7 1000\n2 mark stop\n";
    more = codes "2 passed msiDataObjTrim /tempZone/home/rods/f d1 NoReplica\n2 err Stopped\n";
    sink = refl;
    split = refl;
    on_the_way = inr (record {
      number = refl;
      within = let e : reached run opened 42 ≡ 0 = refl in omega (arith, e);
      near = omega arith;
      rules = refl;
      at = refl;
    });
    told = record { of_request = λ e less. refl; of_report = tt };
    numbers = record { rises = omega arith; names = λ slot name row less h. (row, same_files slot name row less h) };
    stores = refl;
  }

  -- the pending command was dropped, and no run begun
  pub dropped : (main spare : Text) → Stands main spare (Ok (record found { pending = None }))
      → ¬ OneImage run [] (record { main = main; spare = spare; sink = [] })
  dropped main spare s one =
      let P : Cat → Text → Type 0 = λ c t. IsBeforeRun found run.report c (length t) ⊎ IsInRun run c (length t) in
      by (subst (λ t. P (record found {
        pending =
            None;
      }) t) (sym one.sink) (subst (λ c. P c one.part) (the_catalogue main spare (record found {
        pending =
            None;
      }) one.cat s one.stands) one.on_the_way))
    where
      by : IsBeforeRun found run.report (record found { pending = None }) 0 ⊎ IsInRun run (record found { pending = None }) 0 → ⊥
      by (inl r) = r.same
      by (inr r) = absurd (omega (arith, r.number))

  -- ---- a recovery that is a deed, and was stopped itself

  -- the copy is to be done again, as a recovery
  abbrev pub was : Pending
  was = record (step.pending known) { undo = copies ∷ [] }

  abbrev pub stopped : Cat
  stopped = record found { pending = Some was }

  abbrev pub ran_again : Mark
  ran_again = Ran 9 2000 []

  -- it runs, and the `Stop` is among the kept marks
  abbrev now : Pending
  now = record was { marks = ran ∷ Stop ∷ [] }

  abbrev again : Cat
  again = record found {
    orphans = record { vault = 2; slot = 1 } ∷ record { vault = 3; slot = 1 } ∷ [];
    numbers = record { next_vault = 4; run = 1; last = 0 };
    pending = Some now;
  }

  -- a stop in it takes one more mark, and then it is done again
  pub goes_on : (w : List Mark) → reopened again w ≡ reopened stopped (Stop ∷ w)
  goes_on w = refl

  abbrev pub left : Unwound
  left = unwound_or (record { grid = grid_of found; passed = []; left = [] }) (reopened stopped (ran_again ∷ []))

  abbrev pub run_again : Run known stopped []
  run_again = record {
    report = ran_again ∷ [];
    opened = left;
    opened_is = refl;
    opened_all = refl;
    rules = a_copy ∷ [];
    rules_are = refl;
    begun = [];
    first = inl ([], none_taken);
    end_last = tt;
    done = [];
    end = begins left.grid (a_copy ∷ []);
    after = runs.none;
    pieces = [];
    sure = [];
    are_sure = all tt refl;
    no_stop = (is_no_stop 9 2000 [], tt);
  }

  its_text_again : run_text run_again ≡ codes "stopped 1 2\n2 mark ran 7 1000\n2 mark stop\n2 mark ran 9 2000\n2 err Stopped\n"
  unfolding digits
  its_text_again = refl

  same_again : (slot name : ℕ) (row : Naming) → name < 3 → Names again slot name row → Names stopped slot name row
  same_again slot name (by_replica r) less h = h
  same_again slot name (by_orphan o) less h = (by h.0, h.1, h.2)
    where
      by : Contains again.orphans o → Contains stopped.orphans o
      by (zero, few, e) = (zero, omega arith, e)
      by (suc zero, few, e) = let k : 3 ≡ o.vault = ap (λ (x : OrphanRow). x.vault) e in let is : o.vault ≡ name = h.1 in
          absurd (omega (arith, k, is, less))
      by (suc (suc k), few, e) = absurd (omega (arith, few))

  first_replica : (r : ReplicaRow) → Contains stopped.replicas r → r.vault ≡ 1
  first_replica r (zero, few, e) = sym (ap (λ (x : ReplicaRow). x.vault) e)
  first_replica r (suc k, few, e) = absurd (omega (arith, few))

  names_low : (slot name : ℕ) (row : Naming) → Names stopped slot name row → name < 3
  names_low slot name (by_replica r) h = let one : r.vault ≡ 1 = first_replica r h.0 in let is : r.vault ≡ name = h.1 in omega (arith, one, is)
  names_low slot name (by_orphan o) h = by h.0
    where
      by : Contains stopped.orphans o → name < 3
      by (zero, few, e) = let k : 2 ≡ o.vault = ap (λ (x : OrphanRow). x.vault) e in let is : o.vault ≡ name = h.1 in omega (arith, k, is)
      by (suc k, few, e) = absurd (omega (arith, few))

  named_again : (slot name : ℕ) (row : Naming) → Names stopped slot name row → Names again slot name row
  named_again slot name (by_replica r) h = h
  named_again slot name (by_orphan o) h = (by h.0, h.1, h.2)
    where
      by : Contains stopped.orphans o → Contains again.orphans o
      by (zero, few, e) = (zero, omega arith, e)
      by (suc k, few, e) = absurd (omega (arith, few))

  keeps_again : KeepsNamed stopped again
  keeps_again slot name one = record {
    row = one.row;
    names = named_again slot name one.row one.names;
    only = λ other its. one.only other (same_again slot name other (names_low slot name one.row one.names) its);
  }

  -- the recovery runs: what was kept and the added `Stop` are shown
  pub image_again : (main spare : Text) → Stands main spare (Ok again)
      → OneImage run_again [] (record { main = main; spare = spare; sink = codes "stopped 1 2\n2 mark ran 7 1000\n2 mark stop\n" })
  unfolding digits
  image_again main spare s = record {
    cat = again;
    stands = s;
    part = codes "stopped 1 2\n2 mark ran 7 1000\n2 mark stop\n";
    more = codes "2 mark ran 9 2000\n2 err Stopped\n";
    sink = refl;
    split = refl;
    on_the_way = inl (record {
      number = refl;
      rules = refl;
      same = record {
        of_run = refl;
        number = refl;
        line = refl;
        user = refl;
        d = Stop ∷ [];
        kept = refl;
        same = goes_on;
        of_report = record { rest = ran_again ∷ []; are = refl };
      };
      named = keeps_again;
      shown = omega arith;
    });
    told = record { of_request = λ e. absurd (omega (arith, e)); of_report = λ e. record { rest = Stop ∷ []; are = refl } };
    numbers = record { rises = omega arith; names = λ slot name row less h. (row, same_again slot name row less h) };
    stores = refl;
  }

  -- while it runs the row of the file that was an orphan is gone
  abbrev forgot : Cat
  forgot = record again { orphans = record { vault = 3; slot = 1 } ∷ [] }

  abbrev the_orphan : OrphanRow
  the_orphan = record { vault = 2; slot = 1 }

  orphan_is_named : IsNamed stopped 1 2
  orphan_is_named = record { row = by_orphan the_orphan; names = ((zero, omega arith, refl), refl, refl); only = only }
    where
      same : (o : OrphanRow) → Contains stopped.orphans o → the_orphan ≡ o
      same o (zero, few, e) = e
      same o (suc k, few, e) = absurd (omega (arith, few))

      only : (other : Naming) → Names stopped 1 2 other → other ≡ by_orphan the_orphan
      only (by_replica r) h = let one : r.vault ≡ 1 = first_replica r h.0 in let two : r.vault ≡ 2 = h.1 in absurd (omega (arith, one, two))
      only (by_orphan o) h = ap by_orphan (sym (same o h.0))

  not_named : (row : Naming) → ¬ Names forgot 1 2 row
  not_named (by_replica r) h = let one : r.vault ≡ 1 = first_replica r h.0 in let two : r.vault ≡ 2 = h.1 in absurd (omega (arith, one, two))
  not_named (by_orphan o) h = by h.0
    where
      by : Contains forgot.orphans o → ⊥
      by (zero, few, e) = let three : 3 ≡ o.vault = ap (λ (x : OrphanRow). x.vault) e in let two : o.vault ≡ 2 = h.1 in absurd (omega (arith, three, two))
      by (suc k, few, e) = absurd (omega (arith, few))

  pub lost_track : (main spare : Text) → Stands main spare (Ok forgot) → ¬ OneImage run_again [] (record { main = main; spare = spare; sink = [] })
  lost_track main spare s one =
      let P : Cat → Text → Type 0 = λ c t. IsBeforeRun stopped run_again.report c (length t) ⊎ IsInRun run_again c (length t) in
      by (subst (λ t. P forgot t) (sym one.sink) (subst (λ c. P c one.part) (the_catalogue main spare forgot one.cat s one.stands) one.on_the_way))
    where
      by : IsBeforeRun stopped run_again.report forgot 0 ⊎ IsInRun run_again forgot 0 → ⊥
      by (inl r) = let kept = r.named 1 2 orphan_is_named in not_named kept.row kept.names
      by (inr r) = absurd (omega (arith, r.number))
