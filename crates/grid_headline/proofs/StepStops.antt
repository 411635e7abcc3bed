-- A stop in a step of a rule behind the put of the scene: the told mark and the recovery are kept, and opening again does the
-- recovery.
use Rattle.std.proofs.Common.{arith, ◌≡◌, ℕ, true, List, [], ◌∷◌, Some, None, refl, sym, ap, subst, inr}
use Rattle.std.specs.Prelude.{◌≢◌, ◌<◌, Ok, codes, length}
use Rattle.std.specs.Fmt.{digits}
use Rattle.sha2.specs.Sha256.{sha256}
use Rattle.grid_model.specs.Names.{Text, print_path}
use Rattle.grid_model.specs.RuleText.{Rule, Expr, literal, session}
use Rattle.grid_model.specs.Rows.{Cat}
use Rattle.grid_model.specs.RowGrids.{grid_of}
use Rattle.grid_model.specs.Whole.{Naming, by_replica, by_orphan, Names}
use Rattle.grid_model.specs.Meanings.{Waiting}
use Rattle.grid_model.specs.Sessions.{State}
use Rattle.grid_model.specs.Orders.{logs_in}
use Rattle.grid_model.specs.Operations.Table.{put}
use Rattle.grid_model.specs.Obeying.{command}
use Rattle.grid_model.specs.Beginning.{begins}
use Rattle.grid_model.specs.Working.{Done, running}
use Rattle.grid_model.specs.Replies.{mark_line}
use Rattle.grid_model.specs.Runs as runs
use Rattle.grid_model.specs.Runs.{Marked, After}
use Rattle.grid_model.specs.declared.calls.Call.{Call}
use Rattle.grid_model.specs.declared.deltas.Pending.{Pending}
use Rattle.grid_model.specs.declared.deltas.OrphanRow.{OrphanRow}
use Rattle.grid_model.specs.declared.deltas.ReplicaRow.{ReplicaRow}
use Rattle.grid_model.specs.declared.grid.Mode.TheVariants.{New}
use Rattle.grid_model.specs.declared.grid.Level.TheVariants.{Own}
use Rattle.grid_model.specs.declared.grid.ItemKind.TheVariants.{Object}
use Rattle.grid_model.specs.declared.marks.BadReplica.{BadReplica}
use Rattle.grid_model.specs.declared.marks.Mark.{Mark}
use Rattle.grid_model.specs.declared.marks.Mark.TheVariants.{Ran, Stop}
use Rattle.rule_parse.specs.Printed.{print_rules}
use Rattle.grid_journal.specs.Stands.{Stands}
use Rattle.grid_headline.specs.Reads.{MeansRequest}
use Rattle.grid_headline.specs.Numbers.{KeepsNumbers}
use Rattle.grid_headline.specs.Served.{Run, all, joined_texts, reached, reply_texts, run_text}
use Rattle.grid_headline.specs.Stops.{OneImage, IsInterrupted, IsTold, AreFirst}
use Rattle.grid_headline.proofs.Scene.{rods, put_line, abc, asks_put, f, puts}
use Rattle.grid_headline.proofs.Scene.{ran, done_or, nothing_done, means_login, means_put, are_requests, input, logs_in_first}
use Rattle.grid_headline.proofs.Scene as scene
use Rattle.grid_headline.proofs.PutStops.{none_end, the_only, the_catalogue}

-- ---- the rule: behind a put the object is copied to d1, which is taken back where it fails

abbrev pub at_d1 : List Expr
at_d1 = session (codes "objPath") ∷ literal (codes "d1") ∷ []

abbrev pub a_copy : Rule
a_copy = record {
  name = codes "pep_api_data_obj_put_post";
  params = [];
  cond = None;
  steps = record {
    call = record { name = codes "msiDataObjRepl"; args = at_d1 };
    recovery = Some (record {
      name = codes "msiDataObjTrim";
      args = at_d1;
    });
  } ∷ [];
}

abbrev pub copies : Call
copies = record { name = codes "msiDataObjRepl"; args = print_path f ∷ codes "d1" ∷ [] }

abbrev pub trims : Call
trims = record { name = codes "msiDataObjTrim"; args = print_path f ∷ codes "d1" ∷ [] }

abbrev pub first : State
first = begins (grid_of scene.found) (a_copy ∷ [])

abbrev pub ran_later : Mark
ran_later = Ran 8 1001 []

abbrev pub puts_and_copies : Marked
puts_and_copies = record { asked = asks_put; marks = ran ∷ ran_later ∷ [] }

abbrev pub login_done : Done
login_done = done_or (nothing_done first) (command first 0 (logs_in rods) [])

abbrev pub put_done : Done
put_done = done_or (nothing_done login_done.state) (command login_done.state 0 puts (ran ∷ ran_later ∷ []))

pub after : After MeansRequest first (logs_in_first ∷ puts_and_copies ∷ []) (login_done ∷ put_done ∷ []) put_done.state
after = runs.next (Ok (0, logs_in rods)) (means_login first) refl refl (runs.next (Ok (0, puts)) (means_put login_done.state) refl refl runs.none)

pub is_no_stop : (word now : ℕ) (bad : List BadReplica) → Ran word now bad ≢ Stop
is_no_stop word now bad e = absurd (cc e)

module _ (known : ℕ → Type 0) where
  -- ---- the run

  abbrev pub found : Cat
  found = record scene.found { rules = print_rules (a_copy ∷ []) }

  abbrev pub run : Run known found input
  run = record {
    report = [];
    opened = record { grid = grid_of found; passed = []; left = [] };
    opened_is = refl;
    opened_all = refl;
    rules = a_copy ∷ [];
    rules_are = refl;
    begun = logs_in_first ∷ puts_and_copies ∷ [];
    first = inr are_requests;
    end_last = ((λ q. none_end q.at q.session q.quits), tt);
    done = login_done ∷ put_done ∷ [];
    end = put_done.state;
    after = after;
    pieces = [] ∷ (mark_line 2 ran ∷ mark_line 2 ran_later ∷ []) ∷ [];
    sure = joined_texts (reply_texts 1 (login_done ∷ put_done ∷ []) ([] ∷ (mark_line 2 ran ∷ mark_line 2 ran_later ∷ []) ∷ []));
    are_sure = all (tt, ((refl, (refl, tt)), tt)) refl;
    no_stop = (is_no_stop 7 1000 [], (is_no_stop 8 1001 [], tt));
  }

  its_text : run_text run ≡ codes "1 ok\n2 mark ran 7 1000\n2 mark ran 8 1001\n2 ok\n"
  unfolding digits
  its_text = refl

  -- ---- in the step

  abbrev copied_from : ReplicaRow
  copied_from = record { object = 1; number = 0; leaf = 1; good = true; size = 3; digest = sha256 abc; vault = 1 }

  -- the second deed runs, and the mark of the first one is kept
  abbrev pub pending : Pending
  pending = record { run = 1; number = 2; user = 1; line = put_line; marks = ran ∷ []; passed = []; running = Some copies; undo = trims ∷ [] }

  abbrev pub within : Cat
  within = record found {
    objects = record { id = 1; collection = 3; name = codes "f"; size = 3; digest = sha256 abc; time = 1000 } ∷ [];
    replicas = copied_from ∷ [];
    entries = record { kind = Object; id = 1; user = 1; level = Own } ∷ found.entries;
    orphans = record { vault = 2; slot = 1 } ∷ [];
    numbers = record { next_vault = 3; run = 1; last = 0 };
    pending = Some pending;
  }

  keeps_within : KeepsNumbers found within
  keeps_within = record { rises = omega arith; names = λ slot name row less h. (row, same slot name row less h) }
    where
      same : (slot name : ℕ) (row : Naming) → name < 1 → Names within slot name row → Names found slot name row
      same slot name (by_replica r) less h = let e = ap (λ (x : ReplicaRow). x.vault) (the_only copied_from r h.0) in
          let is : r.vault ≡ name = h.1 in absurd (omega (arith, e, is, less))
      same slot name (by_orphan o) less h = let e = ap (λ (x : OrphanRow). x.vault) (the_only (record {
        vault = 2;
        slot = 1;
      }) o h.0) in let is : o.vault ≡ name = h.1 in absurd (omega (arith, e, is, less))

  abbrev waiting : Waiting
  waiting = record { call = copies; grid = grid_of within; taken = ran ∷ []; passed = []; undo = trims ∷ [] }

  is_interrupted : IsInterrupted run within pending 1
  is_interrupted = record {
    of_run = refl;
    number = refl;
    next = puts_and_copies;
    is_next = refl;
    line = refl;
    session = 0;
    order = puts;
    asks = means_put login_done.state;
    of = record { user = rods; upload = None };
    logged_in = refl;
    user = refl;
    waiting = waiting;
    waits_there = refl;
    running = refl;
    grid = refl;
    taken = refl;
    passed = refl;
    undo = refl;
    kept = record { rest = ran_later ∷ []; are = refl };
  }

  pub image_within : (main spare : Text) → Stands main spare (Ok within)
      → OneImage run [] (record { main = main; spare = spare; sink = codes "1 ok\n2 mark ran 7 1000\n" })
  unfolding digits
  image_within main spare s = record {
    cat = within;
    stands = s;
    part = codes "1 ok\n2 mark ran 7 1000\n";
    more = codes "2 mark ran 8 1001\n2 ok\n";
    sink = refl;
    split = refl;
    on_the_way = inr (record {
      number = refl;
      within = let e : reached run within 23 ≡ 1 = refl in omega (arith, e);
      near = omega arith;
      rules = refl;
      at = is_interrupted;
    });
    told = record { of_request = λ e same. record { rest = []; are = refl }; of_report = λ e. absurd (omega (arith, e)) };
    numbers = keeps_within;
    stores = refl;
  }

  -- ---- the told mark was lost: the put is still pending as it was in its first deed

  abbrev too_early : Cat
  too_early = record found {
    orphans = record { vault = 1; slot = 0 } ∷ [];
    numbers = record { next_vault = 2; run = 1; last = 0 };
    pending = Some (record {
      run = 1;
      number = 2;
      user = 1;
      line = put_line;
      marks = [];
      passed = [];
      running = Some (running (put f (codes "d0") New abc));
      undo = [];
    });
  }

  pub told_and_not_kept : (main spare : Text) → Stands main spare (Ok too_early)
      → ¬ OneImage run [] (record { main = main; spare = spare; sink = codes "1 ok\n2 mark ran 7 1000\n" })
  unfolding digits
  told_and_not_kept main spare s one =
      let P : Cat → Text → Type 0 = λ c t. IsTold run c (length t) in
      let at_cat : P too_early one.part = subst (λ c. P c one.part) (the_catalogue main spare too_early one.cat s one.stands) one.told in
      let told : IsTold run too_early 23 = subst (λ t. P too_early t) (sym one.sink) at_cat in
      let kept : AreFirst (ran ∷ []) [] = told.of_request refl refl in
      let none : [] ≡ ran ∷ kept.rest = kept.are in
      absurd (cc none)
