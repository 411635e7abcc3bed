-- Stops in the put of the scene: what the disks and the sink may be found with, and what they may not.
use Rattle.std.proofs.Common.{arith, ◌≡◌, ℕ, zero, suc, true, List, [], ◌∷◌, Some, None, refl, sym, ap, subst, inr}
use Rattle.std.specs.Prelude.{◌≢◌, ◌<◌, Result, Ok, codes}
use Rattle.std.specs.Fmt.{digits}
use Rattle.sha2.specs.Sha256.{sha256}
use Rattle.std.specs.List.{Contains}
use Rattle.grid_model.specs.Names.{Text}
use Rattle.grid_model.specs.Rows.{Cat}
use Rattle.grid_journal.proofs.StandsLemmas.{Stands-same}
use Rattle.grid_model.specs.RowGrids.{grid_of}
use Rattle.grid_model.specs.Whole.{Naming, by_replica, by_orphan, Names}
use Rattle.grid_model.specs.Meanings.{Waiting}
use Rattle.grid_model.specs.Sessions.{State}
use Rattle.grid_model.specs.Orders.{quits}
use Rattle.grid_model.specs.Operations.Table.{put}
use Rattle.grid_model.specs.Working.{running}
use Rattle.grid_model.specs.Replies.{mark_line}
use Rattle.grid_model.specs.declared.deltas.Pending.{Pending}
use Rattle.grid_model.specs.declared.deltas.OrphanRow.{OrphanRow}
use Rattle.grid_model.specs.declared.deltas.ReplicaRow.{ReplicaRow}
use Rattle.grid_model.specs.declared.grid.Side.{Side}
use Rattle.grid_model.specs.declared.grid.Mode.TheVariants.{New}
use Rattle.grid_model.specs.declared.grid.Level.TheVariants.{Own}
use Rattle.grid_model.specs.declared.grid.ItemKind.TheVariants.{Object}
use Rattle.grid_model.specs.declared.marks.Mark.TheVariants.{Stop}
use Rattle.grid_journal.specs.Stands.{Stands}
use Rattle.cmd_read.specs.Table.{number_of}
use Rattle.cmd_read.specs.Reading.{Reads}
use Rattle.cmd_read.specs.Orders as orders
use Rattle.cmd_read.specs.Orders.{Asks, asks_for}
use Rattle.grid_model.specs.declared.requests.Verb.{Verb}
use Rattle.grid_model.specs.declared.requests.Verb.TheVariants as verb
use Rattle.req_words.proofs.OneReading.{SpellsLine-unique}
use Rattle.grid_headline.specs.Reads.{texts}
use Rattle.grid_headline.specs.Numbers.{KeepsNumbers}
use Rattle.grid_headline.specs.Served.{Run, all, joined_texts, reached, reply_texts, run_text}
use Rattle.grid_headline.specs.Stops.{OneImage, IsInterrupted}
use Rattle.grid_headline.proofs.Scene.{rods, found, has_no_rules, login_line, put_line, abc, input, f, puts, ran}
use Rattle.grid_headline.proofs.Scene.{logs_in_first, puts_then, login_done, put_done, logged, login_words, means_put, are_requests, after}

-- ---- the run

abbrev login_text : List Text
login_text = codes "0" ∷ codes "login" ∷ rods ∷ []

no_login_quits : (at : State) (v : Verb) → (x : Text) × (rods ≡ x) × (verb.Login x ≡ v) → orders.MeansOrder texts at v [] quits → ⊥
no_login_quits at v made means =
    let P : Verb → Type 0 = λ w. orders.MeansOrder texts at w [] quits in
    let m : orders.MeansOrder texts at (verb.Login made.0) [] quits = subst P (sym made.2) means in
    absurd (cc m)

pub none_end : (at : State) (session : ℕ) → Asks texts at login_line [] (Ok (session, quits)) → ⊥
unfolding digits number_of
none_end at session (asks_for {words = words} request le spells reads same enough built means) =
    let e : words ≡ login_text = SpellsLine-unique login_line words login_text spells login_words in
    let P : List Text → Type 0 = λ ws. Reads ws (Ok request) in
    let r : Reads login_text (Ok request) = subst P e reads in
    no_login_quits at request.verb r.1 means

-- disks stand for one catalogue
pub the_catalogue : (main spare : Text) (c d : Cat) → Stands main spare (Ok c) → Stands main spare (Ok d) → d ≡ c
the_catalogue main spare c d s t = sym (ok_is c d (Stands-same main spare (Ok d) (Ok c) t s))
  where
    ok : Cat → Result Cat (Side × ℕ)
    ok x = Ok x

    ok_is : (c d : Cat) → ok c ≡ ok d → c ≡ d
    ok_is c d e = cc e

-- a list of one has nothing else
pub the_only : {X : Type 0} (r x : X) → Contains (r ∷ []) x → r ≡ x
the_only r x (zero, less, e) = e
the_only r x (suc k, less, e) = absurd (omega (arith, less))

pub is_no_stop : ran ≢ Stop
is_no_stop e = absurd (cc e)

module _ (known : ℕ → Type 0) where
  abbrev pub run : Run known found input
  run = record {
    report = [];
    opened = record { grid = grid_of found; passed = []; left = [] };
    opened_is = refl;
    opened_all = refl;
    rules = [];
    rules_are = has_no_rules;
    begun = logs_in_first ∷ puts_then ∷ [];
    first = inr are_requests;
    end_last = ((λ q. none_end q.at q.session q.quits), tt);
    done = login_done ∷ put_done ∷ [];
    end = put_done.state;
    after = after;
    pieces = [] ∷ (mark_line 2 ran ∷ []) ∷ [];
    sure = joined_texts (reply_texts 1 (login_done ∷ put_done ∷ []) ([] ∷ (mark_line 2 ran ∷ []) ∷ []));
    are_sure = all (tt, ((refl, tt), tt)) refl;
    no_stop = (is_no_stop, tt);
  }

  its_text : run_text run ≡ codes "1 ok\n2 mark ran 7 1000\n2 ok\n"
  unfolding digits
  its_text = refl

  -- ---- before the put

  abbrev pub before : Cat
  before = record found { numbers = record { next_vault = 1; run = 1; last = 0 } }

  pub keeps_before : KeepsNumbers found before
  keeps_before = record { rises = omega arith; names = λ slot name row less h. (row, same slot name row less h) }
    where
      same : (slot name : ℕ) (row : Naming) → name < 1 → Names before slot name row → Names found slot name row
      same slot name (by_replica r) less h = h
      same slot name (by_orphan o) less h = h

  -- the reply to the login is shown
  pub image_before : (main spare : Text) → Stands main spare (Ok before)
      → OneImage run [] (record { main = main; spare = spare; sink = codes "1 ok\n" })
  unfolding digits
  image_before main spare s = record {
    cat = before;
    stands = s;
    part = codes "1 ok\n";
    more = codes "2 mark ran 7 1000\n2 ok\n";
    sink = refl;
    split = refl;
    on_the_way = inr (record {
      number = refl;
      within = let e : reached run before 5 ≡ 1 = refl in omega (arith, e);
      near = omega arith;
      rules = has_no_rules;
      at = refl;
    });
    told = record { of_request = λ e less. refl; of_report = tt };
    numbers = keeps_before;
    stores = refl;
  }

  -- ---- in the put

  abbrev pub pending : Pending
  pending = record {
    run = 1;
    number = 2;
    user = 1;
    line = put_line;
    marks = [];
    passed = [];
    running = Some (running (put f (codes "d0") New abc));
    undo = [];
  }

  abbrev pub within : Cat
  within = record found {
    orphans = record { vault = 1; slot = 0 } ∷ [];
    numbers = record { next_vault = 2; run = 1; last = 0 };
    pending = Some pending;
  }

  keeps_within : KeepsNumbers found within
  keeps_within = record { rises = omega arith; names = λ slot name row less h. (row, same slot name row less h) }
    where
      same : (slot name : ℕ) (row : Naming) → name < 1 → Names within slot name row → Names found slot name row
      same slot name (by_replica r) less h = h
      same slot name (by_orphan o) less h = let e = ap (λ (r : OrphanRow). r.vault) (the_only (record {
        vault = 1;
        slot = 0;
      }) o h.0) in let is : o.vault ≡ name = h.1 in absurd (omega (arith, e, is, less))

  abbrev waiting : Waiting
  waiting = record { call = running (put f (codes "d0") New abc); grid = grid_of found; taken = []; passed = []; undo = [] }

  is_interrupted : IsInterrupted run within pending 1
  is_interrupted = record {
    of_run = refl;
    number = refl;
    next = puts_then;
    is_next = refl;
    line = refl;
    session = 0;
    order = puts;
    asks = means_put logged;
    of = record { user = rods; upload = None };
    logged_in = refl;
    user = refl;
    waiting = waiting;
    waits_there = refl;
    running = refl;
    grid = refl;
    taken = refl;
    passed = refl;
    undo = refl;
    kept = record { rest = ran ∷ []; are = refl };
  }

  pub image_within : (main spare : Text) → Stands main spare (Ok within)
      → OneImage run [] (record { main = main; spare = spare; sink = codes "1 ok\n" })
  unfolding digits
  image_within main spare s = record {
    cat = within;
    stands = s;
    part = codes "1 ok\n";
    more = codes "2 mark ran 7 1000\n2 ok\n";
    sink = refl;
    split = refl;
    on_the_way = inr (record {
      number = refl;
      within = let e : reached run within 5 ≡ 1 = refl in omega (arith, e);
      near = omega arith;
      rules = has_no_rules;
      at = is_interrupted;
    });
    told = record { of_request = λ e same. record { rest = []; are = refl }; of_report = λ e. absurd (cc e) };
    numbers = keeps_within;
    stores = refl;
  }

  -- ---- behind the put

  abbrev pub new_replica : ReplicaRow
  new_replica = record { object = 1; number = 0; leaf = 1; good = true; size = 3; digest = sha256 abc; vault = 1 }

  abbrev pub behind : Cat
  behind = record found {
    objects = record { id = 1; collection = 3; name = codes "f"; size = 3; digest = sha256 abc; time = 1000 } ∷ [];
    replicas = new_replica ∷ [];
    entries = record { kind = Object; id = 1; user = 1; level = Own } ∷ found.entries;
    numbers = record { next_vault = 2; run = 1; last = 2 };
  }

  same_grid : grid_of behind ≡ put_done.state.grid
  same_grid = refl

  keeps_behind : KeepsNumbers found behind
  keeps_behind = record { rises = omega arith; names = λ slot name row less h. (row, same slot name row less h) }
    where
      same : (slot name : ℕ) (row : Naming) → name < 1 → Names behind slot name row → Names found slot name row
      same slot name (by_replica r) less h = let e = ap (λ (x : ReplicaRow). x.vault) (the_only new_replica r h.0) in
          let is : r.vault ≡ name = h.1 in absurd (omega (arith, e, is, less))
      same slot name (by_orphan o) less h = h

  -- it is done, and the reply is not whole yet
  pub image_behind : (main spare : Text) → Stands main spare (Ok behind)
      → OneImage run [] (record { main = main; spare = spare; sink = codes "1 ok\n2 mark ran 7 1000\n2 o" })
  unfolding digits
  image_behind main spare s = record {
    cat = behind;
    stands = s;
    part = codes "1 ok\n2 mark ran 7 1000\n2 o";
    more = codes "k\n";
    sink = refl;
    split = refl;
    on_the_way = inr (record {
      number = refl;
      within = let e : reached run behind 26 ≡ 2 = refl in omega (arith, e);
      near = omega arith;
      rules = has_no_rules;
      at = same_grid;
    });
    told = record { of_request = λ e less. absurd (omega (arith, less)); of_report = tt };
    numbers = keeps_behind;
    stores = refl;
  }
