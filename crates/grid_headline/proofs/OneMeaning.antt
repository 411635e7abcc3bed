-- A request that asks for a sweep asks for one whatever the state is, and so does one that ends the input or makes files.
use Rattle.std.proofs.Common.{◌≡◌, ℕ, ◌≤◌, true, List, Ok, Err, length, arith, refl, sym, ap, ◌∙◌, subst}
use Rattle.std.specs.Prelude.{Result}
use Rattle.std.proofs.lemmas.Bool.{both_ways}
use Rattle.grid_model.specs.Names.{Text}
use Rattle.grid_model.specs.Limits.{longest_line}
use Rattle.grid_model.specs.Words.{SpellsLine}
use Rattle.grid_model.specs.Inputs.{Asked}
use Rattle.grid_model.specs.Orders.{Order, closes, quits, sweeps, works}
use Rattle.grid_model.specs.Operations.Table.{Operation, put, repl}
use Rattle.grid_model.specs.Runs as runs
use Rattle.grid_model.specs.Sessions.{State}
use Rattle.grid_model.specs.declared.requests.Request.{Request}
use Rattle.grid_model.specs.declared.requests.Verb.{Verb}
use Rattle.grid_model.specs.declared.requests.Verb.TheVariants as verb
use Rattle.cmd_read.specs.Orders.{Asks, asks_for, not_built, cut_short, wrong_words, no_words, too_long, MeansOrder, promised}
use Rattle.cmd_read.specs.Reading.{Reads}
use Rattle.cmd_read.specs.declared.error.ReadError.{ReadError}
use Rattle.cmd_read.proofs.Once.{Reads-once}
use Rattle.req_words.proofs.OneReading.{SpellsLine-unique}
use Rattle.grid_headline.specs.Ends.{MakesFiles}
use Rattle.grid_headline.specs.Reads.{texts, is_built, MeansRequest, EndsInput}

-- what an order is for
pub data Aim : Type 0 where
  to_sweep : Aim
  to_quit : Aim
  to_make_files : Aim
  to_do_more : Aim

abbrev pub operation_aim : Operation → Aim
operation_aim (put p r mode body) = to_make_files
operation_aim (repl p r) = to_make_files
operation_aim other = to_do_more

abbrev pub aim : Order → Aim
aim sweeps = to_sweep
aim quits = to_quit
aim (works operation count) = operation_aim operation
aim closes = to_make_files
aim other = to_do_more

-- a request that is refused by its line does no more than others do
abbrev pub request_aim : runs.Request → Aim
request_aim (Ok (session, order)) = aim order
request_aim (Err r) = to_do_more

-- ---- a verb is for one of these

abbrev verb_aim : Verb → Aim
verb_aim verb.Sweep = to_sweep
verb_aim verb.Quit = to_quit
verb_aim (verb.Put path resource mode count) = to_make_files
verb_aim (verb.Repl path resource) = to_make_files
verb_aim verb.Close = to_make_files
verb_aim other = to_do_more

aim_is : (at : State) (v : Verb) (body : Text) (order : Order) → MeansOrder texts at v body order → aim order ≡ verb_aim v
aim_is at (verb.Rules count) body order means = ap aim means.2
aim_is at (verb.AddMeta kind name a v u) body order means = ap aim means.2
aim_is at (verb.RmMeta kind name a v u) body order means = ap aim means.2
aim_is at (verb.LsMeta kind name) body order means = ap aim means.2
aim_is at (verb.Query text) body order means = ap aim means.2
aim_is at (verb.Exec text) body order means = ap aim means.2
aim_is at other body order means = ap aim means

-- ---- and so is a line

same_request : (a b : Request) (x y : Result Request ReadError) → x ≡ Ok a → y ≡ Ok b → x ≡ y → a ≡ b
same_request a b x y h k e = cc (h, k, e)

never_refused : (why : ReadError) (b : Request) (x y : Result Request ReadError) → x ≡ Err why → y ≡ Ok b → ¬ (x ≡ y)
never_refused why b x y h k e = absurd (cc (h, k, e))

module _ (line body : Text) (words : List Text) (request : Request) (short : length line ≤ longest_line) (spells : SpellsLine line words)
    (reads : Reads words (Ok request)) (enough : promised request.verb ≤ length body) (built : is_built request.verb ≡ true) where
  -- its words are read so alone
  read_so : (others : List Text) (answer : Result Request ReadError) → SpellsLine line others → Reads others answer → answer ≡ Ok request
  read_so others answer spelt read =
      let same : others ≡ words = SpellsLine-unique line others words spelt spells in
      Reads-once words answer (Ok request) (subst (λ (ws : List Text). Reads ws answer) same read) reads

  same_as : (others : List Text) (other : Request) → SpellsLine line others → Reads others (Ok other) → other ≡ request
  same_as others other spelt read = same_request other request (Ok other) (Ok request) refl refl (read_so others (Ok other) spelt read)

  line_aim : (at : State) (r : runs.Request) → Asks texts at line body r → request_aim r ≡ verb_aim request.verb
  line_aim at r (asks_for {words = others} {order = order} other le spelt read same all is means) =
      aim_is at other.verb body order means ∙ ap (λ (q : Request). verb_aim q.verb) (same_as others other spelt read)
  line_aim at r (not_built {words = others} other le spelt read all is_not) =
      absurd (both_ways (is_built other.verb) is_not (ap (λ (q : Request). is_built q.verb) (same_as others other spelt read) ∙ built))
  line_aim at r (cut_short {words = others} other le spelt read less) =
      let same : promised other.verb ≡ promised request.verb = ap (λ (q : Request). promised q.verb) (same_as others other spelt read) in
      absurd (omega (arith, less, same, enough))
  line_aim at r (wrong_words {words = others} why le spelt read is) =
      absurd (never_refused why request (Err why) (Ok request) refl refl (read_so others (Err why) spelt read))
  line_aim at r (no_words le refused) = absurd (refused.spells_nothing words spells)
  line_aim at r (too_long long) = absurd (omega (arith, long, short))

-- whatever else the request may mean is for the same
same_aim : (at be : State) (a : Asked) (session : ℕ) (order : Order) (r : runs.Request) → MeansRequest at a (Ok (session, order)) → MeansRequest be a r
    → request_aim r ≡ aim order
same_aim at be a session order r (asks_for {words = words} request le spells reads same all is means) other =
    line_aim a.line a.body words request le spells reads all is be r other ∙ sym (aim_is at request.verb a.body order means)

-- ---- so it is a sweep, ends the input, or makes files

never_sweeps : (o : Operation) → ¬ (operation_aim o ≡ to_sweep)
never_sweeps (put p r mode body) e = absurd (cc e)
never_sweeps (repl p r) e = absurd (cc e)
never_sweeps other e = absurd (cc e)

never_quits : (o : Operation) → ¬ (operation_aim o ≡ to_quit)
never_quits (put p r mode body) e = absurd (cc e)
never_quits (repl p r) e = absurd (cc e)
never_quits other e = absurd (cc e)

sweep_is : (r : runs.Request) → request_aim r ≡ to_sweep → (session : ℕ) × (r ≡ Ok (session, sweeps))
sweep_is (Ok (session, sweeps)) e = (session, refl)
sweep_is (Ok (session, works operation count)) e = absurd (never_sweeps operation e)
sweep_is (Ok (session, other)) e = absurd (cc e)
sweep_is (Err r) e = absurd (cc e)

quit_is : (r : runs.Request) → request_aim r ≡ to_quit → (session : ℕ) × (r ≡ Ok (session, quits))
quit_is (Ok (session, quits)) e = (session, refl)
quit_is (Ok (session, works operation count)) e = absurd (never_quits operation e)
quit_is (Ok (session, other)) e = absurd (cc e)
quit_is (Err r) e = absurd (cc e)

pub sweeps-alone : (at be : State) (a : Asked) (session : ℕ) (r : runs.Request) → MeansRequest at a (Ok (session, sweeps)) → MeansRequest be a r
    → (n : ℕ) × (r ≡ Ok (n, sweeps))
sweeps-alone at be a session r means other = sweep_is r (same_aim at be a session sweeps r means other)

pub quits-alone : (be : State) (a : Asked) (r : runs.Request) → EndsInput a → MeansRequest be a r → (n : ℕ) × (r ≡ Ok (n, quits))
quits-alone be a r ends other = quit_is r (same_aim ends.at be a ends.session quits r ends.quits other)

makes_aim : (order : Order) → MakesFiles order → aim order ≡ to_make_files
makes_aim (works (put p r mode body) count) makes = refl
makes_aim (works (repl p r) count) makes = refl
makes_aim closes makes = refl
makes_aim other makes = absurd makes

make_is : (r : runs.Request) → request_aim r ≡ to_make_files → (session : ℕ) × (order : Order) × (r ≡ Ok (session, order)) × MakesFiles order
make_is (Ok (session, works (put p q mode body) count)) e = (session, works (put p q mode body) count, refl, tt)
make_is (Ok (session, works (repl p q) count)) e = (session, works (repl p q) count, refl, tt)
make_is (Ok (session, closes)) e = (session, closes, refl, tt)
make_is (Ok (session, other)) e = absurd (cc e)
make_is (Err r) e = absurd (cc e)

pub makes-alone : (at be : State) (a : Asked) (session : ℕ) (order : Order) (r : runs.Request) → MeansRequest at a (Ok (session, order)) → MakesFiles order
    → MeansRequest be a r → (n : ℕ) × (o : Order) × (r ≡ Ok (n, o)) × MakesFiles o
makes-alone at be a session order r means makes other = make_is r (same_aim at be a session order r means other ∙ makes_aim order makes)
