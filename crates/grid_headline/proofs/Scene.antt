-- A scene for worked examples: a new grid with two leaves, and a run of two requests over it, a login and a put.
use Rattle.std.proofs.Common.{arith, ◌≡◌, ℕ, true, false, List, [], ◌∷◌, ◌++◌, refl, sym, ap, subst}
use Rattle.std.specs.Prelude.{◌==◌, ◌&&◌, not, Bool, Ok, codes, IsTrue}
use Rattle.std.specs.List.{list_all, list_any}
use Rattle.grid_model.specs.Lines.{IsLine}
use Rattle.std.specs.Fmt.{digits}
use Rattle.grid_model.specs.Names.{Text, Path, same_text}
use Rattle.grid_model.specs.Words.{SpellsLine, word, space, line_end, bare}
use Rattle.grid_model.specs.Rows.{Cat}
use Rattle.grid_model.specs.RowGrids.{grid_of}
use Rattle.grid_model.specs.Inputs.{Asked, takes_one, none_taken, AreRequests, ends_blank, HasBody, a_body, no_body, PromisesBody, verbs_with_body}
use Rattle.grid_model.specs.Meanings.{Meaning, gives}
use Rattle.grid_model.specs.Sessions.{State}
use Rattle.grid_model.specs.Orders.{Order, logs_in, works}
use Rattle.grid_model.specs.Operations.Table.{put}
use Rattle.grid_model.specs.Working.{Done, refused_at_once, begun as course}
use Rattle.grid_model.specs.Obeying.{command}
use Rattle.grid_model.specs.Beginning.{begins}
use Rattle.grid_model.specs.Runs.{Marked, After, none, next}
use Rattle.grid_model.specs.declared.grid.Mode.TheVariants.{New}
use Rattle.grid_model.specs.declared.grid.ResourceKind.TheVariants.{Storage}
use Rattle.grid_model.specs.declared.deltas.ResourceRow.{ResourceRow}
use Rattle.grid_model.specs.declared.marks.Mark.{Mark}
use Rattle.grid_model.specs.declared.marks.Mark.TheVariants.{Ran}
use Rattle.grid_model.specs.declared.refusal.Refusal.TheVariants.{NoLogin}
use Rattle.grid_journal.specs.Start.{start}
use Rattle.cmd_read.specs.Table.{number_of}
use Rattle.cmd_read.specs.Orders.{asks_for}
use Rattle.grid_model.specs.declared.requests.Verb.TheVariants as verb
use Rattle.req_words.proofs.OneReading.{SpellsLine-unique}
use Rattle.grid_headline.specs.Reads.{MeansRequest, HasRules}

-- ---- the grid

abbrev pub zone : Text
zone = codes "tempZone"

abbrev pub rods : Text
rods = codes "rods"

-- the leaves `d0` and `d1` on the two stores
abbrev pub first_leaf : ResourceRow
first_leaf = record { id = 1; name = codes "d0"; kind = Storage; slot = 0; up = true; parent = 0; place = 0 }

abbrev pub second_leaf : ResourceRow
second_leaf = record { id = 2; name = codes "d1"; kind = Storage; slot = 1; up = true; parent = 0; place = 0 }

-- what was found: the run before did nothing
abbrev pub found : Cat
found = record (start zone rods 2) { resources = first_leaf ∷ second_leaf ∷ [] }

-- its text of rules has none
pub has_no_rules : HasRules found []
has_no_rules = refl

abbrev pub first : State
first = begins (grid_of found) []

-- ---- the requests

abbrev pub login_line : Text
login_line = codes "0 login rods"

abbrev pub put_line : Text
put_line = codes "0 put /tempZone/home/rods/f d0 new 3"

abbrev pub abc : Text
abc = codes "abc"

abbrev pub asks_login : Asked
asks_login = record { line = login_line; body = [] }

abbrev pub asks_put : Asked
asks_put = record { line = put_line; body = abc }

abbrev pub input : Text
input = login_line ++ 0x0A ∷ put_line ++ 0x0A ∷ abc

abbrev pub f : Path
f = zone ∷ codes "home" ∷ rods ∷ codes "f" ∷ []

abbrev pub puts : Order
puts = works (put f (codes "d0") New abc) 3

abbrev pub ran : Mark
ran = Ran 7 1000 []

abbrev pub logs_in_first : Marked
logs_in_first = record { asked = asks_login; marks = [] }

abbrev pub puts_then : Marked
puts_then = record { asked = asks_put; marks = ran ∷ [] }

-- ---- what they did

-- what a meaning gives, if it gives anything
abbrev pub done_or : Done → Meaning Done → Done
done_or d (gives x) = x
done_or d other = d

abbrev pub nothing_done : State → Done
nothing_done at = refused_at_once at (course at.grid []) NoLogin

abbrev pub login_done : Done
login_done = done_or (nothing_done first) (command first 0 (logs_in rods) [])

abbrev pub logged : State
logged = login_done.state

abbrev pub put_done : Done
put_done = done_or (nothing_done logged) (command logged 0 puts (ran ∷ []))

-- ---- how they are read

pub login_words : SpellsLine login_line (codes "0" ∷ codes "login" ∷ rods ∷ [])
login_words = word {s = codes "0"} {t = codes " login rods"} refl (bare refl) refl
    (space (word {s = codes "login"} {t = codes " rods"} refl (bare refl) refl (space (word {s = rods} {t = []} refl (bare refl) tt line_end))))

pub put_words : SpellsLine put_line (codes "0" ∷ codes "put" ∷ codes "/tempZone/home/rods/f" ∷ codes "d0" ∷ codes "new" ∷ codes "3" ∷ [])
put_words = word {s = codes "0"} {t = codes " put /tempZone/home/rods/f d0 new 3"} refl (bare refl) refl
    (space (word {s = codes "put"} {t = codes " /tempZone/home/rods/f d0 new 3"} refl (bare refl) refl
    (space (word {s = codes "/tempZone/home/rods/f"} {t = codes " d0 new 3"} refl (bare refl) refl
    (space (word {s = codes "d0"} {t = codes " new 3"} refl (bare refl) refl
    (space (word {s = codes "new"} {t = codes " 3"} refl (bare refl) refl
    (space (word {s = codes "3"} {t = []} refl (bare refl) tt line_end))))))))))

pub means_login : (at : State) → MeansRequest at asks_login (Ok (0, logs_in rods))
unfolding digits number_of
means_login at = asks_for (record {
  session = 0;
  verb = verb.Login rods;
}) (omega arith) login_words (refl, (rods, refl, refl)) refl (omega arith) refl refl

pub means_put : (at : State) → MeansRequest at asks_put (Ok (0, puts))
unfolding digits number_of
means_put at = asks_for (record { session = 0; verb = verb.Put f (codes "d0") New 3 }) (omega arith) put_words
    (refl, (f, record { names = refl; text_is = refl }, (codes "d0", refl, (New, refl, (3, refl, refl))))) refl (omega arith) refl refl

-- ---- the input

-- the words of the login promise no body
promise_none : (n : ℕ) → ¬ PromisesBody (codes "0" ∷ codes "login" ∷ rods ∷ []) n
promise_none n p =
    let e : p.verb ≡ codes "login" = sym (ap second p.words_are) in
    let P : Text → Type 0 = λ v. IsTrue (list_any (same_text v) verbs_with_body) in
    not_true (subst P e p.has_one)
  where
    second : List Text → Text
    second (a ∷ b ∷ more) = b
    second other = []

    not_true : false ≡ true → ⊥
    not_true e = absurd (cc e)

login_body : HasBody login_line 0
login_body = no_body (λ words n le spells p. let P : List Text → Type 0 = λ ws. PromisesBody ws n in
    promise_none n (subst P (SpellsLine-unique login_line words (codes "0" ∷ codes "login" ∷ rods ∷ []) spells login_words) p))

put_body : HasBody put_line 3
unfolding digits
put_body = a_body (omega arith) put_words (record {
  session = codes "0";
  verb = codes "put";
  more = codes "/tempZone/home/rods/f" ∷ codes "d0" ∷ codes "new" ∷ codes "3" ∷ [];
  words_are = refl;
  has_one = refl;
  front = codes "0" ∷ codes "put" ∷ codes "/tempZone/home/rods/f" ∷ codes "d0" ∷ codes "new" ∷ [];
  last_is = refl;
  small = omega arith;
})

-- no byte of these is a newline
abbrev has_no_newline : Text → Bool
has_no_newline bytes = list_all (λ b. not (b == 0x0A)) bytes

by_bytes : (bytes : Text) → has_no_newline bytes ≡ true → IsLine bytes
by_bytes [] e = tt
by_bytes (b ∷ bytes) e = (
  (λ same. other b same (front (not (b == 0x0A)) (has_no_newline bytes) e)),
  by_bytes bytes (back (not (b == 0x0A)) (has_no_newline bytes) e),
)
  where
    front : (x y : Bool) → (x && y) ≡ true → x ≡ true
    front true y e = refl
    front false y e = absurd (cc e)

    back : (x y : Bool) → (x && y) ≡ true → y ≡ true
    back true y e = e
    back false y e = absurd (cc e)

    other : (b : ℕ) → b ≡ 0x0A → not (b == 0x0A) ≡ true → ⊥
    other b same e = let P : ℕ → Type 0 = λ c. not (c == 0x0A) ≡ true in let no : false ≡ true = subst P same e in absurd (cc no)

pub are_requests : AreRequests input (asks_login ∷ asks_put ∷ [])
are_requests = record {
  whole = asks_login ∷ asks_put ∷ [];
  left = [];
  last = [];
  takes = takes_one {rest = put_line ++ 0x0A
      ∷ abc} login_line [] refl (by_bytes login_line refl) refl login_body (takes_one {rest =
      []} put_line abc refl (by_bytes put_line refl) refl put_body none_taken);
  ends = ends_blank {line = []} tt refl;
  are = refl;
}

-- ---- the run

pub after : After MeansRequest first (logs_in_first ∷ puts_then ∷ []) (login_done ∷ put_done ∷ []) put_done.state
after = next (Ok (0, logs_in rods)) (means_login first) refl refl (next (Ok (0, puts)) (means_put logged) refl refl none)
