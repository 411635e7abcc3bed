-- How many bytes a request promises, and that its line tells the same.
use Rattle.std.proofs.Common.{◌≡◌, ℕ, ◌≤◌, length, true, false, Bool, List, [], ◌∷◌, ◌++◌, cond, refl, sym, subst, ap, ◌∙◌}
use Rattle.std.specs.Prelude.{Option, Some, None, Ok, IfSome, IfNone, unwrap_or, decimal}
use Rattle.grid_model.specs.Names.{Text, same_text}
use Rattle.grid_model.specs.Words.{SpellsLine}
use Rattle.grid_model.specs.Inputs.{PromisesBody, HasBody, a_body, no_body}
use Rattle.grid_model.proofs.Comparing.{same_text-Decides}
use Rattle.grid_model.specs.declared.requests.Request.{Request}
use Rattle.grid_model.specs.declared.requests.Verb.{Verb}
use Rattle.req_words.proofs.OneReading.{SpellsLine-unique}
use Rattle.cmd_read.specs.Table.{Form, a_number, FormValue, Means, VerbFrom, Way, way, Row, among, number_of, table, of_sessions, of_users, of_resources, of_rules, of_collections, of_objects, of_uploads, of_metadata}
use Rattle.cmd_read.specs.Table as table
use Rattle.cmd_read.specs.Reading.{fits_forms, chosen, Makes, WordsAsk, AsksFor, ReadsVerb, ReadsIn, ReadsBehind, Reads, session_of}
use Rattle.cmd_read.specs.Counting.{has_body, promises}
use Rattle.cmd_read.specs.Orders.{promised}
use Rattle.cmd_read.proofs.Counting.{counts, no_promise}
use Rattle.cmd_read.proofs.Numbers.{number_some}

-- ---- ways

-- what is made promises nothing
abbrev PromisesNone : (fs : List Form) → VerbFrom fs → Type 0
PromisesNone [] v = promised v ≡ 0
PromisesNone (f ∷ fs) v = (x : FormValue f) → PromisesNone fs (v x)

-- what is made promises as many bytes as a last word says
abbrev PromisesLast : (fs : List Form) → VerbFrom (fs ++ a_number ∷ []) → Type 0
PromisesLast [] v = (n : ℕ) → promised (v n) ≡ n
PromisesLast (f ∷ fs) v = (x : FormValue f) → PromisesLast fs (v x)

none_made : (fs : List Form) (v : VerbFrom fs) (ws : List Text) (verb : Verb) → PromisesNone fs v → Makes fs ws v verb → promised verb ≡ 0
none_made [] v [] verb none m = ap promised (sym m) ∙ none
none_made [] v (w ∷ ws) verb none m = absurd m
none_made (f ∷ fs) v [] verb none m = absurd m
none_made (f ∷ fs) v (w ∷ ws) verb none m = none_made fs (v m.0) ws verb (none m.0) m.2

-- the last word is a number, which was promised
record LastCounts (ws : List Text) (verb : Verb) : Type 0 where
  front : List Text
  last : Text
  are : ws ≡ front ++ last ∷ []
  is : number_of last ≡ Some (promised verb)

last_made : (fs : List Form) (v : VerbFrom (fs ++ a_number ∷ [])) (ws : List Text) (verb : Verb) → PromisesLast fs v → Makes (fs ++ a_number ∷ []) ws v verb → LastCounts ws verb
last_made [] v [] verb told m = absurd m
last_made [] v (w ∷ []) verb told m = record { front = []; last = w; are = refl; is = m.1 ∙ ap Some (sym (ap promised (sym m.2) ∙ told m.0)) }
last_made [] v (w ∷ x ∷ ws) verb told m = absurd m.2
last_made (f ∷ fs) v [] verb told m = absurd m
last_made (f ∷ fs) v (w ∷ ws) verb told m =
    let more = last_made fs (v m.0) ws verb (told m.0) m.2 in
    record { front = w ∷ more.front; last = more.last; are = ap (λ (xs : List Text). w ∷ xs) more.are; is = more.is }

abbrev WaysNone : List Way → Type 0
WaysNone [] = Unit {0}
WaysNone (w ∷ ws) = PromisesNone w.forms w.makes × WaysNone ws

-- the ways of a verb: with a body, and a last word that says how many bytes, or with none
data Counts (v : Text) (ways : List Way) : Type 0 where
  none : has_body v ≡ false → WaysNone ways → Counts v ways
  last : has_body v ≡ true → (fs : List Form) (m : VerbFrom (fs ++ a_number ∷ [])) → PromisesLast fs m → ways ≡ way (fs ++ a_number ∷ []) m ∷ [] → Counts v ways

chosen_none : (ways : List Way) (ws : List Text) (verb : Verb) → WaysNone ways → AsksFor ways ws verb → promised verb ≡ 0
chosen_none [] ws verb all asks = absurd asks
chosen_none (w ∷ ways) ws verb all asks = by (fits_forms w.forms ws) asks (chosen_none ways ws verb all.1)
  where
    by : (b : Bool) → WordsAsk (cond b (Some w) (chosen ways ws)) ws verb → (AsksFor ways ws verb → promised verb ≡ 0) → promised verb ≡ 0
    by true made more = none_made w.forms w.makes ws verb all.0 made
    by false made more = more made

chosen_last : (fs : List Form) (m : VerbFrom (fs ++ a_number ∷ [])) (ws : List Text) (verb : Verb) → PromisesLast fs m → AsksFor (way (fs ++ a_number ∷ []) m ∷ []) ws verb → LastCounts ws verb
chosen_last fs m ws verb told asks = by (fits_forms (fs ++ a_number ∷ []) ws) asks
  where
    by : (b : Bool) → WordsAsk (cond b (Some (way (fs ++ a_number ∷ []) m)) None) ws verb → LastCounts ws verb
    by true made = last_made fs m ws verb told made
    by false made = absurd made

-- ---- the table

abbrev RowsCount : List Row → Type 0
RowsCount [] = Unit {0}
RowsCount (r ∷ rows) = Counts r.0 r.1 × RowsCount rows

both_count : (a b : List Row) → RowsCount a → RowsCount b → RowsCount (a ++ b)
both_count [] b first second = second
both_count (r ∷ a) b first second = (first.0, both_count a b first.1 second)

among_counts : (rows : List Row) (v : Text) (ways : List Way) → RowsCount rows → among rows v ≡ Some ways → Counts v ways
among_counts [] v ways all is = absurd (cc is)
among_counts (r ∷ rows) v ways all is = by (same_text r.0 v) refl is (among_counts rows v ways all.1)
  where
    by : (b : Bool) → same_text r.0 v ≡ b → (elim b as (λ x. Option (List Way)) [ true ↦ Some r.1 | false ↦ among rows v ]) ≡ Some ways → (among rows v ≡ Some ways → Counts v ways) → Counts v ways
    by true e is more =
        let name : r.0 ≡ v = (same_text-Decides r.0 v).0 e in
        let same : r.1 ≡ ways = cc is in
        subst (λ (t : Text). Counts t ways) name (subst (λ (w : List Way). Counts r.0 w) same all.0)
    by false e is more = more is

sessions_count : RowsCount of_sessions
sessions_count = (none refl ((λ x. refl), tt), (none refl (refl, tt), (none refl (refl, tt), tt)))

users_count : RowsCount of_users
users_count = (none refl ((λ x y. refl), tt), (none refl ((λ x. refl), tt), (none refl ((λ x y. refl), tt), (none refl ((λ x y. refl), tt), tt))))

resources_count : RowsCount of_resources
resources_count = (none refl ((λ x y z. refl), ((λ x y. refl), tt)), (none refl ((λ x y. refl), tt), (none refl ((λ x y. refl), tt), tt)))

rules_count : RowsCount of_rules
rules_count = (last refl [] _ (λ n. refl) refl, (none refl (refl, tt), (none refl (refl, tt), (none refl ((λ x. refl), tt), (none refl ((λ x. refl), tt), tt)))))

collections_count : RowsCount of_collections
collections_count = (none refl ((λ x. refl), tt), (none refl ((λ x. refl), tt), (none refl ((λ x y. refl), tt), (none refl ((λ x. refl), tt), (none refl ((λ x y z. refl), tt), (none refl ((λ x. refl), tt), (none refl ((λ x. refl), tt), tt)))))))

objects_count : RowsCount of_objects
objects_count = (last refl (table.a_path ∷ table.a_text ∷ table.a_mode ∷ []) _ (λ x y z n. refl) refl, (none refl ((λ x y. refl), tt), (none refl ((λ x y. refl), tt), (none refl ((λ x. refl), tt), (none refl ((λ x y. refl), tt), (none refl ((λ x. refl), tt), tt))))))

uploads_count : RowsCount of_uploads
uploads_count = (none refl ((λ x y z. refl), tt), (last refl [] _ (λ n. refl) refl, (none refl (refl, tt), (none refl (refl, tt), tt))))

metadata_count : RowsCount of_metadata
metadata_count = (none refl ((λ x y z u w. refl), ((λ x y z u w. refl), tt)), (none refl ((λ x y z u w. refl), ((λ x y z u w. refl), tt)), (none refl ((λ x y. refl), ((λ x y. refl), tt)), tt)))

table_counts : RowsCount table
table_counts =
    both_count (of_sessions ++ of_users ++ of_resources ++ of_rules ++ of_collections ++ of_objects ++ of_uploads) of_metadata
    (both_count (of_sessions ++ of_users ++ of_resources ++ of_rules ++ of_collections ++ of_objects) of_uploads
    (both_count (of_sessions ++ of_users ++ of_resources ++ of_rules ++ of_collections) of_objects
    (both_count (of_sessions ++ of_users ++ of_resources ++ of_rules) of_collections
    (both_count (of_sessions ++ of_users ++ of_resources) of_rules
    (both_count (of_sessions ++ of_users) of_resources (both_count of_sessions of_users sessions_count users_count) resources_count) rules_count) collections_count) objects_count) uploads_count)
    metadata_count

-- ---- requests

-- what words promise that are read as this verb
data PromisesSo (words : List Text) (verb : Verb) : Type 0 where
  nothing : promises words ≡ false → promised verb ≡ 0 → PromisesSo words verb
  a_count : promises words ≡ true → LastCounts words verb → PromisesSo words verb

verb_so : (s v : Text) (ws : List Text) (verb : Verb) (ways : List Way) → Counts v ways → AsksFor ways ws verb → PromisesSo (s ∷ v ∷ ws) verb
verb_so s v ws verb ways (none off all) asks = nothing off (chosen_none ways ws verb all asks)
verb_so s v ws verb ways (last on fs m told are) asks =
    let found = chosen_last fs m ws verb told (subst (λ (w : List Way). AsksFor w ws verb) are asks) in
    a_count on (record { front = s ∷ v ∷ found.front; last = found.last; are = ap (λ (xs : List Text). s ∷ v ∷ xs) found.are; is = found.is })

way_so : (s v : Text) (ws : List Text) (verb : Verb) (o : Option (List Way)) → among table v ≡ o → ReadsVerb o ws (Ok verb) → PromisesSo (s ∷ v ∷ ws) verb
way_so s v ws verb None is reads = absurd (cc reads)
way_so s v ws verb (Some ways) is reads = verb_so s v ws verb ways (among_counts table v ways table_counts is) reads

in_so : (s : Text) (session : ℕ) (ws : List Text) (request : Request) → ReadsIn session ws (Ok request) → PromisesSo (s ∷ ws) request.verb
in_so s session [] request reads = absurd (cc reads)
in_so s session (v ∷ ws) request reads = way_so s v ws request.verb (among table v) refl reads.1

behind_so : (s : Text) (o : Option ℕ) (ws : List Text) (request : Request) → ReadsBehind o ws (Ok request) → PromisesSo (s ∷ ws) request.verb
behind_so s None ws request reads = absurd (cc reads)
behind_so s (Some session) ws request reads = in_so s session ws request reads

promises_so : (words : List Text) (request : Request) → Reads words (Ok request) → PromisesSo words request.verb
promises_so [] request reads = absurd (cc reads)
promises_so (s ∷ ws) request reads = behind_so s (session_of s) ws request reads

ends_once : (front other : List Text) (a b : Text) → front ++ a ∷ [] ≡ other ++ b ∷ [] → a ≡ b
ends_once [] [] a b e = cc
ends_once [] (x ∷ []) a b e = absurd (cc)
ends_once [] (x ∷ y ∷ other) a b e = absurd (cc)
ends_once (x ∷ []) [] a b e = absurd (cc)
ends_once (x ∷ y ∷ front) [] a b e = absurd (cc)
ends_once (x ∷ front) (y ∷ other) a b e = ends_once front other a b (cc)

-- words promise one count
pub PromisesBody-unique : (words : List Text) (m n : ℕ) → PromisesBody words m → PromisesBody words n → m ≡ n
PromisesBody-unique words m n one other =
    let same : decimal m ≡ decimal n = ends_once one.front other.front (decimal m) (decimal n) (sym one.last_is ∙ other.last_is) in
    let a : number_of (decimal m) ≡ Some m = number_some (decimal m) m one.small refl in
    let b : number_of (decimal m) ≡ Some n = number_some (decimal m) n other.small same in
    cc (a, b)

-- what is promised is what was counted
pub promise_is : (words : List Text) (request : Request) (o : Option ℕ) → Reads words (Ok request) → IfSome o (λ n. PromisesBody words n) → IfNone o ((n : ℕ) → ¬ PromisesBody words n) → promised request.verb ≡ unwrap_or o 0
promise_is words request o reads some never = by o (promises_so words request reads) some never
  where
    by : (p : Option ℕ) → PromisesSo words request.verb → IfSome p (λ n. PromisesBody words n) → IfNone p ((n : ℕ) → ¬ PromisesBody words n) → promised request.verb ≡ unwrap_or p 0
    by (Some n) (nothing off is) some never = absurd (no_promise words off n some)
    by None (nothing off is) some never = is
    by (Some n) (a_count on told) some never = PromisesBody-unique words (promised request.verb) n (counts words told.front told.last (Some (promised request.verb)) on told.are (sym told.is)) some
    by None (a_count on told) some never = absurd (never (promised request.verb) (counts words told.front told.last (Some (promised request.verb)) on told.are (sym told.is)))

-- one count belongs to a line
pub HasBody-unique : (line : Text) (m n : ℕ) → HasBody line m → HasBody line n → m ≡ n
HasBody-unique line m n (a_body {words = words} short spells one) (a_body {words = others} also again other) =
    let same : others ≡ words = SpellsLine-unique line others words again spells in
    PromisesBody-unique words m n one (subst (λ (ws : List Text). PromisesBody ws n) same other)
HasBody-unique line m n (a_body {words = words} short spells one) (no_body never) = absurd (never words m short spells one)
HasBody-unique line m n (no_body never) (a_body {words = words} short spells one) = absurd (never words n short spells one)
HasBody-unique line m n (no_body never) (no_body again) = refl

-- what a request promises belongs to its line
pub promised_count : (line : Text) (words : List Text) (request : Request) (n : ℕ) → length line ≤ 4096 → SpellsLine line words → Reads words (Ok request) → HasBody line n → promised request.verb ≡ n
promised_count line words request n short spells reads has = by n (promises_so words request reads) has
  where
    by : (k : ℕ) → PromisesSo words request.verb → HasBody line k → promised request.verb ≡ k
    by k (nothing off is) (a_body {words = others} also again one) =
        absurd (no_promise words off k (subst (λ (ws : List Text). PromisesBody ws k) (SpellsLine-unique line others words again spells) one))
    by k (nothing off is) (no_body never) = is
    by k (a_count on told) has =
        HasBody-unique line (promised request.verb) k (a_body short spells (counts words told.front told.last (Some (promised request.verb)) on told.are (sym told.is))) has
