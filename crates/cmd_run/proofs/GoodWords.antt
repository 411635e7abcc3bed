-- The words of requests are good: new names are names, things are told by their paths or names, and what is said of them are words.
use Rattle.std.proofs.Common.{◌≡◌, ℕ, Bool, true, false, List, [], ◌∷◌, ◌++◌, Option, Some, None, IsTrue, subst, ◌⊎◌, inl, inr}
use Rattle.std.specs.Prelude.{Ok, codes}
use Rattle.std.specs.List.{list_all}
use Rattle.std.proofs.lemmas.Bool.{and_parts}
use mathlib.Core.Bool.{cond}
use Rattle.grid_model.specs.Names.{Text, Path, SpellsName, SpellsPath, is_name, same_text}
use Rattle.grid_model.specs.Grid.{object_at, collection_at, resource_named, user_named}
use Rattle.grid_model.specs.Words.{SpellsLine}
use Rattle.grid_model.specs.Writable.{is_word}
use Rattle.grid_model.specs.declared.grid.ItemKind.{ItemKind}
use Rattle.grid_model.specs.declared.grid.ItemKind.TheVariants as item
use Rattle.grid_model.specs.declared.requests.Request.{Request}
use Rattle.grid_model.specs.declared.requests.Verb.{Verb}
use Rattle.cmd_read.specs.Orders.{an_object, a_collection, a_resource, a_user}
use Rattle.cmd_read.specs.Table.{Form, FormValue, Means, VerbFrom, Way, Row, among, kinds_with_path, kinds_with_name, named_resource, table, of_sessions}
use Rattle.cmd_read.specs.Table.{of_users, of_resources, of_rules, of_collections, of_objects, of_uploads, of_metadata}
use Rattle.cmd_read.specs.Reading.{Makes, fits_forms, chosen, WordsAsk, ReadsVerb, ReadsIn, ReadsBehind, Reads, session_of}
use Rattle.plan_meta.proofs.LineWords.{line_words}
use Rattle.row_run.specs.Verbs.{HasGoodWords, IsWordIfAny, NamesSome}

-- whatever values stand for words of these forms, the verb has a new name
abbrev AllMade : (fs : List Form) → VerbFrom fs → Type 0
AllMade [] v = HasGoodWords v
AllMade (f ∷ fs) v = (w : Text) (x : FormValue f) → is_word w ≡ true → Means f w x → AllMade fs (v x)

abbrev AllWays : List Way → Type 0
AllWays [] = Unit {0}
AllWays (way ∷ ways) = AllMade way.forms way.makes × AllWays ways

abbrev AllRows : List Row → Type 0
AllRows [] = Unit {0}
AllRows (row ∷ rows) = AllWays row.1 × AllRows rows

all_append : (xs ys : List Row) → AllRows xs → AllRows ys → AllRows (xs ++ ys)
all_append [] ys first then = then
all_append (x ∷ xs) ys first then = (first.0, all_append xs ys first.1 then)

-- ---- the table

its_name : (w name : Text) → SpellsName w name → IsTrue (is_name name)
its_name w name spells = spells.is

sessions_so : AllRows of_sessions
sessions_so = (
  (λ a b c d. tt, tt),
  (
    (tt, tt),
    (
      (tt, tt),
      tt,
    ),
  ),
)

users_so : AllRows of_users
users_so = (
  (λ w name good m u k other n. its_name w name m, tt),
  (
    (λ w name good m. its_name w name m, tt),
    (
      (λ a b c d e f g h. tt, tt),
      (
        (λ a b c d e f g h. tt, tt),
        tt,
      ),
    ),
  ),
)

resources_so : AllRows of_resources
resources_so = (
  (λ w name good m a b c d e f g h. its_name w name m, (λ w name good m a b c d. its_name w name m, tt)),
  (
    (λ a b c d e f g h. tt, tt),
    (
      (λ a b c d e f g h. tt, tt),
      tt,
    ),
  ),
)

rules_so : AllRows of_rules
rules_so = (
  (λ a b c d. tt, tt),
  (
    (tt, tt),
    (
      (tt, tt),
      (
        (λ a b c d. tt, tt),
        (
          (λ a b c d. tt, tt),
          tt,
        ),
      ),
    ),
  ),
)

collections_so : AllRows of_collections
collections_so = (
  (λ a b c d. tt, tt),
  (
    (λ a b c d. tt, tt),
    (
      (λ a b c d e f g h. tt, tt),
      (
        (λ a b c d. tt, tt),
        (
          (λ a b c d e f g h i j k l. tt, tt),
          (
            (λ a b c d. tt, tt),
            (
              (λ a b c d. tt, tt),
              tt,
            ),
          ),
        ),
      ),
    ),
  ),
)

-- a word that is a text is good where the word is
same_word : (w text : Text) → is_word w ≡ true → w ≡ text → is_word text ≡ true
same_word w text good same = subst (λ x. is_word x ≡ true) same good

-- and so is the name of a resource, if it is one
word_if_any : (w : Text) (resource : Option Text) → is_word w ≡ true → named_resource w ≡ resource → IsWordIfAny resource
word_if_any w resource good is = subst IsWordIfAny is (by (same_text (codes "-") w))
  where
    by : (b : Bool) → IsWordIfAny (elim b as (λ _. Option Text) [ true ↦ None | false ↦ Some w ])
    by true = tt
    by false = good

objects_so : AllRows of_objects
objects_so = (
  (λ a b c d e f g h i j k l m n o p. same_word e f g h, tt),
  (
    (λ a b c d e f g h. word_if_any e f g h, tt),
    (
      (λ a b c d e f g h. same_word e f g h, tt),
      (
        (λ a b c d. tt, tt),
        (
          (λ a b c d e f g h. tt, tt),
          (
            (λ a b c d. tt, tt),
            tt,
          ),
        ),
      ),
    ),
  ),
)

uploads_so : AllRows of_uploads
uploads_so = (
  (λ a b c d e f g h i j k l. tt, tt),
  (
    (λ a b c d. tt, tt),
    (
      (tt, tt),
      (
        (tt, tt),
        tt,
      ),
    ),
  ),
)

-- the kind by its word is one of two
kind_of_two : (a b : Bool) (x y kind : ItemKind)
    → elim a as (λ _. Option ItemKind) [ true ↦ Some x | false ↦ elim b as (λ _. Option ItemKind) [ true ↦ Some y | false ↦ None ] ] ≡ Some kind
    → (x ≡ kind) ⊎ (y ≡ kind)
kind_of_two true b x y kind is = inl cc
kind_of_two false true x y kind is = inr cc
kind_of_two false false x y kind is = absurd cc

by_path : (k : Text) (kind : ItemKind) → among kinds_with_path k ≡ Some kind → (w text : Text) → w ≡ text → (path : Path) → SpellsPath w path
    → NamesSome kind text
by_path k kind is w text same path spells =
    let spelled : SpellsPath text path = subst (λ (x : Text). SpellsPath x path) same spells in
    elim (kind_of_two (same_text (codes "-d") k) (same_text (codes "-C") k) item.Object item.Collection kind is) [
      | inl e ↦ subst (λ (x : ItemKind). NamesSome x text) e (object_at path, an_object spelled)
      | inr e ↦ subst (λ (x : ItemKind). NamesSome x text) e (collection_at path, a_collection spelled)
    ]

by_name : (k : Text) (kind : ItemKind) → among kinds_with_name k ≡ Some kind → (text : Text) → NamesSome kind text
by_name k kind is text =
    elim (kind_of_two (same_text (codes "-R") k) (same_text (codes "-u") k) item.Resource item.User kind is) [
      | inl e ↦ subst (λ (x : ItemKind). NamesSome x text) e (resource_named text, a_resource)
      | inr e ↦ subst (λ (x : ItemKind). NamesSome x text) e (user_named text, a_user)
    ]

metadata_so : AllRows of_metadata
metadata_so = (
  (
    λ k kind gk ik w text gw iw aw a ga ia vw v gv iv uw u gu iu.
        (by_path k kind ik w text iw.0 iw.1 iw.2, same_word aw a ga ia, same_word vw v gv iv, same_word uw u gu iu),
    (
      λ k kind gk ik w text gw iw aw a ga ia vw v gv iv uw u gu iu. (by_name k kind ik text, same_word aw a ga ia, same_word vw v gv iv, same_word uw u gu iu),
      tt,
    ),
  ),
  (
    (
      λ k kind gk ik w text gw iw aw a ga ia vw v gv iv uw u gu iu. by_path k kind ik w text iw.0 iw.1 iw.2,
      (λ k kind gk ik w text gw iw aw a ga ia vw v gv iv uw u gu iu. by_name k kind ik text, tt),
    ),
    (
      (λ k kind gk ik w text gw iw. by_path k kind ik w text iw.0 iw.1 iw.2, (λ k kind gk ik w text gw iw. by_name k kind ik text, tt)),
      tt,
    ),
  ),
)

table_so : AllRows table
table_so =
    all_append of_sessions (of_users ++ of_resources ++ of_rules ++ of_collections ++ of_objects ++ of_uploads ++ of_metadata) sessions_so
    (all_append of_users (of_resources ++ of_rules ++ of_collections ++ of_objects ++ of_uploads ++ of_metadata) users_so
    (all_append of_resources (of_rules ++ of_collections ++ of_objects ++ of_uploads ++ of_metadata) resources_so
    (all_append of_rules (of_collections ++ of_objects ++ of_uploads ++ of_metadata) rules_so
    (all_append of_collections (of_objects ++ of_uploads ++ of_metadata) collections_so
    (all_append of_objects (of_uploads ++ of_metadata) objects_so
    (all_append of_uploads of_metadata uploads_so metadata_so))))))

-- ---- words

made : (fs : List Form) (v : VerbFrom fs) → AllMade fs v → (ws : List Text) → list_all is_word ws ≡ true → (its : Verb) → Makes fs ws v its → HasGoodWords its
made [] v all [] good its is = subst HasGoodWords is all
made [] v all (w ∷ ws) good its is = absurd is
made (f ∷ fs) v all [] good its is = absurd is
made (f ∷ fs) v all (w ∷ ws) good its is =
    let parts = and_parts (is_word w) (list_all is_word ws) good in
    made fs (v is.0) (all w is.0 parts.0 is.1) ws parts.1 its is.2

by_way : (ways : List Way) → AllWays ways → (ws : List Text) → list_all is_word ws ≡ true → (its : Verb) → WordsAsk (chosen ways ws) ws its → HasGoodWords its
by_way [] all ws good its asks = absurd asks
by_way (way ∷ ways) all ws good its asks = by (fits_forms way.forms ws) (λ is. by_way ways all.1 ws good its is) asks
  where
    by : (b : Bool) → (WordsAsk (chosen ways ws) ws its → HasGoodWords its) → WordsAsk (cond b (Some way) (chosen ways ws)) ws its → HasGoodWords its
    by true later is = made way.forms way.makes all.0 ws good its is
    by false later is = later is

by_row : (rows : List Row) → AllRows rows → (v : Text) (ws : List Text) → list_all is_word ws ≡ true → (its : Verb) → ReadsVerb (among rows v) ws (Ok its)
    → HasGoodWords its
by_row [] all v ws good its reads = absurd cc
by_row (row ∷ rows) all v ws good its reads = by (same_text row.0 v) (λ is. by_row rows all.1 v ws good its is) reads
  where
    by : (b : Bool) → (ReadsVerb (among rows v) ws (Ok its) → HasGoodWords its)
        → ReadsVerb (elim b as (λ _. Option (List Way)) [ true ↦ Some row.1 | false ↦ among rows v ]) ws (Ok its) → HasGoodWords its
    by true later is = by_way row.1 all.0 ws good its is
    by false later is = later is

in_session : (session : ℕ) (ws : List Text) → list_all is_word ws ≡ true → (request : Request) → ReadsIn session ws (Ok request) → HasGoodWords request.verb
in_session session [] good request reads = absurd cc
in_session session (v ∷ ws) good request reads = by_row table table_so v ws (and_parts (is_word v) (list_all is_word ws) good).1 request.verb reads.1

behind_session : (s : Option ℕ) (ws : List Text) → list_all is_word ws ≡ true → (request : Request) → ReadsBehind s ws (Ok request) → HasGoodWords request.verb
behind_session None ws good request reads = absurd cc
behind_session (Some session) ws good request reads = in_session session ws good request reads

by_words : (words : List Text) → list_all is_word words ≡ true → (request : Request) → Reads words (Ok request) → HasGoodWords request.verb
by_words [] good request reads = absurd cc
by_words (w ∷ ws) good request reads = behind_session (session_of w) ws (and_parts (is_word w) (list_all is_word ws) good).1 request reads

-- the words of a request that was read are good
pub good_words_of : (line : Text) (words : List Text) → SpellsLine line words → (request : Request) → Reads words (Ok request) → HasGoodWords request.verb
good_words_of line words spells request reads = by_words words (line_words spells) request reads
