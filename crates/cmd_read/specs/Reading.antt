-- What words ask for, or why they are refused. A refusal's number counts the words from 0, the session's.
use Rattle.std.specs.Prelude.{◌≡◌, ◌⊎◌, ℕ, ◌+◌, Bool, true, false, ◌&&◌, List, [], ◌∷◌, Option, Some, None, Result, Ok, Err, nat_lt, max}
use Rattle.std.specs.List.{find}
use Rattle.grid_model.specs.Names.{Text, SpellsPath, SpellsName}
use Rattle.grid_model.specs.Places.{IsRefusedAt}
use Rattle.cmd_read.specs.Table.{Form, a_path, a_path_text, a_new_name, FormValue, Means, VerbFrom, Way, has_form, among, number_of, table}
use Rattle.grid_model.specs.declared.requests.Verb.{Verb}
use Rattle.grid_model.specs.declared.requests.Request.{Request}
use Rattle.cmd_read.specs.declared.error.ReadError.{ReadError}
use Rattle.cmd_read.specs.declared.error.ReadError.TheVariants.{BadWord, UnknownCommand, BadPath, BadName}

-- a number that is one of a session: below 64
abbrev pub as_session : Option ℕ → Option ℕ
as_session None = None
as_session (Some n) = elim (nat_lt n 64) [ true ↦ Some n | false ↦ None ]

-- the session that a word numbers
abbrev pub session_of : Text → Option ℕ
session_of w = as_session (number_of w)

-- there are as many words as forms, and each is of its form
abbrev pub fits_forms : List Form → List Text → Bool
fits_forms [] [] = true
fits_forms [] (w ∷ ws) = false
fits_forms (f ∷ fs) [] = false
fits_forms (f ∷ fs) (w ∷ ws) = has_form f w && fits_forms fs ws

-- how many words from the left are of their forms
abbrev pub fitting : List Form → List Text → ℕ
fitting [] ws = 0
fitting (f ∷ fs) [] = 0
fitting (f ∷ fs) (w ∷ ws) = elim (has_form f w) [ true ↦ 1 + fitting fs ws | false ↦ 0 ]

-- the same of the way that goes furthest: then comes the first word that is not of its form, is missing or is one too many
abbrev pub furthest : List Way → List Text → ℕ
furthest [] ws = 0
furthest (way ∷ ways) ws = max (fitting way.forms ws) (furthest ways ws)

-- the first way that the words fit
abbrev pub chosen : List Way → List Text → Option Way
chosen ways ws = find (λ way. fits_forms way.forms ws) ways

-- The words stand for values, of which this verb is made.
abbrev pub Makes : (fs : List Form) → List Text → VerbFrom fs → Verb → Type 0
Makes [] [] v verb = v ≡ verb
Makes [] (w ∷ ws) v verb = ⊥
Makes (f ∷ fs) [] v verb = ⊥
Makes (f ∷ fs) (w ∷ ws) v verb = (x : FormValue f) × Means f w x × Makes fs ws (v x) verb

-- The word is to be a path or a new name, and is none.
abbrev pub Spoils : Form → Text → ReadError → Type 0
Spoils a_path w (BadPath place) = IsRefusedAt SpellsPath w place
Spoils a_path_text w (BadPath place) = IsRefusedAt SpellsPath w place
Spoils a_new_name w (BadName place) = IsRefusedAt SpellsName w place
Spoils f w other = ⊥

-- This is why the first of the words is refused that is to be a path or a new name and is none.
abbrev pub IsSpoilt : List Form → List Text → ReadError → Type 0
IsSpoilt (f ∷ fs) (w ∷ ws) why = Spoils f w why ⊎ (((x : FormValue f) × Means f w x) × IsSpoilt fs ws why)
IsSpoilt fs ws why = ⊥

-- the words behind a verb ask for this in the way, if there is one
abbrev pub WordsAsk : Option Way → List Text → Verb → Type 0
WordsAsk None ws verb = ⊥
WordsAsk (Some way) ws verb = Makes way.forms ws way.makes verb

-- They ask for this in one of the ways.
abbrev pub AsksFor : List Way → List Text → Verb → Type 0
AsksFor ways ws verb = WordsAsk (chosen ways ws) ws verb

-- the words are refused so in the way, or where there is none by the number of the first wrong one
abbrev pub IsRefusedBy : Option Way → ℕ → List Text → ReadError → Type 0
IsRefusedBy None wrong ws why = why ≡ BadWord wrong
IsRefusedBy (Some way) wrong ws why = IsSpoilt way.forms ws why

-- They are refused so, as they fit none of the ways, or a path or a new name in them is none.
abbrev pub Refuses : List Way → List Text → ReadError → Type 0
Refuses ways ws why = IsRefusedBy (chosen ways ws) (2 + furthest ways ws) ws why

-- The words behind a verb, to which the table gives these ways, are read so.
abbrev pub ReadsVerb : Option (List Way) → List Text → Result Verb ReadError → Type 0
ReadsVerb None ws answer = answer ≡ Err UnknownCommand
ReadsVerb (Some ways) ws (Ok verb) = AsksFor ways ws verb
ReadsVerb (Some ways) ws (Err why) = Refuses ways ws why

-- The words behind that of a session, the verb first, are read so.
abbrev pub ReadsIn : ℕ → List Text → Result Request ReadError → Type 0
ReadsIn session [] answer = answer ≡ Err (BadWord 1)
ReadsIn session (v ∷ ws) (Ok request) = (request.session ≡ session) × ReadsVerb (among table v) ws (Ok request.verb)
ReadsIn session (v ∷ ws) (Err why) = ReadsVerb (among table v) ws (Err why)

-- the same, where the first word may be no session
abbrev pub ReadsBehind : Option ℕ → List Text → Result Request ReadError → Type 0
ReadsBehind None ws answer = answer ≡ Err (BadWord 0)
ReadsBehind (Some session) ws answer = ReadsIn session ws answer

-- The words are read as this request, or are refused so.
abbrev pub Reads : List Text → Result Request ReadError → Type 0
Reads [] answer = answer ≡ Err (BadWord 0)
Reads (w ∷ ws) answer = ReadsBehind (session_of w) ws answer
