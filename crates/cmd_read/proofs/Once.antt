-- No words are read in two ways.
use Rattle.std.proofs.Common.{◌≡◌, ℕ, ◌+◌, List, [], ◌∷◌, refl, sym, ap, subst, ◌∙◌, inl, inr}
use Rattle.std.specs.Prelude.{Option, Some, None, Result, Ok, Err}
use Rattle.grid_model.specs.Names.{Text, SpellsPath, SpellsName}
use Rattle.grid_model.proofs.PathSpelling.{SpellsPath-unique}
use Rattle.grid_model.proofs.Refusals.{IsRefusedAt-unique}
use Rattle.grid_model.specs.Places.{IsRefusedAt}
use Rattle.cmd_read.specs.Table.{Form, a_text, a_number, a_path, a_path_text, a_new_name, a_resource_or_none, a_mode, a_level, a_user_kind, a_coordinating_kind, a_state, a_kind_with_path, a_kind_with_name, the_word, FormValue, Means, VerbFrom, Way, among, table}
use Rattle.cmd_read.specs.Reading.{Makes, Spoils, IsSpoilt, WordsAsk, IsRefusedBy, chosen, furthest, session_of, ReadsVerb, ReadsIn, ReadsBehind, Reads}
use Rattle.grid_model.specs.declared.requests.Verb.{Verb}
use Rattle.grid_model.specs.declared.requests.Request.{Request}
use Rattle.cmd_read.specs.declared.error.ReadError.{ReadError}
use Rattle.cmd_read.specs.declared.error.ReadError.TheVariants.{BadPath, BadName}

some_once : {A : Type 0} (o : Option A) (x y : A) → o ≡ Some x → o ≡ Some y → x ≡ y
some_once o x y h k = cc (h, k)

means_once : (f : Form) (w : Text) (x y : FormValue f) → Means f w x → Means f w y → x ≡ y
means_once a_text w x y h k = sym h ∙ k
means_once a_number w x y h k = some_once _ x y h k
means_once a_path w x y h k = SpellsPath-unique w x y h k
means_once a_path_text w x y h k = sym h.0 ∙ k.0
means_once a_new_name w x y h k = sym h.text_is ∙ k.text_is
means_once a_resource_or_none w x y h k = sym h ∙ k
means_once a_mode w x y h k = some_once _ x y h k
means_once a_level w x y h k = some_once _ x y h k
means_once a_user_kind w x y h k = some_once _ x y h k
means_once a_coordinating_kind w x y h k = some_once _ x y h k
means_once a_state w x y h k = some_once _ x y h k
means_once a_kind_with_path w x y h k = some_once _ x y h k
means_once a_kind_with_name w x y h k = some_once _ x y h k
means_once (the_word t) w x y h k = refl

makes_once : (fs : List Form) (ws : List Text) (v : VerbFrom fs) (a b : Verb) → Makes fs ws v a → Makes fs ws v b → a ≡ b
makes_once [] [] v a b h k = sym h ∙ k
makes_once [] (w ∷ ws) v a b h k = absurd h
makes_once (f ∷ fs) [] v a b h k = absurd h
makes_once (f ∷ fs) (w ∷ ws) v a b h k =
    let P : FormValue f → Type 0 = λ z. Makes fs ws (v z) a in
    makes_once fs ws (v k.0) a b (subst P (means_once f w h.0 k.0 h.1 k.1) h.2) k.2

spoils_not : (f : Form) (w : Text) (why : ReadError) (x : FormValue f) → Spoils f w why → ¬ Means f w x
spoils_not a_path w (BadPath at) x h m = h.spells_nothing x m
spoils_not a_path_text w (BadPath at) x h m = h.spells_nothing m.1 m.2
spoils_not a_new_name w (BadName at) x h m = h.spells_nothing x m
spoils_not f w why x h m = absurd h

path_once : (w : Text) (at : ℕ) (b : ReadError) → IsRefusedAt SpellsPath w at → Spoils a_path w b → BadPath at ≡ b
path_once w at (BadPath other) h k = ap BadPath (IsRefusedAt-unique SpellsPath w at other h k)
path_once w at b h k = absurd k

name_once : (w : Text) (at : ℕ) (b : ReadError) → IsRefusedAt SpellsName w at → Spoils a_new_name w b → BadName at ≡ b
name_once w at (BadName other) h k = ap BadName (IsRefusedAt-unique SpellsName w at other h k)
name_once w at b h k = absurd k

text_once : (w : Text) (at : ℕ) (b : ReadError) → IsRefusedAt SpellsPath w at → Spoils a_path_text w b → BadPath at ≡ b
text_once w at (BadPath other) h k = ap BadPath (IsRefusedAt-unique SpellsPath w at other h k)
text_once w at b h k = absurd k

spoils_once : (f : Form) (w : Text) (a b : ReadError) → Spoils f w a → Spoils f w b → a ≡ b
spoils_once a_path w (BadPath at) b h k = path_once w at b h k
spoils_once a_path_text w (BadPath at) b h k = text_once w at b h k
spoils_once a_new_name w (BadName at) b h k = name_once w at b h k
spoils_once f w a b h k = absurd h

spoilt_once : (fs : List Form) (ws : List Text) (a b : ReadError) → IsSpoilt fs ws a → IsSpoilt fs ws b → a ≡ b
spoilt_once (f ∷ fs) (w ∷ ws) a b (inl h) (inl k) = spoils_once f w a b h k
spoilt_once (f ∷ fs) (w ∷ ws) a b (inl h) (inr k) = absurd (spoils_not f w a k.0.0 h k.0.1)
spoilt_once (f ∷ fs) (w ∷ ws) a b (inr h) (inl k) = absurd (spoils_not f w b h.0.0 k h.0.1)
spoilt_once (f ∷ fs) (w ∷ ws) a b (inr h) (inr k) = spoilt_once fs ws a b h.1 k.1
spoilt_once [] ws a b h k = absurd h
spoilt_once (f ∷ fs) [] a b h k = absurd h

makes_not : (fs : List Form) (ws : List Text) (v : VerbFrom fs) (verb : Verb) (why : ReadError) → Makes fs ws v verb → ¬ IsSpoilt fs ws why
makes_not (f ∷ fs) (w ∷ ws) v verb why m (inl h) = spoils_not f w why m.0 h m.1
makes_not (f ∷ fs) (w ∷ ws) v verb why m (inr h) = makes_not fs ws (v m.0) verb why m.2 h.1
makes_not [] ws v verb why m h = absurd h
makes_not (f ∷ fs) [] v verb why m h = absurd h

asks_once : (o : Option Way) (ws : List Text) (a b : Verb) → WordsAsk o ws a → WordsAsk o ws b → a ≡ b
asks_once None ws a b h k = absurd h
asks_once (Some way) ws a b h k = makes_once way.forms ws way.makes a b h k

refused_once : (o : Option Way) (n : ℕ) (ws : List Text) (a b : ReadError) → IsRefusedBy o n ws a → IsRefusedBy o n ws b → a ≡ b
refused_once None n ws a b h k = h ∙ sym k
refused_once (Some way) n ws a b h k = spoilt_once way.forms ws a b h k

asks_not : (o : Option Way) (n : ℕ) (ws : List Text) (verb : Verb) (why : ReadError) → WordsAsk o ws verb → ¬ IsRefusedBy o n ws why
asks_not None n ws verb why h k = absurd h
asks_not (Some way) n ws verb why h k = makes_not way.forms ws way.makes verb why h k

verb_once : (o : Option (List Way)) (ws : List Text) (a b : Result Verb ReadError) → ReadsVerb o ws a → ReadsVerb o ws b → a ≡ b
verb_once None ws a b h k = h ∙ sym k
verb_once (Some ways) ws (Ok a) (Ok b) h k = ap Ok (asks_once (chosen ways ws) ws a b h k)
verb_once (Some ways) ws (Ok a) (Err b) h k = absurd (asks_not (chosen ways ws) (2 + furthest ways ws) ws a b h k)
verb_once (Some ways) ws (Err a) (Ok b) h k = absurd (asks_not (chosen ways ws) (2 + furthest ways ws) ws b a k h)
verb_once (Some ways) ws (Err a) (Err b) h k = ap Err (refused_once (chosen ways ws) (2 + furthest ways ws) ws a b h k)

same_verb : (a b : Verb) (x y : Result Verb ReadError) → x ≡ Ok a → y ≡ Ok b → x ≡ y → a ≡ b
same_verb a b x y h k e = cc (h, k, e)

same_why : (a b : ReadError) (x y : Result Verb ReadError) → x ≡ Err a → y ≡ Err b → x ≡ y → a ≡ b
same_why a b x y h k e = cc (h, k, e)

same_request : (a b : Request) → a.session ≡ b.session → a.verb ≡ b.verb → a ≡ b
same_request a b e f = λ i. record { session = e i; verb = f i }

in_once : (session : ℕ) (ws : List Text) (a b : Result Request ReadError) → ReadsIn session ws a → ReadsIn session ws b → a ≡ b
in_once session [] a b h k = h ∙ sym k
in_once session (v ∷ ws) (Ok a) (Ok b) h k = ap Ok (same_request a b (h.0 ∙ sym k.0) (same_verb a.verb b.verb (Ok a.verb) (Ok b.verb) refl refl (verb_once (among table v) ws (Ok a.verb) (Ok b.verb) h.1 k.1)))
in_once session (v ∷ ws) (Ok a) (Err b) h k = let e = verb_once (among table v) ws (Ok a.verb) (Err b) h.1 k in absurd (cc e)
in_once session (v ∷ ws) (Err a) (Ok b) h k = let e = verb_once (among table v) ws (Err a) (Ok b.verb) h k.1 in absurd (cc e)
in_once session (v ∷ ws) (Err a) (Err b) h k = ap Err (same_why a b (Err a) (Err b) refl refl (verb_once (among table v) ws (Err a) (Err b) h k))

behind_once : (o : Option ℕ) (ws : List Text) (a b : Result Request ReadError) → ReadsBehind o ws a → ReadsBehind o ws b → a ≡ b
behind_once None ws a b h k = h ∙ sym k
behind_once (Some session) ws a b h k = in_once session ws a b h k

pub Reads-once : (words : List Text) (a b : Result Request ReadError) → Reads words a → Reads words b → a ≡ b
Reads-once [] a b h k = h ∙ sym k
Reads-once (w ∷ ws) a b h k = behind_once (session_of w) ws a b h k
