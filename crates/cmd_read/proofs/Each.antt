-- All words are read, or are refused.
use Rattle.std.proofs.Common.{arith, ◌≡◌, ℕ, zero, suc, ◌+◌, ◌-◌, ◌<◌, ◌≤◌, Bool, true, false, List, [], ◌∷◌, ◌++◌, length, drop, take, refl, sym, ap, subst, inl, inr}
use Rattle.std.specs.Prelude.{◌⊎◌, ◌&&◌, Option, Some, None, Result, Ok, Err, is_some, cond}
use Rattle.std.proofs.lemmas.Bool.{cases_order}
use Rattle.grid_model.specs.Names.{Text, Path, is_name, SpellsPath, SpellsName}
use Rattle.grid_model.specs.Places.{IsRefusedAt}
use Rattle.grid_model.proofs.NameSpelling.{begun, IsRefusedAt-begun}
use Rattle.grid_model.proofs.PathSpelling.{IsRefusedAt-first}
use Rattle.grid_model.proofs.PathReading.{part_of, IsRead, IsRead-more, IsRefusedAt-more, SpellsPath-from_read}
use Rattle.grid_model.proofs.Comparing.{same_text-Decides}
use Rattle.cmd_read.specs.Table.{Form, a_text, a_number, a_path, a_path_text, a_new_name, a_resource_or_none, a_mode, a_level, a_user_kind, a_coordinating_kind, a_state, a_kind_with_path, a_kind_with_name, the_word, FormValue, has_form, Means, VerbFrom, Way, among, table, named_resource}
use Rattle.cmd_read.specs.Reading.{fits_forms, furthest, Makes, Spoils, IsSpoilt, chosen, session_of, ReadsVerb, ReadsIn, ReadsBehind, Reads}
use Rattle.grid_model.specs.declared.requests.Verb.{Verb}
use Rattle.grid_model.specs.declared.requests.Request.{Request}
use Rattle.cmd_read.specs.declared.error.ReadError.{ReadError}
use Rattle.cmd_read.specs.declared.error.ReadError.TheVariants.{BadWord, UnknownCommand, BadPath, BadName}

-- ---- names and paths

name_by : (t : Text) (b : Bool) → is_name t ≡ b → SpellsName t t ⊎ ((at : ℕ) × IsRefusedAt SpellsName t at)
name_by t true e = inl (record { is = e; text_is = refl })
name_by t false e = inr (begun t, IsRefusedAt-begun t e)

name_or : (t : Text) → SpellsName t t ⊎ ((at : ℕ) × IsRefusedAt SpellsName t at)
name_or t = name_by t (is_name t) refl

abbrev PathOr : Text → Type 0
PathOr t = ((p : Path) × SpellsPath t p) ⊎ ((at : ℕ) × IsRefusedAt SpellsPath t at)

part_by : (rest : Text) (start : ℕ) (p : Path) (part : Text) → start ≤ length rest → 0 < length rest → IsRead rest start p → part ≡ part_of (take (length rest - start) (drop start rest))
    → SpellsName part part ⊎ ((at : ℕ) × IsRefusedAt SpellsName part at) → (IsRead rest (start + (length part + 1)) (p ++ part ∷ []) → PathOr (0x2F ∷ rest)) → PathOr (0x2F ∷ rest)
part_by rest start p part within some read is (inl name) more = more (IsRead-more rest start p (p ++ part ∷ []) part within read is name.is refl)
part_by rest start p part within some read is (inr refused) more = inr (1 + start + refused.0, IsRefusedAt-more (0x2F ∷ rest) rest start p part refused.0 (1 + start + refused.0) refl within some read is refused.1 refl)

end_or : (rest : Text) (start : ℕ) (p : Path) → IsRead rest start p → (start ≤ length rest → PathOr (0x2F ∷ rest)) → (start ≡ length rest) ⊎ ((start < length rest) ⊎ (length rest < start)) → PathOr (0x2F ∷ rest)
end_or rest start p read more (inl e) = more (omega (arith, e))
end_or rest start p read more (inr (inl less)) = more (omega (arith, less))
end_or rest start p read more (inr (inr past)) = inl (p, SpellsPath-from_read rest start p past read.names read.read)

parts_or : (fuel : ℕ) (rest : Text) (start : ℕ) (p : Path) → length rest < start + fuel → 0 < length rest → IsRead rest start p → PathOr (0x2F ∷ rest)
parts_or zero rest start p enough some read = inl (p, SpellsPath-from_read rest start p (omega (arith, enough)) read.names read.read)
parts_or (suc fuel) rest start p enough some read =
    let part : Text = part_of (take (length rest - start) (drop start rest)) in
    end_or rest start p read
    (λ within. part_by rest start p part within some read refl (name_or part)
    (λ next. parts_or fuel rest (start + (length part + 1)) (p ++ part ∷ []) (omega (arith, enough)) some next))
    (cases_order start (length rest))

slash_by : (b : ℕ) (rest : Text) → (b ≡ 0x2F) ⊎ ((b < 0x2F) ⊎ (0x2F < b)) → PathOr (b ∷ rest)
slash_by b [] (inl e) = inl ([], record { names = refl; text_is = ap (λ k. k ∷ []) e })
slash_by b (c ∷ rest) (inl e) = subst (λ k. PathOr (k ∷ c ∷ rest)) (sym e) (parts_or (suc (length (c ∷ rest))) (c ∷ rest) 0 [] (omega arith) (omega arith) (record { in_range = omega arith; names = refl; read = refl }))
slash_by b rest (inr (inl less)) = inr (0, IsRefusedAt-first (b ∷ rest) (λ c more is slash. let same : b ≡ c = cc is in omega (arith, same, slash, less)))
slash_by b rest (inr (inr more)) = inr (0, IsRefusedAt-first (b ∷ rest) (λ c others is slash. let same : b ≡ c = cc is in omega (arith, same, slash, more)))

path_or : (t : Text) → PathOr t
path_or [] = inr (0, IsRefusedAt-first [] (λ b more is slash. cc is))
path_or (b ∷ rest) = slash_by b rest (cases_order b 0x2F)

-- ---- words of their forms

some_of : {A : Type 0} (o : Option A) → is_some o ≡ true → (x : A) × (o ≡ Some x)
some_of None e = absurd (cc e)
some_of (Some x) e = (x, refl)

abbrev WordOr : Form → Text → Type 0
WordOr f w = ((x : FormValue f) × Means f w x) ⊎ ((why : ReadError) × Spoils f w why)

path_word : (w : Text) → PathOr w → WordOr a_path w
path_word w (inl h) = inl h
path_word w (inr h) = inr (BadPath h.0, h.1)

path_text_word : (w : Text) → PathOr w → WordOr a_path_text w
path_text_word w (inl h) = inl (w, (refl, h.0, h.1))
path_text_word w (inr h) = inr (BadPath h.0, h.1)

name_word : (w : Text) → SpellsName w w ⊎ ((at : ℕ) × IsRefusedAt SpellsName w at) → WordOr a_new_name w
name_word w (inl h) = inl (w, h)
name_word w (inr h) = inr (BadName h.0, h.1)

word_or : (f : Form) (w : Text) → has_form f w ≡ true → WordOr f w
word_or a_text w h = inl (w, refl)
word_or a_number w h = inl (some_of _ h)
word_or a_path w h = path_word w (path_or w)
word_or a_path_text w h = path_text_word w (path_or w)
word_or a_new_name w h = name_word w (name_or w)
word_or a_resource_or_none w h = inl (named_resource w, refl)
word_or a_mode w h = inl (some_of _ h)
word_or a_level w h = inl (some_of _ h)
word_or a_user_kind w h = inl (some_of _ h)
word_or a_coordinating_kind w h = inl (some_of _ h)
word_or a_state w h = inl (some_of _ h)
word_or a_kind_with_path w h = inl (some_of _ h)
word_or a_kind_with_name w h = inl (some_of _ h)
word_or (the_word t) w h = inl (tt, (same_text-Decides t w).0 h)

-- ---- the words behind a verb

abbrev WordsOr : (fs : List Form) → List Text → VerbFrom fs → Type 0
WordsOr fs ws v = ((verb : Verb) × Makes fs ws v verb) ⊎ ((why : ReadError) × IsSpoilt fs ws why)

both_true : (a b : Bool) → (a && b) ≡ true → (a ≡ true) × (b ≡ true)
both_true true true e = (refl, refl)
both_true true false e = absurd (cc e)
both_true false b e = absurd (cc e)

more_or : (f : Form) (fs : List Form) (w : Text) (ws : List Text) (v : VerbFrom (f ∷ fs)) (x : FormValue f) → Means f w x → WordsOr fs ws (v x) → WordsOr (f ∷ fs) (w ∷ ws) v
more_or f fs w ws v x m (inl h) = inl (h.0, (x, m, h.1))
more_or f fs w ws v x m (inr h) = inr (h.0, inr ((x, m), h.1))

next_or : (f : Form) (fs : List Form) (w : Text) (ws : List Text) (v : VerbFrom (f ∷ fs)) → WordOr f w → ((x : FormValue f) → WordsOr fs ws (v x)) → WordsOr (f ∷ fs) (w ∷ ws) v
next_or f fs w ws v (inl h) more = more_or f fs w ws v h.0 h.1 (more h.0)
next_or f fs w ws v (inr h) more = inr (h.0, inl h.1)

words_or : (fs : List Form) (ws : List Text) (v : VerbFrom fs) → fits_forms fs ws ≡ true → WordsOr fs ws v
words_or [] [] v h = inl (v, refl)
words_or [] (w ∷ ws) v h = absurd (cc h)
words_or (f ∷ fs) [] v h = absurd (cc h)
words_or (f ∷ fs) (w ∷ ws) v h = let k = both_true (has_form f w) (fits_forms fs ws) h in next_or f fs w ws v (word_or f w k.0) (λ x. words_or fs ws (v x) k.1)

found_by : (first way : Way) (ws : List Text) (o : Option Way) (b : Bool) → fits_forms first.forms ws ≡ b → cond b (Some first) o ≡ Some way → (o ≡ Some way → fits_forms way.forms ws ≡ true) → fits_forms way.forms ws ≡ true
found_by first way ws o true e is more = let same : first ≡ way = cc is in subst (λ (k : Way). fits_forms k.forms ws ≡ true) same e
found_by first way ws o false e is more = more is

chosen_fits : (ways : List Way) (ws : List Text) (way : Way) → chosen ways ws ≡ Some way → fits_forms way.forms ws ≡ true
chosen_fits [] ws way e = absurd (cc e)
chosen_fits (first ∷ ways) ws way e = found_by first way ws (chosen ways ws) (fits_forms first.forms ws) refl e (λ k. chosen_fits ways ws way k)

abbrev VerbOr : Option (List Way) → List Text → Type 0
VerbOr o ws = (answer : Result Verb ReadError) × ReadsVerb o ws answer

fitted_or : (ways : List Way) (way : Way) (ws : List Text) → chosen ways ws ≡ Some way → WordsOr way.forms ws way.makes → VerbOr (Some ways) ws
fitted_or ways way ws e (inl h) = (Ok h.0, rw e h.1)
fitted_or ways way ws e (inr h) = (Err h.0, rw e h.1)

ways_or : (ways : List Way) (ws : List Text) (o : Option Way) → chosen ways ws ≡ o → VerbOr (Some ways) ws
ways_or ways ws None e = (Err (BadWord (2 + furthest ways ws)), rw e refl)
ways_or ways ws (Some way) e = fitted_or ways way ws e (words_or way.forms ws way.makes (chosen_fits ways ws way e))

verb_or : (o : Option (List Way)) (ws : List Text) → VerbOr o ws
verb_or None ws = (Err UnknownCommand, refl)
verb_or (Some ways) ws = ways_or ways ws (chosen ways ws) refl

-- ---- all words

answer_or : (session : ℕ) (v : Text) (ws : List Text) (answer : Result Verb ReadError) → ReadsVerb (among table v) ws answer → (answer : Result Request ReadError) × ReadsIn session (v ∷ ws) answer
answer_or session v ws (Ok verb) h = (Ok (record { session = session; verb = verb }), (refl, h))
answer_or session v ws (Err why) h = (Err why, h)

in_or : (session : ℕ) (ws : List Text) → (answer : Result Request ReadError) × ReadsIn session ws answer
in_or session [] = (Err (BadWord 1), refl)
in_or session (v ∷ ws) = let found = verb_or (among table v) ws in answer_or session v ws found.0 found.1

behind_or : (o : Option ℕ) (ws : List Text) → (answer : Result Request ReadError) × ReadsBehind o ws answer
behind_or None ws = (Err (BadWord 0), refl)
behind_or (Some session) ws = in_or session ws

pub Reads-each : (words : List Text) → (answer : Result Request ReadError) × Reads words answer
Reads-each [] = (Err (BadWord 0), refl)
Reads-each (w ∷ ws) = behind_or (session_of w) ws
