-- Reading the words of rows, of good ends and of refused recoveries.
use Rattle.std.proofs.Common.{◌≡◌, ℕ, zero, suc, ◌-◌, ◌<◌, List, [], ◌∷◌, ◌++◌, Ok, Err, length, refl, sym, ap, ◌∙◌, subst, arith, lit<}
use Rattle.std.specs.Prelude.{Result}
use Rattle.grid_model.specs.Names.{Text}
use Rattle.grid_model.specs.Places.{Begins}
use Rattle.grid_model.specs.declared.replies.Passed.{Passed}
use Rattle.reply_fields.specs.declared.error.ReplyError.{ReplyError}
use Rattle.reply_fields.specs.Fronts.{IsRead, ReadsFrom, Then}
use Rattle.reply_fields.specs.Spelled.{IsEndedWord, IsNameOf}
use Rattle.reply_fields.specs.WordLists.{IsWordList, last_word, more_words}
use Rattle.reply_fields.proofs.Codes.{IsCode, IsCode-Then, reads_then}
use Rattle.reply_fields.proofs.NameReading.{IsCode-names}
use Rattle.reply_fields.proofs.ListReading.{IsCode-list}
use Rattle.reply_fields.proofs.WordReading.{IsCode-word}
use Rattle.reply_reader.specs.WordFields.{IsWords, no_words, some_words, IsRecovery, IsPassed}
use Rattle.reply_reader.proofs.Readings.{mapped, reads_as, IsCode-as, begins_to, begins_then, first_unread}

-- ---- none, or a space and a list

abbrev pub behind_names : List Text
behind_names = (0x0A ∷ []) ∷ (0x20 ∷ []) ∷ []

abbrev pub AfterName : ℕ → Text → List Text → Type 0
AfterName zero = λ text ws. (text ≡ []) × (ws ≡ [])
AfterName (suc i) = IsWordList

abbrev NameThen : Text → List Text → Type 0
NameThen = Then (IsNameOf behind_names) AfterName

to_words : (s : Text) (ws : List Text) → NameThen s ws → IsWords s ws
to_words s ws t = by t.begun t.spells_first t.spells_second
  where
    by : (i : ℕ) → IsNameOf behind_names t.first i → AfterName i t.second ws → IsWords s ws
    by zero n a = subst (IsWords s) (sym a.1) (no_words (t.split ∙ (λ i. n.is i ++ a.0 i)))
    by (suc zero) n a = some_words (t.split ∙ ap (λ x. x ++ t.second) n.is) a
    by (suc (suc i)) n a = absurd (omega (arith, n.within))

from_words : (s : Text) (ws : List Text) → IsWords s ws → NameThen s ws
from_words s ws (no_words is) = record { first = 0x0A ∷ []; second = []; begun = 0; split = is; spells_first = record { within = lit< tt; is = refl }; spells_second = (refl, refl) }
from_words s ws (some_words {rest = rest} is list) = record { first = 0x20 ∷ []; second = rest; begun = 1; split = is; spells_first = record { within = lit< tt; is = refl }; spells_second = list }

pub some_list : IsWordList (0x61 ∷ 0x0A ∷ []) ((0x61 ∷ []) ∷ [])
some_list = last_word (record { word_is = refl; ends_is = refl; is = refl })

begins_list : Begins IsWordList []
begins_list = record { more = 0x61 ∷ 0x0A ∷ []; value = (0x61 ∷ []) ∷ []; spells = some_list }

begins_after : (i : ℕ) → Begins (AfterName i) []
begins_after zero = record { more = []; value = []; spells = (refl, refl) }
begins_after (suc i) = begins_list

IsCode-after : (i : ℕ) → IsCode (AfterName i)
IsCode-after zero = record { only = λ s t u v a b e p q. (p.0 ∙ sym q.0, p.1 ∙ sym q.1) }
IsCode-after (suc i) = IsCode-list

IsCode-names_behind : IsCode (IsNameOf behind_names)
IsCode-names_behind = IsCode-names behind_names refl

as_words : (text : Text) (at : ℕ) (r : Result (List Text × ℕ) ReplyError) → ReadsFrom NameThen text at r → ReadsFrom IsWords text at (mapped (λ ws. ws) r)
as_words = reads_as NameThen IsWords (λ ws. ws) to_words (λ s ws p. (ws, refl, from_words s ws p))

pub words_unread : (text : Text) (at : ℕ) (e : ReplyError) → ReadsFrom (IsNameOf behind_names) text at (Err e) → ReadsFrom IsWords text at (Err e)
words_unread text at e h = as_words text at (Err e) (first_unread (IsNameOf behind_names) AfterName begins_after text at e h)

words_then : (text : Text) (at next i : ℕ) → IsRead (IsNameOf behind_names) text at i next → (r : Result (List Text × ℕ) ReplyError) → ReadsFrom (AfterName i) text next r → ReadsFrom IsWords text at r
words_then text at next i h (Ok r) then = as_words text at (Ok r) (reads_then (IsNameOf behind_names) AfterName IsCode-names_behind text at next i h (Ok r) then)
words_then text at next i h (Err e) then = as_words text at (Err e) (reads_then (IsNameOf behind_names) AfterName IsCode-names_behind text at next i h (Err e) then)

pub none_then : (text : Text) (at next i : ℕ) (ws : List Text) → IsRead (IsNameOf behind_names) text at i next → i ≡ 0 → ws ≡ [] → IsRead IsWords text at ws next
none_then text at next i ws h is none =
    words_then text at next 0 (subst (λ k. IsRead (IsNameOf behind_names) text at k next) is h) (Ok (ws, next))
    (record { forward = omega arith; within = h.within; front = record { spelled = []; split = refl; spells = (refl, none) } })

pub list_then : (text : Text) (at next i : ℕ) → IsRead (IsNameOf behind_names) text at i next → 0 < i → (r : Result (List Text × ℕ) ReplyError) → ReadsFrom IsWordList text next r → ReadsFrom IsWords text at r
list_then text at next i h some r then =
    let is : i ≡ suc (i - 1) = omega (arith, some) in
    words_then text at next (suc (i - 1)) (subst (λ k. IsRead (IsNameOf behind_names) text at k next) is h) r then

pub IsCode-words : IsCode IsWords
IsCode-words = IsCode-as NameThen IsWords (λ ws. ws) to_words (λ s ws p. (ws, refl, from_words s ws p)) (IsCode-Then (IsNameOf behind_names) AfterName IsCode-names_behind IsCode-after)

pub begins_words : Begins IsWords []
begins_words = record { more = 0x0A ∷ []; value = []; spells = no_words refl }

-- ---- all but the last word, and the last

init_of : List Text → List Text
init_of [] = []
init_of (w ∷ []) = []
init_of (w ∷ v ∷ ws) = w ∷ init_of (v ∷ ws)

last_of : List Text → Text
last_of [] = []
last_of (w ∷ []) = w
last_of (w ∷ v ∷ ws) = last_of (v ∷ ws)

init-push : (ws : List Text) (w : Text) → init_of (ws ++ w ∷ []) ≡ ws
unfolding init_of
init-push [] w = refl
init-push (v ∷ []) w = refl
init-push (v ∷ u ∷ ws) w = ap (λ x. v ∷ x) (init-push (u ∷ ws) w)

last-push : (ws : List Text) (w : Text) → last_of (ws ++ w ∷ []) ≡ w
unfolding last_of
last-push [] w = refl
last-push (v ∷ []) w = refl
last-push (v ∷ u ∷ ws) w = last-push (u ∷ ws) w

both_parts : (w : Text) (ws : List Text) → init_of (w ∷ ws) ++ last_of (w ∷ ws) ∷ [] ≡ w ∷ ws
unfolding init_of last_of
both_parts w [] = refl
both_parts w (v ∷ ws) = ap (λ x. w ∷ x) (both_parts v ws)

list_parts : (s : Text) (ws : List Text) → IsWordList s ws → init_of ws ++ last_of ws ∷ [] ≡ ws
list_parts s ws (last_word {w = w} p) = both_parts w []
list_parts s ws (more_words {w = w} {ws = rest} split p more) = both_parts w rest

pub list_some : (s : Text) (ws : List Text) → IsWordList s ws → 0 < length ws
list_some s ws (last_word p) = omega arith
list_some s ws (more_words {ws = rest} split p more) = omega arith

-- ---- recoveries

module _ (name : Text × ℕ) where
  abbrev recovered : List Text → Passed
  recovered ws = record { call = record { name = name.0; args = init_of ws }; failure = last_of ws }

  to_recovery : (s : Text) (ws : List Text) → IsWordList s ws → IsRecovery name s (recovered ws)
  to_recovery s ws p = record { name_is = refl; words = subst (IsWordList s) (sym (list_parts s ws p)) p }

  same_recovery : (p : Passed) (ws : List Text) → p.call.name ≡ name.0 → p.call.args ++ p.failure ∷ [] ≡ ws → p ≡ recovered ws
  same_recovery p ws named words =
      let args : p.call.args ≡ init_of ws = sym (init-push p.call.args p.failure) ∙ ap init_of words in
      let failed : p.failure ≡ last_of ws = sym (last-push p.call.args p.failure) ∙ ap last_of words in
      (λ i. record { call = record { name = named i; args = args i }; failure = failed i })

  from_recovery : (s : Text) (p : Passed) → IsRecovery name s p → (ws : List Text) × (p ≡ recovered ws) × IsWordList s ws
  from_recovery s p r = (p.call.args ++ p.failure ∷ [], same_recovery p (p.call.args ++ p.failure ∷ []) r.name_is refl, r.words)

  as_recovery : (text : Text) (at : ℕ) (r : Result (List Text × ℕ) ReplyError) → ReadsFrom IsWordList text at r → ReadsFrom (IsRecovery name) text at (mapped recovered r)
  as_recovery = reads_as IsWordList (IsRecovery name) recovered to_recovery from_recovery

  IsCode-recovery : IsCode (IsRecovery name)
  IsCode-recovery = IsCode-as IsWordList (IsRecovery name) recovered to_recovery from_recovery IsCode-list

  begins_recovery : Begins (IsRecovery name) []
  begins_recovery = begins_to IsWordList (IsRecovery name) recovered to_recovery from_recovery [] begins_list

IsCode-name : IsCode (IsEndedWord (0x20 ∷ []))
IsCode-name = IsCode-word (0x20 ∷ []) (record { any = omega arith; all = refl })

pub passed_unread : (text : Text) (at : ℕ) (e : ReplyError) → ReadsFrom (IsEndedWord (0x20 ∷ [])) text at (Err e) → ReadsFrom IsPassed text at (Err e)
passed_unread text at e h = first_unread (IsEndedWord (0x20 ∷ [])) IsRecovery begins_recovery text at e h

pub passed_words_unread : (text : Text) (at next : ℕ) (name : Text × ℕ) (e : ReplyError) → IsRead (IsEndedWord (0x20 ∷ [])) text at name next → ReadsFrom IsWordList text next (Err e) → ReadsFrom IsPassed text at (Err e)
passed_words_unread text at next name e h then = reads_then (IsEndedWord (0x20 ∷ [])) IsRecovery IsCode-name text at next name h (Err e) (as_recovery name text next (Err e) then)

pub passed_read : (text : Text) (at next last : ℕ) (name : Text × ℕ) (ws : List Text) (p : Passed) → IsRead (IsEndedWord (0x20 ∷ [])) text at name next → IsRead IsWordList text next ws last → p.call.name ≡ name.0 → p.call.args ++ p.failure ∷ [] ≡ ws → IsRead IsPassed text at p last
passed_read text at next last name ws p h then named words =
    reads_then (IsEndedWord (0x20 ∷ [])) IsRecovery IsCode-name text at next name h (Ok (p, last))
    (subst (λ x. IsRead (IsRecovery name) text next x last) (sym (same_recovery name p ws named words)) (as_recovery name text next (Ok (ws, last)) then))

pub IsCode-passed : IsCode IsPassed
IsCode-passed = IsCode-Then (IsEndedWord (0x20 ∷ [])) IsRecovery IsCode-name IsCode-recovery

pub begins_passed : Begins IsPassed []
begins_passed = begins_then (IsEndedWord (0x20 ∷ [])) IsRecovery (record { more = 0x61 ∷ 0x20 ∷ []; value = (0x61 ∷ [], 0x20); spells = record { word_is = refl; ends_is = refl; is = refl } }) begins_recovery
