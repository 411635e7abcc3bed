-- What marks tell of the ambient, one after another, and the first of them.
use Rattle.std.proofs.Common.{◌≡◌, ℕ, zero, suc, ◌-◌, List, [], ◌∷◌, ◌++◌, length, take, slice_get, Option, Some, None, IsTrue, refl, sym, ap, ◌∙◌, subst, append_assoc, take-append-drop}
use Rattle.std.specs.Prelude.{drop, flat_map}
use Rattle.std.proofs.lemmas.List.{append-nil}
use Rattle.std.proofs.lemmas.Grind.{flat_map-append}
use Rattle.grid_outside.specs.Ambient.{AmbientState}
use Rattle.grid_model.specs.Names.{Text}
use Rattle.grid_model.specs.Sessions.{State}
use Rattle.grid_model.specs.Uploads.{is_well}
use Rattle.grid_model.specs.Working.{Done}
use Rattle.grid_model.specs.Runs.{Request, Marked, After, none as nothing_done, next as next_done}
use Rattle.grid_model.specs.declared.marks.Mark.{Mark}
use Rattle.grid_headline.specs.Reads.{MeansRequest}
use Rattle.grid_headline.specs.Served.{joined_texts, marks_of, whole_in}
use Rattle.grid_headline.specs.Stops.{AreFirst}
use Rattle.grid_headline.specs.Draws.{AreSomeOf, none, skip, keep, word_of, time_of, told_words, with_marks, Words, no_words, HaveWords, none_left, next, request_words}
use Rattle.run_laws.specs.Handled.{Handled, marks_shown, marks_within, replies_of, told_within}
use Rattle.run_laws.specs.Steps.{Gave}
use Rattle.run_laws.proofs.BuiltOrders.{words_in}

-- ---- some of others

pub some-none : (all : List ℕ) → AreSomeOf [] all
some-none [] = none
some-none (n ∷ all) = skip (some-none all)

pub some-all : (all : List ℕ) → AreSomeOf all all
some-all [] = none
some-all (n ∷ all) = keep (some-all all)

pub some-then : {some all more rest : List ℕ} → AreSomeOf some all → AreSomeOf more rest → AreSomeOf (some ++ more) (all ++ rest)
some-then none then = then
some-then (skip first) then = skip (some-then first then)
some-then (keep first) then = keep (some-then first then)

pub some-of : {a b c : List ℕ} → AreSomeOf a b → AreSomeOf b c → AreSomeOf a c
some-of ab none = ab
some-of ab (skip bc) = skip (some-of ab bc)
some-of (skip ab) (keep bc) = skip (some-of ab bc)
some-of (keep ab) (keep bc) = keep (some-of ab bc)

-- ---- what the ambient gave

-- it was not asked
pub gave-none : (s : AmbientState) → IsTrue s.tells → Gave [] s s
gave-none s told = record {
  told = told;
  words = [];
  words_are = sym (append-nil s.words);
  words_told = none;
  times = [];
  times_are = sym (append-nil s.times);
  times_told = none;
}

pub gave-then : (marks more : List Mark) (old mid new : AmbientState) → (IsTrue mid.tells → Gave marks old mid)
    → (IsTrue new.tells → Gave more mid new) → IsTrue new.tells
    → Gave (marks ++ more) old new
gave-then marks more old mid new first then tells =
    let t = then tells in
    let f = first t.told in
    let W : List ℕ → Type 0 = λ ws. AreSomeOf ws (f.words ++ t.words) in
    let T : List ℕ → Type 0 = λ ts. AreSomeOf ts (f.times ++ t.times) in
    record {
      told = f.told;
      words = f.words ++ t.words;
      words_are = t.words_are ∙ ap (λ (ws : List ℕ). ws ++ t.words) f.words_are ∙ append_assoc old.words f.words t.words;
      words_told = subst W (sym (flat_map-append word_of marks more)) (some-then f.words_told t.words_told);
      times = f.times ++ t.times;
      times_are = t.times_are ∙ ap (λ (ts : List ℕ). ts ++ t.times) f.times_are ∙ append_assoc old.times f.times t.times;
      times_told = subst T (sym (flat_map-append time_of marks more)) (some-then f.times_told t.times_told);
    }

-- ---- the first requests, and the next one with its first marks

abbrev pub shown : List Marked → List Mark → ℕ → List Marked
shown ms told n = take n ms ++ with_marks told (slice_get ms n)

-- first marks of the request in this place, if there is one
abbrev pub AreFirstAt : List Mark → Option Marked → Type 0
AreFirstAt told None = Unit {0}
AreFirstAt told (Some m) = (count : ℕ) × (told ≡ take count m.marks)

-- a front of some marks
pub record IsFront (front all : List Mark) : Type 0 where
  pub rest : List Mark
  pub is : all ≡ front ++ rest

-- the marks that are shown are a front of all
pub front-shown : (ms : List Marked) (told : List Mark) (n : ℕ) → AreFirstAt told (slice_get ms n) → IsFront (marks_of (shown ms told n)) (marks_of ms)
front-shown [] told zero first = record { rest = []; is = refl }
front-shown [] told (suc n) first = record { rest = []; is = refl }
front-shown (m ∷ ms) told zero first = record {
  rest = drop first.0 m.marks ++ marks_of ms;
  is = ap (λ (t : List Mark). t ++ marks_of ms) (sym (take-append-drop first.0 m.marks) ∙ ap (λ (t : List Mark). t ++ drop first.0 m.marks) (sym first.1 ∙ sym (append-nil told)))
      ∙ append_assoc (told ++ []) (drop first.0 m.marks) (marks_of ms);
}
front-shown (m ∷ ms) told (suc n) first =
    let more = front-shown ms told n first in
    record {
      rest = more.rest;
      is = ap (λ (t : List Mark). m.marks ++ t) more.is ∙ sym (append_assoc m.marks (marks_of (shown ms told n)) more.rest);
    }

within_first : (m : Option Marked) (ts : Option (List Text)) (count : ℕ) → AreFirstAt (marks_within m ts count) m
within_first None None count = tt
within_first None (Some ts) count = tt
within_first (Some m) None count = (0, refl)
within_first (Some m) (Some ts) count = (whole_in ts count, refl)

-- those that are shown of what was handled
pub shown-first : (h : Handled) (count : ℕ) → AreFirst (marks_shown h count) (marks_of h.begun)
shown-first h count =
    let n = whole_in (replies_of h) count in
    let front = front-shown h.begun (told_within h n count) n
    (within_first (slice_get h.begun n) (slice_get h.pieces n) (count - length (joined_texts (take n (replies_of h))))) in
    record { rest = front.rest; are = front.is }

-- and what a front tells is some of what all tell
pub some-front : (f : Mark → List ℕ) (front all : List Mark) → IsFront front all → AreSomeOf (flat_map f front) (flat_map f all)
some-front f front all is =
    subst (AreSomeOf (flat_map f front)) (sym (ap (flat_map f) is.is ∙ flat_map-append f front is.rest))
    (subst (λ (t : List ℕ). AreSomeOf t (flat_map f front ++ flat_map f is.rest)) (append-nil (flat_map f front)) (some-then (some-all (flat_map f front)) (some-none (flat_map f is.rest))))

-- ---- the words of what is shown

-- words that are some of these
pub record WordsIn (at : State) (ms : List Marked) (ds : List Done) (all : List ℕ) : Type 0 where
  pub words : Words
  pub have : HaveWords at ms ds words
  pub in_all : AreSomeOf words.words all

words-next : (at : State) (m : Marked) (ms : List Marked) (d : Done) (ds : List Done) (request : Request) → MeansRequest at m.asked request
    → WordsIn d.state ms ds (told_words (marks_of ms))
    → WordsIn at (m ∷ ms) (d ∷ ds) (told_words (marks_of (m ∷ ms)))
words-next at m ms d ds request means more = record {
  words = request_words at request m.marks (is_well d.reply.end) more.words;
  have = next request means more.have;
  in_all = subst (AreSomeOf (request_words at request m.marks (is_well d.reply.end) more.words).words) (sym (flat_map-append word_of m.marks (marks_of ms)))
      (words_in at m.asked request m.marks (is_well d.reply.end) more.words (told_words (marks_of ms)) means more.in_all);
}

pub words-shown : {at end : State} {ms : List Marked} {ds : List Done} (told : List Mark) (n : ℕ) → After MeansRequest at ms ds end → AreFirstAt told (slice_get ms n)
    → WordsIn at (shown ms told n) ds (told_words (marks_of (shown ms told n)))
words-shown told zero nothing_done first = record { words = no_words; have = none_left; in_all = none }
words-shown told (suc n) nothing_done first = record { words = no_words; have = none_left; in_all = none }
words-shown {at = at} told zero (next_done {m = m} {d = d} {ds = ds} request means did left more) first =
    words-next at (record m { marks = told }) [] d ds request means (record { words = no_words; have = none_left; in_all = none })
words-shown {at = at} told (suc n) (next_done {m = m} {more = ms} {d = d} {ds = ds} request means did left more) first =
    words-next at m (shown ms told n) d ds request means (words-shown told n more first)
