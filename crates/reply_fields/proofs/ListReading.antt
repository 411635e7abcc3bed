-- Reading words in a row.
use Rattle.std.proofs.Common.{◌≡◌, ◌≢◌, ℕ, ◌-◌, ◌<◌, ◌≤◌, Bool, true, false, List, [], ◌∷◌, ◌++◌, Ok, Err, length, take, drop, refl, sym, ap, ◌∙◌, subst, arith, length-append, append_assoc, inl, inr}
use Rattle.std.specs.Prelude.{◌⊎◌, Result, ◌||◌, ◌==◌}
use Rattle.std.proofs.lemmas.Bool.{false≢true, eqb-true}
use Rattle.std.proofs.lemmas.List.{append-nil, append_cancel_left, length-drop}
use Rattle.grid_model.specs.Names.{Text}
use Rattle.grid_model.specs.Places.{Begins}
use Rattle.grid_model.specs.Words.{quoted_word}
use Rattle.reply_fields.specs.declared.error.ReplyError.{ReplyError}
use Rattle.reply_fields.specs.declared.error.ReplyError.TheVariants.{BadReply, Memory}
use Rattle.reply_fields.specs.Fronts.{IsRead, ReadsFrom, Then}
use Rattle.reply_fields.specs.Spelled.{IsEndedWord, is_among_bytes}
use Rattle.reply_fields.specs.WordLists.{IsWordList, last_word, more_words}
use Rattle.reply_fields.proofs.Codes.{IsCode, ReadsFrom-same, reads_first, reads_then}
use Rattle.reply_fields.proofs.WordReading.{IsCode-word}

-- both ends
abbrev blanks : List ℕ
blanks = 0x20 ∷ 0x0A ∷ []

abbrev IsWord : Text → Text × ℕ → Type 0
IsWord = IsEndedWord (0x20 ∷ 0x0A ∷ [])

pub IsCode-any_word : IsCode (IsEndedWord (0x20 ∷ 0x0A ∷ []))
IsCode-any_word = IsCode-word (0x20 ∷ 0x0A ∷ []) (record { any = omega arith; all = refl })

-- what follows a word and its end
data AfterWord : Text × ℕ → Text → List Text → Type 0 where
  ends : {r : Text × ℕ} {u : Text} {ws : List Text} → r.1 ≡ 0x0A → u ≡ [] → ws ≡ r.0 ∷ [] → AfterWord r u ws
  goes : {r : Text × ℕ} {u : Text} {ws : List Text} (others : List Text) → r.1 ≡ 0x20 → IsWordList u others → ws ≡ r.0 ∷ others → AfterWord r u ws

same_ends : (text w : Text) (b : ℕ) (es fs : List ℕ) → is_among_bytes fs b ≡ true → IsEndedWord es text (w, b) → IsEndedWord fs text (w, b)
same_ends text w b es fs among p = record { word_is = p.word_is; ends_is = among; is = p.is }

to_list : (s : Text) (ws : List Text) → Then IsWord AfterWord s ws → IsWordList s ws
to_list s ws t = by t.begun t.spells_first t.spells_second
  where
    by : (r : Text × ℕ) → IsWord t.first r → AfterWord r t.second ws → IsWordList s ws
    by r p (ends e none is) =
        let whole : s ≡ t.first = t.split ∙ ap (λ x. t.first ++ x) none ∙ append-nil t.first in
        subst (IsWordList s) (sym is) (last_word (subst (λ x. IsEndedWord (0x0A ∷ []) x (r.0, 0x0A)) (sym whole) (same_ends t.first r.0 0x0A (0x20 ∷ 0x0A ∷ []) (0x0A ∷ []) refl (subst (λ b. IsWord t.first (r.0, b)) e p))))
    by r p (goes others e rest is) =
        subst (IsWordList s) (sym is) (more_words t.split (same_ends t.first r.0 0x20 (0x20 ∷ 0x0A ∷ []) (0x20 ∷ []) refl (subst (λ b. IsWord t.first (r.0, b)) e p)) rest)

from_list : (s : Text) (ws : List Text) → IsWordList s ws → Then IsWord AfterWord s ws
from_list s ws (last_word {text} {w} p) = record {
  first = s;
  second = [];
  begun = (w, 0x0A);
  split = sym (append-nil s);
  spells_first = same_ends s w 0x0A (0x0A ∷ []) (0x20 ∷ 0x0A ∷ []) refl p;
  spells_second = ends refl refl refl;
}
from_list s ws (more_words {text} {first} {rest} {w} {ws = others} split p more) = record {
  first = first;
  second = rest;
  begun = (w, 0x20);
  split = split;
  spells_first = same_ends first w 0x20 (0x20 ∷ []) (0x20 ∷ 0x0A ∷ []) refl p;
  spells_second = goes others refl more refl;
}

-- some list of words
some_list : IsWordList (0x61 ∷ 0x0A ∷ []) ((0x61 ∷ []) ∷ [])
some_list = last_word (record { word_is = refl; ends_is = refl; is = refl })

pub either_end : (b : ℕ) → is_among_bytes (0x20 ∷ 0x0A ∷ []) b ≡ true → (b ≡ 0x0A) ⊎ (b ≡ 0x20)
either_end b h = by (0x20 == b) refl (0x0A == b) refl
  where
    by : (x : Bool) → (0x20 == b) ≡ x → (y : Bool) → (0x0A == b) ≡ y → (b ≡ 0x0A) ⊎ (b ≡ 0x20)
    by true e y f = inr (sym (eqb-true 0x20 b e))
    by false e true f = inl (sym (eqb-true 0x0A b f))
    by false e false f = absurd (false≢true ((λ i. sym e i || (sym f i || false)) ∙ h))

follows : (s : Text) (r : Text × ℕ) → IsWord s r → Begins (AfterWord r) []
follows s r p = by (either_end r.1 p.ends_is)
  where
    by : (r.1 ≡ 0x0A) ⊎ (r.1 ≡ 0x20) → Begins (AfterWord r) []
    by (inl e) = record { more = []; value = r.0 ∷ []; spells = ends e refl refl }
    by (inr e) = record { more = 0x61 ∷ 0x0A ∷ []; value = r.0 ∷ (0x61 ∷ []) ∷ []; spells = goes ((0x61 ∷ []) ∷ []) e some_list refl }

-- ---- what was read of the list

-- the words so far in front of the others
abbrev pub with_front : List Text → Result (List Text × ℕ) ReplyError → Result (List Text × ℕ) ReplyError
with_front acc (Ok r) = Ok (acc ++ r.0, r.1)
with_front acc (Err e) = Err e

-- what reading from a place on gives is what reading from the first one on gives, with these words in front
pub record GoesOnWith (text : Text) (from place : ℕ) (acc : List Text) : Type 0 where
  pub inside : place ≤ length text
  pub forward : from ≤ place
  pub then : (r : Result (List Text × ℕ) ReplyError) → ReadsFrom IsWordList text place r → ReadsFrom IsWordList text from (with_front acc r)

pub GoesOnWith-start : (text : Text) (from : ℕ) (acc : List Text) → from ≤ length text → acc ≡ [] → GoesOnWith text from from acc
GoesOnWith-start text from acc inside none = subst (GoesOnWith text from from) (sym none) (record { inside = inside; forward = omega arith; then = same })
  where
    same : (r : Result (List Text × ℕ) ReplyError) → ReadsFrom IsWordList text from r → ReadsFrom IsWordList text from (with_front [] r)
    same (Ok r) h = h
    same (Err e) h = h

-- a word that was not read
pub unread_word : (text : Text) (from place : ℕ) (acc : List Text) (e : ReplyError) → GoesOnWith text from place acc → ReadsFrom (IsEndedWord (0x20 ∷ 0x0A ∷ [])) text place (Err e) → ReadsFrom IsWordList text from (Err e)
unread_word text from place acc e g h =
    g.then (Err e) (ReadsFrom-same (Then IsWord AfterWord) IsWordList to_list from_list text place (Err e) (reads_first IsWord AfterWord text place e h follows))

-- the last word
pub last_word_read : (text : Text) (from place next : ℕ) (acc words : List Text) (w : Text) → GoesOnWith text from place acc → IsRead (IsEndedWord (0x20 ∷ 0x0A ∷ [])) text place (w, 0x0A) next → words ≡ acc ++ w ∷ [] → IsRead IsWordList text from words next
last_word_read text from place next acc words w g h is =
    let nothing : IsRead (AfterWord (w, 0x0A)) text next (w ∷ []) next =
    record { forward = omega arith; within = h.within; front = record { spelled = []; split = refl; spells = ends refl refl refl } } in
    let list = ReadsFrom-same (Then IsWord AfterWord) IsWordList to_list from_list text place (Ok (w ∷ [], next)) (reads_then IsWord AfterWord IsCode-any_word text place next (w, 0x0A) h (Ok (w ∷ [], next)) nothing) in
    subst (λ ws. IsRead IsWordList text from ws next) (sym is) (g.then (Ok (w ∷ [], next)) list)

-- one word more
pub GoesOnWith-more : (text : Text) (from place next : ℕ) (acc words : List Text) (w : Text) → GoesOnWith text from place acc → IsRead (IsEndedWord (0x20 ∷ 0x0A ∷ [])) text place (w, 0x20) next → words ≡ acc ++ w ∷ [] → GoesOnWith text from next words
GoesOnWith-more text from place next acc words w g h is = subst (GoesOnWith text from next) (sym is) (record {
  inside = h.within;
  forward = omega (arith, g.forward, h.forward);
  then = then;
})
  where
    after : (r : Result (List Text × ℕ) ReplyError) → ReadsFrom IsWordList text next r → ReadsFrom (AfterWord (w, 0x20)) text next (with_front (w ∷ []) r)
    after (Ok r) h = record { forward = h.forward; within = h.within; front = record { spelled = h.front.spelled; split = h.front.split; spells = goes r.0 refl h.front.spells refl } }
    after (Err (BadReply p)) h = record {
      forward = h.forward;
      none = record {
        within = h.none.within;
        begins = record { more = h.none.begins.more; value = w ∷ h.none.begins.value; spells = goes h.none.begins.value refl h.none.begins.spells refl };
        none = λ s rest ws split a. none s rest ws split a;
        longest = λ k more short b. longest k more short b.more b.value b.spells;
      };
    }
      where
        none : (s rest : Text) (ws : List Text) → drop next text ≡ s ++ rest → AfterWord (w, 0x20) s ws → ⊥
        none s rest ws split (ends e u v) = absurd (omega (arith, e))
        none s rest ws split (goes others e list v) = h.none.none s rest others split list

        longest : (k : ℕ) → p - next < k → k ≤ length (drop next text) → (x : Text) (ws : List Text) → AfterWord (w, 0x20) (take k (drop next text) ++ x) ws → ⊥
        longest k more short x ws (ends e u v) = absurd (omega (arith, e))
        longest k more short x ws (goes others e list v) = h.none.longest k more short (record { more = x; value = others; spells = list })
    after (Err Memory) h = tt

    joined : (r : Result (List Text × ℕ) ReplyError) → with_front acc (with_front (w ∷ []) r) ≡ with_front (acc ++ w ∷ []) r
    joined (Ok r) = ap (λ ws. Ok (ws, r.1)) (sym (append_assoc acc (w ∷ []) r.0))
    joined (Err e) = refl

    then : (r : Result (List Text × ℕ) ReplyError) → ReadsFrom IsWordList text next r → ReadsFrom IsWordList text from (with_front (acc ++ w ∷ []) r)
    then r list =
        let read = ReadsFrom-same (Then IsWord AfterWord) IsWordList to_list from_list text place (with_front (w ∷ []) r) (reads_then IsWord AfterWord IsCode-any_word text place next (w, 0x20) h (with_front (w ∷ []) r) (after r list)) in
        subst (ReadsFrom IsWordList text from) (joined r) (g.then (with_front (w ∷ []) r) read)

-- a word takes some bytes
pub word_forward : (text : Text) (place next : ℕ) (r : Text × ℕ) → IsRead (IsEndedWord (0x20 ∷ 0x0A ∷ [])) text place r next → place < next
word_forward text place next r h =
    omega (arith, h.forward, h.within, ap length h.front.split, length-append h.front.spelled (drop next text), length-drop place text, length-drop next text, ap length h.front.spells.is, length-append (quoted_word r.0) (r.1 ∷ []))

-- what does not end with a newline ends with a space
pub only_space : (text : Text) (place next : ℕ) (r : Text × ℕ) → IsRead (IsEndedWord (0x20 ∷ 0x0A ∷ [])) text place r next → r.1 ≢ 0x0A → r.1 ≡ 0x20
only_space text place next r h none = by (either_end r.1 h.front.spells.ends_is)
  where
    by : (r.1 ≡ 0x0A) ⊎ (r.1 ≡ 0x20) → r.1 ≡ 0x20
    by (inl e) = absurd (none e)
    by (inr e) = e

-- no list of words begins another one
only_list : (s t u v : Text) (a b : List Text) → s ++ u ≡ t ++ v → IsWordList s a → IsWordList t b → (s ≡ t) × (a ≡ b)
only_list s t u v a b e (last_word {w = w} p) (last_word {w = x} q) =
    let same = IsCode-any_word.only s t u v (w, 0x0A) (x, 0x0A) e (same_ends s w 0x0A (0x0A ∷ []) (0x20 ∷ 0x0A ∷ []) refl p) (same_ends t x 0x0A (0x0A ∷ []) (0x20 ∷ 0x0A ∷ []) refl q) in
    (same.0, ap (λ r. r.0 ∷ []) same.1)
only_list s t u v a b e (last_word {w = w} p) (more_words {first = f} {rest = rest} {w = x} split q more) =
    let same = IsCode-any_word.only s f u (rest ++ v) (w, 0x0A) (x, 0x20) (e ∙ ap (λ y. y ++ v) split ∙ append_assoc f rest v) (same_ends s w 0x0A (0x0A ∷ []) (0x20 ∷ 0x0A ∷ []) refl p) (same_ends f x 0x20 (0x20 ∷ []) (0x20 ∷ 0x0A ∷ []) refl q) in
    let ends : ◌≡◌ {A = ℕ} 0x0A 0x20 = ap (λ r. r.1) same.1 in
    absurd (omega (arith, ends))
only_list s t u v a b e (more_words {first = f} {rest = rest} {w = w} split p more) (last_word {w = x} q) =
    let same = IsCode-any_word.only f t (rest ++ u) v (w, 0x20) (x, 0x0A) (sym (append_assoc f rest u) ∙ ap (λ y. y ++ u) (sym split) ∙ e) (same_ends f w 0x20 (0x20 ∷ []) (0x20 ∷ 0x0A ∷ []) refl p) (same_ends t x 0x0A (0x0A ∷ []) (0x20 ∷ 0x0A ∷ []) refl q) in
    let ends : ◌≡◌ {A = ℕ} 0x20 0x0A = ap (λ r. r.1) same.1 in
    absurd (omega (arith, ends))
only_list s t u v a b e (more_words {first = f} {rest = rest} {w = w} {ws = ws} split p more) (more_words {first = g} {rest = last} {w = x} {ws = xs} cut q others) =
    let whole : f ++ (rest ++ u) ≡ g ++ (last ++ v) = sym (append_assoc f rest u) ∙ ap (λ y. y ++ u) (sym split) ∙ e ∙ ap (λ y. y ++ v) cut ∙ append_assoc g last v in
    let same = IsCode-any_word.only f g (rest ++ u) (last ++ v) (w, 0x20) (x, 0x20) whole (same_ends f w 0x20 (0x20 ∷ []) (0x20 ∷ 0x0A ∷ []) refl p) (same_ends g x 0x20 (0x20 ∷ []) (0x20 ∷ 0x0A ∷ []) refl q) in
    let behind : rest ++ u ≡ last ++ v = append_cancel_left g (rest ++ u) (last ++ v) (ap (λ y. y ++ (rest ++ u)) (sym same.0) ∙ whole) in
    let then = only_list rest last u v ws xs behind more others in
    (split ∙ (λ i. same.0 i ++ then.0 i) ∙ sym cut, (λ i. (same.1 i).0 ∷ then.1 i))

pub IsCode-list : IsCode IsWordList
IsCode-list = record { only = only_list }
