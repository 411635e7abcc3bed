-- The lines of a reply as texts: the number and a space, the name of the kind, and the rest.
use Rattle.std.proofs.Common.{◌≡◌, ℕ, ◌<◌, Bool, true, false, List, [], ◌∷◌, ◌++◌, length, map, refl, sym, ap, ◌∙◌, arith, append_assoc}
use Rattle.std.specs.Prelude.{◌&&◌, codes, decimal}
use Rattle.std.specs.List.{list_all}
use Rattle.std.proofs.lemmas.Bool.{and_parts, and_from, false≢true}
use Rattle.std.proofs.lemmas.List.Folds.{list_all-append}
use Rattle.grid_model.specs.Names.{Text}
use Rattle.grid_model.specs.DataLines.{data_line}
use Rattle.grid_model.specs.Printing.{spaced, line, print_failure, print_refusal}
use Rattle.grid_model.specs.Replies.{mark_line, mark_words, passed_line, row_line, end_line, end_words}
use Rattle.grid_model.specs.ReplySpelling.{FitsEnd}
use Rattle.grid_model.specs.Words.{quoted_word}
use Rattle.grid_model.specs.Writable.{is_word, is_writable_end, is_writable_passed}
use Rattle.grid_model.specs.declared.marks.Mark.{Mark}
use Rattle.grid_model.specs.declared.marks.Mark.TheVariants as mark
use Rattle.grid_model.specs.declared.replies.End.{End}
use Rattle.grid_model.specs.declared.replies.End.TheVariants as end
use Rattle.grid_model.specs.declared.replies.Passed.{Passed}
use Rattle.reply_fields.specs.Spelled.{is_among_bytes}
use Rattle.reply_fields.specs.WordLists.{IsWordList, last_word, more_words}
use Rattle.reply_reader.specs.Ends.{IsErrorEnd}
use Rattle.reply_reader.specs.Lines.{IsReplyLine, IsRest, kind_name, may_come}
use Rattle.reply_reader.specs.WordFields.{IsPassed, IsWords, no_words, some_words}
use Rattle.reply_reader.specs.declared.lines.Kind.{Kind}
use Rattle.reply_reader.specs.declared.lines.Line.{Line}
use Rattle.reply_reader.specs.declared.lines.Phase.{Phase}
use Rattle.reply_reader.proofs.FieldReading.{name_is, one_name, only_end}
use Rattle.reply_reader.proofs.WordFieldReading.{list_some}

abbrev pub start : ℕ → Text
start n = decimal n ++ 0x20 ∷ []

-- ---- the parts of a line

pub record Cut (n : ℕ) (p : Phase) (s : Text) (l : Line) : Type 0 where
  pub kind : Kind
  pub rest : Text
  pub comes : may_come p kind ≡ true
  pub is : s ≡ start n ++ (kind_name kind ++ rest)
  pub spells : IsRest kind rest l

pub cut_line : (n : ℕ) (p : Phase) (s : Text) (l : Line) → IsReplyLine (start n) p s l → Cut n p s l
cut_line n p s l t =
    let k = t.spells_second in
    record {
      kind = k.begun;
      rest = k.second;
      comes = k.spells_first.comes;
      is = t.split ∙ (λ i. name_is (start n) t.first t.begun t.spells_first i ++ k.split i) ∙ ap (λ x. start n ++ (x ++ k.second)) k.spells_first.is;
      spells = k.spells_second;
    }

pub made_line : (n : ℕ) (p : Phase) (k : Kind) (s rest : Text) (l : Line) → may_come p k ≡ true → s ≡ start n ++ (kind_name k ++ rest) → IsRest k rest l → IsReplyLine (start n) p s l
made_line n p k s rest l comes is spells = record {
  first = start n;
  second = kind_name k ++ rest;
  begun = 0;
  split = is;
  spells_first = one_name (start n);
  spells_second = record { first = kind_name k; second = rest; begun = k; split = refl; spells_first = record { comes = comes; is = refl }; spells_second = spells };
}

-- ---- lines as they are written

line_text : (n : ℕ) (w : Text) (ws : List Text) → line n (w ∷ ws) ≡ start n ++ (spaced (w ∷ ws) ++ 0x0A ∷ [])
line_text n w ws = simp append_assoc

pub data_text : (n : ℕ) (bytes : Text) → data_line n bytes ≡ start n ++ (codes "data " ++ ((decimal (length bytes) ++ 0x0A ∷ bytes) ++ 0x0A ∷ []))
data_text n bytes = simp append_assoc

mark_spaced : (m : Mark) → spaced (codes "mark" ∷ mark_words m) ≡ codes "mark " ++ spaced (mark_words m)
mark_spaced (mark.Ran word now bad) = refl
mark_spaced (mark.Fault slot sent) = refl
mark_spaced (mark.Bad slot len found sent) = refl
mark_spaced mark.Stop = refl

pub mark_text : (n : ℕ) (m : Mark) → mark_line n m ≡ start n ++ (codes "mark " ++ (spaced (mark_words m) ++ 0x0A ∷ []))
mark_text n m = line_text n (codes "mark") (mark_words m) ∙ ap (λ t. start n ++ (t ++ 0x0A ∷ [])) (mark_spaced m)

-- ---- words

spaced_more : (w : Text) (ws : List Text) → 0 < length ws → spaced (w ∷ map quoted_word ws) ≡ w ++ 0x20 ∷ spaced (map quoted_word ws)
spaced_more w [] some = absurd (omega (arith, some))
spaced_more w (v ∷ ws) some = refl

pub list_words : (s : Text) (ws : List Text) → IsWordList s ws → list_all is_word ws ≡ true
list_words s ws (last_word {w = w} p) = and_from (is_word w) true p.word_is refl
list_words s ws (more_words {rest = rest} {w = w} {ws = others} split p more) = and_from (is_word w) (list_all is_word others) p.word_is (list_words rest others more)

pub list_text : (s : Text) (ws : List Text) → IsWordList s ws → s ≡ spaced (map quoted_word ws) ++ 0x0A ∷ []
list_text s ws (last_word {w = w} p) = p.is
list_text s ws (more_words {first = first} {rest = rest} {w = w} {ws = others} split p more) =
    split ∙ (λ i. p.is i ++ list_text rest others more i)
    ∙ regroup (quoted_word w) (spaced (map quoted_word others))
    ∙ ap (λ t. t ++ 0x0A ∷ []) (sym (spaced_more (quoted_word w) others (list_some rest others more)))
  where
    regroup : (a b : Text) → (a ++ 0x20 ∷ []) ++ (b ++ 0x0A ∷ []) ≡ (a ++ 0x20 ∷ b) ++ 0x0A ∷ []
    regroup a b = simp append_assoc

pub list_from : (w : Text) (ws : List Text) → list_all is_word (w ∷ ws) ≡ true → IsWordList (spaced (map quoted_word (w ∷ ws)) ++ 0x0A ∷ []) (w ∷ ws)
list_from w [] h = last_word (record { word_is = (and_parts (is_word w) true h).0; ends_is = refl; is = refl })
list_from w (v ∷ ws) h =
    let both = and_parts (is_word w) (list_all is_word (v ∷ ws)) h in
    more_words (split (quoted_word w) (spaced (map quoted_word (v ∷ ws)))) (record { word_is = both.0; ends_is = refl; is = refl }) (list_from v ws both.1)
  where
    split : (a b : Text) → (a ++ 0x20 ∷ b) ++ 0x0A ∷ [] ≡ (a ++ 0x20 ∷ []) ++ (b ++ 0x0A ∷ [])
    split a b = simp append_assoc

-- behind a name
pub words_all : (s : Text) (ws : List Text) → IsWords s ws → list_all is_word ws ≡ true
words_all s ws (no_words is) = refl
words_all s ws (some_words {rest = rest} is list) = list_words rest ws list

named_text : (name s : Text) (ws : List Text) → IsWords s ws → spaced (name ∷ map quoted_word ws) ++ 0x0A ∷ [] ≡ name ++ s
named_text name s ws (no_words is) = ap (λ t. name ++ t) (sym is)
named_text name s ws (some_words {rest = rest} is list) =
    ap (λ t. t ++ 0x0A ∷ []) (spaced_more name ws (list_some rest ws list)) ∙ append_assoc name (0x20 ∷ spaced (map quoted_word ws)) (0x0A ∷ [])
    ∙ ap (λ t. name ++ 0x20 ∷ t) (sym (list_text rest ws list)) ∙ ap (λ t. name ++ t) (sym is)

-- what stands behind the name of a row
abbrev pub behind_name : List Text → Text
behind_name [] = 0x0A ∷ []
behind_name (w ∷ ws) = 0x20 ∷ spaced (map quoted_word (w ∷ ws)) ++ 0x0A ∷ []

pub words_from : (ws : List Text) → list_all is_word ws ≡ true → IsWords (behind_name ws) ws
words_from [] h = no_words refl
words_from (w ∷ ws) h = some_words refl (list_from w ws h)

pub row_text : (n : ℕ) (s : Text) (ws : List Text) → IsWords s ws → row_line n ws ≡ start n ++ (codes "row" ++ s)
row_text n s ws p = line_text n (codes "row") (map quoted_word ws) ∙ ap (λ t. start n ++ t) (named_text (codes "row") s ws p)

pub done_text : (n : ℕ) (s : Text) (ws : List Text) → IsWords s ws → end_line n (end.Done ws) ≡ start n ++ (codes "ok" ++ s)
done_text n s ws p = line_text n (codes "ok") (map quoted_word ws) ∙ ap (λ t. start n ++ t) (named_text (codes "ok") s ws p)

-- ---- recoveries

some_last : (ws : List Text) (w : Text) → 0 < length (ws ++ w ∷ [])
some_last [] w = omega arith
some_last (v ∷ ws) w = omega arith

recovery_text : (name : Text) (ws : List Text) → 0 < length ws → spaced (codes "passed" ∷ quoted_word name ∷ map quoted_word ws) ++ 0x0A ∷ [] ≡ codes "passed " ++ ((quoted_word name ++ 0x20 ∷ []) ++ (spaced (map quoted_word ws) ++ 0x0A ∷ []))
recovery_text name ws some =
    ap (λ t. codes "passed " ++ (t ++ 0x0A ∷ [])) (spaced_more (quoted_word name) ws some) ∙ ap (λ t. codes "passed " ++ t) (regroup (quoted_word name) (spaced (map quoted_word ws)))
  where
    regroup : (a b : Text) → (a ++ 0x20 ∷ b) ++ 0x0A ∷ [] ≡ (a ++ 0x20 ∷ []) ++ (b ++ 0x0A ∷ [])
    regroup a b = simp append_assoc

pub passed_text : (n : ℕ) (s : Text) (p : Passed) → IsPassed s p → passed_line n p ≡ start n ++ (codes "passed " ++ s)
passed_text n s p t =
    let ws = p.call.args ++ p.failure ∷ [] in
    line_text n (codes "passed") (map quoted_word (p.call.name ∷ ws))
    ∙ ap (λ x. start n ++ x) (recovery_text p.call.name ws (some_last p.call.args p.failure))
    ∙ (λ i. start n ++ (codes "passed " ++ ((quoted_word (t.spells_second.name_is i) ++ 0x20 ∷ []) ++ sym (list_text t.second ws t.spells_second.words) i)))
    ∙ ap (λ x. start n ++ (codes "passed " ++ ((quoted_word t.begun.0 ++ x ∷ []) ++ t.second))) (space t.begun.1 t.spells_first.ends_is)
    ∙ ap (λ x. start n ++ (codes "passed " ++ (x ++ t.second))) (sym t.spells_first.is)
    ∙ ap (λ x. start n ++ (codes "passed " ++ x)) (sym t.split)
  where
    space : (b : ℕ) → is_among_bytes (0x20 ∷ []) b ≡ true → 0x20 ≡ b
    space b h = sym (only_end 0x20 b h)

pub passed_writable : (s : Text) (p : Passed) → IsPassed s p → is_writable_passed p ≡ true
passed_writable s p t =
    let words = list_words t.second (p.call.args ++ p.failure ∷ []) t.spells_second.words in
    let both = and_parts (list_all is_word p.call.args) (list_all is_word (p.failure ∷ [])) (sym (list_all-append is_word p.call.args (p.failure ∷ [])) ∙ words) in
    and_from (is_word p.call.name && list_all is_word p.call.args) (is_word p.failure)
    (and_from (is_word p.call.name) (list_all is_word p.call.args) (ap is_word t.spells_second.name_is ∙ t.spells_first.word_is) both.0)
    (and_parts (is_word p.failure) true both.1).0

abbrev pub behind_passed : Passed → Text
behind_passed p = (quoted_word p.call.name ++ 0x20 ∷ []) ++ (spaced (map quoted_word (p.call.args ++ p.failure ∷ [])) ++ 0x0A ∷ [])

pub passed_from : (p : Passed) → is_writable_passed p ≡ true → IsPassed (behind_passed p) p
passed_from p h =
    let last = and_parts (is_word p.call.name && list_all is_word p.call.args) (is_word p.failure) h in
    let front = and_parts (is_word p.call.name) (list_all is_word p.call.args) last.0 in
    let all = list_all-append is_word p.call.args (p.failure ∷ []) ∙ and_from (list_all is_word p.call.args) (list_all is_word (p.failure ∷ [])) front.1 (and_from (is_word p.failure) true last.1 refl) in
    record {
      first = quoted_word p.call.name ++ 0x20 ∷ [];
      second = spaced (map quoted_word (p.call.args ++ p.failure ∷ [])) ++ 0x0A ∷ [];
      begun = (p.call.name, 0x20);
      split = refl;
      spells_first = record { word_is = front.0; ends_is = refl; is = refl };
      spells_second = record { name_is = refl; words = listed p.call.args p.failure all };
    }
  where
    listed : (ws : List Text) (w : Text) → list_all is_word (ws ++ w ∷ []) ≡ true → IsWordList (spaced (map quoted_word (ws ++ w ∷ [])) ++ 0x0A ∷ []) (ws ++ w ∷ [])
    listed [] w a = list_from w [] a
    listed (v ∷ ws) w a = list_from v (ws ++ w ∷ []) a

-- ---- ends

pub err_writable : (s : Text) (e : End) → IsErrorEnd s e → is_writable_end e ≡ true
err_writable s (end.Done ws) p = absurd p
err_writable s (end.Refused r) p = refl
err_writable s (end.PreFailed f) p = refl
err_writable s (end.PostFailed f) p = refl
err_writable s (end.Failed f) p = p.0
err_writable s end.Stopped p = refl

pub err_fits : (s : Text) (e : End) → IsErrorEnd s e → FitsEnd e
err_fits s (end.Done ws) p = absurd p
err_fits s (end.Refused r) p = p.fits
err_fits s (end.PreFailed f) p = p.spells.fits
err_fits s (end.PostFailed f) p = p.spells.fits
err_fits s (end.Failed f) p = p.1.fits
err_fits s end.Stopped p = tt

err_words : (s : Text) (e : End) → IsErrorEnd s e → spaced (end_words e) ++ 0x0A ∷ [] ≡ codes "err " ++ s
err_words s (end.Done ws) p = absurd p
err_words s (end.Refused r) p = ap (λ t. codes "err " ++ t) (sym p.is)
err_words s (end.PreFailed f) p = ap (λ t. codes "err PreFailed " ++ t) (sym p.spells.is) ∙ ap (λ t. codes "err " ++ t) (sym p.split)
err_words s (end.PostFailed f) p = ap (λ t. codes "err PostFailed " ++ t) (sym p.spells.is) ∙ ap (λ t. codes "err " ++ t) (sym p.split)
err_words s (end.Failed f) p = ap (λ t. codes "err " ++ t) (sym p.1.is)
err_words s end.Stopped p = ap (λ t. codes "err " ++ t) (sym p.is)

end_line_text : (n : ℕ) (e : End) → end_line n e ≡ start n ++ (spaced (end_words e) ++ 0x0A ∷ [])
end_line_text n (end.Done ws) = line_text n (codes "ok") (map quoted_word ws)
end_line_text n (end.Refused r) = line_text n (codes "err") (print_refusal r ∷ [])
end_line_text n (end.PreFailed f) = line_text n (codes "err") (codes "PreFailed" ∷ print_failure f ∷ [])
end_line_text n (end.PostFailed f) = line_text n (codes "err") (codes "PostFailed" ∷ print_failure f ∷ [])
end_line_text n (end.Failed f) = line_text n (codes "err") (print_failure f ∷ [])
end_line_text n end.Stopped = line_text n (codes "err") (codes "Stopped" ∷ [])

pub err_text : (n : ℕ) (s : Text) (e : End) → IsErrorEnd s e → end_line n e ≡ start n ++ (codes "err " ++ s)
err_text n s e p = end_line_text n e ∙ ap (λ t. start n ++ t) (err_words s e p)

-- what stands behind `err` of an end that is none of words
abbrev pub behind_err : End → Text
behind_err (end.Done ws) = []
behind_err (end.Refused r) = print_refusal r ++ 0x0A ∷ []
behind_err (end.PreFailed f) = codes "PreFailed " ++ (print_failure f ++ 0x0A ∷ [])
behind_err (end.PostFailed f) = codes "PostFailed " ++ (print_failure f ++ 0x0A ∷ [])
behind_err (end.Failed f) = print_failure f ++ 0x0A ∷ []
behind_err end.Stopped = codes "Stopped" ++ 0x0A ∷ []

abbrev pub is_done : End → Bool
is_done (end.Done ws) = true
is_done _ = false

pub err_from : (e : End) → is_done e ≡ false → is_writable_end e ≡ true → FitsEnd e → IsErrorEnd (behind_err e) e
err_from (end.Done ws) none writable fits = absurd (false≢true (sym none))
err_from (end.Refused r) none writable fits = record { fits = fits; is = refl }
err_from (end.PreFailed f) none writable fits = record { rest = print_failure f ++ 0x0A ∷ []; split = refl; spells = record { fits = fits; is = refl } }
err_from (end.PostFailed f) none writable fits = record { rest = print_failure f ++ 0x0A ∷ []; split = refl; spells = record { fits = fits; is = refl } }
err_from (end.Failed f) none writable fits = (writable, record { fits = fits; is = refl })
err_from end.Stopped none writable fits = record { fits = tt; is = refl }
