-- What is noted of a command may be kept, one call after another.
use Rattle.std.proofs.Common.{◌≡◌, ℕ, ◌^◌, Bool, true, List, [], ◌∷◌, ◌++◌, Option, Some, None, IsTrue, length, refl, sym, ap, ◌∙◌, lt-ltb}
use Rattle.std.specs.Prelude.{nat_lt}
use Rattle.std.specs.List.{list_all}
use Rattle.std.proofs.lemmas.Bool.{and_from, and_parts}
use Rattle.std.proofs.lemmas.List.Folds.{list_all-append}
use Rattle.grid_model.specs.Deltas.{all_fit, call as call_parts, each, is_byte, is_shown_byte, mark as mark_parts}
use Rattle.grid_model.specs.Deltas.{passed as passed_parts, pending as pending_parts}
use Rattle.grid_model.specs.Deltas.{code, running_call, text as text_part, u32, u64}
use Rattle.grid_model.specs.Names.{Text}
use Rattle.grid_model.specs.Printing.{print_failure}
use Rattle.grid_model.specs.Words.{is_word_byte}
use Rattle.grid_model.specs.Writable.{is_word}
use Rattle.grid_model.specs.declared.calls.Call.{Call}
use Rattle.grid_model.specs.declared.deltas.Delta.TheVariants as delta
use Rattle.grid_model.specs.declared.deltas.Pending.{Pending}
use Rattle.grid_model.specs.declared.marks.Mark.{Mark}
use Rattle.grid_model.specs.declared.refusal.Failure.{Failure}
use Rattle.grid_journal.specs.Journal.{can_be_kept, sets_no_rules}
use Rattle.service_run.specs.Commands.{noted_in}
use Rattle.service_run.specs.declared.command.Command.{Command}
use Rattle.call_laws.specs.OneCall.{AreKeepable, AreShort, IsKeepable, IsShown, passed_over}

-- ---- tests of lists

pub front_of : {X : Type 0} (f : X → Bool) (xs ys : List X) → list_all f (xs ++ ys) ≡ true → list_all f xs ≡ true
front_of f xs ys all = (and_parts (list_all f xs) (list_all f ys) (sym (list_all-append f xs ys) ∙ all)).0

pub back_of : {X : Type 0} (f : X → Bool) (xs ys : List X) → list_all f (xs ++ ys) ≡ true → list_all f ys ≡ true
back_of f xs ys all = (and_parts (list_all f xs) (list_all f ys) (sym (list_all-append f xs ys) ∙ all)).1

pub joined_of : {X : Type 0} (f : X → Bool) (xs ys : List X) → list_all f xs ≡ true → list_all f ys ≡ true → list_all f (xs ++ ys) ≡ true
joined_of f xs ys one other = list_all-append f xs ys ∙ and_from (list_all f xs) (list_all f ys) one other

-- ---- a call whose texts may be kept has words

words_of : (b : ℕ) → is_shown_byte b ≡ true → is_word_byte b ≡ true
words_of b shown = (and_parts (is_word_byte b) (is_byte b) shown).0

word_of : (t : Text) → list_all is_shown_byte t ≡ true → is_word t ≡ true
word_of [] all = refl
word_of (b ∷ t) all =
    let parts = and_parts (is_shown_byte b) (list_all is_shown_byte t) all in
    and_from (is_word_byte b) (is_word t) (words_of b parts.0) (word_of t parts.1)

args_of : (args : List Text) → list_all (λ t. all_fit (text_part t ∷ [])) args ≡ true → list_all is_word args ≡ true
args_of [] all = refl
args_of (t ∷ args) all =
    let parts = and_parts (all_fit (text_part t ∷ [])) (list_all (λ t. all_fit (text_part t ∷ [])) args) all in
    let fits = (and_parts (text_part t).fits true parts.0).0 in
    and_from (is_word t) (list_all is_word args) (word_of t (and_parts (nat_lt (length t) (2 ^ 64)) (list_all is_shown_byte t) fits).1) (args_of args parts.1)

pub args_words : (c : Call) → IsTrue (all_fit (call_parts c)) → IsTrue (list_all is_word c.args)
args_words c fits =
    let parts = and_parts (text_part c.name).fits (all_fit (each (λ t. text_part t ∷ []) c.args ∷ [])) fits in
    let these = (and_parts (each (λ t. text_part t ∷ []) c.args).fits true parts.1).0 in
    args_of c.args (and_parts (nat_lt (length c.args) (2 ^ 64)) (list_all (λ t. all_fit (text_part t ∷ [])) c.args) these).1

-- ---- what is pending

-- each part of it may be kept
pub record PartsFit (p : Pending) : Type 0 where
  pub run : (u64 p.run).fits ≡ true
  pub number : (u64 p.number).fits ≡ true
  pub user : (u32 p.user).fits ≡ true
  pub line : (text_part p.line).fits ≡ true
  pub marks : (each mark_parts p.marks).fits ≡ true
  pub passed : (each passed_parts p.passed).fits ≡ true
  pub running : (running_call p.running).fits ≡ true
  pub undo : (each call_parts p.undo).fits ≡ true

pub parts_of : (p : Pending) → IsTrue (can_be_kept (delta.Pending p)) → PartsFit p
parts_of p kept =
    let fits = (and_parts (all_fit (code 20 ∷ pending_parts p)) (sets_no_rules (delta.Pending p)) kept).0 in
    let a = and_parts (u64 p.run).fits _ fits in
    let b = and_parts (u64 p.number).fits _ a.1 in
    let c = and_parts (u32 p.user).fits _ b.1 in
    let d = and_parts (text_part p.line).fits _ c.1 in
    let e = and_parts (each mark_parts p.marks).fits _ d.1 in
    let f = and_parts (each passed_parts p.passed).fits _ e.1 in
    let g = and_parts (running_call p.running).fits _ f.1 in
    let h = and_parts (each call_parts p.undo).fits true g.1 in
    record { run = a.0; number = b.0; user = c.0; line = d.0; marks = e.0; passed = f.0; running = g.0; undo = h.0 }

kept_of : (p : Pending) → PartsFit p → IsTrue (can_be_kept (delta.Pending p))
kept_of p x =
    and_from (all_fit (code 20 ∷ pending_parts p)) true
    (and_from (u64 p.run).fits _ x.run
    (and_from (u64 p.number).fits _ x.number
    (and_from (u32 p.user).fits _ x.user
    (and_from (text_part p.line).fits _ x.line
    (and_from (each mark_parts p.marks).fits _ x.marks
    (and_from (each passed_parts p.passed).fits _ x.passed
    (and_from (running_call p.running).fits _ x.running (and_from (each call_parts p.undo).fits true x.undo refl))))))))
    refl

-- what is said of the command that is pending may be kept again
pub words_kept : (p : Pending) (x : Command) → IsTrue (can_be_kept (delta.Pending p)) → x.run ≡ p.run → x.number ≡ p.number → x.user ≡ p.user
    → x.line ≡ p.line → IsKeepable x
words_kept p x kept run number user line =
    let was = parts_of p kept in
    record {
      run = ap (λ (n : ℕ). (u64 n).fits) run ∙ was.run;
      number = ap (λ (n : ℕ). (u64 n).fits) number ∙ was.number;
      user = ap (λ (n : ℕ). (u32 n).fits) user ∙ was.user;
      line = ap (λ (t : Text). (text_part t).fits) line ∙ was.line;
    }

-- ---- one call after another

-- where there is no mark, and no recovery
pub keepable_none : (x : Command) → x.marks ≡ [] → x.passed ≡ [] → AreKeepable x []
keepable_none x marks passed = record {
  marks = ap (list_all (λ m. all_fit (mark_parts m))) marks;
  passed = ap (list_all (λ q. all_fit (passed_parts q))) passed;
  calls = refl;
}

-- behind the call, with these recoveries
pub keepable_next : (x z : Command) (left more : List Call) (c : Call) (marks : List Mark) (fr : Option Failure) → AreKeepable x left
    → IsTrue (list_all (λ d. all_fit (call_parts d)) more) → IsTrue (all_fit (call_parts c))
    → z.marks ≡ x.marks ++ marks → IsTrue (list_all (λ m. all_fit (mark_parts m)) marks) → z.passed ≡ x.passed → IsShown fr
    → AreKeepable (passed_over z c fr) more
keepable_next x z left more c marks fr k calls call marks_are fit same shown = by fr shown
  where
    all_marks : IsTrue (list_all (λ m. all_fit (mark_parts m)) z.marks)
    all_marks = ap (list_all (λ m. all_fit (mark_parts m))) marks_are ∙ joined_of (λ m. all_fit (mark_parts m)) x.marks marks k.marks fit

    all_passed : IsTrue (list_all (λ q. all_fit (passed_parts q)) z.passed)
    all_passed = ap (list_all (λ q. all_fit (passed_parts q))) same ∙ k.passed

    by : (fr : Option Failure) → IsShown fr → AreKeepable (passed_over z c fr) more
    by None shown = record { marks = all_marks; passed = all_passed; calls = calls }
    by (Some f) shown = record {
      marks = all_marks;
      passed = joined_of (λ q. all_fit (passed_parts q)) z.passed (record { call = c; failure = print_failure f } ∷ []) all_passed
          (and_from _ true (and_from (all_fit (call_parts c)) _ call (and_from (text_part (print_failure f)).fits true shown refl)) refl);
      calls = calls;
    }

-- The command may be noted in its next call, where nothing but marks, what was passed over and what is told is other than at its start.
pub noted_kept : (start x : Command) (marks : List Mark) (left : List Call) (c : Call) → IsKeepable start
    → x ≡ record start { marks = marks; passed = x.passed; untold = x.untold }
    → AreKeepable x left → AreShort x left → IsTrue (all_fit (call_parts c)) → IsTrue (can_be_kept (delta.Pending (noted_in x c left)))
noted_kept start x marks left c words is k short fits =
    kept_of (noted_in x c left) (record {
      run = ap (λ (y : Command). (u64 y.run).fits) is ∙ words.run;
      number = ap (λ (y : Command). (u64 y.number).fits) is ∙ words.number;
      user = ap (λ (y : Command). (u32 y.user).fits) is ∙ words.user;
      line = ap (λ (y : Command). (text_part y.line).fits) is ∙ words.line;
      marks = and_from (nat_lt (length x.marks) (2 ^ 64)) _ (lt-ltb (length x.marks) (2 ^ 64) short.marks) k.marks;
      passed = and_from (nat_lt (length x.passed) (2 ^ 64)) _ (lt-ltb (length x.passed) (2 ^ 64) short.passed) k.passed;
      running = fits;
      undo = and_from (nat_lt (length left) (2 ^ 64)) _ (lt-ltb (length left) (2 ^ 64) short.calls) k.calls;
    })
