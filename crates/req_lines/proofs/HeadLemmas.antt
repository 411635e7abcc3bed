-- What the line of a request tells, and that what is held of a line tells the same.
use Rattle.std.proofs.Common.{◌≡◌, ℕ, ◌+◌, ◌<◌, ◌≤◌, Bool, true, false, List, [], length, take, arith, refl, sym, subst, ap, ◌∙◌, inl, inr}
use Rattle.std.specs.Prelude.{nat_le, Option, Some, None, Result, Ok, Err, IfSome, IfNone, IfOk, unwrap_or}
use Rattle.std.proofs.lemmas.Bool.{cases_lt}
use Rattle.std.proofs.lemmas.Bool.Decides.{nat_tests}
use Rattle.std.proofs.lemmas.List.{take_all, length-take-le}
use Rattle.grid_model.specs.Names.{Text}
use Rattle.grid_model.specs.Lines.{is_request}
use Rattle.grid_model.specs.Places.{IsRefusedAt}
use Rattle.grid_model.specs.Words.{SpellsLine}
use Rattle.grid_model.specs.Inputs.{HasBody, a_body, no_body, PromisesBody}
use Rattle.grid_model.specs.declared.requests.Request.{Request}
use Rattle.grid_model.specs.declared.refusal.Refusal.{Refusal}
use Rattle.grid_model.specs.declared.refusal.Refusal.TheVariants as refusal
use Rattle.cmd_read.specs.Reading.{Reads}
use Rattle.cmd_read.specs.Orders.{promised}
use Rattle.req_lines.specs.Hearing.{IsReadAs, a_request, cut_short, wrong_words, no_words, too_long, KeepsLine}
use Rattle.req_lines.specs.Heads.{AreRead, IsHead, asked_with}
use Rattle.req_lines.specs.declared.head.Head.{Head}
use Rattle.req_lines.proofs.PromiseLemmas.{promise_is}

pub not_long : (n : ℕ) → ¬ (4096 < n) → n ≤ 4096
not_long n never = elim (cases_lt 4096 n) [ inl lt ↦ absurd (never lt) | inr le ↦ omega (arith, le) ]

-- ---- what a line with a body is read as

abbrev whole_or_cut : Request → ℕ → Text → Bool → Result Request Refusal
whole_or_cut request count body b = elim b [ true ↦ Ok request | false ↦ Err (refusal.Truncated (length body) count) ]

with_body : (line : Text) (words : List Text) (request : Request) (body : Text) → length line ≤ 4096 → SpellsLine line words → Reads words (Ok request)
    → IsReadAs line body (whole_or_cut request (promised request.verb) body (nat_le (promised request.verb) (length body)))
with_body line words request body short spells reads = by (nat_le (promised request.verb) (length body)) refl
  where
    by : (b : Bool) → nat_le (promised request.verb) (length body) ≡ b → IsReadAs line body (whole_or_cut request (promised request.verb) body b)
    by true e = a_request request short spells reads (grind (arith, nat_tests, e))
    by false e = cut_short request short spells reads (grind (arith, nat_tests, e))

read_so : (line : Text) (words : List Text) (asked : Result Request Refusal) (count : ℕ) → length line ≤ 4096 → SpellsLine line words → AreRead words asked
    → IfOk asked (λ request. promised request.verb ≡ count) → (body : Text) → IsReadAs line body (asked_with asked count body)
read_so line words (Ok request) count short spells reads is body =
    let P : ℕ → Type 0 = λ n. IsReadAs line body (asked_with (Ok request) n body) in
    subst P is (with_body line words request body short spells reads)
read_so line words (Err r) count short spells reads is body = wrong_words reads.0 short spells reads.1 reads.2

-- the words of a line are its only ones
words_once : (line : Text) (words : List Text) → ((others : List Text) → SpellsLine line others → others ≡ words) → ((n : ℕ) → ¬ PromisesBody words n)
    → (others : List Text) (n : ℕ) → length line ≤ 4096 → SpellsLine line others → ¬ PromisesBody others n
words_once line words only none others n le spells promises = let P : List Text → Type 0 = λ ws. PromisesBody ws n in none n (subst P (only others spells) promises)

body_of : (line : Text) (words : List Text) (o : Option ℕ) → length line ≤ 4096 → SpellsLine line words → ((others : List Text) → SpellsLine line others → others ≡ words)
    → IfSome o (λ n. PromisesBody words n) → IfNone o ((n : ℕ) → ¬ PromisesBody words n) → HasBody line (unwrap_or o 0)
body_of line words (Some n) short spells only some never = a_body short spells some
body_of line words None short spells only some never = no_body (words_once line words only never)

promise_of : (words : List Text) (asked : Result Request Refusal) (o : Option ℕ) → AreRead words asked → IfSome o (λ n. PromisesBody words n)
    → IfNone o ((n : ℕ) → ¬ PromisesBody words n) → IfOk asked (λ request. promised request.verb ≡ unwrap_or o 0)
promise_of words (Ok request) o reads some never = promise_is words request o reads some never
promise_of words (Err r) o reads some never = tt

-- a line of words
pub head_of : (line : Text) (words : List Text) (asked : Result Request Refusal) (o : Option ℕ) (count : ℕ) (kept : Text) → length line ≤ 4096 → SpellsLine line words
    → ((others : List Text) → SpellsLine line others → others ≡ words) → AreRead words asked → IfSome o (λ n. PromisesBody words n)
    → IfNone o ((n : ℕ) → ¬ PromisesBody words n) → count ≡ unwrap_or o 0 → KeepsLine asked kept line → IsHead line (record { asked = asked; count = count; line = kept })
head_of line words asked o count kept short spells only reads some never is keeps =
    let P : ℕ → Type 0 = λ n. IsHead line (record { asked = asked; count = n; line = kept }) in
    let promise = promise_of words asked o reads some never in
    subst P (sym is) (record {
      reads = read_so line words asked (unwrap_or o 0) short spells reads promise;
      has = body_of line words o short spells only some never;
      promises = promise;
      keeps = keeps;
    })

-- a line that is refused before its words are read
refused_so : (line : Text) (head : Head) (r : Refusal) → head.asked ≡ Err r → head.count ≡ 0 → head.line ≡ [] → ((body : Text) → IsReadAs line body (Err r)) → ((words : List Text) → length line ≤ 4096 → ¬ SpellsLine line words) → IsHead line head
refused_so line head r asked count none reads never =
    let P : ℕ → Type 0 = λ n. HasBody line n in
    let Q : Result Request Refusal → Type 0 = λ a. (body : Text) → IsReadAs line body (asked_with a head.count body) in
    let R : Result Request Refusal → Type 0 = λ a. IfOk a (λ request. promised request.verb ≡ head.count) in
    let K : Result Request Refusal → Type 0 = λ a. KeepsLine a head.line line in
    record {
      reads = subst Q (sym asked) reads;
      has = subst P (sym count) (no_body (λ words n le spells. absurd (never words le spells)));
      promises = subst R (sym asked) tt;
      keeps = subst K (sym asked) none;
    }

pub head_long : (line : Text) (head : Head) → head.asked ≡ Err refusal.TooLong → head.count ≡ 0 → head.line ≡ [] → 4096 < length line → IsHead line head
head_long line head asked count none long = refused_so line head refusal.TooLong asked count none (λ body. too_long long) (λ words le spells. omega (arith, le, long))

pub head_spoilt : (line : Text) (head : Head) (place : ℕ) → head.asked ≡ Err (refusal.Syntax place) → head.count ≡ 0 → head.line ≡ [] → length line ≤ 4096 → IsRefusedAt SpellsLine line place → IsHead line head
head_spoilt line head place asked count none short refused =
    refused_so line head (refusal.Syntax place) asked count none (λ body. no_words short refused) (λ words le spells. refused.spells_nothing words spells)

-- ---- what is held of a line

long_request : (line : Text) → 4096 < length line → is_request line ≡ true
long_request line long = grind (arith, nat_tests, long)

pub held_request : (held line : Text) → held ≡ take 4097 line → is_request held ≡ is_request line
held_request held line e = elim (cases_lt 4096 (length line)) [
  | inl long ↦ long_request held (omega (arith, ap length e, length-take-le 4097 line (omega (arith, long)))) ∙ sym (long_request line long)
  | inr short ↦ ap is_request (e ∙ take_all 4097 line (omega arith))
]

pub read_held : (line body : Text) (asked : Result Request Refusal) → IsReadAs (take 4097 line) body asked → IsReadAs line body asked
read_held line body asked is = elim (cases_lt 4096 (length line)) [
  | inl long ↦ by asked is long (length-take-le 4097 line (omega (arith, long)))
  | inr short ↦ let P : Text → Type 0 = λ t. IsReadAs t body asked in subst P (take_all 4097 line (omega arith)) is
]
  where
    by : (a : Result Request Refusal) → IsReadAs (take 4097 line) body a → 4096 + 1 ≤ length line → length (take 4097 line) ≡ 4097 → IsReadAs line body a
    by a (a_request request le spells reads all) long size = absurd (omega (arith, le, size))
    by a (cut_short request le spells reads short) long size = absurd (omega (arith, le, size))
    by a (wrong_words why le spells reads is) long size = absurd (omega (arith, le, size))
    by a (no_words le refused) long size = absurd (omega (arith, le, size))
    by a (too_long lt) long size = too_long (omega (arith, long))

-- it is all of the line where that is read as a request
pub keeps_held : (line body kept : Text) (asked : Result Request Refusal) → IsReadAs (take 4097 line) body asked → KeepsLine asked kept (take 4097 line) → KeepsLine asked kept line
keeps_held line body kept asked is keeps = elim (cases_lt 4096 (length line)) [
  | inl long ↦ by asked is keeps (length-take-le 4097 line (omega (arith, long)))
  | inr short ↦ let P : Text → Type 0 = λ t. KeepsLine asked kept t in subst P (take_all 4097 line (omega arith)) keeps
]
  where
    by : (a : Result Request Refusal) → IsReadAs (take 4097 line) body a → KeepsLine a kept (take 4097 line) → length (take 4097 line) ≡ 4097 → KeepsLine a kept line
    by (Ok q) (a_request request le spells reads all) keeps size = absurd (omega (arith, le, size))
    by (Err r) read keeps size = keeps

pub body_held : (line : Text) (count : ℕ) → HasBody (take 4097 line) count → HasBody line count
body_held line count has = elim (cases_lt 4096 (length line)) [
  | inl long ↦ by count has long (length-take-le 4097 line (omega (arith, long)))
  | inr short ↦ let P : Text → Type 0 = λ t. HasBody t count in subst P (take_all 4097 line (omega arith)) has
]
  where
    by : (n : ℕ) → HasBody (take 4097 line) n → 4096 + 1 ≤ length line → length (take 4097 line) ≡ 4097 → HasBody line n
    by n (a_body le spells promises) long size = absurd (omega (arith, le, size))
    by n (no_body never) long size = no_body (λ words many le. absurd (omega (arith, long, le)))

-- and back
pub body_of_held : (line : Text) (count : ℕ) → HasBody line count → HasBody (take 4097 line) count
body_of_held line count has = elim (cases_lt 4096 (length line)) [
  | inl long ↦ by count has long (length-take-le 4097 line (omega (arith, long)))
  | inr short ↦ let P : Text → Type 0 = λ t. HasBody t count in subst P (sym (take_all 4097 line (omega arith))) has
]
  where
    by : (n : ℕ) → HasBody line n → 4096 + 1 ≤ length line → length (take 4097 line) ≡ 4097 → HasBody (take 4097 line) n
    by n (a_body le spells promises) long size = absurd (omega (arith, le, long))
    by n (no_body never) long size = no_body (λ words many le. absurd (omega (arith, size, le)))
