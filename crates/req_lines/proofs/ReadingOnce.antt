-- A line with its body is read in one way.
use Rattle.std.proofs.Common.{◌≡◌, ℕ, List, length, arith, refl, sym, subst, ap, ◌∙◌}
use Rattle.std.specs.Prelude.{Some, Result, Ok, Err}
use Rattle.grid_model.specs.Names.{Text}
use Rattle.grid_model.specs.Words.{SpellsLine}
use Rattle.grid_model.proofs.Refusals.{IsRefusedAt-unique}
use Rattle.grid_model.specs.declared.requests.Request.{Request}
use Rattle.grid_model.specs.declared.refusal.Refusal.{Refusal}
use Rattle.grid_model.specs.declared.refusal.Refusal.TheVariants as refusal
use Rattle.req_words.proofs.OneReading.{SpellsLine-unique}
use Rattle.cmd_read.specs.Reading.{Reads}
use Rattle.cmd_read.specs.Orders.{promised, refusal_of}
use Rattle.cmd_read.specs.declared.error.ReadError.{ReadError}
use Rattle.cmd_read.proofs.Once.{Reads-once}
use Rattle.req_lines.specs.Hearing.{IsReadAs, a_request, cut_short, wrong_words, no_words, too_long}

-- the words of a line are read in one way
same_reading : (line : Text) (v w : List Text) (a b : Result Request ReadError) → SpellsLine line v → SpellsLine line w → Reads v a → Reads w b → a ≡ b
same_reading line v w a b s t one other = Reads-once v a b one (subst (λ (ws : List Text). Reads ws b) (SpellsLine-unique line w v t s) other)

ok_is : {T E : Type 0} {x y : T} → ◌≡◌ {A = Result T E} (Ok x) (Ok y) → x ≡ y
ok_is e = cc e

err_is : {T E : Type 0} {x y : E} → ◌≡◌ {A = Result T E} (Err x) (Err y) → x ≡ y
err_is e = cc e

some_is : {A : Type 0} {x y : A} → Some x ≡ Some y → x ≡ y
some_is e = cc e

ok_not_err : {T E : Type 0} {x : T} {e : E} → ◌≡◌ {A = Result T E} (Ok x) (Err e) → ⊥
ok_not_err e = cc e

module _ (line body : Text) where
  request_once : (q r : Request) (v w : List Text) → SpellsLine line v → SpellsLine line w → Reads v (Ok q) → Reads w (Ok r) → q ≡ r
  request_once q r v w s t one other = ok_is (same_reading line v w (Ok q) (Ok r) s t one other)

  pub IsReadAs-unique : (a b : Result Request Refusal) → IsReadAs line body a → IsReadAs line body b → a ≡ b
  IsReadAs-unique a b (a_request {words = v} q short s one all) (a_request {words = w} r also t other whole) = ap Ok (request_once q r v w s t one other)
  IsReadAs-unique a b (a_request {words = v} q short s one all) (cut_short {words = w} r also t other few) =
      absurd (omega (arith, all, few, ap (λ (x : Request). promised x.verb) (request_once q r v w s t one other)))
  IsReadAs-unique a b (a_request {words = v} q short s one all) (wrong_words {words = w} why also t other is) = absurd (ok_not_err (same_reading line v w (Ok q) (Err why) s t one other))
  IsReadAs-unique a b (a_request {words = v} q short s one all) (no_words also refused) = absurd (refused.spells_nothing v s)
  IsReadAs-unique a b (a_request q short s one all) (too_long long) = absurd (omega (arith, short, long))
  IsReadAs-unique a b (cut_short {words = v} q short s one few) (a_request {words = w} r also t other all) =
      absurd (omega (arith, all, few, ap (λ (x : Request). promised x.verb) (request_once q r v w s t one other)))
  IsReadAs-unique a b (cut_short {words = v} q short s one few) (cut_short {words = w} r also t other less) =
      ap (λ (n : ℕ). Err (refusal.Truncated (length body) n)) (ap (λ (x : Request). promised x.verb) (request_once q r v w s t one other))
  IsReadAs-unique a b (cut_short {words = v} q short s one few) (wrong_words {words = w} why also t other is) = absurd (ok_not_err (same_reading line v w (Ok q) (Err why) s t one other))
  IsReadAs-unique a b (cut_short {words = v} q short s one few) (no_words also refused) = absurd (refused.spells_nothing v s)
  IsReadAs-unique a b (cut_short q short s one few) (too_long long) = absurd (omega (arith, short, long))
  IsReadAs-unique a b (wrong_words {words = v} why short s one is) (a_request {words = w} r also t other all) = absurd (ok_not_err (sym (same_reading line v w (Err why) (Ok r) s t one other)))
  IsReadAs-unique a b (wrong_words {words = v} why short s one is) (cut_short {words = w} r also t other few) = absurd (ok_not_err (sym (same_reading line v w (Err why) (Ok r) s t one other)))
  IsReadAs-unique a b (wrong_words {words = v} why short s one is) (wrong_words {words = w} reason also t other are) =
      ap Err (some_is (sym is ∙ ap refusal_of (err_is (same_reading line v w (Err why) (Err reason) s t one other)) ∙ are))
  IsReadAs-unique a b (wrong_words {words = v} why short s one is) (no_words also refused) = absurd (refused.spells_nothing v s)
  IsReadAs-unique a b (wrong_words why short s one is) (too_long long) = absurd (omega (arith, short, long))
  IsReadAs-unique a b (no_words short refused) (a_request {words = w} r also t other all) = absurd (refused.spells_nothing w t)
  IsReadAs-unique a b (no_words short refused) (cut_short {words = w} r also t other few) = absurd (refused.spells_nothing w t)
  IsReadAs-unique a b (no_words short refused) (wrong_words {words = w} why also t other is) = absurd (refused.spells_nothing w t)
  IsReadAs-unique a b (no_words {place = m} short refused) (no_words {place = n} also again) = ap (λ (k : ℕ). Err (refusal.Syntax k)) (IsRefusedAt-unique SpellsLine line m n refused again)
  IsReadAs-unique a b (no_words short refused) (too_long long) = absurd (omega (arith, short, long))
  IsReadAs-unique a b (too_long long) (a_request r also t other all) = absurd (omega (arith, also, long))
  IsReadAs-unique a b (too_long long) (cut_short r also t other few) = absurd (omega (arith, also, long))
  IsReadAs-unique a b (too_long long) (wrong_words why also t other is) = absurd (omega (arith, also, long))
  IsReadAs-unique a b (too_long long) (no_words also refused) = absurd (omega (arith, also, long))
  IsReadAs-unique a b (too_long long) (too_long again) = refl
