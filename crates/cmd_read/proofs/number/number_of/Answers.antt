use Rattle.std.proofs.Common.{rules, ◌≡◌, ◌≢◌, subst, sym, ap, ◌∙◌, get_or, length}
use Rattle.std.specs.Prelude.{decimal}
use Rattle.std.specs.Str.{IsUtf8}
use Rattle.std.proofs.lemmas.Str.{IsUtf8-from_ascii}
use Rattle.std.proofs.lemmas.Fmt.{IsAscii-decimal}
use Rattle.cmd_read.specs.Table.{number_of}
use Rattle.cmd_read.proofs.Numbers.{number_none, number_odd, number_read, number_unread}
use Rattle.cmd_read.proofs.number.number_of.Goals as goal

pub returns-then-not-is_plain : goal.returns-then-not-is_plain
returns-then-not-is_plain c = sym (ap number_of (sym c.as_slice-digits.ensures) ∙ number_odd c.as_slice-digits.result.now (c.is_plain.ensures.other c.if-not-is_plain.true))

pub returns-in-Ok-parse : goal.returns-in-Ok-parse
returns-in-Ok-parse c =
    let text : c.in-Ok.text.now ≡ c.as_slice-digits.result.now = c.in-Ok.ensures.cases.0 in
    let sign : get_or c.in-Ok.text.now 0 0 ≢ 43 = subst (λ t. get_or t 0 0 ≢ 43) (sym text) (c.is_plain.ensures.sign (search rules)) in
    let zeros : get_or c.in-Ok.text.now 0 0 ≡ 48 → length c.in-Ok.text.now ≡ 1 = subst (λ t. get_or t 0 0 ≡ 48 → length t ≡ 1) (sym text) (c.is_plain.ensures.zeros (search rules)) in
    sym (ap number_of (sym c.as_slice-digits.ensures) ∙ ap number_of (sym text) ∙ number_read c.in-Ok.text.now c.parse.result c.in-Ok-parse.number c.parse.ensures.value.0 sign zeros c.in-Ok-parse.is)

pub returns-in-Err-parse : goal.returns-in-Err-parse
returns-in-Err-parse c =
    let text : c.in-Ok.text.now ≡ c.as_slice-digits.result.now = c.in-Ok.ensures.cases.0 in
    sym (ap number_of (sym c.as_slice-digits.ensures) ∙ ap number_of (sym text) ∙ number_unread c.in-Ok.text.now c.parse.result c.in-Err-parse.field-0 c.parse.ensures.value.0 c.in-Err-parse.is)

pub returns-in-Err : goal.returns-in-Err
returns-in-Err c =
    sym (ap number_of (sym c.as_slice-digits.ensures) ∙ number_none c.as_slice-digits.result.now (λ n small e. c.in-Err.ensures.cases.0 (subst IsUtf8 (sym e) (IsUtf8-from_ascii (decimal n) (IsAscii-decimal n small)))))
