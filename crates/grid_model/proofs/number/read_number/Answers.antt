use Rattle.std.proofs.Common.{rules, ◌≡◌, sym, ap, subst, ◌∙◌}
use Rattle.std.specs.Prelude.{decimal}
use Rattle.std.specs.Str.{IsUtf8}
use Rattle.std.specs.String.{string_bytes}
use Rattle.std.proofs.lemmas.Str.{IsUtf8-from_ascii}
use Rattle.std.proofs.lemmas.Fmt.{IsAscii-decimal, parse-decimal}
use Rattle.grid_model.proofs.number.read_number.Goals as goal

pub returns-in_default-clause-none : goal.returns-in_default-clause-none
returns-in_default-clause-none c =
    λ n small e. c.in_default.ensures.cases.0 (subst IsUtf8 (sym e) (IsUtf8-from_ascii (decimal n) (IsAscii-decimal n small)))

pub returns-in_default-parse-clause-none : goal.returns-in_default-parse-clause-none
returns-in_default-parse-clause-none c =
    λ n small e. c.in_default-parse.not-Ok n (parse-decimal 64 n c.in-Ok.digits.now c.parse.result small small (c.in-Ok.ensures.cases.0 ∙ e) c.parse.ensures.value.0)

pub returns-then-not-has_bytes-clause-none : goal.returns-then-not-has_bytes-clause-none
returns-then-not-has_bytes-clause-none c =
    λ n small e.
    let parsed = parse-decimal 64 n c.in-Ok.digits.now c.parse.result small small (c.in-Ok.ensures.cases.0 ∙ e) c.parse.ensures.value.0 in
    let same : c.in-Ok-parse.number ≡ n = cc (parsed, c.in-Ok-parse.is) in
    let printed : string_bytes c.in_ok-to_string.field-0 ≡ decimal c.in-Ok-parse.number = search rules in
    let text : c.from_vec-printed.result ≡ c.args.text.now = c.from_vec-printed.ensures ∙ ap (λ v. v.items) c.into_bytes.ensures.value ∙ printed ∙ ap decimal same ∙ sym e in
    let yes = c.has_bytes.ensures.1 text in
    cc (yes, c.if-not-has_bytes.true)
