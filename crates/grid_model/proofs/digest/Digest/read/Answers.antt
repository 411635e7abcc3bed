use Rattle.std.proofs.Common.{◌≡◌, refl, sym, subst, length, take}
use Rattle.std.specs.Prelude.{SomeIff}
use Rattle.std.specs.Cmp.Lexicographic.{same_text}
use Rattle.base64.specs.Engines.{standard}
use Rattle.base64.specs.GeneralPurpose.{IsStrict}
use Rattle.grid_model.proofs.DigestReading.{Behind, behind_prefix, SpellsDigest-decoded, only-decoded, none-decoded, none-failed}
use Rattle.grid_model.proofs.digest.Digest.read.Goals as goal

strict : IsStrict standard
strict = (refl, refl)

pub returns-in-Ok-clause-digest : goal.returns-in-Ok-clause-digest
returns-in-Ok-clause-digest c =
    let read = subst (λ t. SomeIff c.from_slice.result (length t ≡ 32) t) c.as_slice.ensures.value c.from_slice.ensures in
    let behind : Behind c.args.text.now c.in-Some.symbols.now =
    behind_prefix c.args.text.now c.in-Some.symbols.now c.as_bytes.result.now c.as_bytes.ensures.value (same_text (take (length c.as_bytes.result.now) c.args.text.now) c.as_bytes.result.now (sym c.in-Some.ensures.cases.0)) c.in-Some.ensures.cases.1 in
    SpellsDigest-decoded c.args.text.now c.in-Some.symbols.now c.in-Ok.bytes.items behind (c.in-Ok.ensures.strict strict) c.in-Ok.ensures.bytes c.in-Ok.ensures.ok c.from_slice.result read

pub returns-in-Ok-clause-only : goal.returns-in-Ok-clause-only
returns-in-Ok-clause-only c =
    let read = subst (λ t. SomeIff c.from_slice.result (length t ≡ 32) t) c.as_slice.ensures.value c.from_slice.ensures in
    let behind : Behind c.args.text.now c.in-Some.symbols.now =
    behind_prefix c.args.text.now c.in-Some.symbols.now c.as_bytes.result.now c.as_bytes.ensures.value (same_text (take (length c.as_bytes.result.now) c.args.text.now) c.as_bytes.result.now (sym c.in-Some.ensures.cases.0)) c.in-Some.ensures.cases.1 in
    only-decoded c.args.text.now c.in-Some.symbols.now c.in-Ok.bytes.items behind (c.in-Ok.ensures.strict strict) c.in-Ok.ensures.bytes c.in-Ok.ensures.ok c.from_slice.result read

pub returns-in-Ok-clause-none : goal.returns-in-Ok-clause-none
returns-in-Ok-clause-none c =
    let read = subst (λ t. SomeIff c.from_slice.result (length t ≡ 32) t) c.as_slice.ensures.value c.from_slice.ensures in
    let behind : Behind c.args.text.now c.in-Some.symbols.now =
    behind_prefix c.args.text.now c.in-Some.symbols.now c.as_bytes.result.now c.as_bytes.ensures.value (same_text (take (length c.as_bytes.result.now) c.args.text.now) c.as_bytes.result.now (sym c.in-Some.ensures.cases.0)) c.in-Some.ensures.cases.1 in
    none-decoded c.args.text.now c.in-Some.symbols.now c.in-Ok.bytes.items behind (c.in-Ok.ensures.strict strict) c.in-Ok.ensures.bytes c.in-Ok.ensures.ok c.from_slice.result read

pub returns-in-Err-DecodeError-clause-none : goal.returns-in-Err-DecodeError-clause-none
returns-in-Err-DecodeError-clause-none c =
    let behind : Behind c.args.text.now c.in-Some.symbols.now =
    behind_prefix c.args.text.now c.in-Some.symbols.now c.as_bytes.result.now c.as_bytes.ensures.value (same_text (take (length c.as_bytes.result.now) c.args.text.now) c.as_bytes.result.now (sym c.in-Some.ensures.cases.0)) c.in-Some.ensures.cases.1 in
    none-failed c.args.text.now c.in-Some.symbols.now behind (c.in-Err-DecodeError.ensures.strict strict) c.in-Err-DecodeError.field-0-0 (rw c.in-Err-DecodeError.field-0-is at c.in-Err-DecodeError.ensures.err)
