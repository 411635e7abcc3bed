use Rattle.std.proofs.Common.{◌≡◌, ◌≢◌, ℕ, ◌∷◌, [], ◌+◌, List, Some, None, length, refl, sym, ap, ◌∙◌, subst, arith}
use Rattle.std.proofs.lemmas.Bool.{eqb-false}
use Rattle.std.proofs.lemmas.Bool.Decides.{Decides-eqb}
use Rattle.std.proofs.lemmas.Slice.Eq.{strip_prefix_is}
use Rattle.grid_model.specs.Names.{SpellsPath}
use Rattle.grid_model.specs.Places.{IsRefusedAt}
use Rattle.grid_model.proofs.PathReading.{SpellsPath-from_read, IsRead-more, IsRefusedAt-more}
use Rattle.grid_model.proofs.PathSpelling.{IsRefusedAt-first}
use Rattle.grid_model.proofs.path.Path.parse.Goals as goal

pub returns-in_default-clause-refused : goal.returns-in_default-clause-refused
returns-in_default-clause-refused c = λ at e.
    let none : (more : List ℕ) → c.args.bytes.now ≢ 0x2F ∷ more = strip_prefix_is Decides-eqb c.args.bytes.now (0x2F ∷ []) None c.in_default.ensures.cases in
    let start : 0 ≡ at = cc in
    subst (IsRefusedAt SpellsPath c.args.bytes.now) start (IsRefusedAt-first c.args.bytes.now (λ b more is same. none more (is ∙ ap (λ x. x ∷ more) same)))

pub returns-in-Err-clause-refused : goal.returns-in-Err-clause-refused
returns-in-Err-clause-refused c = λ at e.
    let split : c.args.bytes.now ≡ 0x2F ∷ c.in-Some.rest.now = strip_prefix_is Decides-eqb c.args.bytes.now (0x2F ∷ []) (Some c.in-Some.rest) c.in-Some.ensures.cases in
    let some = eqb-false (length c.in-Some.rest.now) 0 (sym c.is_empty.ensures ∙ c.if-is_empty.false) in
    let place : 1 + c.loop-start.start + c.in-Err.refused.at ≡ at = cc in
    IsRefusedAt-more c.args.bytes.now c.in-Some.rest.now c.loop-start.start c.loop-start.names.items c.front_part-part.result.now c.in-Err.refused.at at
    split c.loop-start-test.true (omega (arith, some)) c.loop-start.invariant c.front_part-part.ensures c.in-Err.ensures.place place

pub loop-start-preserved : goal.loop-start-preserved
loop-start-preserved c =
    IsRead-more c.in-Some.rest.now c.loop-start.start c.loop-start.names.items c.push_copy.new.texts.items c.front_part-part.result.now
    c.loop-start-test.true c.loop-start.invariant c.front_part-part.ensures (c.in_default-check_name.ensures.name.0 refl) c.in_ok-push_copy.ensures

pub returns-clause-path : goal.returns-clause-path
returns-clause-path c =
    let split : c.args.bytes.now ≡ 0x2F ∷ c.in-Some.rest.now = strip_prefix_is Decides-eqb c.args.bytes.now (0x2F ∷ []) (Some c.in-Some.rest) c.in-Some.ensures.cases in
    let i = c.loop-start.invariant in
    subst (λ t. SpellsPath t c.loop-start.names.items) (sym split) (SpellsPath-from_read c.in-Some.rest.now c.loop-start.start c.loop-start.names.items c.loop-start-test.false i.names i.read)
