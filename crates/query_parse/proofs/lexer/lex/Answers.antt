use Rattle.std.proofs.Common.{length, map, subst, sym, ap, ◌∙◌, arith}
use Rattle.std.proofs.lemmas.List.{map-append, take_rest}
use Rattle.grid_model.specs.QueryTokens.{SpellsTokens}
use Rattle.query_parse.specs.Seen.{query_token_of, meaning}
use Rattle.query_parse.proofs.FrontLemmas.{front_shorter}
use Rattle.query_parse.proofs.LexLemmas.{Read, read_space, read_token, read_wrong, read_all, some_left, none_left}
use Rattle.query_parse.proofs.lexer.lex.Goals as goal

pub loop-rest-preserved-then-rest-eq32 : goal.loop-rest-preserved-then-rest-eq32
loop-rest-preserved-then-rest-eq32 c =
    let read = read_space c.args.text.now (map query_token_of c.loop-rest.tokens.items) c.loop-rest.rest.now c.loop-rest.invariant.read (some_left c.loop-rest.rest.now c.loop-rest-test.ensures) c.if-rest-eq32.true in
    record {
      within = omega (arith, c.loop-rest.invariant.within, ap length (take_rest c.loop-rest.rest.now 1));
      read = subst (λ r. Read c.args.text.now (map query_token_of c.loop-rest.tokens.items) r) (sym (take_rest c.loop-rest.rest.now 1)) read;
    }

pub loop-rest-smaller : goal.loop-rest-smaller
loop-rest-smaller c = front_shorter (rw c.in-Some.is at c.in_ok-found.ensures)

pub loop-rest-preserved : goal.loop-rest-preserved
loop-rest-preserved c =
    let front = rw c.in-Some.is at c.in_ok-found.ensures in
    let read = read_token c.args.text.now (map query_token_of c.loop-rest.tokens.items) c.loop-rest.rest.now c.in-Some.found.rest.now (meaning c.in-Some.found.kind) c.loop-rest.invariant.read front in
    record {
      within = omega (arith, c.loop-rest.invariant.within, front_shorter front);
      read = subst (λ x. Read c.args.text.now x c.in-Some.found.rest.now) (sym (ap (map query_token_of) c.in_ok-push-in-Some.ensures.items ∙ map-append query_token_of c.loop-rest.tokens.items _)) read;
    }

pub returns-in-None : goal.returns-in-None
returns-in-None c =
    let text = c.args.text.now in
    let none = rw c.in-None.is at c.in_ok-found.ensures in
    subst (λ x. SpellsTokens (length text) text x) (sym (ap (map query_token_of) c.in_ok-push-in-None.ensures.items ∙ map-append query_token_of c.loop-rest.tokens.items _))
    (read_wrong text (map query_token_of c.loop-rest.tokens.items) c.loop-rest.rest.now c.loop-rest.invariant.read (some_left c.loop-rest.rest.now c.loop-rest-test.ensures) c.if-rest-eq32.false none)

pub returns : goal.returns
returns c = read_all c.args.text.now (map query_token_of c.loop-rest.tokens.items) c.loop-rest.rest.now c.loop-rest.invariant.read (none_left c.loop-rest.rest.now c.loop-rest-test.ensures)
