use Rattle.std.proofs.Common.{map, sym, subst}
use Rattle.grid_model.specs.QueryText.{kinds, SpellsQuery, StopsAt}
use Rattle.query_parse.specs.Seen.{query_token_of}
use Rattle.query_parse.proofs.ParseLemmas.{reached_query, places_token, places_end, split_placed, split_all}
use Rattle.query_parse.proofs.parser.parse.Goals as goal

pub returns-then-not-branch-clause-stops : goal.returns-then-not-branch-clause-stops
returns-then-not-branch-clause-stops c = λ at is.
    let next = rw c.in-Some.is at c.next.ensures.steps in
    let x = c.in-Some.token in
    let front = c.loop-token.yielded in
    subst (λ k. StopsAt (map query_token_of c.args.tokens.items) c.args.end k) (cc)
    (places_token (map query_token_of c.args.tokens.items) (map query_token_of front) (query_token_of x) _ c.args.end c.loop-token.reading (split_placed x c.loop-token.invariant.split next.0) c.loop-token.invariant.reached (c.in_ok-take.ensures.refused c.if-not-branch.true))

pub returns-in-Some-finish-clause-query : goal.returns-in-Some-finish-clause-query
returns-in-Some-finish-clause-query c =
    let none = rw c.in-None.is at c.next.ensures.steps in
    let all = split_all c.loop-token.invariant.split none.0 in
    subst (λ ts. SpellsQuery (kinds (map query_token_of ts)) c.in-Some-finish.query) (sym all)
    (reached_query (kinds (map query_token_of c.loop-token.yielded)) c.loop-token.reading c.in-Some-finish.query c.loop-token.invariant.reached c.in-Some-finish.ensures.0 c.in-Some-finish.ensures.1)

pub returns-in-None-finish-clause-stops : goal.returns-in-None-finish-clause-stops
returns-in-None-finish-clause-stops c = λ at is.
    let none = rw c.in-None.is at c.next.ensures.steps in
    let all = split_all c.loop-token.invariant.split none.0 in
    subst (λ k. StopsAt (map query_token_of c.args.tokens.items) c.args.end k) (cc)
    (subst (λ ts. StopsAt (map query_token_of ts) c.args.end c.args.end) (sym all)
    (places_end (map query_token_of c.loop-token.yielded) c.args.end c.loop-token.reading c.loop-token.invariant.reached c.in-None-finish.ensures))
