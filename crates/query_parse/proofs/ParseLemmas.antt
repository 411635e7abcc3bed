-- What tokens are read to, and where they stop.
use Rattle.std.proofs.Common.{◌≡◌, ℕ, suc, ◌+◌, ◌-◌, ◌<◌, true, false, List, [], ◌∷◌, ◌++◌, length, take, map, refl, sym, ap, subst, ◌∙◌, arith}
use Rattle.std.proofs.lemmas.Bool.{both_ways}
use Rattle.std.proofs.lemmas.List.{append_assoc, append-nil, length-append, length-map, map-append, take_at, nil_from_length}
use Rattle.std.proofs.Math.Seq.{take-append-add, take-length}
use Rattle.grid_model.specs.Places.{Begins, IsRefusedAt}
use Rattle.grid_model.specs.QueryTokens.{Token, Placed}
use Rattle.grid_model.specs.QueryText.{Fits, SpellsQuery, StopsAt, kinds, token_place}
use Rattle.grid_model.specs.declared.queries.Cond.{Cond}
use Rattle.grid_model.specs.declared.queries.Query.{Query}
use Rattle.query_parse.specs.declared.token.Token.{Token as Row}
use Rattle.query_parse.specs.Seen.{query_token_of}
use Rattle.query_parse.specs.declared.stage.Stage.TheVariants.{BehindCond}
use Rattle.query_parse.specs.declared.stage.Step.TheVariants.{Ask}
use Rattle.query_parse.specs.Stages.{QueryProgress, new_query, step_from, is_done, EndsInQuery, LeadsByToken, LeadsNowhere}
use Rattle.query_parse.proofs.QueryLemmas.{goes_sound, spelled_goes, leads_on, Behind}

-- a condition that fits is added
pub asked : (p : QueryProgress) (t : Token) (d : Cond) (ds : List Cond) → step_from p.stage t ≡ Ask d → Fits d.column d.op d.literal → ds ≡ p.conds ++ d ∷ [] → LeadsByToken p t (record { stage = BehindCond; columns = p.columns; conds = ds })
asked p t d ds e fits is = record {
  there = λ ts q h. subst (λ x. EndsInQuery (record { stage = BehindCond; columns = p.columns; conds = x }) ts q) (sym is) (subst (λ k. Behind p.columns p.conds ts q k) e h).1;
  back = λ ts q h. subst (λ k. Behind p.columns p.conds ts q k) (sym e) (fits, subst (λ x. EndsInQuery (record { stage = BehindCond; columns = p.columns; conds = x }) ts q) is h);
}

-- these tokens lead from the start to there
pub record Reaches (found : List Token) (p : QueryProgress) : Type 0 where
  pub there : (ts : List Token) (q : Query) → EndsInQuery new_query (found ++ ts) q → EndsInQuery p ts q
  pub back : (ts : List Token) (q : Query) → EndsInQuery p ts q → EndsInQuery new_query (found ++ ts) q

pub reached_query : (found : List Token) (p : QueryProgress) (q : Query) → Reaches found p → is_done p.stage ≡ true → q ≡ record { columns = p.columns; conds = p.conds } → SpellsQuery found q
reached_query found p q r done e = goes_sound found q (subst (λ ts. EndsInQuery new_query ts q) (append-nil found) (r.back [] q (done, e)))

begins_here : (found : List Token) (p : QueryProgress) → Reaches found p → Begins SpellsQuery found
begins_here found p r = let on = leads_on p.stage p.columns p.conds in record { more = on.more; value = on.query; spells = goes_sound (found ++ on.more) on.query (r.back on.more on.query on.goes) }

-- the tokens are at their end, and are no query
pub stops_at_end : (found : List Token) (p : QueryProgress) → Reaches found p → is_done p.stage ≡ false → IsRefusedAt SpellsQuery found (length found)
stops_at_end found p r never = record {
  spells_nothing = λ q h. both_ways (is_done p.stage) never (r.there [] q (subst (λ ts. EndsInQuery new_query ts q) (sym (append-nil found)) (spelled_goes h))).0;
  within = omega arith;
  begins = subst (λ ts. Begins SpellsQuery ts) (sym (take-length found)) (begins_here found p r);
  longest = λ n low high b. omega (arith, low, high);
}

-- the tokens go on with one that may not stand there
pub stops_at_token : (found : List Token) (p : QueryProgress) (t : Token) (later : List Token) → Reaches found p → LeadsNowhere p t → IsRefusedAt SpellsQuery (found ++ t ∷ later) (length found)
stops_at_token found p t later r stuck = record {
  spells_nothing = λ q h. stuck later q (r.there (t ∷ later) q (spelled_goes h));
  within = omega (arith, length-append found (t ∷ later));
  begins = subst (λ ts. Begins SpellsQuery ts) (sym (take_at found (t ∷ later) (length found) refl)) (begins_here found p r);
  longest = λ n low high b. longer n low b;
}
  where
    longer : (n : ℕ) → length found < n → ¬ Begins SpellsQuery (take n (found ++ t ∷ later))
    longer n low b = by (n - (length found + 1)) (subst (λ k. Begins SpellsQuery (take k (found ++ t ∷ later))) (omega (arith, low)) b)
      where
        by : (m : ℕ) → Begins SpellsQuery (take (length found + suc m) (found ++ t ∷ later)) → ⊥
        by m b = at (subst (λ ts. Begins SpellsQuery ts) (take-append-add found (t ∷ later) (suc m)) b)
          where
            at : Begins SpellsQuery (found ++ t ∷ take m later) → ⊥
            at b = stuck (take m later ++ b.more) b.value (r.there (t ∷ take m later ++ b.more) b.value (spelled_goes (subst (λ ts. SpellsQuery ts b.value) (append_assoc found (t ∷ take m later) b.more) b.spells)))

-- ---- with their places

place_at : (front : List Placed) (x : Placed) (later : List Placed) (end : ℕ) → token_place (front ++ x ∷ later) end (length front) ≡ x.at
place_at [] x later end = refl
place_at (y ∷ front) x later end = place_at front x later end

place_at_end : (all : List Placed) (end : ℕ) → token_place all end (length all) ≡ end
place_at_end [] end = refl
place_at_end (y ∷ all) end = place_at_end all end

pub places_token : (all front : List Placed) (x : Placed) (later : List Placed) (end : ℕ) (p : QueryProgress) → all ≡ front ++ x ∷ later → Reaches (kinds front) p → LeadsNowhere p x.token → StopsAt all end x.at
places_token all front x later end p split r stuck =
    subst (λ ts. StopsAt ts end x.at) (sym split) (record {
      count = length (kinds front);
      refused = subst (λ ts. IsRefusedAt SpellsQuery ts (length (kinds front))) (sym (map-append (λ (t : Placed). t.token) front (x ∷ later))) (stops_at_token (kinds front) p x.token (kinds later) r stuck);
      place_is = sym (ap (token_place (front ++ x ∷ later) end) (length-map front (λ (t : Placed). t.token)) ∙ place_at front x later end);
    })

pub places_end : (all : List Placed) (end : ℕ) (p : QueryProgress) → Reaches (kinds all) p → is_done p.stage ≡ false → StopsAt all end end
places_end all end p r never = record {
  count = length (kinds all);
  refused = stops_at_end (kinds all) p r never;
  place_is = sym (ap (token_place all end) (length-map all (λ (t : Placed). t.token)) ∙ place_at_end all end);
}

-- ---- the code's tokens

-- what a loop over all has gone over, and what it has before it
pub record IsSplit (all front later : List Row) (len : ℕ) : Type 0 where
  pub all_is : all ≡ front ++ later
  pub len_is : len ≡ length later

pub split_more : {all front later behind : List Row} {len left : ℕ} (x : Row) → IsSplit all front later len → later ≡ x ∷ behind → left + 1 ≡ len → IsSplit all (front ++ x ∷ []) behind left
split_more {front = front} {behind = behind} x s is less = record {
  all_is = s.all_is ∙ ap (λ ts. front ++ ts) is ∙ sym (append_assoc front (x ∷ []) behind);
  len_is = omega (arith, s.len_is, ap length is, less);
}

pub split_all : {all front later : List Row} {len : ℕ} → IsSplit all front later len → len ≡ 0 → all ≡ front
split_all {front = front} {later = later} s none = s.all_is ∙ ap (λ ts. front ++ ts) (nil_from_length later (sym s.len_is ∙ none)) ∙ append-nil front

pub split_placed : {all front later behind : List Row} {len : ℕ} (x : Row) → IsSplit all front later len → later ≡ x ∷ behind → map query_token_of all ≡ map query_token_of front ++ query_token_of x ∷ map query_token_of behind
split_placed {front = front} {behind = behind} x s is = ap (map query_token_of) (s.all_is ∙ ap (λ ts. front ++ ts) is) ∙ map-append query_token_of front (x ∷ behind)
