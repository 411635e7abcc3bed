-- Each text is cut into tokens, and these are read to a query or to where they stop.
use Rattle.std.proofs.Common.{◌≡◌, ◌≢◌, ℕ, zero, suc, ◌^◌, ◌-◌, ◌<◌, Bool, true, false, List, [], ◌∷◌, ◌++◌, Ok, Err, length}
use Rattle.std.proofs.Common.{refl, sym, ap, subst, ◌∙◌, arith, inl, inr}
use Rattle.std.specs.Prelude.{◌⊎◌, decimal}
use Rattle.std.specs.Str.Parse.{AllDigits, digits_value}
use Rattle.std.proofs.Math.Dec.{ltb}
use Rattle.std.proofs.lemmas.Bool.{both_ways, ltb-true, ltb-false}
use Rattle.std.proofs.lemmas.Fmt.{digits_value-decimal}
use Rattle.std.proofs.lemmas.List.{append_assoc, append-nil, map-append}
use Rattle.std.proofs.lemmas.Str.Parse.{IsNumeralModel, numerals_by_value, tells_digits}
use Rattle.grid_model.specs.Names.{Text}
use Rattle.grid_model.specs.QueryOrders.{ReadsQuery}
use Rattle.grid_model.specs.QueryTokens.{Token, Placed, wrong, SpellsTokens, nothing, space, token, no_token}
use Rattle.grid_model.specs.QueryText.{IsDecimal, Fits, SpellsQuery, StopsAt, kinds}
use Rattle.grid_model.specs.Queries.{is_number, is_comparison}
use Rattle.grid_model.specs.Refusing.{Or}
use Rattle.grid_model.specs.declared.queries.Column.{Column}
use Rattle.grid_model.specs.declared.queries.Cond.{Cond}
use Rattle.grid_model.specs.declared.queries.Op.{Op}
use Rattle.grid_model.specs.declared.queries.Query.{Query}
use Rattle.grid_model.specs.declared.refusal.Refusal.TheVariants.{BadQuery}
use Rattle.query_parse.specs.declared.stage.Stage.TheVariants.{BehindColumn, BehindCond}
use Rattle.query_parse.specs.declared.stage.Step.{Step}
use Rattle.query_parse.specs.declared.stage.Step.TheVariants.{Refused, Next, Show, Ask}
use Rattle.query_parse.specs.Stages.{QueryProgress, new_query, step_from, is_done, EndsInQuery, LeadsByToken, LeadsNowhere}
use Rattle.query_parse.proofs.FoundFronts.{equal_or_not, FindsFront, a_front, no_front_there, find_front}
use Rattle.query_parse.proofs.FoundWords.{same_or_not}
use Rattle.query_parse.proofs.FrontLemmas.{front_shorter}
use Rattle.query_parse.proofs.ParseLemmas.{Reaches, asked, reached_query, places_token, places_end}
use Rattle.query_parse.proofs.QueryLemmas.{Behind, query_of}

-- ---- tokens

-- the tokens of the rest of a text of this length
record Cut (end : ℕ) (text : Text) : Type 0 where
  tokens : List Placed
  made : SpellsTokens end text tokens

cut_front : (end n b : ℕ) (rest : Text) → length (b ∷ rest) < suc n → ((s : Text) → length s < n → Cut end s)
    → (b ≡ 0x20) ⊎ (b ≢ 0x20) → FindsFront (b ∷ rest) → Cut end (b ∷ rest)
cut_front end n b rest low again (inl e) front =
    let more = again rest (omega (arith, low)) in
    record { tokens = more.tokens; made = space (ap (λ x. x ∷ rest) e) more.made }
cut_front end n b rest low again (inr apart) (a_front t left front) =
    let more = again left (omega (arith, low, front_shorter front)) in
    record { tokens = record { at = end - length (b ∷ rest); token = t } ∷ more.tokens; made = token t front more.made }
cut_front end n b rest low again (inr apart) (no_front_there never) = record {
  tokens = record { at = end - length (b ∷ rest); token = wrong } ∷ [];
  made = no_token b refl apart never;
}

-- what is cut has less than this length
cut : (end n : ℕ) (text : Text) → length text < n → Cut end text
cut end zero text low = absurd (omega (arith, low))
cut end (suc n) [] low = record { tokens = []; made = nothing }
cut end (suc n) (b ∷ rest) low =
    cut_front end n b rest low (λ s less. cut end n s less) (equal_or_not b 0x20) (find_front (b ∷ rest) (omega arith))

-- ---- whether a condition fits

own : IsNumeralModel (AllDigits 10) (digits_value 10)
own = numerals_by_value (AllDigits 10) tells_digits

decimal_by : (text : Text) (v : ℕ) → ((n : ℕ) → n < 2 ^ 64 → text ≡ decimal n → v ≡ n) → (t : Bool) → ltb v (2 ^ 64) ≡ t
    → (text ≡ decimal v) ⊎ (text ≢ decimal v) → IsDecimal text ⊎ (IsDecimal text → ⊥)
decimal_by text v only true low (inl e) = inl (record { number = v; small = ltb-true v (2 ^ 64) low; text_is = e })
decimal_by text v only true low (inr apart) = inr (λ d. apart (d.text_is ∙ ap decimal (sym (only d.number d.small d.text_is))))
decimal_by text v only false high e = inr (λ d. omega (arith, ltb-false v (2 ^ 64) high, d.small, only d.number d.small d.text_is))

decimal_or_not : (text : Text) → IsDecimal text ⊎ (IsDecimal text → ⊥)
decimal_or_not text =
    let v = digits_value 10 text in
    decimal_by text v (λ n small e. ap (digits_value 10) e ∙ digits_value-decimal own n small) (ltb v (2 ^ 64)) refl (same_or_not text (decimal v))

fits_by : (c : Column) (o : Op) (text : Text) (a b : Bool) → is_number c ≡ a → is_comparison o ≡ b → IsDecimal text ⊎ (IsDecimal text → ⊥)
    → Fits c o text ⊎ (Fits c o text → ⊥)
fits_by c o text false b h g d = inl (λ numbers _. absurd (both_ways (is_number c) h numbers))
fits_by c o text true false h g d = inl (λ _ compares. absurd (both_ways (is_comparison o) g compares))
fits_by c o text true true h g (inl d) = inl (λ _ _. d)
fits_by c o text true true h g (inr never) = inr (λ fits. never (fits h g))

fits_or_not : (c : Column) (o : Op) (text : Text) → Fits c o text ⊎ (Fits c o text → ⊥)
fits_or_not c o text = fits_by c o text (is_number c) (is_comparison o) refl refl (decimal_or_not text)

-- ---- what a token does

-- it leads on, or no query has it there
data TokenDoes (p : QueryProgress) (t : Token) : Type 0 where
  leads_there : (n : QueryProgress) → LeadsByToken p t n → TokenDoes p t
  leads_nowhere : LeadsNowhere p t → TokenDoes p t

asks : (p : QueryProgress) (t : Token) (d : Cond) → step_from p.stage t ≡ Ask d
    → Fits d.column d.op d.literal ⊎ (Fits d.column d.op d.literal → ⊥) → TokenDoes p t
asks p t d e (inl fits) =
    let conds = p.conds ++ d ∷ [] in
    leads_there (record { stage = BehindCond; columns = p.columns; conds = conds }) (asked p t d conds e fits refl)
asks p t d e (inr never) = leads_nowhere (λ ts q h. never (subst (λ k. Behind p.columns p.conds ts q k) e h).0)

does_by : (p : QueryProgress) (t : Token) (k : Step) → step_from p.stage t ≡ k → TokenDoes p t
does_by p t Refused e = leads_nowhere (λ ts q h. subst (λ k. Behind p.columns p.conds ts q k) e h)
does_by p t (Next n) e =
    leads_there (record { stage = n; columns = p.columns; conds = p.conds }) (record {
      there = λ ts q h. subst (λ k. Behind p.columns p.conds ts q k) e h;
      back = λ ts q h. subst (λ k. Behind p.columns p.conds ts q k) (sym e) h;
    })
does_by p t (Show c) e =
    leads_there (record { stage = BehindColumn; columns = p.columns ++ c ∷ []; conds = p.conds }) (record {
      there = λ ts q h. subst (λ k. Behind p.columns p.conds ts q k) e h;
      back = λ ts q h. subst (λ k. Behind p.columns p.conds ts q k) (sym e) h;
    })
does_by p t (Ask d) e = asks p t d e (fits_or_not d.column d.op d.literal)

-- ---- what tokens are

data TokensAre (all : List Placed) (end : ℕ) : Type 0 where
  are_query : (q : Query) → SpellsQuery (kinds all) q → TokensAre all end
  are_stopped : (place : ℕ) → StopsAt all end place → TokensAre all end

at_end : (end : ℕ) (all front : List Placed) (p : QueryProgress) → all ≡ front → Reaches (kinds front) p → (t : Bool) → is_done p.stage ≡ t
    → TokensAre all end
at_end end all front p e r true done =
    let q = query_of p.columns p.conds in
    are_query q (subst (λ ts. SpellsQuery (kinds ts) q) (sym e) (reached_query (kinds front) p q r done refl))
at_end end all front p e r false never = are_stopped end (subst (λ ts. StopsAt ts end end) (sym e) (places_end front end p r never))

reaches_next : (front : List Token) (p n : QueryProgress) (t : Token) → Reaches front p → LeadsByToken p t n → Reaches (front ++ t ∷ []) n
reaches_next front p n t r leads = record {
  there = λ ts q h. leads.there ts q (r.there (t ∷ ts) q (subst (λ x. EndsInQuery new_query x q) (append_assoc front (t ∷ []) ts) h));
  back = λ ts q h. subst (λ x. EndsInQuery new_query x q) (sym (append_assoc front (t ∷ []) ts)) (r.back (t ∷ ts) q (leads.back ts q h));
}

at_token : (end : ℕ) (all front : List Placed) (x : Placed) (later : List Placed) (p : QueryProgress) → all ≡ front ++ x ∷ later
    → Reaches (kinds front) p
    → ((n : QueryProgress) → all ≡ (front ++ x ∷ []) ++ later → Reaches (kinds (front ++ x ∷ [])) n → TokensAre all end)
    → TokenDoes p x.token → TokensAre all end
at_token end all front x later p split r again (leads_there n leads) =
    again n (split ∙ sym (append_assoc front (x ∷ []) later))
    (subst (λ ts. Reaches ts n) (sym (map-append (λ (t : Placed). t.token) front (x ∷ []))) (reaches_next (kinds front) p n x.token r leads))
at_token end all front x later p split r again (leads_nowhere stuck) = are_stopped x.at (places_token all front x later end p split r stuck)

read_on : (end : ℕ) (all front later : List Placed) (p : QueryProgress) → all ≡ front ++ later → Reaches (kinds front) p → TokensAre all end
read_on end all front [] p split r = at_end end all front p (split ∙ append-nil front) r (is_done p.stage) refl
read_on end all front (x ∷ later) p split r =
    at_token end all front x later p split r (λ n e s. read_on end all (front ++ x ∷ []) later n e s) (does_by p x.token (step_from p.stage x.token) refl)

-- ---- what a text is

read_so : (text : Text) (c : Cut (length text) text) → TokensAre c.tokens (length text) → (query : Or Query) × ReadsQuery text query
read_so text c (are_query q spells) = (Ok q, record { tokens = c.tokens; made = c.made; spells = spells })
read_so text c (are_stopped place stops) = (Err (BadQuery place), record { tokens = c.tokens; made = c.made; stops = stops })

pub each_text : (text : Text) → (query : Or Query) × ReadsQuery text query
each_text text =
    let c = cut (length text) (suc (length text)) text (omega arith) in
    read_so text c (read_on (length text) c.tokens [] c.tokens new_query refl (record { there = λ ts q h. h; back = λ ts q h. h }))
