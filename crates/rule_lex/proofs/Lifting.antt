-- Where a rest of a text is refused, and the text that has it behind spaces, comments and tokens.
use Rattle.std.proofs.Common.{◌≡◌, ℕ, zero, suc, ◌+◌, ◌-◌, ◌<◌, ◌≤◌, true, false, List, [], ◌∷◌, ◌++◌, length, take, drop, refl, sym, ap, subst, ◌∙◌, arith, inl, inr}
use Rattle.std.specs.Prelude.{◌⊎◌, ◌&&◌, ◌==◌, not, IsTrue}
use Rattle.std.specs.List.{list_all}
use Rattle.std.proofs.lemmas.Bool.{both_ways, cases_lt}
use Rattle.std.proofs.lemmas.List.{append_assoc, append-nil, length-append, length-take-le, take_at, drop_at, take-append-le, take-take}
use Rattle.std.proofs.Math.Seq.{take-append-add}
use Rattle.rule_lex.specs.Bytes.{SourceText, is_space, starts_with_letter}
use Rattle.rule_lex.specs.Tokens.{RuleToken, PlacedToken, SpellsToken, Longest, EndsLine, IsComment, is_in_line, SpellsRuleTokens, at_end, space, comment, token}
use Rattle.rule_lex.specs.Fronts.{BeginsToken, IsLongestToken, IsNoFront}
use Rattle.rule_lex.proofs.Firsts.{both_true, StartsToken, starts_token, starts_append, starts_length, is_first}

-- The rest of a text from this place on is refused after so many bytes, and they are completed by nothing where that is
-- nothing or one letter.
pub record Refused (place : ℕ) (r : SourceText) (j : ℕ) : Type 0 where
  pub spells_nothing : (ts : List PlacedToken) → SpellsRuleTokens place r ts → ⊥
  pub within : j ≤ length r
  pub more : SourceText
  pub tokens : List PlacedToken
  pub spells : SpellsRuleTokens place (take j r ++ more) tokens
  pub at_start : j ≡ 0 → more ≡ []
  pub at_letter : IsTrue (starts_with_letter r) → 0 < j
  pub one_letter : IsTrue (starts_with_letter r) → j ≡ 1 → more ≡ []
  pub longest : (n : ℕ) → j < n → n ≤ length r → (m : SourceText) (ts : List PlacedToken) → SpellsRuleTokens place (take n r ++ m) ts → ⊥

-- ---- what a text of tokens begins with

-- the first token, and those of the rest
pub record FirstToken (place : ℕ) (all : SourceText) (ts : List PlacedToken) : Type 0 where
  pub spelled : SourceText
  pub value : RuleToken
  pub rest : SourceText
  pub later : List PlacedToken
  pub longest : Longest all spelled value rest
  pub spells : SpellsRuleTokens (place + length spelled) rest later
  pub is : ts ≡ record { at = place; spelled = spelled; token = value } ∷ later

no_space_first : (b : ℕ) → is_first b ≡ true → is_space b ≡ true → ⊥
no_space_first b h s = both_ways false refl (sym (ap (λ x. not x && not (b == 0x23)) s) ∙ h)

pub first_token : {place : ℕ} {all : SourceText} {ts : List PlacedToken} → StartsToken all → SpellsRuleTokens place all ts → FirstToken place all ts
first_token starts at_end = absurd starts
first_token starts (space {b = b} is more) = absurd (no_space_first b starts is)
first_token starts (comment line c more) = absurd (both_ways false refl (subst StartsToken c.split starts))
first_token starts (token spelled t front more) = record { spelled = spelled; value = t; rest = _; later = _; longest = front; spells = more; is = refl }

no_token_first : {b : ℕ} {all spelled rest later : SourceText} {t : RuleToken} → (is_first b ≡ true → ⊥) → all ≡ b ∷ later → Longest all spelled t rest → ⊥
no_token_first {spelled = spelled} {rest = rest} never e front =
    never (subst StartsToken (sym front.split ∙ e) (starts_append spelled rest (starts_token front.spells)))

pub after_space : {place b : ℕ} {rest : SourceText} {ts : List PlacedToken} → is_space b ≡ true → SpellsRuleTokens place (b ∷ rest) ts → SpellsRuleTokens (place + 1) rest ts
after_space is (space also more) = more
after_space {b = b} is (comment line c more) =
    let e : b ≡ 0x23 = let split = c.split in cc in
    absurd (both_ways false refl (subst (λ x. is_space x ≡ true) e is))
after_space {b = b} is (token spelled t front more) = absurd (no_token_first (λ h. no_space_first b h is) refl front)

-- a line has one end
pub same_line : (line other : SourceText) {rest left : SourceText} → list_all is_in_line line ≡ true → list_all is_in_line other ≡ true → EndsLine rest → EndsLine left → line ++ rest ≡ other ++ left → (line ≡ other) × (rest ≡ left)
same_line [] [] a b c d e = (refl, e)
same_line [] (y ∷ other) a b c d e = absurd (both_ways false refl (subst (λ x. is_in_line x ≡ true) (subst EndsLine e c) (both_true (is_in_line y) (list_all is_in_line other) b).0))
same_line (x ∷ line) [] a b c d e = absurd (both_ways false refl (subst (λ y. is_in_line y ≡ true) (subst EndsLine (sym e) d) (both_true (is_in_line x) (list_all is_in_line line) a).0))
same_line (x ∷ line) (y ∷ other) {rest = rest} {left = left} a b c d e =
    let tails : line ++ rest ≡ other ++ left = cc in
    let heads : x ≡ y = cc in
    let more = same_line line other (both_true (is_in_line x) (list_all is_in_line line) a).1 (both_true (is_in_line y) (list_all is_in_line other) b).1 c d tails in
    let same : line ≡ other = more.0 in
    (cc, more.1)

pub after_comment : {place : ℕ} {all rest : SourceText} {ts : List PlacedToken} (line : SourceText) → IsComment all line rest → SpellsRuleTokens place all ts → SpellsRuleTokens (place + (length line + 1)) rest ts
after_comment line c at_end = absurd (let split = c.split in cc)
after_comment line c (space {b = b} is more) =
    let e : b ≡ 0x23 = let split = c.split in cc in
    absurd (both_ways false refl (subst (λ x. is_space x ≡ true) e is))
after_comment {place = place} {rest = rest} {ts = ts} line c (comment {rest = left} other d more) =
    let first = c.split in
    let second = d.split in
    let e : line ++ rest ≡ other ++ left = cc in
    let same = same_line line other c.one_line d.one_line c.ends d.ends e in
    subst (λ r. SpellsRuleTokens (place + (length line + 1)) r ts) (sym same.1) (subst (λ l. SpellsRuleTokens (place + (length l + 1)) left ts) (sym same.0) more)
after_comment line c (token spelled t front more) = absurd (no_token_first (λ h. both_ways false refl h) c.split front)

-- ---- a front that is a token, before some bytes

-- the bytes are spelled so behind the front, or a longer front is a token
data Compared (place : ℕ) (f cut : SourceText) : Type 0 where
  same : (us : List PlacedToken) → SpellsRuleTokens (place + length f) cut us → Compared place f cut
  longer : (k : ℕ) (u : RuleToken) → 0 < k → k ≤ length cut → SpellsToken (f ++ take k cut) u → Compared place f cut

compare_first : {place : ℕ} (f cut : SourceText) {t : RuleToken} {ts : List PlacedToken} → SpellsToken f t → SpellsRuleTokens place (f ++ cut) ts → Compared place f cut
compare_first {place = place} f cut {t = t} {ts = ts} spells whole = by (cases_lt (length g.spelled) (length f)) (cases_lt (length f) (length g.spelled))
  where
    g : FirstToken place (f ++ cut) ts
    g = first_token (starts_append f cut (starts_token spells)) whole

    size : length g.spelled + length g.rest ≡ length f + length cut
    size = sym (length-append g.spelled g.rest) ∙ ap length (sym g.longest.split) ∙ length-append f cut

    by : (length g.spelled < length f) ⊎ (length f ≤ length g.spelled) → (length f < length g.spelled) ⊎ (length g.spelled ≤ length f) → Compared place f cut
    by (inl less) other = absurd (g.longest.none_longer (length f) t less (omega (arith, length-append f cut)) (subst (λ s. SpellsToken s t) (sym (take_at f cut (length f) refl)) spells))
    by (inr high) (inl more) = longer (length g.spelled - length f) g.value (omega (arith, more)) (omega (arith, size, more)) (subst (λ s. SpellsToken s g.value) spelled_is g.longest.spells)
      where
        spelled_is : g.spelled ≡ f ++ take (length g.spelled - length f) cut
        spelled_is =
            sym (take_at g.spelled g.rest (length g.spelled) refl) ∙ ap (take (length g.spelled)) (sym g.longest.split)
            ∙ ap (λ k. take k (f ++ cut)) (omega (arith, high)) ∙ take-append-add f cut (length g.spelled - length f)
    by (inr high) (inr low) = same g.later (subst (λ k. SpellsRuleTokens (place + k) cut g.later) sizes (subst (λ r. SpellsRuleTokens (place + length g.spelled) r g.later) rest_is g.spells))
      where
        sizes : length g.spelled ≡ length f
        sizes = omega (arith, high, low)

        rest_is : g.rest ≡ cut
        rest_is = sym (drop_at g.spelled g.rest (length f) sizes) ∙ ap (drop (length f)) (sym g.longest.split) ∙ drop_at f cut (length f) refl

-- ---- a rest behind a front

-- What is refused behind a front is refused with it.
lift : {place behind j : ℕ} (f rest : SourceText) → 0 < length f → (r : Refused behind rest j)
    → ((ts : List PlacedToken) → SpellsRuleTokens place (f ++ rest) ts → (us : List PlacedToken) × SpellsRuleTokens behind rest us)
    → ((us : List PlacedToken) → SpellsRuleTokens behind (take j rest ++ r.more) us → (ts : List PlacedToken) × SpellsRuleTokens place (f ++ (take j rest ++ r.more)) ts)
    → ((n : ℕ) → j < n → n ≤ length rest → (m : SourceText) (ts : List PlacedToken) → SpellsRuleTokens place (f ++ (take n rest ++ m)) ts → (us : List PlacedToken) × SpellsRuleTokens behind (take n rest ++ m) us)
    → Refused place (f ++ rest) (length f + j)
lift {place = place} {behind = behind} {j = j} f rest some r back forth cut = record {
  spells_nothing = λ ts spelled. let inner = back ts spelled in r.spells_nothing inner.0 inner.1;
  within = omega (arith, r.within, length-append f rest);
  more = r.more;
  tokens = begun.0;
  spells = subst (λ s. SpellsRuleTokens place s begun.0) (sym (cut_is j r.more)) begun.1;
  at_start = λ e. absurd (omega (arith, e, some));
  at_letter = λ letter. omega (arith, some);
  one_letter = λ letter e. r.at_start (omega (arith, e, some));
  longest = λ n low high m ts spelled. further n low high m ts spelled;
}
  where
    begun : (ts : List PlacedToken) × SpellsRuleTokens place (f ++ (take j rest ++ r.more)) ts
    begun = forth r.tokens r.spells

    cut_is : (k : ℕ) (m : SourceText) → take (length f + k) (f ++ rest) ++ m ≡ f ++ (take k rest ++ m)
    cut_is k m = ap (λ s. s ++ m) (take-append-add f rest k) ∙ append_assoc f (take k rest) m

    further : (n : ℕ) → length f + j < n → n ≤ length (f ++ rest) → (m : SourceText) (ts : List PlacedToken) → SpellsRuleTokens place (take n (f ++ rest) ++ m) ts → ⊥
    further n low high m ts spelled = r.longest (n - length f) (omega (arith, low)) (omega (arith, high, length-append f rest)) m inner.0 inner.1
      where
        inner : (us : List PlacedToken) × SpellsRuleTokens behind (take (n - length f) rest ++ m) us
        inner = cut (n - length f) (omega (arith, low)) (omega (arith, high, length-append f rest)) m ts
            (subst (λ s. SpellsRuleTokens place s ts) (ap (λ k. take k (f ++ rest) ++ m) (omega (arith, low)) ∙ cut_is (n - length f) m) spelled)

pub refused_space : {place j b : ℕ} {rest : SourceText} → is_space b ≡ true → Refused (place + 1) rest j → Refused place (b ∷ rest) (1 + j)
refused_space {b = b} {rest = rest} is r =
    lift (b ∷ []) rest (omega arith) r (λ ts h. (ts, after_space is h)) (λ us h. (us, space is h)) (λ n low high m ts h. (ts, after_space is h))

pub refused_comment : {place j : ℕ} (line rest : SourceText) → list_all is_in_line line ≡ true → EndsLine rest → Refused (place + (length line + 1)) rest j → Refused place (0x23 ∷ line ++ rest) (suc (length line) + j)
refused_comment {place = place} {j = j} line rest one ends r =
    lift (0x23 ∷ line) rest (omega arith) r
    (λ ts h. (ts, after_comment line (record { split = refl; one_line = one; ends = ends }) h))
    (λ us h. (us, comment line (record { split = refl; one_line = one; ends = begun }) h))
    (λ n low high m ts h. (ts, after_comment line (record { split = refl; one_line = one; ends = cut_ends rest n ends m (omega (arith, low)) high }) h))
  where
    cut_ends : (s : SourceText) (k : ℕ) → EndsLine s → (m : SourceText) → 0 < k → k ≤ length s → EndsLine (take k s ++ m)
    cut_ends [] k e m some high = absurd (omega (arith, some, high))
    cut_ends (b ∷ s) zero e m some high = absurd (omega (arith, some))
    cut_ends (b ∷ s) (suc k) e m some high = e

    begun : EndsLine (take j rest ++ r.more)
    begun = by (cases_lt 0 j)
      where
        by : (0 < j) ⊎ (j ≤ 0) → EndsLine (take j rest ++ r.more)
        by (inl some) = cut_ends rest j ends r.more some r.within
        by (inr none) =
            let start : j ≡ 0 = omega (arith, none) in
            subst EndsLine (sym (ap (λ k. take k rest ++ r.more) start ∙ r.at_start start)) tt

pub longest_front : {f : SourceText} {t : RuleToken} (rest : SourceText) → IsLongestToken f rest t → Longest (f ++ rest) f t rest
longest_front {f = f} rest front = record {
  split = refl;
  spells = front.spells;
  none_longer = λ n u low high spells. front.none_longer (n - length f) u (omega (arith, low)) (omega (arith, high, length-append f rest))
      (subst (λ s. SpellsToken s u) (ap (λ k. take k (f ++ rest)) (omega (arith, low)) ∙ take-append-add f rest (n - length f)) spells);
}

take_cut : {k j : ℕ} (r m : SourceText) → k ≤ j → j ≤ length r → take k (take j r ++ m) ≡ take k r
take_cut {k = k} {j = j} r m low high = take-append-le k (take j r) m (omega (arith, low, length-take-le j r high)) ∙ take-take k j r low

take_past : {k j : ℕ} (r m : SourceText) → j ≤ k → j ≤ length r → take k (take j r ++ m) ≡ take j r ++ take (k - j) m
take_past {k = k} {j = j} r m low high =
    let size : length (take j r) ≡ j = length-take-le j r high in
    ap (λ n. take n (take j r ++ m)) (omega (arith, size, low)) ∙ take-append-add (take j r) m (k - j)

pub refused_token : {place j : ℕ} (f rest : SourceText) (t : RuleToken) → IsLongestToken f rest t → Refused (place + length f) rest j → Refused place (f ++ rest) (length f + j)
refused_token {place = place} {j = j} f rest t front r =
    lift f rest (starts_length f (starts_token front.spells)) r
    (λ ts h. back (compare_first f rest front.spells h))
    (λ us h. (_, token f t (longest_front (take j rest ++ r.more) begun) h))
    (λ n low high m ts h. cut n low high m (compare_first f (take n rest ++ m) front.spells h))
  where
    back : Compared place f rest → (us : List PlacedToken) × SpellsRuleTokens (place + length f) rest us
    back (same us h) = (us, h)
    back (longer k u some high h) = absurd (front.none_longer k u some high h)

    -- a token that is longer than the front takes no more than a letter
    one_letter : {k : ℕ} {u : RuleToken} (m : SourceText) → 0 < k → k ≤ length rest → SpellsToken (f ++ (take k rest ++ m)) u → (k ≡ 1) × IsTrue (starts_with_letter rest)
    one_letter {k = k} {u = u} m some high h =
        front.steady k some high (record { more = m; token = u; spells = subst (λ s. SpellsToken s u) (sym (append_assoc f (take k rest) m)) h })

    cut : (n : ℕ) → j < n → n ≤ length rest → (m : SourceText) → Compared place f (take n rest ++ m) → (us : List PlacedToken) × SpellsRuleTokens (place + length f) (take n rest ++ m) us
    cut n low high m (same us h) = (us, h)
    cut n low high m (longer k u some within h) = absurd (by (cases_lt n k))
      where
        by : (n < k) ⊎ (k ≤ n) → ⊥
        by (inl past) =
            let one = one_letter (take (k - n) m) (omega (arith, low)) high (subst (λ s. SpellsToken (f ++ s) u) (take_past rest m (omega (arith, past)) high) h) in
            omega (arith, low, one.0, r.at_letter one.1)
        by (inr inside) = front.none_longer k u some (omega (arith, inside, high)) (subst (λ s. SpellsToken (f ++ s) u) (take_cut rest m inside high) h)

    size : length (take j rest ++ r.more) ≡ j + length r.more
    size = length-append (take j rest) r.more ∙ ap (λ k. k + length r.more) (length-take-le j rest r.within)

    -- what completes the rest lengthens the front no more than the rest does
    past_cut : (k : ℕ) (u : RuleToken) → j < k → k ≤ length (take j rest ++ r.more) → BeginsToken (f ++ take k (take j rest ++ r.more)) → ⊥
    past_cut k u low high b = by (cases_lt 0 j)
      where
        by : (0 < j) ⊎ (j ≤ 0) → ⊥
        by (inl some) =
            let one = one_letter (take (k - j) r.more ++ b.more) some r.within (subst (λ s. SpellsToken s b.token) (append_assoc f (take k (take j rest ++ r.more)) b.more ∙ ap (λ s. f ++ s) (ap (λ s. s ++ b.more) (take_past rest r.more (omega (arith, low)) r.within) ∙ append_assoc (take j rest) (take (k - j) r.more) b.more)) b.spells) in
            omega (arith, low, high, size, ap length (r.one_letter one.1 one.0))
        by (inr none) = omega (arith, low, high, size, none, ap length (r.at_start (omega (arith, none))))

    begun : IsLongestToken f (take j rest ++ r.more) t
    begun = record {
      spells = front.spells;
      none_longer = λ k u some high h. by k u some high h (cases_lt j k);
      steady = λ k some high b. steadily k some high b (cases_lt j k);
    }
      where
        by : (k : ℕ) (u : RuleToken) → 0 < k → k ≤ length (take j rest ++ r.more) → SpellsToken (f ++ take k (take j rest ++ r.more)) u → (j < k) ⊎ (k ≤ j) → ⊥
        by k u some high h (inl past) = past_cut k u past high (record { more = []; token = u; spells = subst (λ s. SpellsToken s u) (sym (append-nil (f ++ take k (take j rest ++ r.more)))) h })
        by k u some high h (inr inside) = front.none_longer k u some (omega (arith, inside, r.within)) (subst (λ s. SpellsToken (f ++ s) u) (take_cut rest r.more inside r.within) h)

        steadily : (k : ℕ) → 0 < k → k ≤ length (take j rest ++ r.more) → BeginsToken (f ++ take k (take j rest ++ r.more)) → (j < k) ⊎ (k ≤ j) → (k ≡ 1) × IsTrue (starts_with_letter (take j rest ++ r.more))
        steadily k some high b (inl past) = absurd (past_cut k b.token past high b)
        steadily k some high b (inr inside) =
            let one = front.steady k some (omega (arith, inside, r.within)) (subst (λ s. BeginsToken (f ++ s)) (take_cut rest r.more inside r.within) b) in
            (one.0, letter rest j (omega (arith, some, inside)) r.within one.1)
          where
            letter : (s : SourceText) (n : ℕ) → 0 < n → n ≤ length s → starts_with_letter s ≡ true → starts_with_letter (take n s ++ r.more) ≡ true
            letter [] n low within h = absurd (both_ways false refl h)
            letter (x ∷ s) zero low within h = absurd (omega (arith, low))
            letter (x ∷ s) (suc n) low within h = h

-- ---- where no token begins

pub refused_here : {place j : ℕ} (r : SourceText) → StartsToken r → IsNoFront r j → Refused place r j
refused_here {place = place} {j = j} r starts no_front = by (cases_lt 0 j)
  where
    nothing_here : (k : ℕ) → 0 < k → k ≤ length r → (j < k) → (m : SourceText) (ts : List PlacedToken) → SpellsRuleTokens place (take k r ++ m) ts → ⊥
    nothing_here k some high past m ts h = spans (cases_lt k (length g.spelled))
      where
        cut_starts : (s : SourceText) (n : ℕ) → StartsToken s → 0 < n → StartsToken (take n s ++ m)
        cut_starts [] n starting low = absurd starting
        cut_starts (b ∷ s) zero starting low = absurd (omega (arith, low))
        cut_starts (b ∷ s) (suc n) starting low = starting

        g : FirstToken place (take k r ++ m) ts
        g = first_token (cut_starts r k starts some) h

        spelled_is : g.spelled ≡ take (length g.spelled) (take k r ++ m)
        spelled_is = sym (take_at g.spelled g.rest (length g.spelled) refl) ∙ ap (take (length g.spelled)) (sym g.longest.split)

        spans : (k < length g.spelled) ⊎ (length g.spelled ≤ k) → ⊥
        spans (inl more) = no_front.longest k past high (record {
          more = take (length g.spelled - k) m;
          token = g.value;
          spells = subst (λ s. SpellsToken s g.value) (spelled_is ∙ take_past r m (omega (arith, more)) high) g.longest.spells;
        })
        spans (inr inside) = no_front.none (length g.spelled) g.value (omega (arith, inside, high)) (subst (λ s. SpellsToken s g.value) (spelled_is ∙ take_cut r m inside high) g.longest.spells)

    nothing_at_all : (ts : List PlacedToken) → SpellsRuleTokens place r ts → ⊥
    nothing_at_all ts h = no_front.none (length g.spelled) g.value (omega (arith, size)) (subst (λ s. SpellsToken s g.value) spelled_is g.longest.spells)
      where
        g : FirstToken place r ts
        g = first_token starts h

        size : length g.spelled + length g.rest ≡ length r
        size = sym (length-append g.spelled g.rest) ∙ ap length (sym g.longest.split)

        spelled_is : g.spelled ≡ take (length g.spelled) r
        spelled_is = sym (take_at g.spelled g.rest (length g.spelled) refl) ∙ ap (take (length g.spelled)) (sym g.longest.split)

    at_zero : j ≤ 0 → 0 ≡ j
    at_zero none = omega (arith, none)

    by : (0 < j) ⊎ (j ≤ 0) → Refused place r j
    by (inl some) =
        let b = no_front.begins some in
        record {
          spells_nothing = nothing_at_all;
          within = no_front.within;
          more = b.more;
          tokens = record { at = place; spelled = take j r ++ b.more; token = b.token } ∷ [];
          spells = token (take j r ++ b.more) b.token (record {
            split = sym (append-nil (take j r ++ b.more));
            spells = b.spells;
            none_longer = λ n u low high h. omega (arith, low, high);
          }) at_end;
          at_start = λ e. absurd (omega (arith, e, some));
          at_letter = λ letter. some;
          one_letter = λ letter e. absurd (no_front.no_letter letter);
          longest = λ n low high m ts h. nothing_here n (omega (arith, low)) high low m ts h;
        }
    by (inr none) = record {
      spells_nothing = nothing_at_all;
      within = no_front.within;
      more = [];
      tokens = [];
      spells = subst (λ k. SpellsRuleTokens place (take k r ++ []) []) (at_zero none) at_end;
      at_start = λ e. refl;
      at_letter = λ letter. absurd (no_front.no_letter letter);
      one_letter = λ letter e. refl;
      longest = λ n low high m ts h. nothing_here n (omega (arith, low)) high low m ts h;
    }
