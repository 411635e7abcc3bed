-- Literals, read from piece to piece.
use Rattle.std.proofs.Common.{◌≡◌, ℕ, [], ◌∷◌, ◌++◌, refl, sym, ap, subst, ◌∙◌}
use Rattle.std.proofs.lemmas.Bool.{both_ways}
use Rattle.std.proofs.lemmas.List.{append_assoc}
use Rattle.grid_model.specs.Names.{Text}
use Rattle.grid_model.specs.QueryTokens.{quote_follows, Closes, closed, plain, twice}
use Rattle.query_parse.specs.Seen.{SpellsLiteralByte, itself, doubled}

pub head_is : {a b : ℕ} {s t : Text} → a ∷ s ≡ b ∷ t → a ≡ b
head_is e = cc

pub tail_is : {a b : ℕ} {s t : Text} → a ∷ s ≡ b ∷ t → s ≡ t
tail_is e = cc

-- what stands behind the opening apostrophe is closed as its rest is, behind the bytes that were read
pub record Reaches (behind inner rest : Text) : Type 0 where
  pub lifts : (more left : Text) → Closes rest more left → Closes behind (inner ++ more) left
  pub lowers : (whole left : Text) → Closes behind whole left → (more : Text) × Closes rest more left

pub reaches_none : (behind : Text) → Reaches behind [] behind
reaches_none behind = record { lifts = λ more left h. h; lowers = λ whole left h. (whole, h) }

-- where a text begins with one apostrophe and no second, the literal is closed there
pub closes_behind : {b : ℕ} {rest more whole left : Text} → SpellsLiteralByte rest b more → Closes rest whole left → (later : Text) × Closes more later left
closes_behind (itself is differs) (closed e open_still) = absurd (differs (head_is (sym is ∙ e)))
closes_behind {left = left} (itself is differs) (plain {inner = inner} c e different h) = (inner, subst (λ t. Closes t inner left) (tail_is (sym e ∙ is)) h)
closes_behind (itself is differs) (twice e h) = absurd (differs (head_is (sym is ∙ e)))
closes_behind (doubled is b_is) (closed {rest = rest} e open_still) = absurd (both_ways (quote_follows rest) open_still (ap quote_follows (tail_is (sym e ∙ is))))
closes_behind (doubled is b_is) (plain c e different h) = absurd (different (head_is (sym e ∙ is)))
closes_behind {left = left} (doubled is b_is) (twice {inner = inner} e h) = (inner, subst (λ t. Closes t inner left) (tail_is (tail_is (sym e ∙ is))) h)

pub closes_before : {b : ℕ} {rest more : Text} → SpellsLiteralByte rest b more → (inner left : Text) → Closes more inner left → Closes rest (b ∷ inner) left
closes_before {b = b} (itself is differs) inner left h = plain b is differs h
closes_before {rest = rest} (doubled is b_is) inner left h = subst (λ x. Closes rest (x ∷ inner) left) (sym b_is) (twice is h)

pub reaches_more : {behind inner rest more : Text} (b : ℕ) → Reaches behind inner rest → SpellsLiteralByte rest b more → Reaches behind (inner ++ b ∷ []) more
reaches_more {behind = behind} {inner = inner} b reached stands = record {
  lifts = λ later left h. subst (λ t. Closes behind t left) (sym (append_assoc inner (b ∷ []) later)) (reached.lifts (b ∷ later) left (closes_before stands later left h));
  lowers = λ whole left h. closes_behind stands (reached.lowers whole left h).1;
}

-- one reading of what follows an opening apostrophe
pub record SameLiteral (inner other rest left : Text) : Type 0 where
  pub inner_is : inner ≡ other
  pub rest_is : rest ≡ left

pub one_literal : {text inner other rest left : Text} → Closes text inner rest → Closes text other left → SameLiteral inner other rest left
one_literal (closed e open_still) (closed f open_too) = record { inner_is = refl; rest_is = tail_is (sym e ∙ f) }
one_literal (closed e open_still) (plain b f differs h) = absurd (differs (head_is (sym f ∙ e)))
one_literal (closed {rest = rest} e open_still) (twice f h) = absurd (both_ways (quote_follows rest) open_still (ap quote_follows (tail_is (sym e ∙ f))))
one_literal (plain b e differs h) (closed f open_too) = absurd (differs (head_is (sym e ∙ f)))
one_literal {left = left} (plain {inner = inner} b e differs h) (plain {inner = later} k f differs_too g) =
    let rest = one_literal h (subst (λ t. Closes t later left) (tail_is (sym f ∙ e)) g) in
    record { inner_is = ap (λ x. x ∷ inner) (head_is (sym e ∙ f)) ∙ ap (λ t. k ∷ t) rest.inner_is; rest_is = rest.rest_is }
one_literal (plain b e differs h) (twice f g) = absurd (differs (head_is (sym e ∙ f)))
one_literal (twice e h) (closed {rest = rest} f open_too) = absurd (both_ways (quote_follows rest) open_too (ap quote_follows (tail_is (sym f ∙ e))))
one_literal (twice e h) (plain b f differs g) = absurd (differs (head_is (sym f ∙ e)))
one_literal {left = left} (twice e h) (twice {inner = later} f g) =
    let rest = one_literal h (subst (λ t. Closes t later left) (tail_is (tail_is (sym f ∙ e))) g) in
    record { inner_is = ap (λ t. 0x27 ∷ t) rest.inner_is; rest_is = rest.rest_is }

-- nothing closes the end of a text
pub never_closed : {inner left : Text} → Closes [] inner left → ⊥
never_closed (closed e open_still) = cc
never_closed (plain b e differs h) = cc
never_closed (twice e h) = cc
