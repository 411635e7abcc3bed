-- A search for a match that goes back to the last wildcard for any bytes alone.
use Rattle.std.proofs.Common.{◌≡◌, ℕ, ◌+◌, ◌-◌, ◌*◌, ◌<◌, ◌≤◌, List, [], ◌∷◌, ◌++◌, Option, Some, None, length, take, drop, refl, sym, ap, subst, ◌∙◌, inl, inr, ⊎_elim, arith}
use Rattle.std.specs.Prelude.{◌⊎◌, slice_index}
use Rattle.std.proofs.lemmas.List.{drop_more, drop_all, drop-drop, length-drop, length-append, drop_at, take-append-drop}
use Rattle.rule_like.specs.Patterns.{Matches, any_bytes, nothing}
use Rattle.rule_like.specs.Moves.{TakesByte}
use Rattle.rule_like.specs.declared.piece.Piece.{Piece}
use Rattle.rule_like.specs.declared.piece.Piece.TheVariants.{AnyBytes, Byte}
use Rattle.rule_like.specs.declared.search.Places.{Places}
use Rattle.std.proofs.lemmas.Bool.{cases_lt}
use Rattle.std.proofs.Math.Nat.{mul-le-mul_right}
use Rattle.rule_like.proofs.Matching.{Passed, at_wildcard, at_byte, no_text, no_pattern, past_byte}

one_less : (a b w x y : ℕ) → b ≡ a + 1 → x < w → a * w + x < b * w + y
one_less a b w x y e low = omega (arith, ap (λ k. k * w) e, low)

module _ (m : ℕ → Piece) (text pattern : List ℕ) where
  -- the rests of text and pattern at these places match
  abbrev pub MatchesAt : ℕ → ℕ → Type 0
  MatchesAt t p = Matches m (drop t text) (drop p pattern)

  -- the rest of the pattern matches a rest of the text from a later place on
  pub record Later (t p : ℕ) : Type 0 where
    pub place : ℕ
    pub after : t < place
    pub within : place ≤ length text
    pub matches : MatchesAt place p

  -- what is known where the search went on from these places
  pub record Tried (from at : Places) : Type 0 where
    pub text_below : from.text ≤ at.text
    pub pattern_below : from.pattern ≤ at.pattern
    pub sound : Later from.text from.pattern → Matches m text pattern
    pub complete : Matches m text pattern → MatchesAt at.text at.pattern ⊎ Later from.text from.pattern
    pub moves : Later from.text from.pattern → Later at.text at.pattern

  abbrev pub Remembers : Places → Option Places → Type 0
  Remembers at None = Matches m text pattern → MatchesAt at.text at.pattern
  Remembers at (Some from) = Tried from at

  -- what holds before each move of the search
  pub record Searched (at : Places) (retry : Option Places) : Type 0 where
    pub text_in : at.text ≤ length text
    pub pattern_in : at.pattern ≤ length pattern
    pub sound : MatchesAt at.text at.pattern → Matches m text pattern
    pub remembers : Remembers at retry

  -- how much of the text the remembered place has tried
  abbrev pub tried_of : Option Places → ℕ
  tried_of None = 0
  tried_of (Some from) = from.text + 1

  -- the moves that are left, at most
  abbrev pub moves_left : Places → Option Places → ℕ
  moves_left at retry = (length text + 1 - tried_of retry) * (length pattern + 1) + (length pattern - at.pattern)

  -- ---- the rests at a place

  pattern_at : {p : ℕ} → p < length pattern → drop p pattern ≡ slice_index pattern p ∷ drop (p + 1) pattern
  pattern_at {p} low = drop_more pattern p 0 low

  text_at : {t : ℕ} → t < length text → drop t text ≡ slice_index text t ∷ drop (t + 1) text
  text_at {t} low = drop_more text t 0 low

  not_any : {c b : ℕ} → TakesByte (m c) b → m c ≡ AnyBytes → ⊥
  not_any (inl one) any = cc
  not_any (inr this) any = cc

  -- a byte that stands for this one is passed, and by each match
  pub into_byte : (t p : ℕ) → t < length text → p < length pattern → TakesByte (m (slice_index pattern p)) (slice_index text t) → MatchesAt (t + 1) (p + 1) → MatchesAt t p
  into_byte t p t_low p_low stands h =
      subst (λ s. Matches m s (drop p pattern)) (sym (text_at t_low))
      (subst (λ q. Matches m (slice_index text t ∷ drop (t + 1) text) q) (sym (pattern_at p_low)) (past_byte stands h))

  out_of_byte : (t p : ℕ) → t < length text → p < length pattern → (m (slice_index pattern p) ≡ AnyBytes → ⊥) → MatchesAt t p → TakesByte (m (slice_index pattern p)) (slice_index text t) × MatchesAt (t + 1) (p + 1)
  out_of_byte t p t_low p_low sure h =
      at_byte sure (subst (λ s. Matches m s (slice_index pattern p ∷ drop (p + 1) pattern)) (text_at t_low)
      (subst (λ q. Matches m (drop t text) q) (pattern_at p_low) h))

  past_end : (t p : ℕ) → length text ≤ t → p < length pattern → (m (slice_index pattern p) ≡ AnyBytes → ⊥) → MatchesAt t p → ⊥
  past_end t p t_high p_low sure h =
      no_text sure (subst (λ s. Matches m s (slice_index pattern p ∷ drop (p + 1) pattern)) (drop_all t text t_high)
      (subst (λ q. Matches m (drop t text) q) (pattern_at p_low) h))

  -- a later match passes such a byte too
  later_past : (t p : ℕ) → p < length pattern → (m (slice_index pattern p) ≡ AnyBytes → ⊥) → Later t p → Later (t + 1) (p + 1)
  later_past t p p_low sure l = by (cases_lt l.place (length text))
    where
      by : (l.place < length text) ⊎ (length text ≤ l.place) → Later (t + 1) (p + 1)
      by (inl low) = record { place = l.place + 1; after = omega (arith, l.after); within = omega (arith, low); matches = (out_of_byte l.place p low p_low sure l.matches).1 }
      by (inr high) = absurd (past_end l.place p high p_low sure l.matches)

  -- a wildcard takes nothing or what is up to a later place
  into_here : (t p : ℕ) → p < length pattern → m (slice_index pattern p) ≡ AnyBytes → MatchesAt t (p + 1) → MatchesAt t p
  into_here t p p_low any h = subst (λ q. Matches m (drop t text) q) (sym (pattern_at p_low)) (any_bytes [] any refl h)

  into_later : (t p : ℕ) → p < length pattern → m (slice_index pattern p) ≡ AnyBytes → Later t (p + 1) → MatchesAt t p
  into_later t p p_low any l =
      subst (λ q. Matches m (drop t text) q) (sym (pattern_at p_low)) (any_bytes (take (l.place - t) (drop t text)) any split l.matches)
    where
      split : drop t text ≡ take (l.place - t) (drop t text) ++ drop l.place text
      split = sym (take-append-drop (l.place - t) (drop t text)) ∙ ap (λ s. take (l.place - t) (drop t text) ++ s) (drop-drop (l.place - t) t text ∙ ap (λ k. drop k text) (omega (arith, l.after)))

  out_of_wildcard : (t p : ℕ) → t ≤ length text → p < length pattern → m (slice_index pattern p) ≡ AnyBytes → MatchesAt t p → MatchesAt t (p + 1) ⊎ Later t (p + 1)
  out_of_wildcard t p t_in p_low any h = by (cases_lt 0 (length passed.before))
    where
      passed : Passed m (drop t text) (drop (p + 1) pattern)
      passed = at_wildcard any (subst (λ q. Matches m (drop t text) q) (pattern_at p_low) h)

      size : length passed.before + length passed.rest ≡ length text - t
      size = sym (length-append passed.before passed.rest) ∙ ap length (sym passed.split) ∙ length-drop t text

      rest_is : passed.rest ≡ drop (t + length passed.before) text
      rest_is = sym (drop_at passed.before passed.rest (length passed.before) refl) ∙ ap (drop (length passed.before)) (sym passed.split) ∙ drop-drop (length passed.before) t text

      there : MatchesAt (t + length passed.before) (p + 1)
      there = subst (λ s. Matches m s (drop (p + 1) pattern)) rest_is passed.matches

      by : (0 < length passed.before) ⊎ (length passed.before ≤ 0) → MatchesAt t (p + 1) ⊎ Later t (p + 1)
      by (inl some) = inr (record { place = t + length passed.before; after = omega (arith, some); within = omega (arith, size, t_in); matches = there })
      by (inr none) = inl (subst (λ k. MatchesAt k (p + 1)) (omega (arith, none)) there)

  later_wildcard : (t p : ℕ) → p < length pattern → m (slice_index pattern p) ≡ AnyBytes → Later t p → Later t (p + 1)
  later_wildcard t p p_low any l = by (out_of_wildcard l.place p l.within p_low any l.matches)
    where
      by : MatchesAt l.place (p + 1) ⊎ Later l.place (p + 1) → Later t (p + 1)
      by (inl here) = record { place = l.place; after = l.after; within = l.within; matches = here }
      by (inr later) = record { place = later.place; after = omega (arith, l.after, later.after); within = later.within; matches = later.matches }

  -- ---- the moves

  pub start : (at : Places) → at.text ≡ 0 → at.pattern ≡ 0 → Searched at None
  start at t p = record {
    text_in = omega (arith, t);
    pattern_in = omega (arith, p);
    sound = λ h. subst (λ k. Matches m (drop k text) pattern) t (subst (λ k. Matches m (drop at.text text) (drop k pattern)) p h);
    remembers = λ h. subst (λ k. Matches m (drop at.text text) (drop k pattern)) (sym p) (subst (λ k. Matches m (drop k text) pattern) (sym t) h);
  }

  pub after_byte : (at next : Places) (retry : Option Places) → Searched at retry → at.text < length text → at.pattern < length pattern → TakesByte (m (slice_index pattern at.pattern)) (slice_index text at.text)
      → next.text ≡ at.text + 1 → next.pattern ≡ at.pattern + 1 → Searched next retry
  after_byte at next retry s t_low p_low stands t p = record {
    text_in = omega (arith, t, t_low);
    pattern_in = omega (arith, p, p_low);
    sound = λ h. s.sound (into_byte at.text at.pattern t_low p_low stands (back h));
    remembers = by retry s.remembers;
  }
    where
      sure : m (slice_index pattern at.pattern) ≡ AnyBytes → ⊥
      sure = not_any stands

      back : MatchesAt next.text next.pattern → MatchesAt (at.text + 1) (at.pattern + 1)
      back h = subst (λ k. MatchesAt k (at.pattern + 1)) t (subst (λ k. MatchesAt next.text k) p h)

      forth : MatchesAt at.text at.pattern → MatchesAt next.text next.pattern
      forth h = subst (λ k. MatchesAt next.text k) (sym p) (subst (λ k. MatchesAt k (at.pattern + 1)) (sym t) (out_of_byte at.text at.pattern t_low p_low sure h).1)

      later : Later at.text at.pattern → Later next.text next.pattern
      later l = subst (λ k. Later next.text k) (sym p) (subst (λ k. Later k (at.pattern + 1)) (sym t) (later_past at.text at.pattern p_low sure l))

      by : (r : Option Places) → Remembers at r → Remembers next r
      by None h = λ whole. forth (h whole)
      by (Some from) h = record {
        text_below = omega (arith, t, h.text_below);
        pattern_below = omega (arith, p, h.pattern_below);
        sound = h.sound;
        complete = λ whole. ⊎_elim (λ here. inl (forth here)) (λ there. inr there) (h.complete whole);
        moves = λ l. later (h.moves l);
      }

  pub after_wildcard : (at next : Places) (retry : Option Places) → Searched at retry → at.pattern < length pattern → m (slice_index pattern at.pattern) ≡ AnyBytes
      → next.text ≡ at.text → next.pattern ≡ at.pattern + 1 → Searched next (Some next)
  after_wildcard at next retry s p_low any t p = record {
    text_in = omega (arith, t, s.text_in);
    pattern_in = omega (arith, p, p_low);
    sound = λ h. s.sound (into_here at.text at.pattern p_low any (back h));
    remembers = record {
      text_below = omega arith;
      pattern_below = omega arith;
      sound = λ l. s.sound (into_later at.text at.pattern p_low any (later_back l));
      complete = λ whole. by retry s.remembers whole;
      moves = λ l. l;
    };
  }
    where
      back : MatchesAt next.text next.pattern → MatchesAt at.text (at.pattern + 1)
      back h = subst (λ k. MatchesAt k (at.pattern + 1)) t (subst (λ k. MatchesAt next.text k) p h)

      later_back : Later next.text next.pattern → Later at.text (at.pattern + 1)
      later_back l = subst (λ k. Later k (at.pattern + 1)) t (subst (λ k. Later next.text k) p l)

      forth : MatchesAt at.text (at.pattern + 1) ⊎ Later at.text (at.pattern + 1) → MatchesAt next.text next.pattern ⊎ Later next.text next.pattern
      forth (inl h) = inl (subst (λ k. MatchesAt next.text k) (sym p) (subst (λ k. MatchesAt k (at.pattern + 1)) (sym t) h))
      forth (inr l) = inr (subst (λ k. Later next.text k) (sym p) (subst (λ k. Later k (at.pattern + 1)) (sym t) l))

      here : MatchesAt at.text at.pattern → MatchesAt next.text next.pattern ⊎ Later next.text next.pattern
      here h = forth (out_of_wildcard at.text at.pattern s.text_in p_low any h)

      by : (r : Option Places) → Remembers at r → Matches m text pattern → MatchesAt next.text next.pattern ⊎ Later next.text next.pattern
      by None h whole = here (h whole)
      by (Some from) h whole = ⊎_elim here (λ l. forth (inr (later_wildcard at.text at.pattern p_low any (h.moves l)))) (h.complete whole)

  pub again : (at from next : Places) → Searched at (Some from) → (MatchesAt at.text at.pattern → ⊥) → from.text < length text
      → next.text ≡ from.text + 1 → next.pattern ≡ from.pattern → Searched next (Some next)
  again at from next s stuck low t p = record {
    text_in = omega (arith, t, low);
    pattern_in = omega (arith, p, s.pattern_in, s.remembers.pattern_below);
    sound = λ h. s.remembers.sound (record { place = next.text; after = omega (arith, t); within = omega (arith, t, low); matches = subst (λ k. MatchesAt next.text k) p h });
    remembers = record {
      text_below = omega arith;
      pattern_below = omega arith;
      sound = λ l. s.remembers.sound (record { place = l.place; after = omega (arith, t, l.after); within = l.within; matches = subst (λ k. MatchesAt l.place k) p l.matches });
      complete = λ whole. ⊎_elim (λ h. absurd (stuck h)) one_more (s.remembers.complete whole);
      moves = λ l. l;
    };
  }
    where
      one_more : Later from.text from.pattern → MatchesAt next.text next.pattern ⊎ Later next.text next.pattern
      one_more l = by (cases_lt next.text l.place)
        where
          there : MatchesAt l.place next.pattern
          there = subst (λ k. MatchesAt l.place k) (sym p) l.matches

          by : (next.text < l.place) ⊎ (l.place ≤ next.text) → MatchesAt next.text next.pattern ⊎ Later next.text next.pattern
          by (inl after) = inr (record { place = l.place; after = after; within = l.within; matches = there })
          by (inr same) = inl (subst (λ k. MatchesAt k next.pattern) (omega (arith, t, same, l.after)) there)

  -- ---- fewer moves are left after each

  pub fewer_after_wildcard : (at next : Places) (retry : Option Places) → Searched at retry → at.pattern < length pattern → next.text ≡ at.text → next.pattern ≡ at.pattern + 1 → moves_left next (Some next) < moves_left at retry
  fewer_after_wildcard at next retry s p_low t p = by retry s.remembers
    where
      by : (r : Option Places) → Remembers at r → moves_left next (Some next) < moves_left at r
      by None h = omega (arith, t, p, p_low, s.text_in, mul-le-mul_right (length pattern + 1) (less next.text))
        where
          less : (k : ℕ) → length text + 1 - (k + 1) ≤ length text + 1 - 0
          less k = omega arith
      by (Some from) h = omega (arith, t, p, p_low, s.text_in, mul-le-mul_right (length pattern + 1) less)
        where
          less : length text + 1 - (next.text + 1) ≤ length text + 1 - (from.text + 1)
          less = omega (arith, t, h.text_below)

  pub fewer_again : (at from next : Places) → Searched at (Some from) → from.text < length text → next.text ≡ from.text + 1 → next.pattern ≡ from.pattern → moves_left next (Some next) < moves_left at (Some from)
  fewer_again at from next s low t p = one_less _ _ (length pattern + 1) _ _ (omega (arith, t, low)) (omega arith)

  -- ---- the ends

  pub found : (at : Places) (retry : Option Places) → Searched at retry → at.text ≡ length text → at.pattern ≡ length pattern → Matches m text pattern
  found at retry s t p = s.sound
      (subst (λ q. Matches m (drop at.text text) q) (sym (drop_all at.pattern pattern (omega (arith, p))))
      (subst (λ q. Matches m q []) (sym (drop_all at.text text (omega (arith, t)))) nothing))

  pub none_left : (at : Places) → Searched at None → (MatchesAt at.text at.pattern → ⊥) → Matches m text pattern → ⊥
  none_left at s stuck whole = stuck (s.remembers whole)

  pub none_later : (at from : Places) → Searched at (Some from) → (MatchesAt at.text at.pattern → ⊥) → from.text ≡ length text → Matches m text pattern → ⊥
  none_later at from s stuck end whole = ⊎_elim stuck (λ l. omega (arith, end, l.after, l.within)) (s.remembers.complete whole)

  pub stuck_at_end : (at : Places) → at.text < length text → at.pattern ≡ length pattern → MatchesAt at.text at.pattern → ⊥
  stuck_at_end at t_low p h = no_pattern (subst (λ s. Matches m s []) (text_at t_low) (subst (λ q. Matches m (drop at.text text) q) (drop_all at.pattern pattern (omega (arith, p))) h))

  pub stuck_at_byte : (at : Places) (byte : ℕ) → at.text < length text → at.pattern < length pattern → Byte byte ≡ m (slice_index pattern at.pattern) → (byte ≡ slice_index text at.text → ⊥) → MatchesAt at.text at.pattern → ⊥
  stuck_at_byte at byte t_low p_low is other h = by (out_of_byte at.text at.pattern t_low p_low (λ any. cc) h).0
    where
      by : TakesByte (m (slice_index pattern at.pattern)) (slice_index text at.text) → ⊥
      by (inl one) = cc
      by (inr this) = other (cc)
