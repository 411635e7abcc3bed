-- What a match of a pattern says of its first byte, and the laws of matches.
use Rattle.std.proofs.Common.{◌≡◌, ◌≢◌, ℕ, List, [], ◌∷◌, ◌++◌, refl, sym, ap, subst, ◌∙◌, inl, inr}
use Rattle.std.specs.Prelude.{◌⊎◌, ◌↔◌, ◌==◌, true, false}
use Rattle.std.proofs.lemmas.Bool.Decides.{eqb_tells}
use Rattle.std.proofs.lemmas.List.{append_assoc, append-nil}
use Rattle.std.specs.List.{AllByRecursion}
use Rattle.rule_like.specs.Patterns.{Matches, MatchesInTwo, nothing, this_byte, one_byte, any_bytes, star_piece, sql_piece}
use Rattle.rule_like.specs.Moves.{TakesByte}
use Rattle.rule_like.specs.declared.piece.Piece.{Piece}
use Rattle.rule_like.specs.declared.piece.Piece.TheVariants.{AnyBytes, Byte}

-- some front is passed, and the rest of the text matches the rest of the pattern
pub record Passed (m : ℕ → Piece) (all pattern : List ℕ) : Type 0 where
  pub before : List ℕ
  pub rest : List ℕ
  pub split : all ≡ before ++ rest
  pub matches : Matches m rest pattern

pub at_wildcard : {m : ℕ → Piece} {c : ℕ} {all pattern : List ℕ} → m c ≡ AnyBytes → Matches m all (c ∷ pattern) → Passed m all pattern
at_wildcard any (this_byte is more) = absurd (cc)
at_wildcard any (one_byte is more) = absurd (cc)
at_wildcard any (any_bytes before is split more) = record { before = before; rest = _; split = split; matches = more }

-- a pattern's byte that stands for one byte takes one
pub at_byte : {m : ℕ → Piece} {b c : ℕ} {text pattern : List ℕ} → (m c ≡ AnyBytes → ⊥) → Matches m (b ∷ text) (c ∷ pattern) → TakesByte (m c) b × Matches m text pattern
at_byte not_any (this_byte is more) = (inr is, more)
at_byte not_any (one_byte is more) = (inl is, more)
at_byte not_any (any_bytes before is split more) = absurd (not_any is)

pub no_text : {m : ℕ → Piece} {c : ℕ} {pattern : List ℕ} → (m c ≡ AnyBytes → ⊥) → Matches m [] (c ∷ pattern) → ⊥
no_text not_any (any_bytes before is split more) = not_any is

pub no_pattern : {m : ℕ → Piece} {b : ℕ} {text : List ℕ} → Matches m (b ∷ text) [] → ⊥
no_pattern h = elim h [ ]

pub past_byte : {m : ℕ → Piece} {b c : ℕ} {text pattern : List ℕ} → TakesByte (m c) b → Matches m text pattern → Matches m (b ∷ text) (c ∷ pattern)
past_byte (inl one) more = one_byte one more
past_byte (inr this) more = this_byte this more

-- ---- patterns that stand for themselves

pub takes_itself : {m : ℕ → Piece} (pattern : List ℕ) → AllByRecursion (λ c. m c ≡ Byte c) pattern → Matches m pattern pattern
takes_itself [] plain = nothing
takes_itself (c ∷ pattern) plain = this_byte plain.0 (takes_itself pattern plain.1)

pub is_itself : {m : ℕ → Piece} {text pattern : List ℕ} → AllByRecursion (λ c. m c ≡ Byte c) pattern → Matches m text pattern → text ≡ pattern
is_itself plain nothing = refl
is_itself plain (this_byte is more) =
    let rest = is_itself plain.1 more in
    let same = plain.0 in
    cc
is_itself plain (one_byte is more) = let same = plain.0 in absurd (cc)
is_itself plain (any_bytes before is split more) = let same = plain.0 in absurd (cc)

-- ---- two patterns one after the other

pub in_two : {m : ℕ → Piece} {text : List ℕ} (first second : List ℕ) → Matches m text (first ++ second) → MatchesInTwo m text first second
in_two [] second h = record { front = []; back = _; split = refl; matches_first = nothing; matches_second = h }
in_two (c ∷ first) second (this_byte {b = b} is more) =
    let rest = in_two first second more in
    record { front = b ∷ rest.front; back = rest.back; split = ap (λ t. b ∷ t) rest.split; matches_first = this_byte is rest.matches_first; matches_second = rest.matches_second }
in_two (c ∷ first) second (one_byte {b = b} is more) =
    let rest = in_two first second more in
    record { front = b ∷ rest.front; back = rest.back; split = ap (λ t. b ∷ t) rest.split; matches_first = one_byte is rest.matches_first; matches_second = rest.matches_second }
in_two (c ∷ first) second (any_bytes before is split more) =
    let rest = in_two first second more in
    record {
      front = before ++ rest.front;
      back = rest.back;
      split = split ∙ ap (λ t. before ++ t) rest.split ∙ sym (append_assoc before rest.front rest.back);
      matches_first = any_bytes before is refl rest.matches_first;
      matches_second = rest.matches_second;
    }

of_two : {m : ℕ → Piece} {front first : List ℕ} (back second : List ℕ) → Matches m front first → Matches m back second → Matches m (front ++ back) (first ++ second)
of_two back second nothing h = h
of_two back second (this_byte is more) h = this_byte is (of_two back second more h)
of_two back second (one_byte is more) h = one_byte is (of_two back second more h)
of_two back second (any_bytes {rest = rest} before is split more) h =
    any_bytes before is (ap (λ t. t ++ back) split ∙ append_assoc before rest back) (of_two back second more h)

pub from_two : {m : ℕ → Piece} {text first second : List ℕ} → MatchesInTwo m text first second → Matches m text (first ++ second)
from_two {m = m} {first = first} {second = second} h =
    subst (λ t. Matches m t (first ++ second)) (sym h.split) (of_two h.back second h.matches_first h.matches_second)

-- a wildcard for any bytes alone
pub takes_all : {m : ℕ → Piece} (c : ℕ) (text : List ℕ) → m c ≡ AnyBytes → Matches m text (c ∷ [])
takes_all c text is = any_bytes text is (sym (append-nil text)) nothing

-- ---- bytes that are no wildcards

-- what each byte of the pattern is tested for gives that it stands for itself
pub each_itself : {m : ℕ → Piece} {P : ℕ → Type 0} (pattern : List ℕ) → ((c : ℕ) → P c → m c ≡ Byte c) → AllByRecursion P pattern → AllByRecursion (λ c. m c ≡ Byte c) pattern
each_itself [] each all = all
each_itself (c ∷ pattern) each all = (each c all.0, each_itself pattern each all.1)

pub plain_star : (c : ℕ) → c ≢ 0x2A → star_piece c ≡ Byte c
plain_star c other = by (eqb_tells c 0x2A)
  where
    by : (((c == 0x2A) ≡ true) × (c ≡ 0x2A)) ⊎ (((c == 0x2A) ≡ false) × (c ≢ 0x2A)) → star_piece c ≡ Byte c
    by (inl same) = absurd (other same.1)
    by (inr apart) = rw (apart.0)

pub plain_sql : (c : ℕ) → (c ≢ 0x25) × (c ≢ 0x5F) → sql_piece c ≡ Byte c
plain_sql c other = by (eqb_tells c 0x25) (eqb_tells c 0x5F)
  where
    by : (((c == 0x25) ≡ true) × (c ≡ 0x25)) ⊎ (((c == 0x25) ≡ false) × (c ≢ 0x25)) → (((c == 0x5F) ≡ true) × (c ≡ 0x5F)) ⊎ (((c == 0x5F) ≡ false) × (c ≢ 0x5F)) → sql_piece c ≡ Byte c
    by (inl same) any = absurd (other.0 same.1)
    by (inr apart) (inl same) = absurd (other.1 same.1)
    by (inr apart) (inr also) = rw (apart.0, also.0)

-- a pattern without wildcards matches itself alone
pub matches_itself : {m : ℕ → Piece} {P : ℕ → Type 0} → ((c : ℕ) → P c → m c ≡ Byte c) → (text pattern : List ℕ) → AllByRecursion P pattern → Matches m text pattern ↔ (text ≡ pattern)
matches_itself {m = m} each text pattern all =
    let plain = each_itself pattern each all in
    (λ h. is_itself plain h, λ same. subst (λ t. Matches m t pattern) (sym same) (takes_itself pattern plain))
