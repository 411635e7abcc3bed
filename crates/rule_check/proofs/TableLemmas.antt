-- The tables of names, one name more.
use Rattle.std.proofs.Common.{◌≡◌, ℕ, ◌+◌, ◌<◌, Bool, true, false, not, ◌||◌, cond, List, [], ◌∷◌, ◌++◌, length, map, take, get_or, Option, Some, None, refl, sym, ap, ◌∙◌}
use Rattle.std.proofs.lemmas.Bool.Decides.{same_from_decides, Decides-like}
use Rattle.std.proofs.lemmas.List.{take_more, map-append}
use Rattle.std.proofs.lemmas.Map.Text.{hash_map_updates_str}
use Rattle.std.specs.Borrow.{Bor}
use Rattle.std.specs.Str.{bytes_eq}
use Rattle.std.specs.HashMap as hash
use Rattle.std.specs.HashSet as bag
use Rattle.std.specs.Cmp.Lexicographic.{texts_ties}
use Rattle.grid_model.proofs.Comparing.{same_text-Decides}
use Rattle.grid_model.specs.Checks.{is_one_of, params_of, repeats}
use Rattle.grid_model.specs.Names.{Text, same_text}
use Rattle.grid_model.specs.Parsed.{plain_rule, rule_of}
use Rattle.grid_model.specs.RuleText as meaning
use Rattle.grid_model.specs.declared.rules.Rule.{Rule}
use Rattle.rule_check.specs.Tables.{NumbersByName, NameSet, count_at, is_in_set, without_places, CountsRules, HasTexts, or_else, AddsName, AddsText}

ties : (a b : Text) → bytes_eq a b ≡ same_text a b
ties a b = texts_ties a b

pub same_text-comm : (a b : Text) → same_text a b ≡ same_text b a
same_text-comm a b = same_from_decides (same_text a b) (same_text b a) (same_text-Decides a b) (Decides-like (same_text b a) (λ e. sym e) (λ e. sym e) (same_text-Decides b a))

-- ---- sets

twice : (x : Bool) → not (not x) ≡ x
twice true = refl
twice false = refl

or_cond : (x b : Bool) → cond b true x ≡ (x || b)
or_cond true true = refl
or_cond true false = refl
or_cond false true = refl
or_cond false false = refl

pub text_added : (old new : NameSet) (text : Text) → ((q : Bor Text) → bag.contains (λ x y. bytes_eq x.now y.now) new q ≡ cond (bytes_eq text q.now) true (bag.contains (λ x y. bytes_eq x.now y.now) old q)) → AddsText old text new
text_added old new text h = record {
  same = λ n.
      h (record { ref_ptr = (0, 0); now = n })
      ∙ or_cond (is_in_set old n) (bytes_eq text n)
      ∙ ap (λ b. is_in_set old n || b) (ties text n ∙ same_text-comm text n);
}

or_false : (x : Bool) → (x || false) ≡ x
or_false true = refl
or_false false = refl

or_assoc : (x y z : Bool) → ((x || y) || z) ≡ (x || (y || z))
or_assoc true y z = refl
or_assoc false y z = refl

is_one_of-push : (ts : List Text) (t n : Text) → is_one_of (ts ++ t ∷ []) n ≡ (is_one_of ts n || same_text n t)
is_one_of-push [] t n = or_false (same_text n t)
is_one_of-push (x ∷ ts) t n = ap (λ b. same_text n x || b) (is_one_of-push ts t n) ∙ sym (or_assoc (same_text n x) (is_one_of ts n) (same_text n t))

-- four tests, the middle ones the other way round
or_swap : (a b c d : Bool) → ((a || b) || (c || d)) ≡ ((a || c) || (b || d))
or_swap true b c d = refl
or_swap false true true d = refl
or_swap false true false d = refl
or_swap false false c d = refl

repeats-push : (ts : List Text) (t : Text) → repeats (ts ++ t ∷ []) ≡ (repeats ts || is_one_of ts t)
repeats-push [] t = refl
repeats-push (x ∷ ts) t =
    ap (λ b. b || repeats (ts ++ t ∷ [])) (is_one_of-push ts t x)
    ∙ ap (λ b. (is_one_of ts x || same_text x t) || b) (repeats-push ts t)
    ∙ or_swap (is_one_of ts x) (same_text x t) (repeats ts) (is_one_of ts t)
    ∙ ap (λ b. (is_one_of ts x || repeats ts) || (b || is_one_of ts t)) (same_text-comm x t)

pub texts_more : (old new : NameSet) (ts : List Text) (i : ℕ) (t : Text) → i < length ts → t ≡ get_or ts i t → HasTexts old (take i ts) → AddsText old t new → HasTexts new (take (i + 1) ts)
texts_more old new ts i t lt is has adds = record {
  same = λ n.
      adds.same n
      ∙ ap (λ b. b || same_text n t) (has.same n)
      ∙ sym (ap (λ l. is_one_of l n) (take_more ts i t lt ∙ ap (λ x. take i ts ++ x ∷ []) (sym is)) ∙ is_one_of-push (take i ts) t n);
}

pub repeats_more : (old : NameSet) (ts : List Text) (i : ℕ) (t : Text) (b fresh : Bool) → i < length ts → t ≡ get_or ts i t → HasTexts old (take i ts) → b ≡ repeats (take i ts) → fresh ≡ not (is_in_set old t) → (b || not fresh) ≡ repeats (take (i + 1) ts)
repeats_more old ts i t b fresh lt is has b_is fresh_is =
    let seen : not fresh ≡ is_one_of (take i ts) t = ap not fresh_is ∙ twice (is_in_set old t) ∙ has.same t in
    ap (λ x. x || not fresh) b_is
    ∙ ap (λ x. repeats (take i ts) || x) seen
    ∙ sym (ap repeats (take_more ts i t lt ∙ ap (λ x. take i ts ++ x ∷ []) (sym is)) ∙ repeats-push (take i ts) t)

-- ---- names

-- what is there stays
at_false : (o : Option ℕ) (count : ℕ) → o ≡ or_else o false count
at_false None count = refl
at_false (Some k) count = refl

with_name : (old : NumbersByName) (name : Text) (count : ℕ) (n : Text) (b : Bool) → same_text name n ≡ b → count_at old name ≡ None → cond b (Some count) (count_at old n) ≡ or_else (count_at old n) b count
with_name old name count n true same none = rw (ap (count_at old) (sym ((same_text-Decides name n).0 same)) ∙ none) refl
with_name old name count n false same none = at_false (count_at old n) count

pub name_added : (old new : NumbersByName) (name : Text) (count : ℕ) → count_at old name ≡ None → hash.UpdatesBy (λ x y. bytes_eq x.now y.now) (λ k. bytes_eq name k.now) old new (Some count) → AddsName old name count new
name_added old new name count none updates = record {
  same = λ n.
      hash_map_updates_str name old new (Some count) updates n
      ∙ ap (λ b. cond b (Some count) (count_at old n)) (ties name n)
      ∙ with_name old name count n (same_text name n) refl none;
}

kept : (old : NumbersByName) (name : Text) (count k : ℕ) (n : Text) (b : Bool) → same_text name n ≡ b → count_at old name ≡ Some k → count_at old n ≡ or_else (count_at old n) b count
kept old name count k n true same some = rw (ap (count_at old) (sym ((same_text-Decides name n).0 same)) ∙ some) refl
kept old name count k n false same some = at_false (count_at old n) count

pub name_kept : (old : NumbersByName) (name : Text) (count k : ℕ) → count_at old name ≡ Some k → AddsName old name count old
name_kept old name count k some = record { same = λ n. kept old name count k n (same_text name n) refl some }

first : (b : Bool) (k : ℕ) → (elim b as (λ _. Option ℕ) [ true ↦ Some k | false ↦ None ]) ≡ or_else None b k
first true k = refl
first false k = refl

at_rule : (k count : ℕ) (o : Option ℕ) (b c : Bool) → (elim b as (λ _. Option ℕ) [ true ↦ Some k | false ↦ or_else o c count ]) ≡ or_else (elim b as (λ _. Option ℕ) [ true ↦ Some k | false ↦ o ]) c count
at_rule k count o true c = refl
at_rule k count o false c = refl

params_of-push : (rs : List meaning.Rule) (r : meaning.Rule) (n : Text) → params_of (rs ++ r ∷ []) n ≡ or_else (params_of rs n) (same_text r.name n) (length r.params)
params_of-push [] r n = first (same_text r.name n) (length r.params)
params_of-push (x ∷ rs) r n =
    ap (λ o. elim (same_text x.name n) as (λ _. Option ℕ) [ true ↦ Some (length x.params) | false ↦ o ]) (params_of-push rs r n)
    ∙ at_rule (length x.params) (length r.params) (params_of rs n) (same_text x.name n) (same_text r.name n)

plain-push : (rs : List Rule) (r : Rule) → without_places (rs ++ r ∷ []) ≡ without_places rs ++ plain_rule (rule_of r) ∷ []
plain-push rs r = ap (map plain_rule) (map-append rule_of rs (r ∷ [])) ∙ map-append plain_rule (map rule_of rs) (rule_of r ∷ [])

pub counts_more : (old new : NumbersByName) (rs : List Rule) (i : ℕ) (r : Rule) → i < length rs → r ≡ get_or rs i r → CountsRules old (take i rs) → AddsName old r.name (length r.params) new → CountsRules new (take (i + 1) rs)
counts_more old new rs i r lt is counts adds = record {
  same = λ n.
      adds.same n
      ∙ ap (λ o. or_else o (same_text r.name n) (length r.params)) (counts.same n)
      ∙ sym (ap (λ l. params_of (without_places l) n) (take_more rs i r lt ∙ ap (λ x. take i rs ++ x ∷ []) (sym is))
      ∙ ap (λ l. params_of l n) (plain-push (take i rs) r) ∙ params_of-push (without_places (take i rs)) (plain_rule (rule_of r)) n);
}

-- the two ways of a disjunction
pub or_then : (b n x : Bool) → b ≡ true → x ≡ b → x ≡ (b || n)
or_then b n x is done = done ∙ is ∙ sym (ap (λ t. t || n) is)

pub or_later : (b n x : Bool) → b ≡ false → x ≡ n → x ≡ (b || n)
or_later b n x is done = done ∙ sym (ap (λ t. t || n) is)
