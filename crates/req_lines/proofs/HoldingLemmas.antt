-- What is heard of a request whose body is held.
use Rattle.std.proofs.Common.{◌≡◌, ℕ, Bool, true, false, [], length, refl, sym, subst, ap, ◌∙◌}
use Rattle.std.specs.Prelude.{nat_le, Result, Ok, Err, IfOk, MatchResult}
use Rattle.grid_model.specs.Names.{Text}
use Rattle.grid_model.specs.Limits.{object_size}
use Rattle.grid_model.specs.declared.requests.Request.{Request}
use Rattle.grid_model.specs.declared.refusal.Refusal.{Refusal}
use Rattle.grid_model.specs.declared.refusal.Refusal.TheVariants.{Truncated}
use Rattle.cmd_read.specs.Orders.{promised}
use Rattle.req_lines.specs.Reading.{Input, Passes}
use Rattle.req_lines.specs.Hearing.{IsReadAs, held_of, KeepsLine}
use Rattle.req_lines.specs.Heads.{IsHead, HearsBehind, asked_with, is_held, passed_so}
use Rattle.req_lines.specs.declared.head.Head.{Head}
use Rattle.req_lines.specs.declared.requests.Heard.{Heard}

-- all of a body, or nothing
abbrev all_or_none : Text → Bool → Text
all_or_none body b = elim b [ true ↦ body | false ↦ [] ]

-- what stands in the place of a body
abbrev Has : Text → Text → Result Request Refusal → Type 0
Has body b r = MatchResult r (λ request. b ≡ body) (λ refusal. b ≡ [])

held_is : (asked : Result Request Refusal) (count : ℕ) (body b : Text) (r : Result Request Refusal) → r ≡ asked_with asked count body → is_held asked count ≡ true → IfOk asked (λ q. promised q.verb ≡ count) → Has body b r
    → b ≡ held_of r body
held_is (Ok q) count body b r e held is has = by (nat_le count (length body)) e
  where
    by : (t : Bool) → r ≡ (elim t as (λ x. Result Request Refusal) [ true ↦ Ok q | false ↦ Err (Truncated (length body) count) ]) → b ≡ held_of r body
    by true e =
        let all : b ≡ body = subst (λ x. Has body b x) e has in
        let kept_all : held_of (Ok q) body ≡ body = ap (all_or_none body) (ap (λ (n : ℕ). nat_le n object_size) is ∙ held) in
        subst (λ x. b ≡ held_of x body) (sym e) (all ∙ sym kept_all)
    by false e = let none : b ≡ [] = subst (λ x. Has body b x) e has in subst (λ x. b ≡ held_of x body) (sym e) none
held_is (Err s) count body b r e held is has = absurd (cc held)

-- what a request keeps of its line is what its head has of it
pub keeps_so : (asked : Result Request Refusal) (count : ℕ) (body kept line text : Text) (r : Result Request Refusal) → r ≡ asked_with asked count body → KeepsLine asked kept line → KeepsLine r text kept → KeepsLine r text line
keeps_so (Ok q) count body kept line text r e keeps has = by (nat_le count (length body)) e
  where
    by : (t : Bool) → r ≡ (elim t as (λ x. Result Request Refusal) [ true ↦ Ok q | false ↦ Err (Truncated (length body) count) ]) → KeepsLine r text line
    by true e = let all : text ≡ kept = subst (λ x. KeepsLine x text kept) e has in subst (λ x. KeepsLine x text line) (sym e) (all ∙ keeps)
    by false e = let none : text ≡ [] = subst (λ x. KeepsLine x text kept) e has in subst (λ x. KeepsLine x text line) (sym e) none
keeps_so (Err s) count body kept line text r e keeps has = let none : text ≡ [] = subst (λ x. KeepsLine x text kept) e has in subst (λ x. KeepsLine x text line) (sym e) none

pub hears_held : (line : Text) (head : Head) (old new : Input) (heard : Heard) (ends : Bool) (body : Text) → IsHead line head → is_held head.asked head.count ≡ true → Passes old head.count (passed_so ends body) new body
    → heard.asked ≡ asked_with head.asked head.count body → Has body heard.body heard.asked → heard.ends ≡ ends → KeepsLine heard.asked heard.line head.line → HearsBehind line old new heard
hears_held line head old new heard ends body is held passes asked has same keeps = record {
  count = head.count;
  body = body;
  has = is.has;
  passes = subst (λ (b : Bool). Passes old head.count (passed_so b body) new body) (sym same) passes;
  read = subst (λ (a : Result Request Refusal). IsReadAs line body a) (sym asked) (is.reads body);
  held = held_is head.asked head.count body heard.body heard.asked asked held is.promises has;
  keeps = keeps_so head.asked head.count body head.line line heard.line heard.asked asked is.keeps keeps;
}

-- ---- a body that is passed over

passed_is : (asked : Result Request Refusal) (count : ℕ) (body : Text) (r : Result Request Refusal) → r ≡ asked_with asked count body → is_held asked count ≡ false → IfOk asked (λ q. promised q.verb ≡ count) → [] ≡ held_of r body
passed_is (Ok q) count body r e held is = by (nat_le count (length body)) e
  where
    by : (t : Bool) → r ≡ (elim t as (λ x. Result Request Refusal) [ true ↦ Ok q | false ↦ Err (Truncated (length body) count) ]) → [] ≡ held_of r body
    by true e = subst (λ x. [] ≡ held_of x body) (sym e) (sym (ap (all_or_none body) (ap (λ (n : ℕ). nat_le n object_size) is ∙ held)))
    by false e = subst (λ x. [] ≡ held_of x body) (sym e) refl
passed_is (Err s) count body r e held is = subst (λ x. [] ≡ held_of x body) (sym e) refl

nothing_either : (items b : Text) (r : Result Request Refusal) → items ≡ [] → Has items b r → b ≡ []
nothing_either items b (Ok q) none has = has ∙ none
nothing_either items b (Err s) none has = has

pub hears_passed : (line : Text) (head : Head) (old new : Input) (heard : Heard) (ends : Bool) (body items : Text) → IsHead line head → is_held head.asked head.count ≡ false → Passes old head.count (passed_so ends body) new body
    → heard.asked ≡ asked_with head.asked head.count body → items ≡ [] → Has items heard.body heard.asked → heard.ends ≡ ends → KeepsLine heard.asked heard.line head.line → HearsBehind line old new heard
hears_passed line head old new heard ends body items is held passes asked none has same keeps = record {
  count = head.count;
  body = body;
  has = is.has;
  passes = subst (λ (b : Bool). Passes old head.count (passed_so b body) new body) (sym same) passes;
  read = subst (λ (a : Result Request Refusal). IsReadAs line body a) (sym asked) (is.reads body);
  held = nothing_either items heard.body heard.asked none has ∙ passed_is head.asked head.count body heard.asked asked held is.promises;
  keeps = keeps_so head.asked head.count body head.line line heard.line heard.asked asked is.keeps keeps;
}
