use Rattle.std.proofs.Common.{◌≡◌, ℕ, ◌<◌, inl, inr}
use Rattle.std.specs.Prelude.{◌⊎◌}
use Rattle.std.proofs.lemmas.Bool.{cases_order}
use Rattle.rule_lex.specs.Bytes.{SourceText}
use Rattle.rule_lex.specs.Places.{IsSourceRefusedAt}
use Rattle.rule_lex.proofs.laws.one_place_of_refusal.Goals as goal

same_place : (text : SourceText) (place other : ℕ) → IsSourceRefusedAt text place → IsSourceRefusedAt text other → (place ≡ other) ⊎ ((place < other) ⊎ (other < place)) → place ≡ other
same_place text place other a b (inl e) = e
same_place text place other a b (inr (inl less)) = absurd (a.longest other less b.within b.begins)
same_place text place other a b (inr (inr more)) = absurd (b.longest place more a.within a.begins)

pub returns : goal.returns
returns c = λ text place other a b. same_place text place other a b (cases_order place other)
