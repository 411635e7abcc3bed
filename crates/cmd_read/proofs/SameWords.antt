-- A test of words is that of the table.
use Rattle.std.proofs.Common.{◌≡◌, Bool, true, false, refl, sym}
use Rattle.std.specs.Prelude.{◌↔◌, IsTrue}
use Rattle.std.proofs.lemmas.Bool.{false_from_ne_true}
use Rattle.grid_model.specs.Names.{Text, same_text}
use Rattle.grid_model.proofs.Comparing.{same_text-Decides}

pub word_test : (r : Bool) (a b : Text) → (IsTrue r ↔ (b ≡ a)) → r ≡ same_text a b
word_test true a b h = sym ((same_text-Decides a b).1 (sym (h.0 refl)))
word_test false a b h = sym (false_from_ne_true (same_text a b) (λ e. absurd (cc (h.1 (sym ((same_text-Decides a b).0 e))))))
