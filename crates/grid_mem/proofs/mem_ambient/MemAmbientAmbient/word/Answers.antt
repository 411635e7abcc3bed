use Rattle.std.proofs.Common.{ap, ◌∙◌, refl, get_or, Bool, ℕ, List, ◌^◌, ◌-◌}
use Rattle.std.specs.Prelude.{nat_lt, ◌&&◌}
use Rattle.grid_mem.specs.CallLaws.{both}
use Rattle.grid_mem.proofs.Giving.{one_given, told}
use Rattle.grid_mem.proofs.mem_ambient.MemAmbientAmbient.word.Goals as goal

pub returns-clause-given : goal.returns-clause-given
returns-clause-given c tells = let parts = both _ _ tells in record {
  told = ap (λ (b : Bool). b && nat_lt c.args.self.now.words_given (2 ^ 64 - 1)) (parts.0) ∙ told c.args.self.now.words_given c.saturating_add-self.result c.saturating_add-self.ensures parts.1;
  words = one_given c.args.self.now.words.items c.args.self.now.last_word c.args.self.now.words_given c.saturating_add-self.result c.value_at-word.result c.saturating_add-self.ensures parts.1
      (c.value_at-word.ensures ∙ ap (λ (xs : List ℕ). get_or xs c.args.self.now.words_given c.args.self.now.last_word) c.deref.ensures.value);
  times = refl;
}
