use Rattle.std.proofs.Common.{ap, ◌∙◌, refl, get_or, Bool, ℕ, List, ◌^◌, ◌-◌}
use Rattle.std.specs.Prelude.{nat_lt, ◌&&◌}
use Rattle.grid_mem.specs.CallLaws.{both}
use Rattle.grid_mem.proofs.Giving.{one_given, told}
use Rattle.grid_mem.proofs.mem_ambient.MemAmbientAmbient.now.Goals as goal

pub returns-clause-given : goal.returns-clause-given
returns-clause-given c tells = let parts = both _ _ tells in record {
  told = ap (λ (b : Bool). b && nat_lt c.args.self.now.words_given (2 ^ 64 - 1)) (told c.args.self.now.times_given c.saturating_add-self.result c.saturating_add-self.ensures parts.0) ∙ parts.1;
  times = one_given c.args.self.now.times.items c.args.self.now.last_time c.args.self.now.times_given c.saturating_add-self.result c.value_at-time.result c.saturating_add-self.ensures parts.0
      (c.value_at-time.ensures ∙ ap (λ (xs : List ℕ). get_or xs c.args.self.now.times_given c.args.self.now.last_time) c.deref.ensures.value);
  words = refl;
}
