use Rattle.std.proofs.Common.{ap, subst, ◌∙◌}
use Rattle.grid_journal.specs.Journal.{Journal, HasSpelledRows}
use Rattle.grid_journal.proofs.store.Store.pending_is_spelled.Goals as goal

pub returns : goal.returns
returns c =
    let P : Journal → Type 0 = λ j. HasSpelledRows j.cat in
    (subst P c.self.view_is (c.self.invariant.1 (ap (λ (j : Journal). j.sound) c.self.view_is ∙ c.requires.sound))).1
