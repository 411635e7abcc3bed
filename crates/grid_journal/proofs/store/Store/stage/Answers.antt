use Rattle.std.proofs.Common.{◌≡◌, ◌++◌, sym, ap, subst, ◌∙◌}
use Rattle.grid_model.specs.Applying.{apply_all}
use Rattle.std.specs.List.{AllByRecursion}
use Rattle.grid_journal.specs.Journal.{Journal, MayBeKept}
use Rattle.grid_journal.proofs.SpelledRows.{spelled-apply_all}
use Rattle.grid_journal.proofs.KeepingLemmas.{keeps_staged}
use Rattle.grid_journal.proofs.KeptDeltas.{all_both}
use Rattle.grid_journal.proofs.store.Store.stage.Goals as goal

pub returns-clause-keeps : goal.returns-clause-keeps
returns-clause-keeps c kept main k =
    let view : c.self.inside.staged ≡ c.args.self.now.staged = ap (λ (j : Journal). j.staged) c.self.view_is in
    let first : c.into_vec-staged.result.items ≡ c.args.self.now.staged = c.into_vec-staged.ensures ∙ c.replace.ensures.value ∙ view in
    let behind : c.into_vec-copy.result.items ≡ c.args.deltas = c.into_vec-copy.ensures ∙ c.in_ok-copy_of.ensures in
    let staged : c.from_vec-2.result ≡ c.args.self.now.staged ++ c.args.deltas =
    c.from_vec-2.ensures ∙ c.in_ok-append.ensures.items ∙ ap (λ l. l ++ c.into_vec-copy.result.items) first ∙ ap (λ l. c.args.self.now.staged ++ l) behind in
    keeps_staged kept c.args.self.now _ main c.args.deltas k (ap (λ (j : Journal). apply_all j.cat c.args.deltas) (sym c.self.view_is) ∙ c.in_ok-apply_each.ensures)
    staged (ap (λ (j : Journal). j.log) c.self.view_is)

pub invariant_of-self-2 : goal.invariant_of-self-2
invariant_of-self-2 c =
    let first : c.into_vec-staged.result.items ≡ c.self.inside.staged = c.into_vec-staged.ensures ∙ c.replace.ensures.value in
    let behind : c.into_vec-copy.result.items ≡ c.args.deltas = c.into_vec-copy.ensures ∙ c.in_ok-copy_of.ensures in
    let staged : c.from_vec-2.result ≡ c.self.inside.staged ++ c.args.deltas =
    c.from_vec-2.ensures ∙ c.in_ok-append.ensures.items ∙ ap (λ l. l ++ c.into_vec-copy.result.items) first ∙ ap (λ l. c.self.inside.staged ++ l) behind in (
      subst (AllByRecursion MayBeKept) (sym staged) (all_both MayBeKept c.self.inside.staged c.args.deltas c.self.invariant.0 c.requires.spelled),
      λ sound. spelled-apply_all c.args.deltas c.self.inside.tables c.apply_each.new.tables c.requires.spelled (c.self.invariant.1 (ap (λ (j : Journal). j.sound) c.self.view_is ∙ c.requires.sound)) c.in_ok-apply_each.ensures,
    )
