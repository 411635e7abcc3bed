use Rattle.std.proofs.Common.{◌≡◌, length, arith, refl, sym, subst, ◌∙◌}
use Rattle.std.proofs.lemmas.Option.{slice_get_read, slice_get_within}
use Rattle.grid_outside.specs.Fault.{Rose}
use Rattle.grid_outside.specs.Files.{Removes}
use Rattle.grid_outside.proofs.Spans.{acted, one_called, same_place, some_is, slice_get-set_same}
use Rattle.grid_vault.proofs.Writing.{Removes-same}
use Rattle.grid_vault.proofs.removal.remove.Goals as goal

pub returns-in-Ok-clause-any_moment : goal.returns-in-Ok-clause-any_moment
returns-in-Ok-clause-any_moment g c =
    let stores = c.args.stores.now.items in
    let slot = c.args.file.now.slot in
    let at = slice_get_read stores (length stores) slot c.index_mut.result.now refl (omega (arith, c.requires.slot)) c.index_mut.ensures.value in
    one_called g.P.Plugin.plugin (λ k. Removes c.args.file.now.name) (λ k. Removes-same c.args.file.now.name) (λ k. k ≡ slot) _ _ stores slot _ _ (omega arith) c.requires.last at refl
    (acted _ _ _ (Removes c.args.file.now.name) _ _ (c.requires.last slot _ at) c.next.ensures.next (omega arith) c.remove.ensures.cause.later c.remove.ensures.acts)

pub returns-in-Err-clause-any_moment : goal.returns-in-Err-clause-any_moment
returns-in-Err-clause-any_moment g c =
    let stores = c.args.stores.now.items in
    let slot = c.args.file.now.slot in
    let at = slice_get_read stores (length stores) slot c.index_mut.result.now refl (omega (arith, c.requires.slot)) c.index_mut.ensures.value in
    one_called g.P.Plugin.plugin (λ k. Removes c.args.file.now.name) (λ k. Removes-same c.args.file.now.name) (λ k. k ≡ slot) _ _ stores slot _ _ (omega arith) c.requires.last at refl
    (acted _ _ _ (Removes c.args.file.now.name) _ _ (c.requires.last slot _ at) c.next.ensures.next (omega arith) c.remove.ensures.cause.later c.remove.ensures.acts)

pub returns-in-Err-clause-cause : goal.returns-in-Err-clause-cause
returns-in-Err-clause-cause g c before after was is_now =
    let stores = c.args.stores.now.items in
    let slot = c.args.file.now.slot in
    let at = slice_get_read stores (length stores) slot c.index_mut.result.now refl (omega (arith, c.requires.slot)) c.index_mut.ensures.value in
    let old_is = same_place stores slot _ before at was in
    let new_is = some_is after _ (sym is_now ∙ slice_get-set_same stores slot c.remove.new.self (slice_get_within stores slot _ at)) in
    let P : g.row.P.Denot → Type 0 = λ b. Rose (g.P.Plugin.plugin b).faults (g.P.Plugin.plugin after).faults in
    let Q : g.row.P.Denot → Type 0 = λ b. Rose (g.P.Plugin.plugin c.index_mut.result.now).faults (g.P.Plugin.plugin b).faults in
    subst P (sym old_is) (subst Q (sym new_is) c.in-Err.ensures.cause.failed)
