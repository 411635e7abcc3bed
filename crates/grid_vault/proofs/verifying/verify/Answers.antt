use Rattle.std.proofs.Common.{length, arith, refl}
use Rattle.std.proofs.lemmas.Option.{slice_get_read}
use Rattle.grid_vault.proofs.SlotLemmas.{all_kept, one_asked, rose_there}
use Rattle.grid_vault.proofs.verifying.verify.Goals as goal

pub returns-in_default-clause-any_moment : goal.returns-in_default-clause-any_moment
returns-in_default-clause-any_moment g c moments last = all_kept g.P.Plugin.plugin _ _ _ _ (omega arith) last

pub returns-in-Ok-verify_from-clause-verified : goal.returns-in-Ok-verify_from-clause-verified
returns-in-Ok-verify_from-clause-verified g c =
    let stores = c.args.stores.now.items in
    let at = slice_get_read stores (length stores) c.args.file.now.slot c.index_mut.result.now refl (omega (arith, c.requires.slot)) c.index_mut.ensures.value in
    record { store = _; is = at; holds = c.in-Ok-verify_from.ensures.verified }

pub returns-in-Ok-verify_from-clause-any_moment : goal.returns-in-Ok-verify_from-clause-any_moment
returns-in-Ok-verify_from-clause-any_moment g c moments last =
    let stores = c.args.stores.now.items in
    let at = slice_get_read stores (length stores) c.args.file.now.slot c.index_mut.result.now refl (omega (arith, c.requires.slot)) c.index_mut.ensures.value in
    one_asked g.P.Plugin.plugin _ _ _ stores (omega arith) last _ _ at c.verify_from.ensures.looks c.verify_from.ensures.later

pub returns-clause-any_moment : goal.returns-clause-any_moment
returns-clause-any_moment g c moments last =
    let stores = c.args.stores.now.items in
    let at = slice_get_read stores (length stores) c.args.file.now.slot c.index_mut.result.now refl (omega (arith, c.requires.slot)) c.index_mut.ensures.value in
    one_asked g.P.Plugin.plugin _ _ _ stores (omega arith) last _ _ at c.verify_from.ensures.looks c.verify_from.ensures.later

pub returns-clause-cause : goal.returns-clause-cause
returns-clause-cause g c is =
    let stores = c.args.stores.now.items in
    let at = slice_get_read stores (length stores) c.args.file.now.slot c.index_mut.result.now refl (omega (arith, c.requires.slot)) c.index_mut.ensures.value in
    rose_there g.P.Plugin.plugin c.args.file.now.slot stores _ _ at c.in-Err.ensures.cause
