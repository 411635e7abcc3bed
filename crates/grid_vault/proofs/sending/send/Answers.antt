use Rattle.std.proofs.Common.{length, arith, refl}
use Rattle.std.proofs.lemmas.Option.{slice_get_read}
use Rattle.grid_vault.proofs.SlotLemmas.{all_kept, one_asked, one_lasts, one_rose, on_fault}
use Rattle.grid_vault.proofs.sending.send.Goals as goal

pub returns-in_default-clause-any_moment : goal.returns-in_default-clause-any_moment
returns-in_default-clause-any_moment g c = all_kept g.P.Plugin.plugin _ _ _ _ (omega arith) c.requires.last

pub returns-in-Ok-send_from-clause-sent : goal.returns-in-Ok-send_from-clause-sent
returns-in-Ok-send_from-clause-sent g c =
    let stores = c.args.stores.now.items in
    let at = slice_get_read stores (length stores) c.args.from.now.slot c.index_mut.result.now refl (omega (arith, c.requires.slot)) c.index_mut.ensures.value in
    record { store = _; is = at; holds = c.in-Ok-send_from.ensures.sends }

pub returns-in-Ok-send_from-clause-any_moment : goal.returns-in-Ok-send_from-clause-any_moment
returns-in-Ok-send_from-clause-any_moment g c =
    let stores = c.args.stores.now.items in
    let at = slice_get_read stores (length stores) c.args.from.now.slot c.index_mut.result.now refl (omega (arith, c.requires.slot)) c.index_mut.ensures.value in
    one_asked g.P.Plugin.plugin _ _ _ stores c.send_from.ensures.drawn_from c.requires.last _ _ at c.send_from.ensures.looks c.send_from.ensures.later

pub returns-in-Ok-send_from-clause-last : goal.returns-in-Ok-send_from-clause-last
returns-in-Ok-send_from-clause-last g c =
    let stores = c.args.stores.now.items in
    let at = slice_get_read stores (length stores) c.args.from.now.slot c.index_mut.result.now refl (omega (arith, c.requires.slot)) c.index_mut.ensures.value in
    one_lasts g.P.Plugin.plugin _ _ _ stores c.send_from.ensures.drawn_from c.requires.last _ _ at c.send_from.ensures.looks c.send_from.ensures.later

pub returns-in-Ok-send_from-clause-fault : goal.returns-in-Ok-send_from-clause-fault
returns-in-Ok-send_from-clause-fault g c =
    let stores = c.args.stores.now.items in
    let at = slice_get_read stores (length stores) c.args.from.now.slot c.index_mut.result.now refl (omega (arith, c.requires.slot)) c.index_mut.ensures.value in
    on_fault c.in-Ok-send_from.sent _ _ (one_rose g.P.Plugin.plugin _ _ _ stores c.send_from.ensures.drawn_from c.requires.last _ _ at) c.in-Ok-send_from.ensures.fault

pub returns-clause-broken : goal.returns-clause-broken
returns-clause-broken g c is =
    let stores = c.args.stores.now.items in
    let at = slice_get_read stores (length stores) c.args.from.now.slot c.index_mut.result.now refl (omega (arith, c.requires.slot)) c.index_mut.ensures.value in
    record { store = _; is = at; holds = c.in-Err.ensures.breaks }

pub returns-clause-any_moment : goal.returns-clause-any_moment
returns-clause-any_moment g c =
    let stores = c.args.stores.now.items in
    let at = slice_get_read stores (length stores) c.args.from.now.slot c.index_mut.result.now refl (omega (arith, c.requires.slot)) c.index_mut.ensures.value in
    one_asked g.P.Plugin.plugin _ _ _ stores c.send_from.ensures.drawn_from c.requires.last _ _ at c.send_from.ensures.looks c.send_from.ensures.later

pub returns-clause-last : goal.returns-clause-last
returns-clause-last g c =
    let stores = c.args.stores.now.items in
    let at = slice_get_read stores (length stores) c.args.from.now.slot c.index_mut.result.now refl (omega (arith, c.requires.slot)) c.index_mut.ensures.value in
    one_lasts g.P.Plugin.plugin _ _ _ stores c.send_from.ensures.drawn_from c.requires.last _ _ at c.send_from.ensures.looks c.send_from.ensures.later
