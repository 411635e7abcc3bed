use Rattle.std.proofs.Common.{length, slice_index_or, arith, refl}
use Rattle.std.proofs.lemmas.Option.{slice_get-get_or, slice_get_read}
use Rattle.grid_outside.specs.Files.{Writes}
use Rattle.grid_outside.proofs.Spans.{acted, none_called, lasts, last_moments}
use Rattle.grid_vault.specs.Vault.{WritesAmong, HasSlot}
use Rattle.grid_vault.proofs.Writing.{slot_within, Among-same, wrote_one, rose_at}
use Rattle.grid_vault.proofs.CopyingOn.{IsBegun, IsDone, keeps_begun, keeps_done, none_so_far, all_so_far, next_so_far, stable_of}
use Rattle.grid_vault.proofs.copying.finish_each.Goals as goal

pub loop-file-init : goal.loop-file-init
loop-file-init g c = record {
  span = none_called g.P.Plugin.plugin (WritesAmong c.args.files.now) (Among-same c.args.files.now) (HasSlot c.args.files.now) _ _ _ (omega arith) c.requires.last;
  so_far = λ bytes all. none_so_far g.P.Plugin.plugin c.args.files.now (IsBegun bytes) (IsDone bytes) c.args.stores.now.items all;
  later = omega arith;
  room = omega arith;
}

pub index_mut-requires : goal.index_mut-requires
index_mut-requires g c =
    let slot = slot_within _ _ _ _ c.requires.slots (slice_get-get_or c.args.files.now c.loop-file.file-index (record { slot = 0; name = 0 }) c.loop-file-test.true) in
    omega (arith, slot, c.loop-file.invariant.span.count)

pub finish-requires : goal.finish-requires
finish-requires g c =
    let files = c.args.files.now in
    let stores = c.loop-file.stores.items in
    let file = slice_index_or files c.loop-file.file-index (record { slot = 0; name = 0 }) in
    let is = slice_get-get_or files c.loop-file.file-index (record { slot = 0; name = 0 }) c.loop-file-test.true in
    let slot = slot_within _ _ _ _ c.requires.slots is in
    let at = slice_get_read stores (length stores) file.slot c.index_mut.result.now refl (omega (arith, slot, c.loop-file.invariant.span.count)) c.index_mut.ensures.value in
    let last = lasts g.P.Plugin.plugin (WritesAmong files) (Among-same files) (HasSlot files) _ _ _ _ c.loop-file.invariant.span _ _ at in
    omega (arith, last, c.next.ensures.next)

pub returns-in-Err-clause-any_moment : goal.returns-in-Err-clause-any_moment
returns-in-Err-clause-any_moment g c =
    let files = c.args.files.now in
    let stores = c.loop-file.stores.items in
    let file = slice_index_or files c.loop-file.file-index (record { slot = 0; name = 0 }) in
    let is = slice_get-get_or files c.loop-file.file-index (record { slot = 0; name = 0 }) c.loop-file-test.true in
    let slot = slot_within _ _ _ _ c.requires.slots is in
    let at = slice_get_read stores (length stores) file.slot c.index_mut.result.now refl (omega (arith, slot, c.loop-file.invariant.span.count)) c.index_mut.ensures.value in
    let last = lasts g.P.Plugin.plugin (WritesAmong files) (Among-same files) (HasSlot files) _ _ _ _ c.loop-file.invariant.span _ _ at in
    wrote_one files g.P.Plugin.plugin _ _ _ _ _ _ file _ _ is c.loop-file.invariant.later (omega arith) c.loop-file.invariant.span at (acted _ c.next.new.self _ (Writes file.name) _ _ last c.next.ensures.next (omega (arith, c.next.ensures.next)) c.finish.ensures.cause.later c.finish.ensures.acts)

pub returns-in-Err-clause-slot : goal.returns-in-Err-clause-slot
returns-in-Err-clause-slot g c =
    record { place = c.loop-file.file-index; file = _; is = slice_get-get_or c.args.files.now c.loop-file.file-index (record { slot = 0; name = 0 }) c.loop-file-test.true; slot_is = refl }

pub returns-in-Err-clause-cause : goal.returns-in-Err-clause-cause
returns-in-Err-clause-cause g c =
    let files = c.args.files.now in
    let stores = c.loop-file.stores.items in
    let file = slice_index_or files c.loop-file.file-index (record { slot = 0; name = 0 }) in
    let is = slice_get-get_or files c.loop-file.file-index (record { slot = 0; name = 0 }) c.loop-file-test.true in
    let slot = slot_within _ _ _ _ c.requires.slots is in
    let at = slice_get_read stores (length stores) file.slot c.index_mut.result.now refl (omega (arith, slot, c.loop-file.invariant.span.count)) c.index_mut.ensures.value in
    let last = lasts g.P.Plugin.plugin (WritesAmong files) (Among-same files) (HasSlot files) _ _ _ _ c.loop-file.invariant.span _ _ at in
    rose_at files g.P.Plugin.plugin _ _ _ _ _ _ file _ _ is c.loop-file.invariant.later (omega arith) c.loop-file.invariant.span at (acted _ c.next.new.self _ (Writes file.name) _ _ last c.next.ensures.next (omega (arith, c.next.ensures.next)) c.finish.ensures.cause.later c.finish.ensures.acts) c.in-Err.ensures.cause.failed

pub returns-in-Err-clause-last : goal.returns-in-Err-clause-last
returns-in-Err-clause-last g c =
    let files = c.args.files.now in
    let stores = c.loop-file.stores.items in
    let file = slice_index_or files c.loop-file.file-index (record { slot = 0; name = 0 }) in
    let is = slice_get-get_or files c.loop-file.file-index (record { slot = 0; name = 0 }) c.loop-file-test.true in
    let slot = slot_within _ _ _ _ c.requires.slots is in
    let at = slice_get_read stores (length stores) file.slot c.index_mut.result.now refl (omega (arith, slot, c.loop-file.invariant.span.count)) c.index_mut.ensures.value in
    let last = lasts g.P.Plugin.plugin (WritesAmong files) (Among-same files) (HasSlot files) _ _ _ _ c.loop-file.invariant.span _ _ at in
    last_moments g.P.Plugin.plugin _ _ (WritesAmong files) (HasSlot files) _ _ (wrote_one files g.P.Plugin.plugin _ _ _ _ _ _ file _ _ is c.loop-file.invariant.later (omega arith) c.loop-file.invariant.span at (acted _ c.next.new.self _ (Writes file.name) _ _ last c.next.ensures.next (omega (arith, c.next.ensures.next)) c.finish.ensures.cause.later c.finish.ensures.acts))

pub loop-file-preserved : goal.loop-file-preserved
loop-file-preserved g c =
    let files = c.args.files.now in
    let stores = c.loop-file.stores.items in
    let file = slice_index_or files c.loop-file.file-index (record { slot = 0; name = 0 }) in
    let is = slice_get-get_or files c.loop-file.file-index (record { slot = 0; name = 0 }) c.loop-file-test.true in
    let slot = slot_within _ _ _ _ c.requires.slots is in
    let at = slice_get_read stores (length stores) file.slot c.index_mut.result.now refl (omega (arith, slot, c.loop-file.invariant.span.count)) c.index_mut.ensures.value in
    let last = lasts g.P.Plugin.plugin (WritesAmong files) (Among-same files) (HasSlot files) _ _ _ _ c.loop-file.invariant.span _ _ at in
    record {
      span = wrote_one files g.P.Plugin.plugin _ _ _ _ _ _ file _ _ is c.loop-file.invariant.later (omega arith) c.loop-file.invariant.span at (acted _ c.next.new.self _ (Writes file.name) _ _ last c.next.ensures.next (omega (arith, c.next.ensures.next)) c.finish.ensures.cause.later c.finish.ensures.acts);
      so_far = λ bytes all. next_so_far g.P.Plugin.plugin files (IsBegun bytes) (IsDone bytes) (keeps_begun bytes) (keeps_done bytes) c.requires.apart c.loop-file.file-index file is _ _ stores _ _ last at (acted _ c.next.new.self _ (Writes file.name) _ _ last c.next.ensures.next (omega (arith, c.next.ensures.next)) c.finish.ensures.cause.later c.finish.ensures.acts) (λ tells was. stable_of _ _ _ _ (c.in-Ok.ensures.finished tells) was) (c.loop-file.invariant.so_far bytes all);
      later = omega arith;
      room = omega arith;
    }

pub returns-clause-stable : goal.returns-clause-stable
returns-clause-stable g c = λ bytes all. all_so_far g.P.Plugin.plugin c.args.files.now (IsBegun bytes) (IsDone bytes) c.loop-file.file-index c.loop-file.stores.items (omega (arith, c.loop-file-test.false)) (c.loop-file.invariant.so_far bytes all)

pub returns-clause-last : goal.returns-clause-last
returns-clause-last g c = last_moments g.P.Plugin.plugin _ _ (WritesAmong c.args.files.now) (HasSlot c.args.files.now) _ _ c.loop-file.invariant.span
