use Rattle.std.proofs.Common.{◌+◌, ◌*◌, ◌^◌, length, set, take, arith, refl, inl, inr}
use Rattle.grid_model.specs.DataLines.{parts}
use Rattle.std.proofs.lemmas.Option.{slice_get_read}
use Rattle.grid_outside.proofs.Spans.{last_moments}
use Rattle.grid_vault.specs.Vault.{WritesAmong}
use Rattle.grid_vault.proofs.SlotLemmas.{rose_there}
use Rattle.grid_vault.proofs.Copied.{IsCalled, copies_of, copies_on, rose_on, copy_started, read_span, read_count, copy_more, bytes_read, bytes_are, bytes_hashed, copy_ends, room_start, room_asked, room_after, room_next, taken_len, both_then, err_then}
use Rattle.grid_vault.proofs.copying.copy_from.Goals as goal

pub parts-init : goal.parts-init
parts-init g c = record {
  span = copies_of g.P.Plugin.plugin c.args.from.now c.args.files.now _ _ _ _ c.in-Ok.ensures.any_moment;
  so_far = copy_started g.P.Plugin.plugin c.args.from.now c.args.files.now c.args.stores.now.items c.create_each.new.stores.items (omega (arith, c.requires.source)) _ c.new-reader.ensures.read c.new-reader.ensures.hashed c.in-Ok.ensures.begun;
  later = c.in-Ok.ensures.drawn_from;
  room = room_start (length c.args.files.now) c.args.moments.now c.create_each.new.moments c.args.from.now.size _ c.new-reader.ensures.read c.in-Ok.ensures.drawn;
}

pub returns-in-Err-clause-any_moment : goal.returns-in-Err-clause-any_moment
returns-in-Err-clause-any_moment g c = copies_of g.P.Plugin.plugin c.args.from.now c.args.files.now _ _ _ _ c.in-Err.ensures.any_moment

pub returns-in-Err-clause-slot : goal.returns-in-Err-clause-slot
returns-in-Err-clause-slot g c = inl c.in-Err.ensures.slot

pub returns-in-Err-next_part-clause-any_moment : goal.returns-in-Err-next_part-clause-any_moment
returns-in-Err-next_part-clause-any_moment g c =
    let so = c.parts.invariant in
    let old = c.args.stores.now.items in
    let stores = c.parts.stores.items in
    let at = slice_get_read stores (length stores) c.args.from.now.slot c.index_mut.result.now refl (omega (arith, c.requires.source, so.span.count)) c.index_mut.ensures.value in
    read_span g.P.Plugin.plugin c.args.from.now c.args.files.now c.requires.other _ _ so.later old stores so.span _ c.next_part.new.store at c.next_part.ensures.looks c.next_part.ensures.cause.later

pub returns-in-Err-next_part-clause-last : goal.returns-in-Err-next_part-clause-last
returns-in-Err-next_part-clause-last g c =
    let so = c.parts.invariant in
    let old = c.args.stores.now.items in
    let stores = c.parts.stores.items in
    let at = slice_get_read stores (length stores) c.args.from.now.slot c.index_mut.result.now refl (omega (arith, c.requires.source, so.span.count)) c.index_mut.ensures.value in
    last_moments g.P.Plugin.plugin _ _ (WritesAmong c.args.files.now) (IsCalled g.P.Plugin.plugin c.args.from.now c.args.files.now) _ _ (read_span g.P.Plugin.plugin c.args.from.now c.args.files.now c.requires.other _ _ so.later old stores so.span _ c.next_part.new.store at c.next_part.ensures.looks c.next_part.ensures.cause.later)

pub returns-in-Err-next_part-clause-slot : goal.returns-in-Err-next_part-clause-slot
returns-in-Err-next_part-clause-slot g c = inr refl

pub returns-in-Err-next_part-clause-cause : goal.returns-in-Err-next_part-clause-cause
returns-in-Err-next_part-clause-cause g c =
    let so = c.parts.invariant in
    let old = c.args.stores.now.items in
    let stores = c.parts.stores.items in
    let at = slice_get_read stores (length stores) c.args.from.now.slot c.index_mut.result.now refl (omega (arith, c.requires.source, so.span.count)) c.index_mut.ensures.value in
    rose_on g.P.Plugin.plugin c.args.from.now c.args.files.now _ _ c.args.from.now.slot old stores (set stores c.args.from.now.slot c.next_part.new.store) so.span (read_count g.P.Plugin.plugin c.args.from.now c.args.files.now c.requires.other _ _ so.later old stores so.span _ c.next_part.new.store at c.next_part.ensures.looks c.next_part.ensures.cause.later) (rose_there g.P.Plugin.plugin c.args.from.now.slot stores _ _ at c.in-Err-next_part.ensures.cause.failed)

pub append_each-requires-clause-slots : goal.append_each-requires-clause-slots
append_each-requires-clause-slots g c k d lt = omega (arith, c.requires.slots k d lt, c.parts.invariant.span.count)

pub append_each-requires-clause-last : goal.append_each-requires-clause-last
append_each-requires-clause-last g c =
    let so = c.parts.invariant in
    let old = c.args.stores.now.items in
    let stores = c.parts.stores.items in
    let at = slice_get_read stores (length stores) c.args.from.now.slot c.index_mut.result.now refl (omega (arith, c.requires.source, so.span.count)) c.index_mut.ensures.value in
    last_moments g.P.Plugin.plugin _ _ (WritesAmong c.args.files.now) (IsCalled g.P.Plugin.plugin c.args.from.now c.args.files.now) _ _ (read_span g.P.Plugin.plugin c.args.from.now c.args.files.now c.requires.other _ _ so.later old stores so.span _ c.next_part.new.store at c.next_part.ensures.looks c.next_part.ensures.cause.later)

pub append_each-requires-clause-room : goal.append_each-requires-clause-room
append_each-requires-clause-room g c =
    let so = c.parts.invariant in
    let old = c.args.stores.now.items in
    let stores = c.parts.stores.items in
    let at = slice_get_read stores (length stores) c.args.from.now.slot c.index_mut.result.now refl (omega (arith, c.requires.source, so.span.count)) c.index_mut.ensures.value in
    let reads = c.in-Ok-next_part.ensures.reads in
    let count = c.in-Ok-next_part.part.count in
    let taken = taken_len count c.next_part.new.buf (omega (arith, reads.count, reads.within)) in
    room_asked (length c.args.files.now) c.args.moments.now c.parts.moments (length c.args.files.now * (2 + parts c.args.from.now.size)) c.args.from.now.size c.parts.reader.read (length (take count c.next_part.new.buf)) (omega (arith, taken, reads.count)) so.room (2 ^ 128) c.requires.room

pub returns-in-Err-append_each-clause-any_moment : goal.returns-in-Err-append_each-clause-any_moment
returns-in-Err-append_each-clause-any_moment g c =
    let so = c.parts.invariant in
    let old = c.args.stores.now.items in
    let stores = c.parts.stores.items in
    let at = slice_get_read stores (length stores) c.args.from.now.slot c.index_mut.result.now refl (omega (arith, c.requires.source, so.span.count)) c.index_mut.ensures.value in
    (copies_on g.P.Plugin.plugin c.args.from.now c.args.files.now _ _ _ old (set stores c.args.from.now.slot c.next_part.new.store) c.append_each.new.stores.items so.later c.append_each.ensures.drawn_from (read_span g.P.Plugin.plugin c.args.from.now c.args.files.now c.requires.other _ _ so.later old stores so.span _ c.next_part.new.store at c.next_part.ensures.looks c.next_part.ensures.cause.later) (copies_of g.P.Plugin.plugin c.args.from.now c.args.files.now _ _ _ _ c.append_each.ensures.any_moment))

pub returns-in-Err-append_each-clause-slot : goal.returns-in-Err-append_each-clause-slot
returns-in-Err-append_each-clause-slot g c = inl c.in-Err-append_each.ensures.slot

pub returns-in-Err-append_each-clause-cause : goal.returns-in-Err-append_each-clause-cause
returns-in-Err-append_each-clause-cause g c =
    let so = c.parts.invariant in
    let old = c.args.stores.now.items in
    let stores = c.parts.stores.items in
    let at = slice_get_read stores (length stores) c.args.from.now.slot c.index_mut.result.now refl (omega (arith, c.requires.source, so.span.count)) c.index_mut.ensures.value in
    rose_on g.P.Plugin.plugin c.args.from.now c.args.files.now _ _ c.in-Err-append_each.fault.slot old (set stores c.args.from.now.slot c.next_part.new.store) c.append_each.new.stores.items (read_span g.P.Plugin.plugin c.args.from.now c.args.files.now c.requires.other _ _ so.later old stores so.span _ c.next_part.new.store at c.next_part.ensures.looks c.next_part.ensures.cause.later) c.append_each.ensures.any_moment.count c.in-Err-append_each.ensures.cause

pub returns-in-Err-append_each-clause-drawn : goal.returns-in-Err-append_each-clause-drawn
returns-in-Err-append_each-clause-drawn g c =
    let so = c.parts.invariant in
    let old = c.args.stores.now.items in
    let stores = c.parts.stores.items in
    let at = slice_get_read stores (length stores) c.args.from.now.slot c.index_mut.result.now refl (omega (arith, c.requires.source, so.span.count)) c.index_mut.ensures.value in
    let reads = c.in-Ok-next_part.ensures.reads in
    let count = c.in-Ok-next_part.part.count in
    let taken = taken_len count c.next_part.new.buf (omega (arith, reads.count, reads.within)) in
    let after = room_after (length c.args.files.now) c.args.moments.now c.parts.moments (length c.args.files.now * (2 + parts c.args.from.now.size)) c.args.from.now.size c.parts.reader.read (length (take count c.next_part.new.buf)) (omega (arith, taken, reads.count)) so.room c.append_each.new.moments c.append_each.ensures.drawn in
    omega (arith, after)

pub finish_copy-requires-clause-slots : goal.finish_copy-requires-clause-slots
finish_copy-requires-clause-slots g c k d lt =
    let so = c.parts.invariant in
    let old = c.args.stores.now.items in
    let stores = c.parts.stores.items in
    let at = slice_get_read stores (length stores) c.args.from.now.slot c.index_mut.result.now refl (omega (arith, c.requires.source, so.span.count)) c.index_mut.ensures.value in
    omega (arith, c.requires.slots k d lt, so.span.count, c.append_each.ensures.any_moment.count, read_count g.P.Plugin.plugin c.args.from.now c.args.files.now c.requires.other _ _ so.later old stores so.span _ c.next_part.new.store at c.next_part.ensures.looks c.next_part.ensures.cause.later)

pub finish_copy-requires-clause-room : goal.finish_copy-requires-clause-room
finish_copy-requires-clause-room g c =
    let so = c.parts.invariant in
    let old = c.args.stores.now.items in
    let stores = c.parts.stores.items in
    let at = slice_get_read stores (length stores) c.args.from.now.slot c.index_mut.result.now refl (omega (arith, c.requires.source, so.span.count)) c.index_mut.ensures.value in
    let reads = c.in-Ok-next_part.ensures.reads in
    let count = c.in-Ok-next_part.part.count in
    let taken = taken_len count c.next_part.new.buf (omega (arith, reads.count, reads.within)) in
    let after = room_after (length c.args.files.now) c.args.moments.now c.parts.moments (length c.args.files.now * (2 + parts c.args.from.now.size)) c.args.from.now.size c.parts.reader.read (length (take count c.next_part.new.buf)) (omega (arith, taken, reads.count)) so.room c.append_each.new.moments c.append_each.ensures.drawn in
    omega (arith, after, c.requires.room)

pub returns-then-part-clause-copied : goal.returns-then-part-clause-copied
returns-then-part-clause-copied g c =
    let so = c.parts.invariant in
    let old = c.args.stores.now.items in
    let stores = c.parts.stores.items in
    let at = slice_get_read stores (length stores) c.args.from.now.slot c.index_mut.result.now refl (omega (arith, c.requires.source, so.span.count)) c.index_mut.ensures.value in
    both_then c.finish_copy.result _ _ _ (λ found says stable.
    copy_ends g.P.Plugin.plugin c.args.from.now c.args.files.now c.requires.other _ _ so.later old stores so.span _ c.next_part.new.store at c.next_part.ensures.looks c.next_part.ensures.cause.later c.parts.reader so.so_far c.in-Ok-next_part.part c.next_part.new.buf c.next_part.new.self c.in-Ok-next_part.ensures.reads c.append_each.new.stores.items c.in-Ok-append_each.ensures.extends c.if-part.true found (says (bytes_read g.P.Plugin.plugin c.args.from.now c.args.files.now c.requires.other _ _ so.later old stores so.span _ c.next_part.new.store at c.next_part.ensures.looks c.next_part.ensures.cause.later c.parts.reader so.so_far c.in-Ok-next_part.part c.next_part.new.buf c.next_part.new.self c.in-Ok-next_part.ensures.reads c.append_each.new.stores.items c.in-Ok-append_each.ensures.extends) (bytes_are g.P.Plugin.plugin c.args.from.now c.args.files.now c.requires.other _ _ so.later old stores so.span _ c.next_part.new.store at c.next_part.ensures.looks c.next_part.ensures.cause.later c.parts.reader so.so_far c.in-Ok-next_part.part c.next_part.new.buf c.next_part.new.self c.in-Ok-next_part.ensures.reads c.append_each.new.stores.items c.in-Ok-append_each.ensures.extends) (bytes_hashed g.P.Plugin.plugin c.args.from.now c.args.files.now c.requires.other _ _ so.later old stores so.span _ c.next_part.new.store at c.next_part.ensures.looks c.next_part.ensures.cause.later c.parts.reader so.so_far c.in-Ok-next_part.part c.next_part.new.buf c.next_part.new.self c.in-Ok-next_part.ensures.reads c.append_each.new.stores.items c.in-Ok-append_each.ensures.extends)) c.finish_copy.new.stores.items stable) c.finish_copy.ensures.says c.finish_copy.ensures.stable

pub returns-then-part-clause-any_moment : goal.returns-then-part-clause-any_moment
returns-then-part-clause-any_moment g c =
    let so = c.parts.invariant in
    let old = c.args.stores.now.items in
    let stores = c.parts.stores.items in
    let at = slice_get_read stores (length stores) c.args.from.now.slot c.index_mut.result.now refl (omega (arith, c.requires.source, so.span.count)) c.index_mut.ensures.value in
    (copies_on g.P.Plugin.plugin c.args.from.now c.args.files.now _ _ _ old c.append_each.new.stores.items c.finish_copy.new.stores.items (omega (arith, so.later, c.append_each.ensures.drawn_from)) c.finish_copy.ensures.drawn_from (copies_on g.P.Plugin.plugin c.args.from.now c.args.files.now _ _ _ old (set stores c.args.from.now.slot c.next_part.new.store) c.append_each.new.stores.items so.later c.append_each.ensures.drawn_from (read_span g.P.Plugin.plugin c.args.from.now c.args.files.now c.requires.other _ _ so.later old stores so.span _ c.next_part.new.store at c.next_part.ensures.looks c.next_part.ensures.cause.later) (copies_of g.P.Plugin.plugin c.args.from.now c.args.files.now _ _ _ _ c.append_each.ensures.any_moment)) (copies_of g.P.Plugin.plugin c.args.from.now c.args.files.now _ _ _ _ c.finish_copy.ensures.any_moment))

pub returns-then-part-clause-slot : goal.returns-then-part-clause-slot
returns-then-part-clause-slot g c = err_then c.finish_copy.result _ _ (λ e h. inl h) c.finish_copy.ensures.slot

pub returns-then-part-clause-cause : goal.returns-then-part-clause-cause
returns-then-part-clause-cause g c =
    let so = c.parts.invariant in
    let old = c.args.stores.now.items in
    let stores = c.parts.stores.items in
    let at = slice_get_read stores (length stores) c.args.from.now.slot c.index_mut.result.now refl (omega (arith, c.requires.source, so.span.count)) c.index_mut.ensures.value in
    err_then c.finish_copy.result _ _ (λ e h. rose_on g.P.Plugin.plugin c.args.from.now c.args.files.now _ _ e.slot old c.append_each.new.stores.items c.finish_copy.new.stores.items (copies_on g.P.Plugin.plugin c.args.from.now c.args.files.now _ _ _ old (set stores c.args.from.now.slot c.next_part.new.store) c.append_each.new.stores.items so.later c.append_each.ensures.drawn_from (read_span g.P.Plugin.plugin c.args.from.now c.args.files.now c.requires.other _ _ so.later old stores so.span _ c.next_part.new.store at c.next_part.ensures.looks c.next_part.ensures.cause.later) (copies_of g.P.Plugin.plugin c.args.from.now c.args.files.now _ _ _ _ c.append_each.ensures.any_moment)) c.finish_copy.ensures.any_moment.count h) c.finish_copy.ensures.cause

pub returns-then-part-clause-drawn : goal.returns-then-part-clause-drawn
returns-then-part-clause-drawn g c =
    let so = c.parts.invariant in
    let old = c.args.stores.now.items in
    let stores = c.parts.stores.items in
    let at = slice_get_read stores (length stores) c.args.from.now.slot c.index_mut.result.now refl (omega (arith, c.requires.source, so.span.count)) c.index_mut.ensures.value in
    let reads = c.in-Ok-next_part.ensures.reads in
    let count = c.in-Ok-next_part.part.count in
    let taken = taken_len count c.next_part.new.buf (omega (arith, reads.count, reads.within)) in
    let after = room_after (length c.args.files.now) c.args.moments.now c.parts.moments (length c.args.files.now * (2 + parts c.args.from.now.size)) c.args.from.now.size c.parts.reader.read (length (take count c.next_part.new.buf)) (omega (arith, taken, reads.count)) so.room c.append_each.new.moments c.append_each.ensures.drawn in
    omega (arith, after, c.finish_copy.ensures.drawn)

pub parts-preserved : goal.parts-preserved
parts-preserved g c =
    let so = c.parts.invariant in
    let old = c.args.stores.now.items in
    let stores = c.parts.stores.items in
    let at = slice_get_read stores (length stores) c.args.from.now.slot c.index_mut.result.now refl (omega (arith, c.requires.source, so.span.count)) c.index_mut.ensures.value in
    let reads = c.in-Ok-next_part.ensures.reads in
    let count = c.in-Ok-next_part.part.count in
    let taken = taken_len count c.next_part.new.buf (omega (arith, reads.count, reads.within)) in
    let whole = reads.goes_on c.if-part.false in
    let room_now = room_next (length c.args.files.now) c.args.moments.now c.parts.moments (length c.args.files.now * (2 + parts c.args.from.now.size)) c.args.from.now.size c.parts.reader.read (length (take count c.next_part.new.buf)) (omega (arith, taken, reads.count)) so.room c.append_each.new.moments c.next_part.new.self.read c.append_each.ensures.drawn (omega (arith, taken, reads.count, reads.read, whole.0, whole.1)) (omega (arith, taken, reads.count, reads.read, whole.0, whole.1)) whole.1 in
    record {
      span = (copies_on g.P.Plugin.plugin c.args.from.now c.args.files.now _ _ _ old (set stores c.args.from.now.slot c.next_part.new.store) c.append_each.new.stores.items so.later c.append_each.ensures.drawn_from (read_span g.P.Plugin.plugin c.args.from.now c.args.files.now c.requires.other _ _ so.later old stores so.span _ c.next_part.new.store at c.next_part.ensures.looks c.next_part.ensures.cause.later) (copies_of g.P.Plugin.plugin c.args.from.now c.args.files.now _ _ _ _ c.append_each.ensures.any_moment));
      so_far = copy_more g.P.Plugin.plugin c.args.from.now c.args.files.now c.requires.other _ _ so.later old stores so.span _ c.next_part.new.store at c.next_part.ensures.looks c.next_part.ensures.cause.later c.parts.reader so.so_far c.in-Ok-next_part.part c.next_part.new.buf c.next_part.new.self c.in-Ok-next_part.ensures.reads c.append_each.new.stores.items c.in-Ok-append_each.ensures.extends c.if-part.false;
      later = omega (arith, so.later, c.append_each.ensures.drawn_from);
      room = room_now;
    }
