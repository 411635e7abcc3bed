use Rattle.std.proofs.Common.{arith, ap, ◌∙◌, sym, length, slice_index_or}
use Rattle.std.specs.Ordering.{is_eq}
use Rattle.sorted_list.proofs.Edits.{inside_at, begins_at}
use Rattle.sorted_list.proofs.blocks.is_at.Goals as goal

pub offset_bounds-keys-place : goal.offset_bounds-keys-place
offset_bounds-keys-place g c =
    omega (arith, inside_at c.args.blocks.now c.args.place.block c.args.place.at c.requires.inside c.index-blocks-place.result c.index-blocks-place.is, ap length c.as_slice-keys.ensures.value)

pub bounds-keys-place : goal.bounds-keys-place
bounds-keys-place g c =
    omega (arith, inside_at c.args.blocks.now c.args.place.block c.args.place.at c.requires.inside c.index-blocks-place.result c.index-blocks-place.is, ap length c.as_slice-keys.ensures.value)

pub returns : goal.returns
returns g c =
    c.is_eq.ensures ∙ ap is_eq c.side.ensures
    ∙ sym (begins_at (λ (k : g.row.K.Denot). is_eq (g.F.Front.side c.args.front k)) c.args.blocks.now c.args.place.block c.args.place.at c.requires.inside c.index-blocks-place.result c.index-blocks-place.is
    c.index-keys-place.result (c.index-keys-place.is ∙ ap (λ l. slice_index_or l c.args.place.at c.index-keys-place.result) c.as_slice-keys.ensures.value))
