use Rattle.std.proofs.Common.{◌<◌, ◌≤◌, List, length, arith, ap, subst}
use Rattle.sorted_list.specs.Blocks.{IsCutBy}
use Rattle.sorted_list.specs.Fronts.{is_before}
use Rattle.sorted_list.proofs.Cuts.{IsCut, falls_from, none_before, cut_place, cut_behind_first, within_block, within_none, in_front_none}
use Rattle.sorted_list.proofs.blocks.place_of.Goals as goal

pub returns-then-count-eq0-clause-within : goal.returns-then-count-eq0-clause-within
returns-then-count-eq0-clause-within g c = within_none c.args.blocks.now

pub returns-then-count-eq0-clause-before : goal.returns-then-count-eq0-clause-before
returns-then-count-eq0-clause-before g c = λ are.
    (none_before (λ (k : g.row.K.Denot). is_before c.args.at (g.F.Front.side c.args.front k)) g.K.Key.order
    (falls_from g.K.Key.order (g.F.Front.side c.args.front) (g.met.F.Front.falls c.args.front) c.args.at) c.args.blocks.now are
    c.blocks_before-count.result c.blocks_before-count.ensures.within c.blocks_before-count.ensures.cut c.if-count-eq0.true).before

pub returns-then-count-eq0-clause-rest : goal.returns-then-count-eq0-clause-rest
returns-then-count-eq0-clause-rest g c = λ are.
    (none_before (λ (k : g.row.K.Denot). is_before c.args.at (g.F.Front.side c.args.front k)) g.K.Key.order
    (falls_from g.K.Key.order (g.F.Front.side c.args.front) (g.met.F.Front.falls c.args.front) c.args.at) c.args.blocks.now are
    c.blocks_before-count.result c.blocks_before-count.ensures.within c.blocks_before-count.ensures.cut c.if-count-eq0.true).rest

pub returns-then-count-eq0-clause-first : goal.returns-then-count-eq0-clause-first
returns-then-count-eq0-clause-first g c = λ are none. in_front_none c.args.blocks.now

pub returns-clause-within : goal.returns-clause-within
returns-clause-within g c =
    within_block c.args.blocks.now _ c.keys_before-at.result (omega (arith, c.blocks_before-count.ensures.within, c.if-count-eq0.false)) c.index-blocks-block.result c.index-blocks-block.is
    (omega (arith, c.keys_before-at.ensures.within, ap length c.as_slice-keys.ensures.value))

pub returns-clause-before : goal.returns-clause-before
returns-clause-before g c = λ are.
    let test = λ (k : g.row.K.Denot). is_before c.args.at (g.F.Front.side c.args.front k) in
    let ends = subst (λ (ks : List g.row.K.Denot). (c.keys_before-at.result ≤ length ks) × IsCutBy test ks c.keys_before-at.result) c.as_slice-keys.ensures.value
    (c.keys_before-at.ensures.within, c.keys_before-at.ensures.cut) in
    (cut_place test g.K.Key.order (falls_from g.K.Key.order (g.F.Front.side c.args.front) (g.met.F.Front.falls c.args.front) c.args.at) c.args.blocks.now are
    c.blocks_before-count.result c.blocks_before-count.ensures.within c.blocks_before-count.ensures.cut (omega (arith, c.if-count-eq0.false))
    c.index-blocks-block.result c.index-blocks-block.is c.keys_before-at.result ends.0 ends.1).before

pub returns-clause-rest : goal.returns-clause-rest
returns-clause-rest g c = λ are.
    let test = λ (k : g.row.K.Denot). is_before c.args.at (g.F.Front.side c.args.front k) in
    let ends = subst (λ (ks : List g.row.K.Denot). (c.keys_before-at.result ≤ length ks) × IsCutBy test ks c.keys_before-at.result) c.as_slice-keys.ensures.value
    (c.keys_before-at.ensures.within, c.keys_before-at.ensures.cut) in
    (cut_place test g.K.Key.order (falls_from g.K.Key.order (g.F.Front.side c.args.front) (g.met.F.Front.falls c.args.front) c.args.at) c.args.blocks.now are
    c.blocks_before-count.result c.blocks_before-count.ensures.within c.blocks_before-count.ensures.cut (omega (arith, c.if-count-eq0.false))
    c.index-blocks-block.result c.index-blocks-block.is c.keys_before-at.result ends.0 ends.1).rest

pub returns-clause-first : goal.returns-clause-first
returns-clause-first g c = λ are none.
    let test = λ (k : g.row.K.Denot). is_before c.args.at (g.F.Front.side c.args.front k) in
    let ends = subst (λ (ks : List g.row.K.Denot). (c.keys_before-at.result ≤ length ks) × IsCutBy test ks c.keys_before-at.result) c.as_slice-keys.ensures.value
    (c.keys_before-at.ensures.within, c.keys_before-at.ensures.cut) in
    absurd (cut_behind_first test g.K.Key.order (falls_from g.K.Key.order (g.F.Front.side c.args.front) (g.met.F.Front.falls c.args.front) c.args.at) c.args.blocks.now are
    c.blocks_before-count.result c.blocks_before-count.ensures.within c.blocks_before-count.ensures.cut (omega (arith, c.if-count-eq0.false))
    c.index-blocks-block.result c.index-blocks-block.is c.keys_before-at.result ends.0 ends.1 none)
