use Rattle.std.proofs.Common.{ℕ, List, map, ap, ◌∙◌}
use Rattle.grid_tree.specs.Spots.{picked_ids}
use Rattle.std.proofs.lemmas.Result.{IfOk-weaker}
use Rattle.grid_tree.proofs.StepLemmas.{none_there}
use Rattle.grid_tree.proofs.SpotLemmas.{spot_all, spot_down, spot_first, spot_picked, spot_up}
use Rattle.grid_tree.proofs.choosing.spots_below.Goals as goal

pub unreachable-requires : goal.unreachable-requires
unreachable-requires c = none_there c.args.tables.now c.args.spot.id c.requires.there c.in-None.ensures

pub returns-then-row : goal.returns-then-row
returns-then-row c =
    spot_up c.args.tables.now c.requires.made c.args.spot c.in-Some.row.now c.in-Some.ensures c.in-Storage.is c.if-row.true c.requires.there c.in_ok-vec-in-Storage.field-0.items
    c.in_ok-vec-in-Storage.ensures.items

pub returns-else-row : goal.returns-else-row
returns-else-row c = spot_down c.args.tables.now c.requires.made c.args.spot c.in-Some.row.now c.in-Some.ensures c.in-Storage.is c.if-row.false c.new.result.items c.new.ensures.items

pub returns-in_ok-kids-in-Passthru : goal.returns-in_ok-kids-in-Passthru
returns-in_ok-kids-in-Passthru c =
    IfOk-weaker c.with_word.result _ _ (λ next are.
    spot_first c.args.tables.now c.requires.made c.args.spot c.in-Some.row.now c.in-Some.ensures c.in-Passthru.is c.in_ok-kids-in-Passthru.kids.items c.as_slice.result.now
    (c.as_slice.ensures.value ∙ c.truncate.ensures.items) c.in_ok-kids-in-Passthru.ensures next.items are) c.with_word.ensures

pub returns-in_ok-kids-in-Random : goal.returns-in_ok-kids-in-Random
returns-in_ok-kids-in-Random c =
    IfOk-weaker c.picked.result _ _ (λ next are.
    spot_picked c.args.tables.now c.requires.made c.args.spot c.in-Some.row.now c.in-Some.ensures c.in-Random.is c.in_ok-kids-in-Random.kids.items c.in_ok-kids-in-Random.ensures next.items
    (are ∙ ap (λ (ks : List ℕ). picked_ids ks c.args.spot.word) c.as_slice-in-Random.ensures.value)) c.picked.ensures

pub returns-in_ok-kids-in-Replication : goal.returns-in_ok-kids-in-Replication
returns-in_ok-kids-in-Replication c =
    IfOk-weaker c.with_word-in-Replication.result _ _ (λ next are.
    spot_all c.args.tables.now c.requires.made c.args.spot c.in-Some.row.now c.in-Some.ensures c.in-Replication.is c.in_ok-kids-in-Replication.kids.items c.in_ok-kids-in-Replication.ensures next.items
    (are ∙ ap (λ (ks : List ℕ). map (λ (id : ℕ). record { id = id; word = c.args.spot.word }) ks) c.as_slice-in-Replication.ensures.value)) c.with_word-in-Replication.ensures
