use Rattle.std.proofs.Common.{map, sym, subst, arith, Result, Ok, Err}
use Rattle.std.proofs.lemmas.List.{length-map}
use Rattle.std.specs.Prelude.{MatchResult}
use Rattle.std.proofs.lemmas.Result.{err_from_is_err_and}
use Rattle.frame_log.specs.Records.{placed_body}
use Rattle.grid_model.specs.Rows.{Cat, empty_cat}
use Rattle.grid_journal.specs.Stands.{Replays}
use Rattle.grid_journal.specs.Replaying.{ReplayStopsAt, IsAtFault}
use Rattle.grid_journal.specs.declared.replay.ReplayError.{ReplayError}
use Rattle.grid_journal.proofs.LoopLemmas.{at_placed, fits_at, comes_on, comes_to_fault, comes_to_end, stops_later}
use Rattle.grid_journal.proofs.replay.replay.Goals as goal

pub replay_record-requires : goal.replay_record-requires
replay_record-requires c =
    let rs = map placed_body c.args.records.now in
    let at = at_placed c.args.records.now c.loop-logged.logged-index c.logged-item.result c.loop-logged-test.true c.logged-item.is in
    fits_at rs c.loop-logged.logged-index (placed_body c.logged-item.result) c.requires.places c.requires.end at.0 at.1

pub returns-in-Err : goal.returns-in-Err
returns-in-Err c =
    let rs = map placed_body c.args.records.now in
    let r = placed_body c.logged-item.result in
    let at = at_placed c.args.records.now c.loop-logged.logged-index c.logged-item.result c.loop-logged-test.true c.logged-item.is in
    stops_later (IsAtFault r c.loop-logged.tables) (λ k. Replays empty_cat rs (Err k)) c.in-Err.error
    (λ k h. comes_to_fault rs c.loop-logged.logged-index k r c.loop-logged.tables at.0 at.1 c.loop-logged.invariant h) c.in-Err.ensures

pub loop-logged-preserved : goal.loop-logged-preserved
loop-logged-preserved c =
    let rs = map placed_body c.args.records.now in
    let at = at_placed c.args.records.now c.loop-logged.logged-index c.logged-item.result c.loop-logged-test.true c.logged-item.is in
    comes_on rs c.loop-logged.logged-index (placed_body c.logged-item.result) c.loop-logged.tables c.replay_record.new.tables at.0 at.1 c.loop-logged.invariant c.in-Ok.ensures

pub returns : goal.returns
returns c =
    let rs = map placed_body c.args.records.now in
    comes_to_end rs c.loop-logged.logged-index c.loop-logged.tables (let e = length-map c.args.records.now placed_body in omega arith) c.loop-logged.invariant
