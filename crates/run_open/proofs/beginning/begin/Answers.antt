use Rattle.std.proofs.Common.{ap, ◌∙◌}
use Rattle.std.specs.Prelude.{is_ok, is_some}
use Rattle.grid_model.specs.Rows.{Cat}
use Rattle.grid_outside.proofs.Spans.{leaves_start}
use Rattle.grid_journal.proofs.KeptDeltas.{plain_kept}
use Rattle.grid_deed.proofs.Frames.{goes_between, goes_nowhere}
use Rattle.grid_deed.proofs.Keeping.{commit_room, committed_so, held_stands, rests_where}
use Rattle.run_open.proofs.Commits.{is_begun, made_now, more_where, of_commit_where}
use Rattle.run_open.proofs.beginning.begin.Goals as goal

pub returns-in_default-clause-committed : goal.returns-in_default-clause-committed
returns-in_default-clause-committed g c = λ kept held. record {
  ends = λ told. held_stands kept (g.D.Disk.disk c.args.main.now) c.args.store.now held told;
  leaves = λ told settled. leaves_start c.args.moments.now _ (g.D.Disk.disk c.args.main.now) c.requires.main_last settled (held_stands kept (g.D.Disk.disk c.args.main.now) c.args.store.now held told);
}

pub returns-in_default-clause-goes : goal.returns-in_default-clause-goes
returns-in_default-clause-goes g c = goes_nowhere c.args.moments.now (g.D.Disk.disk c.args.main.now)

pub commit-requires-clause-apply : goal.commit-requires-clause-apply
commit-requires-clause-apply g c =
    ap is_ok (is_begun c.args.store.now.cat (made_now c.requires.held.0 (g.D.Disk.disk c.args.main.now) c.args.store.now c.requires.held.1) c.tables-tables.result.now c.tables-tables.ensures c.numbers-last.result c.numbers-last.ensures c.has_pending-is_pending.result (c.has_pending-is_pending.ensures ∙ ap (λ (c : Cat). is_some c.pending) c.tables-tables.ensures) c.in-Ok.deltas c.in-Ok.ensures.is)

pub commit-requires-clause-spelled : goal.commit-requires-clause-spelled
commit-requires-clause-spelled g c = plain_kept c.in-Ok.deltas c.in-Ok.ensures.spelled

pub commit-requires-clause-log : goal.commit-requires-clause-log
commit-requires-clause-log g c = λ told. (c.requires.held.0, c.requires.held.1.keeps told)

pub returns-clause-committed : goal.returns-clause-committed
returns-clause-committed g c = λ kept held.
    let main_old = g.D.Disk.disk c.args.main.now in
    let main_new = g.D.Disk.disk c.commit.new.main in
    let store = c.args.store.now in
    let done = c.commit.ensures in
    let is = is_begun store.cat (made_now kept main_old store held) c.tables-tables.result.now c.tables-tables.ensures c.numbers-last.result c.numbers-last.ensures c.has_pending-is_pending.result (c.has_pending-is_pending.ensures ∙ ap (λ (c : Cat). is_some c.pending) c.tables-tables.ensures) c.in-Ok.deltas c.in-Ok.ensures.is in
    committed_so kept _ c.in-Ok.deltas c.args.moments.now store c.commit.new.self main_old main_new held is c.requires.main_last done.span.tells
    (λ told settled. done.any_moment told settled kept _ (held.keeps told) is)
    c.commit.result done.commits done.keeps done.settled (λ what at is. (done.worn what at).0 is)
    (λ e is ne. rests_where g.D.Disk.disk c.args.main.now c.commit.new.main (done.unchanged e is ne).0) done.no_other

pub returns-clause-one : goal.returns-clause-one
returns-clause-one g c =
    let done = c.commit.ensures in
    more_where c.args.store.now c.commit.new.self c.in-Ok.deltas (g.D.Disk.disk c.args.main.now) (g.D.Disk.disk c.commit.new.main) c.requires.held.0 c.requires.held.1 c.commit.result done.keeps done.added

pub returns-clause-of_commit : goal.returns-clause-of_commit
returns-clause-of_commit g c = of_commit_where c.commit.result c.commit.ensures.no_other

pub returns-clause-goes : goal.returns-clause-goes
returns-clause-goes g c = goes_between c.args.moments.now _ _ (g.D.Disk.disk c.args.main.now) (g.D.Disk.disk c.commit.new.main) c.commit.ensures.span

pub returns-clause-in_room : goal.returns-clause-in_room
returns-clause-in_room g c =
    let done = c.commit.ensures in
    commit_room g.D.Disk.disk c.requires.held.0 c.in-Ok.deltas c.args.store.now c.commit.new.self c.args.main.now c.commit.new.main c.commit.result c.requires.held.1 done.commits done.added done.worn (λ e is ne. (done.unchanged e is ne).0)
