use Rattle.std.proofs.Common.{refl}
use Rattle.std.specs.Prelude.{IsErrOf}
use Rattle.grid_journal.specs.declared.error.JournalError.TheVariants.{DiskFault}
use Rattle.grid_journal.proofs.KeptDeltas.{plain_kept}
use Rattle.grid_deed.proofs.Frames.{frame_main, goes_between}
use Rattle.grid_deed.proofs.Keeping.{committed_so, rests_where, commit_room}
use Rattle.grid_deed.proofs.DeedWholes.{keep_first, keep_staged}
use Rattle.grid_deed.proofs.performing.commit.Goals as goal

pub commit-requires-clause-spelled : goal.commit-requires-clause-spelled
commit-requires-clause-spelled g c = plain_kept c.args.deltas c.requires.spelled

pub returns-clause-committed : goal.returns-clause-committed
returns-clause-committed g c kept after held applied =
    let main_old = g.D.Disk.disk c.args.outside.now.main in
    let main_new = g.D.Disk.disk c.commit.new.main in
    let done = c.commit.ensures in
    committed_so kept after c.args.deltas c.args.outside.now.moments c.args.store.now c.commit.new.self main_old main_new held applied c.requires.ready.main_last done.span.tells
    (λ told settled. done.any_moment told settled kept after (held.keeps told) applied)
    c.commit.result done.commits done.keeps done.settled (λ what at is. (done.worn what at).0 is)
    (λ e is ne. rests_where g.D.Disk.disk c.args.outside.now.main c.commit.new.main (done.unchanged e is ne).0) done.no_other

pub returns-clause-frame : goal.returns-clause-frame
returns-clause-frame g c =
    let main_old = g.D.Disk.disk c.args.outside.now.main in
    let main_new = g.D.Disk.disk c.commit.new.main in
    let done = c.commit.ensures in
    let held = c.requires.held in
    frame_main g.D.Disk.disk g.P.Plugin.plugin (IsErrOf c.commit.result DiskFault) c.args.outside.now c.commit.new.main c.commit.new.spare c.commit.new.moments done.drawn_from done.last (goes_between _ _ _ main_old main_new done.span) done.spare done.cause
    (commit_room g.D.Disk.disk held.0 c.args.deltas c.args.store.now c.commit.new.self c.args.outside.now.main c.commit.new.main c.commit.result held.1 done.commits done.added done.worn (λ e is ne. (done.unchanged e is ne).0))

pub returns-clause-whole : goal.returns-clause-whole
returns-clause-whole g c kept after held applied turns =
    keep_first g.P.Plugin.plugin kept after turns c.args.outside.now.moments c.args.store.now c.commit.new.self (g.D.Disk.disk c.args.outside.now.main) (g.D.Disk.disk c.commit.new.main) c.args.outside.now.stores.items c.args.outside.now.stores.items refl
    c.commit.result (returns-clause-committed g c kept after held applied)

pub returns-clause-whole_staged : goal.returns-clause-whole_staged
returns-clause-whole_staged g c kept after held applied turns =
    keep_staged g.P.Plugin.plugin kept c.args.store.now.cat after turns c.args.outside.now.moments c.args.store.now c.commit.new.self (g.D.Disk.disk c.args.outside.now.main) (g.D.Disk.disk c.commit.new.main) c.args.outside.now.stores.items c.args.outside.now.stores.items refl
    c.commit.result (returns-clause-committed g c kept after held applied)
