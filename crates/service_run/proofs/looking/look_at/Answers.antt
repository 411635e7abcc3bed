use Rattle.std.proofs.Common.{[], sym}
use Rattle.std.proofs.lemmas.List.{append-nil}
use Rattle.service_run.specs.Sums.{seen_bad, seen_none, seen_whole}
use Rattle.service_run.proofs.SeenFiles.{reads_other, reads_whole}
use Rattle.service_run.proofs.looking.look_at.Goals as goal

pub returns-in-Ok-None-clause-saw : goal.returns-in-Ok-None-clause-saw
returns-in-Ok-None-clause-saw g c is =
    let file = c.args.file.now in
    let verified = rw c.in-Ok-None.field-0-is at c.in-Ok-None.ensures.verified in
    ([], seen_whole file (reads_whole g.P.Plugin.plugin c.args.outside.now.stores.items file verified) seen_none, sym (append-nil c.args.bad.now.items))

pub returns-in_ok-push-in-Ok-Some-clause-saw : goal.returns-in_ok-push-in-Ok-Some-clause-saw
returns-in_ok-push-in-Ok-Some-clause-saw g c is =
    let stores = c.args.outside.now.stores.items in
    let file = c.args.file.now in
    let verified = rw c.in-Ok-Some.field-0-is at c.in-Ok-Some.ensures.verified in
    (_, seen_bad file _ (reads_other g.P.Plugin.plugin stores file c.in-Ok-Some.found verified) seen_none, c.in_ok-push-in-Ok-Some.ensures.items)
