use Rattle.std.proofs.Common.{◌≡◌, slice_get, Some, Ok, refl, sym, ap, ◌∙◌, subst, List}
use Rattle.std.proofs.lemmas.Option.{slice_get-get_or}
use Rattle.grid_model.specs.declared.plans.OldFile.{OldFile}
use Rattle.grid_deed.proofs.Frames.{frame_none, frame_then}
use Rattle.service_run.specs.Sums.{seen_none}
use Rattle.service_run.proofs.SeenFiles.{looks_same, looks_then, one_more, rose_since}
use Rattle.service_run.proofs.looking.look_at_all.Goals as goal

pub loop-file-init : goal.loop-file-init
loop-file-init g c = record {
  seen = rw c.new-bad.ensures.items seen_none;
  looks = looks_same g.P.Plugin.plugin c.args.outside.now.stores.items;
  frame = frame_none g.D.Disk.disk g.P.Plugin.plugin ⊥ c.args.outside.now (λ e. e);
  main = refl;
  moments = refl;
}

pub loop-file-preserved : goal.loop-file-preserved
loop-file-preserved g c =
    let plugin = g.P.Plugin.plugin in
    let so_far = c.loop-file.invariant in
    let old = c.args.outside.now.stores.items in
    let mid = c.loop-file.outside.stores.items in
    let new = c.look_at.new.outside.stores.items in
    let items = c.as_slice-file-items.result.now in
    let at = slice_get-get_or items c.loop-file.file-index c.file-item.result c.loop-file-test.true ∙ ap Some (sym c.file-item.is) in
    record {
      seen = one_more plugin old mid items c.loop-file.file-index c.file-item.result at so_far.frame.stores.count so_far.looks c.loop-file.bad.items c.look_at.new.bad.items so_far.seen (c.in-Ok-None.ensures.saw (ap Ok c.in-Ok-None.field-0-is));
      looks = looks_then plugin old mid new so_far.frame.stores.count so_far.looks c.look_at.ensures.frame.stores.count c.look_at.ensures.looks;
      frame = frame_then g.D.Disk.disk plugin ⊥ ⊥ c.args.outside.now c.loop-file.outside c.look_at.new.outside (λ e. e) so_far.frame c.look_at.ensures.frame;
      main = c.look_at.ensures.main ∙ so_far.main;
      moments = c.look_at.ensures.drawn ∙ so_far.moments;
    }

pub returns-in-Ok-Some-clause-says : goal.returns-in-Ok-Some-clause-says
returns-in-Ok-Some-clause-says g c =
    let plugin = g.P.Plugin.plugin in
    let so_far = c.loop-file.invariant in
    let old = c.args.outside.now.stores.items in
    let mid = c.loop-file.outside.stores.items in
    let new = c.look_at.new.outside.stores.items in
    let file = c.file-item.result in
    let items = c.as_slice-file-items.result.now in
    let at = slice_get-get_or items c.loop-file.file-index file c.loop-file-test.true ∙ ap Some (sym c.file-item.is) in
    let Q : List OldFile → Type 0 = λ fs. slice_get fs c.loop-file.file-index ≡ Some file in
    let fault = c.in-Ok-Some.ensures.fault c.in-Ok-Some.slot (ap Ok c.in-Ok-Some.field-0-is) in (
      record { place = c.loop-file.file-index; file = file; is = subst Q c.as_slice-file-items.ensures at; slot_is = sym fault.0 },
      rose_since plugin old mid new so_far.frame.stores.count so_far.looks c.in-Ok-Some.slot (λ k before after was is. (so_far.frame.stores.later k before after was is).faults) c.look_at.ensures.frame.stores.count fault.1,
    )

pub returns-in-Ok-Some-clause-looks : goal.returns-in-Ok-Some-clause-looks
returns-in-Ok-Some-clause-looks g c =
    let so_far = c.loop-file.invariant in
    looks_then g.P.Plugin.plugin c.args.outside.now.stores.items c.loop-file.outside.stores.items c.look_at.new.outside.stores.items so_far.frame.stores.count so_far.looks c.look_at.ensures.frame.stores.count c.look_at.ensures.looks

pub returns-in-Ok-Some-clause-frame : goal.returns-in-Ok-Some-clause-frame
returns-in-Ok-Some-clause-frame g c = frame_then g.D.Disk.disk g.P.Plugin.plugin ⊥ ⊥ c.args.outside.now c.loop-file.outside c.look_at.new.outside (λ e. e) c.loop-file.invariant.frame c.look_at.ensures.frame

pub returns-in-Err-clause-looks : goal.returns-in-Err-clause-looks
returns-in-Err-clause-looks g c =
    let so_far = c.loop-file.invariant in
    looks_then g.P.Plugin.plugin c.args.outside.now.stores.items c.loop-file.outside.stores.items c.look_at.new.outside.stores.items so_far.frame.stores.count so_far.looks c.look_at.ensures.frame.stores.count c.look_at.ensures.looks

pub returns-in-Err-clause-frame : goal.returns-in-Err-clause-frame
returns-in-Err-clause-frame g c = frame_then g.D.Disk.disk g.P.Plugin.plugin ⊥ ⊥ c.args.outside.now c.loop-file.outside c.look_at.new.outside (λ e. e) c.loop-file.invariant.frame c.look_at.ensures.frame
