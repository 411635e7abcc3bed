use Rattle.std.proofs.Common.{◌≡◌, take}
use Rattle.grid_outside.specs.Device.{EachPair, Looks}
use Rattle.grid_deed.specs.Frame.{Frame}
use Rattle.service_run.specs.Sums.{AreSeen}
use Rattle.service_run.proofs.looking.look_at_all.Given as goal

abbrev pub invariant-loop-file : goal.invariant-loop-file
invariant-loop-file g l = record {
  seen : AreSeen g.P.Plugin.plugin l.fn.outside.stores.items (take l.file-index l.file-items) l.bad.items;
  looks : EachPair (λ k before after. Looks (g.P.Plugin.plugin before) (g.P.Plugin.plugin after)) l.fn.outside.stores.items l.outside.stores.items;
  frame : Frame g.D.Disk.disk g.P.Plugin.plugin ⊥ l.fn.outside l.outside;
  main : l.outside.main ≡ l.fn.outside.main;
  moments : l.outside.moments ≡ l.fn.outside.moments;
}
