-- One call that was made: how far the command has come behind it, and what it leaves where it was the last one.
use Rattle.std.proofs.Common.{◌≡◌, ◌≤◌, List, ◌++◌, Option, Some, None, Ok, Err, sym, subst}
use Rattle.grid_outside.specs.Ambient.{AmbientState}
use Rattle.grid_outside.specs.Disk.{DiskState}
use Rattle.grid_outside.specs.Files.{StoreState}
use Rattle.grid_outside.specs.Sink.{SinkState}
use Rattle.grid_outside.specs.Source.{SourceState}
use Rattle.grid_model.specs.RowGrids.{user_name}
use Rattle.grid_model.specs.Meanings.{Meaning}
use Rattle.grid_model.specs.Doing.{Course, Did, do_call}
use Rattle.grid_model.specs.declared.marks.Mark.{Mark}
use Rattle.chain_core.specs.Answers.{failure_in}
use Rattle.chain_run.specs.Calls.{Made}
use Rattle.run_laws.specs.Passes.{CallsPass, Seen}
use Rattle.service_run.specs.declared.command.Command.{Command}
use Rattle.service_run.specs.declared.ending.Ending.{Ending}
use Rattle.service_run.specs.declared.ending.Ending.TheVariants as ending
use Rattle.call_laws.specs.Amid.{IsAmid, IsCutShort, IsSetting, MayCall, Setting}
use Rattle.call_laws.specs.OneCall.{IsCut, RunsOne, cut, ran_out}
use Rattle.call_laws.proofs.Joined.{passes_well}
use Rattle.call_laws.proofs.Rounds.{amid_next, short_amid}
use Rattle.rule_run.specs.Calls.{Called, Did as DidThere, Spot, performed, recovered, refused, world_at}
use Rattle.rule_run.proofs.Cutting.{cut_any}

pub not_both : {X : Type 0} (o : Option X) (a : X) → o ≡ None → o ≡ Some a → ⊥
not_both None a is e = cc
not_both (Some b) a is e = cc

-- what the call does for the user of the command there
abbrev pub does_there : {D A P K : Type 0} → Spot D A P K → Made Ending → Course → Meaning Did
does_there at x = do_call (user_name at.rows.cat at.command.user) x.call

module _ {D A P K : Type 0} (disk : D → DiskState) (ambient : A → AmbientState) (plugin : P → StoreState) (sink : K → SinkState) where
  -- nothing failed in a call that was not stopped
  pub passes_on : (a b : Spot D A P K) (x : Made Ending) → Called disk ambient plugin sink a x b → x.stop ≡ None
      → CallsPass disk plugin sink ⊥ ⊥ a.seen b.seen
  passes_on a b x called on =
      passes_well disk plugin sink (x.stop ≡ Some ending.Disk) (x.stop ≡ Some ending.Sink) ⊥ ⊥ a.seen b.seen (not_both x.stop ending.Disk on) (λ e. e)
      (λ e. e) called.passes

  module _ (source : SourceState) {F : Type 0} (s : Setting F) (is : IsSetting s) (from : Seen D A P K) where
    -- so far the command has come there
    abbrev pub AmidAt : Spot D A P K → List Mark → Type 0
    AmidAt at taken = IsAmid disk ambient plugin sink source s from at.seen at.command at.rows taken

    module _ (a b : Spot D A P K) (x : Made Ending) (called : Called disk ambient plugin sink a x b) (taken : List Mark) (amid : AmidAt a taken)
        (may : MayCall s a.rows.cat a.command taken (does_there a x) x.call x.undo) (last : (disk a.seen.outside.main).last ≤ a.seen.outside.moments) where
      -- ---- it was not stopped

      ran_next : (r : RunsOne (world_at disk ambient plugin sink source a) (world_at disk ambient plugin sink source b) amid.holds.cat a.rows a.command x.call
          x.undo b.rows b.command) → x.stop ≡ None → (more : List Mark) × AmidAt b (taken ++ more)
      ran_next r on =
          let next = amid_next disk ambient plugin sink source s from is a.seen b.seen x.call x.undo (does_there a x) a.command a.rows taken
          amid may last r.left b.rows r.ran
          (passes_on a b x called on) r.step (failure_in r.ran) in
          let I : Command → Type 0 = λ y. IsAmid disk ambient plugin sink source s from b.seen y b.rows (taken ++ r.step.ends.marks) in
          (r.step.ends.marks, subst I (sym r.over) next)

      done_by : DidThere disk ambient plugin sink a x b → x.stop ≡ None → (more : List Mark) × AmidAt b (taken ++ more)
      done_by (refused stop same) on = absurd (not_both x.stop ending.Memory on stop)
      done_by (performed (Ok ran) stop step) on =
          let its = step source amid.holds.cat amid.holds.held in (
            its.ends.marks,
            amid_next disk ambient plugin sink source s from is a.seen b.seen x.call x.undo (does_there a x) a.command a.rows taken
                amid may last b.command b.rows ran
                (passes_on a b x called on) its None,
          )
      done_by (performed (Err e) stop step) on = absurd (not_both x.stop e on stop)
      done_by (recovered (Ok failure) stop runs) on = ran_next (runs source amid.holds.cat amid.holds.held).0 on
      done_by (recovered (Err e) stop runs) on = absurd (not_both x.stop e on stop)

      pub one_done : x.stop ≡ None → (more : List Mark) × AmidAt b (taken ++ more)
      one_done on = done_by called.did on

      -- ---- nothing is called behind it

      abbrev Cut : Type 0
      Cut = IsCutShort disk ambient plugin sink source s from b.seen taken

      cut_by : DidThere disk ambient plugin sink a x b → Cut
      cut_by (refused stop same) =
          let S : Spot D A P K → Type 0 = λ at. IsCutShort disk ambient plugin sink source s from at.seen taken in
          subst S (sym same) (short_amid disk ambient plugin sink source s from a.seen a.command a.rows taken amid)
      cut_by (performed result stop step) =
          cut_any disk ambient plugin sink source s from is a.seen b.seen x.call x.undo (does_there a x) a.command a.rows taken
          amid may last b.command b.rows result _ _
          called.passes (step source amid.holds.cat amid.holds.held)
      cut_by (recovered (Ok failure) stop runs) =
          let r = (runs source amid.holds.cat amid.holds.held).0 in
          cut_any disk ambient plugin sink source s from is a.seen b.seen x.call x.undo (does_there a x) a.command a.rows taken
          amid may last r.left b.rows (Ok r.ran) _ _
          called.passes r.step
      cut_by (recovered (Err e) stop runs) = cut_so e (runs source amid.holds.cat amid.holds.held)
        where
          cut_so : (e : Ending)
              → IsCut (world_at disk ambient plugin sink source a) (world_at disk ambient plugin sink source b) amid.holds.cat a.rows a.command x.call x.undo
              b.rows b.command e → Cut
          cut_so e (cut step) =
              cut_any disk ambient plugin sink source s from is a.seen b.seen x.call x.undo (does_there a x) a.command a.rows taken
              amid may last b.command b.rows (Err e) _ _
              called.passes step
          cut_so e (ran_out ran left step) =
              cut_any disk ambient plugin sink source s from is a.seen b.seen x.call x.undo (does_there a x) a.command a.rows taken
              amid may last left b.rows (Ok ran) _ _
              called.passes step

      pub one_cut : Cut
      one_cut = cut_by called.did
