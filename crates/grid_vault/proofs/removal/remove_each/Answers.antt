use Rattle.std.proofs.Common.{slice_index_or, ap, ◌∙◌, ℕ, subst, arith}
use Rattle.std.proofs.lemmas.Option.{slice_get-get_or}
use Rattle.grid_outside.proofs.Spans.{none_called, last_moments}
use Rattle.grid_vault.specs.Vault.{HasSlot, RoseAt}
use Rattle.grid_vault.specs.Removal.{RemovesAmong}
use Rattle.grid_vault.proofs.Removing.{Removed-same, split_none, split_all, none_gone, none_fewer, removes_more, one_is_gone, one_is_left}
use Rattle.grid_vault.proofs.removal.remove_each.Goals as goal
use Rattle.grid_vault.proofs.removal.remove_each.Goals.{in-Ok+in_ok-push-in-Ok, in-Err+in_ok-push-in-Err}

pub loop-file-init : goal.loop-file-init
loop-file-init g c = record {
  span = none_called g.P.Plugin.plugin (RemovesAmong c.args.files.now) (Removed-same c.args.files.now) (HasSlot c.args.files.now) _ _ _ (omega arith) c.requires.last;
  split = split_none c.args.files.now c.args.gone.now.items c.args.left.now.items c.requires.none_gone c.requires.none_left;
  gone = none_gone g.P.Plugin.plugin c.args.stores.now.items c.args.gone.now.items c.requires.none_gone;
  fewer = none_fewer g.P.Plugin.plugin c.args.stores.now.items c.args.left.now.items c.requires.none_left;
  later = omega arith;
  room = omega arith;
}

pub remove-requires-clause-last : goal.remove-requires-clause-last
remove-requires-clause-last g c = last_moments g.P.Plugin.plugin _ _ (RemovesAmong c.args.files.now) (HasSlot c.args.files.now) _ _ c.loop-file.invariant.span

pub returns-in_err-push-in-Ok-clause-any_moment : goal.returns-in_err-push-in-Ok-clause-any_moment
returns-in_err-push-in-Ok-clause-any_moment g c =
    let files = c.args.files.now in
    let is = slice_get-get_or files c.loop-file.file-index (record { slot = 0; name = 0 }) c.loop-file-test.true in
    removes_more files g.P.Plugin.plugin _ _ _ _ _ _ c.loop-file.file-index (slice_index_or files c.loop-file.file-index (record { slot = 0; name = 0 })) is c.loop-file.invariant.later (omega (arith, c.remove.ensures.drawn)) c.loop-file.invariant.span c.remove.ensures.any_moment

pub returns-in_err-push-in-Err-clause-any_moment : goal.returns-in_err-push-in-Err-clause-any_moment
returns-in_err-push-in-Err-clause-any_moment g c =
    let files = c.args.files.now in
    let is = slice_get-get_or files c.loop-file.file-index (record { slot = 0; name = 0 }) c.loop-file-test.true in
    removes_more files g.P.Plugin.plugin _ _ _ _ _ _ c.loop-file.file-index (slice_index_or files c.loop-file.file-index (record { slot = 0; name = 0 })) is c.loop-file.invariant.later (omega (arith, c.remove.ensures.drawn)) c.loop-file.invariant.span c.remove.ensures.any_moment

pub loop-file-preserved : goal.loop-file-preserved
loop-file-preserved g c =
    let files = c.args.files.now in
    let file = slice_index_or files c.loop-file.file-index (record { slot = 0; name = 0 }) in
    let is = slice_get-get_or files c.loop-file.file-index (record { slot = 0; name = 0 }) c.loop-file-test.true in
    let so_far = c.loop-file.invariant in
    let old = c.args.stores.now.items in
    let mid = c.loop-file.stores.items in
    let new = c.remove.new.stores.items in
    let gone = c.loop-file.gone.items in
    let left = c.loop-file.left.items in
    let drawn = c.remove.ensures.drawn in
    elim c.match-remove.branch [
      | in-Ok+in_ok-push-in-Ok w ↦
          let now = one_is_gone files g.P.Plugin.plugin _ _ _ old mid new c.loop-file.file-index file is so_far.later (omega (arith, drawn)) so_far.span c.remove.ensures.any_moment gone left c.match-remove.gone.items c.match-remove.left.items so_far.split so_far.gone so_far.fewer
          (ap (λ v. v.items) w.gone-is ∙ w.in_ok-push-in-Ok.ensures.items) (ap (λ v. v.items) w.left-is) w.in-Ok.ensures.gone in
          record {
            span = removes_more files g.P.Plugin.plugin _ _ _ old mid new c.loop-file.file-index file is so_far.later (omega (arith, drawn)) so_far.span c.remove.ensures.any_moment;
            split = now.is_split;
            gone = now.are_gone;
            fewer = now.are_fewer;
            later = omega (arith, so_far.later, drawn);
            room = omega (arith, so_far.room, drawn);
          }
      | in-Err+in_ok-push-in-Err w ↦
          let now = one_is_left files g.P.Plugin.plugin _ _ _ old mid new c.loop-file.file-index file is so_far.later (omega (arith, drawn)) so_far.span c.remove.ensures.any_moment gone left c.match-remove.gone.items c.match-remove.left.items so_far.split so_far.gone so_far.fewer
          (ap (λ v. v.items) w.gone-is) (ap (λ v. v.items) w.left-is ∙ w.in_ok-push-in-Err.ensures.items) (let R : ℕ → Type 0 = λ n. RoseAt g.P.Plugin.plugin n mid new in subst R w.in-Err.ensures.slot w.in-Err.ensures.cause) in
          record {
            span = removes_more files g.P.Plugin.plugin _ _ _ old mid new c.loop-file.file-index file is so_far.later (omega (arith, drawn)) so_far.span c.remove.ensures.any_moment;
            split = now.is_split;
            gone = now.are_gone;
            fewer = now.are_fewer;
            later = omega (arith, so_far.later, drawn);
            room = omega (arith, so_far.room, drawn);
          }
    ]

pub returns-clause-split : goal.returns-clause-split
returns-clause-split g c = split_all c.args.files.now c.loop-file.file-index c.loop-file.gone.items c.loop-file.left.items (omega (arith, c.loop-file-test.false)) c.loop-file.invariant.split

pub returns-clause-last : goal.returns-clause-last
returns-clause-last g c = last_moments g.P.Plugin.plugin _ _ (RemovesAmong c.args.files.now) (HasSlot c.args.files.now) _ _ c.loop-file.invariant.span
