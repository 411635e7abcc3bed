use Rattle.std.proofs.Common.{◌≡◌, ℕ, Err, inl, inr, refl, ap, subst}
use Rattle.std.specs.Prelude.{vec_len}
use Rattle.grid_outside.specs.declared.outside.Wear.TheVariants.{Log}
use Rattle.grid_journal.specs.declared.error.JournalError.TheVariants as journal
use Rattle.grid_model.specs.declared.grid.Side.TheVariants.{Main}
use Rattle.grid_server.specs.Starting.{Started}
use Rattle.grid_server.proofs.RestLemmas.{looked_rests}
use Rattle.grid_server.proofs.running.init.Goals as goal

pub unreachable-requires : goal.unreachable-requires
unreachable-requires g c = (c.in-Err-NotACatalogue.ensures.no_other _ Log _).0 (ap Err c.in-Err-NotACatalogue.field-0-is)

pub unreachable-requires-in-Err-Worn : goal.unreachable-requires-in-Err-Worn
unreachable-requires-in-Err-Worn g c = (c.in-Err-Worn.ensures.no_other Main _ _).1 (ap Err c.in-Err-Worn.field-0-is)

pub returns-in-Ok-clause-inits : goal.returns-in-Ok-clause-inits
returns-in-Ok-clause-inits g c =
    let P : ℕ → Type 0 = λ n. Started c.args.zone.now c.args.admin.now n (g.D.Disk.disk c.args.outside.now.main) (g.D.Disk.disk c.init.new.main) (g.D.Disk.disk c.args.outside.now.spare) in
    let same : c.len-stores.result ≡ vec_len c.args.outside.now.stores = c.len-stores.ensures in
    inl (
      subst P same (
          record {
            main_empty = c.in-Ok.ensures.was_empty.0;
            spare_empty = c.in-Ok.ensures.was_empty.1;
            stands = c.in-Ok.ensures.stands;
            grid = refl;
            settled = c.in-Ok.ensures.settled;
          }
          ),
      c.say.ensures.says,
    )

pub returns-in-Err-DiskFault-clause-inits : goal.returns-in-Err-DiskFault-clause-inits
returns-in-Err-DiskFault-clause-inits g c = inr (inr (inl (refl, c.init.ensures.kept, λ told. refl)))

pub returns-in-Err-Memory-clause-inits : goal.returns-in-Err-Memory-clause-inits
returns-in-Err-Memory-clause-inits g c =
    let memory = c.in-Err-Memory.field-0-is in
    inr (inr (inr (refl, looked_rests (g.D.Disk.disk c.args.outside.now.main) (g.D.Disk.disk c.init.new.main) (c.in-Err-Memory.ensures.unchanged journal.Memory (ap Err memory) (λ e. cc)).0 c.init.ensures.main_later, λ told. refl)))
