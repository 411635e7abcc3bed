use Rattle.std.proofs.Common.{◌≡◌, ◌⊎◌, ℕ, arith, subst}
use Rattle.grid_outside.proofs.Spans.{none_called}
use Rattle.grid_vault.specs.Vault.{WritesAmong, HasSlot, RoseAt}
use Rattle.grid_vault.proofs.Writing.{Among-same}
use Rattle.grid_vault.proofs.Copied.{IsCalled}
use Rattle.grid_vault.proofs.copying.copy.Goals as goal

pub returns-in_default-clause-any_moment : goal.returns-in_default-clause-any_moment
returns-in_default-clause-any_moment g c = none_called g.P.Plugin.plugin (WritesAmong c.args.files.now) (Among-same c.args.files.now) (IsCalled g.P.Plugin.plugin c.args.from.now c.args.files.now) _ _ _ (omega arith) c.requires.last

pub returns-in-Ok-copy_from-clause-copied : goal.returns-in-Ok-copy_from-clause-copied
returns-in-Ok-copy_from-clause-copied g c = rw c.as_slice.ensures at c.in-Ok-copy_from.ensures.copied

pub returns-in-Ok-copy_from-clause-any_moment : goal.returns-in-Ok-copy_from-clause-any_moment
returns-in-Ok-copy_from-clause-any_moment g c = rw c.as_slice.ensures at c.in-Ok-copy_from.ensures.any_moment

pub returns-clause-any_moment : goal.returns-clause-any_moment
returns-clause-any_moment g c = rw c.as_slice.ensures at c.in-Err.ensures.any_moment

pub returns-clause-slot : goal.returns-clause-slot
returns-clause-slot g c slot is =
    let same : c.in-Err.fault.slot ≡ slot = cc in
    let S : ℕ → Type 0 = λ n. HasSlot c.args.files.now n ⊎ (n ≡ c.args.from.now.slot) in
    subst S same (rw c.as_slice.ensures at c.in-Err.ensures.slot)

pub returns-clause-cause : goal.returns-clause-cause
returns-clause-cause g c slot is =
    let same : c.in-Err.fault.slot ≡ slot = cc in
    let R : ℕ → Type 0 = λ n. RoseAt g.P.Plugin.plugin n c.args.stores.now.items c.copy_from.new.stores.items in
    subst R same c.in-Err.ensures.cause
