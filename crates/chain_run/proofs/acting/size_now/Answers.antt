use Rattle.std.proofs.Common.{◌≡◌, ℕ, Option, sym, ap, subst}
use Rattle.std.specs.Prelude.{IfOk}
use Rattle.std.specs.Option.{option_map_or}
use Rattle.grid_model.specs.Values.{recorded_size}
use Rattle.chain_run.proofs.acting.size_now.Goals as goal

pub returns-in-Some-clause-size : goal.returns-in-Some-clause-size
returns-in-Some-clause-size g c =
    sym (ap (λ (o : Option ℕ). option_map_or (λ n. n) o (recorded_size (g.O.Doer.place c.args.doer.now).grid c.args.env.now.obj)) c.in-Some.is)

pub returns-in-None-clause-size : goal.returns-in-None-clause-size
returns-in-None-clause-size g c =
    subst (λ (o : Option ℕ). IfOk c.size_at.result (λ size. size ≡ option_map_or (λ n. n) o (recorded_size (g.O.Doer.place c.args.doer.now).grid c.args.env.now.obj)))
    (sym c.in-None.is) c.size_at.ensures.size
