use Rattle.std.proofs.Common.{◌≡◌, true, refl, sym, subst, ◌∙◌, arith}
use Rattle.std.specs.Prelude.{nat_le}
use Rattle.std.proofs.lemmas.Bool.{le-leb}
use Rattle.grid_outside.specs.declared.outside.Wear.TheVariants.{Vaults}
use Rattle.grid_model.specs.Limits.{object_size}
use Rattle.grid_model.specs.Orders.{works}
use Rattle.grid_model.specs.Runs.{Request}
use Rattle.grid_model.specs.declared.replies.End.TheVariants as end
use Rattle.grid_model.specs.declared.refusal.Refusal.TheVariants as refusal
use Rattle.cmd_read.specs.Orders.{promised}
use Rattle.cmd_run.specs.Fits.{state_of}
use Rattle.cmd_run.specs.Obeys.{SaysOnly}
use Rattle.cmd_run.proofs.LoginLemmas.{says_no_login, says_refused}
use Rattle.cmd_run.proofs.Remembering.{remembers_none}
use Rattle.cmd_run.proofs.WorkingLemmas.{not_le, says_too_large}
use Rattle.cmd_run.proofs.Works.{asks_unbuilt, asks_work, is_work_of, work_of}
use Rattle.cmd_run.proofs.server.Server.work.Goals as goal

-- ---- a verb that is not built

pub returns-then-not-is_built-clause-obeys : goal.returns-then-not-is_built-clause-obeys
returns-then-not-is_built-clause-obeys g c = λ source request asks.
    let s = c.args.self.now in
    let Q : Request → Type 0 = λ x. SaysOnly (state_of s) x (end.Refused refusal.UnknownCommand) (state_of s) in
    c.say.ensures.obeys source request s refl
    (subst Q (sym (asks_unbuilt (state_of s) c.args.session c.args.verb.now c.args.body.now request c.requires.other asks
    (sym c.is_built.ensures ∙ c.if-not-is_built.true)))
    (says_refused s 0 refusal.UnknownCommand tt))

pub returns-then-not-is_built-clause-worn : goal.returns-then-not-is_built-clause-worn
returns-then-not-is_built-clause-worn g c = λ source request asks what place is. absurd (c.say.ensures.worn what place is)

pub returns-then-not-is_built-clause-dry : goal.returns-then-not-is_built-clause-dry
returns-then-not-is_built-clause-dry g c place is = absurd (c.say.ensures.worn Vaults place is)

pub returns-then-not-is_built-clause-remembers : goal.returns-then-not-is_built-clause-remembers
returns-then-not-is_built-clause-remembers g c =
    remembers_none c.args.line c.args.self.now.store.cat c.args.outside.now.moments (g.D.Disk.disk c.args.outside.now.main)
    (g.D.Disk.disk c.say.new.outside.main) c.say.ensures.remembers

-- ---- without a login

pub returns-in_default-clause-obeys : goal.returns-in_default-clause-obeys
returns-in_default-clause-obeys g c = λ source request asks.
    let s = c.args.self.now in
    let its = asks_work (state_of s) c.args.session c.args.verb.now c.args.body.now request c.requires.other asks
    (sym c.is_built.ensures ∙ c.if-not-is_built.false) in
    let Q : Request → Type 0 = λ x. SaysOnly (state_of s) x (end.Refused refusal.NoLogin) (state_of s) in
    c.say-in_default.ensures.obeys source request s refl
    (subst Q (sym its.1) (says_no_login s c.args.session (works its.0 (promised c.args.verb.now)) (sym c.in_default.ensures) refl))

pub returns-in_default-clause-worn : goal.returns-in_default-clause-worn
returns-in_default-clause-worn g c = λ source request asks what place is. absurd (c.say-in_default.ensures.worn what place is)

pub returns-in_default-clause-dry : goal.returns-in_default-clause-dry
returns-in_default-clause-dry g c place is = absurd (c.say-in_default.ensures.worn Vaults place is)

pub returns-in_default-clause-remembers : goal.returns-in_default-clause-remembers
returns-in_default-clause-remembers g c =
    remembers_none c.args.line c.args.self.now.store.cat c.args.outside.now.moments (g.D.Disk.disk c.args.outside.now.main)
    (g.D.Disk.disk c.say-in_default.new.outside.main)
    c.say-in_default.ensures.remembers

-- ---- a body that is too large

pub returns-then-promised-gt-OBJECT_SIZE-clause-obeys : goal.returns-then-promised-gt-OBJECT_SIZE-clause-obeys
returns-then-promised-gt-OBJECT_SIZE-clause-obeys g c = λ source request asks.
    let s = c.args.self.now in
    let its = asks_work (state_of s) c.args.session c.args.verb.now c.args.body.now request c.requires.other asks
    (sym c.is_built.ensures ∙ c.if-not-is_built.false) in
    let Q : Request → Type 0 = λ x. SaysOnly (state_of s) x (end.Refused (refusal.TooLarge object_size)) (state_of s) in
    c.say-then-promised-gt-OBJECT_SIZE.ensures.obeys source request s refl
    (subst Q (sym its.1) (says_too_large s c.args.session c.in-Some.user (sym c.in-Some.ensures) its.0 (promised c.args.verb.now)
    (not_le (promised c.args.verb.now) object_size (omega (arith, c.promised.ensures, c.if-promised-gt-OBJECT_SIZE.true)))))

pub returns-then-promised-gt-OBJECT_SIZE-clause-worn : goal.returns-then-promised-gt-OBJECT_SIZE-clause-worn
returns-then-promised-gt-OBJECT_SIZE-clause-worn g c =
    λ source request asks what place is. absurd (c.say-then-promised-gt-OBJECT_SIZE.ensures.worn what place is)

pub returns-then-promised-gt-OBJECT_SIZE-clause-dry : goal.returns-then-promised-gt-OBJECT_SIZE-clause-dry
returns-then-promised-gt-OBJECT_SIZE-clause-dry g c place is =
    absurd (c.say-then-promised-gt-OBJECT_SIZE.ensures.worn Vaults place is)

pub returns-then-promised-gt-OBJECT_SIZE-clause-remembers : goal.returns-then-promised-gt-OBJECT_SIZE-clause-remembers
returns-then-promised-gt-OBJECT_SIZE-clause-remembers g c =
    remembers_none c.args.line c.args.self.now.store.cat c.args.outside.now.moments (g.D.Disk.disk c.args.outside.now.main)
    (g.D.Disk.disk c.say-then-promised-gt-OBJECT_SIZE.new.outside.main)
    c.say-then-promised-gt-OBJECT_SIZE.ensures.remembers

-- ---- it is done

pub work_as-requires-clause-logged_in : goal.work_as-requires-clause-logged_in
work_as-requires-clause-logged_in g c = sym c.in-Some.ensures

pub work_as-requires-clause-verb : goal.work_as-requires-clause-verb
work_as-requires-clause-verb g c =
    work_of (state_of c.args.self.now) c.args.verb.now c.args.body.now c.requires.other (sym c.is_built.ensures ∙ c.if-not-is_built.false) c.requires.words

pub returns-clause-obeys : goal.returns-clause-obeys
returns-clause-obeys g c = λ source request asks.
    let small : nat_le (promised c.args.verb.now) object_size ≡ true =
    le-leb (promised c.args.verb.now) object_size (omega (arith, c.promised.ensures, c.if-promised-gt-OBJECT_SIZE.false)) in
    c.work_as.ensures.obeys source request
    (is_work_of (state_of c.args.self.now) c.args.session c.args.verb.now c.args.body.now request c.requires.other asks
    (sym c.is_built.ensures ∙ c.if-not-is_built.false) small)

pub returns-clause-worn : goal.returns-clause-worn
returns-clause-worn g c = λ source request asks.
    let small : nat_le (promised c.args.verb.now) object_size ≡ true =
    le-leb (promised c.args.verb.now) object_size (omega (arith, c.promised.ensures, c.if-promised-gt-OBJECT_SIZE.false)) in
    c.work_as.ensures.worn source request
    (is_work_of (state_of c.args.self.now) c.args.session c.args.verb.now c.args.body.now request c.requires.other asks
    (sym c.is_built.ensures ∙ c.if-not-is_built.false) small)

pub returns-clause-dry : goal.returns-clause-dry
returns-clause-dry g c = λ place is source request asks.
    let small : nat_le (promised c.args.verb.now) object_size ≡ true =
    le-leb (promised c.args.verb.now) object_size (omega (arith, c.promised.ensures, c.if-promised-gt-OBJECT_SIZE.false)) in
    c.work_as.ensures.dry place is source request
    (is_work_of (state_of c.args.self.now) c.args.session c.args.verb.now c.args.body.now request c.requires.other asks
    (sym c.is_built.ensures ∙ c.if-not-is_built.false) small)

pub returns-clause-idle : goal.returns-clause-idle
returns-clause-idle g c = λ request asks.
    let small : nat_le (promised c.args.verb.now) object_size ≡ true =
    le-leb (promised c.args.verb.now) object_size (omega (arith, c.promised.ensures, c.if-promised-gt-OBJECT_SIZE.false)) in
    c.work_as.ensures.idle request
    (is_work_of (state_of c.args.self.now) c.args.session c.args.verb.now c.args.body.now request c.requires.other asks
    (sym c.is_built.ensures ∙ c.if-not-is_built.false) small)

pub returns-clause-in_few : goal.returns-clause-in_few
returns-clause-in_few g c = c.work_as.ensures.in_few
