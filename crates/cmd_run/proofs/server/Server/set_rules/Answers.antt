use Rattle.std.proofs.Common.{◌≡◌, List, true, false, Ok, Err, IsTrue, map, refl, sym, ap, subst, ◌∙◌}
use Rattle.grid_model.specs.Levels.{is_admin}
use Rattle.grid_model.specs.Maps.{get}
use Rattle.grid_model.specs.Orders.{sets_rules}
use Rattle.grid_model.specs.Parsed.{plain_rule, rule_of}
use Rattle.grid_model.specs.Refusing.{Or}
use Rattle.grid_model.specs.Rows.{Cat, has_user}
use Rattle.grid_model.specs.RowGrids.{grid_of, user_name}
use Rattle.grid_model.specs.RuleText.{Rule}
use Rattle.grid_model.specs.Runs.{Request}
use Rattle.grid_model.specs.declared.replies.End.TheVariants as end
use Rattle.grid_model.specs.declared.refusal.Refusal.TheVariants as refusal
use Rattle.plan_base.proofs.AtPaths.{user_known}
use Rattle.rule_keep.specs.Kept.{IsReadSo}
use Rattle.cmd_run.specs.Fits.{state_of}
use Rattle.cmd_run.specs.Obeys.{SaysOnly}
use Rattle.cmd_run.specs.Rules.{BeginsToSet, SetsRules}
use Rattle.cmd_run.proofs.KeepLemmas.{keep_still}
use Rattle.cmd_run.proofs.LoginLemmas.{says_no_login}
use Rattle.cmd_run.proofs.Remembering.{still_remembers}
use Rattle.cmd_run.proofs.SayLemmas.{unsaid}
use Rattle.cmd_run.proofs.SetRules.{begins_to_set, says_no_rules, says_not_ruler, set_not_refused}
use Rattle.cmd_run.proofs.server.Server.set_rules.Goals as goal
use Rattle.cmd_run.proofs.server.Server.set_rules.Goals.{After-take_rules}

pub returns-in_default-clause-obeys : goal.returns-in_default-clause-obeys
returns-in_default-clause-obeys g c = λ source request asks.
    let s = c.args.self.now in
    let Q : Request → Type 0 = λ r. SaysOnly (state_of s) r (end.Refused refusal.NoLogin) (state_of s) in
    c.say.ensures.obeys source request s refl (subst Q (sym asks.is) (says_no_login s c.args.session (sets_rules asks.rules) (sym c.in_default.ensures) refl))

pub returns-in_default-clause-idle : goal.returns-in_default-clause-idle
returns-in_default-clause-idle g c = λ request asks refused. (c.say.ensures.rows, c.say.ensures.stores)

pub is_admin-admin-requires-clause-user : goal.is_admin-admin-requires-clause-user
is_admin-admin-requires-clause-user g c =
    let U : Cat → Type 0 = λ x. IsTrue (has_user x c.in-Some.user) in
    subst U (sym c.tables.ensures)
    (user_known c.args.self.now.store.cat c.in-Some.user (c.requires.fits.users c.args.session c.in-Some.user (sym c.in-Some.ensures)))

pub returns-then-not-admin-clause-obeys : goal.returns-then-not-admin-clause-obeys
returns-then-not-admin-clause-obeys g c = λ source request asks.
    let s = c.args.self.now in
    let user = c.in-Some.user in
    let A : Cat → Type 0 = λ x. is_admin (get (grid_of x).users (user_name x user)) ≡ false in
    let other = subst A c.tables.ensures (sym c.is_admin-admin.ensures ∙ c.if-not-admin.true) in
    let Q : Request → Type 0 = λ r. SaysOnly (state_of s) r (end.Refused refusal.NotAdmin) (state_of s) in
    c.say-then-not-admin.ensures.obeys source request s refl
    (subst Q (sym asks.is) (says_not_ruler s c.args.session user (sym c.in-Some.ensures) false other refl asks.rules))

pub returns-then-not-admin-clause-idle : goal.returns-then-not-admin-clause-idle
returns-then-not-admin-clause-idle g c = λ request asks refused. (c.say-then-not-admin.ensures.rows, c.say-then-not-admin.ensures.stores)

pub take_rules-requires-clause-spelled : goal.take_rules-requires-clause-spelled
take_rules-requires-clause-spelled g c = (c.args.body.now, c.in-Ok.ensures.spelled)

-- what an administrator sets
begins : (g : _) (c : After-take_rules g) (request : Request) → SetsRules c.args.session c.args.count c.args.body.now request
    → BeginsToSet (state_of c.args.self.now) request (map plain_rule (map rule_of c.in-Ok.rules))
begins g c request asks =
    let s = c.args.self.now in
    let user = c.in-Some.user in
    let rules = map plain_rule (map rule_of c.in-Ok.rules) in
    let A : Cat → Type 0 = λ x. is_admin (get (grid_of x).users (user_name x user)) ≡ true in
    let admin = subst A c.tables.ensures (sym c.is_admin-admin.ensures ∙ c.if-not-admin.false) in
    let its = asks.is ∙ ap (λ (x : Or (List Rule)). Ok (c.args.session, sets_rules x)) (c.in-Ok.ensures.is c.args.session request asks) in
    subst (λ q. BeginsToSet (state_of s) q rules) (sym its) (begins_to_set s c.args.session user (sym c.in-Some.ensures) true admin refl rules)

pub returns-in-Ok-clause-obeys : goal.returns-in-Ok-clause-obeys
returns-in-Ok-clause-obeys g c = λ source request asks. c.take_rules.ensures.obeys source request (begins g c request asks)

pub returns-in-Ok-clause-idle : goal.returns-in-Ok-clause-idle
returns-in-Ok-clause-idle g c = λ request asks refused.
    absurd (set_not_refused c.args.self.now request (map plain_rule (map rule_of c.in-Ok.rules)) (begins g c request asks) refused)

pub returns-in-Err-Refused-clause-obeys : goal.returns-in-Err-Refused-clause-obeys
returns-in-Err-Refused-clause-obeys g c = λ source request asks.
    let s = c.args.self.now in
    let user = c.in-Some.user in
    let r = c.in-Err-Refused.refusal in
    let A : Cat → Type 0 = λ x. is_admin (get (grid_of x).users (user_name x user)) ≡ true in
    let admin = subst A c.tables.ensures (sym c.is_admin-admin.ensures ∙ c.if-not-admin.false) in
    let refused = c.in-Err-Refused.is ∙ ap Err c.in-Err-Refused.field-0-is in
    let R : _ → Type 0 = λ x. IsReadSo asks.rules x in
    let its = asks.is ∙ ap (λ (x : Or (List Rule)). Ok (c.args.session, sets_rules x)) (subst R refused (c.rules_held.ensures.is c.args.session request asks))
    in
    let Q : Request → Type 0 = λ q. SaysOnly (state_of s) q (end.Refused r) (state_of s) in
    c.say-in-Err-Refused.ensures.obeys source request s refl
    (subst Q (sym its) (says_no_rules s c.args.session user (sym c.in-Some.ensures) true admin refl r (c.rules_held.ensures.of_grid r refused)))

pub returns-in-Err-Refused-clause-idle : goal.returns-in-Err-Refused-clause-idle
returns-in-Err-Refused-clause-idle g c = λ request asks refused. (c.say-in-Err-Refused.ensures.rows, c.say-in-Err-Refused.ensures.stores)

pub returns-in-Err-Memory-clause-obeys : goal.returns-in-Err-Memory-clause-obeys
returns-in-Err-Memory-clause-obeys g c = λ source request asks.
    unsaid g.D.Disk.disk g.A.Ambient.ambient g.P.Plugin.plugin source c.args.outside.now (g.K.Sink.sink c.args.sink.now) c.args.self.now c.args.number request
    c.args.self.now c.requires.fits.held c.requires.ready.outside.main_last c.requires.ready.sink_last

pub returns-in-Err-Memory-clause-whole : goal.returns-in-Err-Memory-clause-whole
returns-in-Err-Memory-clause-whole g c =
    keep_still g.P.Plugin.plugin c.args.self.now.store.cat c.args.outside.now.moments (g.D.Disk.disk c.args.outside.now.main) c.args.self.now.store
    c.args.outside.now.stores.items c.requires.fits.held c.requires.ready.outside.main_last

pub returns-in-Err-Memory-clause-remembers : goal.returns-in-Err-Memory-clause-remembers
returns-in-Err-Memory-clause-remembers g c =
    let main = c.args.outside.now.main in
    still_remembers g.D.Disk.disk main main c.args.self.now.store c.args.outside.now.moments refl c.requires.ready.outside.main_last c.requires.fits.held
    c.requires.fits.pending
