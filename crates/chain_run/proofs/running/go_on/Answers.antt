use Rattle.std.proofs.Common.{◌∙◌, Some, None, subst}
use Rattle.chain_core.specs.Answers.{Tells}
use Rattle.chain_core.specs.Seen.{rules_of}
use Rattle.rule_cond.specs.Scopes.{env_of}
use Rattle.chain_run.specs.Runs.{DoesAction, rest_from}
use Rattle.chain_run.specs.declared.acting.Acted.{Acted}
use Rattle.chain_run.proofs.Making.{none_made}
use Rattle.chain_run.proofs.Reaching.{at_entry, one_on}
use Rattle.chain_run.proofs.Turning.{acted_until, acted_end}
use Rattle.chain_run.proofs.running.go_on.Goals as goal

pub actions-init : goal.actions-init
actions-init g c = record {
  user = c.requires.user;
  usable = c.requires.usable;
  asked = c.requires.asked;
  tells = c.requires.tells;
  ready = c.requires.ready;
  reached = at_entry (rules_of c.args.rules.now) (env_of c.args.env.now) c.args.frames.now (g.O.Doer.place c.args.doer.now);
  made = none_made g.O.Doer.went _ c.args.doer.now (g.met.O.Doer.begins c.args.doer.now);
}

pub act-requires-clause-user : goal.act-requires-clause-user
act-requires-clause-user g c = c.actions.invariant.user

pub act-requires-clause-checked : goal.act-requires-clause-checked
act-requires-clause-checked g c = c.requires.checked

pub act-requires-clause-asked : goal.act-requires-clause-asked
act-requires-clause-asked g c = c.actions.invariant.asked

pub act-requires-clause-tells : goal.act-requires-clause-tells
act-requires-clause-tells g c = c.actions.invariant.tells

pub act-requires-clause-ready : goal.act-requires-clause-ready
act-requires-clause-ready g c = c.actions.invariant.ready

pub next-requires : goal.next-requires
next-requires g c = c.actions.invariant.usable

pub returns-in-Err-clause-makes : goal.returns-in-Err-clause-makes
returns-in-Err-clause-makes g c =
    let inv = c.actions.invariant in
    let rules = rules_of c.args.rules.now in
    let entry = g.O.Doer.place c.args.doer.now in
    acted_until g.O.Doer.went g.O.Doer.no_size rules (env_of c.args.env.now) (rest_from rules (env_of c.args.env.now) c.args.frames.now entry) entry c.actions.frames
    (g.O.Doer.place c.actions.doer) (Some c.in-Err.stop) c.args.doer.now c.actions.doer c.act.new.doer inv.reached
    (subst (Tells rules c.actions.frames) inv.asked inv.tells) inv.made c.in-Err.ensures.makes

pub returns-in-Ok-Ended-clause-ends : goal.returns-in-Ok-Ended-clause-ends
returns-in-Ok-Ended-clause-ends g c =
    let inv = c.actions.invariant in
    let rules = rules_of c.args.rules.now in
    let entry = g.O.Doer.place c.args.doer.now in
    let acts = subst (λ (a : Acted). DoesAction rules (env_of c.args.env.now) c.actions.frames a (g.O.Doer.place c.actions.doer) (g.O.Doer.place c.act.new.doer))
    c.in-Ok-Ended.field-0-is c.in-Ok-Ended.ensures.acts in
    acted_end rules (env_of c.args.env.now) (rest_from rules (env_of c.args.env.now) c.args.frames.now entry) entry c.actions.frames (g.O.Doer.place c.actions.doer)
    (g.O.Doer.place c.act.new.doer) c.in-Ok-Ended.outcome inv.reached (subst (Tells rules c.actions.frames) inv.asked inv.tells) acts

pub returns-in-Ok-Ended-clause-makes : goal.returns-in-Ok-Ended-clause-makes
returns-in-Ok-Ended-clause-makes g c =
    let inv = c.actions.invariant in
    let rules = rules_of c.args.rules.now in
    let entry = g.O.Doer.place c.args.doer.now in
    acted_until g.O.Doer.went g.O.Doer.no_size rules (env_of c.args.env.now) (rest_from rules (env_of c.args.env.now) c.args.frames.now entry) entry c.actions.frames
    (g.O.Doer.place c.actions.doer) None c.args.doer.now c.actions.doer c.act.new.doer inv.reached
    (subst (Tells rules c.actions.frames) inv.asked inv.tells) inv.made c.in-Ok-Ended.ensures.makes

pub returns-in-Err-next-clause-makes : goal.returns-in-Err-next-clause-makes
returns-in-Err-next-clause-makes g c =
    let inv = c.actions.invariant in
    let rules = rules_of c.args.rules.now in
    let entry = g.O.Doer.place c.args.doer.now in
    acted_until g.O.Doer.went g.O.Doer.no_size rules (env_of c.args.env.now) (rest_from rules (env_of c.args.env.now) c.args.frames.now entry) entry c.actions.frames
    (g.O.Doer.place c.actions.doer) None c.args.doer.now c.actions.doer c.act.new.doer inv.reached
    (subst (Tells rules c.actions.frames) inv.asked inv.tells) inv.made c.in-Ok-Came.ensures.makes

pub actions-smaller : goal.actions-smaller
actions-smaller g c =
    let rules = rules_of c.args.rules.now in
    let acts = subst (λ (a : Acted). DoesAction rules (env_of c.args.env.now) c.actions.frames a (g.O.Doer.place c.actions.doer) (g.O.Doer.place c.act.new.doer))
    c.in-Ok-Came.field-0-is c.in-Ok-Came.ensures.acts in
    c.in-Ok.ensures.ends acts.met

pub actions-preserved : goal.actions-preserved
actions-preserved g c =
    let inv = c.actions.invariant in
    let rules = rules_of c.args.rules.now in
    let env = env_of c.args.env.now in
    let entry = g.O.Doer.place c.args.doer.now in
    let whole = rest_from rules env c.args.frames.now entry in
    let acts = subst (λ (a : Acted). DoesAction rules env c.actions.frames a (g.O.Doer.place c.actions.doer) (g.O.Doer.place c.act.new.doer))
    c.in-Ok-Came.field-0-is c.in-Ok-Came.ensures.acts in
    record {
      user = acts.user ∙ inv.user;
      usable = c.in-Ok.ensures.usable;
      asked = c.in-Ok.ensures.asked;
      tells = c.in-Ok.ensures.tells;
      ready = c.in-Ok-Came.ensures.ready;
      reached = one_on rules env whole entry c.actions.frames (g.O.Doer.place c.actions.doer) c.in-Ok-Came.event c.next.new.self (g.O.Doer.place c.act.new.doer)
          inv.reached acts c.in-Ok.ensures.continues;
      made = acted_until g.O.Doer.went g.O.Doer.no_size rules env whole entry c.actions.frames (g.O.Doer.place c.actions.doer) None c.args.doer.now c.actions.doer
          c.act.new.doer inv.reached (subst (Tells rules c.actions.frames) inv.asked inv.tells) inv.made c.in-Ok-Came.ensures.makes;
    }
