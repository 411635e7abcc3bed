-- What verbs mean that are built, and which of them ends the input.
use Rattle.std.proofs.Common.{◌≡◌, ◌≤◌, true, false, length, refl}
use Rattle.std.specs.Prelude.{nat_le}
use Rattle.grid_model.specs.Names.{Text}
use Rattle.grid_model.specs.Limits.{object_size}
use Rattle.grid_model.specs.Orders.{Order, executes, lists, lists_triples, logs_in, logs_out, queries, quits, sets_rules, shows_rules, sweeps, works}
use Rattle.grid_model.specs.Operations.Table.{mkuser, mkgroup, mkdir, rmdir, mv, chmod, inherit, addmember, rmmember, mkresc, addchild, modresc, put, get, repl}
use Rattle.grid_model.specs.Operations.Table.{chksum, trim, rm, addmeta, rmmeta}
use Rattle.grid_model.specs.Sessions.{State}
use Rattle.grid_model.specs.declared.grid.ResourceKind.TheVariants.{Storage}
use Rattle.grid_model.specs.declared.requests.Verb.{Verb}
use Rattle.grid_model.specs.declared.requests.Verb.TheVariants as verb
use Rattle.cmd_read.specs.Orders.{MeansOrder, promised}
use Rattle.query_parse.proofs.EachText.{each_text}
use Rattle.rule_texts.proofs.EachText.{each_call, each_rules}
use Rattle.grid_headline.specs.Reads.{texts, is_built}
use Rattle.row_run.specs.Verbs.{HasGoodWords}
use Rattle.cmd_run.specs.Asking.{MeansHeld, is_end}

-- the order that a verb means
pub order_of : (at : State) (v : Verb) (body : Text) → is_built v ≡ true → HasGoodWords v → (order : Order) × MeansOrder texts at v body order
order_of at (verb.Login user) body built good = (logs_in user, refl)
order_of at verb.Logout body built good = (logs_out, refl)
order_of at verb.Quit body built good = (quits, refl)
order_of at (verb.MkUser name kind) body built good = (works (mkuser name kind) 0, refl)
order_of at (verb.MkGroup name) body built good = (works (mkgroup name) 0, refl)
order_of at (verb.RmDir path) body built good = (works (rmdir path) 0, refl)
order_of at (verb.AddMember group user) body built good = (works (addmember group user) 0, refl)
order_of at (verb.RmMember group user) body built good = (works (rmmember group user) 0, refl)
order_of at (verb.MkStorage name slot) body built good = (works (mkresc name Storage slot) 0, refl)
order_of at (verb.MkCoordinating name kind) body built good = (works (mkresc name kind 0) 0, refl)
order_of at (verb.AddChild parent child) body built good = (works (addchild parent child) 0, refl)
order_of at (verb.ModResc name up) body built good = (works (modresc name up) 0, refl)
order_of at (verb.MkDir path) body built good = (works (mkdir path) 0, refl)
order_of at (verb.Mv from to) body built good = (works (mv from to) 0, refl)
order_of at (verb.Ls path) body built good = (lists path, refl)
order_of at (verb.ChMod level name path) body built good = (works (chmod level name path) 0, refl)
order_of at (verb.Inherit path) body built good = (works (inherit path true) 0, refl)
order_of at (verb.NoInherit path) body built good = (works (inherit path false) 0, refl)
order_of at (verb.Put path resource mode count) body built good = (works (put path resource mode body) count, refl)
order_of at (verb.Get path resource) body built good = (works (get path resource) 0, refl)
order_of at (verb.Repl path resource) body built good = (works (repl path resource) 0, refl)
order_of at (verb.ChkSum path) body built good = (works (chksum path) 0, refl)
order_of at (verb.Trim path resource) body built good = (works (trim path resource) 0, refl)
order_of at (verb.Rm path) body built good = (works (rm path) 0, refl)
order_of at verb.Sweep body built good = (sweeps, refl)
order_of at (verb.AddMeta kind name a v u) body built good =
    (works (addmeta (record { of = good.0.0; attribute = a; value = v; unit = u })) 0, (good.0.0, good.0.1, refl))
order_of at (verb.RmMeta kind name a v u) body built good =
    (works (rmmeta (record { of = good.0; attribute = a; value = v; unit = u })) 0, (good.0, good.1, refl))
order_of at (verb.LsMeta kind name) body built good = (lists_triples good.0, (good.0, good.1, refl))
order_of at (verb.Query text) body built good = let read = each_text text in (queries read.0, (read.0, read.1, refl))
order_of at (verb.Exec text) body built good = let read = each_call at.rules text in (executes read.0, (read.0, read.1, refl))
order_of at (verb.Rules count) body built good = let read = each_rules body in (sets_rules read.0, (read.0, read.1, refl))
order_of at verb.ShowRules body built good = (shows_rules (texts.printed at.rules), refl)
order_of at other body built good = absurd (cc built)

-- the same with what is held of the body
pub meant : (at : State) (v : Verb) (body held : Text) → is_built v ≡ true → HasGoodWords v → (nat_le (promised v) object_size ≡ true → body ≡ held)
    → promised v ≤ length body → (order : Order) × MeansHeld at v held order × MeansOrder texts at v body order
meant at v body held built good all promised_there =
    let its = order_of at v body built good in
    (its.0, (body, its.1, all, promised_there), its.1)

-- ---- the verb that ends the input

pub end_built : (v : Verb) → is_end v ≡ true → is_built v ≡ true
end_built verb.Quit e = refl
end_built other e = absurd (cc e)

pub end_means : (at : State) (v : Verb) (body : Text) → is_end v ≡ true → MeansOrder texts at v body quits
end_means at verb.Quit body e = refl
end_means at other body e = absurd (cc e)

pub quits_end : (at : State) (v : Verb) (body : Text) (o : Order) → o ≡ quits → MeansOrder texts at v body o → is_end v ≡ true
quits_end at verb.Quit body o e m = refl
quits_end at (verb.Rules count) body o e m = let is = m.2 in absurd cc
quits_end at (verb.AddMeta kind name a v u) body o e m = let is = m.2 in absurd cc
quits_end at (verb.RmMeta kind name a v u) body o e m = let is = m.2 in absurd cc
quits_end at (verb.LsMeta kind name) body o e m = let is = m.2 in absurd cc
quits_end at (verb.Query text) body o e m = let is = m.2 in absurd cc
quits_end at (verb.Exec text) body o e m = let is = m.2 in absurd cc
quits_end at other body o e m = absurd (cc (e, m))
