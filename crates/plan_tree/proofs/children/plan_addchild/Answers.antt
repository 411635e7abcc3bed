use Rattle.std.proofs.Common.{List, IsTrue, sym, ap, ◌∙◌, subst}
use Rattle.std.specs.Prelude.{nat_lt, not}
use Rattle.std.specs.List.{AllByRecursion, list_all}
use Rattle.grid_model.specs.Operations.Resources.{most_below}
use Rattle.grid_model.specs.Operations.Table.{addchild}
use Rattle.grid_model.specs.RowGrids.{user_name}
use Rattle.grid_model.specs.Rows.{has_resource}
use Rattle.grid_model.specs.declared.refusal.Refusal.TheVariants.{BadTree}
use Rattle.grid_model.specs.declared.refusal.TreeCause.TheVariants.{Leaf, HasParent, Cycle, Full}
use Rattle.grid_tree.specs.declared.siblings.Child.{Child}
use Rattle.grid_journal.specs.Journal.{can_be_kept}
use Rattle.plan_tree.specs.NewChildren.{child_put}
use Rattle.plan_base.proofs.AtPaths.{user_known}
use Rattle.plan_tree.proofs.ChangedStatus.{name_of_row}
use Rattle.plan_tree.proofs.JoinedChildren.{refused_so, no_parent, no_child, upper_there, lower_there, a_leaf, has_parent, cycle, full, kids_there, planned}
use Rattle.plan_tree.proofs.children.plan_addchild.Goals as goal

pub is_admin-requires-clause-user : goal.is_admin-requires-clause-user
is_admin-requires-clause-user c = user_known c.args.tables.now c.args.user c.requires.user

pub returns-in-None : goal.returns-in-None
returns-in-None c = no_parent c.args.tables.now c.requires.made c.args.user c.args.parent.now c.args.child.now (sym c.is_admin.ensures ∙ c.if-not-is_admin.false) c.in-None.ensures

pub returns-in-None-row_named : goal.returns-in-None-row_named
returns-in-None-row_named c = no_child c.args.tables.now c.requires.made c.args.user c.args.parent.now c.args.child.now (sym c.is_admin.ensures ∙ c.if-not-is_admin.false) c.in-Some.upper.now c.in-Some.ensures c.in-None-row_named.ensures

pub returns-then-keeps_files : goal.returns-then-keeps_files
returns-then-keeps_files c =
    refused_so c.args.tables.now (user_name c.args.tables.now c.args.user) (addchild c.args.parent.now c.args.child.now) c.bad_tree.result (BadTree Leaf) c.bad_tree.ensures
    (a_leaf c.args.tables.now c.requires.made c.args.user c.args.parent.now c.args.child.now (sym c.is_admin.ensures ∙ c.if-not-is_admin.false) c.in-Some.upper.now c.in-Some.ensures
    c.in-Some-row_named.lower.now c.in-Some-row_named.ensures (sym c.keeps_files.ensures ∙ c.if-keeps_files.true))

pub returns-then-lower-ne0 : goal.returns-then-lower-ne0
returns-then-lower-ne0 c =
    refused_so c.args.tables.now (user_name c.args.tables.now c.args.user) (addchild c.args.parent.now c.args.child.now) c.bad_tree-then-lower-ne0.result (BadTree HasParent) c.bad_tree-then-lower-ne0.ensures
    (has_parent c.args.tables.now c.requires.made c.args.user c.args.parent.now c.args.child.now (sym c.is_admin.ensures ∙ c.if-not-is_admin.false) c.in-Some.upper.now c.in-Some.ensures
    c.in-Some-row_named.lower.now c.in-Some-row_named.ensures (sym c.keeps_files.ensures ∙ c.if-keeps_files.false) c.if-lower-ne0.true)

pub is_in-requires-clause-resource : goal.is_in-requires-clause-resource
is_in-requires-clause-resource c = lower_there c.args.tables.now c.requires.made c.args.user c.args.parent.now c.args.child.now (sym c.is_admin.ensures ∙ c.if-not-is_admin.false) c.in-Some.upper.now c.in-Some.ensures
    c.in-Some-row_named.lower.now c.in-Some-row_named.ensures

pub is_in-requires-clause-leaf : goal.is_in-requires-clause-leaf
is_in-requires-clause-leaf c = upper_there c.args.tables.now c.requires.made c.args.user c.args.parent.now c.args.child.now (sym c.is_admin.ensures ∙ c.if-not-is_admin.false) c.in-Some.upper.now c.in-Some.ensures
    c.in-Some-row_named.lower.now c.in-Some-row_named.ensures

pub returns-then-is_in : goal.returns-then-is_in
returns-then-is_in c =
    refused_so c.args.tables.now (user_name c.args.tables.now c.args.user) (addchild c.args.parent.now c.args.child.now) c.bad_tree-then-is_in.result (BadTree Cycle) c.bad_tree-then-is_in.ensures
    (cycle c.args.tables.now c.requires.made c.args.user c.args.parent.now c.args.child.now (sym c.is_admin.ensures ∙ c.if-not-is_admin.false) c.in-Some.upper.now c.in-Some.ensures
    c.in-Some-row_named.lower.now c.in-Some-row_named.ensures (sym c.keeps_files.ensures ∙ c.if-keeps_files.false) c.if-lower-ne0.false (sym c.is_in.ensures ∙ c.if-is_in.true))

pub returns-then-is_full : goal.returns-then-is_full
returns-then-is_full c =
    refused_so c.args.tables.now (user_name c.args.tables.now c.args.user) (addchild c.args.parent.now c.args.child.now) c.bad_tree-then-is_full.result (BadTree Full) c.bad_tree-then-is_full.ensures
    (full c.args.tables.now c.requires.made c.args.user c.args.parent.now c.args.child.now (sym c.is_admin.ensures ∙ c.if-not-is_admin.false) c.in-Some.upper.now c.in-Some.ensures
    c.in-Some-row_named.lower.now c.in-Some-row_named.ensures (sym c.keeps_files.ensures ∙ c.if-keeps_files.false) c.if-lower-ne0.false (sym c.is_in.ensures ∙ c.if-is_in.false) c.in-Ok.kids.items c.in-Ok.ensures
    (ap (λ n. not (nat_lt n (most_below c.in-Some.upper.now.kind))) (sym (c.len.ensures ∙ c.in-Ok.kids.ok.0)) ∙ sym c.is_full.ensures ∙ c.if-is_full.true))

pub put_behind-requires-clause-there : goal.put_behind-requires-clause-there
put_behind-requires-clause-there c =
    let P : List Child → Type 0 = λ ks. AllByRecursion (λ (k : Child). IsTrue (has_resource c.args.tables.now k.id)) ks in
    subst P (sym c.as_slice.ensures.value) (kids_there c.args.tables.now c.requires.made c.args.user c.args.parent.now c.args.child.now (sym c.is_admin.ensures ∙ c.if-not-is_admin.false) c.in-Some.upper.now c.in-Some.ensures
    c.in-Some-row_named.lower.now c.in-Some-row_named.ensures (sym c.keeps_files.ensures ∙ c.if-keeps_files.false) c.if-lower-ne0.false (sym c.is_in.ensures ∙ c.if-is_in.false) c.in-Ok.kids.items c.in-Ok.ensures)

pub put_behind-requires-clause-named : goal.put_behind-requires-clause-named
put_behind-requires-clause-named c = name_of_row c.args.tables.now c.requires.made c.args.child.now c.in-Some-row_named.lower.now c.in-Some-row_named.ensures

pub returns : goal.returns
returns c =
    planned c.args.tables.now c.requires.made c.args.user c.args.parent.now c.args.child.now (sym c.is_admin.ensures ∙ c.if-not-is_admin.false) c.in-Some.upper.now c.in-Some.ensures
    c.in-Some-row_named.lower.now c.in-Some-row_named.ensures (sym c.keeps_files.ensures ∙ c.if-keeps_files.false) c.if-lower-ne0.false (sym c.is_in.ensures ∙ c.if-is_in.false) c.in-Ok.kids.items c.in-Ok.ensures
    (ap (λ n. not (nat_lt n (most_below c.in-Some.upper.now.kind))) (sym (c.len.ensures ∙ c.in-Ok.kids.ok.0)) ∙ sym c.is_full.ensures ∙ c.if-is_full.false)
    c.from_vec.result
    (c.from_vec.ensures ∙ c.in-Ok-put_behind.ensures.changes ∙ ap (child_put c.args.tables.now c.in-Some.upper.now.id c.in-Some-row_named.lower.now) c.as_slice.ensures.value)
    (ap (list_all can_be_kept) c.from_vec.ensures ∙ c.in-Ok-put_behind.ensures.spelled)
