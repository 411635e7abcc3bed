use Rattle.std.proofs.Common.{length, ◌-◌, ◌+◌, ◌≡◌, ◌++◌, ◌∷◌, [], sym, ap, ◌∙◌, subst, arith, List}
use Rattle.std.specs.Prelude.{IsTrue}
use Rattle.std.specs.List.{list_all}
use Rattle.grid_model.specs.Names.{Text, is_name}
use Rattle.grid_model.specs.Rows.{Cat}
use Rattle.grid_model.specs.RowPaths.{names_within}
use Rattle.grid_tables.proofs.WaysUp.{behind, behind-start, behind-root, behind-lost, behind-up, behind-done, all-further, named-below}
use Rattle.grid_tables.proofs.tables.Tables.with_names_up.Goals as goal

pub loop-step-init : goal.loop-step-init
loop-step-init c = (
  behind-start c.args.self.now c.args.names.items c.args.id c.len-step-end.result (length c.args.self.now.collections)
      (c.len-step-end.ensures.len ∙ ap (λ (t : Cat). length t.collections) c.self.view_is),
  c.requires,
)

pub returns-then-current-eq0-clause-names : goal.returns-then-current-eq0-clause-names
returns-then-current-eq0-clause-names c =
    behind-root c.args.self.now c.loop-step.names.items c.loop-step.current c.len-step-end.result c.loop-step._step c.loop-step-test.true c.if-current-eq0.true
    ∙ c.loop-step.invariant.0

pub returns-in-None-clause-names : goal.returns-in-None-clause-names
returns-in-None-clause-names c =
    behind-lost c.args.self.now c.loop-step.names.items c.loop-step.current c.len-step-end.result c.loop-step._step c.loop-step-test.true c.if-current-eq0.false c.in-None.ensures.row
    ∙ c.loop-step.invariant.0

pub loop-step-preserved : goal.loop-step-preserved
loop-step-preserved c =
    let further : c.push.new.self.items ≡ c.loop-step.names.items ++ c.in-Some.row.now.name ∷ [] =
    c.in_ok-push-in-Some.ensures.items ∙ ap (λ (name : Text). c.loop-step.names.items ++ name ∷ []) (c.in_ok-copy_of-in-Some.ensures ∙ c.as_slice.ensures) in
    let name : IsTrue (is_name c.in-Some.row.now.name) =
    named-below c.args.self.now c.loop-step.current c.in-Some.row.now c.in-Some.ensures.row c.if-current-eq0.false c.in-Some.ensures.named in (
      ap (λ (names : List Text). behind names (names_within (c.len-step-end.result - (c.loop-step._step + 1)) c.args.self.now c.in-Some.row.now.parent)) further
          ∙ behind-up c.args.self.now c.loop-step.names.items c.loop-step.current c.len-step-end.result c.loop-step._step
          c.in-Some.row.now c.loop-step-test.true c.if-current-eq0.false c.in-Some.ensures.row
          ∙ c.loop-step.invariant.0,
      subst (λ (names : List Text). IsTrue (list_all is_name names)) (sym further)
          (all-further c.loop-step.names.items c.in-Some.row.now.name c.loop-step.invariant.1 name),
    )

pub returns-clause-names : goal.returns-clause-names
returns-clause-names c =
    let done : c.len-step-end.result - c.loop-step._step ≡ 0 = omega arith in
    behind-done c.args.self.now c.loop-step.names.items c.loop-step.current c.len-step-end.result c.loop-step._step done ∙ c.loop-step.invariant.0
