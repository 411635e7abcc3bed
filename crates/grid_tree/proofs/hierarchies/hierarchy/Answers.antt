use Rattle.std.proofs.Common.{◌≡◌, ◌-◌, ◌+◌, ◌++◌, ◌∷◌, length, rules, suc, ℕ, sym, ap, ◌∙◌, arith}
use Rattle.grid_model.specs.Names.{Text}
use Rattle.grid_model.specs.RowGrids.{resource_name}
use Rattle.grid_tree.specs.Lines.{line_up}
use Rattle.grid_tree.proofs.LinesUp.{line-top, line-step, hierarchy_is}
use Rattle.grid_model.specs.Writable.{is_word}
use Rattle.grid_tree.proofs.NameWords.{resource_word, line_word}
use Rattle.grid_tree.proofs.hierarchies.hierarchy.Goals as goal

pub returns-in-None-clause-text : goal.returns-in-None-clause-text
returns-in-None-clause-text c =
    let less : c.count-step-end.result - c.loop-step._step ≡ suc (c.count-step-end.result - (c.loop-step._step + 1)) = omega arith in
    c.from_vec.ensures
    ∙ sym (line-top c.args.tables.now (c.count-step-end.result - (c.loop-step._step + 1)) c.loop-step.current c.loop-step.line.items (sym c.in-None.ensures))
    ∙ ap (λ k. line_up k c.args.tables.now c.loop-step.current c.loop-step.line.items) (sym less) ∙ c.loop-step.invariant.line ∙ hierarchy_is c.args.tables.now c.requires.made c.args.leaf c.requires.leaf

pub loop-step-preserved : goal.loop-step-preserved
loop-step-preserved c =
    let less : c.count-step-end.result - c.loop-step._step ≡ suc (c.count-step-end.result - (c.loop-step._step + 1)) = omega arith in
    let line : c.in_ok-line-in-Some.line.items ≡ resource_name c.args.tables.now c.in-Some.parent ++ 0x3B ∷ c.loop-step.line.items =
    c.in_ok-line-in-Some.ensures ∙ (λ i. c.name_of-in-Some.ensures i ++ 0x3B ∷ c.as_slice.ensures.value i) in
    record {
      line =
          ap (λ (l : Text). line_up (c.count-step-end.result - (c.loop-step._step + 1)) c.args.tables.now c.in-Some.parent l) line
          ∙ sym (line-step c.args.tables.now (c.count-step-end.result - (c.loop-step._step + 1)) c.loop-step.current c.in-Some.parent c.loop-step.line.items (sym c.in-Some.ensures))
          ∙ ap (λ k. line_up k c.args.tables.now c.loop-step.current c.loop-step.line.items) (sym less) ∙ c.loop-step.invariant.line;
      word = ap is_word line ∙ line_word (resource_name c.args.tables.now c.in-Some.parent) c.loop-step.line.items (resource_word c.args.tables.now c.requires.made c.in-Some.parent) c.loop-step.invariant.word;
    }

pub returns-clause-text : goal.returns-clause-text
returns-clause-text c =
    let done : c.count-step-end.result - c.loop-step._step ≡ 0 = omega arith in
    c.from_vec-2.ensures ∙ ap (λ k. line_up k c.args.tables.now c.loop-step.current c.loop-step.line.items) (sym done) ∙ c.loop-step.invariant.line
    ∙ hierarchy_is c.args.tables.now c.requires.made c.args.leaf c.requires.leaf

pub returns-in-None-clause-word : goal.returns-in-None-clause-word
returns-in-None-clause-word c = ap is_word c.from_vec.ensures ∙ c.loop-step.invariant.word

pub returns-clause-word : goal.returns-clause-word
returns-clause-word c = ap is_word c.from_vec-2.ensures ∙ c.loop-step.invariant.word

pub loop-step-init : goal.loop-step-init
loop-step-init c =
    let items : c.in_ok-line.line.items ≡ resource_name c.args.tables.now c.args.leaf = search rules in
    let count : c.count-step-end.result - 0 ≡ length c.args.tables.now.resources = search rules in
    record {
      line = λ i. line_up (count i) c.args.tables.now c.args.leaf (items i);
      word = ap is_word items ∙ resource_word c.args.tables.now c.requires.made c.args.leaf;
    }
