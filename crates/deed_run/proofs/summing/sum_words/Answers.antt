use Rattle.std.proofs.Common.{◌≡◌, [], ◌∷◌, Some, sym, ap, ◌∙◌}
use Rattle.std.specs.Option.{option_map_or}
use Rattle.std.specs.Prelude.{Option}
use Rattle.grid_model.specs.Digests.{checksum}
use Rattle.grid_model.specs.Grid.{Object}
use Rattle.grid_model.specs.Names.{Text}
use Rattle.grid_model.specs.declared.deltas.ObjectRow.{ObjectRow}
use Rattle.plan_list.proofs.Listed.{its_object}
use Rattle.deed_run.proofs.SumWords.{no_words}
use Rattle.deed_run.proofs.summing.sum_words.Goals as goal

-- no object is there
pub returns-in-None-clause-is : goal.returns-in-None-clause-is
returns-in-None-clause-is c = λ user. c.from_vec.ensures ∙ c.new.ensures.items ∙ sym (no_words c.args.tables.now c.requires.made user c.args.path.now (sym c.in-None.ensures))

-- ---- one is there

pub unreachable-requires : goal.unreachable-requires
unreachable-requires c =
    let its = its_object c.args.tables.now c.requires.made c.args.path.now c.in-Some.id (sym c.in-Some.ensures) in
    let wrong = c.in-None-object.ensures.row ∙ its.1 in
    cc

pub returns-in_ok-words-in-Some-object-clause-is : goal.returns-in_ok-words-in-Some-object-clause-is
returns-in_ok-words-in-Some-object-clause-is c = λ user.
    let its = its_object c.args.tables.now c.requires.made c.args.path.now c.in-Some.id (sym c.in-Some.ensures) in
    let both : Some c.in-Some-object.object.now ≡ Some its.0 = c.in-Some-object.ensures.row ∙ its.1 in
    let same : c.in-Some-object.object.now ≡ its.0 = cc in
    c.from_vec-in-Some-object.ensures ∙ c.in_ok-words-in-Some-object.ensures.items
    ∙ ap (λ (t : Text). t ∷ []) (c.in_ok-word-in-Some-object.ensures.text ∙ ap (λ (o : ObjectRow). checksum o.digest) same)
    ∙ sym (ap (λ (o : Option Object). option_map_or (λ (x : Object). checksum x.digest ∷ []) o []) its.2)
