use Rattle.std.proofs.Common.{[], ◌∷◌, List, IsTrue, length, subst, ap, arith}
use Rattle.std.specs.List.{list_all}
use Rattle.grid_model.specs.Deltas.{all_fit, text as text_part}
use Rattle.grid_model.specs.Names.{Text}
use Rattle.rule_run.proofs.Spelled.{call_fits}
use Rattle.rule_run.proofs.spelling.is_call.Goals as goal

pub returns : goal.returns
returns c holds =
    call_fits c.args.call.now c.is_text.result c.is_text.ensures c.if-not-is_text.false (omega (arith, c.is_size.ensures, ap length c.as_slice-args.ensures))
    (subst (λ (ts : List Text). IsTrue (list_all (λ (t : Text). all_fit (text_part t ∷ [])) ts)) c.as_slice-args.ensures (c.are_texts.ensures holds))
