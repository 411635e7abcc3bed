use Rattle.std.proofs.Common.{Result, Ok, Err, ◌∙◌}
use Rattle.std.specs.Prelude.{OnErr}
use Rattle.sorted_list.proofs.Edits.{joined_kept}
use Rattle.sorted_list.proofs.blocks.insert.Goals as goal

on_err : {A E P Q : Type 0} (r : Result A E) → (P → Q) → OnErr r P → OnErr r Q
on_err (Ok x) f p = tt
on_err (Err e) f p = f p

pub returns-clause-failed : goal.returns-clause-failed
returns-clause-failed g c =
    on_err c.put_in.result (λ same. same
    ∙ joined_kept c.args.blocks.now.items c.make_room.new.blocks.items c.args.place.block c.args.place.at c.in_ok-place.place.block c.in_ok-place.place.at c.requires
    c.in_ok-place.ensures.within c.in_ok-place.ensures.front c.in_ok-place.ensures.behind) c.put_in.ensures.failed
