use Rattle.std.proofs.Common.{[], false, is_none, refl, sym, ap, ◌∙◌}
use Rattle.std.specs.FinMap.{insert}
use Rattle.grid_mem.specs.MemFile.{files_of}
use Rattle.grid_mem.specs.StoreCalls.{with_file}
use Rattle.grid_mem.proofs.FileLists.{at_no_place, some_named, added, was_done, was_refused}
use Rattle.grid_mem.proofs.mem_files.MemFiles.create.Goals as goal

pub returns-in-Some-clause-ok : goal.returns-in-Some-clause-ok
returns-in-Some-clause-ok c = was_refused _ _ _ _ (some_named c.args.self.now.files.items c.args.name c.in-Some._place (sym c.place.ensures ∙ c.in-Some.is)) refl

pub returns-clause-ok : goal.returns-clause-ok
returns-clause-ok c =
    let none = sym c.place.ensures ∙ c.in_default.is in
    was_done _ (with_file (files_of c.args.self.now.files.items) c.args.name [] false) _ _ (ap is_none (at_no_place c.args.self.now.files.items c.args.name none))
    (ap files_of c.in_ok-push.ensures.items ∙ added c.args.self.now.files.items _ none
    ∙ ap (insert (files_of c.args.self.now.files.items) c.args.name) (λ j. record { bytes = c.new.ensures.items j; finished = false }))
