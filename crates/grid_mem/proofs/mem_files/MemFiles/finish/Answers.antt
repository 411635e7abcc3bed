use Rattle.std.proofs.Common.{true, not, refl, sym, ap, ◌∙◌}
use Rattle.grid_outside.specs.Files.{file_at}
use Rattle.grid_mem.specs.MemFile.{files_of}
use Rattle.grid_mem.specs.StoreCalls.{with_file, is_begun, bytes_of}
use Rattle.grid_mem.proofs.FileLists.{at_no_place, at_item, finish_done, was_done, was_refused}
use Rattle.grid_mem.proofs.mem_files.MemFiles.finish.Goals as goal

pub returns-in_default : goal.returns-in_default
returns-in_default c = was_refused _ _ _ _ (ap is_begun (at_no_place c.args.self.now.files.items c.args.name (sym c.place.ensures ∙ c.in_default.is))) refl

pub returns-then-index : goal.returns-then-index
returns-then-index c =
    was_refused _ _ _ _ (ap is_begun (at_item c.args.self.now.files.items c.args.name c.in-Some.place c.index.result.now (sym c.place.ensures ∙ c.in-Some.is) c.index.ensures) ∙ ap not c.if-index.true) refl

pub returns : goal.returns
returns c =
    was_done _ (with_file (files_of c.args.self.now.files.items) c.args.name (bytes_of (file_at (files_of c.args.self.now.files.items) c.args.name)) true) _ _
    (ap is_begun (at_item c.args.self.now.files.items c.args.name c.in-Some.place c.index.result.now (sym c.place.ensures ∙ c.in-Some.is) c.index.ensures) ∙ ap not c.if-index.false)
    (finish_done c.args.self.now.files.items c.args.name c.in-Some.place c.index_mut.result.now _ (sym c.place.ensures ∙ c.in-Some.is) c.index_mut.ensures.value refl refl refl)
