use Rattle.std.proofs.Common.{true, not, refl, ap, ◌∙◌, rules}
use Rattle.std.specs.FinMap.{remove}
use Rattle.std.proofs.lemmas.Fn.{filter_same}
use Rattle.grid_mem.specs.MemFile.{files_of}
use Rattle.grid_mem.proofs.FileLists.{filtered, has_name, was_done}
use Rattle.grid_mem.proofs.mem_files.MemFiles.remove.Goals as goal

pub returns : goal.returns
returns c =
    let kept = filter_same _ (λ m. not (has_name c.args.name m)) _ (λ m b f' k. search rules) _ _ c.retain.ensures.filtered in
    was_done true (remove (files_of c.args.self.now.files.items) c.args.name) _ _ refl (ap files_of kept ∙ filtered c.args.self.now.files.items c.args.name)
