use Rattle.std.proofs.Common.{Some, ap, sym, ◌∙◌, option_map}
use Rattle.std.specs.Option.{option_copied}
use Rattle.grid_mem.specs.MemFile.{file_of}
use Rattle.grid_mem.proofs.FileLists.{at_place, at_no_place, name_at_place}
use Rattle.grid_mem.proofs.mem_files.MemFiles.find.Goals as goal

pub returns-in_err-place-clause-file : goal.returns-in_err-place-clause-file
returns-in_err-place-clause-file c = ap (λ o. option_map file_of (option_copied o)) c.from_residual.ensures ∙ sym (at_no_place c.args.self.now.files.items c.args.name (sym c.place.ensures ∙ c.in_err-place.was))

pub returns-clause-file : goal.returns-clause-file
returns-clause-file c =
    ap (λ m. Some (file_of m)) c.index.ensures
    ∙ sym (at_place c.args.self.now.files.items c.args.name c.in_ok-place.place c.index.result.now (sym c.place.ensures ∙ c.in_ok-place.was))

pub returns-clause-name : goal.returns-clause-name
returns-clause-name c = name_at_place c.args.self.now.files.items c.args.name c.in_ok-place.place c.index.result.now (sym c.place.ensures ∙ c.in_ok-place.was) c.index.ensures
