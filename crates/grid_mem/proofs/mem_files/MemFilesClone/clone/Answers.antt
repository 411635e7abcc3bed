use Rattle.grid_mem.proofs.FileLists.{copies}
use Rattle.grid_mem.proofs.mem_files.MemFilesClone.clone.Goals as goal

pub returns : goal.returns
returns c = record { cases = copies c.args.self.now.files.items c.in_ok-clone.field-0.items c.in_ok-clone.ensures.cases.0 }
