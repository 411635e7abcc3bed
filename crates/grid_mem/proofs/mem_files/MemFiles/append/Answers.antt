use Rattle.std.proofs.Common.{List, ℕ, refl, sym, ap, ◌∙◌}
use Rattle.grid_mem.specs.MemFile.{files_of, entry_of}
use Rattle.grid_mem.specs.StoreCalls.{appended}
use Rattle.grid_mem.proofs.FileLists.{at_no_place, at_item, append_absent, append_fits, append_done, same_at_place, on_err, was_done, was_refused}
use Rattle.grid_mem.proofs.mem_files.MemFiles.append.Goals as goal

pub returns-in_default-clause-ok : goal.returns-in_default-clause-ok
returns-in_default-clause-ok c = was_refused _ _ _ _ (append_absent _ _ _ (at_no_place c.args.self.now.files.items c.args.name (sym c.place.ensures ∙ c.in_default.is))) refl

pub returns-then-not-takes-clause-ok : goal.returns-then-not-takes-clause-ok
returns-then-not-takes-clause-ok c =
    was_refused _ _ _ _ (append_fits _ _ c.index.result.now _ (at_item c.args.self.now.files.items c.args.name c.in-Some.place c.index.result.now (sym c.place.ensures ∙ c.in-Some.is) c.index.ensures) ∙ sym c.takes.ensures ∙ c.if-not-takes.true) refl

pub returns-in_err-extend_from_slice-clause-err : goal.returns-in_err-extend_from_slice-clause-err
returns-in_err-extend_from_slice-clause-err c =
    on_err c.from_residual.result (same_at_place c.args.self.now.files.items c.in-Some.place c.index_mut.result.now _
    (ap (λ (xs : List ℕ). (c.index_mut.result.now.name, record { bytes = xs; finished = c.index_mut.result.now.finished })) c.in_err-extend_from_slice.ensures.items ∙ ap entry_of c.index_mut.ensures.value))

pub returns-clause-ok : goal.returns-clause-ok
returns-clause-ok c =
    let fits = append_fits _ _ c.index.result.now _ (at_item c.args.self.now.files.items c.args.name c.in-Some.place c.index.result.now (sym c.place.ensures ∙ c.in-Some.is) c.index.ensures) ∙ sym c.takes.ensures ∙ c.if-not-takes.false in
    was_done _ (appended (files_of c.args.self.now.files.items) c.args.name c.args.bytes.now) _ _ fits
    (append_done c.args.self.now.files.items c.args.name c.in-Some.place c.index_mut.result.now _ c.args.bytes.now (sym c.place.ensures ∙ c.in-Some.is) c.index_mut.ensures.value fits refl c.in_ok-extend_from_slice.ensures.items refl)
