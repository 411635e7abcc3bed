use Rattle.std.proofs.Common.{◌+◌, ◌-◌, inl, inr, length, IsTrue, arith, sym, subst, ◌∙◌}
use borrow.Rule.Slice.PartMut.{same_len_mid}
use Rattle.std.proofs.Common.{drop}
use Rattle.std.proofs.lemmas.List.{length-take-le, length-drop}
use Rattle.grid_outside.specs.Files.{Files, ReadsFile}
use Rattle.grid_vault.proofs.FileReading.{looks_on, part_more, part_whole}
use Rattle.grid_vault.proofs.reading.read_part.Goals as goal
use Rattle.grid_vault.proofs.reading.read_part.Goals.{then-given-eq0-via-then-given-eq0, then-given-eq0-via-else-given-eq0+then-count-buf}

pub returns-then-given-eq0-clause-part : goal.returns-then-given-eq0-clause-part
returns-then-given-eq0-clause-part g c tells =
    let so_far = c.reads.invariant in
    let P : Files → Type 0 = λ files. ReadsFile c.args.name (c.args.at + c.reads.count) c.in_ok-given.given files c.read.new.buf in
    let read : P (g.P.Plugin.plugin c.args.store.now).holds = subst P (so_far.looks.holds tells) (c.in_ok-given.ensures.bytes (subst IsTrue (sym so_far.looks.tells) tells)) in
    let whole = same_len_mid c.reads.count (length c.reads.buf - c.reads.count) c.reads.buf c.read.new.buf c.read.auto.buf in
    part_whole c.args.name c.args.at c.reads.count c.in_ok-given.given _ c.reads.buf c.read.new.buf _ so_far.within c.in_ok-given.ensures.count (so_far.so_far tells) read
    (c.read.auto.buf ∙ length-take-le (length c.reads.buf - c.reads.count) (drop c.reads.count c.reads.buf) (omega (arith, length-drop c.reads.count c.reads.buf)))
    (elim c.then-given-eq0.branch [
      | then-given-eq0-via-then-given-eq0 w ↦ inl w.if-given-eq0.true
      | then-given-eq0-via-else-given-eq0+then-count-buf w ↦ inr (w.if-count-buf.true ∙ whole)
    ])
    whole

pub reads-preserved : goal.reads-preserved
reads-preserved g c =
    let so_far = c.reads.invariant in
    let whole = same_len_mid c.reads.count (length c.reads.buf - c.reads.count) c.reads.buf c.read.new.buf c.read.auto.buf in
    let size = c.read.auto.buf ∙ length-take-le (length c.reads.buf - c.reads.count) (drop c.reads.count c.reads.buf) (omega (arith, length-drop c.reads.count c.reads.buf)) in
    record {
      within = omega (arith, whole, size, c.in_ok-given.ensures.count, so_far.within);
      looks = looks_on _ _ _ so_far.looks c.in_ok-given.ensures.looks;
      later = omega (arith, so_far.later, c.in_ok-given.ensures.cause.later);
      so_far = λ tells.
          let P : Files → Type 0 = λ files. ReadsFile c.args.name (c.args.at + c.reads.count) c.in_ok-given.given files c.read.new.buf in
          let read : P (g.P.Plugin.plugin c.args.store.now).holds = subst P (so_far.looks.holds tells) (c.in_ok-given.ensures.bytes (subst IsTrue (sym so_far.looks.tells) tells)) in
          part_more c.args.name c.args.at c.reads.count c.in_ok-given.given _ c.reads.buf c.read.new.buf _ so_far.within c.in_ok-given.ensures.count (so_far.so_far tells) read;
    }
