use Rattle.std.proofs.Common.{◌≡◌, Ok, IsTrue, List, ℕ, refl, sym, ap, subst, ◌∙◌, arith}
use Rattle.std.specs.List.{flat_map}
use Rattle.grid_model.specs.Deltas.{spelling, SpellsDeltas}
use Rattle.grid_model.specs.declared.deltas.Delta.{Delta}
use Rattle.grid_journal.specs.Stands.{Stands}
use Rattle.grid_journal.specs.Start.{main_with, start}
use Rattle.grid_journal.proofs.SpanLemmas.{only_looked, nothing, held_on_empty}
use Rattle.grid_journal.proofs.StartLemmas.{start_stands}
use Rattle.grid_journal.proofs.store.Store.init.Goals as goal

pub returns-in_err-len-clause-span : goal.returns-in_err-len-clause-span
returns-in_err-len-clause-span g c = only_looked _ _ _ _ _ c.requires.last refl c.len.ensures.cause.later c.len.ensures.looks

pub returns-then-len-gt0-clause-span : goal.returns-then-len-gt0-clause-span
returns-then-len-gt0-clause-span g c = only_looked _ _ _ _ _ c.requires.last refl c.len.ensures.cause.later c.len.ensures.looks

pub returns-in_err-len-2-clause-span : goal.returns-in_err-len-2-clause-span
returns-in_err-len-2-clause-span g c = only_looked _ _ _ _ _ c.requires.last refl c.len.ensures.cause.later c.len.ensures.looks

pub returns-then-len-gt0-2-clause-span : goal.returns-then-len-gt0-2-clause-span
returns-then-len-gt0-2-clause-span g c = only_looked _ _ _ _ _ c.requires.last refl c.len.ensures.cause.later c.len.ensures.looks

pub returns-in_err-deltas-clause-span : goal.returns-in_err-deltas-clause-span
returns-in_err-deltas-clause-span g c = only_looked _ _ _ _ _ c.requires.last refl c.len.ensures.cause.later c.len.ensures.looks

pub encode-requires : goal.encode-requires
encode-requires g c = c.in_ok-deltas.ensures.fit

pub returns-in_err-body-clause-span : goal.returns-in_err-body-clause-span
returns-in_err-body-clause-span g c = only_looked _ _ _ _ _ c.requires.last refl c.len.ensures.cause.later c.len.ensures.looks

pub returns-in_err-bytes-clause-span : goal.returns-in_err-bytes-clause-span
returns-in_err-bytes-clause-span g c = only_looked _ _ _ _ _ c.requires.last refl c.len.ensures.cause.later c.len.ensures.looks

pub returns-clause-was_empty : goal.returns-clause-was_empty
returns-clause-was_empty g c = (
  λ tells. nothing _ (omega (arith, c.in_ok-len.ensures.length tells, c.if-len-gt0.false)),
  λ tells. nothing _ (omega (arith, c.in_ok-len-2.ensures.length tells, c.if-len-gt0-2.false)),
)

pub returns-clause-written : goal.returns-clause-written
returns-clause-written g c tells =
    let still = subst IsTrue (sym c.len.ensures.looks.tells) tells in
    let empty = c.len.ensures.looks.holds tells ∙ nothing _ (omega (arith, c.in_ok-len.ensures.length tells, c.if-len-gt0.false)) in
    held_on_empty c.deref.result.now _ _ empty (c.in_ok-write_synced.ensures.written still)
    ∙ c.deref.ensures.value ∙ c.in_ok-bytes.ensures ∙ ap main_with (c.as_slice.ensures ∙ c.in_ok-body.ensures.spells.bytes_are ∙ ap (flat_map spelling) c.in_ok-deltas.ensures.deltas)

pub returns-clause-stands : goal.returns-clause-stands
returns-clause-stands g c tells other =
    let still = subst IsTrue (sym c.len.ensures.looks.tells) tells in
    let empty = c.len.ensures.looks.holds tells ∙ nothing _ (omega (arith, c.in_ok-len.ensures.length tells, c.if-len-gt0.false)) in
    let is : (g.D.Disk.disk c.write_synced.new.disk).holds ≡ main_with c.in_ok-body.body =
    held_on_empty c.deref.result.now _ _ empty (c.in_ok-write_synced.ensures.written still) ∙ c.deref.ensures.value ∙ c.in_ok-bytes.ensures ∙ ap main_with c.as_slice.ensures in
    let P : List ℕ → Type 0 = λ main. Stands main other (Ok (start c.args.zone.now c.args.admin.now c.args.stores)) in
    let Q : List Delta → Type 0 = λ ds. SpellsDeltas c.in_ok-body.body ds in
    subst P (sym is) (start_stands c.args.zone.now c.args.admin.now c.args.stores c.in_ok-body.body other c.requires.zone c.requires.admin c.requires.not_public c.requires.stores.0 c.requires.stores.1
    (subst Q c.in_ok-deltas.ensures.deltas c.in_ok-body.ensures.spells) c.in_ok-body.ensures.short)
