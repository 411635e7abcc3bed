-- An operation in which a stop was taken fails so.
use Rattle.std.proofs.Common.{◌≡◌, Bool, true, false, List, [], ◌∷◌, Some, refl, sym, ◌∙◌}
use Rattle.std.specs.Prelude.{Ok, Err}
use Rattle.grid_model.specs.Names.{Text}
use Rattle.grid_model.specs.Refusing.{Or}
use Rattle.grid_model.specs.Meanings.{gives}
use Rattle.grid_model.specs.Deeds.{Act, Deed, changes, deed, by_mark, fits}
use Rattle.grid_model.specs.Operations.Table.{Operation, row}
use Rattle.grid_model.specs.Doing.{Course, Did, do_act, taking, take_mark, where_mark_fits, with_result}
use Rattle.grid_model.specs.Working.{running}
use Rattle.grid_model.specs.declared.calls.Call.{Call}
use Rattle.grid_model.specs.declared.marks.Mark.{Mark}
use Rattle.grid_model.specs.declared.marks.Mark.TheVariants.{Ran, Fault, Bad, Stop}
use Rattle.grid_model.specs.declared.refusal.Failure.TheVariants.{Stopped}
use Rattle.chain_laws.proofs.Such.{GivesSuch, such_given}
use Rattle.deed_run.specs.Puts.{does_op}

abbrev pub Halts : Did → Type 0
Halts d = d.state.stopped ≡ true → d.failure ≡ Some Stopped

never : {Z : Type 0} (b : Bool) → b ≡ false → b ≡ true → Z
never b off on = absurd (let both : true ≡ false = sym on ∙ off in cc both)

fits_halts : (b : Bool) (d : Did) → Halts d → GivesSuch Halts (where_mark_fits b d)
fits_halts true d h = h
fits_halts false d h = tt

take_halts : (c : Call) (s : Course) (d : Deed) (ms : List Mark) → s.stopped ≡ false → GivesSuch Halts (take_mark c s d ms)
take_halts c s d [] off = tt
take_halts c s d (Ran word now bad ∷ rest) off =
    fits_halts (fits d (Ran word now bad)) (with_result (taking s (Ran word now bad) rest) (by_mark d (Ran word now bad))) (λ on. never s.stopped off on)
take_halts c s d (Fault slot sent ∷ rest) off =
    fits_halts (fits d (Fault slot sent)) (with_result (taking s (Fault slot sent) rest) (by_mark d (Fault slot sent))) (λ on. never s.stopped off on)
take_halts c s d (Bad slot len found sent ∷ rest) off =
    fits_halts (fits d (Bad slot len found sent)) (with_result (taking s (Bad slot len found sent) rest) (by_mark d (Bad slot len found sent)))
    (λ on. never s.stopped off on)
take_halts c s d (Stop ∷ rest) off = fits_halts (fits d Stop) (with_result (taking s Stop rest) (by_mark d Stop)) (λ on. refl)

act_halts : (c : Call) (s : Course) (a : Or Act) → s.stopped ≡ false → GivesSuch Halts (do_act c s a)
act_halts c s (Err r) off = λ on. never s.stopped off on
act_halts c s (Ok (changes g)) off = λ on. never s.stopped off on
act_halts c s (Ok (deed d)) off = take_halts c s d s.marks off

pub op_halts : (user : Text) (op : Operation) (s : Course) (d : Did) → s.stopped ≡ false → does_op user op s ≡ gives d → Halts d
op_halts user op s d off is = such_given Halts (does_op user op s) d (act_halts (running op) s (row s.grid user op) off) is
