-- A get that is refused by its row.
use Rattle.std.proofs.Common.{◌≡◌, ℕ, false, List, [], ◌∷◌, Option, Some, None, Ok, Err, length, refl, sym, ap, ◌∙◌}
use Rattle.std.specs.Prelude.{decimal}
use Rattle.std.proofs.lemmas.List.{append-nil}
use Rattle.grid_model.specs.Grid.{Grid}
use Rattle.grid_model.specs.Names.{Path, Text}
use Rattle.grid_model.specs.Meanings.{Meaning, mapped, ◌>>=◌}
use Rattle.grid_model.specs.Refusing.{Or}
use Rattle.grid_model.specs.Doing.{Course, Did, do_act}
use Rattle.grid_model.specs.Operations.Replicas.{Source, got}
use Rattle.grid_model.specs.Operations.Table.{get as fetch, row}
use Rattle.grid_model.specs.Points.{Point}
use Rattle.grid_model.specs.Sessions.{State}
use Rattle.grid_model.specs.Working.{Done, Worked, after_work, running}
use Rattle.grid_model.specs.Runs.{Request, does}
use Rattle.grid_model.specs.declared.marks.Mark.{Mark}
use Rattle.grid_model.specs.declared.refusal.Refusal.{Refusal}
use Rattle.grid_model.specs.declared.replies.End.TheVariants as end
use Rattle.chain_run.specs.Places.{Place, course_at}
use Rattle.point_laws.specs.Works.{operation}
use Rattle.work_run.specs.Behind.{IsBehind, IsEnded, from_work}
use Rattle.work_run.proofs.GetActs.{act_of}

-- what was found is not refused
pub got_refused : (g : Grid) (user : Text) (path : Path) (asked : Option Text) (from : Source) → got g user path asked ≡ Ok from → (r : Refusal)
    → row g user (fetch path asked) ≡ Err r → ⊥
got_refused g user path asked from is r refused = let both = sym (ap (act_of g) is) ∙ refused in cc both

module _ (at : State) (request : Request) (user : Text) (path : Path) (asked : Option Text) (p : Option Point) (taken : List Mark) (q : Place) (b : ℕ)
    (behind : IsBehind at request taken q b (from_work at p user (operation (fetch path asked)))) where
  abbrev worked_by : Or Source → Did → Worked
  worked_by r d = record {
    state = d.state;
    failure = d.failure;
    words = elim r [ Ok from ↦ decimal from.number ∷ [] | Err e ↦ [] ];
    rows = [];
    sent = elim r [ Ok from ↦ Some (record { size = from.object.size; digest = from.object.digest; before = length q.taken }) | Err e ↦ None ];
  }

  abbrev goes_by : Or Source → Course → Meaning Done
  goes_by r s = mapped (worked_by r) (do_act (running (fetch path asked)) s (act_of q.grid r)) >>= after_work at p

  pub refused_end : (r : Refusal) → got q.grid user path asked ≡ Err r → IsEnded at request taken q [] None (end.Refused r)
  refused_end r is = record {
    begun = b;
    stopped = false;
    found = [];
    told = end.Refused r;
    does_so = ap (does at request) (sym (append-nil taken)) ∙ behind [] ∙ ap (λ (o : Or Source). goes_by o (course_at q [] b false)) is;
    rows_are = refl;
    end_is = refl;
  }
