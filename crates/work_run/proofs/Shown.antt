-- A query of a request: what there is to do behind its rows.
use Rattle.std.proofs.Common.{◌≡◌, ℕ, false, List, [], Option, None, Ok, Err, refl, sym, ap, ◌∙◌, subst}
use Rattle.std.proofs.lemmas.List.{append-nil}
use Rattle.grid_model.specs.Names.{Text}
use Rattle.grid_model.specs.Points.{Point}
use Rattle.grid_model.specs.QueryRows.{query_rows}
use Rattle.grid_model.specs.Refusing.{Or}
use Rattle.grid_model.specs.Sessions.{State}
use Rattle.grid_model.specs.Runs.{Request, does}
use Rattle.grid_model.specs.declared.marks.Mark.{Mark}
use Rattle.grid_model.specs.declared.queries.Query.{Query}
use Rattle.grid_model.specs.declared.refusal.Refusal.{Refusal}
use Rattle.grid_model.specs.declared.replies.End.TheVariants as end
use Rattle.chain_run.specs.Places.{Place}
use Rattle.point_laws.specs.Works.{query}
use Rattle.work_run.specs.Behind.{IsBehind, IsEnded, from_work, from_worked}

module _ (at : State) (request : Request) (user : Text) (q : Or Query) (p : Option Point) (taken : List Mark) (place : Place) (b : ℕ)
    (behind : IsBehind at request taken place b (from_work at p user (query q))) where
  -- it is answered with rows
  pub shown_rows : (its : Query) → q ≡ Ok its → (ws : List Text) → ws ≡ [] → (rows : List (List Text)) → rows ≡ query_rows place.grid user its
      → IsBehind at request taken place b (from_worked at p (record { words = ws; rows = rows; sent = None }))
  shown_rows its is ws none rows same =
      let B : Or Query → Type 0 = λ o. IsBehind at request taken place b (from_work at p user (query o)) in
      let W : List Text → List (List Text) → Type 0 = λ us rs. IsBehind at request taken place b (from_worked at p (record { words = us; rows = rs; sent = None })) in
      subst (λ (us : List Text). W us rows) (sym none) (subst (W []) (sym same) (subst B is behind))

  -- or refused
  pub shown_refused : (r : Refusal) → q ≡ Err r → IsEnded at request taken place [] None (end.Refused r)
  shown_refused r is =
      let B : Or Query → Type 0 = λ o. IsBehind at request taken place b (from_work at p user (query o)) in
      record {
        begun = b;
        stopped = false;
        found = [];
        told = end.Refused r;
        does_so = ap (does at request) (sym (append-nil taken)) ∙ subst B is behind [];
        rows_are = refl;
        end_is = refl;
      }
