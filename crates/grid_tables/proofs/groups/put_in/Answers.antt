use Rattle.std.proofs.Common.{◌≡◌, Bool, ℕ, List, [], ◌∷◌, Option, Some, None, Result, Ok, Err, inl, inr, refl, sym, ap, ◌∙◌, subst}
use Rattle.std.specs.Prelude.{find, unwrap_or, OnErr}
use Rattle.std.specs.Map.{lookup, set_value}
use Rattle.std.specs.BTreeMap.{insert_entry, is_at}
use Rattle.std.specs.Option.{IsSome}
use Rattle.std.specs.Ordering.{eq_by_cmp}
use Rattle.std.proofs.lemmas.Map.Steps.{set_value_same}
use Rattle.std.proofs.lemmas.Result.{IfOk-weaker, on_ok_weaker}
use Rattle.grid_model.specs.Rows.{with_row}
use Rattle.grid_tables.specs.GroupLists.{group_id_cmp, list_of_group}
use Rattle.grid_tables.proofs.groups.put_in.Goals as goal

found : (g : _) (c : goal.After-lists-in-Some-1 g) → lookup (is_at (group_id_cmp (g.T.Grouped.group c.args.row))) c.args.lists.now.entries ≡ Some c.in-Some.rows.now
found g c = ap (λ n. lookup (is_at (group_id_cmp n)) c.args.lists.now.entries) (sym c.group.ensures) ∙ sym c.in-Some.ensures.value

list_is : (g : _) (c : goal.After-lists-in-Some-1 g) → list_of_group (g.T.Grouped.group c.args.row) c.args.lists.now.entries ≡ c.in-Some.rows.now
list_is g c = ap (λ o. unwrap_or o []) (found g c)

pub returns-in-Some-clause-put : goal.returns-in-Some-clause-put
returns-in-Some-clause-put g c =
    on_ok_weaker c.put.result (λ put. inr (
      subst (λ o. IsSome o) (sym (found g c)) refl,
      (c.get_mut.follows.holds c.put.new.self).0 ∙ ap (λ n. set_value (is_at (group_id_cmp n)) c.args.lists.now.entries c.put.new.self) c.group.ensures
          ∙ ap (λ v. set_value (is_at (group_id_cmp (g.T.Grouped.group c.args.row))) c.args.lists.now.entries v)
          (put ∙ ap (λ (l : List g.row.T.Denot). with_row g.T.Row.row_cmp l c.args.row) (sym (list_is g c))),
    )) c.put.ensures.put

pub returns-in-Some-clause-replaced : goal.returns-in-Some-clause-replaced
returns-in-Some-clause-replaced g c =
    IfOk-weaker c.put.result _ _ (λ old is. is ∙ ap (λ (l : List g.row.T.Denot). find (λ r. eq_by_cmp g.T.Row.row_cmp r c.args.row) l) (sym (list_is g c))) c.put.ensures.replaced

stays : {A E K X : Type 0} (r : Result A E) (test : K → Bool) (old new : List (K × X)) (was is : X) → lookup test old ≡ Some was → new ≡ set_value test old is → OnErr r (is ≡ was)
    → OnErr r (new ≡ old)
stays (Ok x) test old new was is found set failed = tt
stays (Err e) test old new was is found set failed = set ∙ ap (λ v. set_value test old v) failed ∙ set_value_same test old was found

pub returns-in-Some-clause-failed : goal.returns-in-Some-clause-failed
returns-in-Some-clause-failed g c = stays c.put.result _ c.args.lists.now.entries _ c.in-Some.rows.now c.put.new.self (sym c.in-Some.ensures.value) (c.get_mut.follows.holds c.put.new.self).0 c.put.ensures.failed

pub returns-in-Ok-clause-put : goal.returns-in-Ok-clause-put
returns-in-Ok-clause-put g c = inl (
  ap (λ n. lookup (is_at (group_id_cmp n)) c.args.lists.now.entries) (sym c.group.ensures) ∙ sym c.in-None.ensures.value,
  c.in-Ok.ensures.put ∙ ap (λ m. insert_entry group_id_cmp m.entries (g.T.Grouped.group c.args.row) (c.args.row ∷ [])) c.get_mut.follows.holds-at-none,
)
