-- The point of an operation or a query is named by its verb.
use Rattle.std.proofs.Common.{◌≡◌, Bool, true, false, [], Option, Some, None, codes, refl, sym, ap, ◌∙◌, subst}
use Rattle.std.specs.Prelude.{option_map}
use Rattle.grid_model.specs.Maps.{has}
use Rattle.grid_model.specs.Names.{Text, Path}
use Rattle.grid_model.specs.Grid.{Grid, Thing, object_at, collection_at, resource_named, user_named}
use Rattle.grid_model.specs.Operations.Table.{Operation}
use Rattle.grid_model.specs.Points.{Point, at_access, at_collection, at_object, at_thing, point_of, post_name, pre_name}
use Rattle.grid_model.specs.declared.requests.Verb.{Verb}
use Rattle.grid_model.specs.declared.requests.Verb.TheVariants as verb
use Rattle.grid_model.specs.Refusing.{Or}
use Rattle.grid_model.specs.declared.queries.Query.{Query}
use Rattle.point_laws.specs.Works.{Work, operation, point_at, query}
use Rattle.row_run.specs.Verbs.{IsRowsVerb, WorksBy, operation_by}
use Rattle.work_run.specs.Names.{point_name, rules_name}
use Rattle.work_run.specs.Verbs.{AsksBy, WorksAs}

-- the name of a point
abbrev pub name_of : Option Point → Option Text
name_of p = option_map (λ (q : Point). q.operation) p

module _ (g : Grid) (user : Text) where
  of_access : (p : Path) → name_of (at_access g user p) ≡ Some (codes "mod_access_control")
  of_access p = by (has g.objects p)
    where
      by : (b : Bool) → name_of (elim b [
        | true ↦ at_object (codes "mod_access_control") user p [] None
        | false ↦ at_collection (codes "mod_access_control") user p
      ]) ≡ Some (codes "mod_access_control")
      by true = refl
      by false = refl

  of_thing : (op : Text) (thing : Thing) → name_of (at_thing op user thing) ≡ Some op
  of_thing op (object_at p) = refl
  of_thing op (collection_at p) = refl
  of_thing op (resource_named n) = refl
  of_thing op (user_named n) = refl

  -- the point of the operation is of this
  abbrev IsNamed : Option Text → Option Operation → Type 0
  IsNamed name None = Unit {0}
  IsNamed name (Some op) = name_of (point_of g user op) ≡ name

  named_by : (v : Verb) → IsNamed (point_name v) (operation_by v)
  named_by (verb.MkUser name kind) = refl
  named_by (verb.MkGroup name) = refl
  named_by (verb.MkDir path) = refl
  named_by (verb.RmDir path) = refl
  named_by (verb.Mv from to) = refl
  named_by (verb.ChMod level name path) = of_access path
  named_by (verb.Inherit path) = of_access path
  named_by (verb.NoInherit path) = of_access path
  named_by (verb.AddMember group member) = refl
  named_by (verb.RmMember group member) = refl
  named_by (verb.MkStorage name slot) = refl
  named_by (verb.MkCoordinating name kind) = refl
  named_by (verb.AddChild parent child) = refl
  named_by (verb.ModResc name up) = refl
  named_by (verb.Trim path resource) = refl
  named_by (verb.Rm path) = refl
  named_by other = tt

  rows_named : (v : Verb) (op : Operation) → IsRowsVerb v op → name_of (point_of g user op) ≡ point_name v
  rows_named (verb.AddMeta kind name attribute value unit) op its =
      ap (λ (o : Operation). name_of (point_of g user o)) its.2 ∙ of_thing (codes "mod_avu_metadata") its.0
  rows_named (verb.RmMeta kind name attribute value unit) op its =
      ap (λ (o : Operation). name_of (point_of g user o)) its.2 ∙ of_thing (codes "mod_avu_metadata") its.0
  rows_named other op is = subst (IsNamed (point_name other)) is (named_by other)

  works_named : (v : Verb) (body : Text) (op : Operation) → WorksBy v body op → name_of (point_of g user op) ≡ point_name v
  works_named (verb.Put path resource mode count) body op is = ap (λ (o : Operation). name_of (point_of g user o)) is
  works_named (verb.Get path resource) body op is = ap (λ (o : Operation). name_of (point_of g user o)) is
  works_named (verb.Repl path resource) body op is = ap (λ (o : Operation). name_of (point_of g user o)) is
  works_named (verb.ChkSum path) body op is = ap (λ (o : Operation). name_of (point_of g user o)) is
  works_named other body op its = rows_named other op its

  asks_named : (v : Verb) (q : Or Query) → AsksBy v q → name_of (point_at g user (query q)) ≡ point_name v
  asks_named (verb.Query text) q reads = refl
  asks_named other q none = absurd none

  pub work_named : (v : Verb) (body : Text) (w : Work) → WorksAs v body w → name_of (point_at g user w) ≡ point_name v
  work_named v body (operation op) works = works_named v body op works
  work_named v body (query q) asks = asks_named v q asks

-- ---- where it has no rules

-- what has no name has no point
pub no_point : (p : Option Point) → name_of p ≡ None → (q : Point) → p ≡ Some q → ⊥
no_point p none q is = let both : Some q.operation ≡ None = sym (ap name_of is) ∙ none in cc both

-- the rules of a point are those of its name
pub its_pre : (p : Option Point) (name : Text) → name_of p ≡ Some name → (q : Point) → p ≡ Some q → pre_name q ≡ rules_name name (codes "_pre")
its_pre p name named q is =
    let both : Some q.operation ≡ Some name = sym (ap name_of is) ∙ named in
    let same : q.operation ≡ name = cc both in
    ap (λ (t : Text). rules_name t (codes "_pre")) same

pub its_post : (p : Option Point) (name : Text) → name_of p ≡ Some name → (q : Point) → p ≡ Some q → post_name q ≡ rules_name name (codes "_post")
its_post p name named q is =
    let both : Some q.operation ≡ Some name = sym (ap name_of is) ∙ named in
    let same : q.operation ≡ name = cc both in
    ap (λ (t : Text). rules_name t (codes "_post")) same
