-- The operations of verbs.
use Rattle.std.proofs.Common.{◌≡◌, ℕ, Bool, true, false, Ok, Err, refl, ◌∙◌, ap, subst}
use Rattle.std.specs.Prelude.{nat_le}
use Rattle.std.specs.Bool.{MatchBool}
use Rattle.grid_model.specs.Limits.{object_size}
use Rattle.grid_model.specs.Names.{Path, Text}
use Rattle.grid_model.specs.Operations.Table.{Operation, mkuser, mkgroup, mkdir, rmdir, mv, chmod, inherit, addmember, rmmember, mkresc, addchild, modresc}
use Rattle.grid_model.specs.Operations.Table.{put, get, repl, chksum, trim, rm, addmeta, rmmeta}
use Rattle.grid_model.specs.Orders.{Order, works}
use Rattle.grid_model.specs.Runs.{Request}
use Rattle.grid_model.specs.Sessions.{State}
use Rattle.grid_model.specs.declared.grid.ItemKind.{ItemKind}
use Rattle.grid_model.specs.declared.grid.ResourceKind.TheVariants.{Storage}
use Rattle.grid_model.specs.declared.refusal.Refusal.TheVariants.{UnknownCommand}
use Rattle.grid_model.specs.declared.requests.Verb.{Verb}
use Rattle.grid_model.specs.declared.requests.Verb.TheVariants as verb
use Rattle.cmd_read.specs.Orders.{MeansOrder, promised}
use Rattle.grid_headline.specs.Reads.{is_built, texts}
use Rattle.row_run.specs.Verbs.{HasGoodWords, WorksBy}
use Rattle.cmd_run.specs.Asking.{AsksForVerb, MeansHeld}
use Rattle.cmd_run.specs.Works.{IsNoOther, IsWorkOf}
use Rattle.cmd_run.proofs.Meant.{order_of}

-- one that is none of these
pub is_no_other : (v : Verb) → ((u : Text) → v ≡ verb.Login u → ⊥) → (v ≡ verb.Logout → ⊥) → (v ≡ verb.Quit → ⊥) → (v ≡ verb.Sweep → ⊥)
    → ((p : Path) → v ≡ verb.Ls p → ⊥) → ((k : ItemKind) (n : Text) → v ≡ verb.LsMeta k n → ⊥) → ((text : Text) → v ≡ verb.Query text → ⊥)
    → ((text : Text) → v ≡ verb.Exec text → ⊥) → ((count : ℕ) → v ≡ verb.Rules count → ⊥) → (v ≡ verb.ShowRules → ⊥) → IsNoOther v
is_no_other (verb.Login u) n0 n1 n2 n3 n4 n5 n6 n7 n8 n9 = absurd (n0 u refl)
is_no_other verb.Logout n0 n1 n2 n3 n4 n5 n6 n7 n8 n9 = absurd (n1 refl)
is_no_other verb.Quit n0 n1 n2 n3 n4 n5 n6 n7 n8 n9 = absurd (n2 refl)
is_no_other verb.Sweep n0 n1 n2 n3 n4 n5 n6 n7 n8 n9 = absurd (n3 refl)
is_no_other (verb.Ls p) n0 n1 n2 n3 n4 n5 n6 n7 n8 n9 = absurd (n4 p refl)
is_no_other (verb.LsMeta k n) n0 n1 n2 n3 n4 n5 n6 n7 n8 n9 = absurd (n5 k n refl)
is_no_other (verb.Query text) n0 n1 n2 n3 n4 n5 n6 n7 n8 n9 = absurd (n6 text refl)
is_no_other (verb.Exec text) n0 n1 n2 n3 n4 n5 n6 n7 n8 n9 = absurd (n7 text refl)
is_no_other (verb.Rules count) n0 n1 n2 n3 n4 n5 n6 n7 n8 n9 = absurd (n8 count refl)
is_no_other verb.ShowRules n0 n1 n2 n3 n4 n5 n6 n7 n8 n9 = absurd (n9 refl)
is_no_other other n0 n1 n2 n3 n4 n5 n6 n7 n8 n9 = tt

-- what it means is the operation that it does
pub means_work : (at : State) (v : Verb) (body : Text) (order : Order) → IsNoOther v → is_built v ≡ true → MeansOrder texts at v body order
    → (op : Operation) × WorksBy v body op × (order ≡ works op (promised v))
means_work at (verb.MkUser name kind) body order mine built m = (mkuser name kind, refl, m)
means_work at (verb.MkGroup name) body order mine built m = (mkgroup name, refl, m)
means_work at (verb.RmDir path) body order mine built m = (rmdir path, refl, m)
means_work at (verb.AddMember group user) body order mine built m = (addmember group user, refl, m)
means_work at (verb.RmMember group user) body order mine built m = (rmmember group user, refl, m)
means_work at (verb.MkStorage name slot) body order mine built m = (mkresc name Storage slot, refl, m)
means_work at (verb.MkCoordinating name kind) body order mine built m = (mkresc name kind 0, refl, m)
means_work at (verb.AddChild parent child) body order mine built m = (addchild parent child, refl, m)
means_work at (verb.ModResc name up) body order mine built m = (modresc name up, refl, m)
means_work at (verb.MkDir path) body order mine built m = (mkdir path, refl, m)
means_work at (verb.Mv from to) body order mine built m = (mv from to, refl, m)
means_work at (verb.ChMod level name path) body order mine built m = (chmod level name path, refl, m)
means_work at (verb.Inherit path) body order mine built m = (inherit path true, refl, m)
means_work at (verb.NoInherit path) body order mine built m = (inherit path false, refl, m)
means_work at (verb.Put path resource mode count) body order mine built m = (put path resource mode body, refl, m)
means_work at (verb.Get path resource) body order mine built m = (get path resource, refl, m)
means_work at (verb.Repl path resource) body order mine built m = (repl path resource, refl, m)
means_work at (verb.ChkSum path) body order mine built m = (chksum path, refl, m)
means_work at (verb.Trim path resource) body order mine built m = (trim path resource, refl, m)
means_work at (verb.Rm path) body order mine built m = (rm path, refl, m)
means_work at (verb.AddMeta kind name a v u) body order mine built m =
    (addmeta (record { of = m.0; attribute = a; value = v; unit = u }), (m.0, m.1, refl), m.2)
means_work at (verb.RmMeta kind name a v u) body order mine built m = (rmmeta (record { of = m.0; attribute = a; value = v; unit = u }), (m.0, m.1, refl), m.2)
means_work at (verb.Login user) body order mine built m = absurd mine
means_work at verb.Logout body order mine built m = absurd mine
means_work at verb.Quit body order mine built m = absurd mine
means_work at verb.Sweep body order mine built m = absurd mine
means_work at (verb.Ls path) body order mine built m = absurd mine
means_work at (verb.LsMeta kind name) body order mine built m = absurd mine
means_work at (verb.Query text) body order mine built m = absurd mine
means_work at (verb.Exec text) body order mine built m = absurd mine
means_work at (verb.Rules count) body order mine built m = absurd mine
means_work at verb.ShowRules body order mine built m = absurd mine
means_work at other body order mine built m = absurd (cc built)

-- there is one where its words are good
pub work_of : (at : State) (v : Verb) (body : Text) → IsNoOther v → is_built v ≡ true → HasGoodWords v → (op : Operation) × WorksBy v body op
work_of at v body mine built good =
    let its = order_of at v body built good in
    let w = means_work at v body its.0 mine built its.1 in
    (w.0, w.1)

module _ (at : State) (session : ℕ) (v : Verb) (held : Text) (request : Request) (mine : IsNoOther v) (asks : AsksForVerb at session v held request) where
  -- what one asks for that is not built
  pub asks_unbuilt : is_built v ≡ false → request ≡ Err UnknownCommand
  asks_unbuilt not_built =
      let M : Bool → Type 0 = λ b. MatchBool b ((order : Order) × (request ≡ Ok (session, order)) × MeansHeld at v held order) (request ≡ Err UnknownCommand) in
      subst M not_built asks

  module _ (built : is_built v ≡ true) where
    ordered : (order : Order) × (request ≡ Ok (session, order)) × MeansHeld at v held order
    ordered =
        let M : Bool → Type 0 = λ b. MatchBool b ((order : Order) × (request ≡ Ok (session, order)) × MeansHeld at v held order) (request ≡ Err UnknownCommand)
        in
        subst M built asks

    -- what one asks for that is built
    pub asks_work : (op : Operation) × (request ≡ Ok (session, works op (promised v)))
    asks_work =
        let w = means_work at v ordered.2.0 ordered.0 mine built ordered.2.1 in
        (w.0, ordered.1 ∙ ap (λ (o : Order). Ok (session, o)) w.2)

    -- and that promised no more than an object may have
    pub is_work_of : nat_le (promised v) object_size ≡ true → IsWorkOf session v held request
    is_work_of small =
        let w = means_work at v ordered.2.0 ordered.0 mine built ordered.2.1 in
        let W : Text → Type 0 = λ b. WorksBy v b w.0 in
        record {
          op = w.0;
          by_verb = subst W (ordered.2.2 small) w.1;
          count = promised v;
          is = ordered.1 ∙ ap (λ (o : Order). Ok (session, o)) w.2;
          small = small;
        }
