-- What a kind and a text name.
use Rattle.std.proofs.Common.{◌≡◌, ◌≢◌, ℕ, refl, sym, ap, ◌∙◌, subst}
use Rattle.grid_model.specs.Names.{Text, Path, SpellsPath}
use Rattle.grid_model.specs.Grid.{Thing, object_at, collection_at, resource_named, user_named}
use Rattle.grid_model.specs.Places.{IsRefusedAt}
use Rattle.grid_model.specs.declared.grid.ItemKind.{ItemKind}
use Rattle.grid_model.specs.declared.grid.ItemKind.TheVariants as kind
use Rattle.grid_model.specs.declared.path.PathError.{PathError}
use Rattle.grid_model.specs.declared.path.PathError.TheVariants.{BadPath, Memory}
use Rattle.grid_model.proofs.PathSpelling.{SpellsPath-unique}
use Rattle.cmd_read.specs.Orders.{NamesThing, an_object, a_collection, a_resource, a_user}

-- a text that is no path is refused where that shows
abbrev pub IsRefusal : Text → PathError → Type 0
IsRefusal name error = (at : ℕ) → error ≡ BadPath at → IsRefusedAt SpellsPath name at

object_unnamed : (name : Text) (place : ℕ) → IsRefusedAt SpellsPath name place → (thing : Thing) → NamesThing kind.Object name thing → ⊥
object_unnamed name place at thing (an_object {path = path} spells) = at.spells_nothing path spells

collection_unnamed : (name : Text) (place : ℕ) → IsRefusedAt SpellsPath name place → (thing : Thing) → NamesThing kind.Collection name thing → ⊥
collection_unnamed name place at thing (a_collection {path = path} spells) = at.spells_nothing path spells

-- they name one thing at most
pub one_thing : (k : ItemKind) (name : Text) (one other : Thing) → NamesThing k name one → NamesThing k name other → one ≡ other
one_thing k name one other (an_object {path = p} spells) (an_object {path = q} also) = ap object_at (SpellsPath-unique name p q spells also)
one_thing k name one other (a_collection {path = p} spells) (a_collection {path = q} also) = ap collection_at (SpellsPath-unique name p q spells also)
one_thing k name one other a_resource a_resource = refl
one_thing k name one other a_user a_user = refl

module _ (bytes name : Text) (bytes_are : bytes ≡ name) where
  pub refused_so : (error : PathError) → IsRefusal bytes error → IsRefusal name error
  refused_so error refused = let P : Text → Type 0 = λ t. IsRefusal t error in subst P bytes_are refused

  -- ---- a path

  module _ (path : Path) (spells : SpellsPath bytes path) where
    spelled : SpellsPath name path
    spelled = let P : Text → Type 0 = λ t. SpellsPath t path in subst P bytes_are spells

    pub object_of_path : (k : ItemKind) → k ≡ kind.Object → NamesThing k name (object_at path)
    object_of_path k is = let P : ItemKind → Type 0 = λ x. NamesThing x name (object_at path) in subst P (sym is) (an_object spelled)

    pub collection_of_path : (k : ItemKind) → k ≡ kind.Collection → NamesThing k name (collection_at path)
    collection_of_path k is = let P : ItemKind → Type 0 = λ x. NamesThing x name (collection_at path) in subst P (sym is) (a_collection spelled)

  -- ---- no path

  module _ (error : PathError) (refused : IsRefusal bytes error) (thing : Thing) where
    by_error : ((place : ℕ) → IsRefusedAt SpellsPath name place → ⊥) → (e : PathError) → error ≡ e → error ≢ Memory → ⊥
    by_error none (BadPath place) is not = none place (refused_so error refused place is)
    by_error none Memory is not = not is

    pub no_object_named : error ≢ Memory → (k : ItemKind) → k ≡ kind.Object → NamesThing k name thing → ⊥
    no_object_named not k is named =
        let P : ItemKind → Type 0 = λ x. NamesThing x name thing in by_error (λ place at. object_unnamed name place at thing (subst P is named)) error refl not

    pub no_collection_named : error ≢ Memory → (k : ItemKind) → k ≡ kind.Collection → NamesThing k name thing → ⊥
    no_collection_named not k is named =
        let P : ItemKind → Type 0 = λ x. NamesThing x name thing in by_error (λ place at. collection_unnamed name place at thing (subst P is named)) error refl not

  -- ---- names

  module _ (copy : Text) (copied : copy ≡ bytes) where
    pub resource_of_name : (k : ItemKind) → k ≡ kind.Resource → NamesThing k name (resource_named copy)
    resource_of_name k is =
        let P : ItemKind → Type 0 = λ x. NamesThing x name (resource_named copy) in
        let Q : Text → Type 0 = λ t. NamesThing kind.Resource name (resource_named t) in
        subst P (sym is) (subst Q (sym (copied ∙ bytes_are)) a_resource)

    pub user_of_name : (k : ItemKind) → k ≡ kind.User → NamesThing k name (user_named copy)
    user_of_name k is =
        let P : ItemKind → Type 0 = λ x. NamesThing x name (user_named copy) in
        let Q : Text → Type 0 = λ t. NamesThing kind.User name (user_named t) in
        subst P (sym is) (subst Q (sym (copied ∙ bytes_are)) a_user)
