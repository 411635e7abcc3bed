-- The orders of the grid's keys are total, and only equal keys tie.
use Rattle.std.proofs.Common.{◌≡◌, ◌==◌, ℕ, cond, [], ◌∷◌, refl, sym, ap, ◌∙◌}
use Rattle.std.specs.Cmp.{IsTotalOrder, nat_cmp_total, on_total, then_total}
use Rattle.std.specs.FinMap.{IsAntisymmetric, nat_cmp-IsAntisymmetric}
use Rattle.std.specs.Ordering.{nat_cmp, ordering_then}
use Rattle.std.specs.declared.cmp.Ordering.{Ordering}
use Rattle.std.specs.declared.cmp.Ordering.TheVariants.{Less, Equal, Greater}
use Rattle.grid_model.specs.Names.{Text, Path, text_cmp, path_cmp}
use Rattle.grid_model.specs.Rows.{item_number}
use Rattle.grid_model.specs.declared.grid.ItemKind.{ItemKind}
use Rattle.grid_model.specs.declared.grid.ItemKind.TheVariants as kind
use Rattle.grid_model.specs.Grid.{Thing, Triple, object_at, collection_at, resource_named, user_named, thing_number, thing_names, thing_cmp, thing_triple_cmp, group_member_cmp, access_cmp}
use Rattle.grid_model.proofs.Comparing.{text_cmp_total, text_cmp-IsAntisymmetric, path_cmp_total, path_cmp-IsAntisymmetric}

pub then_equal : (a b : Ordering) → ordering_then a b ≡ Equal → (a ≡ Equal) × (b ≡ Equal)
then_equal Less b e = absurd cc
then_equal Equal b e = (refl, e)
then_equal Greater b e = absurd cc

pub member_cmp_total : IsTotalOrder group_member_cmp
member_cmp_total = then_total (on_total (λ (m : Text × Text). m.0) text_cmp_total) (on_total (λ (m : Text × Text). m.1) text_cmp_total)

pub member_cmp-IsAntisymmetric : IsAntisymmetric group_member_cmp
member_cmp-IsAntisymmetric a b e =
    let parts = then_equal (text_cmp a.0 b.0) (text_cmp a.1 b.1) e in
    λ i. (text_cmp-IsAntisymmetric a.0 b.0 parts.0 i, text_cmp-IsAntisymmetric a.1 b.1 parts.1 i)

pub access_cmp_total : IsTotalOrder access_cmp
access_cmp_total = then_total (on_total (λ (k : Path × Text). k.0) path_cmp_total) (on_total (λ (k : Path × Text). k.1) text_cmp_total)

pub access_cmp-IsAntisymmetric : IsAntisymmetric access_cmp
access_cmp-IsAntisymmetric a b e =
    let parts = then_equal (path_cmp a.0 b.0) (text_cmp a.1 b.1) e in
    λ i. (path_cmp-IsAntisymmetric a.0 b.0 parts.0 i, text_cmp-IsAntisymmetric a.1 b.1 parts.1 i)

thing_cmp_total : IsTotalOrder thing_cmp
thing_cmp_total = then_total (on_total thing_number nat_cmp_total) (on_total thing_names path_cmp_total)

first_name : (a b : Text) → a ∷ [] ≡ b ∷ [] → a ≡ b
first_name a b e = cc

thing_same : (a b : Thing) → thing_number a ≡ thing_number b → thing_names a ≡ thing_names b → a ≡ b
thing_same (object_at p) (object_at q) number names = ap object_at names
thing_same (object_at p) (collection_at q) number names = absurd cc
thing_same (object_at p) (resource_named n) number names = absurd cc
thing_same (object_at p) (user_named n) number names = absurd cc
thing_same (collection_at p) (object_at q) number names = absurd cc
thing_same (collection_at p) (collection_at q) number names = ap collection_at names
thing_same (collection_at p) (resource_named n) number names = absurd cc
thing_same (collection_at p) (user_named n) number names = absurd cc
thing_same (resource_named m) (object_at q) number names = absurd cc
thing_same (resource_named m) (collection_at q) number names = absurd cc
thing_same (resource_named m) (resource_named n) number names = ap resource_named (first_name m n names)
thing_same (resource_named m) (user_named n) number names = absurd cc
thing_same (user_named m) (object_at q) number names = absurd cc
thing_same (user_named m) (collection_at q) number names = absurd cc
thing_same (user_named m) (resource_named n) number names = absurd cc
thing_same (user_named m) (user_named n) number names = ap user_named (first_name m n names)

thing_cmp-IsAntisymmetric : IsAntisymmetric thing_cmp
thing_cmp-IsAntisymmetric a b e =
    let parts = then_equal (nat_cmp (thing_number a) (thing_number b)) (path_cmp (thing_names a) (thing_names b)) e in
    thing_same a b (nat_cmp-IsAntisymmetric (thing_number a) (thing_number b) parts.0) (path_cmp-IsAntisymmetric (thing_names a) (thing_names b) parts.1)

abbrev words_of : Triple → Path
words_of t = t.attribute ∷ t.value ∷ t.unit ∷ []

pub triple_cmp_total : IsTotalOrder thing_triple_cmp
triple_cmp_total = then_total (on_total (λ (t : Triple). t.of) thing_cmp_total) (on_total words_of path_cmp_total)

three_words : (a b c x y z : Text) → a ∷ b ∷ c ∷ [] ≡ x ∷ y ∷ z ∷ [] → (a ≡ x) × (b ≡ y) × (c ≡ z)
three_words a b c x y z e = (cc, cc, cc)

pub triple_cmp-IsAntisymmetric : IsAntisymmetric thing_triple_cmp
triple_cmp-IsAntisymmetric a b e =
    let parts = then_equal (thing_cmp a.of b.of) (path_cmp (words_of a) (words_of b)) e in
    let words = three_words a.attribute a.value a.unit b.attribute b.value b.unit (path_cmp-IsAntisymmetric (words_of a) (words_of b) parts.1) in
    let thing = thing_cmp-IsAntisymmetric a.of b.of parts.0 in
    λ i. record { of = thing i; attribute = words.0 i; value = words.1 i; unit = words.2 i }

-- kinds of items have numbers of their own
kind_at : ℕ → ItemKind
kind_at n = cond (n == 1) kind.Object (cond (n == 2) kind.Collection (cond (n == 3) kind.Resource kind.User))

kind_back : (k : ItemKind) → kind_at (item_number k) ≡ k
unfolding kind_at
kind_back kind.Object = refl
kind_back kind.Collection = refl
kind_back kind.Resource = refl
kind_back kind.User = refl

pub kind_numbered : (k l : ItemKind) → item_number k ≡ item_number l → k ≡ l
kind_numbered k l e = sym (kind_back k) ∙ ap kind_at e ∙ kind_back l
