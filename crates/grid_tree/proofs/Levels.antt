-- What a step down makes of the leaves that data goes to.
use Rattle.std.proofs.Common.{◌≡◌, ℕ, zero, suc, ◌/◌, ◌%◌, Bool, true, false, List, [], ◌∷◌, ◌++◌, length, map, Option, Some, None, refl, sym, ap, ◌∙◌}
use Rattle.std.specs.Prelude.{filter, flat_map, take, slice_get}
use Rattle.std.specs.Option.{option_map_or}
use Rattle.std.proofs.lemmas.List.{append-nil}
use Rattle.std.proofs.lemmas.List.Concat.{flat_map-append}
use Rattle.grid_model.specs.Maps.{get}
use Rattle.grid_model.specs.Names.{Text}
use Rattle.grid_model.specs.Grid.{Resource}
use Rattle.grid_model.specs.Trees.{Resources, children, chosen_kid, possible_by, possible_from, targets_by, targets_from}
use Rattle.grid_model.specs.declared.grid.ResourceKind.{ResourceKind}
use Rattle.grid_model.specs.declared.grid.ResourceKind.TheVariants.{Storage, Passthru, Random, Replication}
use Rattle.grid_tree.specs.Steps.{Spot, below, below_by, open_children, picked, spots, spots_by, with_word}

-- ---- lists of lists

pub flat_map-none : {X Y : Type 0} (xs : List X) → flat_map {X = X} {A = Y} (λ x. []) xs ≡ []
flat_map-none [] = refl
flat_map-none (x ∷ xs) = flat_map-none xs

pub flat_map-congr : {X Y : Type 0} (f g : X → List Y) (xs : List X) → ((x : X) → f x ≡ g x) → flat_map f xs ≡ flat_map g xs
flat_map-congr f g [] same = refl
flat_map-congr f g (x ∷ xs) same = λ i. same x i ++ flat_map-congr f g xs same i

pub flat_map-map : {W X Y : Type 0} (f : X → List Y) (g : W → X) (ws : List W) → flat_map f (map g ws) ≡ flat_map (λ w. f (g w)) ws
flat_map-map f g [] = refl
flat_map-map f g (w ∷ ws) = ap (λ ys. f (g w) ++ ys) (flat_map-map f g ws)

-- one step in each
pub flat_map-flat_map : {W X Y : Type 0} (f : X → List Y) (g : W → List X) (h : W → List Y) (ws : List W) → ((w : W) → h w ≡ flat_map f (g w)) → flat_map h ws ≡ flat_map f (flat_map g ws)
flat_map-flat_map f g h [] same = refl
flat_map-flat_map f g h (w ∷ ws) same = (λ i. same w i ++ flat_map-flat_map f g h ws same i) ∙ sym (flat_map-append f (g w) (flat_map g ws))

module _ (tree : Resources) where
  -- ---- for some word

  module _ (d : ℕ) (r : Text) where
    abbrev from : Text → List Text
    from = possible_from (suc d) tree

    by_kind : (k : ResourceKind) (slot : ℕ) (u : Bool) (p : Option Text) (pl : ℕ) → get tree r ≡ Some (record { kind = k; slot = slot; up = u; parent = p; place = pl })
        → possible_by tree r from (Some (record { kind = k; slot = slot; up = u; parent = p; place = pl })) ≡ flat_map from (below_by tree r (Some (record { kind = k; slot = slot; up = u; parent = p; place = pl })))
    by_kind Storage slot true p pl found = sym (append-nil (from r) ∙ ap (possible_by tree r (possible_from d tree)) found)
    by_kind Storage slot false p pl found = refl
    by_kind Passthru slot u p pl found = refl
    by_kind Random slot u p pl found = refl
    by_kind Replication slot u p pl found = refl

    by_resource : (o : Option Resource) → get tree r ≡ o → possible_by tree r from o ≡ flat_map from (below_by tree r o)
    by_resource None found = refl
    by_resource (Some x) found = by_kind x.kind x.slot x.up x.parent x.place found

    possible-step : possible_from (suc (suc d)) tree r ≡ flat_map from (below tree r)
    possible-step = by_resource (get tree r) refl

  pub possible-level : (d : ℕ) (rs : List Text) → flat_map (possible_from (suc (suc d)) tree) rs ≡ flat_map (possible_from (suc d) tree) (flat_map (below tree) rs)
  possible-level d rs = flat_map-flat_map (possible_from (suc d) tree) (below tree) (possible_from (suc (suc d)) tree) rs (possible-step d)

  -- ---- for one word

  abbrev pub at : ℕ → Spot → List Text
  at d s = targets_from d tree s.0 s.1

  module _ (d : ℕ) (r : Text) (word : ℕ) where
    abbrev to : Text → ℕ → List Text
    to = targets_from (suc d) tree

    all_words : (kids : List Text) → flat_map (λ kid. to kid word) kids ≡ flat_map (at (suc d)) (with_word kids word)
    all_words kids = sym (flat_map-map (at (suc d)) (λ kid. (kid, word)) kids)

    one_word : (kids : List Text) (o : Option Text) → option_map_or (λ kid. to kid (word / length kids)) o [] ≡ flat_map (at (suc d)) (option_map_or (λ kid. (kid, word / length kids) ∷ []) o [])
    one_word kids None = refl
    one_word kids (Some kid) = sym (append-nil (to kid (word / length kids)))

    word_by_kind : (k : ResourceKind) (slot : ℕ) (u : Bool) (p : Option Text) (pl : ℕ) → get tree r ≡ Some (record { kind = k; slot = slot; up = u; parent = p; place = pl })
        → targets_by tree r word to (Some (record { kind = k; slot = slot; up = u; parent = p; place = pl })) ≡ flat_map (at (suc d)) (spots_by tree r word (Some (record { kind = k; slot = slot; up = u; parent = p; place = pl })))
    word_by_kind Storage slot true p pl found = sym (append-nil (to r word) ∙ ap (targets_by tree r word (targets_from d tree)) found)
    word_by_kind Storage slot false p pl found = refl
    word_by_kind Passthru slot u p pl found = all_words _
    word_by_kind Random slot u p pl found = one_word (open_children tree r) (slice_get (open_children tree r) (word % length (open_children tree r)))
    word_by_kind Replication slot u p pl found = all_words _

    word_by_resource : (o : Option Resource) → get tree r ≡ o → targets_by tree r word to o ≡ flat_map (at (suc d)) (spots_by tree r word o)
    word_by_resource None found = refl
    word_by_resource (Some x) found = word_by_kind x.kind x.slot x.up x.parent x.place found

  pub targets-level : (d : ℕ) (ss : List Spot) → flat_map (at (suc (suc d))) ss ≡ flat_map (at (suc d)) (flat_map (spots tree) ss)
  targets-level d ss = flat_map-flat_map (at (suc d)) (spots tree) (at (suc (suc d))) ss (λ s. word_by_resource d s.0 s.1 (get tree s.0) refl)

  -- ---- the last step

  module _ (r : Text) (word : ℕ) where
    none_chosen : (o : Option Text) → (let none : Text → List Text = λ kid. [] in option_map_or none o []) ≡ []
    none_chosen None = refl
    none_chosen (Some kid) = refl

    last_by_kind : (k : ResourceKind) (slot : ℕ) (u : Bool) (p : Option Text) (pl : ℕ)
        → targets_by tree r word (targets_from zero tree) (Some (record { kind = k; slot = slot; up = u; parent = p; place = pl })) ≡ possible_by tree r (possible_from zero tree) (Some (record { kind = k; slot = slot; up = u; parent = p; place = pl }))
    last_by_kind Storage slot true p pl = refl
    last_by_kind Storage slot false p pl = refl
    last_by_kind Passthru slot u p pl = refl
    last_by_kind Random slot u p pl = none_chosen _ ∙ sym (flat_map-none {X = Text} {Y = Text} (children tree r))
    last_by_kind Replication slot u p pl = refl

    last_by : (o : Option Resource) → targets_by tree r word (targets_from zero tree) o ≡ possible_by tree r (possible_from zero tree) o
    last_by None = refl
    last_by (Some x) = last_by_kind x.kind x.slot x.up x.parent x.place

  pub targets-last : (ss : List Spot) → flat_map (at 1) ss ≡ flat_map (possible_from 1 tree) (map (λ s. s.0) ss)
  targets-last ss = flat_map-congr (at 1) (λ s. possible_from 1 tree s.0) ss (λ s. last_by s.0 s.1 (get tree s.0)) ∙ sym (flat_map-map (possible_from 1 tree) (λ s. s.0) ss)
