-- What is recorded of the object at a path, by the rows that are found there and by the text that spells it.
use Rattle.std.proofs.Common.{◌≡◌, ℕ, Bool, Option, Some, None, refl, sym, ap, ◌∙◌, subst}
use Rattle.std.specs.Prelude.{find, option_map}
use Rattle.std.specs.Option.{option_map_or}
use Rattle.std.proofs.lemmas.Option.{same_Some}
use Rattle.grid_model.specs.Applying.{IsMade}
use Rattle.grid_model.specs.Grid.{Grid, Object}
use Rattle.grid_model.specs.Maps.{get}
use Rattle.grid_model.specs.Names.{Path, SpellsPath, Text}
use Rattle.grid_model.specs.PathTexts.{path_of}
use Rattle.grid_model.specs.Places.{IsRefusedAt}
use Rattle.grid_model.specs.RowGrids.{grid_of, object_of}
use Rattle.grid_model.specs.RowPaths.{is_path_of, object_at, object_path}
use Rattle.grid_model.specs.Rows.{Cat, object}
use Rattle.grid_model.specs.Values.{recorded_size}
use Rattle.grid_model.specs.declared.deltas.ObjectRow.{ObjectRow}
use Rattle.grid_model.proofs.PathTextLemmas.{path_of-answers, path_of-spelled}
use Rattle.tables_laws.proofs.LookUps.{get-object_at, get-objects}
use Rattle.tables_laws.proofs.Places.{object_found}
use Rattle.tables_laws.proofs.Rows.{in_from_find}
use Rattle.tables_laws.proofs.Sound.{IsSound, sound-made}

-- its size, and 0 where there is none
abbrev size_of : Option Object → ℕ
size_of found = option_map_or (λ (o : Object). o.size) found 0

-- ---- by the rows

module _ (c : Cat) (made : IsMade c) (p : Path) where
  sound : IsSound c
  sound = sound-made made.0 c made.1

  abbrev is_here : ObjectRow → Bool
  is_here row = is_path_of (object_path c row) p

  pub size-none : None ≡ object_at c p → 0 ≡ size_of (get (grid_of c).objects p)
  size-none none = sym (ap size_of (get-objects c sound p ∙ ap (option_map (object_of c)) (by (find is_here c.objects) none)))
    where
      by : (f : Option ObjectRow) → None ≡ option_map (λ (r : ObjectRow). r.id) f → f ≡ None
      by None e = refl
      by (Some r) e = absurd cc

  module _ (id : ℕ) (at : Some id ≡ object_at c p) where
    -- the object that is found has its row
    pub object-there : None ≡ object c id → ⊥
    object-there none = by (find is_here c.objects) refl at
      where
        by : (f : Option ObjectRow) → find is_here c.objects ≡ f → Some id ≡ option_map (λ (r : ObjectRow). r.id) f → ⊥
        by None is e = absurd cc
        by (Some r) is e =
            let here = (in_from_find is_here c.objects r is).0 in
            let own : object c id ≡ Some r = ap (object c) (same_Some id r.id e) ∙ object_found c sound r here in
            let wrong : ◌≡◌ {A = Option ObjectRow} None (Some r) = none ∙ own in
            cc

    pub size-found : (row : ObjectRow) → Some row ≡ object c id → row.size ≡ size_of (get (grid_of c).objects p)
    size-found row found = sym (ap size_of (get-object_at c sound p id row (sym at) (sym found)))

-- ---- by the text

module _ (g : Grid) (bytes text : Text) (same : bytes ≡ text) where
  abbrev size_by : Option Path → ℕ
  size_by found = option_map_or (λ p. size_of (get g.objects p)) found 0

  pub size-spelled : (size : ℕ) (p : Path) → SpellsPath bytes p → size ≡ size_of (get g.objects p) → size ≡ recorded_size g text
  size-spelled size p spells is = is ∙ sym (ap size_by (path_of-answers text p (subst (λ t. SpellsPath t p) same spells)))

  pub size-refused : (at : ℕ) → IsRefusedAt SpellsPath bytes at → 0 ≡ recorded_size g text
  size-refused at refused = by (path_of text) refl
    where
      by : (found : Option Path) → path_of text ≡ found → 0 ≡ recorded_size g text
      by (Some p) is = absurd (refused.spells_nothing p (subst (λ t. SpellsPath t p) (sym same) (path_of-spelled text p is)))
      by None is = sym (ap size_by is)
