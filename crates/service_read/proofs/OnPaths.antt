-- What there is for the path that a text spells, by what reading the text gives.
use Rattle.std.proofs.Common.{◌≡◌, ℕ, Option, Some, None, refl, ap, ◌∙◌, subst}
use Rattle.std.specs.Option.{option_map_or}
use Rattle.grid_model.specs.Names.{Text, Path, SpellsPath}
use Rattle.grid_model.specs.PathTexts.{path_of, path_place}
use Rattle.grid_model.specs.Places.{IsRefusedAt}
use Rattle.grid_model.specs.Services.{Service, no_path, on_path}
use Rattle.grid_model.proofs.PathTextLemmas.{path_of-spelled, path_of-answers, path_place-refused}
use Rattle.grid_model.proofs.Refusals.{IsRefusedAt-unique}

module _ (bytes text : Text) (same : bytes ≡ text) (f : Path → Service) where
  -- what there is, by the path and the place
  abbrev by_parts : ℕ → Option Path → Service
  by_parts place found = option_map_or f found (no_path place)

  -- a path that is spelled
  pub on_path-spelled : (path : Path) → SpellsPath bytes path → on_path text f ≡ f path
  on_path-spelled path spells = ap (by_parts (path_place text)) (path_of-answers text path (subst (λ t. SpellsPath t path) same spells))

  -- a text that spells none
  pub on_path-refused : (place : ℕ) → IsRefusedAt SpellsPath bytes place → on_path text f ≡ no_path place
  on_path-refused place refused = by (path_of text) refl
    where
      here : IsRefusedAt SpellsPath text place
      here = subst (λ t. IsRefusedAt SpellsPath t place) same refused

      by : (found : Option Path) → path_of text ≡ found → on_path text f ≡ no_path place
      by (Some path) is = absurd (here.spells_nothing path (path_of-spelled text path is))
      by None is = ap (by_parts (path_place text)) is ∙ ap no_path (IsRefusedAt-unique SpellsPath text (path_place text) place (path_place-refused text is) here)
