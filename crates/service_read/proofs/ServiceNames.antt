-- The names of micro-services, as the definition has them.
use Rattle.std.proofs.Common.{◌≡◌, Bool, true, false, List, [], ◌∷◌, Option, Some, None, refl, ap, ◌∙◌}
use Rattle.std.specs.Prelude.{option_map}
use Rattle.std.specs.Option.{option_map_or}
use Rattle.grid_model.specs.Names.{Text, same_text}
use Rattle.grid_model.specs.Services.{ServiceReading, service, services, word_in}
use Rattle.grid_model.specs.declared.calls.Call.{Call}
use Rattle.service_read.specs.ReadServices.{reading_by, service_names}
use Rattle.service_read.specs.declared.names.ServiceName.{ServiceName}

-- the same words, for what is made of what they stand for
abbrev made : {A B : Type 0} → (A → B) → List (Text × A) → List (Text × B)
made f [] = []
made f (w ∷ ws) = (w.0, f w.1) ∷ made f ws

word_made : {A B : Type 0} (f : A → B) (ws : List (Text × A)) (t : Text) → option_map f (word_in ws t) ≡ word_in (made f ws) t
word_made f [] t = refl
word_made {A = A} {B = B} f (w ∷ ws) t = by (same_text w.0 t) (word_made f ws t)
  where
    by : (same : Bool) → option_map f (word_in ws t) ≡ word_in (made f ws) t
        → option_map f (elim same as (λ x. Option A) [ true ↦ Some w.1 | false ↦ word_in ws t ]) ≡ elim same as (λ x. Option B) [ true ↦ Some (f w.1) | false ↦ word_in (made f ws) t ]
    by true rest = refl
    by false rest = rest

-- a name stands for what the definition has
names_services : (name : Text) → option_map reading_by (word_in service_names name) ≡ word_in services name
names_services name = word_made reading_by service_names name

read_with : (found : Option ServiceName) (args : List Text)
    → option_map_or (λ n. reading_by n args) found None ≡ option_map_or (λ (reads : ServiceReading). reads args) (option_map reading_by found) None
read_with None args = refl
read_with (Some n) args = refl

-- what a call does, by what its name stands for
pub service_by_name : (c : Call) (found : Option ServiceName) → found ≡ word_in service_names c.name → option_map_or (λ n. reading_by n c.args) found None ≡ service c
service_by_name c found is =
    read_with found c.args ∙ ap (λ (o : Option ServiceReading). option_map_or (λ reads. reads c.args) o None) (ap (option_map reading_by) is ∙ names_services c.name)
