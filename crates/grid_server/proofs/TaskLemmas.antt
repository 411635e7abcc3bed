-- What the words of the program ask for.
use Rattle.std.proofs.Common.{◌≡◌, ◌≢◌, Bool, true, false, not, [], ◌∷◌, refl, ap}
use Rattle.std.specs.Prelude.{codes}
use Rattle.grid_model.specs.Names.{Text}
use Rattle.grid_model.specs.Grid.{everybody}
use Rattle.grid_server.specs.Tasks.{AsksForTask, to_serve, to_init, init, serve, IsWord}

pub serve_asked : (word : Text) → AsksForTask (word ∷ []) serve → word ≡ codes "serve"
serve_asked word (to_serve e) = cc

-- the words ask to begin a grid
pub record Inits (word zone admin : Text) : Type 0 where
  pub word_is : word ≡ codes "init"
  pub zone_is : IsWord zone
  pub admin_is : IsWord admin
  pub not_everybody : admin ≢ everybody

pub init_asked : (word zone admin : Text) → AsksForTask (word ∷ zone ∷ admin ∷ []) (init zone admin) → Inits word zone admin
init_asked word zone admin (to_init e z a other) = record { word_is = cc; zone_is = z; admin_is = a; not_everybody = other }

pub not_true : (b : Bool) → (b ≡ true → ⊥) → not b ≡ true
not_true true other = absurd (other refl)
not_true false other = refl

pub not_both : (b : Bool) → b ≡ true → not b ≡ true → ⊥
not_both b one other = cc (other, ap not one)
