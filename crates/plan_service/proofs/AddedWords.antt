-- A call whose arguments are words adds words.
use Rattle.std.proofs.Common.{◌≡◌, Bool, true, false, List, [], ◌∷◌, Option, Some, None, IsTrue, refl, subst}
use Rattle.std.specs.List.{list_all, AllByRecursion}
use Rattle.std.specs.Option.{option_map_or}
use Rattle.std.proofs.lemmas.Bool.{and_parts}
use Rattle.grid_model.specs.Names.{Text, Path, same_text}
use Rattle.grid_model.specs.Grid.{Thing, Triple, object_at, collection_at, resource_named, user_named}
use Rattle.grid_model.specs.PathTexts.{path_of, path_place}
use Rattle.grid_model.specs.Operations.Table.{Operation, mkdir, rmdir, mv, repl, chksum, trim, rm, addmeta, rmmeta, chmod}
use Rattle.grid_model.specs.Services.{Service, ServiceOfThing, ServiceReading, no_path, on_path, operation, service, services, thing_words, word_in}
use Rattle.grid_model.specs.Services.{level_words, reads_access, reads_copy, reads_nop, reads_path, reads_paths, reads_place, reads_triple}
use Rattle.grid_model.specs.Writable.{is_word}
use Rattle.grid_model.specs.declared.calls.Call.{Call}
use Rattle.grid_model.specs.declared.grid.Level.{Level}
use Rattle.plan_service.specs.ServicePlans.{AddsWords}

-- what is found in a list of words is as each of its entries
found_in : {A : Type 0} (P : A → Type 0) (ws : List (Text × A)) → AllByRecursion (λ (w : Text × A). P w.1) ws → (t : Text) (x : A) → word_in ws t ≡ Some x → P x
found_in P [] all t x e = absurd cc
found_in P (w ∷ ws) all t x e = by (same_text w.0 t) (found_in P ws all.1 t x) e
  where
    by : (b : Bool) → (word_in ws t ≡ Some x → P x) → elim b [ true ↦ Some w.1 | false ↦ word_in ws t ] ≡ Some x → P x
    by true later here = let same : w.1 ≡ x = cc in subst P same all.0
    by false later here = later here

-- at whatever path the text spells
adds_on_path : (t : Text) (f : Path → Service) → ((p : Path) → AddsWords (Some (f p))) → AddsWords (Some (on_path t f))
adds_on_path t f all = by (path_of t)
  where
    by : (found : Option Path) → AddsWords (Some (option_map_or f found (no_path (path_place t))))
    by None = tt
    by (Some p) = all p

-- ---- each reading

abbrev AddsThem : ServiceReading → Type 0
AddsThem reads = (args : List Text) → IsTrue (list_all is_word args) → AddsWords (reads args)

by_nop : AddsThem reads_nop
by_nop [] words = tt
by_nop (a ∷ args) words = tt

by_path : (f : Path → Operation) → ((p : Path) → AddsWords (Some (operation (f p)))) → AddsThem (reads_path f)
by_path f none [] words = tt
by_path f none (p ∷ []) words = adds_on_path p (λ q. operation (f q)) none
by_path f none (p ∷ q ∷ args) words = tt

by_paths : (f : Path → Path → Operation) → ((p q : Path) → AddsWords (Some (operation (f p q)))) → AddsThem (reads_paths f)
by_paths f none [] words = tt
by_paths f none (a ∷ []) words = tt
by_paths f none (a ∷ b ∷ []) words = adds_on_path a (λ p. on_path b (λ q. operation (f p q))) (λ p. adds_on_path b (λ q. operation (f p q)) (none p))
by_paths f none (a ∷ b ∷ c ∷ args) words = tt

by_place : (f : Path → Text → Operation) → ((p : Path) (r : Text) → AddsWords (Some (operation (f p r)))) → AddsThem (reads_place f)
by_place f none [] words = tt
by_place f none (p ∷ []) words = tt
by_place f none (p ∷ r ∷ []) words = adds_on_path p (λ q. operation (f q r)) (λ q. none q r)
by_place f none (p ∷ r ∷ x ∷ args) words = tt

by_copy : AddsThem reads_copy
by_copy [] words = tt
by_copy (a ∷ []) words = tt
by_copy (a ∷ b ∷ []) words = tt
by_copy (a ∷ b ∷ r ∷ []) words = adds_on_path a _ (λ p. adds_on_path b _ (λ q. tt))
by_copy (a ∷ b ∷ r ∷ x ∷ args) words = tt

by_access : AddsThem reads_access
by_access [] words = tt
by_access (w ∷ []) words = tt
by_access (w ∷ n ∷ []) words = tt
by_access (w ∷ n ∷ p ∷ []) words = by (word_in level_words w)
  where
    by : (found : Option Level) → AddsWords (option_map_or (λ level. Some (on_path p (λ q. operation (chmod level n q)))) found None)
    by None = tt
    by (Some level) = adds_on_path p _ (λ q. tt)
by_access (w ∷ n ∷ p ∷ x ∷ args) words = tt

-- ---- of a thing

abbrev AddsThing : ServiceOfThing → Type 0
AddsThing of = (name : Text) (f : Thing → Service) → ((thing : Thing) → AddsWords (Some (f thing))) → AddsWords (Some (of name f))

all_things : AllByRecursion (λ (w : Text × ServiceOfThing). AddsThing w.1) thing_words
all_things = (
  λ name f all. adds_on_path name _ (λ p. all (object_at p)),
  (λ name f all. adds_on_path name _ (λ p. all (collection_at p)), (λ name f all. all (resource_named name), (λ name f all. all (user_named name), tt))),
)

-- three texts that are said of a thing
abbrev said : Thing → Text → Text → Text → Triple
said thing a v u = record { of = thing; attribute = a; value = v; unit = u }

by_thing : (f : Triple → Operation) (word name a v u : Text) → ((thing : Thing) → AddsWords (Some (operation (f (said thing a v u)))))
    → AddsWords (reads_triple f (word ∷ name ∷ a ∷ v ∷ u ∷ []))
by_thing f word name a v u all = by (word_in thing_words word) (found_in AddsThing thing_words all_things word)
  where
    by : (found : Option ServiceOfThing) → ((of : ServiceOfThing) → found ≡ Some of → AddsThing of)
        → AddsWords (option_map_or (λ of. Some (of name (λ thing. operation (f (said thing a v u))))) found None)
    by None known = tt
    by (Some of) known = known of refl name (λ thing. operation (f (said thing a v u))) all

by_triple : (f : Triple → Operation)
    → ((thing : Thing) (a v u : Text) → IsTrue (is_word a) → IsTrue (is_word v) → IsTrue (is_word u) → AddsWords (Some (operation (f (said thing a v u)))))
    → AddsThem (reads_triple f)
by_triple f adds [] words = tt
by_triple f adds (w ∷ []) words = tt
by_triple f adds (w ∷ n ∷ []) words = tt
by_triple f adds (w ∷ n ∷ a ∷ []) words = tt
by_triple f adds (w ∷ n ∷ a ∷ v ∷ []) words = tt
by_triple f adds (w ∷ n ∷ a ∷ v ∷ u ∷ []) words =
    let named = and_parts (is_word w) (list_all is_word (n ∷ a ∷ v ∷ u ∷ [])) words in
    let attribute = and_parts (is_word n) (list_all is_word (a ∷ v ∷ u ∷ [])) named.1 in
    let value = and_parts (is_word a) (list_all is_word (v ∷ u ∷ [])) attribute.1 in
    let unit = and_parts (is_word v) (list_all is_word (u ∷ [])) value.1 in
    let end = and_parts (is_word u) true unit.1 in
    by_thing f w n a v u (λ thing. adds thing a v u value.0 unit.0 end.0)
by_triple f adds (w ∷ n ∷ a ∷ v ∷ u ∷ x ∷ args) words = tt

-- ---- all

all_services : AllByRecursion (λ (w : Text × ServiceReading). AddsThem w.1) services
all_services = (
  by_nop,
  (
    by_path mkdir (λ p. tt),
    (
      by_path rmdir (λ p. tt),
      (
        by_paths mv (λ p q. tt),
        (
          by_place repl (λ p r. tt),
          (
            by_path chksum (λ p. tt),
            (
              by_copy,
              (
                by_place trim (λ p r. tt),
                (
                  by_path rm (λ p. tt),
                  (
                    by_triple addmeta (λ thing a v u attribute value unit. (attribute, value, unit)),
                    (by_triple rmmeta (λ thing a v u attribute value unit. tt), (by_access, tt)),
                  ),
                ),
              ),
            ),
          ),
        ),
      ),
    ),
  ),
)

pub adds_words : (call : Call) → IsTrue (list_all is_word call.args) → AddsWords (service call)
adds_words call words = by (word_in services call.name) (found_in AddsThem services all_services call.name)
  where
    by : (found : Option ServiceReading) → ((reads : ServiceReading) → found ≡ Some reads → AddsThem reads) → AddsWords (option_map_or (λ reads. reads call.args) found None)
    by None known = tt
    by (Some reads) known = known reads refl call.args words
