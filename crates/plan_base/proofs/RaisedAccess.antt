-- What the access of a grid answers once an item was made: own for the maker, what is handed on for others, and elsewhere what it was.
use Rattle.std.proofs.Common.{◌≡◌, Bool, true, false, cond, List, [], ◌∷◌, Option, Some, None, refl, sym, ap, ◌∙◌}
use Rattle.std.specs.Prelude.{map, filter, unwrap_or, ◌&&◌, T}
use Rattle.std.specs.declared.cmp.Ordering.{Ordering}
use Rattle.std.specs.declared.cmp.Ordering.TheVariants.{Less, Equal, Greater}
use Rattle.std.specs.Ordering.{eq_by_cmp, is_eq, is_lt, ordering_then}
use Rattle.std.specs.FinMap.Entries.{find, below_all, is_sorted}
use Rattle.grid_model.specs.Maps.{get}
use Rattle.grid_model.specs.Names.{Text, Path, path_cmp, text_cmp, same_path, same_text}
use Rattle.grid_model.specs.Grid.{Grid, access_cmp}
use Rattle.grid_model.specs.Levels.{greater_level}
use Rattle.grid_model.specs.Operations.Common.{Access, raise_all, entries_at, inherits, handed_on, with_new_item}
use Rattle.grid_model.specs.declared.grid.Level.{Level}
use Rattle.grid_model.specs.declared.grid.Level.TheVariants.{Null, Read, Write, Own}
use Rattle.grid_model.proofs.Comparing.{same_path-Decides, same_path-self, other_path}
use Rattle.grid_model.proofs.MapLemmas.{get-put}
use Rattle.tables_laws.proofs.GridOrders.{access_cmp_total}

-- ---- keys

eq-then : (a b : Ordering) → is_eq (ordering_then a b) ≡ (is_eq a && is_eq b)
eq-then Less b = refl
eq-then Equal b = refl
eq-then Greater b = refl

-- an item and a name are looked at by themselves
pub eq-access : (a b : Path) (m n : Text) → eq_by_cmp access_cmp (a, m) (b, n) ≡ (same_path a b && same_text m n)
eq-access a b m n = eq-then (path_cmp a b) (text_cmp m n)

-- ---- levels

greater-null : (l : Level) → greater_level l Null ≡ l
greater-null Null = refl
greater-null Read = refl
greater-null Write = refl
greater-null Own = refl

greater-own : (l : Level) → greater_level Own l ≡ Own
greater-own Null = refl
greater-own Read = refl
greater-own Write = refl
greater-own Own = refl

-- ---- levels that are raised at a path which had no entry

-- the level that these give a name
abbrev given : List (Text × Level) → Text → Option Level
given [] n = None
given (e ∷ es) n = cond (same_text n e.0) (Some (greater_level e.1 (unwrap_or (given es e.0) Null))) (given es n)

pub nested : {X : Type 0} (b d : Bool) (x y z : X) → cond (b && d) x (cond b y z) ≡ cond b (cond d x y) z
nested true true x y z = refl
nested true false x y z = refl
nested false d x y z = refl

module _ (a : Access) (p : Path) (empty : (n : Text) → get a (p, n) ≡ None) where
  get-raise_all : (es : List (Text × Level)) (q : Path) (n : Text) → get (raise_all a p es) (q, n) ≡ cond (same_path q p) (given es n) (get a (q, n))
  get-raise_all [] q n = elim (same_path q p) as (λ b. same_path q p ≡ b → get a (q, n) ≡ cond b None (get a (q, n))) [
    | true ↦ λ is. ap (λ (x : Path). get a (x, n)) ((same_path-Decides q p).0 is) ∙ empty n
    | false ↦ λ is. refl
  ] refl
  get-raise_all (e ∷ es) q n =
      let own : get (raise_all a p es) (p, e.0) ≡ given es e.0 = get-raise_all es p e.0 ∙ ap (λ b. cond b (given es e.0) (get a (p, e.0))) (same_path-self p) in
      get-put access_cmp_total (raise_all a p es) (p, e.0) (greater_level e.1 (unwrap_or (get (raise_all a p es) (p, e.0)) Null)) (q, n)
      ∙ ap (λ b. cond b (Some (greater_level e.1 (unwrap_or (get (raise_all a p es) (p, e.0)) Null))) (get (raise_all a p es) (q, n))) (eq-access q p n e.0)
      ∙ ap (λ v. cond (same_path q p && same_text n e.0) (Some (greater_level e.1 (unwrap_or v Null))) (get (raise_all a p es) (q, n))) own
      ∙ ap (λ v. cond (same_path q p && same_text n e.0) (Some (greater_level e.1 (unwrap_or (given es e.0) Null))) v) (get-raise_all es q n)
      ∙ nested (same_path q p) (same_text n e.0) (Some (greater_level e.1 (unwrap_or (given es e.0) Null))) (given es n) (get a (q, n))

-- ---- what is handed on

find-later : (k : Path × Text) (es : List ((Path × Text) × Level)) → T (below_all access_cmp k es) → find access_cmp k es ≡ None
find-later k [] h = refl
find-later k (e ∷ es) h =
    elim (access_cmp k e.0) as (λ o. T (is_lt o && below_all access_cmp k es) → cond (is_eq o) (Some e.1) (find access_cmp k es) ≡ None) [
      | Less ↦ λ rest. find-later k es rest
      | Equal ↦ λ wrong. absurd wrong
      | Greater ↦ λ wrong. absurd wrong
    ] h

both_hold : (a b : Bool) → T (a && b) → T a × T b
both_hold true b h = (tt, h)
both_hold false b h = absurd h

module _ (above : Path) where
  abbrev at : List ((Path × Text) × Level) → List (Text × Level)
  at es = map (λ e. (e.0.1, e.1)) (filter (λ e. same_path e.0.0 above) es)

  -- an item gives each name what the map has
  given-at : (es : List ((Path × Text) × Level)) → T (is_sorted access_cmp es) → (n : Text) → given (at es) n ≡ find access_cmp (above, n) es
  given-at [] sorted n = refl
  given-at (e ∷ es) sorted n =
      let parts = both_hold (below_all access_cmp e.0 es) (is_sorted access_cmp es) sorted in
      by parts.0 (given-at es parts.1) (same_path e.0.0 above) refl
    where
      by : T (below_all access_cmp e.0 es) → ((m : Text) → given (at es) m ≡ find access_cmp (above, m) es) → (b : Bool) → same_path e.0.0 above ≡ b
          → given (map (λ (x : (Path × Text) × Level). (x.0.1, x.1)) (cond b (e ∷ filter (λ x. same_path x.0.0 above) es) (filter (λ x. same_path x.0.0 above) es))) n ≡ cond (eq_by_cmp access_cmp (above, n) e.0) (Some e.1) (find access_cmp (above, n) es)
      by below later true is =
          let same : above ≡ e.0.0 = sym ((same_path-Decides e.0.0 above).0 is) in
          let none : given (at es) e.0.1 ≡ None = later e.0.1 ∙ ap (λ (x : Path). find access_cmp (x, e.0.1) es) same ∙ find-later e.0 es below in
          let tests : eq_by_cmp access_cmp (above, n) e.0 ≡ same_text n e.0.1 = eq-access above e.0.0 n e.0.1 ∙ ap (λ b. b && same_text n e.0.1) ((same_path-Decides above e.0.0).1 same) in
          ap (λ v. cond (same_text n e.0.1) (Some (greater_level e.1 (unwrap_or v Null))) (given (at es) n)) none
          ∙ ap (λ l. cond (same_text n e.0.1) (Some l) (given (at es) n)) (greater-null e.1)
          ∙ ap (λ v. cond (same_text n e.0.1) (Some e.1) v) (later n)
          ∙ ap (λ b. cond b (Some e.1) (find access_cmp (above, n) es)) (sym tests)
      by below later false is =
          let apart : above ≡ e.0.0 → ⊥ = λ same. (let wrong : same_path e.0.0 above ≡ true = (same_path-Decides e.0.0 above).1 (sym same) in cc) in
          let tests : eq_by_cmp access_cmp (above, n) e.0 ≡ false = eq-access above e.0.0 n e.0.1 ∙ ap (λ b. b && same_text n e.0.1) (other_path above e.0.0 apart) in
          later n ∙ ap (λ b. cond b (Some e.1) (find access_cmp (above, n) es)) (sym tests)

module _ (g : Grid) (maker : Text) (above p : Path) (empty : (n : Text) → get g.access (p, n) ≡ None) where
  given-handed : (n : Text) → given (handed_on g above) n ≡ cond (inherits g above) (get g.access (above, n)) None
  given-handed n = elim (inherits g above) as (λ b. given (elim b [ true ↦ entries_at g above | false ↦ [] ]) n ≡ cond b (get g.access (above, n)) None) [
    | true ↦ given-at above g.access.entries g.access.sorted n
    | false ↦ refl
  ]

  pub get-new_item : (q : Path) (n : Text) → get (with_new_item g maker above p) (q, n)
      ≡ cond (same_path q p) (cond (same_text n maker) (Some Own) (cond (inherits g above) (get g.access (above, n)) None)) (get g.access (q, n))
  get-new_item q n =
      get-raise_all g.access p empty ((maker, Own) ∷ handed_on g above) q n
      ∙ ap (λ l. cond (same_path q p) (cond (same_text n maker) (Some l) (given (handed_on g above) n)) (get g.access (q, n))) (greater-own (unwrap_or (given (handed_on g above) maker) Null))
      ∙ ap (λ v. cond (same_path q p) (cond (same_text n maker) (Some Own) v) (get g.access (q, n))) (given-handed n)
