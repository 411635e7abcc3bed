-- Lists that are joined: their members, and what a test keeps of them.
use Rattle.std.proofs.Common.{◌≡◌, ◌⊎◌, ◌<◌, ◌+◌, ℕ, zero, suc, Bool, true, false, cond, List, [], ◌∷◌, ◌++◌, length, get_or, drop, map, inl, inr, refl, sym, ap, subst, ◌∙◌, append_assoc, arith}
use Rattle.std.specs.Prelude.{filter, flat_map, ◌&&◌, ◌||◌}
use Rattle.std.specs.List.{list_all, list_any}
use Rattle.std.proofs.lemmas.List.{at_drop_more}
use Rattle.std.proofs.lemmas.List.Folds.{list_all-append, list_all-map, list_any-append}
use Rattle.grid_model.specs.Names.{Text}
use Rattle.grid_model.specs.QueryRows.{columns_named}
use Rattle.grid_model.specs.declared.queries.Query.{Query}
use Rattle.grid_model.specs.declared.queries.Cond.{Cond}
use Rattle.grid_model.specs.declared.queries.Column.{Column}
use Rattle.tables_laws.proofs.Rows.{IsIn}
use Rattle.query_run.specs.Shown.{rows_if}

-- ---- members

module _ {X : Type 0} where
  in_append : (xs ys : List X) (x : X) → IsIn (xs ++ ys) x → IsIn xs x ⊎ IsIn ys x
  in_append [] ys x here = inr here
  in_append (y ∷ xs) ys x (inl is) = inl (inl is)
  in_append (y ∷ xs) ys x (inr later) = elim (in_append xs ys x later) [ inl first ↦ inl (inr first) | inr second ↦ inr second ]

  append_first : (xs ys : List X) (x : X) → IsIn xs x → IsIn (xs ++ ys) x
  append_first [] ys x here = absurd here
  append_first (y ∷ xs) ys x (inl is) = inl is
  append_first (y ∷ xs) ys x (inr later) = inr (append_first xs ys x later)

  append_second : (xs ys : List X) (x : X) → IsIn ys x → IsIn (xs ++ ys) x
  append_second [] ys x here = here
  append_second (y ∷ xs) ys x here = inr (append_second xs ys x here)

module _ {X Y : Type 0} (f : X → List Y) where
  -- what stands in lists that are joined stands in one of them
  pub in_from_flat : (xs : List X) (y : Y) → IsIn (flat_map f xs) y → (x : X) × IsIn xs x × IsIn (f x) y
  in_from_flat [] y here = absurd here
  in_from_flat (x ∷ xs) y here = elim (in_append (f x) (flat_map f xs) y here) [
    | inl first ↦ (x, inl refl, first)
    | inr later ↦ let found = in_from_flat xs y later in (found.0, inr found.1, found.2)
  ]

  pub flat_from_in : (xs : List X) (x : X) (y : Y) → IsIn xs x → IsIn (f x) y → IsIn (flat_map f xs) y
  flat_from_in [] x y here there = absurd here
  flat_from_in (a ∷ xs) x y (inl is) there = append_first (f a) (flat_map f xs) y (subst (λ z. IsIn (f z) y) (sym is) there)
  flat_from_in (a ∷ xs) x y (inr later) there = append_second (f a) (flat_map f xs) y (flat_from_in xs x y later there)

-- ---- joined lists

module _ {X Y Z : Type 0} where
  pub flat-map : (f : Y → List Z) (k : X → Y) (xs : List X) → flat_map f (map k xs) ≡ flat_map (λ x. f (k x)) xs
  flat-map f k [] = refl
  flat-map f k (x ∷ xs) = ap (λ (zs : List Z). f (k x) ++ zs) (flat-map f k xs)

-- ---- what a test keeps

module _ {X : Type 0} (p : X → Bool) (f : X → List Text) where
  -- what f gives of those that pass
  abbrev pub kept : List X → List (List Text)
  kept xs = map f (filter p xs)

  kept_more : (b : Bool) (x : X) (xs : List X) → map f (cond b (x ∷ xs) xs) ≡ rows_if b (f x ∷ []) ++ map f xs
  kept_more true x xs = refl
  kept_more false x xs = refl

  kept-append : (xs ys : List X) → kept (xs ++ ys) ≡ kept xs ++ kept ys
  kept-append [] ys = refl
  kept-append (x ∷ xs) ys =
      kept_more (p x) x (filter p (xs ++ ys)) ∙ ap (λ (rows : List (List Text)). rows_if (p x) (f x ∷ []) ++ rows) (kept-append xs ys)
      ∙ sym (append_assoc (rows_if (p x) (f x ∷ [])) (kept xs) (kept ys)) ∙ ap (λ (rows : List (List Text)). rows ++ kept ys) (sym (kept_more (p x) x (filter p xs)))

  -- of lists that are joined
  pub kept-flat : {W : Type 0} (h : W → List X) (ws : List W) → kept (flat_map h ws) ≡ flat_map (λ w. kept (h w)) ws
  kept-flat h [] = refl
  kept-flat h (w ∷ ws) = kept-append (h w) (flat_map h ws) ∙ ap (λ (rows : List (List Text)). kept (h w) ++ rows) (kept-flat h ws)

  -- of what h gives of each
  pub kept-map : {W : Type 0} (h : W → X) (ws : List W) → kept (map h ws) ≡ flat_map (λ w. rows_if (p (h w)) (f (h w) ∷ [])) ws
  kept-map h [] = refl
  kept-map h (w ∷ ws) = kept_more (p (h w)) (h w) (filter p (map h ws)) ∙ ap (λ (rows : List (List Text)). rows_if (p (h w)) (f (h w) ∷ []) ++ rows) (kept-map h ws)

-- ---- rows under a test

pub only-and : (a b : Bool) (rows : List (List Text)) → rows_if (a && b) rows ≡ rows_if a (rows_if b rows)
only-and true b rows = refl
only-and false b rows = refl

abbrev no_rows : List (List Text)
no_rows = []

flat-none : {W : Type 0} (ws : List W) → flat_map (λ (w : W). no_rows) ws ≡ []
flat-none [] = refl
flat-none (w ∷ ws) = flat-none ws

-- a test that is the same for all
pub flat-rows_if : {W : Type 0} (b : Bool) (h : W → List (List Text)) (ws : List W) → flat_map (λ w. rows_if b (h w)) ws ≡ rows_if b (flat_map h ws)
flat-rows_if true h ws = refl
flat-rows_if false h ws = flat-none ws

-- ---- the columns that a query names

any-map : {X Y : Type 0} (p : Y → Bool) (f : X → Y) (xs : List X) → list_any p (map f xs) ≡ list_any (λ x. p (f x)) xs
any-map p f [] = refl
any-map p f (x ∷ xs) = ap (λ b. p (f x) || b) (any-map p f xs)

pub any_named : (p : Column → Bool) (q : Query) → list_any p (columns_named q) ≡ (list_any p q.columns || list_any (λ cond. p cond.column) q.conds)
any_named p q =
    list_any-append p q.columns (map (λ (c : Cond). c.column) q.conds) ∙ ap (λ b. list_any p q.columns || b) (any-map p (λ (c : Cond). c.column) q.conds)

pub all_named : (p : Column → Bool) (q : Query) → list_all p (columns_named q) ≡ (list_all p q.columns && list_all (λ cond. p cond.column) q.conds)
all_named p q =
    list_all-append p q.columns (map (λ (c : Cond). c.column) q.conds) ∙ ap (λ b. list_all p q.columns && b) (list_all-map p (λ (c : Cond). c.column) q.conds)

pub any_first : (p : Column → Bool) (q : Query) (b : Bool) → b ≡ list_any p q.columns → b ≡ true → b ≡ list_any p (columns_named q)
any_first p q b is so = so ∙ sym (any_named p q ∙ ap (λ x. x || list_any (λ (cond : Cond). p cond.column) q.conds) (sym is ∙ so))

pub any_then : (p : Column → Bool) (q : Query) (b d : Bool) → b ≡ list_any p q.columns → b ≡ false → d ≡ list_any (λ cond. p cond.column) q.conds → d ≡ list_any p (columns_named q)
any_then p q b d is none also = also ∙ sym (any_named p q ∙ ap (λ x. x || list_any (λ (cond : Cond). p cond.column) q.conds) (sym is ∙ none))

pub all_first : (p : Column → Bool) (q : Query) (b : Bool) → b ≡ list_all p q.columns → b ≡ false → b ≡ list_all p (columns_named q)
all_first p q b is so = so ∙ sym (all_named p q ∙ ap (λ x. x && list_all (λ (cond : Cond). p cond.column) q.conds) (sym is ∙ so))

pub all_then : (p : Column → Bool) (q : Query) (b d : Bool) → b ≡ list_all p q.columns → b ≡ true → d ≡ list_all (λ cond. p cond.column) q.conds → d ≡ list_all p (columns_named q)
all_then p q b d is some also = also ∙ sym (all_named p q ∙ ap (λ x. x && list_all (λ (cond : Cond). p cond.column) q.conds) (sym is ∙ some))

-- ---- a loop

-- what stands at a place stands in the list
pub in_at : {X : Type 0} (xs : List X) (i : ℕ) (d : X) → i < length xs → IsIn xs (get_or xs i d)
in_at [] i d within = absurd (omega (arith, within))
in_at (x ∷ xs) zero d within = inl refl
in_at (x ∷ xs) (suc i) d within = inr (in_at xs i d (omega (arith, within)))

module _ {X Y : Type 0} (f : X → List Y) (xs : List X) (i : ℕ) where
  -- once what f gives of the next is added, what is there and what the others give is what it was
  pub flat_turn : (x : X) (old new total : List Y) → i < length xs → x ≡ get_or xs i x → old ++ flat_map f (drop i xs) ≡ total → new ≡ old ++ f x → new ++ flat_map f (drop (i + 1) xs) ≡ total
  flat_turn x old new total within is was added =
      ap (λ (ys : List Y). ys ++ flat_map f (drop (i + 1) xs)) (added ∙ ap (λ y. old ++ f y) is)
      ∙ append_assoc old (f (get_or xs i x)) (flat_map f (drop (i + 1) xs))
      ∙ ap (λ (ys : List Y). old ++ ys) (sym (at_drop_more (flat_map f) xs i x within)) ∙ was
