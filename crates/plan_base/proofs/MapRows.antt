-- The entries of the map of a table's rows, and of those that a test keeps.
use Rattle.std.proofs.Common.{◌≡◌, Bool, true, false, cond, List, [], ◌∷◌, Option, Some, None, refl, sym, ap, ◌∙◌}
use Rattle.std.specs.Prelude.{find, filter, map, option_map, T, ◌||◌}
use Rattle.std.specs.List.{list_any}
use Rattle.std.specs.declared.cmp.Ordering.{Ordering}
use Rattle.std.specs.Ordering.{eq_by_cmp}
use Rattle.std.specs.Cmp.{IsTotalOrder, both_ways}
use Rattle.std.specs.FinMap.{IsAntisymmetric, find as find_entry, is_sorted}
use Rattle.std.specs.FinMap.Entries.{is_sorted-where_key, find-where_key}
use Rattle.grid_model.specs.Maps.{Map, get, from_list, if_sorted}
use Rattle.grid_model.specs.MapLists.{keep, keys}
use Rattle.grid_model.proofs.Comparing.{eq_by_cmp-Decides}
use Rattle.grid_model.proofs.MapLemmas.{same_map}
use Rattle.tables_laws.proofs.Rows.{IsIn, in_from_any, any_from_in, in_from_find, in_from_filter}
use Rattle.tables_laws.proofs.RowLists.{find-filter}
use Rattle.tables_laws.proofs.TableMaps.{entries_of, get-rows}
use Rattle.grid_access.proofs.MapEntries.{row_of_entry, entry_of_row}

pub any-map : {X Y : Type 0} (f : X → Y) (p : Y → Bool) (xs : List X) → list_any p (map f xs) ≡ list_any (λ x. p (f x)) xs
any-map f p [] = refl
any-map f p (x ∷ xs) = ap (λ b. p (f x) || b) (any-map f p xs)

module _ {K V : Type 0} {R : K → K → Ordering} (o : IsTotalOrder R) (same : IsAntisymmetric R) where
  entries_kept : (es : List (K × V)) (b : Bool) (e : is_sorted R es ≡ b) (m : Map R V) → T b → (if_sorted es b e m).entries ≡ es
  entries_kept es true e m h = refl
  entries_kept es false e m h = absurd h

  pub get-keep : (f : K → Bool) (m : Map R V) (q : K) → get (keep (λ k _. f k) m) q ≡ cond (f q) (get m q) None
  get-keep f m q =
      ap (find_entry R q) (entries_kept (filter (λ e. f e.0) m.entries) _ refl m (is_sorted-where_key R f m.entries m.sorted))
      ∙ find-where_key R f q (λ x tied. ap f (sym (same q x tied))) m.entries

  module _ {X : Type 0} (key : X → K) (value : X → V) where
    -- some entry passes where some row does, where no two rows have one key
    pub any-entries : (f : K × V → Bool) (rows : List X) → ((x y : X) → IsIn rows x → IsIn rows y → key x ≡ key y → x ≡ y)
        → list_any f (from_list {R = R} (entries_of key value rows)).entries ≡ list_any (λ x. f (key x, value x)) rows
    any-entries f rows alone = both_ways _ _
        (λ e. let found = in_from_any f (from_list {R = R} (entries_of key value rows)).entries e in
        let x = row_of_entry o same key value rows found.0 found.1 in
        any_from_in (λ x. f (key x, value x)) rows x.0 x.1 ((λ i. f (x.2 i, x.3 i)) ∙ found.2))
        (λ e. let x = in_from_any (λ x. f (key x, value x)) rows e in
        let found = entry_of_row o same key value rows x.0 x.1 (λ y there is. alone y x.0 there x.1 is) in
        any_from_in f (from_list {R = R} (entries_of key value rows)).entries found.0 found.1 ((λ i. f (sym found.2 i, sym found.3 i)) ∙ x.2))

    pub any-keys : (f : K → Bool) (rows : List X) → ((x y : X) → IsIn rows x → IsIn rows y → key x ≡ key y → x ≡ y)
        → list_any f (keys (from_list {R = R} (entries_of key value rows))) ≡ list_any (λ x. f (key x)) rows
    any-keys f rows alone = any-map (λ (e : K × V). e.0) f (from_list {R = R} (entries_of key value rows)).entries ∙ any-entries (λ e. f e.0) rows alone

    -- the map of the rows that a test keeps
    pub from_list-kept : (rows : List X) (kept : X → Bool) (f : K → Bool) → ((x : X) → IsIn rows x → kept x ≡ f (key x))
        → from_list {R = R} (entries_of key value (filter kept rows)) ≡ keep (λ k _. f k) (from_list (entries_of key value rows))
    from_list-kept rows kept f tells =
        same_map o same (from_list {R = R} (entries_of key value (filter kept rows))) (keep (λ k _. f k) (from_list (entries_of key value rows))) (λ q.
        get-rows o key value (filter kept rows) q ∙ by q (f q) refl ∙ ap (λ (v : Option V). cond (f q) v None) (sym (get-rows o key value rows q)) ∙ sym (get-keep f (from_list (entries_of key value rows)) q))
      where
        tied : (x : X) (q : K) → eq_by_cmp R (key x) q ≡ true → key x ≡ q
        tied x q e = (eq_by_cmp-Decides o same (key x) q).0 e

        by : (q : K) (b : Bool) → f q ≡ b → option_map value (find (λ x. eq_by_cmp R (key x) q) (filter kept rows)) ≡ cond (f q) (option_map value (find (λ x. eq_by_cmp R (key x) q) rows)) None
        by q true is =
            ap (option_map value) (find-filter (λ x. eq_by_cmp R (key x) q) kept rows (λ x here dropped. untied x q here dropped (eq_by_cmp R (key x) q) refl))
            ∙ ap (λ b. cond b (option_map value (find (λ x. eq_by_cmp R (key x) q) rows)) None) (sym is)
          where
            untied : (x : X) (p : K) → IsIn rows x → kept x ≡ false → (b : Bool) → eq_by_cmp R (key x) q ≡ b → eq_by_cmp R (key x) q ≡ false
            untied x p here dropped true e = let wrong : kept x ≡ true = tells x here ∙ ap f (tied x q e) ∙ is in absurd cc
            untied x p here dropped false e = e
        by q false is = none (find (λ x. eq_by_cmp R (key x) q) (filter kept rows)) refl ∙ ap (λ b. cond b (option_map value (find (λ x. eq_by_cmp R (key x) q) rows)) None) (sym is)
          where
            none : (t : Option X) → find (λ x. eq_by_cmp R (key x) q) (filter kept rows) ≡ t → option_map value t ≡ None
            none None e = refl
            none (Some x) e =
                let found = in_from_find (λ y. eq_by_cmp R (key y) q) (filter kept rows) x e in
                let its = in_from_filter kept rows x found.0 in
                let wrong : f q ≡ true = ap f (sym (tied x q found.1)) ∙ sym (tells x its.0) ∙ its.1 in
                absurd cc
