-- Entries that are put into the access of a grid one after another, for users with names of their own at one path.
use Rattle.std.proofs.Common.{◌≡◌, ℕ, Bool, true, false, cond, List, [], ◌∷◌, ◌++◌, Option, Some, None, refl, sym, ap, ◌∙◌}
use Rattle.std.specs.Prelude.{find, map, option_map, ◌&&◌}
use Rattle.grid_model.specs.Maps.{get, put}
use Rattle.grid_model.specs.Names.{Text, Path, same_path, same_text}
use Rattle.grid_model.specs.Operations.Common.{Access}
use Rattle.grid_model.specs.declared.deltas.EntryRow.{EntryRow}
use Rattle.grid_model.specs.declared.grid.ItemKind.{ItemKind}
use Rattle.grid_model.specs.declared.grid.Level.{Level}
use Rattle.grid_model.proofs.Comparing.{same_text-Decides}
use Rattle.grid_model.proofs.MapLemmas.{get-put}
use Rattle.tables_laws.proofs.Rows.{IsIn, in_from_find}
use Rattle.tables_laws.proofs.GridOrders.{access_cmp_total}
use Rattle.plan_base.proofs.Sizes.{Apart}
use Rattle.plan_base.proofs.RaisedAccess.{eq-access}

abbrev pub or_else : {X : Type 0} → Option X → Option X → Option X
or_else (Some x) other = Some x
or_else None other = other

picked : {X : Type 0} (b t : Bool) (f v : Option X) (l : X) → (t ≡ true → f ≡ None) → cond b (or_else f (cond (b && t) (Some l) v)) (cond (b && t) (Some l) v) ≡ cond b (or_else (cond t (Some l) f) v) v
picked true true f v l none = ap (λ o. or_else o (Some l)) (none refl)
picked true false f v l none = refl
picked false t f v l none = refl

mapped : {X Y : Type 0} (g : X → Y) (t : Bool) (x : X) (f : Option X) → option_map g (cond t (Some x) f) ≡ cond t (Some (g x)) (option_map g f)
mapped g true x f = refl
mapped g false x f = refl

same_turned : (m n : Text) → same_text m n ≡ same_text n m
same_turned m n = by (same_text m n) (same_text n m) refl refl
  where
    by : (a b : Bool) → same_text m n ≡ a → same_text n m ≡ b → same_text m n ≡ same_text n m
    by true b a_is b_is = a_is ∙ sym ((same_text-Decides n m).1 (sym ((same_text-Decides m n).0 a_is)))
    by false true a_is b_is = (same_text-Decides m n).1 (sym ((same_text-Decides n m).0 b_is)) ∙ sym b_is
    by false false a_is b_is = a_is ∙ sym b_is

module _ (p : Path) (named : ℕ → Text) where
  -- the access with these entries at the path
  abbrev pub puts : Access → List EntryRow → Access
  puts a [] = a
  puts a (e ∷ es) = puts (put a (p, named e.user) e.level) es

  -- what the entries give a name
  abbrev pub level_for : List EntryRow → Text → Option Level
  level_for es n = option_map (λ e. e.level) (find (λ e. same_text (named e.user) n) es)

  -- entries for other names give it nothing
  none_for : (es : List EntryRow) (m n : Text) → ((x : EntryRow) → IsIn es x → named x.user ≡ m → ⊥) → m ≡ n → level_for es n ≡ None
  none_for es m n apart same = by (find (λ e. same_text (named e.user) n) es) refl
    where
      by : (o : Option EntryRow) → find (λ e. same_text (named e.user) n) es ≡ o → option_map (λ (e : EntryRow). e.level) o ≡ None
      by None is = refl
      by (Some x) is = let found = in_from_find (λ (e : EntryRow). same_text (named e.user) n) es x is in absurd (apart x found.0 ((same_text-Decides (named x.user) n).0 found.1 ∙ sym same))

  pub get-puts : (es : List EntryRow) → Apart (λ (e : EntryRow). named e.user) es → (a : Access) (q : Path) (n : Text) → get (puts a es) (q, n) ≡ cond (same_path q p) (or_else (level_for es n) (get a (q, n))) (get a (q, n))
  get-puts [] apart a q n = elim (same_path q p) as (λ b. get a (q, n) ≡ cond b (get a (q, n)) (get a (q, n))) [ true ↦ refl | false ↦ refl ]
  get-puts (e ∷ es) apart a q n =
      get-puts es apart.1 (put a (p, named e.user) e.level) q n
      ∙ ap (λ v. cond (same_path q p) (or_else (level_for es n) v) v) (get-put access_cmp_total a (p, named e.user) e.level (q, n) ∙ ap (λ b. cond b (Some e.level) (get a (q, n))) (eq-access q p n (named e.user)))
      ∙ picked (same_path q p) (same_text n (named e.user)) (level_for es n) (get a (q, n)) e.level (λ is. none_for es (named e.user) n apart.0 (sym ((same_text-Decides n (named e.user)).0 is)))
      ∙ ap (λ v. cond (same_path q p) (or_else v (get a (q, n))) (get a (q, n)))
      (ap (λ b. cond b (Some e.level) (level_for es n)) (same_turned n (named e.user)) ∙ sym (mapped (λ (x : EntryRow). x.level) (same_text (named e.user) n) e (find (λ x. same_text (named x.user) n) es)))

  -- entries of another item give the same names the same levels
  pub puts-handed : (k : ItemKind) (id : ℕ) (es : List EntryRow) (a : Access) → puts a (map (λ (e : EntryRow). record e { kind = k; id = id }) es) ≡ puts a es
  puts-handed k id [] a = refl
  puts-handed k id (e ∷ es) a = puts-handed k id es (put a (p, named e.user) e.level)

  pub puts-then : (es : List EntryRow) (x : EntryRow) (a : Access) → puts a (es ++ x ∷ []) ≡ put (puts a es) (p, named x.user) x.level
  puts-then [] x a = refl
  puts-then (e ∷ es) x a = puts-then es x (put a (p, named e.user) e.level)
