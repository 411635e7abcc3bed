-- Good data on leaves: a leaf that has a replica keeps its number, and each other one gets the next number; a leaf that comes
-- again changes nothing.
use Rattle.std.proofs.Common.{◌≡◌, ◌==◌, ℕ, zero, suc, ◌+◌, ◌^◌, ◌<◌, ◌≤◌, Bool, true, false, List, [], ◌∷◌, ◌++◌, length, map, Option, Some, None, inl, inr, refl, sym, ap, ◌∙◌, subst, arith, eq-eqb, eqb-true}
use Rattle.std.specs.Prelude.{find, is_some, nat_lt, option_map}
use Rattle.std.specs.Option.{option_map_or}
use Rattle.std.specs.List.{list_any, AllByRecursion}
use Rattle.std.specs.Ordering.{nat_cmp}
use Rattle.std.specs.Cmp.{both_ways, nat_cmp_total}
use Rattle.std.specs.FinMap.{nat_cmp-IsAntisymmetric}
use Rattle.std.proofs.lemmas.Bool.{false_from_ne_true}
use Rattle.std.proofs.lemmas.Bool.Decides.{eqb_tells}
use Rattle.std.proofs.lemmas.List.{length-append}
use Rattle.grid_model.specs.Maps.{empty, get, has, put}
use Rattle.grid_model.specs.MapLists.{size}
use Rattle.grid_model.specs.Names.{Text, same_text}
use Rattle.grid_model.specs.Digests.{Digest}
use Rattle.grid_model.specs.Grid.{Replica}
use Rattle.grid_model.specs.Trees.{Replicas}
use Rattle.grid_model.specs.Operations.Objects.{after_greatest, good_on, good_on_all, least_free, new_number, number_on}
use Rattle.grid_model.proofs.Comparing.{eq_by_cmp-Decides, same_text-Decides}
use Rattle.grid_model.proofs.FoundRows.{none_is_found}
use Rattle.tables_laws.proofs.Rows.{IsIn, all_from_in, any_from_in, find_from_in, in_from_any, in_from_find}
use Rattle.tables_laws.proofs.Rekeyed.{in_from_find_entry}
use Rattle.file_laws.specs.Puts.{Target}
use Rattle.file_laws.specs.Rewriting.{NumberedTarget}
use Rattle.plan_base.proofs.MapSizes.{size-put}
use Rattle.plan_object.specs.LeafNumbers.{above_all, first_gap, fresh_number, leaf_number_by, leaf_number_on, more_taken, more_taken_by, with_numbers}
use Rattle.plan_object.specs.declared.numbering.LeafNumber.{LeafNumber}
use Rattle.plan_object.proofs.Leaves.{new_leaves}
use Rattle.plan_object.proofs.NumberMaps.{get_entry, get_here, get_other, put_itself}
use Rattle.plan_object.proofs.Taken.{AreOwn, HasNumber, below_above, fresh_free, has_number, none_own, not_on, pushed}

module _ (len : ℕ) (digest : Digest) (name : ℕ → Text) where
  -- good data on a leaf
  abbrev pub good : ℕ → Replica
  good leaf = record { leaf = name leaf; good = true; size = len; digest = digest }

  -- on each of these, under its number
  abbrev pub puts : Replicas → List NumberedTarget → Replicas
  puts rs [] = rs
  puts rs (t ∷ ts) = puts (put rs t.number (good t.target.leaf)) ts

  -- what stands under other numbers stays, and all else is the same
  pub puts_same : (ts : List NumberedTarget) (m n : Replicas) → ((q : ℕ) → ((t : NumberedTarget) → IsIn ts t → t.number ≡ q → ⊥) → get m q ≡ get n q) → (q : ℕ) → get (puts m ts) q ≡ get (puts n ts) q
  puts_same [] m n alike q = alike q (λ t none. absurd none)
  puts_same (t ∷ ts) m n alike q = puts_same ts (put m t.number (good t.target.leaf)) (put n t.number (good t.target.leaf)) (λ p none. elim (eqb_tells p t.number) [
    | inl is ↦
        ap (get (put m t.number (good t.target.leaf))) is.1 ∙ get_here m t.number (good t.target.leaf) ∙ sym (get_here n t.number (good t.target.leaf))
        ∙ ap (get (put n t.number (good t.target.leaf))) (sym is.1)
    | inr other ↦
        get_other m t.number (good t.target.leaf) p other.1
        ∙ alike p (λ u which same. elim which [ inl is ↦ other.1 (sym same ∙ ap (λ (w : NumberedTarget). w.number) (sym is)) | inr later ↦ none u later same ])
        ∙ sym (get_other n t.number (good t.target.leaf) p other.1)
  ]) q

  module _ (known : ℕ → Type 0) (apart : (a b : ℕ) → known a → known b → name a ≡ name b → a ≡ b) where
    -- The replicas are on these leaves under these numbers.
    pub record Stand (m : Replicas) (taken : List LeafNumber) : Type 0 where
      pub at : (n : LeafNumber) → IsIn taken n → (x : Replica) × (get m n.number ≡ Some x) × (x.leaf ≡ name n.leaf)
      pub from : (q : ℕ) (x : Replica) → get m q ≡ Some x → (n : LeafNumber) × IsIn taken n × (n.number ≡ q) × (x.leaf ≡ name n.leaf)
      pub count : size m ≡ length taken
      pub own : AreOwn taken
      pub all : (n : LeafNumber) → IsIn taken n → known n.leaf

    pub none_stand : Stand empty []
    none_stand = record { at = λ n here. absurd here; from = λ q x e. absurd cc; count = refl; own = none_own; all = λ n here. absurd here }

    -- ---- numbers

    module _ (m : Replicas) (taken : List LeafNumber) (stand : Stand m taken) where
      -- the entry of a leaf's number
      entry_at : (n : LeafNumber) → IsIn taken n → (e : ℕ × Replica) × IsIn m.entries e × (e.0 ≡ n.number) × (e.1.leaf ≡ name n.leaf)
      entry_at n here =
          let at = stand.at n here in
          let its = in_from_find_entry nat_cmp n.number m.entries at.0 at.1 in
          (its.0, its.1, sym ((eq_by_cmp-Decides nat_cmp_total nat_cmp-IsAntisymmetric n.number its.0.0).0 its.2), ap (λ (x : Replica). x.leaf) its.3 ∙ at.2)

      -- the leaf of an entry
      leaf_at : (e : ℕ × Replica) → IsIn m.entries e → (n : LeafNumber) × IsIn taken n × (n.number ≡ e.0) × (e.1.leaf ≡ name n.leaf)
      leaf_at e here = stand.from e.0 e.1 (get_entry m e here)

      alone : (n : LeafNumber) → IsIn taken n → (f : ℕ × Replica) → IsIn m.entries f → f.0 ≡ n.number → (e : ℕ × Replica) → IsIn m.entries e → e.1.leaf ≡ name n.leaf → e ≡ f
      alone n here f f_here f_is e e_here leaf =
          let own = leaf_at e e_here in
          let one : own.0 ≡ n = stand.own.leaves own.0 n own.1 here (apart own.0.leaf n.leaf (stand.all own.0 own.1) (stand.all n here) (sym own.3 ∙ leaf)) in
          let key : e.0 ≡ f.0 = sym own.2 ∙ ap (λ (z : LeafNumber). z.number) one ∙ sym f_is in
          let both : Some e.1 ≡ Some f.1 = sym (get_entry m e e_here) ∙ ap (get m) key ∙ get_entry m f f_here in
          let value : e.1 ≡ f.1 = cc in
          λ i. (key i, value i)

      number_there : (n : LeafNumber) → IsIn taken n → number_on m (name n.leaf) ≡ Some n.number
      number_there n here =
          let its = entry_at n here in
          ap (option_map (λ (e : ℕ × Replica). e.0)) (find_from_in (λ (e : ℕ × Replica). same_text e.1.leaf (name n.leaf)) m.entries its.0 its.1 ((same_text-Decides its.0.1.leaf (name n.leaf)).1 its.3)
          (λ e there passes. alone n here its.0 its.1 its.2 e there ((same_text-Decides e.1.leaf (name n.leaf)).0 passes)))
          ∙ ap (λ (q : ℕ). Some q) its.2

      no_number : (id : ℕ) → known id → ((n : LeafNumber) → IsIn taken n → n.leaf ≡ id → ⊥) → number_on m (name id) ≡ None
      no_number id its none =
          ap (option_map (λ (e : ℕ × Replica). e.0)) (none_is_found (λ (e : ℕ × Replica). same_text e.1.leaf (name id)) m.entries (all_from_in (λ (e : ℕ × Replica). same_text e.1.leaf (name id) ≡ false) m.entries (λ e here.
          let n = leaf_at e here in
          false_from_ne_true (same_text e.1.leaf (name id)) (λ same. none n.0 n.1 (apart n.0.leaf id (stand.all n.0 n.1) its (sym n.3 ∙ (same_text-Decides e.1.leaf (name id)).0 same))))))

      -- one more than the greatest
      not_above : (es : List (ℕ × Replica)) (top : ℕ) → ((e : ℕ × Replica) → IsIn es e → e.0 < top) → after_greatest es ≤ top
      not_above [] top below = omega arith
      not_above (e ∷ es) top below = omega (arith, below e (inl refl), not_above es top (λ f later. below f (inr later)))

      below_greatest : (es : List (ℕ × Replica)) (e : ℕ × Replica) → IsIn es e → e.0 < after_greatest es
      below_greatest [] e here = absurd here
      below_greatest (f ∷ es) e (inl is) = omega (arith, ap (λ (g : ℕ × Replica). g.0) is)
      below_greatest (f ∷ es) e (inr later) = omega (arith, below_greatest es e later)

      not_over : (xs : List LeafNumber) (top : ℕ) → ((x : LeafNumber) → IsIn xs x → x.number < top) → above_all xs ≤ top
      not_over [] top below = omega arith
      not_over (x ∷ xs) top below = omega (arith, below x (inl refl), not_over xs top (λ y later. below y (inr later)))

      greatest : after_greatest m.entries ≡ above_all taken
      greatest =
          let low : after_greatest m.entries ≤ above_all taken = not_above m.entries (above_all taken) (λ e here. let n = leaf_at e here in omega (arith, below_above taken n.0 n.1, n.2)) in
          let high : above_all taken ≤ after_greatest m.entries = not_over taken (after_greatest m.entries) (λ n here. let e = entry_at n here in omega (arith, below_greatest m.entries e.0 e.1, e.2)) in
          omega (arith, low, high)

      -- the least that is free
      has_is : (n : ℕ) → has m n ≡ list_any (λ t. t.number == n) taken
      has_is n = both_ways (has m n) (list_any (λ t. t.number == n) taken) (λ e. some (get m n) refl e) (λ e.
          let x = in_from_any (λ (t : LeafNumber). t.number == n) taken e in
          let at = stand.at x.0 x.1 in
          ap (λ q. has m q) (sym (eqb-true x.0.number n x.2)) ∙ ap is_some at.1)
        where
          some : (o : Option Replica) → get m n ≡ o → is_some (get m n) ≡ true → list_any (λ (t : LeafNumber). t.number == n) taken ≡ true
          some None is e = let wrong : false ≡ true = ap is_some (sym is) ∙ e in absurd cc
          some (Some x) is e = let its = stand.from n x is in any_from_in (λ (t : LeafNumber). t.number == n) taken its.0 its.1 (eq-eqb its.0.number n its.2)

      least_is : (d n : ℕ) → least_free d m n ≡ first_gap d taken n
      least_is zero n = refl
      least_is (suc d) n =
          ap (λ b. elim b as (λ _. ℕ) [ true ↦ least_free d m (n + 1) | false ↦ n ]) (has_is n)
          ∙ ap (λ k. elim (list_any (λ (t : LeafNumber). t.number == n) taken) as (λ _. ℕ) [ true ↦ k | false ↦ n ]) (least_is d (n + 1))

      next_is : new_number m ≡ fresh_number taken
      next_is =
          ap (λ k. elim (nat_lt k (2 ^ 32)) as (λ _. ℕ) [ true ↦ k | false ↦ least_free (size m) m 0 ]) greatest
          ∙ ap (λ k. elim (nat_lt (above_all taken) (2 ^ 32)) as (λ _. ℕ) [ true ↦ above_all taken | false ↦ k ]) (ap (λ d. least_free d m 0) stand.count ∙ least_is (length taken) 0)

      -- ---- one more leaf

      module _ (id : ℕ) (its_known : known id) where
        its : HasNumber taken id (find (λ t. t.leaf == id) taken)
        its = has_number taken id stand.own

        abbrev number : ℕ
        number = (leaf_number_on taken id).number

        number_is : option_map_or (λ n. n) (number_on m (name id)) (new_number m) ≡ number
        number_is = by (find (λ t. t.leaf == id) taken) refl
          where
            by : (o : Option LeafNumber) → find (λ (t : LeafNumber). t.leaf == id) taken ≡ o → option_map_or (λ n. n) (number_on m (name id)) (new_number m) ≡ (leaf_number_by taken id o).number
            by None is = ap (λ (o : Option ℕ). option_map_or (λ n. n) o (new_number m)) (no_number id its_known (not_on taken id is)) ∙ next_is
            by (Some n) is =
                let found = in_from_find (λ (t : LeafNumber). t.leaf == id) taken n is in
                ap (λ (o : Option ℕ). option_map_or (λ n. n) o (new_number m)) (ap (λ k. number_on m (name k)) (sym (eqb-true n.leaf id found.1)) ∙ number_there n found.0)

        good_on_is : good_on len digest m (name id) ≡ put m number (good id)
        good_on_is = ap (λ n. put m n (good id)) number_is

        count_more : size (put m number (good id)) ≡ length (more_taken taken id)
        count_more = by (find (λ t. t.leaf == id) taken) refl
          where
            by : (o : Option LeafNumber) → find (λ (t : LeafNumber). t.leaf == id) taken ≡ o → size (put m (leaf_number_by taken id o).number (good id)) ≡ length (more_taken_by taken id o)
            by (Some n) is =
                let found = in_from_find (λ (t : LeafNumber). t.leaf == id) taken n is in
                let had : true ≡ has m n.number = sym (ap is_some (stand.at n found.0).1) in
                omega (arith, size-put nat_cmp_total m n.number (good id) true had, stand.count)
            by None is =
                let new : ℕ = fresh_number taken in
                let none : false ≡ has m new = sym (has_is new ∙ false_from_ne_true (list_any (λ t. t.number == new) taken) (λ e.
                let x = in_from_any (λ (t : LeafNumber). t.number == new) taken e in fresh_free taken x.0 x.1 (eqb-true x.0.number new x.2))) in
                omega (arith, size-put nat_cmp_total m new (good id) false none, stand.count, length-append taken (leaf_number_by taken id None ∷ []))

        stand_more : Stand (put m number (good id)) (more_taken taken id)
        stand_more = record {
          at = λ n here. elim (eqb_tells n.number number) [
            | inl is ↦
                let one : n ≡ leaf_number_on taken id = its.own.numbers n (leaf_number_on taken id) here its.here is.1 in
                (good id, ap (get (put m number (good id))) is.1 ∙ get_here m number (good id), sym (ap (λ (z : LeafNumber). name z.leaf) one ∙ ap name its.leaf_is))
            | inr other ↦ elim (its.from n here) [
              | inl was ↦ let old = stand.at n was in (old.0, get_other m number (good id) n.number other.1 ∙ old.1, old.2)
              | inr one ↦ absurd (other.1 (ap (λ (z : LeafNumber). z.number) one))
            ]
          ];
          from = λ q x e. elim (eqb_tells q number) [
            | inl is ↦
                let both : Some (good id) ≡ Some x = sym (get_here m number (good id)) ∙ ap (get (put m number (good id))) (sym is.1) ∙ e in
                let one : good id ≡ x = cc in
                (leaf_number_on taken id, its.here, sym is.1, ap (λ (y : Replica). y.leaf) (sym one) ∙ ap name (sym its.leaf_is))
            | inr other ↦ let old = stand.from q x (sym (get_other m number (good id) q other.1) ∙ e) in (old.0, its.stays old.0 old.1, old.2, old.3)
          ];
          count = count_more;
          own = its.own;
          all = λ n here. elim (its.from n here) [ inl was ↦ stand.all n was | inr one ↦ subst (λ (z : LeafNumber). known z.leaf) (sym one) (subst known (sym its.leaf_is) its_known) ];
        }

    -- ---- all of them

    -- good data stands on each of these
    abbrev AreGood : Replicas → List LeafNumber → List ℕ → Type 0
    AreGood m taken kept = (k : ℕ) → IsIn kept k → (n : LeafNumber) × IsIn taken n × (n.leaf ≡ k) × (get m n.number ≡ Some (good k))

    again : (m : Replicas) (taken : List LeafNumber) → Stand m taken → (k : ℕ) → (n : LeafNumber) × IsIn taken n × (n.leaf ≡ k) × (get m n.number ≡ Some (good k)) → good_on len digest m (name k) ≡ m
    again m taken stand k n =
        ap (λ (o : Option ℕ). put m (option_map_or (λ q. q) o (new_number m)) (good k)) (ap (λ j. number_on m (name j)) (sym n.2) ∙ number_there m taken stand n.0 n.1)
        ∙ put_itself nat_cmp_total nat_cmp-IsAntisymmetric m n.0.number (good k) n.3

    good_more : (m : Replicas) (taken : List LeafNumber) → Stand m taken → (kept : List ℕ) → AreGood m taken kept → (id : ℕ) → AreGood (put m (leaf_number_on taken id).number (good id)) (more_taken taken id) (kept ++ id ∷ [])
    good_more m taken stand kept goods id k here = elim (pushed kept id k here) [
      | inr is ↦ (leaf_number_on taken id, its.here, its.leaf_is ∙ sym is, get_here m number (good id) ∙ ap (λ j. Some (good j)) (sym is))
      | inl was ↦
          let old = goods k was in
          elim (eqb_tells old.0.number number) [
            | inl is ↦
                let one : old.0 ≡ leaf_number_on taken id = its.own.numbers old.0 (leaf_number_on taken id) (its.stays old.0 old.1) its.here is.1 in
                let same : id ≡ k = sym its.leaf_is ∙ ap (λ (z : LeafNumber). z.leaf) (sym one) ∙ old.2 in
                (old.0, its.stays old.0 old.1, old.2, ap (get (put m number (good id))) is.1 ∙ get_here m number (good id) ∙ ap (λ j. Some (good j)) same)
            | inr other ↦ (old.0, its.stays old.0 old.1, old.2, get_other m number (good id) old.0.number other.1 ∙ old.3)
          ]
    ]
      where
        its : HasNumber taken id (find (λ t. t.leaf == id) taken)
        its = has_number taken id stand.own

        number : ℕ
        number = (leaf_number_on taken id).number

    good_from : (ids kept : List ℕ) (m : Replicas) (taken : List LeafNumber) (ts : List Target) → Stand m taken → AreGood m taken kept → AllByRecursion known ids → map (λ (t : Target). t.leaf) ts ≡ new_leaves kept ids
        → good_on_all len digest m (map name ids) ≡ puts m (with_numbers taken ts)
    good_from [] kept m taken [] stand goods all are = refl
    good_from [] kept m taken (t ∷ ts) stand goods all are = absurd cc
    good_from (id ∷ ids) kept m taken ts stand goods all are =
        by (list_any (λ k. k == id) kept) refl are (λ us e. good_from ids kept m taken us stand goods all.1 e) (λ us e. good_from ids (kept ++ id ∷ []) (put m number (good id)) (more_taken taken id) us (stand_more m taken stand id all.0) (good_more m taken stand kept goods id) all.1 e)
      where
        number : ℕ
        number = (leaf_number_on taken id).number

        by : (b : Bool) → list_any (λ k. k == id) kept ≡ b → map (λ (t : Target). t.leaf) ts ≡ elim b as (λ _. List ℕ) [ true ↦ new_leaves kept ids | false ↦ id ∷ new_leaves (kept ++ id ∷ []) ids ]
            → ((us : List Target) → map (λ (t : Target). t.leaf) us ≡ new_leaves kept ids → good_on_all len digest m (map name ids) ≡ puts m (with_numbers taken us))
            → ((us : List Target) → map (λ (t : Target). t.leaf) us ≡ new_leaves (kept ++ id ∷ []) ids → good_on_all len digest (put m number (good id)) (map name ids) ≡ puts (put m number (good id)) (with_numbers (more_taken taken id) us))
            → good_on_all len digest (good_on len digest m (name id)) (map name ids) ≡ puts m (with_numbers taken ts)
        by true some same old new =
            let found = in_from_any (λ k. k == id) kept some in
            let here : IsIn kept id = subst (λ k. IsIn kept k) (eqb-true found.0 id found.2) found.1 in
            ap (λ rs. good_on_all len digest rs (map name ids)) (again m taken stand id (goods id here)) ∙ old ts same
        by false none same old new =
            ap (λ rs. good_on_all len digest rs (map name ids)) (good_on_is m taken stand id all.0) ∙ split ts same
          where
            split : (us : List Target) → map (λ (t : Target). t.leaf) us ≡ id ∷ new_leaves (kept ++ id ∷ []) ids → good_on_all len digest (put m number (good id)) (map name ids) ≡ puts m (with_numbers taken us)
            split [] e = absurd cc
            split (u ∷ us) e =
                let leaf : u.leaf ≡ id = cc in
                let rest : map (λ (t : Target). t.leaf) us ≡ new_leaves (kept ++ id ∷ []) ids = cc in
                new us rest ∙ ap (λ j. puts (put m (leaf_number_on taken j).number (good j)) (with_numbers (more_taken taken j) us)) (sym leaf)

    -- what is put on these leaves is put on each once
    pub good_all : (ids : List ℕ) (m : Replicas) (taken : List LeafNumber) (ts : List Target) → Stand m taken → AllByRecursion known ids → map (λ (t : Target). t.leaf) ts ≡ new_leaves [] ids
        → good_on_all len digest m (map name ids) ≡ puts m (with_numbers taken ts)
    good_all ids m taken ts stand all are = good_from ids [] m taken ts stand (λ k none. absurd none) all are
