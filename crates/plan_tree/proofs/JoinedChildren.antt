-- What the row of addchild comes to, by the rows of the parent and of the child.
use Rattle.std.proofs.Common.{◌≡◌, ◌==◌, inl, inr, ℕ, ◌<◌, Bool, true, false, cond, List, [], ◌∷◌, ◌++◌, length, map, Option, Some, None, Ok, Err, IsTrue, refl, sym, ap, ◌∙◌, subst, arith, eq-eqb, eqb-true}
use Rattle.std.specs.Prelude.{find, filter, option_map, is_some, not, ◌&&◌, nat_lt}
use Rattle.std.specs.List.{AllByRecursion, list_all, list_any}
use Rattle.std.proofs.lemmas.Bool.{and_parts, and_from, ne_eqb}
use Rattle.std.proofs.lemmas.List.{length-map}
use Rattle.std.proofs.lemmas.List.Sorted.{length_permutation}
use Rattle.std.proofs.lemmas.Option.{same_Some}
use Rattle.grid_model.specs.Maps.{get, put}
use Rattle.grid_model.specs.Names.{Text, same_text}
use Rattle.grid_model.specs.Grid.{Grid, Resource}
use Rattle.grid_model.specs.Refusing.{Or, ◌>>=◌, unless, refuse, there}
use Rattle.grid_model.specs.Deeds.{Act, changes}
use Rattle.grid_model.specs.Levels.{is_admin}
use Rattle.grid_model.specs.Rows.{Cat, resource, has_resource}
use Rattle.grid_model.specs.RowGrids.{grid_of, resource_of, resource_name, user_name}
use Rattle.grid_model.specs.Applying.{IsMade, apply_all, is_storage, is_node, resource_fits}
use Rattle.grid_model.specs.Operations.Resources.{is_full, most_below, with_child}
use Rattle.grid_model.specs.Operations.Table.{Operation, addchild, row}
use Rattle.grid_model.specs.Trees.{Resources, children, is_in, upward}
use Rattle.grid_model.specs.declared.deltas.Delta.{Delta}
use Rattle.grid_model.specs.declared.deltas.Delta.TheVariants as delta
use Rattle.grid_model.specs.declared.deltas.ResourceRow.{ResourceRow}
use Rattle.grid_model.specs.declared.plans.PlanError.{PlanError}
use Rattle.grid_model.specs.declared.plans.PlanError.TheVariants.{Refused}
use Rattle.grid_model.specs.declared.refusal.Refusal.{Refusal}
use Rattle.grid_model.specs.declared.refusal.Refusal.TheVariants.{NoResource, NotAdmin, BadTree}
use Rattle.grid_model.specs.declared.refusal.TreeCause.TheVariants.{Leaf, HasParent, Cycle, Full}
use Rattle.grid_model.proofs.Comparing.{text_cmp_total, same_text-Decides}
use Rattle.grid_model.proofs.MapLemmas.{get-put}
use Rattle.grid_journal.specs.Journal.{can_be_kept}
use Rattle.grid_tree.specs.Ordered.{AreByPlace, child_of}
use Rattle.grid_tree.specs.Steps.{lies_below}
use Rattle.grid_tree.specs.declared.siblings.Child.{Child}
use Rattle.grid_tree.proofs.ChildLemmas.{children_named, row_of_kid, kid_of_row, kids_sorted}
use Rattle.grid_tree.proofs.Named.{sound_of, name_is}
use Rattle.tables_laws.proofs.Counting.{count}
use Rattle.tables_laws.proofs.LookUps.{get-resources}
use Rattle.tables_laws.proofs.Numbered.{found_in}
use Rattle.tables_laws.proofs.Rows.{IsIn, all_from_in, in_from_filter, filter_from_in, any_from_in}
use Rattle.tables_laws.proofs.Sound.{IsSound}
use Rattle.plan_base.specs.Plans.{Changes, PlansChange}
use Rattle.plan_tree.specs.NewChildren.{place_behind, numbered_anew, child_put}
use Rattle.plan_tree.proofs.ChangedStatus.{HasRow, row_named}
use Rattle.plan_tree.proofs.FittingResources.{not_own_parent}
use Rattle.plan_tree.proofs.LastChildren.{last_fits, grid-last_child}
use Rattle.plan_tree.proofs.NumberedChildren.{HasChild, IsNumbered, Rises, sorted_rises, numbered_all}
use Rattle.plan_tree.proofs.PutChildren.{behind_all, applied_then}
use Rattle.plan_tree.proofs.ResourcePlans.{with_resource, Settles, settles_self, settles_then, settles_resource, resource_applied, plan_of}
use Rattle.plan_tree.proofs.RootedResources.{IsRooted, rooted-made}

-- ---- the row

pub refused_so : (c : Cat) (user : Text) (op : Operation) (e : PlanError) (r : Refusal) → e ≡ Refused r → row (grid_of c) user op ≡ Err r → PlansChange c user op (Err e)
refused_so c user op e r is row_is = subst (λ (x : PlanError). PlansChange c user op (Err x)) (sym is) row_is

abbrev tests : Bool → Option Resource → Option Resource → (Resource → Resource → Or Act) → Or Act
tests admin above child rest = unless admin NotAdmin >>= (λ _. there above NoResource >>= (λ a. there child NoResource >>= (λ x. rest a x)))

abbrev checked : Bool → Bool → Bool → Bool → Grid → Or Act
checked leaf parented above full g =
    refuse leaf (BadTree Leaf) >>= (λ _. refuse parented (BadTree HasParent) >>= (λ _. refuse above (BadTree Cycle) >>= (λ _. refuse full (BadTree Full) >>= (λ _. Ok (changes g)))))

module _ (c : Cat) (made : IsMade c) (u : ℕ) (p ch : Text) (one : is_admin (get (grid_of c).users (user_name c u)) ≡ true) where
  s : IsSound c
  s = sound_of c made

  rooted : IsRooted c.resources
  rooted = rooted-made c made

  abbrev tree : Resources
  tree = (grid_of c).resources

  abbrev next : Resource → Grid
  next x = record (grid_of c) { resources = with_child tree p ch x }

  abbrev rest : Resource → Resource → Or Act
  rest a x = checked (is_storage a.kind) (is_some x.parent) (list_any (same_text ch) (upward tree p)) (is_full tree p a.kind) (next x)

  pub no_parent : None ≡ find (λ (x : ResourceRow). same_text x.name p) c.resources → row (grid_of c) (user_name c u) (addchild p ch) ≡ Err NoResource
  no_parent none i = tests (one i) ((get-resources c p ∙ ap (λ (o : Option ResourceRow). option_map (resource_of c) o) (sym none)) i) (get tree ch) rest

  module _ (upper : ResourceRow) (upper_found : Some upper ≡ find (λ (x : ResourceRow). same_text x.name p) c.resources) where
    above : HasRow c p upper
    above = row_named c s p upper (sym upper_found)

    pub no_child : None ≡ find (λ (x : ResourceRow). same_text x.name ch) c.resources → row (grid_of c) (user_name c u) (addchild p ch) ≡ Err NoResource
    no_child none i = tests (one i) (above.gives i) ((get-resources c ch ∙ ap (λ (o : Option ResourceRow). option_map (resource_of c) o) (sym none)) i) rest

    module _ (lower : ResourceRow) (lower_found : Some lower ≡ find (λ (x : ResourceRow). same_text x.name ch) c.resources) where
      child : HasRow c ch lower
      child = row_named c s ch lower (sym lower_found)

      to_checks : row (grid_of c) (user_name c u) (addchild p ch) ≡ rest (resource_of c upper) (resource_of c lower)
      to_checks i = tests (one i) (above.gives i) (child.gives i) rest

      pub upper_there : has_resource c upper.id ≡ true
      upper_there = any_from_in (λ (o : ResourceRow). o.id == upper.id) c.resources upper above.here (eq-eqb upper.id upper.id refl)

      pub lower_there : has_resource c lower.id ≡ true
      lower_there = any_from_in (λ (o : ResourceRow). o.id == lower.id) c.resources lower child.here (eq-eqb lower.id lower.id refl)

      pub a_leaf : is_storage upper.kind ≡ true → row (grid_of c) (user_name c u) (addchild p ch) ≡ Err (BadTree Leaf)
      a_leaf is = to_checks ∙ ap (λ b. checked b (is_some (resource_of c lower).parent) (list_any (same_text ch) (upward tree p)) (is_full tree p upper.kind) (next (resource_of c lower))) is

      module _ (node : is_storage upper.kind ≡ false) where
        parented : (b : Bool) → (lower.parent == 0) ≡ b → is_some (resource_of c lower).parent ≡ not b
        parented b is = ap (λ t. is_some (elim t as (λ _. Option Text) [ true ↦ None | false ↦ Some (resource_name c lower.parent) ])) is ∙ by b
          where
            by : (t : Bool) → is_some (elim t as (λ _. Option Text) [ true ↦ None | false ↦ Some (resource_name c lower.parent) ]) ≡ not t
            by true = refl
            by false = refl

        pub has_parent : (lower.parent ≡ 0 → ⊥) → row (grid_of c) (user_name c u) (addchild p ch) ≡ Err (BadTree HasParent)
        has_parent some =
            to_checks ∙ (λ i. checked (node i) (parented false (ne_eqb lower.parent 0 some) i) (list_any (same_text ch) (upward tree p)) (is_full tree p upper.kind) (next (resource_of c lower)))

        module _ (lone : lower.parent ≡ 0) where
          free : is_some (resource_of c lower).parent ≡ false
          free = parented true (eq-eqb lower.parent 0 lone)

          upper_name : resource_name c upper.id ≡ p
          upper_name = name_is c upper.id upper above.own ∙ above.name_is

          lower_name : resource_name c lower.id ≡ ch
          lower_name = name_is c lower.id lower child.own ∙ child.name_is

          abbrev is_above : Bool
          is_above = is_in tree (resource_name c lower.id) (resource_name c upper.id)

          above_so : is_above ≡ list_any (same_text ch) (upward tree p)
          above_so i = is_in tree (lower_name i) (upper_name i)

          pub cycle : is_above ≡ true → row (grid_of c) (user_name c u) (addchild p ch) ≡ Err (BadTree Cycle)
          cycle is = to_checks ∙ (λ i. checked (node i) (free i) ((sym above_so ∙ is) i) (is_full tree p upper.kind) (next (resource_of c lower)))

          module _ (outside : is_in tree (resource_name c lower.id) (resource_name c upper.id) ≡ false) (kids : List Child) (ordered : AreByPlace c upper.id kids) where
            children_count : length (children tree p) ≡ length kids
            children_count =
                let named = children_named c made upper.id upper_there (map child_of (filter (lies_below upper.id) c.resources)) kids refl ordered.are ordered.rise (map (λ (k : Child). k.id) kids) refl in
                sym (ap (λ (ns : List Text). length ns) (named.named ∙ ap (children tree) upper_name))
                ∙ length-map (map (λ (k : Child). k.id) kids) (resource_name c) ∙ length-map kids (λ (k : Child). k.id)

            full_so : not (nat_lt (length kids) (most_below upper.kind)) ≡ is_full tree p upper.kind
            full_so = ap (λ n. not (nat_lt n (most_below upper.kind))) (sym children_count)

            pub full : not (nat_lt (length kids) (most_below upper.kind)) ≡ true → row (grid_of c) (user_name c u) (addchild p ch) ≡ Err (BadTree Full)
            full is = to_checks ∙ (λ i. checked (node i) (free i) ((sym above_so ∙ outside) i) ((sym full_so ∙ is) i) (next (resource_of c lower)))

            pub kids_there : AllByRecursion (λ (k : Child). IsTrue (has_resource c k.id)) kids
            kids_there = all_from_in (λ (k : Child). IsTrue (has_resource c k.id)) kids (λ k here.
                let it = row_of_kid c made upper.id upper_there (map child_of (filter (lies_below upper.id) c.resources)) kids refl ordered.are ordered.rise k here in
                let old = in_from_filter (lies_below upper.id) c.resources it.0 it.1 in
                any_from_in (λ (o : ResourceRow). o.id == k.id) c.resources it.0 old.0 (eq-eqb it.0.id k.id (ap (λ (x : Child). x.id) it.2)))

            -- ---- the plan

            module _ (room : not (nat_lt (length kids) (most_below upper.kind)) ≡ false) where
              allowed : row (grid_of c) (user_name c u) (addchild p ch) ≡ Ok (changes (next (resource_of c lower)))
              allowed = to_checks ∙ (λ i. checked (node i) (free i) ((sym above_so ∙ outside) i) ((sym full_so ∙ room) i) (next (resource_of c lower)))

              some : upper.id ≡ 0 → ⊥
              some = rooted.some upper above.here

              upper_node : is_node c upper.id ≡ true
              upper_node =
                  any_from_in (λ (o : ResourceRow). (o.id == upper.id) && not (is_storage o.kind)) c.resources upper above.here
                  (and_from (upper.id == upper.id) (not (is_storage upper.kind)) (eq-eqb upper.id upper.id refl) (ap not node))

              lower_apart : lower.parent ≡ upper.id → ⊥
              lower_apart is = some (sym is ∙ lone)

              -- behind changes that leave the grid and give each child a place below this one
              module _ (d : Cat) (d_made : IsMade d) (settles : Settles c d) (grid : grid_of d ≡ grid_of c) (upper_in : IsIn d.resources upper) (lower_in : IsIn d.resources lower) (d_node : is_node d upper.id ≡ true)
                  (counted : count (lies_below upper.id) d.resources ≡ length kids) (q : ℕ) (low : (y : ResourceRow) → IsIn d.resources y → y.parent ≡ upper.id → y.place < q) where
                abbrev r : ResourceRow
                r = record lower { parent = upper.id; place = q }

                name_in : (x : ResourceRow) → IsIn d.resources x → resource_name d x.id ≡ x.name
                name_in x here = name_is d x.id x (found_in (λ (y : ResourceRow). y.id) d.resources x settles.sound.cat.resources.ordered here)

                d_outside : is_in (grid_of d).resources (resource_name d lower.id) (resource_name d upper.id) ≡ false
                d_outside =
                    (λ i. is_in (grid i).resources ((name_in lower lower_in ∙ sym (name_is c lower.id lower child.own)) i) ((name_in upper upper_in ∙ sym (name_is c upper.id upper above.own)) i)) ∙ outside

                fits : resource_fits d r ≡ true
                fits = last_fits d d_made settles.sound settles.rooted lower lower_in lone upper.id some d_node d_outside q low

                grid_is : grid_of (with_resource d r) ≡ next (resource_of c lower)
                grid_is =
                    grid-last_child d d_made settles.sound settles.rooted lower lower_in lone upper.id some d_node d_outside q low
                    ∙ (λ i. record (grid i) {
                      resources = put (grid i).resources (child.name_is i) (record {
                        kind = lower.kind;
                        slot = lower.slot;
                        up = lower.up;
                        parent = Some ((name_in upper upper_in ∙ above.name_is) i);
                        place = (counted ∙ sym children_count) i;
                      });
                    })

                abbrev placed : Resource
                placed = record (resource_of c lower) { parent = Some p; place = length (children tree p) }

                other : grid_of (with_resource d r) ≡ grid_of c → ⊥
                other same =
                    let put_there : get (put tree ch placed) ch ≡ Some placed = get-put text_cmp_total tree ch placed ch ∙ ap (λ b. cond b (Some placed) (get tree ch)) ((same_text-Decides ch ch).1 refl) in
                    let is : placed ≡ resource_of c lower = same_Some placed (resource_of c lower) (sym put_there ∙ ap (λ (g : Grid). get g.resources ch) (sym grid_is ∙ same) ∙ child.gives) in
                    let wrong : true ≡ false = ap (λ (x : Resource). is_some x.parent) is ∙ free in
                    cc

                finished : (first : List Delta) → apply_all c first ≡ Ok d → (deltas : List Delta) → deltas ≡ first ++ delta.Resource r ∷ [] → IsTrue (list_all can_be_kept deltas) → Changes c (user_name c u) (addchild p ch) deltas
                finished first first_applied deltas are spelled =
                    plan_of c (with_resource d r) (user_name c u) (addchild p ch) deltas
                    (settles_then c d (with_resource d r) settles (settles_resource d settles.sound settles.rooted r
                    (λ old found. ap (λ (x : ResourceRow). x.slot) (same_Some old lower (sym found ∙ found_in (λ (y : ResourceRow). y.id) d.resources lower settles.sound.cat.resources.ordered lower_in))) fits)) spelled
                    (ap (apply_all c) are ∙ applied_then first (delta.Resource r ∷ []) c d first_applied ∙ ap (λ t. elim t [ Ok x ↦ apply_all x [] | Err cause ↦ Err cause ]) (resource_applied d r fits))
                    (allowed ∙ ap (λ (g : Grid). Ok (changes g)) (sym grid_is)) (inr other)

              -- ---- its children

              has_kid : (k : Child) → IsIn kids k → HasChild c upper.id k
              has_kid k here =
                  let it = row_of_kid c made upper.id upper_there (map child_of (filter (lies_below upper.id) c.resources)) kids refl ordered.are ordered.rise k here in
                  let old = in_from_filter (lies_below upper.id) c.resources it.0 it.1 in
                  record {
                    row = it.0;
                    found = ap (λ (x : Child). resource c x.id) (sym it.2) ∙ found_in (λ (y : ResourceRow). y.id) c.resources it.0 s.cat.resources.ordered old.0;
                    place_is = ap (λ (x : Child). x.place) it.2;
                    parent_is = eqb-true it.0.parent upper.id (and_parts (not (it.0.parent == 0)) (it.0.parent == upper.id) old.1).1;
                  }

              kid_in : (y : ResourceRow) → IsIn c.resources y → y.parent ≡ upper.id → IsIn kids (child_of y)
              kid_in y here is =
                  kid_of_row c made upper.id upper_there (map child_of (filter (lies_below upper.id) c.resources)) kids refl ordered.are ordered.rise y
                  (filter_from_in (lies_below upper.id) c.resources y here (and_from (not (y.parent == 0)) (y.parent == upper.id) (ap not (ne_eqb y.parent 0 (λ z. some (sym is ∙ z)))) (eq-eqb y.parent upper.id is)))

              rises : Rises 0 kids
              rises =
                  sorted_rises 0 kids (kids_sorted c made upper.id upper_there (map child_of (filter (lies_below upper.id) c.resources)) kids refl ordered.are ordered.rise) (λ k here. omega arith)

              all_counted : count (lies_below upper.id) c.resources ≡ length kids
              all_counted =
                  sym (length-map (filter (lies_below upper.id) c.resources) child_of) ∙ sym (length_permutation (map child_of (filter (lies_below upper.id) c.resources)) kids ordered.are)

              start : IsNumbered c upper.id 0 kids c
              start = record {
                made = made;
                settles = settles_self c s rooted;
                grid = refl;
                later = λ k here. refl;
                still = λ y here outside. here;
                low = λ y here is. inr (child_of y, kid_in y here is, refl);
                counted = refl;
                node = upper_node;
              }

              pub planned : (deltas : List Delta) → deltas ≡ child_put c upper.id lower kids → IsTrue (list_all can_be_kept deltas) → Changes c (user_name c u) (addchild p ch) deltas
              planned deltas are spelled = by (place_behind kids) refl
                where
                  by : (o : Option ℕ) → place_behind kids ≡ o → Changes c (user_name c u) (addchild p ch) deltas
                  by (Some q) is =
                      finished c made (settles_self c s rooted) refl above.here child.here upper_node all_counted q (λ y here parents. behind_all 0 kids rises q is (child_of y) (kid_in y here parents))
                      [] refl deltas (are ∙ ap (λ (o : Option ℕ). elim o as (λ _. List Delta) [
                        | Some place ↦ delta.Resource (record lower { parent = upper.id; place = place }) ∷ []
                        | None ↦ numbered_anew c 0 kids ++ delta.Resource (record lower { parent = upper.id; place = length kids }) ∷ []
                      ]) is) spelled
                  by None is =
                      let all = numbered_all c upper.id some 0 kids c start rises has_kid in
                      let upper_apart : upper.parent ≡ upper.id → ⊥ = not_own_parent c s rooted upper above.here in
                      finished all.0 all.2.made all.2.settles all.2.grid (all.2.still upper above.here upper_apart) (all.2.still lower child.here lower_apart) all.2.node (all.2.counted ∙ all_counted) (length kids)
                      (λ y here parents. elim (all.2.low y here parents) [
                        | inl less ↦ omega (arith, less)
                        | inr none ↦ absurd none.1
                      ])
                      (numbered_anew c 0 kids) all.1 deltas (are ∙ ap (λ (o : Option ℕ). elim o as (λ _. List Delta) [
                        | Some place ↦ delta.Resource (record lower { parent = upper.id; place = place }) ∷ []
                        | None ↦ numbered_anew c 0 kids ++ delta.Resource (record lower { parent = upper.id; place = length kids }) ∷ []
                      ]) is) spelled
