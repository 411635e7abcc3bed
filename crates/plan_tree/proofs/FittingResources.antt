-- Which rows of resources fit: one with an old id keeps its name, kind and slot, and a new one has its own.
use Rattle.std.proofs.Common.{◌≡◌, ◌==◌, ℕ, zero, suc, Bool, true, false, List, length, inl, inr, refl, sym, ap, ◌∙◌, subst, arith, eq-eqb, eqb-true}
use Rattle.std.specs.Prelude.{not, ◌&&◌, ◌||◌, nat_lt}
use Rattle.std.specs.List.{list_any}
use Rattle.std.proofs.lemmas.Bool.{and_parts, and_from, lt-ltb, ne_eqb}
use Rattle.std.proofs.lemmas.Bool.Decides.{eqb_tells}
use Rattle.std.proofs.lemmas.Option.{same_Some}
use Rattle.grid_model.specs.Names.{is_name, same_text}
use Rattle.grid_model.specs.Rows.{Cat, is_named_resource}
use Rattle.grid_model.specs.Applying.{resource_fits, same_kind, slot_fits, parent_fits, is_node, stands_in}
use Rattle.grid_model.specs.declared.deltas.ResourceRow.{ResourceRow}
use Rattle.grid_model.specs.declared.grid.ResourceKind.{ResourceKind}
use Rattle.grid_model.specs.declared.grid.ResourceKind.TheVariants.{Storage, Passthru, Random, Replication}
use Rattle.grid_model.proofs.Comparing.{same_text-Decides}
use Rattle.tables_laws.proofs.Rows.{IsIn, in_from_all, in_from_any}
use Rattle.tables_laws.proofs.Numbered.{one_number, found_in}
use Rattle.tables_laws.proofs.Standing.{ResourceStands}
use Rattle.tables_laws.proofs.Sound.{IsSound}
use Rattle.grid_tree.proofs.OwnPlaces.{HasOwnPlaces}
use Rattle.plan_tree.proofs.ResourceWays.{Ends, ends-same, not_above}
use Rattle.plan_tree.proofs.RootedResources.{IsRooted}

same_kind-itself : (k : ResourceKind) → same_kind k k ≡ true
same_kind-itself Storage = refl
same_kind-itself Passthru = refl
same_kind-itself Random = refl
same_kind-itself Replication = refl

-- where no row passes
pub none_pass : {X : Type 0} (p : X → Bool) (rows : List X) → ((x : X) → IsIn rows x → p x ≡ true → ⊥) → list_any p rows ≡ false
none_pass p rows none = by (list_any p rows) refl
  where
    by : (b : Bool) → list_any p rows ≡ b → list_any p rows ≡ false
    by false e = e
    by true e = let found = in_from_any p rows e in absurd (none found.0 found.1 found.2)

-- what a row of a resource has to have by itself
pub record OwnsItsName (c : Cat) (r : ResourceRow) : Type 0 where
  pub some : r.id ≡ 0 → ⊥
  pub named : is_name r.name ≡ true
  pub alone : (o : ResourceRow) → IsIn c.resources o → (o.id ≡ r.id → ⊥) → o.name ≡ r.name → ⊥
  pub kind : (o : ResourceRow) → IsIn c.resources o → o.id ≡ r.id → o.kind ≡ r.kind
  pub slot : slot_fits c r.kind r.slot ≡ true

module _ (c : Cat) (r : ResourceRow) where
  abbrev named_apart : Bool
  named_apart = not (list_any (λ o. not (o.id == r.id) && same_text o.name r.name) c.resources)

  abbrev kinds_same : Bool
  kinds_same = not (list_any (λ o. (o.id == r.id) && not (same_kind o.kind r.kind)) c.resources)

  abbrev taken : Bool
  taken = list_any (λ o. not (o.id == r.id) && (o.parent == r.parent) && (o.place == r.place)) c.resources

  pub fits_all : OwnsItsName c r → parent_fits c r ≡ true → resource_fits c r ≡ true
  fits_all owns parent =
      and_from (nat_lt 0 r.id && is_name r.name && named_apart && kinds_same && slot_fits c r.kind r.slot) (parent_fits c r)
      (and_from (nat_lt 0 r.id && is_name r.name && named_apart && kinds_same) (slot_fits c r.kind r.slot)
      (and_from (nat_lt 0 r.id && is_name r.name && named_apart) kinds_same
      (and_from (nat_lt 0 r.id && is_name r.name) named_apart
      (and_from (nat_lt 0 r.id) (is_name r.name) (lt-ltb 0 r.id (omega (arith, owns.some))) owns.named)
      (ap not (none_pass (λ (o : ResourceRow). not (o.id == r.id) && same_text o.name r.name) c.resources (λ o here e.
      let parts = and_parts (not (o.id == r.id)) (same_text o.name r.name) e in
      owns.alone o here (λ is. let same : not (o.id == r.id) ≡ false = ap not (eq-eqb o.id r.id is) in let wrong : true ≡ false = sym parts.0 ∙ same in cc) ((same_text-Decides o.name r.name).0 parts.1)))))
      (ap not (none_pass (λ (o : ResourceRow). (o.id == r.id) && not (same_kind o.kind r.kind)) c.resources (λ o here e.
      let parts = and_parts (o.id == r.id) (not (same_kind o.kind r.kind)) e in
      let kinds : same_kind o.kind r.kind ≡ true = ap (λ k. same_kind k r.kind) (owns.kind o here (eqb-true o.id r.id parts.0)) ∙ same_kind-itself r.kind in
      let wrong : true ≡ false = sym parts.1 ∙ ap not kinds in cc))))
      owns.slot) parent

  -- ---- a parent fits

  pub parent_none : r.parent ≡ 0 → r.place ≡ 0 → parent_fits c r ≡ true
  parent_none lone first = rw (eq-eqb r.parent 0 lone, parent_fits) (eq-eqb r.place 0 first)

  pub parent_some : (r.parent ≡ 0 → ⊥) → is_node c r.parent ≡ true → stands_in c r.id r.parent ≡ false
      → ((o : ResourceRow) → IsIn c.resources o → (o.id ≡ r.id → ⊥) → o.parent ≡ r.parent → o.place ≡ r.place → ⊥) → parent_fits c r ≡ true
  parent_some below node past free =
      rw (ne_eqb r.parent 0 below, parent_fits)
      (and_from (is_node c r.parent && not (stands_in c r.id r.parent)) (not taken) (and_from (is_node c r.parent) (not (stands_in c r.id r.parent)) node (ap not past))
      (ap not (none_pass (λ (o : ResourceRow). not (o.id == r.id) && (o.parent == r.parent) && (o.place == r.place)) c.resources (λ o here e.
      let parts = and_parts (not (o.id == r.id) && (o.parent == r.parent)) (o.place == r.place) e in
      let front = and_parts (not (o.id == r.id)) (o.parent == r.parent) parts.0 in
      free o here (λ is. let same : not (o.id == r.id) ≡ false = ap not (eq-eqb o.id r.id is) in let wrong : true ≡ false = sym front.0 ∙ same in cc) (eqb-true o.parent r.parent front.1) (eqb-true o.place r.place parts.1)))))

-- ---- a row that stands there

module _ (c : Cat) (s : IsSound c) (rooted : IsRooted c.resources) (r : ResourceRow) (here : IsIn c.resources r) where
  pub its_name : is_name r.name ≡ true
  its_name = in_from_all (λ (x : ResourceRow). is_named_resource x ≡ true) c.resources s.cat.resources.fit r here

  stands : ResourceStands c r
  stands = in_from_all (ResourceStands c) c.resources s.tied.resources r here

  is_it : (o : ResourceRow) → IsIn c.resources o → o.id ≡ r.id → o ≡ r
  is_it o there is = one_number (λ (x : ResourceRow). x.id) c.resources o r s.cat.resources.ordered there here is

  -- with another status, parent or place it still has its name
  pub owns_still : (up : Bool) (parent place : ℕ) → OwnsItsName c (record r { up = up; parent = parent; place = place })
  owns_still up parent place = record {
    some = rooted.some r here;
    named = its_name;
    alone = λ o there apart same. apart (s.names.resources_apart o r there here same);
    kind = λ o there is. ap (λ (x : ResourceRow). x.kind) (is_it o there is);
    slot = stands.0;
  }

  -- it does not stand above its parent
  pub not_above_parent : (r.parent ≡ 0 → ⊥) → stands_in c r.id r.parent ≡ false
  not_above_parent below = by (rooted.ended r here).0 (rooted.ended r here).1
    where
      by : (n : ℕ) → Ends c.resources n r.id → stands_in c r.id r.parent ≡ false
      by zero e = absurd (rooted.some r here e)
      by (suc n) e =
          let same : e.0 ≡ r = same_Some e.0 r (sym e.1 ∙ found_in (λ (x : ResourceRow). x.id) c.resources r s.cat.resources.ordered here) in
          not_above c rooted.some (length c.resources) n (suc n) r.id r.parent (rooted.some r here) e (subst (λ (x : ResourceRow). Ends c.resources n x.parent) same e.2) (omega arith)

  pub parent_still : (own : HasOwnPlaces c.resources) (up : Bool) → parent_fits c (record r { up = up }) ≡ true
  parent_still own up = elim (eqb_tells r.parent 0) [
    | inl lone ↦ parent_none c (record r { up = up }) lone.1 (rooted.first r here lone.1)
    | inr below ↦
        parent_some c (record r { up = up }) below.1 (node below.0 stands.1) (not_above_parent below.1)
        (λ o there apart parents places. apart (own o r there here below.0 parents places))
  ]
    where
      node : (r.parent == 0) ≡ false → ((r.parent == 0) || is_node c r.parent) ≡ true → is_node c r.parent ≡ true
      node e h = sym (ap (λ b. b || is_node c r.parent) e) ∙ h

  -- nothing is its own parent
  pub not_own_parent : r.parent ≡ r.id → ⊥
  not_own_parent own = by (rooted.ended r here).0 (rooted.ended r here).1
    where
      by : (n : ℕ) → Ends c.resources n r.id → ⊥
      by zero e = rooted.some r here e
      by (suc n) e =
          let same : e.0 ≡ r = same_Some e.0 r (sym e.1 ∙ found_in (λ (x : ResourceRow). x.id) c.resources r s.cat.resources.ordered here) in
          let more : n ≡ suc n = ends-same c.resources rooted.some n (suc n) r.id (subst (λ i. Ends c.resources n i) own (subst (λ (x : ResourceRow). Ends c.resources n x.parent) same e.2)) e in
          omega (arith, more)
