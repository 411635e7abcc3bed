-- What is added of a combination, by the tests of its conditions and what there is to choose from.
use Rattle.std.proofs.Common.{◌≡◌, ℕ, Bool, true, List, Option, Some, map, sym, ap, ◌∙◌}
use Rattle.std.specs.Prelude.{flat_map}
use Rattle.grid_model.specs.Names.{Text}
use Rattle.grid_model.specs.Grid.{Grid, Replica, Triple}
use Rattle.grid_model.specs.QueryRows.{Combination}
use Rattle.grid_model.specs.declared.queries.Query.{Query}
use Rattle.query_run.specs.Shown.{rows_if, shown_triple, shown_replica}
use Rattle.query_run.proofs.ListLemmas.{flat-map}

-- all is added where a test holds
pub all_added : (b : Bool) (more : List (List Text)) → b ≡ true → more ≡ rows_if b more
all_added b more holds = ap (λ x. rows_if x more) (sym holds)

module _ (g : Grid) (q : Query) (c : Combination) where
  -- with each of those that the rows have
  pub many_triples : {W : Type 0} (at : W → Triple) (ws : List W) → flat_map (λ w. shown_triple g q (record c { triple = Some (at w) })) ws ≡ flat_map (λ t. shown_triple g q (record c { triple = t })) (map Some (map at ws))
  many_triples at ws =
      sym (flat-map (λ (t : Option Triple). shown_triple g q (record c { triple = t })) Some (map at ws) ∙ flat-map (λ (t : Triple). shown_triple g q (record c { triple = Some t })) at ws)

  module _ (ts : List (Option Triple)) where
    pub many_replicas : {W : Type 0} (at : W → ℕ × Replica) (ws : List W)
        → flat_map (λ w. shown_replica g q ts (record c { replica = Some (at w) })) ws ≡ flat_map (λ r. shown_replica g q ts (record c { replica = r })) (map Some (map at ws))
    many_replicas at ws =
        sym (flat-map (λ (r : Option (ℕ × Replica)). shown_replica g q ts (record c { replica = r })) Some (map at ws)
        ∙ flat-map (λ (r : ℕ × Replica). shown_replica g q ts (record c { replica = Some r })) at ws)
