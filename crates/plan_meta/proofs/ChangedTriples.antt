-- What a triple that is put or taken away makes of the grid, and what the rows of the operations come to then.
use Rattle.std.proofs.Common.{◌≡◌, ◌≢◌, inr, ◌+◌, Bool, true, false, List, [], ◌∷◌, length, Ok, Err, IsTrue, sym, ap, ◌∙◌}
use Rattle.std.specs.Prelude.{filter, not, ⊤, ◌&&◌}
use Rattle.std.specs.List.{list_all}
use Rattle.std.specs.Ordering.{eq_by_cmp}
use Rattle.std.proofs.lemmas.Bool.{and_from}
use Rattle.grid_model.specs.Maps.{has, add, remove}
use Rattle.grid_model.specs.MapLists.{size}
use Rattle.grid_model.specs.Names.{Text}
use Rattle.grid_model.specs.Grid.{Grid, Thing, Triple}
use Rattle.grid_model.specs.Refusing.{Or, ◌>>=◌, unless, refuse}
use Rattle.grid_model.specs.Bounds.{within}
use Rattle.grid_model.specs.Deeds.{Act, changes}
use Rattle.grid_model.specs.Rows.{Cat, with_row, item_there, triple_cmp}
use Rattle.grid_model.specs.RowPaths.{collection_path}
use Rattle.grid_model.specs.RowGrids.{grid_of, triple_of}
use Rattle.grid_model.specs.Applying.{IsMade, apply_all, where_fits, has_triple}
use Rattle.grid_model.specs.Operations.Metadata.{may_tag, words_fit}
use Rattle.grid_model.specs.Operations.Table.{addmeta, rmmeta, row}
use Rattle.grid_model.specs.declared.deltas.Delta.{Delta}
use Rattle.grid_model.specs.declared.deltas.Delta.TheVariants as delta
use Rattle.grid_model.specs.declared.deltas.Item.{Item}
use Rattle.grid_model.specs.declared.deltas.TripleRow.{TripleRow}
use Rattle.grid_model.specs.declared.refusal.Refusal.{Refusal}
use Rattle.grid_model.specs.declared.refusal.Refusal.TheVariants.{NoTriple, Exists}
use Rattle.grid_model.specs.declared.refusal.What.TheVariants as what
use Rattle.grid_journal.specs.Journal.{AreSpelled, can_be_kept}
use Rattle.tables_laws.proofs.GridOrders.{triple_cmp_total, triple_cmp-IsAntisymmetric}
use Rattle.tables_laws.proofs.Triples.{grid-with_triple, grid-without_triple}
use Rattle.plan_base.specs.Plans.{Changes}
use Rattle.plan_base.proofs.AtPaths.{sound_of}
use Rattle.plan_base.proofs.MapSizes.{size-put}
use Rattle.plan_base.proofs.Mere.{is_mere, plan_of}
use Rattle.plan_base.proofs.OtherMaps.{put-new, remove-there}
use Rattle.plan_meta.specs.Things.{IsItemOf, row_saying}
use Rattle.plan_meta.proofs.TripleRows.{has-triple, size-triples, there_kept}

-- ---- the rows of the operations, test by test

abbrev add_tests : Or ⊤ → Or ⊤ → Bool → Or ⊤ → Grid → Or Act
add_tests tag fit said room g = tag >>= (λ _. fit >>= (λ _. refuse said Exists >>= (λ _. room >>= (λ _. Ok (changes g)))))

abbrev drop_tests : Or ⊤ → Or ⊤ → Bool → Grid → Or Act
drop_tests tag fit said g = tag >>= (λ _. fit >>= (λ _. unless said NoTriple >>= (λ _. Ok (changes g))))

module _ (c : Cat) (made : IsMade c) (user : Text) (thing : Thing) (attribute value unit : Text) where
  abbrev triple : Triple
  triple = record { of = thing; attribute = attribute; value = value; unit = unit }

  abbrev added : Grid
  added = record (grid_of c) { triples = add (grid_of c).triples triple }

  abbrev removed : Grid
  removed = record (grid_of c) { triples = remove (grid_of c).triples triple }

  abbrev said : Bool
  said = has (grid_of c).triples triple

  abbrev room_is : Or ⊤
  room_is = within what.Triples (size (add (grid_of c).triples triple))

  module _ (may : may_tag (grid_of c) user thing ≡ Ok tt) (fit : Ok tt ≡ words_fit triple) (it : Item) (its : IsItemOf c thing it) where
    abbrev new : TripleRow
    new = row_saying it attribute value unit

    triple_is : triple_of c (collection_path c) new ≡ triple
    triple_is i = record { of = its.thing_is i; attribute = attribute; value = value; unit = unit }

    said_is : said ≡ has_triple c new
    said_is = ap (has (grid_of c).triples) (sym triple_is) ∙ has-triple c (sound_of c made) new its.there

    pub add_said : has_triple c new ≡ true → row (grid_of c) user (addmeta triple) ≡ Err Exists
    add_said is i = add_tests (may i) (sym fit i) ((said_is ∙ is) i) room_is added

    pub drop_unsaid : has_triple c new ≡ false → row (grid_of c) user (rmmeta triple) ≡ Err NoTriple
    drop_unsaid none i = drop_tests (may i) (sym fit i) ((said_is ∙ none) i) removed

    -- ---- one that is put

    module _ (none : has_triple c new ≡ false) where
      to_room : (room : Or ⊤) → room ≡ within what.Triples (length c.triples + 1) → row (grid_of c) user (addmeta triple) ≡ (room >>= (λ _. Ok (changes added)))
      to_room room is =
          (λ i. add_tests (may i) (sym fit i) ((said_is ∙ none) i) room_is added)
          ∙ ap (λ (r : Or ⊤). r >>= (λ _. Ok (changes added)))
          (ap (within what.Triples) (size-put triple_cmp_total (grid_of c).triples triple tt false (sym (said_is ∙ none)) ∙ ap (λ n. n + 1) (size-triples c (sound_of c made))) ∙ sym is)

      pub add_full : (r : Refusal) → Err r ≡ within what.Triples (length c.triples + 1) → row (grid_of c) user (addmeta triple) ≡ Err r
      add_full r is = to_room (Err r) is

      abbrev with_it : Cat
      with_it = record c { triples = with_row triple_cmp c.triples new }

      grid_with_it : grid_of with_it ≡ added
      grid_with_it = grid-with_triple c (sound_of c made) new its.there ∙ ap (λ (t : Triple). record (grid_of c) { triples = add (grid_of c).triples t }) triple_is

      other_with_it : grid_of with_it ≢ grid_of c
      other_with_it e = put-new triple_cmp_total triple_cmp-IsAntisymmetric (grid_of c).triples triple tt (said_is ∙ none) (ap (λ (g : Grid). g.triples) (sym grid_with_it ∙ e))

      pub planned_add : (x : ⊤) → Ok x ≡ within what.Triples (length c.triples + 1) → (deltas : List Delta) → deltas ≡ delta.Triple new ∷ []
          → IsTrue (list_all can_be_kept deltas) → Changes c user (addmeta triple) deltas
      planned_add x is deltas are spelled =
          plan_of c with_it user (addmeta triple) deltas (ap (list_all is_mere) are) spelled
          (ap (apply_all c) are
          ∙ (λ i. elim (where_fits (and_from (item_there c new.kind new.id) (not (has_triple c new)) its.there (ap not none) i) 11 with_it) [ Ok next ↦ apply_all next [] | Err cause ↦ Err cause ]))
          (to_room (Ok x) is ∙ ap (λ (g : Grid). Ok (changes g)) (sym grid_with_it)) (inr other_with_it)

    -- ---- one that goes

    module _ (is : has_triple c new ≡ true) where
      abbrev without_it : Cat
      without_it = record c { triples = filter (λ o. not (eq_by_cmp triple_cmp o new)) c.triples }

      grid_without_it : grid_of without_it ≡ removed
      grid_without_it = grid-without_triple c (sound_of c made) new its.there ∙ ap (λ (t : Triple). record (grid_of c) { triples = remove (grid_of c).triples t }) triple_is

      other_without_it : grid_of without_it ≢ grid_of c
      other_without_it e = remove-there triple_cmp_total triple_cmp-IsAntisymmetric (grid_of c).triples triple (said_is ∙ is) (ap (λ (g : Grid). g.triples) (sym grid_without_it ∙ e))

      pub planned_drop : AreSpelled c.triples → (deltas : List Delta) → deltas ≡ delta.NoTriple new ∷ [] → Changes c user (rmmeta triple) deltas
      planned_drop spelled deltas are =
          plan_of c without_it user (rmmeta triple) deltas (ap (list_all is_mere) are) (ap (list_all can_be_kept) are ∙ ap (λ b. b && true) (there_kept c new spelled is))
          (ap (apply_all c) are
          ∙ (λ i. elim (where_fits (and_from (item_there c new.kind new.id) (has_triple c new) its.there is i) 12 without_it) [ Ok next ↦ apply_all next [] | Err cause ↦ Err cause ]))
          ((λ i. drop_tests (may i) (sym fit i) ((said_is ∙ is) i) removed) ∙ ap (λ (g : Grid). Ok (changes g)) (sym grid_without_it)) (inr other_without_it)
