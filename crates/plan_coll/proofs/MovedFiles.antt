-- An object that is moved names the files that it named.
use Rattle.std.proofs.Common.{◌≡◌, ◌≢◌, ℕ, List, [], Ok, Some, inl, inr, IsTrue, refl, sym, ap, ◌∙◌}
use Rattle.std.specs.List.{list_all}
use Rattle.std.proofs.lemmas.Bool.Decides.{eqb_tells}
use Rattle.std.proofs.lemmas.Option.{same_Some}
use Rattle.grid_model.specs.Names.{Text}
use Rattle.grid_model.specs.Rows.{Cat, object}
use Rattle.grid_model.specs.RowGrids.{grid_of}
use Rattle.grid_model.specs.Applying.{apply_all}
use Rattle.grid_model.specs.Whole.{IsLikeObject, Naming, by_replica, by_orphan, Names}
use Rattle.grid_model.specs.Deeds.{changes}
use Rattle.grid_model.specs.Operations.Table.{Operation, row}
use Rattle.grid_model.specs.declared.deltas.Delta.{Delta}
use Rattle.grid_model.specs.declared.deltas.ObjectRow.{ObjectRow}
use Rattle.grid_model.specs.declared.deltas.ReplicaRow.{ReplicaRow}
use Rattle.grid_journal.specs.Journal.{can_be_kept}
use Rattle.file_laws.specs.Plans.{Turns}
use Rattle.file_laws.proofs.Turning.{file_as_before}
use Rattle.tables_laws.proofs.Forest.{with_object}
use Rattle.tables_laws.proofs.Numbered.{put_found, put_other}
use Rattle.tables_laws.proofs.Rows.{in_from_all, all_from_in}
use Rattle.plan_base.specs.Plans.{Changes}

module _ (c : Cat) (r old : ObjectRow) (found : object c r.id ≡ Some old) (sizes : r.size ≡ old.size) (digests : r.digest ≡ old.digest) where
  abbrev d : Cat
  d = with_object c r

  like : (x : ReplicaRow) → IsLikeObject c x → IsLikeObject d x
  like x its = elim (eqb_tells x.object r.id) [
    | inl is ↦
        let same : its.row ≡ old = same_Some its.row old (sym its.there ∙ ap (object c) is.1 ∙ found) in
        record {
          row = r;
          there = ap (object d) is.1 ∙ put_found (λ (o : ObjectRow). o.id) c.objects r;
          size = its.size ∙ ap (λ (o : ObjectRow). o.size) same ∙ sym sizes;
          digest = its.digest ∙ ap (λ (o : ObjectRow). o.digest) same ∙ sym digests;
        }
    | inr other ↦ record { row = its.row; there = put_other (λ (o : ObjectRow). o.id) c.objects r x.object other.1 ∙ its.there; size = its.size; digest = its.digest }
  ]

  still : (slot name : ℕ) (x : Naming) → Names c slot name x → Names d slot name x
  still slot name (by_replica x) n = n
  still slot name (by_orphan x) n = n

  back : (slot name : ℕ) (x : Naming) → Names d slot name x → Names c slot name x
  back slot name (by_replica x) n = n
  back slot name (by_orphan x) n = n

  turns : Turns [] [] c d
  turns = record {
    rows = λ good. all_from_in _ c.replicas (λ x here is. like x (in_from_all (λ (y : ReplicaRow). IsTrue y.good → IsLikeObject c y) c.replicas good x here is));
    good = λ slot. all_from_in _ c.replicas (λ x here good at. file_as_before [] [] c slot x here good at);
    named = λ slot name n. record { row = n.row; names = still slot name n.row n.names; only = λ x its. n.only x (back slot name x its) };
  }

  pub plan_of_object : (user : Text) (op : Operation) (deltas : List Delta) → IsTrue (list_all can_be_kept deltas) → apply_all c deltas ≡ Ok d → row (grid_of c) user op ≡ Ok (changes (grid_of d)) → grid_of d ≢ grid_of c → Changes c user op deltas
  plan_of_object user op deltas spelled applied row_is other = record {
    after = d;
    applied = applied;
    spelled = spelled;
    row_is = row_is;
    turns = turns;
    names = λ slot name x n. (x, back slot name x n);
    numbers = refl;
    pending = refl;
    rules = refl;
    stores = refl;
    still = inr other;
  }
