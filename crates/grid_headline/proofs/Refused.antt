-- What may not be found after a stop in the put of the scene: a told mark that is not kept, and an acknowledged put that is not
-- done.
use Rattle.std.proofs.Common.{arith, ◌≡◌, ℕ, [], ◌∷◌, refl, sym, ap, subst, inl, inr}
use Rattle.std.specs.Prelude.{◌⊎◌, Ok, codes, length}
use Rattle.std.specs.Fmt.{digits}
use Rattle.grid_model.specs.Names.{Text}
use Rattle.grid_model.specs.Rows.{Cat}
use Rattle.grid_model.specs.Grid.{Grid}
use Rattle.grid_model.specs.RowGrids.{grid_of}
use Rattle.grid_journal.specs.Stands.{Stands}
use Rattle.grid_headline.specs.Stops.{OneImage, IsBeforeRun, IsInRun, IsTold}
use Rattle.grid_headline.proofs.Scene.{found, ran}
use Rattle.grid_headline.proofs.Scene.{put_done}
use Rattle.grid_headline.proofs.PutStops.{run, before, the_catalogue}

module _ (known : ℕ → Type 0) where
  -- what is said of the catalogue of an image is said of the one that its disks stand for
  at_cat : (main spare sink : Text) (s : Stands main spare (Ok (before known))) (one : OneImage (run known) [] (record {
    main = main;
    spare = spare;
    sink = sink;
  }))
      (P : Cat → Type 0) → P one.cat → P (before known)
  at_cat main spare sink s one P p = subst P (the_catalogue main spare (before known) one.cat s one.stands) p

  -- the told mark of the put is not kept
  pub told_and_not_kept : (main spare : Text) → Stands main spare (Ok (before known))
      → ¬ OneImage (run known) [] (record { main = main; spare = spare; sink = codes "1 ok\n2 mark ran 7 1000\n" })
  unfolding digits
  told_and_not_kept main spare s one =
      let P : Cat → Text → Type 0 = λ c t. IsTold (run known) c (length t) in
      let told : IsTold (run known) (before known) 23 =
      subst (λ t. P (before known) t) (sym one.sink) (at_cat main spare _ s one (λ c. P c one.part) one.told) in
      let none : ran ∷ [] ≡ [] = told.of_request refl (omega arith) in
      absurd (cc none)

  -- the put is acknowledged, and not done
  pub acknowledged_and_lost : (main spare : Text) → Stands main spare (Ok (before known))
      → ¬ OneImage (run known) [] (record { main = main; spare = spare; sink = codes "1 ok\n2 mark ran 7 1000\n2 ok\n" })
  unfolding digits
  acknowledged_and_lost main spare s one =
      let P : Cat → Text → Type 0 = λ c t. IsBeforeRun found (run known).report c (length t) ⊎ IsInRun (run known) c (length t) in
      let there : P (before known) one.part = at_cat main spare _ s one (λ c. P c one.part) one.on_the_way in
      by (subst (λ t. P (before known) t) (sym one.sink) there)
    where
      by : IsBeforeRun found (run known).report (before known) 28 ⊎ IsInRun (run known) (before known) 28 → ⊥
      by (inl r) = absurd (omega (arith, r.number))
      by (inr r) = let e : grid_of (before known) ≡ put_done.state.grid = r.at in let n : 0 ≡ 1 = ap (λ (g : Grid). length g.objects.entries) e in
          absurd (omega (arith, n))
