-- The run of the scene, where the put is cut short before it comes to its mark: of its reply nothing is sure, and no byte of it is shown.
use Rattle.std.proofs.Common.{arith, ◌≡◌, ℕ, List, [], ◌∷◌, ◌++◌, refl, ap, inr, length-append}
use Rattle.std.specs.Prelude.{◌<◌, Ok, codes, length}
use Rattle.std.specs.Fmt.{digits}
use Rattle.grid_model.specs.Names.{Text}
use Rattle.grid_journal.specs.Stands.{Stands}
use Rattle.grid_headline.specs.Served.{Run, IsSure, but_last, cut, joined_texts, reached, reply_texts, sure_text}
use Rattle.grid_headline.specs.Stops.{OneImage}
use Rattle.grid_headline.proofs.Scene.{found, has_no_rules, input, login_done, put_done}
use Rattle.grid_headline.proofs.PutStops.{before, keeps_before}
use Rattle.grid_headline.proofs.PutStops as whole

module _ (known : ℕ → Type 0) where
  -- of the mark that the put would have come to there is no text
  pub of_put : IsSure known 2 put_done [] []
  of_put = cut (let one : length put_done.reply.marks ≡ 1 = refl in omega (arith, one)) tt refl

  abbrev of_login : Text
  of_login = joined_texts (reply_texts 1 (login_done ∷ []) ([] ∷ []))

  abbrev pub run : Run known found input
  run = record (whole.run known) {
    pieces = [] ∷ [] ∷ [];
    sure = of_login ++ [];
    are_sure = but_last (login_done ∷ []) put_done ([] ∷ []) [] [] refl refl (tt, tt) of_put refl;
  }

  its_text : sure_text run ≡ codes "1 ok\n"
  unfolding digits
  its_text = refl

  -- the reply to the login is shown
  pub image_before : (main spare : Text) → Stands main spare (Ok (before known))
      → OneImage run [] (record { main = main; spare = spare; sink = codes "1 ok\n" })
  unfolding digits
  image_before main spare s = record {
    cat = before known;
    stands = s;
    part = codes "1 ok\n";
    more = [];
    sink = refl;
    split = refl;
    on_the_way = inr (record {
      number = refl;
      within = let e : reached run (before known) 5 ≡ 1 = refl in omega (arith, e);
      near = omega arith;
      rules = has_no_rules;
      at = refl;
    });
    told = record { of_request = λ e less. refl; of_report = tt };
    numbers = keeps_before known;
    stores = refl;
  }

  -- and nothing behind it, whatever the disks hold
  pub no_more_shown : (main spare : Text) → ¬ OneImage run [] (record { main = main; spare = spare; sink = codes "1 ok\n2 o" })
  no_more_shown main spare one =
      let sure : length (sure_text run) ≡ 5 = ap length its_text in
      let shown : 8 ≡ length one.part = ap length one.sink in
      absurd (omega (arith, sure, shown, ap length one.split, length-append one.part one.more))
