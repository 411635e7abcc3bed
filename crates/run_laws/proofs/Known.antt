-- What is known of fewer slots.
use Rattle.std.proofs.Common.{◌≡◌, ℕ, ◌+◌, Bool, true, false, List, [], ◌∷◌, ◌++◌, Option, Some, None}
use Rattle.std.specs.Prelude.{◌==◌}
use Rattle.std.specs.Bool.{MatchBool}
use Rattle.grid_model.specs.Names.{Text}
use Rattle.grid_model.specs.DataLines.{data_lines}
use Rattle.grid_model.specs.Replies.{mark_line}
use Rattle.grid_model.specs.Working.{Sent}
use Rattle.grid_model.specs.ReplyTexts.{SendsBytes, IsPiece, ArePieces}
use Rattle.grid_model.specs.declared.marks.Mark.{Mark}
use Rattle.grid_model.specs.declared.marks.Mark.TheVariants.{Ran, Fault, Bad, Stop}
use Rattle.run_laws.specs.Steps.{IsToldOf}

module _ (p q : ℕ → Type 0) (less : (slot : ℕ) → q slot → p slot) where
  sends-less : (s : Sent) (m : Mark) (bytes : List ℕ) → SendsBytes p s m bytes → SendsBytes q s m bytes
  sends-less s (Ran word now bad) bytes sends = sends
  sends-less s (Fault slot parts) bytes sends = (sends.0, λ k. sends.1 (less slot k))
  sends-less s (Bad slot len found parts) bytes sends = ((λ k. sends.0 (less slot k)), sends.1, sends.2)
  sends-less s Stop bytes sends = sends

  piece-less : (n place : ℕ) (sent : Option Sent) (m : Mark) (text : Text) → IsPiece p n place sent m text → IsPiece q n place sent m text
  piece-less n place None m text is = is
  piece-less n place (Some s) m text is = by (place == s.before) is
    where
      by : (b : Bool) → MatchBool b ((bytes : List ℕ) × SendsBytes p s m bytes × (text ≡ data_lines n bytes ++ mark_line n m)) (text ≡ mark_line n m)
          → MatchBool b ((bytes : List ℕ) × SendsBytes q s m bytes × (text ≡ data_lines n bytes ++ mark_line n m)) (text ≡ mark_line n m)
      by true sends = (sends.0, sends-less s m sends.0 sends.1, sends.2)
      by false is = is

  pub pieces-less : (n place : ℕ) (sent : Option Sent) (ms : List Mark) (ts : List Text) → ArePieces p n sent place ms ts → ArePieces q n sent place ms ts
  pieces-less n place sent [] [] are = tt
  pieces-less n place sent (m ∷ ms) (t ∷ ts) are = (piece-less n place sent m t are.0, pieces-less n (place + 1) sent ms ts are.1)
  pieces-less n place sent [] (t ∷ ts) are = absurd are
  pieces-less n place sent (m ∷ ms) [] are = absurd are

  pub told-less : (stores : ℕ) (m : Mark) → IsToldOf p stores m → IsToldOf q stores m
  told-less stores (Ran word now []) told = tt
  told-less stores (Ran word now (b ∷ bad)) told = (told.0, told.1, λ k. told.2 (less told.0 k))
  told-less stores (Fault slot sent) told = tt
  told-less stores (Bad slot len found sent) told = (told.0, λ k. told.1 (less slot k))
  told-less stores Stop told = absurd told
