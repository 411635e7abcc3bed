-- Parts of texts that were added to what there was.
use Rattle.std.proofs.Common.{◌≡◌, ◌++◌, length, take, refl, sym, ap, ◌∙◌, append_assoc, arith}
use Rattle.std.proofs.lemmas.List.{append-nil, append_cancel_left}
use Rattle.grid_outside.specs.Sink.{AddsPart}
use Rattle.grid_model.specs.Names.{Text}
use Rattle.call_laws.proofs.Told.{adds_behind}

-- none of a text
abbrev pub adds-none : (text old : Text) → AddsPart text old old
adds-none text old = record { count = 0; within = omega arith; is = sym (append-nil old) }

-- of the same text, to the same end
abbrev pub adds-as : (a b old new last : Text) → a ≡ b → last ≡ new → AddsPart a old new → AddsPart b old last
adds-as a b old new last same end adds = record {
  count = adds.count;
  within = omega (arith, adds.within, ap length same);
  is = end ∙ adds.is ∙ ap (λ (t : Text). old ++ take adds.count t) same;
}

-- Behind a part of a text comes a part of the rest of it.
abbrev pub adds-rest : (all rest old mid new : Text) → AddsPart all old mid → mid ++ rest ≡ old ++ all → AddsPart rest mid new → AddsPart all old new
adds-rest all rest old mid new first whole then =
    let a = take first.count all in
    let split : a ++ rest ≡ all = append_cancel_left old (a ++ rest) all (sym (append_assoc old a rest) ∙ ap (λ (t : Text). t ++ rest) (sym first.is) ∙ whole) in
    adds-as (a ++ rest) all old new new split refl (adds_behind a rest old mid new first.is then)
