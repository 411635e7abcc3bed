-- What a call of the reader of changes answered, as the answer of the whole.
use Rattle.std.proofs.Common.{◌≡◌, ℕ, ◌-◌, ◌<◌, true, false, eqb, List, [], ◌∷◌, ◌++◌, length, get_or, Ok, sym, ap, subst, ◌∙◌, append_assoc}
use Rattle.std.proofs.lemmas.Bool.{eqb-true}
use Rattle.std.proofs.lemmas.List.{append-nil, nil_from_length}
use Rattle.grid_model.specs.Names.{Text}
use Rattle.grid_model.specs.Deltas.{spelling, SpellsDeltas}
use Rattle.grid_model.specs.Places.{IsRefusedAt}
use Rattle.grid_model.specs.declared.deltas.Delta.{Delta}
use Rattle.row_codec.specs.declared.stop.Stop.{Stop}
use Rattle.row_codec.specs.declared.stop.Stop.TheVariants as stop
use Rattle.row_codec.specs.declared.error.CodecError.TheVariants.{BadRecord}
use Rattle.row_codec.specs.Reading.{StopsReading}
use Rattle.row_codec.specs.Rows.{delta_at}
use Rattle.row_codec.specs.Stopping.{IsWithin, codec_error_of}
use Rattle.row_codec.proofs.ReaderLaws.{IsBytes, IsBytes-behind}
use Rattle.row_codec.proofs.DeltaLaws.{delta_law}
use Rattle.row_codec.proofs.Spelled.{AllFit, AllFit-push, spellings, spellings-push, IsBytes-each, shorter, within, IsRefusedAt-left}

rest_fits : (bytes s : Text) (ds : List Delta) → ((i : ℕ) → get_or bytes i 0 < 256) → bytes ≡ spellings ds ++ s → IsBytes s
rest_fits bytes s ds fit is = IsBytes-behind (spellings ds) s (subst IsBytes is (IsBytes-each bytes fit))

pub stop_within : (bytes s : Text) (ds : List Delta) (e : Stop) → ((i : ℕ) → get_or bytes i 0 < 256) → bytes ≡ spellings ds ++ s → StopsReading e (delta_at s) → IsWithin e (length bytes)
stop_within bytes s ds stop.Memory fit is h = tt
stop_within bytes s ds (stop.Broken left) fit is h = within bytes s ds left (rest_fits bytes s ds fit is) is h

pub stop_refuses : (bytes s : Text) (ds : List Delta) (e : Stop) → ((i : ℕ) → get_or bytes i 0 < 256) → AllFit ds → bytes ≡ spellings ds ++ s → (s ≡ [] → ⊥) → StopsReading e (delta_at s)
    → (at : ℕ) → codec_error_of e (length bytes) ≡ BadRecord at → IsRefusedAt SpellsDeltas bytes at
stop_refuses bytes s ds stop.Memory bytes_fit fit is some h at e = absurd cc
stop_refuses bytes s ds (stop.Broken left) bytes_fit fit is some h at e =
    let place : length bytes - left ≡ at = cc in
    subst (λ n. IsRefusedAt SpellsDeltas bytes n) place (IsRefusedAt-left bytes s ds left (rest_fits bytes s ds bytes_fit is) fit is some h)

-- one change more
pub taken : (bytes s : Text) (ds : List Delta) (d : Delta) (rest : Text) → ((i : ℕ) → get_or bytes i 0 < 256) → AllFit ds → bytes ≡ spellings ds ++ s → delta_at s ≡ Ok (d, rest)
    → (AllFit (ds ++ d ∷ [])) × (bytes ≡ spellings (ds ++ d ∷ []) ++ rest) × (length rest < length s)
taken bytes s ds d rest bytes_fit fit is h =
    let t = delta_law.takes s d rest (rest_fits bytes s ds bytes_fit is) h in
    (AllFit-push ds d fit t.0, is ∙ ap (λ u. spellings ds ++ u) t.1 ∙ sym (append_assoc (spellings ds) (spelling d) rest) ∙ ap (λ u. u ++ rest) (sym (spellings-push ds d)), shorter d s rest t.0 t.1)

-- bytes are left, and none are
pub some_left : (s : Text) → false ≡ eqb (length s) 0 → s ≡ [] → ⊥
some_left s h e = let never : false ≡ true = h ∙ ap (λ t. eqb (length t) 0) e in cc

pub all_read : (bytes s : Text) (ds : List Delta) → AllFit ds → bytes ≡ spellings ds ++ s → true ≡ eqb (length s) 0 → SpellsDeltas bytes ds
all_read bytes s ds fit is none = record { fit = fit; bytes_are = is ∙ ap (λ t. spellings ds ++ t) (nil_from_length s (eqb-true _ _ (sym none))) ∙ append-nil (spellings ds) }
