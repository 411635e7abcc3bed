-- Reading what stands behind `err`.
use Rattle.std.proofs.Common.{◌≡◌, ℕ, zero, suc, true, List, [], ◌∷◌, ◌++◌, Ok, Err, get_or, map, refl, sym, ap, ◌∙◌, subst, arith, lit<}
use Rattle.std.specs.Prelude.{Result, codes}
use Rattle.std.proofs.lemmas.Bool.{false≢true}
use Rattle.grid_model.specs.Names.{Text}
use Rattle.grid_model.specs.Places.{Begins}
use Rattle.grid_model.specs.Writable.{is_own_failure}
use Rattle.grid_model.specs.declared.refusal.Failure.{Failure}
use Rattle.grid_model.specs.declared.refusal.Failure.TheVariants as failure
use Rattle.grid_model.specs.declared.replies.End.{End}
use Rattle.grid_model.specs.declared.replies.End.TheVariants as end
use Rattle.reply_fields.specs.declared.error.ReplyError.{ReplyError}
use Rattle.reply_fields.specs.Fronts.{IsRead, ReadsFrom, Then}
use Rattle.reply_fields.specs.Spelled.{IsNameOf}
use Rattle.reply_fields.proofs.Codes.{IsCode, IsCode-Then, reads_then}
use Rattle.reply_fields.proofs.NameReading.{IsCode-names}
use Rattle.reply_reader.specs.Ends.{IsErrorEnd, end_of_failure}
use Rattle.reply_reader.specs.Failures.{IsBehind, IsFailureLine, head_name, heads}
use Rattle.reply_reader.specs.Images.{Image}
use Rattle.reply_reader.specs.declared.heads.Head.TheVariants as head
use Rattle.reply_reader.proofs.Readings.{mapped, reads_as, IsCode-as, reads_image, IsCode-Image, begins_image, first_unread}
use Rattle.reply_reader.proofs.FailureReading.{begins_behind, IsCode-behind}
use Rattle.reply_reader.proofs.FailureLines.{BehindHead, HeadThen, from_line, to_line, IsCode-failure, begins_failure}

abbrev pub err_names : List Text
err_names = codes "PreFailed " ∷ codes "PostFailed " ∷ map head_name heads

abbrev pub AfterErr : ℕ → Text → End → Type 0
AfterErr zero = Image end.PreFailed IsFailureLine
AfterErr (suc zero) = Image end.PostFailed IsFailureLine
AfterErr (suc (suc i)) = Image end_of_failure (BehindHead i)

abbrev pub ErrThen : Text → End → Type 0
ErrThen = Then (IsNameOf err_names) AfterErr

alone : (s : Text) (f : Failure) → IsFailureLine s f → IsErrorEnd s (end_of_failure f)
alone s (failure.Refused r) p = p
alone s failure.Stopped p = p
alone s (failure.Code n) p = (refl, p)
alone s failure.NoRule p = (refl, p)
alone s failure.Depth p = (refl, p)
alone s failure.Spent p = (refl, p)
alone s failure.LongText p = (refl, p)

to_end : (s : Text) (e : End) → ErrThen s e → IsErrorEnd s e
to_end s e t = by t.begun t.spells_first t.spells_second
  where
    by : (i : ℕ) → IsNameOf err_names t.first i → AfterErr i t.second e → IsErrorEnd s e
    by zero n a = subst (IsErrorEnd s) (sym a.is) (record { rest = t.second; split = t.split ∙ ap (λ x. x ++ t.second) n.is; spells = a.spells })
    by (suc zero) n a = subst (IsErrorEnd s) (sym a.is) (record { rest = t.second; split = t.split ∙ ap (λ x. x ++ t.second) n.is; spells = a.spells })
    by (suc (suc i)) n a = subst (IsErrorEnd s) (sym a.is) (alone s a.value (to_line s a.value (record {
      first = t.first;
      second = t.second;
      begun = i;
      split = t.split;
      spells_first = record { within = omega (arith, n.within); is = n.is };
      spells_second = a.spells;
    })))

shift : (s : Text) (f : Failure) → HeadThen s f → ErrThen s (end_of_failure f)
shift s f t = record {
  first = t.first;
  second = t.second;
  begun = suc (suc t.begun);
  split = t.split;
  spells_first = record { within = omega (arith, t.spells_first.within); is = t.spells_first.is };
  spells_second = record { value = f; is = refl; spells = t.spells_second };
}

own_end : (f : Failure) → is_own_failure f ≡ true → end_of_failure f ≡ end.Failed f
own_end (failure.Refused r) h = absurd (false≢true h)
own_end failure.Stopped h = absurd (false≢true h)
own_end (failure.Code n) h = refl
own_end failure.NoRule h = refl
own_end failure.Depth h = refl
own_end failure.Spent h = refl
own_end failure.LongText h = refl

from_end : (s : Text) (e : End) → IsErrorEnd s e → ErrThen s e
from_end s (end.Done words) p = absurd p
from_end s (end.Refused r) p = shift s (failure.Refused r) (from_line s (failure.Refused r) p)
from_end s (end.PreFailed f) p = record {
  first = codes "PreFailed ";
  second = p.rest;
  begun = 0;
  split = p.split;
  spells_first = record { within = lit< tt; is = refl };
  spells_second = record { value = f; is = refl; spells = p.spells };
}
from_end s (end.PostFailed f) p = record {
  first = codes "PostFailed ";
  second = p.rest;
  begun = 1;
  split = p.split;
  spells_first = record { within = lit< tt; is = refl };
  spells_second = record { value = f; is = refl; spells = p.spells };
}
from_end s (end.Failed f) p = subst (ErrThen s) (own_end f p.0) (shift s f (from_line s f p.1))
from_end s end.Stopped p = shift s failure.Stopped (from_line s failure.Stopped p)

begins_after : (i : ℕ) → Begins (AfterErr i) []
begins_after zero = begins_image end.PreFailed IsFailureLine begins_failure
begins_after (suc zero) = begins_image end.PostFailed IsFailureLine begins_failure
begins_after (suc (suc i)) = begins_image end_of_failure (BehindHead i) (begins_behind (get_or heads i head.Code))

IsCode-after : (i : ℕ) → IsCode (AfterErr i)
IsCode-after zero = IsCode-Image end.PreFailed IsFailureLine IsCode-failure
IsCode-after (suc zero) = IsCode-Image end.PostFailed IsFailureLine IsCode-failure
IsCode-after (suc (suc i)) = IsCode-Image end_of_failure (BehindHead i) (IsCode-behind (get_or heads i head.Code))

as_end : (text : Text) (at : ℕ) (r : Result (End × ℕ) ReplyError) → ReadsFrom ErrThen text at r → ReadsFrom IsErrorEnd text at (mapped (λ e. e) r)
as_end = reads_as ErrThen IsErrorEnd (λ e. e) to_end (λ s e p. (e, refl, from_end s e p))

IsCode-err_names : IsCode (IsNameOf err_names)
IsCode-err_names = IsCode-names err_names refl

pub end_unread : (text : Text) (at : ℕ) (e : ReplyError) → ReadsFrom (IsNameOf err_names) text at (Err e) → ReadsFrom IsErrorEnd text at (Err e)
end_unread text at e h = as_end text at (Err e) (first_unread (IsNameOf err_names) AfterErr begins_after text at e h)

end_then : (text : Text) (at next i : ℕ) → IsRead (IsNameOf err_names) text at i next → (r : Result (End × ℕ) ReplyError) → ReadsFrom (AfterErr i) text next r → ReadsFrom IsErrorEnd text at r
end_then text at next i h (Ok r) then = as_end text at (Ok r) (reads_then (IsNameOf err_names) AfterErr IsCode-err_names text at next i h (Ok r) then)
end_then text at next i h (Err e) then = as_end text at (Err e) (reads_then (IsNameOf err_names) AfterErr IsCode-err_names text at next i h (Err e) then)

pub pre_then : (text : Text) (at next i : ℕ) → IsRead (IsNameOf err_names) text at i next → i ≡ 0 → (r : Result (Failure × ℕ) ReplyError) → ReadsFrom IsFailureLine text next r → ReadsFrom IsErrorEnd text at (mapped end.PreFailed r)
pre_then text at next i h is r then = end_then text at next 0 (subst (λ k. IsRead (IsNameOf err_names) text at k next) is h) (mapped end.PreFailed r) (reads_image end.PreFailed IsFailureLine text next r then)

pub post_then : (text : Text) (at next i : ℕ) → IsRead (IsNameOf err_names) text at i next → i ≡ 1 → (r : Result (Failure × ℕ) ReplyError) → ReadsFrom IsFailureLine text next r → ReadsFrom IsErrorEnd text at (mapped end.PostFailed r)
post_then text at next i h is r then = end_then text at next 1 (subst (λ k. IsRead (IsNameOf err_names) text at k next) is h) (mapped end.PostFailed r) (reads_image end.PostFailed IsFailureLine text next r then)

pub head_then : (text : Text) (at next i j : ℕ) → IsRead (IsNameOf err_names) text at i next → i ≡ suc (suc j) → (r : Result (Failure × ℕ) ReplyError) → ReadsFrom (IsBehind (get_or heads j head.Code)) text next r → ReadsFrom IsErrorEnd text at (mapped end_of_failure r)
head_then text at next i j h is r then = end_then text at next (suc (suc j)) (subst (λ k. IsRead (IsNameOf err_names) text at k next) is h) (mapped end_of_failure r) (reads_image end_of_failure (BehindHead j) text next r then)

pub IsCode-end : IsCode IsErrorEnd
IsCode-end = IsCode-as ErrThen IsErrorEnd (λ e. e) to_end (λ s e p. (e, refl, from_end s e p)) (IsCode-Then (IsNameOf err_names) AfterErr IsCode-err_names IsCode-after)

pub begins_end : Begins IsErrorEnd []
begins_end = record { more = codes "Stopped" ++ 0x0A ∷ []; value = end.Stopped; spells = record { fits = tt; is = refl } }
