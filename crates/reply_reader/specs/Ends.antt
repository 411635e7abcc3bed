-- The last lines of replies that say what failed, from behind `err` on.
use Rattle.std.specs.Prelude.{◌≡◌, ◌++◌, IsTrue, codes}
use Rattle.grid_model.specs.Names.{Text}
use Rattle.grid_model.specs.Writable.{is_own_failure}
use Rattle.grid_model.specs.declared.refusal.Failure.{Failure}
use Rattle.grid_model.specs.declared.refusal.Failure.TheVariants as failure
use Rattle.grid_model.specs.declared.replies.End.{End}
use Rattle.grid_model.specs.declared.replies.End.TheVariants as end
use Rattle.reply_reader.specs.Failures.{IsFailureLine}

-- the end of a failure that stands alone
abbrev pub end_of_failure : Failure → End
end_of_failure (failure.Refused r) = end.Refused r
end_of_failure failure.Stopped = end.Stopped
end_of_failure (failure.Code n) = end.Failed (failure.Code n)
end_of_failure failure.NoRule = end.Failed failure.NoRule
end_of_failure failure.Depth = end.Failed failure.Depth
end_of_failure failure.Spent = end.Failed failure.Spent
end_of_failure failure.LongText = end.Failed failure.LongText

-- a failure behind these bytes
pub record IsFailureBehind (first : Text) (text : Text) (read : Failure) : Type 0 where
  pub rest : Text
  pub split : text ≡ first ++ rest
  pub spells : IsFailureLine rest read

-- what stands behind `err`
abbrev pub IsErrorEnd : Text → End → Type 0
IsErrorEnd text (end.Done words) = ⊥
IsErrorEnd text (end.Refused r) = IsFailureLine text (failure.Refused r)
IsErrorEnd text (end.PreFailed f) = IsFailureBehind (codes "PreFailed ") text f
IsErrorEnd text (end.PostFailed f) = IsFailureBehind (codes "PostFailed ") text f
IsErrorEnd text (end.Failed f) = IsTrue (is_own_failure f) × IsFailureLine text f
IsErrorEnd text end.Stopped = IsFailureLine text failure.Stopped
