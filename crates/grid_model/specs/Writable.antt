-- Replies that can be written as lines, and read again. The format is this project's own.
use Rattle.std.specs.Prelude.{Bool, true, false, ◌&&◌}
use Rattle.std.specs.List.{list_all}
use Rattle.grid_model.specs.Names.{Text}
use Rattle.grid_model.specs.Words.{is_word_byte}
use Rattle.grid_model.specs.declared.refusal.Failure.{Failure}
use Rattle.grid_model.specs.declared.refusal.Failure.TheVariants.{Refused, Code, NoRule, Depth, Spent, LongText, Stopped}
use Rattle.grid_model.specs.declared.replies.Passed.{Passed}
use Rattle.grid_model.specs.declared.replies.End.{End}
use Rattle.grid_model.specs.declared.replies.End.TheVariants as end
use Rattle.grid_model.specs.declared.replies.Reply.{Reply}

-- no byte of it is below 0x20 or 0x7F
abbrev pub is_word : Text → Bool
is_word w = list_all is_word_byte w

-- The failure is the rule's own. One that is a refusal or a stop is the end of that name.
abbrev pub is_own_failure : Failure → Bool
is_own_failure (Refused r) = false
is_own_failure (Code n) = true
is_own_failure NoRule = true
is_own_failure Depth = true
is_own_failure Spent = true
is_own_failure LongText = true
is_own_failure Stopped = false

-- its name, its arguments and its failure are words
abbrev pub is_writable_passed : Passed → Bool
is_writable_passed p = is_word p.call.name && list_all is_word p.call.args && is_word p.failure

-- what it says are words, and a failure that stands alone is the rule's own
abbrev pub is_writable_end : End → Bool
is_writable_end (end.Done words) = list_all is_word words
is_writable_end (end.Refused r) = true
is_writable_end (end.PreFailed f) = true
is_writable_end (end.PostFailed f) = true
is_writable_end (end.Failed f) = is_own_failure f
is_writable_end end.Stopped = true

-- Each text but what is shown is a word, and each end has one form.
abbrev pub is_writable : Reply → Bool
is_writable r = list_all is_writable_passed r.passed && list_all (list_all is_word) r.rows && is_writable_end r.end
