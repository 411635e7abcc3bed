-- Failures at the end of a line.
use Rattle.std.specs.Prelude.{◌≡◌, ℕ, List, [], ◌∷◌, ◌++◌, codes}
use Rattle.grid_model.specs.Names.{Text}
use Rattle.grid_model.specs.Printing.{print_failure, print_rule_cause, print_tree_cause, print_what}
use Rattle.grid_model.specs.ReplySpelling.{FitsFailure}
use Rattle.grid_model.specs.declared.refusal.Refusal.{Refusal}
use Rattle.grid_model.specs.declared.refusal.Refusal.TheVariants as refusal
use Rattle.grid_model.specs.declared.refusal.Failure.{Failure}
use Rattle.grid_model.specs.declared.refusal.Failure.TheVariants as failure
use Rattle.reply_fields.specs.Fronts.{Then}
use Rattle.reply_fields.specs.SignedLines.{IsSignedLine}
use Rattle.reply_reader.specs.Fields.{IsDigestField, IsField, IsPrinted}
use Rattle.reply_reader.specs.Images.{Image}
use Rattle.reply_reader.specs.declared.heads.Head.{Head}
use Rattle.reply_reader.specs.declared.heads.Head.TheVariants as head
use Rattle.reply_reader.specs.declared.heads.Numbered.{Numbered}
use Rattle.reply_reader.specs.declared.heads.Numbered.TheVariants as kind

-- a failure as it is printed, and a newline
pub record IsFailureLine (text : Text) (read : Failure) : Type 0 where
  pub fits : FitsFailure read
  pub is : text ≡ print_failure read ++ 0x0A ∷ []

-- the refusal with this number
abbrev pub refusal_numbered : Numbered → ℕ → Refusal
refusal_numbered kind.Syntax n = refusal.Syntax n
refusal_numbered kind.BadWord n = refusal.BadWord n
refusal_numbered kind.BadPath n = refusal.BadPath n
refusal_numbered kind.BadName n = refusal.BadName n
refusal_numbered kind.TooLarge n = refusal.TooLarge n
refusal_numbered kind.BadTriple n = refusal.BadTriple n
refusal_numbered kind.NoSlot n = refusal.NoSlot n
refusal_numbered kind.BadQuery n = refusal.BadQuery n

-- its name and a space
abbrev pub numbered_name : Numbered → Text
numbered_name kind.Syntax = codes "Syntax "
numbered_name kind.BadWord = codes "BadWord "
numbered_name kind.BadPath = codes "BadPath "
numbered_name kind.BadName = codes "BadName "
numbered_name kind.TooLarge = codes "TooLarge "
numbered_name kind.BadTriple = codes "BadTriple "
numbered_name kind.NoSlot = codes "NoSlot "
numbered_name kind.BadQuery = codes "BadQuery "

-- what the line of a failure begins with, up to its fields
abbrev pub head_name : Head → Text
head_name (head.Plain f) = print_failure f ++ 0x0A ∷ []
head_name (head.Numbered k) = numbered_name k
head_name head.Truncated = codes "Truncated "
head_name head.TooMany = codes "TooMany "
head_name head.BadTree = codes "BadTree "
head_name head.BadRule = codes "BadRule "
head_name head.Fault = codes "Fault "
head_name head.Damaged = codes "Damaged "
head_name head.Code = codes "Code "

-- those that there are
abbrev pub heads : List Head
heads =
    head.Plain (failure.Refused refusal.TooLong)
    ∷ head.Numbered kind.Syntax
    ∷ head.Plain (failure.Refused refusal.UnknownCommand)
    ∷ head.Numbered kind.BadWord
    ∷ head.Numbered kind.BadPath
    ∷ head.Numbered kind.BadName
    ∷ head.Truncated
    ∷ head.Plain (failure.Refused refusal.NoLogin)
    ∷ head.Plain (failure.Refused refusal.Open)
    ∷ head.Plain (failure.Refused refusal.NoUpload)
    ∷ head.Numbered kind.TooLarge
    ∷ head.TooMany
    ∷ head.Numbered kind.BadTriple
    ∷ head.Plain (failure.Refused refusal.NoUser)
    ∷ head.Plain (failure.Refused refusal.NoMember)
    ∷ head.Plain (failure.Refused refusal.NoCollection)
    ∷ head.Plain (failure.Refused refusal.NoObject)
    ∷ head.Plain (failure.Refused refusal.NoResource)
    ∷ head.Numbered kind.NoSlot
    ∷ head.Plain (failure.Refused refusal.NoTarget)
    ∷ head.Plain (failure.Refused refusal.NoReplica)
    ∷ head.Plain (failure.Refused refusal.NoTriple)
    ∷ head.Plain (failure.Refused refusal.NoAccess)
    ∷ head.Plain (failure.Refused refusal.NotAdmin)
    ∷ head.Plain (failure.Refused refusal.Exists)
    ∷ head.Plain (failure.Refused refusal.NotEmpty)
    ∷ head.Plain (failure.Refused refusal.Fixed)
    ∷ head.Plain (failure.Refused refusal.Inside)
    ∷ head.Plain (failure.Refused refusal.LastGood)
    ∷ head.BadTree
    ∷ head.BadRule
    ∷ head.Numbered kind.BadQuery
    ∷ head.Fault
    ∷ head.Damaged
    ∷ head.Code
    ∷ head.Plain failure.NoRule
    ∷ head.Plain failure.Depth
    ∷ head.Plain failure.Spent
    ∷ head.Plain failure.LongText
    ∷ head.Plain failure.Stopped
    ∷ []

abbrev pub most_u64 : ℕ
most_u64 = 18446744073709551615

-- What stands behind the head: the fields, in their order.
abbrev pub IsBehind : Head → Text → Failure → Type 0
IsBehind (head.Plain f) = λ text read. (text ≡ []) × (read ≡ f)
IsBehind (head.Numbered k) = Image (λ n. failure.Refused (refusal_numbered k n)) (IsField most_u64 0x0A)
IsBehind head.Truncated = Then (IsField most_u64 0x20) (λ have. Image (λ want. failure.Refused (refusal.Truncated have want)) (IsField most_u64 0x0A))
IsBehind head.TooMany = Then (IsPrinted print_what 0x20) (λ what. Image (λ limit. failure.Refused (refusal.TooMany what limit)) (IsField most_u64 0x0A))
IsBehind head.BadTree = Image (λ cause. failure.Refused (refusal.BadTree cause)) (IsPrinted print_tree_cause 0x0A)
IsBehind head.BadRule = Then (IsField most_u64 0x20) (λ place. Image (λ cause. failure.Refused (refusal.BadRule place cause)) (IsPrinted print_rule_cause 0x0A))
IsBehind head.Fault = Image (λ slot. failure.Refused (refusal.Fault slot)) (IsField 255 0x0A)
IsBehind head.Damaged =
    Then (IsField 255 0x20) (λ slot.
    Then (IsField most_u64 0x20) (λ size.
    Then (IsDigestField 0x20) (λ digest.
    Then (IsField most_u64 0x20) (λ len.
    Image (λ found. failure.Refused (refusal.Damaged slot size digest len found)) (IsDigestField 0x0A)))))
IsBehind head.Code = Image failure.Code IsSignedLine
