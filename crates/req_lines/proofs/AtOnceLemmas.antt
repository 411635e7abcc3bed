-- A whole request that is held is read without more of the source.
use Rattle.std.proofs.Common.{◌≡◌, ℕ, ◌+◌, ◌≤◌, true, false, [], ◌∷◌, ◌++◌, length, arith, refl, sym, subst, ap, ◌∙◌, append_assoc, length-append}
use Rattle.std.specs.Prelude.{Result, Err}
use Rattle.std.proofs.lemmas.List.{append-nil}
use Rattle.grid_model.specs.Names.{Text}
use Rattle.grid_model.specs.Lines.{IsLine, is_request}
use Rattle.grid_model.specs.Inputs.{Asked, HasBody, Takes, takes_one, takes_blank}
use Rattle.req_lines.specs.Reading.{Input, ReadsLine}
use Rattle.req_lines.specs.declared.line_reader.Ended.TheVariants as ended
use Rattle.req_lines.proofs.HeadLemmas.{held_request, body_of_held}
use Rattle.req_lines.proofs.PromiseLemmas.{HasBody-unique}

-- a newline stands in no line
no_newline_in : (line rest : Text) → ¬ IsLine (line ++ 0x0A ∷ rest)
no_newline_in [] rest is = is.0 refl
no_newline_in (b ∷ line) rest is = no_newline_in line rest is.1

-- a line is split off in one way
split_once : (a b p q : Text) → IsLine a → IsLine b → a ++ 0x0A ∷ p ≡ b ++ 0x0A ∷ q → (a ≡ b) × (p ≡ q)
split_once [] [] p q one other e = (refl, cc e)
split_once [] (y ∷ b) p q one other e = let same : 0x0A ≡ y = cc e in absurd (other.0 (sym same))
split_once (x ∷ a) [] p q one other e = let same : x ≡ 0x0A = cc e in absurd (one.0 same)
split_once (x ∷ a) (y ∷ b) p q one other e =
    let head : x ≡ y = cc e in
    let tail : a ++ 0x0A ∷ p ≡ b ++ 0x0A ∷ q = cc e in
    let more = split_once a b p q one.1 other.1 tail in
    (λ i. head i ∷ more.0 i, more.1)

-- what is held has a whole line
pub not_line : (unread left : Text) (asked : Asked) → Takes unread (asked ∷ []) left → ¬ IsLine unread
not_line unread left asked (takes_one {rest = rest} line body e is some has more) all = no_newline_in line (body ++ rest) (subst IsLine (e ∙ append_assoc line (0x0A ∷ body) rest) all)
not_line unread left asked (takes_blank {rest = rest} line e is blank more) all = no_newline_in line rest (subst IsLine e all)

nothing_got : (got : Text) (n m : ℕ) → m ≡ n + length got → m ≡ n → got ≡ []
nothing_got [] n m is same = refl
nothing_got (b ∷ got) n m is same = absurd (omega (arith, is, same))

-- The first line of what is held was read without the source: it is one without words, and the request is behind it, or it is
-- that of the request.
pub data FirstLine (old mid : Input) (held : Text) (asked : Asked) (left : Text) : Type 0 where
  blank : is_request held ≡ false → Takes mid.reader.unread (asked ∷ []) left → FirstLine old mid held asked left
  request : (body more : Text) → is_request held ≡ true → HasBody held (length body) → mid.reader.unread ≡ body ++ more → FirstLine old mid held asked left

pub first_line : (old mid : Input) (held : Text) (asked : Asked) (left : Text) (reads : ReadsLine old ended.Line mid held) → mid.reader.taken ≡ old.reader.taken → Takes old.reader.unread (asked ∷ []) left
    → FirstLine old mid held asked left
first_line old mid held asked left reads same takes = by takes
  where
    nothing : reads.got ≡ []
    nothing = nothing_got reads.got old.reader.taken mid.reader.taken reads.ends.1.taken same

    split : old.reader.unread ≡ reads.line ++ 0x0A ∷ mid.reader.unread
    split = sym (append-nil old.reader.unread) ∙ ap (λ (t : Text). old.reader.unread ++ t) (sym nothing) ∙ reads.ends.0

    by : Takes old.reader.unread (asked ∷ []) left → FirstLine old mid held asked left
    by (takes_one {rest = rest} line body e is some has more) =
        let once = split_once reads.line line mid.reader.unread (body ++ rest) reads.is is (sym split ∙ e ∙ append_assoc line (0x0A ∷ body) rest) in
        let request_line : is_request held ≡ true = held_request held reads.line reads.held ∙ ap is_request once.0 ∙ some in
        let P : Text → Type 0 = λ t. HasBody t (length body) in
        request body rest request_line (subst P (sym reads.held) (body_of_held reads.line (length body) (subst P (sym once.0) has))) once.1
    by (takes_blank {rest = rest} line e is none more) =
        let once = split_once reads.line line mid.reader.unread rest reads.is is (sym split ∙ e) in
        blank (held_request held reads.line reads.held ∙ ap is_request once.0 ∙ none) (subst (λ (t : Text). Takes t (asked ∷ []) left) (sym once.1) more)

-- the body is held too
pub body_fits : (line body more unread : Text) (count : ℕ) → HasBody line count → HasBody line (length body) → unread ≡ body ++ more → count ≤ length unread
body_fits line body more unread count has same split = omega (arith, HasBody-unique line count (length body) has same, ap length split, length-append body more)

-- behind a line without words the request is held still
pub blank_line : (old mid : Input) (held : Text) (asked : Asked) (left : Text) (reads : ReadsLine old ended.Line mid held) → mid.reader.taken ≡ old.reader.taken → Takes old.reader.unread (asked ∷ []) left
    → is_request held ≡ false → Takes mid.reader.unread (asked ∷ []) left
blank_line old mid held asked left reads same takes none = by (first_line old mid held asked left reads same takes)
  where
    by : FirstLine old mid held asked left → Takes mid.reader.unread (asked ∷ []) left
    by (blank is more) = more
    by (request body more is has split) = absurd (cc (is, none))

-- the body of a request that is held whole
pub record HeldWhole (held : Text) (mid : Input) : Type 0 where
  pub body : Text
  pub more : Text
  pub has : HasBody held (length body)
  pub split : mid.reader.unread ≡ body ++ more

pub held_whole : (old mid : Input) (held : Text) (asked : Asked) (left : Text) (reads : ReadsLine old ended.Line mid held) → mid.reader.taken ≡ old.reader.taken → Takes old.reader.unread (asked ∷ []) left
    → is_request held ≡ true → (line : Text) → line ≡ held → HeldWhole line mid
held_whole old mid held asked left reads same takes some line is = subst (λ (t : Text). HeldWhole t mid) (sym is) (by (first_line old mid held asked left reads same takes))
  where
    by : FirstLine old mid held asked left → HeldWhole held mid
    by (blank none more) = absurd (cc (none, some))
    by (request body more one has split) = record { body = body; more = more; has = has; split = split }

-- the error of an error
pub err_is : {T E : Type 0} {e f : E} → ◌≡◌ {A = Result T E} (Err e) (Err f) → e ≡ f
err_is is = cc is
