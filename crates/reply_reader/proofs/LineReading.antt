-- Reading the kind of a line, and the line.
use Rattle.std.proofs.Common.{◌≡◌, ℕ, zero, suc, ◌+◌, ◌-◌, ◌<◌, Bool, true, List, [], ◌∷◌, ◌++◌, Ok, Err, length, get_or, take, drop, map, refl, sym, ap, ◌∙◌, subst, arith, lit<, lit≤}
use Rattle.std.specs.Prelude.{Result, codes, decimal}
use Rattle.std.specs.List.{list_all}
use Rattle.std.proofs.lemmas.Bool.{and_parts, false≢true}
use Rattle.std.proofs.lemmas.List.{get_or-drop, get_or-map, length-map, take_rest}
use Rattle.grid_model.specs.Names.{Text}
use Rattle.grid_model.specs.Places.{Begins}
use Rattle.grid_model.specs.declared.replies.End.TheVariants as end
use Rattle.reply_fields.specs.declared.error.ReplyError.{ReplyError}
use Rattle.reply_fields.specs.Counted.{IsDataPart}
use Rattle.reply_fields.specs.Fronts.{IsRead, ReadsFrom, Then}
use Rattle.reply_fields.specs.Spelled.{IsNameOf}
use Rattle.reply_fields.proofs.Codes.{IsCode, IsCode-Then, reads_then}
use Rattle.reply_fields.proofs.CountedReading.{IsCode-data_part}
use Rattle.reply_fields.proofs.NameReading.{IsCode-names}
use Rattle.reply_reader.specs.Ends.{IsErrorEnd}
use Rattle.reply_reader.specs.Lines.{IsKindIn, IsReplyLine, IsRest, kind_name, may_come, skipped}
use Rattle.reply_reader.specs.MarkFields.{IsMark}
use Rattle.reply_reader.specs.WordFields.{IsPassed, IsWords}
use Rattle.reply_reader.specs.declared.lines.Kind.{Kind}
use Rattle.reply_reader.specs.declared.lines.Kind.TheVariants as kind
use Rattle.reply_reader.specs.declared.lines.Line.{Line}
use Rattle.reply_reader.specs.declared.lines.Line.TheVariants as line
use Rattle.reply_reader.specs.declared.lines.Phase.{Phase}
use Rattle.reply_reader.specs.declared.lines.Phase.TheVariants as phase
use Rattle.reply_reader.proofs.Readings.{mapped, reads_as, IsCode-as, IsCode-Image, begins_image, first_unread, same_entry}
use Rattle.reply_reader.proofs.FieldReading.{IsCode-one}
use Rattle.reply_reader.proofs.EndReading.{IsCode-end, begins_end}
use Rattle.reply_reader.proofs.MarkReading.{IsCode-mark, begins_mark}
use Rattle.reply_reader.proofs.WordFieldReading.{IsCode-passed, begins_passed, IsCode-words, begins_words}

-- ---- kinds

abbrev pub all_kinds : List Kind
all_kinds = kind.Data ∷ kind.Mark ∷ kind.Passed ∷ kind.Row ∷ kind.Good ∷ kind.Error ∷ []

abbrev pub kinds_from : Phase → List Kind
kinds_from p = drop (skipped p) all_kinds

all_at : (p : Kind → Bool) (ks : List Kind) (i : ℕ) (d : Kind) → list_all p ks ≡ true → i < length ks → p (get_or ks i d) ≡ true
all_at p [] i d h within = absurd (omega (arith, within))
all_at p (k ∷ ks) zero d h within = (and_parts (p k) (list_all p ks) h).0
all_at p (k ∷ ks) (suc i) d h within = all_at p ks i d (and_parts (p k) (list_all p ks) h).1 (omega (arith, within))

all_come : (p : Phase) → list_all (may_come p) (kinds_from p) ≡ true
all_come phase.Data = refl
all_come phase.Marks = refl
all_come phase.Passed = refl
all_come phase.Rows = refl

find : (p : Phase) (k : Kind) → may_come p k ≡ true → (i : ℕ) × (i < length (kinds_from p)) × (get_or (kinds_from p) i kind.Error ≡ k)
find phase.Data kind.Data h = (0, lit< tt, refl)
find phase.Data kind.Mark h = (1, lit< tt, refl)
find phase.Data kind.Passed h = (2, lit< tt, refl)
find phase.Data kind.Row h = (3, lit< tt, refl)
find phase.Data kind.Good h = (4, lit< tt, refl)
find phase.Data kind.Error h = (5, lit< tt, refl)
find phase.Marks kind.Data h = absurd (false≢true h)
find phase.Marks kind.Mark h = (0, lit< tt, refl)
find phase.Marks kind.Passed h = (1, lit< tt, refl)
find phase.Marks kind.Row h = (2, lit< tt, refl)
find phase.Marks kind.Good h = (3, lit< tt, refl)
find phase.Marks kind.Error h = (4, lit< tt, refl)
find phase.Passed kind.Data h = absurd (false≢true h)
find phase.Passed kind.Mark h = absurd (false≢true h)
find phase.Passed kind.Passed h = (0, lit< tt, refl)
find phase.Passed kind.Row h = (1, lit< tt, refl)
find phase.Passed kind.Good h = (2, lit< tt, refl)
find phase.Passed kind.Error h = (3, lit< tt, refl)
find phase.Rows kind.Data h = absurd (false≢true h)
find phase.Rows kind.Mark h = absurd (false≢true h)
find phase.Rows kind.Passed h = absurd (false≢true h)
find phase.Rows kind.Row h = (0, lit< tt, refl)
find phase.Rows kind.Good h = (1, lit< tt, refl)
find phase.Rows kind.Error h = (2, lit< tt, refl)

module _ (p : Phase) where
  abbrev pub names_from : List Text
  names_from = map kind_name (kinds_from p)

  to_kind : (s : Text) (i : ℕ) → IsNameOf names_from s i → IsKindIn p s (get_or (kinds_from p) i kind.Error)
  to_kind s i n =
      let within : i < length (kinds_from p) = omega (arith, n.within, length-map (kinds_from p) kind_name) in
      record { comes = all_at (may_come p) (kinds_from p) i kind.Error (all_come p) within; is = n.is ∙ get_or-map kind_name (kinds_from p) i kind.Error [] within }

  from_kind : (s : Text) (k : Kind) → IsKindIn p s k → (i : ℕ) × (k ≡ get_or (kinds_from p) i kind.Error) × IsNameOf names_from s i
  from_kind s k q =
      let f = find p k q.comes in (
        f.0,
        sym f.2,
        record {
          within = omega (arith, f.1, length-map (kinds_from p) kind_name);
          is = q.is ∙ ap kind_name (sym f.2) ∙ sym (get_or-map kind_name (kinds_from p) f.0 kind.Error [] f.1);
        },
      )

  reads_kind : (text : Text) (at : ℕ) (r : Result (ℕ × ℕ) ReplyError) → ReadsFrom (IsNameOf names_from) text at r → ReadsFrom (IsKindIn p) text at (mapped (λ i. get_or (kinds_from p) i kind.Error) r)
  reads_kind = reads_as (IsNameOf names_from) (IsKindIn p) (λ i. get_or (kinds_from p) i kind.Error) to_kind from_kind

apart : (p : Phase) → IsCode (IsNameOf (names_from p))
apart phase.Data = IsCode-names (names_from phase.Data) refl
apart phase.Marks = IsCode-names (names_from phase.Marks) refl
apart phase.Passed = IsCode-names (names_from phase.Passed) refl
apart phase.Rows = IsCode-names (names_from phase.Rows) refl

IsCode-kind : (p : Phase) → IsCode (IsKindIn p)
IsCode-kind p = IsCode-as (IsNameOf (names_from p)) (IsKindIn p) (λ i. get_or (kinds_from p) i kind.Error) (to_kind p) (from_kind p) (apart p)

error_comes : (p : Phase) → may_come p kind.Error ≡ true
error_comes phase.Data = refl
error_comes phase.Marks = refl
error_comes phase.Passed = refl
error_comes phase.Rows = refl

begins_kind : (p : Phase) → Begins (IsKindIn p) []
begins_kind p = record { more = codes "err "; value = kind.Error; spells = record { comes = error_comes p; is = refl } }

-- their names as a slice gives them
names_rest : {X : Type 0} (f : X → Text) (xs : List X) (n first : ℕ) (p : Phase) → n ≡ length xs → map f xs ≡ map kind_name all_kinds → first ≡ skipped p → map f (take (n - first) (drop first xs)) ≡ names_from p
names_rest f xs n first p size names is =
    (λ i. map f (take (size i - first) (drop first xs))) ∙ ap (map f) (take_rest xs first) ∙ sym (drop-map f first xs) ∙ (λ i. drop (is i) (names i)) ∙ drop-map kind_name (skipped p) all_kinds
  where
    drop-map : {X : Type 0} (f : X → Text) (k : ℕ) (xs : List X) → drop k (map f xs) ≡ map f (drop k xs)
    drop-map f zero xs = refl
    drop-map f (suc k) [] = refl
    drop-map f (suc k) (x ∷ xs) = drop-map f k xs

pub kind_unread : {X : Type 0} (f : X → Text) (xs : List X) (n first : ℕ) (p : Phase) (text : Text) (at : ℕ) (e : ReplyError) → ReadsFrom (IsNameOf (map f (take (n - first) (drop first xs)))) text at (Err e) → n ≡ length xs → map f xs ≡ map kind_name all_kinds → first ≡ skipped p → ReadsFrom (IsKindIn p) text at (Err e)
kind_unread f xs n first p text at e h size names is = reads_kind p text at (Err e) (subst (λ ns. ReadsFrom (IsNameOf ns) text at (Err e)) (names_rest f xs n first p size names is) h)

pub kind_read : {X : Type 0} (f : X → Text) (xs : List X) (n first : ℕ) (p : Phase) (text : Text) (at next i : ℕ) → IsRead (IsNameOf (map f (take (n - first) (drop first xs)))) text at i next → n ≡ length xs → map f xs ≡ map kind_name all_kinds → first ≡ skipped p → IsRead (IsKindIn p) text at (get_or all_kinds (first + i) kind.Data) next
kind_read f xs n first p text at next i h size names is =
    let read : IsRead (IsNameOf (names_from p)) text at i next = subst (λ ns. IsRead (IsNameOf ns) text at i next) (names_rest f xs n first p size names is) h in
    let within : i < length (kinds_from p) = omega (arith, read.front.spells.within, length-map (kinds_from p) kind_name) in
    let same : get_or (kinds_from p) i kind.Error ≡ get_or all_kinds (first + i) kind.Data =
    same_entry (kinds_from p) i kind.Error kind.Data within ∙ get_or-drop (skipped p) all_kinds i kind.Data ∙ ap (λ k. get_or all_kinds (k + i) kind.Data) (sym is) in
    subst (λ k. IsRead (IsKindIn p) text at k next) same (reads_kind p text at (Ok (i, next)) read)

-- ---- the rest of a line

pub begins_data : Begins IsDataPart []
begins_data = let bytes : Text = 0x61 ∷ [] in record { more = decimal (length bytes) ++ 0x0A ∷ bytes ++ 0x0A ∷ []; value = bytes; spells = record { some = lit≤ tt; most = lit≤ tt; is = refl } }

begins_rest : (k : Kind) → Begins (IsRest k) []
begins_rest kind.Data = begins_image line.Data IsDataPart begins_data
begins_rest kind.Mark = begins_image line.Mark IsMark begins_mark
begins_rest kind.Passed = begins_image line.Passed IsPassed begins_passed
begins_rest kind.Row = begins_image line.Row IsWords begins_words
begins_rest kind.Good = begins_image (λ words. line.End (end.Done words)) IsWords begins_words
begins_rest kind.Error = begins_image line.End IsErrorEnd begins_end

IsCode-rest : (k : Kind) → IsCode (IsRest k)
IsCode-rest kind.Data = IsCode-Image line.Data IsDataPart IsCode-data_part
IsCode-rest kind.Mark = IsCode-Image line.Mark IsMark IsCode-mark
IsCode-rest kind.Passed = IsCode-Image line.Passed IsPassed IsCode-passed
IsCode-rest kind.Row = IsCode-Image line.Row IsWords IsCode-words
IsCode-rest kind.Good = IsCode-Image (λ words. line.End (end.Done words)) IsWords IsCode-words
IsCode-rest kind.Error = IsCode-Image line.End IsErrorEnd IsCode-end

-- ---- the whole line

module _ (first : Text) (p : Phase) where
  abbrev Numbered : ℕ → Text → Line → Type 0
  Numbered i = Then (IsKindIn p) IsRest

  begins_numbered : (i : ℕ) → Begins (Then (IsKindIn p) IsRest) []
  begins_numbered i =
      let b = begins_kind p in
      let r = begins_rest b.value in
      record { more = b.more ++ r.more; value = r.value; spells = record { first = b.more; second = r.more; begun = b.value; split = refl; spells_first = b.spells; spells_second = r.spells } }

  pub line_unread : (text : Text) (at : ℕ) (e : ReplyError) → ReadsFrom (IsNameOf (first ∷ [])) text at (Err e) → ReadsFrom (IsReplyLine first p) text at (Err e)
  line_unread text at e h = first_unread (IsNameOf (first ∷ [])) (λ i. Then (IsKindIn p) IsRest) begins_numbered text at e h

  pub line_kind_unread : (text : Text) (at next i : ℕ) (e : ReplyError) → IsRead (IsNameOf (first ∷ [])) text at i next → ReadsFrom (IsKindIn p) text next (Err e) → ReadsFrom (IsReplyLine first p) text at (Err e)
  line_kind_unread text at next i e h rest = reads_then (IsNameOf (first ∷ [])) (λ i. Then (IsKindIn p) IsRest) (IsCode-one first) text at next i h (Err e) (first_unread (IsKindIn p) IsRest begins_rest text next e rest)

  pub line_read : (text : Text) (at next to i : ℕ) (k : Kind) → IsRead (IsNameOf (first ∷ [])) text at i next → IsRead (IsKindIn p) text next k to → (r : Result (Line × ℕ) ReplyError) → ReadsFrom (IsRest k) text to r → ReadsFrom (IsReplyLine first p) text at r
  line_read text at next to i k h g r rest = reads_then (IsNameOf (first ∷ [])) (λ i. Then (IsKindIn p) IsRest) (IsCode-one first) text at next i h r (reads_then (IsKindIn p) IsRest (IsCode-kind p) text next to k g r rest)

  pub IsCode-line : IsCode (IsReplyLine first p)
  IsCode-line = IsCode-Then (IsNameOf (first ∷ [])) (λ i. Then (IsKindIn p) IsRest) (IsCode-one first) (λ i. IsCode-Then (IsKindIn p) IsRest (IsCode-kind p) IsCode-rest)
