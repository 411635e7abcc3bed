-- Reading whole texts as replies.
use Rattle.std.proofs.Common.{◌≡◌, ℕ, ◌+◌, ◌-◌, ◌^◌, ◌<◌, ◌≤◌, [], ◌∷◌, ◌++◌, Err, length, take, drop, refl, sym, ap, ◌∙◌, subst, arith, lit<, lit≤, append_assoc, length-append, inl, inr}
use Rattle.std.specs.Prelude.{◌⊎◌, Option, Some, None, Result, decimal}
use Rattle.std.proofs.lemmas.Bool.{cases_lt}
use Rattle.std.proofs.lemmas.List.{append-nil, length-drop, length-take-le, take_at, take-append-drop}
use Rattle.grid_model.specs.Names.{Text}
use Rattle.grid_model.specs.Places.{Begins, IsRefusedAt}
use Rattle.grid_model.specs.ReplySpelling.{SpellsReply}
use Rattle.grid_model.specs.Replies.{end_line}
use Rattle.grid_model.specs.declared.replies.End.TheVariants as end
use Rattle.grid_model.specs.declared.replies.Reply.{Reply}
use Rattle.reply_fields.specs.declared.error.ReplyError.{ReplyError}
use Rattle.reply_fields.specs.declared.error.ReplyError.TheVariants.{BadReply}
use Rattle.reply_fields.specs.Fronts.{IsNoFieldFront, IsRead, ReadsFrom, Then}
use Rattle.reply_fields.specs.Spelled.{IsNumber}
use Rattle.reply_fields.proofs.Codes.{IsCode, reads_first, shorter_first}
use Rattle.reply_fields.proofs.NumberReading.{IsCode-number}
use Rattle.reply_reader.specs.Failures.{most_u64}
use Rattle.reply_reader.specs.Lines.{IsReplyTo, kind_name}
use Rattle.reply_reader.specs.declared.lines.Phase.TheVariants as phase
use Rattle.reply_reader.proofs.Readings.{reads_as}
use Rattle.reply_reader.proofs.FieldReading.{only_end}
use Rattle.reply_reader.proofs.Assembling.{reading, LineAt, next_state, line_before, end_alone, over_at, Lines, codes_at}
use Rattle.reply_reader.proofs.LineTexts.{start, cut_line}
use Rattle.reply_reader.proofs.ReplyLines.{reply_of_lines}
use Rattle.reply_reader.proofs.ReplyTexts.{lines_of, end_lines}
use Rattle.reply_reader.proofs.Runs.{stops, goes, IsCode-Run}

-- ---- a whole text

module _ {A : Type 0} (P : Text → A → Type 0) where
  pub refused_at : (text : Text) (place : ℕ) → ReadsFrom P text 0 (Err (BadReply place)) → IsRefusedAt P text place
  refused_at text place r =
      let count : place - 0 ≡ place = omega arith in
      let none = subst (λ k. IsNoFieldFront P text k) count r.none in
      record { spells_nothing = λ a p. none.none text [] a (sym (append-nil text)) p; within = none.within; begins = none.begins; longest = none.longest }

  -- what was read is not all of the text
  pub refused_behind : IsCode P → (text : Text) (a : A) (end : ℕ) → IsRead P text 0 a end → end < length text → IsRefusedAt P text end
  refused_behind code text a end h more =
      let s = h.front.spelled in
      let size : length s ≡ end = omega (arith, h.within, ap length h.front.split, length-append s (drop end text), length-drop end text) in
      let front : take end text ≡ s = ap (take end) h.front.split ∙ take_at s (drop end text) end size in
      record {
        spells_nothing = λ b p.
            let same = code.only s text (drop end text) [] a b (sym h.front.split ∙ sym (append-nil text)) h.front.spells p in
            omega (arith, ap length same.0, size, more);
        within = omega (arith, more);
        begins = record { more = []; value = a; spells = subst (λ t. P t a) (sym (append-nil (take end text) ∙ front)) h.front.spells };
        longest = λ k later short b.
            let cut : length (take k text) ≡ k = length-take-le k text short in
            let whole : s ++ (drop (length s) (take k text) ++ b.more) ≡ (take k text ++ b.more) ++ [] =
            sym (append_assoc s (drop (length s) (take k text)) b.more) ∙ ap (λ t. t ++ b.more) (sym (shorter_first s (take k text) (drop end text) (drop k text) (sym h.front.split ∙ sym (take-append-drop k text)) (omega (arith, cut, size, later)))) ∙ sym (append-nil (take k text ++ b.more)) in
            let same = code.only s (take k text ++ b.more) (drop (length s) (take k text) ++ b.more) [] a b.value whole h.front.spells b.spells in
            omega (arith, ap length same.0, length-append (take k text) b.more, cut, size, later);
      }

  -- all of it was read
  pub whole_read : (text : Text) (a : A) (end : ℕ) → IsRead P text 0 a end → length text ≤ end → P text a
  whole_read text a end h all =
      let s = h.front.spelled in
      let same : text ≡ s = h.front.split ∙ ap (λ t. s ++ t) (nothing (drop end text) (omega (arith, length-drop end text, all))) ∙ append-nil s in
      subst (λ t. P t a) (sym same) h.front.spells
    where
      nothing : (t : Text) → length t ≡ 0 → t ≡ []
      nothing [] e = refl
      nothing (x ∷ t) e = absurd (omega (arith, e))

-- ---- the number in front

abbrev Number : Text → ℕ × ℕ → Type 0
Number = IsNumber 0 most_u64 (0x20 ∷ [])

IsCode-first : IsCode (IsNumber 0 most_u64 (0x20 ∷ []))
IsCode-first = IsCode-number 0 most_u64 (0x20 ∷ []) (record { small = omega arith; some = lit≤ tt; fits = lit< tt; any = omega arith; apart = refl })

spells_start : (n : ℕ) → n < 2 ^ 64 → IsNumber 0 most_u64 (0x20 ∷ []) (start n) (n, 0x20)
spells_start n small = record { least_is = omega arith; most_is = omega (arith, small); ends_is = refl; is = refl }

same_number : (n m : ℕ) (s t : Text) → n < 2 ^ 64 → m < 2 ^ 64 → start n ++ s ≡ start m ++ t → n ≡ m
same_number n m s t small also e = ap (λ x. x.0) (IsCode-first.only (start n) (start m) s t (n, 0x20) (m, 0x20) e (spells_start n small) (spells_start m also)).1

-- a reply begins with its number
lines_start : (n : ℕ) (text : Text) (r : Reply) → Lines (start n) (reading phase.Data) text r → (s : Text) × (text ≡ start n ++ s)
lines_start n text r (stops {b = b} f none) = let no : ◌≡◌ {A = Option Reply} None (Some r) = f in absurd cc
lines_start n text r (goes {first = first} {rest = rest} {a = l} f split part more is) =
    let c = cut_line n phase.Data first l part in
    ((kind_name c.kind ++ c.rest) ++ rest, split ∙ ap (λ t. t ++ rest) c.is ∙ append_assoc (start n) (kind_name c.kind ++ c.rest) rest)

reply_start : (text : Text) (read : ℕ × Reply) → SpellsReply text read → (s : Text) × (text ≡ start read.0 ++ s)
reply_start text read p = lines_start read.0 text read.1 (lines_of read.0 text read.1 (record { spells = p }))

IsCode-to : (n : ℕ) → n < 2 ^ 64 → IsCode (IsReplyTo n)
IsCode-to n small = record { only = λ s t u v a b e p q. (IsCode-Run (LineAt (start n)) next_state line_before over_at (codes_at (start n)) (reading phase.Data)).only s t u v a b e (lines_of n s a p) (lines_of n t b q) }

pub IsCode-reply : IsCode SpellsReply
IsCode-reply = record { only = only }
  where
    only : (s t u v : Text) (a b : ℕ × Reply) → s ++ u ≡ t ++ v → SpellsReply s a → SpellsReply t b → (s ≡ t) × (a ≡ b)
    only s t u v a b e p q =
        let x = reply_start s a p in
        let y = reply_start t b q in
        let number : a.0 ≡ b.0 = same_number a.0 b.0 (x.0 ++ u) (y.0 ++ v) p.number_fits q.number_fits
        (sym (append_assoc (start a.0) x.0 u) ∙ ap (λ z. z ++ u) (sym x.1) ∙ e ∙ ap (λ z. z ++ v) y.1 ∙ append_assoc (start b.0) y.0 v) in
        let same = (IsCode-to b.0 q.number_fits).only s t u v a.1 b.1 e (record { spells = subst (λ k. SpellsReply s (k, a.1)) number p }) (record { spells = q }) in
        (same.0, (λ i. (number i, same.1 i)))

-- ---- the number was not read

abbrev AfterNumber : ℕ × ℕ → Text → ℕ × Reply → Type 0
AfterNumber x s read = (read.0 ≡ x.0) × SpellsReply ((decimal x.0 ++ x.1 ∷ []) ++ s) (x.0, read.1)

pub number_unread : (text : Text) (e : ReplyError) → ReadsFrom (IsNumber 0 most_u64 (0x20 ∷ [])) text 0 (Err e) → ReadsFrom SpellsReply text 0 (Err e)
number_unread text e h = reads_as (Then (IsNumber 0 most_u64 (0x20 ∷ [])) AfterNumber) SpellsReply (λ x. x) to (λ s a p. (a, refl, from s a p)) text 0 (Err e)
    (reads_first (IsNumber 0 most_u64 (0x20 ∷ [])) AfterNumber text 0 e h begins)
  where
    to : (s : Text) (a : ℕ × Reply) → Then (IsNumber 0 most_u64 (0x20 ∷ [])) AfterNumber s a → SpellsReply s a
    to s a t =
        let p = t.spells_second in
        subst (λ x. SpellsReply x a) (sym (t.split ∙ ap (λ x. x ++ t.second) t.spells_first.is)) (subst (λ k. SpellsReply ((decimal t.begun.0 ++ t.begun.1 ∷ []) ++ t.second) (k, a.1)) (sym p.0) p.1)

    from : (s : Text) (a : ℕ × Reply) → SpellsReply s a → Then (IsNumber 0 most_u64 (0x20 ∷ [])) AfterNumber s a
    from s a p =
        let x = reply_start s a p in
        record { first = start a.0; second = x.0; begun = (a.0, 0x20); split = x.1; spells_first = spells_start a.0 p.number_fits; spells_second = (refl, subst (λ t. SpellsReply t a) x.1 p) }

    begins : (s : Text) (x : ℕ × ℕ) → IsNumber 0 most_u64 (0x20 ∷ []) s x → Begins (AfterNumber x) []
    begins s x p =
        let n = x.0 in
        let small : n < 2 ^ 64 = omega (arith, p.most_is) in
        let l = end_lines n phase.Data end.Stopped refl tt in
        let cut = lines_start n (end_line n end.Stopped) (end_alone end.Stopped) l in
        let reply = (reply_of_lines n (end_line n end.Stopped) (end_alone end.Stopped) small l).spells in
        record {
          more = cut.0;
          value = (n, end_alone end.Stopped);
          spells = (refl, subst (λ t. SpellsReply t (n, end_alone end.Stopped)) (cut.1 ∙ ap (λ b. (decimal n ++ b ∷ []) ++ cut.0) (sym (only_end 0x20 x.1 p.ends_is))) reply);
        }

-- ---- the number was read, and then the lines

pub reply_read : (n : ℕ) (text : Text) (r : Reply) (end : ℕ) → IsRead (IsReplyTo n) text 0 r end → IsRead SpellsReply text 0 (n, r) end
reply_read n text r end h = record { forward = h.forward; within = h.within; front = record { spelled = h.front.spelled; split = h.front.split; spells = h.front.spells.spells } }

pub reply_unread : (n : ℕ) (text x : Text) (place : ℕ) → n < 2 ^ 64 → text ≡ start n ++ x → ReadsFrom (IsReplyTo n) text 0 (Err (BadReply place)) → IsRefusedAt SpellsReply text place
reply_unread n text x place small is h =
    let r = refused_at (IsReplyTo n) text place h in
    let size : length text ≡ length (start n) + length x = ap length is ∙ length-append (start n) x in
    record {
      spells_nothing = λ a p.
          let y = reply_start text a p in
          let same : n ≡ a.0 = same_number n a.0 x y.0 small p.number_fits (sym is ∙ y.1) in
          r.spells_nothing a.1 (record { spells = subst (λ k. SpellsReply text (k, a.1)) (sym same) p });
      within = r.within;
      begins = record { more = r.begins.more; value = (n, r.begins.value); spells = r.begins.spells.spells };
      longest = λ k later short b. longest k later short b (at_least r size (cases_lt place (length (start n))));
    }
  where
    at_least : IsRefusedAt (IsReplyTo n) text place → length text ≡ length (start n) + length x → (place < length (start n)) ⊎ (length (start n) ≤ place) → length (start n) ≤ place
    at_least r size (inr h) = h
    at_least r size (inl early) =
        let l = end_lines n phase.Data end.Stopped refl tt in
        let cut = lines_start n (end_line n end.Stopped) (end_alone end.Stopped) l in
        let front : take (length (start n)) text ≡ start n = ap (take (length (start n))) is ∙ take_at (start n) x (length (start n)) refl in
        absurd (r.longest (length (start n)) early (omega (arith, size)) (record {
          more = cut.0;
          value = end_alone end.Stopped;
          spells = subst (λ t. IsReplyTo n t (end_alone end.Stopped)) (cut.1 ∙ ap (λ t. t ++ cut.0) (sym front)) (reply_of_lines n (end_line n end.Stopped) (end_alone end.Stopped) small l);
        }))

    longest : (k : ℕ) → place < k → k ≤ length text → Begins SpellsReply (take k text) → length (start n) ≤ place → ⊥
    longest k later short b least =
        let r = refused_at (IsReplyTo n) text place h in
        let y = reply_start (take k text ++ b.more) b.value b.spells in
        let cut : length (take k text) ≡ k = length-take-le k text short in
        let z : take k text ≡ start n ++ drop (length (start n)) (take k text) = shorter_first (start n) (take k text) x (drop k text) (sym is ∙ sym (take-append-drop k text)) (omega (arith, cut, least, later)) in
        let same : n ≡ b.value.0 = same_number n b.value.0 (drop (length (start n)) (take k text) ++ b.more) y.0 small b.spells.number_fits
        (sym (append_assoc (start n) (drop (length (start n)) (take k text)) b.more) ∙ ap (λ t. t ++ b.more) (sym z) ∙ y.1) in
        r.longest k later short (record { more = b.more; value = b.value.1; spells = record { spells = subst (λ m. SpellsReply (take k text ++ b.more) (m, b.value.1)) (sym same) b.spells } })

-- ---- what the reader answers

-- the text begins with the number that was read
pub number_split : (text : Text) (x : ℕ × ℕ) (next : ℕ) → IsRead (IsNumber 0 most_u64 (0x20 ∷ [])) text 0 x next → text ≡ start x.0 ++ drop next text
number_split text x next h = h.front.split ∙ ap (λ t. t ++ drop next text) (h.front.spells.is ∙ ap (λ b. decimal x.0 ++ b ∷ []) (only_end 0x20 x.1 h.front.spells.ends_is))

pub number_front : (text : Text) (x : ℕ × ℕ) (next : ℕ) → IsRead (IsNumber 0 most_u64 (0x20 ∷ [])) text 0 x next → take next text ≡ start x.0
number_front text x next h =
    let split = number_split text x next h in
    ap (take next) split ∙ take_at (start x.0) (drop next text) next (omega (arith, h.within, ap length split, length-append (start x.0) (drop next text), length-drop next text))

same_place : (e : ReplyError) (place : ℕ) → ◌≡◌ {A = Result (ℕ × Reply) ReplyError} (Err e) (Err (BadReply place)) → e ≡ BadReply place
same_place e place h = cc

pub number_refused : (text : Text) (e : ReplyError) (place : ℕ) → ReadsFrom (IsNumber 0 most_u64 (0x20 ∷ [])) text 0 (Err e) → ◌≡◌ {A = Result (ℕ × Reply) ReplyError} (Err e) (Err (BadReply place)) → IsRefusedAt SpellsReply text place
number_refused text e place h is = refused_at SpellsReply text place (subst (λ x. ReadsFrom SpellsReply text 0 (Err x)) (same_place e place is) (number_unread text e h))

pub lines_refused : (text : Text) (x : ℕ × ℕ) (next : ℕ) (e : ReplyError) (place : ℕ) → x.0 < 2 ^ 64 → IsRead (IsNumber 0 most_u64 (0x20 ∷ [])) text 0 x next → ReadsFrom (IsReplyTo x.0) text 0 (Err e) → ◌≡◌ {A = Result (ℕ × Reply) ReplyError} (Err e) (Err (BadReply place)) → IsRefusedAt SpellsReply text place
lines_refused text x next e place small h r is = reply_unread x.0 text (drop next text) place small (number_split text x next h) (subst (λ y. ReadsFrom (IsReplyTo x.0) text 0 (Err y)) (same_place e place is) r)

pub end_refused : (text : Text) (n : ℕ) (r : Reply) (end place : ℕ) → IsRead (IsReplyTo n) text 0 r end → end < length text → ◌≡◌ {A = Result (ℕ × Reply) ReplyError} (Err (BadReply end)) (Err (BadReply place)) → IsRefusedAt SpellsReply text place
end_refused text n r end place h more is =
    let same : end ≡ place = cc in
    subst (IsRefusedAt SpellsReply text) same (refused_behind SpellsReply IsCode-reply text (n, r) end (reply_read n text r end h) more)

pub all_spelled : (text : Text) (n : ℕ) (r : Reply) (end : ℕ) → IsRead (IsReplyTo n) text 0 r end → length text ≤ end → SpellsReply text (n, r)
all_spelled text n r end h all = whole_read SpellsReply text (n, r) end (reply_read n text r end h) all

pub SpellsReply-unique : (text : Text) (a b : ℕ × Reply) → SpellsReply text a → SpellsReply text b → a ≡ b
SpellsReply-unique text a b p q = (IsCode-reply.only text text [] [] a b refl p q).1
