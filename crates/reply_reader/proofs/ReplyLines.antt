-- A reply is what its lines give, one after another.
use Rattle.std.proofs.Common.{◌≡◌, ◌≢◌, ℕ, suc, ◌^◌, ◌<◌, ◌≤◌, Bool, true, false, cond, List, [], ◌∷◌, ◌++◌, length, drop, refl, sym, ap, ◌∙◌, subst, arith, append_assoc, length-append, length-drop, inl, inr}
use Rattle.std.specs.Prelude.{◌⊎◌, ◌&&◌, ◌==◌, codes, Option, Some, None, flat_map}
use Rattle.std.specs.List.{list_all}
use Rattle.std.proofs.lemmas.Bool.{and_parts, and_from, false≢true, eqb-true}
use Rattle.std.proofs.lemmas.List.{append-nil, take_all, take_at}
use Rattle.grid_model.specs.Names.{Text}
use Rattle.grid_model.specs.Limits.{part_size}
use Rattle.grid_model.specs.DataLines.{data_line, data_lines}
use Rattle.grid_model.specs.Replies.{mark_line, passed_line, row_line, end_line, rest_lines}
use Rattle.grid_model.specs.ReplySpelling.{FitsEnd, FitsMark, SpellsMarks, no_marks, next_mark, SpellsReply}
use Rattle.grid_model.specs.Writable.{is_word, is_writable, is_writable_end, is_writable_passed}
use Rattle.grid_model.specs.declared.marks.Mark.{Mark}
use Rattle.grid_model.specs.declared.replies.End.{End}
use Rattle.grid_model.specs.declared.replies.End.TheVariants as end
use Rattle.grid_model.specs.declared.replies.Passed.{Passed}
use Rattle.grid_model.specs.declared.replies.Reply.{Reply}
use Rattle.cmd_reply.proofs.DataParts.{data_lines-more}
use Rattle.reply_reader.specs.Lines.{IsRest, IsReplyTo, kind_name, may_come, phase_behind}
use Rattle.reply_reader.specs.declared.lines.Kind.{Kind}
use Rattle.reply_reader.specs.declared.lines.Kind.TheVariants as kind
use Rattle.reply_reader.specs.declared.lines.Line.{Line}
use Rattle.reply_reader.specs.declared.lines.Line.TheVariants as line
use Rattle.reply_reader.specs.declared.lines.Phase.{Phase}
use Rattle.reply_reader.specs.declared.lines.Phase.TheVariants as phase
use Rattle.reply_reader.proofs.Assembling.{State, reading, over, next_state, line_before, shown_before, end_alone, Lines}
use Rattle.reply_reader.proofs.LineTexts.{start, cut_line, data_text, mark_text, row_text, done_text, err_text, passed_text, words_all, passed_writable, err_writable, err_fits}
use Rattle.reply_reader.proofs.Runs.{stops, goes}

-- ---- data lines

-- one part is one data line
pub one_part : (n : ℕ) (bytes : Text) → 0 < length bytes → length bytes ≤ part_size → data_lines n bytes ≡ data_line n bytes
one_part n bytes some short =
    data_lines-more n bytes some
    ∙ (λ i. data_line n (take_all part_size bytes short i) ++ data_lines n (nothing bytes short i))
    ∙ append-nil (data_line n bytes)
  where
    nothing : (bs : Text) → length bs ≤ part_size → drop part_size bs ≡ []
    nothing bs h = empty (drop part_size bs) (omega (arith, h, length-drop part_size bs))
      where
        empty : (t : Text) → length t ≡ 0 → t ≡ []
        empty [] e = refl
        empty (x ∷ t) e = absurd (omega (arith, e))

-- a full part before other bytes
pub full_part : (n : ℕ) (part bytes : Text) → length part ≡ part_size → data_lines n (part ++ bytes) ≡ data_line n part ++ data_lines n bytes
full_part n part bytes full =
    data_lines-more n (part ++ bytes) (omega (arith, full, length-append part bytes))
    ∙ (λ i. data_line n (take_at part bytes part_size full i) ++ data_lines n (behind part bytes part_size full i))
  where
    behind : (p q : Text) (k : ℕ) → length p ≡ k → drop k (p ++ q) ≡ q
    behind [] q k e = ap (λ m. drop m q) (sym e)
    behind (x ∷ p) q k e =
        let count : k ≡ suc (length p) = omega (arith, e) in
        ap (λ m. drop m (x ∷ (p ++ q))) count ∙ behind p q (length p) refl

-- ---- what the lines in a phase give

abbrev is_data : Phase → Bool
is_data phase.Data = true
is_data _ = false

abbrev is_early : Phase → Bool
is_early phase.Data = true
is_early phase.Marks = true
is_early _ = false

abbrev pub ends : ℕ → Reply → Text
ends n r = flat_map (passed_line n) r.passed ++ (flat_map (row_line n) r.rows ++ end_line n r.end)

pub rest_parts : (n : ℕ) (r : Reply) → rest_lines n r ≡ data_lines n r.shown ++ ends n r
rest_parts n r = simp append_assoc

-- the marks and what is behind them, of a text whose first data lines have these bytes
data Behind (n : ℕ) (r : Reply) : Text → Text → Type 0 where
  unmarked : {lead tail : Text} → r.marks ≡ [] → lead ≡ r.shown → tail ≡ ends n r → Behind n r lead tail
  marked : {lead tail after : Text} {m : Mark} {ms : List Mark} → r.marks ≡ m ∷ ms → FitsMark m → SpellsMarks n after ms → tail ≡ mark_line n m ++ (after ++ rest_lines n r) → Behind n r lead tail

record Says (n : ℕ) (p : Phase) (text : Text) (r : Reply) : Type 0 where
  lead : Text
  tail : Text
  split : text ≡ data_lines n lead ++ tail
  short : is_data p ≡ false → lead ≡ []
  behind : Behind n r lead tail
  late : is_early p ≡ false → r.marks ≡ []
  last : p ≡ phase.Rows → r.passed ≡ []
  writable : is_writable r ≡ true
  fits : FitsEnd r.end

spelled : (n : ℕ) (p : Phase) (text : Text) (r : Reply) → n < 2 ^ 64 → Says n p text r → SpellsReply text (n, r)
spelled n p text r small s = by s.lead s.tail s.split s.behind
  where
    by : (lead tail : Text) → text ≡ data_lines n lead ++ tail → Behind n r lead tail → SpellsReply text (n, r)
    by lead tail split (unmarked none shown is) = record {
      number_fits = small;
      front = [];
      marks = subst (SpellsMarks n []) (sym none) no_marks;
      text_is = split ∙ (λ i. data_lines n (shown i) ++ is i) ∙ sym (rest_parts n r);
      writable = s.writable;
      end_fits = s.fits;
    }
    by lead tail split (marked {after = after} {m = m} {ms = ms} some fits more is) = record {
      number_fits = small;
      front = data_lines n lead ++ mark_line n m ++ after;
      marks = subst (SpellsMarks n (data_lines n lead ++ mark_line n m ++ after)) (sym some) (next_mark lead refl fits more);
      text_is = split ∙ ap (λ t. data_lines n lead ++ t) is ∙ regroup (data_lines n lead) (mark_line n m) after (rest_lines n r);
      writable = s.writable;
      end_fits = s.fits;
    }
      where
        regroup : (a b c d : Text) → a ++ (b ++ (c ++ d)) ≡ ((a ++ b) ++ c) ++ d
        regroup a b c d = simp append_assoc

-- ---- from lines to the reply

pub writable_parts : (r : Reply) → is_writable r ≡ true → (list_all is_writable_passed r.passed ≡ true) × (list_all (list_all is_word) r.rows ≡ true) × (is_writable_end r.end ≡ true)
writable_parts r h =
    let a = and_parts (list_all is_writable_passed r.passed && list_all (list_all is_word) r.rows) (is_writable_end r.end) h in
    let b = and_parts (list_all is_writable_passed r.passed) (list_all (list_all is_word) r.rows) a.0 in
    (b.0, b.1, a.1)

writable_from : (passed : List Passed) (rows : List (List Text)) (e : End) → list_all is_writable_passed passed ≡ true → list_all (list_all is_word) rows ≡ true → is_writable_end e ≡ true → (list_all is_writable_passed passed && list_all (list_all is_word) rows && is_writable_end e) ≡ true
writable_from passed rows e a b c = and_from (list_all is_writable_passed passed && list_all (list_all is_word) rows) (is_writable_end e) (and_from (list_all is_writable_passed passed) (list_all (list_all is_word) rows) a b) c

-- the end
says_end : (n : ℕ) (p : Phase) (text : Text) (e : End) → is_writable_end e ≡ true → FitsEnd e → text ≡ end_line n e → Says n p text (end_alone e)
says_end n p text e writable fits is = record {
  lead = [];
  tail = text;
  split = refl;
  short = λ h. refl;
  behind = unmarked refl refl is;
  late = λ h. refl;
  last = λ h. refl;
  writable = writable_from [] [] e refl refl writable;
  fits = fits;
}

-- a row before rows
says_row : (n : ℕ) (p : Phase) (text first rest : Text) (ws : List Text) (r : Reply) → text ≡ first ++ rest → first ≡ row_line n ws → list_all is_word ws ≡ true → Says n phase.Rows rest r → Says n p text (line_before (line.Row ws) r)
says_row n p text first rest ws r split is words s = by s.lead s.tail s.split (s.short refl) s.behind
  where
    none : r.marks ≡ []
    none = s.late refl

    no_passed : r.passed ≡ []
    no_passed = s.last refl

    parts : (list_all is_writable_passed r.passed ≡ true) × (list_all (list_all is_word) r.rows ≡ true) × (is_writable_end r.end ≡ true)
    parts = writable_parts r s.writable

    by : (lead tail : Text) → rest ≡ data_lines n lead ++ tail → lead ≡ [] → Behind n r lead tail → Says n p text (line_before (line.Row ws) r)
    by lead tail cut empty (marked {m = m} {ms = ms} some fits more e) = let no : ◌≡◌ {A = List Mark} [] (m ∷ ms) = sym none ∙ some in absurd cc
    by lead tail cut empty (unmarked nothing shown e) = record {
      lead = [];
      tail = text;
      split = refl;
      short = λ h. refl;
      behind = unmarked none (sym empty ∙ shown) (split ∙ (λ i. is i ++ whole i) ∙ (λ i. row_line n ws ++ (flat_map (passed_line n) (no_passed i) ++ (flat_map (row_line n) r.rows ++ end_line n r.end)))
          ∙ sym (append_assoc (row_line n ws) (flat_map (row_line n) r.rows) (end_line n r.end))
          ∙ (λ i. flat_map (passed_line n) (sym no_passed i) ++ ((row_line n ws ++ flat_map (row_line n) r.rows) ++ end_line n r.end)));
      late = λ h. none;
      last = λ h. no_passed;
      writable = writable_from r.passed (ws ∷ r.rows) r.end parts.0 (and_from (list_all is_word ws) (list_all (list_all is_word) r.rows) words parts.1) parts.2;
      fits = s.fits;
    }
      where
        whole : rest ≡ ends n r
        whole = cut ∙ (λ i. data_lines n (empty i) ++ e i)

-- a recovery before others
says_passed : (n : ℕ) (p : Phase) (text first rest : Text) (q : Passed) (r : Reply) → p ≢ phase.Rows → text ≡ first ++ rest → first ≡ passed_line n q → is_writable_passed q ≡ true → Says n phase.Passed rest r → Says n p text (line_before (line.Passed q) r)
says_passed n p text first rest q r early split is words s = by s.lead s.tail s.split (s.short refl) s.behind
  where
    none : r.marks ≡ []
    none = s.late refl

    parts : (list_all is_writable_passed r.passed ≡ true) × (list_all (list_all is_word) r.rows ≡ true) × (is_writable_end r.end ≡ true)
    parts = writable_parts r s.writable

    by : (lead tail : Text) → rest ≡ data_lines n lead ++ tail → lead ≡ [] → Behind n r lead tail → Says n p text (line_before (line.Passed q) r)
    by lead tail cut empty (marked {m = m} {ms = ms} some fits more e) = let no : ◌≡◌ {A = List Mark} [] (m ∷ ms) = sym none ∙ some in absurd cc
    by lead tail cut empty (unmarked nothing shown e) = record {
      lead = [];
      tail = text;
      split = refl;
      short = λ h. refl;
      behind = unmarked none (sym empty ∙ shown) (split ∙ (λ i. is i ++ whole i) ∙ sym (append_assoc (passed_line n q) (flat_map (passed_line n) r.passed) (flat_map (row_line n) r.rows ++ end_line n r.end)));
      late = λ h. none;
      last = λ h. absurd (early h);
      writable = writable_from (q ∷ r.passed) r.rows r.end (and_from (is_writable_passed q) (list_all is_writable_passed r.passed) words parts.0) parts.1 parts.2;
      fits = s.fits;
    }
      where
        whole : rest ≡ ends n r
        whole = cut ∙ (λ i. data_lines n (empty i) ++ e i)

-- a mark before others
says_mark : (n : ℕ) (p : Phase) (text first rest : Text) (m : Mark) (r : Reply) → n < 2 ^ 64 → is_early p ≡ true → text ≡ first ++ rest → first ≡ mark_line n m → FitsMark m → Says n phase.Data rest r → Says n p text (line_before (line.Mark m) r)
says_mark n p text first rest m r small early split is fits s =
    let reply = spelled n phase.Data rest r small s in
    record {
      lead = [];
      tail = text;
      split = refl;
      short = λ h. refl;
      behind = marked {after = reply.front} {m = m} {ms = r.marks} refl fits reply.marks (split ∙ (λ i. is i ++ reply.text_is i));
      late = λ h. absurd (false≢true (sym h ∙ early));
      last = λ h. absurd (false≢true (sym (ap is_early h) ∙ early));
      writable = s.writable;
      fits = s.fits;
    }

-- a data line before others
says_data : (n : ℕ) (p : Phase) (text first rest bytes : Text) (r : Reply) → text ≡ first ++ rest → first ≡ data_line n bytes → 0 < length bytes → length bytes ≤ part_size → (length bytes ≡ part_size) ⊎ (is_data p ≡ false) → Says n p rest r → Says n phase.Data text (line_before (line.Data bytes) r)
says_data n p text first rest bytes r split is some short full s = by s.lead s.tail s.split s.behind s.short
  where
    -- the bytes of the data lines
    joined : (lead : Text) → (length bytes ≡ part_size) ⊎ (is_data p ≡ false) → (is_data p ≡ false → lead ≡ []) → data_line n bytes ++ data_lines n lead ≡ data_lines n (bytes ++ lead)
    joined lead (inl e) empty = sym (full_part n bytes lead e)
    joined lead (inr e) empty =
        let nothing = empty e in
        (λ i. data_line n bytes ++ data_lines n (nothing i)) ∙ append-nil (data_line n bytes) ∙ sym (one_part n bytes some short) ∙ ap (data_lines n) (sym (append-nil bytes)) ∙ (λ i. data_lines n (bytes ++ sym nothing i))

    cut_so : (lead tail : Text) → rest ≡ data_lines n lead ++ tail → (is_data p ≡ false → lead ≡ []) → text ≡ data_lines n (bytes ++ lead) ++ tail
    cut_so lead tail cut empty = split ∙ (λ i. is i ++ cut i) ∙ sym (append_assoc (data_line n bytes) (data_lines n lead) tail) ∙ ap (λ t. t ++ tail) (joined lead full empty)

    by : (lead tail : Text) → rest ≡ data_lines n lead ++ tail → Behind n r lead tail → (is_data p ≡ false → lead ≡ []) → Says n phase.Data text (line_before (line.Data bytes) r)
    by lead tail cut (unmarked none shown e) empty = record {
      lead = bytes ++ lead;
      tail = tail;
      split = cut_so lead tail cut empty;
      short = λ h. absurd (false≢true (sym h));
      behind = unmarked none (ap (λ t. bytes ++ t) shown ∙ (λ i. shown_before (sym none i) bytes r.shown)) e;
      late = λ h. absurd (false≢true (sym h));
      last = λ h. absurd (false≢true (sym (ap is_data h)));
      writable = s.writable;
      fits = s.fits;
    }
    by lead tail cut (marked {after = after} {m = m} {ms = ms} some_mark fits more e) empty = record {
      lead = bytes ++ lead;
      tail = tail;
      split = cut_so lead tail cut empty;
      short = λ h. absurd (false≢true (sym h));
      behind = marked some_mark fits more
          (e ∙ (λ i. mark_line n m ++ (after ++ rest_lines n (record { marks = r.marks; shown = shown_before (sym some_mark i) bytes r.shown; passed = r.passed; rows = r.rows; end = r.end }))));
      late = λ h. absurd (false≢true (sym h));
      last = λ h. absurd (false≢true (sym (ap is_data h)));
      writable = s.writable;
      fits = s.fits;
    }

-- ---- a reply as its lines give it

abbrev SaysAt : ℕ → State → Text → Reply → Type 0
SaysAt n (reading p) text r = Says n p text r
SaysAt n (over e) text r = (text ≡ []) × (r ≡ end_alone e)

data_phase : (p : Phase) → may_come p kind.Data ≡ true → p ≡ phase.Data
data_phase phase.Data h = refl
data_phase phase.Marks h = absurd (false≢true h)
data_phase phase.Passed h = absurd (false≢true h)
data_phase phase.Rows h = absurd (false≢true h)

mark_phase : (p : Phase) → may_come p kind.Mark ≡ true → is_early p ≡ true
mark_phase phase.Data h = refl
mark_phase phase.Marks h = refl
mark_phase phase.Passed h = absurd (false≢true h)
mark_phase phase.Rows h = absurd (false≢true h)

passed_phase : (p : Phase) → may_come p kind.Passed ≡ true → p ≢ phase.Rows
passed_phase phase.Data h = λ e. cc
passed_phase phase.Marks h = λ e. cc
passed_phase phase.Passed h = λ e. cc
passed_phase phase.Rows h = absurd (false≢true h)

full_or : (bytes : Text) → (length bytes ≡ part_size) ⊎ (is_data (phase_behind (line.Data bytes)) ≡ false)
full_or bytes = by (length bytes == part_size) refl
  where
    by : (b : Bool) → (length bytes == part_size) ≡ b → (length bytes ≡ part_size) ⊎ (is_data (phase_behind (line.Data bytes)) ≡ false)
    by true e = inl (eqb-true (length bytes) part_size e)
    by false e = inr (ap (λ b. is_data (cond b phase.Data phase.Marks)) e)

says_at : (n : ℕ) (s : State) (text : Text) (r : Reply) → n < 2 ^ 64 → Lines (start n) s text r → SaysAt n s text r
says_at n (reading p) text r small (stops {b = b} f none) = let no : ◌≡◌ {A = Option Reply} None (Some r) = f in absurd cc
says_at n (over e) text r small (stops {b = b} f none) = let same : ◌≡◌ {A = Option Reply} (Some (end_alone e)) (Some r) = f in (none, cc)
says_at n (over e) text r small (goes f split p more is) = absurd p
says_at n (reading p) text r small (goes {first = first} {rest = rest} {a = l} {b = later} f split part more is) =
    let c = cut_line n p first l part in
    subst (Says n p text) (sym is) (by c.kind c.rest l c.comes c.is c.spells (says_at n (next_state (reading p) l) rest later small more))
  where
    by : (k : Kind) (fields : Text) (l : Line) → may_come p k ≡ true → first ≡ start n ++ (kind_name k ++ fields) → IsRest k fields l → SaysAt n (next_state (reading p) l) rest later → Says n p text (line_before l later)
    by kind.Data fields l comes e i s =
        let bytes = i.value in
        let whole : first ≡ data_line n bytes = e ∙ ap (λ t. start n ++ (codes "data " ++ t)) i.spells.is ∙ sym (data_text n bytes) in
        subst (λ x. Says n p text (line_before x later)) (sym i.is)
        (subst (λ q. Says n q text (line_before (line.Data bytes) later)) (sym (data_phase p comes))
        (says_data n (phase_behind (line.Data bytes)) text first rest bytes later split whole (omega (arith, i.spells.some)) i.spells.most (full_or bytes)
        (subst (λ x. SaysAt n (next_state (reading p) x) rest later) i.is s)))
    by kind.Mark fields l comes e i s =
        let m = i.value in
        let whole : first ≡ mark_line n m = e ∙ ap (λ t. start n ++ (codes "mark " ++ t)) i.spells.is ∙ sym (mark_text n m) in
        subst (λ x. Says n p text (line_before x later)) (sym i.is)
        (says_mark n p text first rest m later small (mark_phase p comes) split whole i.spells.fits (subst (λ x. SaysAt n (next_state (reading p) x) rest later) i.is s))
    by kind.Passed fields l comes e i s =
        let q = i.value in
        subst (λ x. Says n p text (line_before x later)) (sym i.is)
        (says_passed n p text first rest q later (passed_phase p comes) split (e ∙ sym (passed_text n fields q i.spells)) (passed_writable fields q i.spells)
        (subst (λ x. SaysAt n (next_state (reading p) x) rest later) i.is s))
    by kind.Row fields l comes e i s =
        let ws = i.value in
        subst (λ x. Says n p text (line_before x later)) (sym i.is)
        (says_row n p text first rest ws later split (e ∙ sym (row_text n fields ws i.spells)) (words_all fields ws i.spells) (subst (λ x. SaysAt n (next_state (reading p) x) rest later) i.is s))
    by kind.Good fields l comes e i s =
        let ws = i.value in
        let over_now : (rest ≡ []) × (later ≡ end_alone (end.Done ws)) = subst (λ x. SaysAt n (next_state (reading p) x) rest later) i.is s in
        let whole : text ≡ end_line n (end.Done ws) = split ∙ (λ j. first ++ over_now.0 j) ∙ append-nil first ∙ e ∙ sym (done_text n fields ws i.spells) in
        subst (λ x. Says n p text (line_before x later)) (sym i.is)
        (subst (Says n p text) (sym over_now.1) (says_end n p text (end.Done ws) (words_all fields ws i.spells) tt whole))
    by kind.Error fields l comes e i s =
        let d = i.value in
        let over_now : (rest ≡ []) × (later ≡ end_alone d) = subst (λ x. SaysAt n (next_state (reading p) x) rest later) i.is s in
        let whole : text ≡ end_line n d = split ∙ (λ j. first ++ over_now.0 j) ∙ append-nil first ∙ e ∙ sym (err_text n fields d i.spells) in
        subst (λ x. Says n p text (line_before x later)) (sym i.is)
        (subst (Says n p text) (sym over_now.1) (says_end n p text d (err_writable fields d i.spells) (err_fits fields d i.spells) whole))

pub reply_of_lines : (n : ℕ) (text : Text) (r : Reply) → n < 2 ^ 64 → Lines (start n) (reading phase.Data) text r → IsReplyTo n text r
reply_of_lines n text r small h = record { spells = spelled n phase.Data text r small (says_at n (reading phase.Data) text r small h) }
