-- From lines and bodies as they were read to what was found of the input.
use Rattle.std.proofs.Common.{◌≡◌, ℕ, ◌+◌, ◌<◌, ◌≤◌, Bool, true, false, List, [], ◌∷◌, ◌++◌, length, IsTrue, arith, refl, sym, subst, ap, ◌∙◌, append_assoc, length-append}
use Rattle.std.specs.Prelude.{Result, Ok, Err}
use Rattle.std.proofs.lemmas.List.{append-nil}
use Rattle.grid_outside.specs.Source.{SourceState}
use Rattle.grid_model.specs.Names.{Text}
use Rattle.grid_model.specs.Limits.{object_size}
use Rattle.grid_model.specs.Lines.{IsLine, is_request}
use Rattle.grid_model.specs.Inputs.{Asked, HasBody, Takes, none_taken, takes_one, takes_blank, AreRequests, ends_blank, ends_in_line, ends_in_body, of_line, of_body}
use Rattle.grid_model.specs.declared.requests.Request.{Request}
use Rattle.grid_model.specs.declared.refusal.Refusal.{Refusal}
use Rattle.req_lines.specs.Reading.{Input, Gets, GetsAll, ReadsLine, ReadsPart, Passes}
use Rattle.req_lines.specs.Hearing.{IsReadAs, held_of, KeepsLine, ahead, GoesOver, IsAtEnd, IsOneRequest, Skips, Hears, GoesOn, BreaksOff, Finds, Stops}
use Rattle.req_lines.specs.Heads.{HearsBehind, GoesOnBehind, BreaksOffBehind, FindsBehind, IsLast, passed_so}
use Rattle.req_lines.specs.declared.line_reader.Ended.TheVariants as ended
use Rattle.req_lines.specs.declared.requests.Heard.{Heard}
use Rattle.req_lines.specs.declared.requests.Next.{Next}
use Rattle.req_lines.specs.declared.requests.Next.TheVariants as next
use Rattle.req_lines.proofs.AskingLemmas.{held_fits}
use Rattle.req_lines.proofs.HeadLemmas.{held_request, read_held, body_held, keeps_held}

-- ---- one request, or one line without words

one_taken : (line body : Text) → IsLine line → IsTrue (is_request line) → HasBody line (length body) → Takes (line ++ 0x0A ∷ body) (record { line = line; body = body } ∷ []) []
one_taken line body is some has = takes_one line body (sym (append-nil (line ++ 0x0A ∷ body))) is some has none_taken

blank_taken : (line : Text) → IsLine line → is_request line ≡ false → Takes (line ++ 0x0A ∷ []) [] []
blank_taken line is blank = takes_blank line refl is blank none_taken

-- ---- what was gone over

-- what stood before the reader, with what it got of the source
met : (old new : Input) (got bytes : List ℕ) → old.reader.unread ++ got ≡ bytes ++ new.reader.unread → Gets old new got → IsTrue old.source.tells → ahead old ≡ bytes ++ ahead new
met old new got bytes split gets told =
    ap (λ (t : Text). old.reader.unread ++ t) (gets.took told) ∙ sym (append_assoc old.reader.unread got new.source.left) ∙ ap (λ (t : Text). t ++ new.source.left) split
    ∙ append_assoc bytes new.reader.unread new.source.left

went : (old new : Input) (got bytes : List ℕ) → old.reader.unread ++ got ≡ bytes ++ new.reader.unread → Gets old new got → GoesOver old new bytes
went old new got bytes split gets = record {
  split = met old new got bytes split gets;
  count = omega (arith, ap length split, length-append old.reader.unread got, length-append bytes new.reader.unread, gets.taken);
  most = gets.most;
}

-- to the end
got_all : (old new : Input) (got : List ℕ) → GetsAll old new got → Gets old new got
got_all old new got gets = record {
  took = λ told. ((gets.took told).0 ∙ sym (ap (λ (t : Text). got ++ t) (gets.took told).1 ∙ append-nil got));
  taken = gets.taken;
  most = gets.most;
}

went_all : (old new : Input) (got bytes : List ℕ) → old.reader.unread ++ got ≡ bytes → GetsAll old new got → GoesOver old new bytes
went_all old new got bytes split gets = went old new got bytes (split ∙ sym (ap (λ (t : Text). bytes ++ t) gets.all ∙ append-nil bytes)) (got_all old new got gets)

at_end : (old new : Input) (got : List ℕ) → new.source.tells ≡ old.source.tells → GetsAll old new got → IsAtEnd new
at_end old new got tells gets = record { unread = gets.all; left = λ told. (gets.took (subst IsTrue tells told)).1 }

-- one after another
pub over_more : (old mid new : Input) (first second : Text) → mid.source.tells ≡ old.source.tells → GoesOver old mid first → GoesOver mid new second → GoesOver old new (first ++ second)
over_more old mid new first second tells one other = record {
  split = λ told. one.split told ∙ ap (λ (t : Text). first ++ t) (other.split (subst IsTrue (sym tells) told)) ∙ sym (append_assoc first second (ahead new));
  count = omega (arith, one.count, other.count, length-append first second);
  most = other.most;
}

-- no more is held than an object may have
held_size : (held line body : Text) (asked : Result Request Refusal) (n : ℕ) → held ≡ held_of asked body → IsReadAs line body asked → HasBody line n → length body ≤ n → length held ≤ object_size
held_size held line body asked n is read has most = omega (arith, ap length is, held_fits line body asked n read has most)

-- ---- a line with its newline

module _ (old mid : Input) (held : Text) (reads : ReadsLine old ended.Line mid held) where
  newline_split : old.reader.unread ++ reads.got ≡ (reads.line ++ 0x0A ∷ []) ++ mid.reader.unread
  newline_split = reads.ends.0 ∙ sym (append_assoc reads.line (0x0A ∷ []) mid.reader.unread)

  over_line : GoesOver old mid (reads.line ++ 0x0A ∷ [])
  over_line = went old mid reads.got (reads.line ++ 0x0A ∷ []) newline_split reads.ends.1

  line_some : is_request held ≡ true → IsTrue (is_request reads.line)
  line_some some = sym (held_request held reads.line reads.held) ∙ some

  line_body : (count : ℕ) → HasBody held count → HasBody reads.line count
  line_body count has = body_held reads.line count (subst (λ (t : Text). HasBody t count) reads.held has)

  line_read_as : (body : Text) (asked : Result Request Refusal) → IsReadAs held body asked → IsReadAs reads.line body asked
  line_read_as body asked is = read_held reads.line body asked (subst (λ (t : Text). IsReadAs t body asked) reads.held is)

  line_keeps : (body kept : Text) (asked : Result Request Refusal) → IsReadAs held body asked → KeepsLine asked kept held → KeepsLine asked kept reads.line
  line_keeps body kept asked is keeps =
      keeps_held reads.line body kept asked (subst (λ (t : Text). IsReadAs t body asked) reads.held is) (subst (λ (t : Text). KeepsLine asked kept t) reads.held keeps)

  joined : (body : Text) → (reads.line ++ 0x0A ∷ []) ++ body ≡ reads.line ++ 0x0A ∷ body
  joined body = append_assoc reads.line (0x0A ∷ []) body

  pub ahead_line : old.reader.taken + length mid.reader.unread < mid.reader.taken + length old.reader.unread
  ahead_line = omega (arith, over_line.count, length-append reads.line (10 ∷ []))

  -- without words
  pub skips_line : is_request held ≡ false → Skips old mid
  skips_line none = record { bytes = reads.line ++ 0x0A ∷ []; over = over_line; none = blank_taken reads.line reads.is (sym (held_request held reads.line reads.held) ∙ none) }

  module _ (some : is_request held ≡ true) (tells : mid.source.tells ≡ old.source.tells) where
    module _ (new : Input) (again : new.source.tells ≡ old.source.tells) where
      over_body : (body : Text) → GoesOver mid new body → GoesOver old new (reads.line ++ 0x0A ∷ body)
      over_body body over = subst (λ (t : Text). GoesOver old new t) (joined body) (over_more old mid new (reads.line ++ 0x0A ∷ []) body tells over_line over)

      hears_line : (heard : Heard) (ends : Bool) → heard.ends ≡ ends → (behind : HearsBehind held mid new heard) → Passes mid behind.count (passed_so ends behind.body) new behind.body → Hears old new heard
      hears_line heard false is behind passes =
          let line = reads.line in
          let body = behind.body in
          let one : Asked = record { line = line; body = body } in
          let P : ℕ → Type 0 = λ n. HasBody line n in
          let has : HasBody line (length body) = subst P (sym passes.ends.1) (line_body behind.count behind.has) in
          let Q : Bool → Type 0 = λ b. IsOneRequest b (line ++ 0x0A ∷ body) one new in
          record {
            asked = one;
            bytes = line ++ 0x0A ∷ body;
            over = over_body body (went mid new passes.got body passes.ends.0 passes.ends.2);
            is_next = subst Q (sym is) (one_taken line body reads.is (line_some some) has);
            read = line_read_as body heard.asked behind.read;
            held = behind.held;
            fits = held_size heard.body line body heard.asked (length body) behind.held (line_read_as body heard.asked behind.read) has (omega arith);
            keeps = line_keeps body heard.line heard.asked behind.read behind.keeps;
          }
      hears_line heard true is behind passes =
          let line = reads.line in
          let body = behind.body in
          let one : Asked = record { line = line; body = body } in
          let are : AreRequests (line ++ 0x0A ∷ body) (one ∷ []) =
          record {
            whole = [];
            left = line ++ 0x0A ∷ body;
            last = one ∷ [];
            takes = none_taken;
            ends = ends_in_body line body refl reads.is (line_some some) (line_body behind.count behind.has) passes.ends.1;
            are = refl;
          } in
          let Q : Bool → Type 0 = λ b. IsOneRequest b (line ++ 0x0A ∷ body) one new in
          record {
            asked = one;
            bytes = line ++ 0x0A ∷ body;
            over = over_body body (went_all mid new passes.got body passes.ends.0 passes.ends.2);
            is_next = subst Q (sym is) (are, at_end mid new passes.got (again ∙ sym tells) passes.ends.2);
            read = line_read_as body heard.asked behind.read;
            held = behind.held;
            fits = held_size heard.body line body heard.asked behind.count behind.held (line_read_as body heard.asked behind.read) (line_body behind.count behind.has) (omega (arith, passes.ends.1));
            keeps = line_keeps body heard.line heard.asked behind.read behind.keeps;
          }

      goes_on_line : GoesOnBehind held mid new → GoesOn old new
      goes_on_line behind =
          let line = reads.line in
          let body = behind.body in
          let gets = behind.passes.ends.2 in
          let got = behind.passes.got in
          record {
            bytes = line ++ 0x0A ∷ body;
            byte = gets.byte;
            split = λ told.
                (over_line.split told ∙ ap (λ (t : Text). (line ++ 0x0A ∷ []) ++ t)
                (ap (λ (t : Text). mid.reader.unread ++ t) (gets.took (subst IsTrue (sym tells) told) ∙ append_assoc got (gets.byte ∷ []) new.source.left)
                ∙ sym (append_assoc mid.reader.unread got (gets.byte ∷ new.source.left)) ∙ ap (λ (t : Text). t ++ gets.byte ∷ new.source.left) behind.passes.ends.0)
                ∙ sym (append_assoc (line ++ 0x0A ∷ []) body (gets.byte ∷ new.source.left)) ∙ ap (λ (t : Text). t ++ gets.byte ∷ new.source.left) (joined body));
            full = omega (
              arith,
              over_line.count,
              gets.full,
              ap length behind.passes.ends.0,
              length-append mid.reader.unread got,
              length-append line (10 ∷ []),
              length-append line (10 ∷ body),
            );
            left = line ++ 0x0A ∷ body;
            none = none_taken;
            part = of_body line body refl reads.is (line_some some) (line_body behind.count behind.has) behind.passes.ends.1;
            taken = gets.taken;
            unread = gets.all;
          }

      -- with a body behind it
      pub finds_line : (n : Next) → FindsBehind held mid new n → Finds old new n
      finds_line (next.Request heard) behind = hears_line heard heard.ends refl behind behind.passes
      finds_line next.End behind = absurd behind
      finds_line next.Long behind = goes_on_line behind

    -- within whose body the source failed
    pub breaks_line : (to : SourceState) → BreaksOffBehind held mid to → BreaksOff old to
    breaks_line to behind =
        let line = reads.line in
        let part = behind.passes in
        let body = mid.reader.unread ++ part.got in
        record {
          bytes = line ++ 0x0A ∷ body;
          split = λ told.
              (over_line.split told ∙ ap (λ (t : Text). (line ++ 0x0A ∷ []) ++ t)
              (ap (λ (t : Text). mid.reader.unread ++ t) (part.took (subst IsTrue (sym tells) told)) ∙ sym (append_assoc mid.reader.unread part.got to.left))
              ∙ sym (append_assoc (line ++ 0x0A ∷ []) body to.left) ∙ ap (λ (t : Text). t ++ to.left) (joined body));
          within = omega (
            arith,
            over_line.count,
            part.most,
            length-append mid.reader.unread part.got,
            length-append line (10 ∷ []),
            length-append line (10 ∷ body),
          );
          left = line ++ 0x0A ∷ body;
          none = none_taken;
          part = of_body line body refl reads.is (line_some some) (line_body behind.count behind.has) part.short;
        }

    -- within whose body memory ran out
    pub stops_line : (to : SourceState) → Stops mid to → Stops old to
    stops_line to stops = record {
      bytes = (reads.line ++ 0x0A ∷ []) ++ stops.bytes;
      split = λ told.
          (over_line.split told ∙ ap (λ (t : Text). (reads.line ++ 0x0A ∷ []) ++ t) (stops.split (subst IsTrue (sym tells) told))
          ∙ sym (append_assoc (reads.line ++ 0x0A ∷ []) stops.bytes to.left));
      within = omega (arith, over_line.count, stops.within, length-append (reads.line ++ 10 ∷ []) stops.bytes);
    }

-- ---- a line without a newline

-- behind which memory ran out
pub stops_last : (old new : Input) (held : Text) → ReadsLine old ended.End new held → Stops old new.source
stops_last old new held reads =
    let over = went_all old new reads.got reads.line reads.ends.0 reads.ends.1 in
    let none : ahead new ≡ new.source.left = ap (λ (t : Text). t ++ new.source.left) reads.ends.1.all in
    record {
      bytes = reads.line;
      split = λ told. over.split told ∙ ap (λ (t : Text). reads.line ++ t) none;
      within = omega (arith, over.count, over.most, ap length reads.ends.1.all);
    }

-- which the end of the input ended
pub finds_last : (old new : Input) (held : Text) (reads : ReadsLine old ended.End new held) → new.source.tells ≡ old.source.tells → (n : Next) → IsLast held n → Finds old new n
finds_last old new held reads tells (next.Request heard) is =
    let line = reads.line in
    let one : Asked = record { line = line; body = [] } in
    let some : IsTrue (is_request line) = sym (held_request held line reads.held) ∙ is.0 in
    let are : AreRequests line (one ∷ []) = record { whole = []; left = line; last = one ∷ []; takes = none_taken; ends = ends_in_line reads.is some; are = refl } in
    let Q : Bool → Type 0 = λ b. IsOneRequest b line one new in
    record {
      asked = one;
      bytes = line;
      over = went_all old new reads.got line reads.ends.0 reads.ends.1;
      is_next = subst Q (sym is.3) (are, at_end old new reads.got tells reads.ends.1);
      read = read_held line [] heard.asked (subst (λ (t : Text). IsReadAs t [] heard.asked) reads.held is.1);
      held = is.2 ∙ nothing_held heard.asked;
      fits = omega (arith, ap length is.2);
      keeps = keeps_held line [] heard.line heard.asked (subst (λ (t : Text). IsReadAs t [] heard.asked) reads.held is.1)
          (subst (λ (t : Text). KeepsLine heard.asked heard.line t) reads.held is.4);
    }
  where
    by_size : (b : Bool) → [] ≡ (elim b as (λ x. Text) [ true ↦ [] | false ↦ [] ])
    by_size true = refl
    by_size false = refl

    nothing_held : (asked : Result Request Refusal) → [] ≡ held_of asked []
    nothing_held (Ok request) = by_size _
    nothing_held (Err r) = refl
finds_last old new held reads tells next.End is = record {
  bytes = reads.line;
  over = went_all old new reads.got reads.line reads.ends.0 reads.ends.1;
  none = record { whole = []; left = reads.line; last = []; takes = none_taken; ends = ends_blank reads.is (sym (held_request held reads.line reads.held) ∙ is); are = refl };
  ended = at_end old new reads.got tells reads.ends.1;
}
finds_last old new held reads tells next.Long is = absurd is

-- which goes on past the bytes that are read
pub goes_on_long : (old new : Input) (held : Text) → ReadsLine old ended.Long new held → GoesOn old new
goes_on_long old new held reads =
    let gets = reads.ends.1 in
    record {
      bytes = reads.line;
      byte = gets.byte;
      split = λ told.
          (ap (λ (t : Text). old.reader.unread ++ t) (gets.took told ∙ append_assoc reads.got (gets.byte ∷ []) new.source.left)
          ∙ sym (append_assoc old.reader.unread reads.got (gets.byte ∷ new.source.left)) ∙ ap (λ (t : Text). t ++ gets.byte ∷ new.source.left) reads.ends.0);
      full = omega (arith, gets.full, ap length reads.ends.0, length-append old.reader.unread reads.got);
      left = reads.line;
      none = none_taken;
      part = of_line reads.is;
      taken = gets.taken;
      unread = gets.all;
    }

-- within which the source failed
pub breaks_part : (old : Input) (to : SourceState) → ReadsPart old to → BreaksOff old to
breaks_part old to part = record {
  bytes = old.reader.unread ++ part.got;
  split = λ told. ap (λ (t : Text). old.reader.unread ++ t) (part.took told) ∙ sym (append_assoc old.reader.unread part.got to.left);
  within = omega (arith, part.most, length-append old.reader.unread part.got);
  left = old.reader.unread ++ part.got;
  none = none_taken;
  part = of_line part.is;
}
