-- What a stop leaves of main and the sink, one request after another.
use Rattle.std.proofs.Common.{◌≡◌, ◌⊎◌, inl, inr, ℕ, zero, suc, ◌+◌, ◌-◌, ◌<◌, ◌≤◌, List, [], ◌∷◌, ◌++◌, length, take, drop, slice_get, Option, Some, None, Ok, Err, refl, sym, ap, ◌∙◌, subst, append_assoc, take-append-drop, length-append, arith}
use Rattle.std.specs.Prelude.{max, Bool, true, false, ◌==◌, codes, decimal, flat_map}
use Rattle.std.specs.Bool.{MatchBool}
use Rattle.std.proofs.lemmas.List.{append-nil, take-append-le, take_at, take_all, length-take-le, nil_from_length}
use Rattle.std.proofs.lemmas.Option.{slice_get_past, slice_get_within, same_Some}
use Rattle.std.proofs.lemmas.Bool.{cases_lt}
use Rattle.grid_outside.specs.Sink.{AddsPart}
use Rattle.grid_model.specs.Names.{Text}
use Rattle.grid_model.specs.Rows.{Cat}
use Rattle.grid_model.specs.RowGrids.{grid_of}
use Rattle.grid_model.specs.Beginning.{begins}
use Rattle.grid_model.specs.Inputs.{Asked}
use Rattle.grid_model.specs.Orders.{sweeps}
use Rattle.grid_model.specs.Sessions.{State}
use Rattle.grid_model.specs.Working.{Done, Sent}
use Rattle.grid_model.specs.Printing.{line, spaced}
use Rattle.grid_model.specs.DataLines.{data_lines}
use Rattle.grid_model.specs.Replies.{mark_words, mark_line, passed_line, row_line, end_words, end_line, rest_lines}
use Rattle.grid_model.specs.Runs.{Marked, Request}
use Rattle.grid_model.specs.ReplyTexts.{SendsBytes, IsPiece, ArePieces, reply_text}
use Rattle.grid_model.specs.declared.deltas.Pending.{Pending}
use Rattle.grid_model.specs.declared.replies.Reply.{Reply}
use Rattle.grid_model.specs.declared.marks.Mark.{Mark}
use Rattle.grid_journal.specs.Stands.{StandsFor}
use Rattle.grid_headline.specs.Draws.{with_marks}
use Rattle.grid_headline.specs.Served.{joined_texts, marks_of, whole_in}
use Rattle.grid_headline.specs.Ends.{WasDone}
use Rattle.grid_headline.specs.Numbers.{KeepsNumbers, last_vault}
use Rattle.grid_headline.proofs.OneMeaning.{makes-alone}
use Rattle.grid_headline.specs.Reads.{AsksToSweep, HasRules, MeansRequest}
use Rattle.count_laws.specs.GivenNumbers.{GivesFew, GivesNone}
use Rattle.count_laws.proofs.GivenNumbers.{none_self}
use Rattle.grid_headline.specs.Stops.{AreFirst}
use Rattle.run_laws.specs.Handled.{Handled, LastHadNumbers, IsAt, exact, opening, amid_sweep, cats_of, with_one, replies_of, marks_within, marks_shown}
use Rattle.run_laws.specs.Handled.{told_within, reached_by, state_behind, IsAmidRun, IsAmidSome, IsOfRun, IsBehindSome, OneOfRun, not_begun, in_run}
use Rattle.run_laws.specs.Handled.{in_deed_of_run, ShowsMost}
use Rattle.run_laws.specs.Undone.{Undone, whole_report}
use Rattle.run_laws.specs.Steps.{HadNumbersFor, IsLike, IsLeftBehind, IsAmid, IsSweep, ComesAfter, kept, unseen, swept, SureTexts, WaitsInDeed, HasLine}
use Rattle.run_laws.specs.Steps.{IsUntold, TellsFew, OneOf, not_kept, in_deed_so, kept_so}
use Rattle.run_laws.proofs.Lists.{get-front, get-last, marks-push, state-more, state-last}
use Rattle.run_laws.proofs.Texts.{HaveBytes, whole-none, whole-behind, whole-more, whole-most, whole-all, whole-less}

pub keeps-then : (a b c : Cat) → KeepsNumbers a b → KeepsNumbers b c → KeepsNumbers a c
keeps-then a b c first then = record {
  rises = omega (arith, first.rises, then.rises);
  names = λ slot name row low its.
      let was = then.names slot name row (omega (arith, low, first.rises)) its in
      first.names slot name was.0 low was.1;
}

take_nil : (n : ℕ) → (let none : List Mark = [] in take n none ≡ [])
take_nil zero = refl
take_nil (suc n) = refl

-- of no bytes no mark is told
first-none : (m : Option Marked) (ts : Option (List Text)) (n : ℕ) → ((us : List Text) → ts ≡ Some us → whole_in us n ≡ 0) → marks_within m ts n ≡ []
first-none None None n none = refl
first-none None (Some ts) n none = refl
first-none (Some m) None n none = refl
first-none (Some m) (Some ts) n none = ap (λ k. take k m.marks) (none ts refl)

pub like_self : (c : Cat) → IsLike c c
like_self c = record {
  grid = refl;
  run = refl;
  last = refl;
  rules = refl;
  stores = refl;
  pending = refl;
  keeps = record { rises = omega arith; names = λ slot name row low its. (row, its) };
}

pub like-of : (found c e : Cat) → IsOfRun found c → IsLike c e → IsOfRun found e
like-of found c e its like = record {
  number = like.run ∙ its.number;
  none = like.pending ∙ its.none;
  keeps = keeps-then found c e its.keeps like.keeps;
  stores = like.stores ∙ its.stores;
}

pub amid-of : (found c e : Cat) → IsOfRun found c → IsAmid c e → IsAmidRun found e
amid-of found c e its amid = record {
  number = amid.run ∙ its.number;
  keeps = keeps-then found c e its.keeps amid.keeps;
  stores = amid.stores ∙ its.stores;
}

-- a request that is a sweep asks for one
pub asks-sweep : (at : State) (a : Asked) (request : Request) → MeansRequest at a request → IsSweep request → AsksToSweep a
asks-sweep at a (Ok (session, sweeps)) means is = record { at = at; session = session; asks = means }
asks-sweep at a (Ok (session, other)) means is = absurd is
asks-sweep at a (Err r) means is = absurd is

-- the first of some marks, where these are the first of all and as many at least
pub first-kept : (all some : List Mark) (k : ℕ) → AreFirst some all → k ≤ length some → AreFirst (take k all) some
first-kept all some k first few = record {
  rest = drop k some;
  are = sym (take-append-drop k some) ∙ ap (λ (x : List Mark). x ++ drop k some) (sym (ap (take k) first.are ∙ take-append-le k some first.rest few));
}

pub behind-of : (found c : Cat) (n : ℕ) (d : Done) (e : Cat) → IsOfRun found c → IsLeftBehind c n d e → IsOfRun found e
behind-of found c n d e its behind = record {
  number = behind.run ∙ its.number;
  none = behind.pending ∙ its.none;
  keeps = keeps-then found c e its.keeps behind.keeps;
  stores = behind.stores ∙ its.stores;
}

-- what makes files was done by one request more only where there was a number for them
pub had-now : (h : Handled) (m : Marked) (d : Done) (ts : SureTexts) (after : Cat) (size : ℕ) → length h.begun ≡ size → length h.done ≡ size → {c : Cat}
    → slice_get (cats_of (with_one h m d ts after)) size ≡ Some c → (at : State) (request : Request) → MeansRequest at m.asked request
    → d.reply.marks ≡ m.marks → HadNumbersFor c request d → LastHadNumbers (with_one h m d ts after) (suc size)
had-now h m d ts after size begun done {c} is_last at request means marks_are had k is x y z is_x is_y is_z be session order asks makes some was =
    let more : Handled = with_one h m d ts after in
    let e : k ≡ size = omega (arith, is) in
    let same_c : x ≡ c = same_Some x c (sym is_x ∙ ap (slice_get (cats_of more)) e ∙ is_last) in
    let same_m : y ≡ m = same_Some y m (sym is_y ∙ ap (slice_get more.begun) (e ∙ sym begun) ∙ get-last h.begun m) in
    let same_d : z ≡ d = same_Some z d (sym is_z ∙ ap (slice_get more.done) (e ∙ sym done) ∙ get-last h.done d) in
    let M : Marked → Type 0 = λ v. MeansRequest be v.asked (Ok (session, order)) in
    let own = makes-alone be at m.asked session order request (subst M same_m asks) makes means in
    let V : Cat → Type 0 = λ v. v.numbers.next_vault ≤ last_vault in
    let W : Done → Type 0 = λ v. WasDone v.reply.end in
    subst V (sym same_c)
    (had own.0 own.1 own.2 own.3 (λ none. some (ap (λ (v : Marked). v.marks) same_m ∙ sym marks_are ∙ none)) (subst W same_d was))

-- one request more than those that were handled, with this text, these texts of its marks, and what is sure of it
pub record IsOneMore (h : Handled) (m : Marked) (d : Done) (ts : SureTexts) (after : Cat) (t : Text) : Type 0 where
  pub texts_are : replies_of (with_one h m d ts after) ≡ replies_of h ++ t ∷ []
  pub begun_length : length h.begun ≡ length (replies_of h)
  pub done_length : length h.done ≡ length (replies_of h)
  pub pieces_length : length h.pieces ≡ length (replies_of h)
  pub cats_length : length h.behind ≡ length (replies_of h)
  pub has_bytes : 0 < length t
  pub pieces_have : HaveBytes ts.pieces
  pub rest : Text
  pub pieces_first : t ≡ joined_texts ts.pieces ++ rest
  pub unsure : Text
  pub sure_first : t ≡ ts.sure ++ unsure
  -- all before it is sure
  pub all_sure : h.sure ≡ joined_texts (replies_of h)

module _ (found : Cat) (u : Undone found) (h : Handled) (m : Marked) (d : Done) (ts : SureTexts) (after : Cat) (t : Text)
    (one : IsOneMore h m d ts after t) where
  abbrev size : ℕ
  size = length (replies_of h)

  abbrev more : Handled
  more = with_one h m d ts after

  abbrev report : Text
  report = whole_report found u

  abbrev bytes : ℕ
  bytes = length (joined_texts (replies_of h))

  -- ---- the catalogues

  get_cat : (n : ℕ) (c : Cat) → slice_get (cats_of h) n ≡ Some c → slice_get (cats_of more) n ≡ Some c
  get_cat n c is = get-front (cats_of h) (after ∷ []) n (slice_get_within (cats_of h) n c is) ∙ is

  at-more : (n : ℕ) (c : Cat) → IsAt found u h n c → IsAt found u more n c
  at-more n c (exact is) = exact (get_cat n c is)
  at-more n c (opening none few gives) = opening none few gives
  at-more n c (amid_sweep e f of is_e is_f is_of asks since until) =
      amid_sweep e f of (get_cat n e is_e) (get-front h.behind (after ∷ []) n (slice_get_within h.behind n f is_f) ∙ is_f)
      (get-front h.begun (m ∷ []) n (slice_get_within h.begun n of is_of) ∙ is_of) asks since until

  -- what the last of the requests before it had
  had-more : (n : ℕ) → n ≤ size → LastHadNumbers h n → LastHadNumbers more n
  had-more n most had k is c x y is_c is_x is_y =
      let cats : k < length (cats_of h) = omega (arith, is, most, one.cats_length) in
      let begun : k < length h.begun = omega (arith, is, most, one.begun_length) in
      let done : k < length h.done = omega (arith, is, most, one.done_length) in
      had k is c x y (sym (get-front (cats_of h) (after ∷ []) k cats) ∙ is_c) (sym (get-front h.begun (m ∷ []) k begun) ∙ is_x)
      (sym (get-front h.done (d ∷ []) k done) ∙ is_y)

  -- it is the last of them
  get_after : slice_get more.behind size ≡ Some after
  get_after = ap (slice_get more.behind) (sym one.cats_length) ∙ get-last h.behind after

  -- ---- a front of the texts before it

  module _ (count : ℕ) (within : count ≤ bytes) where
    same_whole : whole_in (replies_of more) count ≡ whole_in (replies_of h) count
    same_whole = ap (λ (l : List Text). whole_in l count) one.texts_are ∙ whole-more (replies_of h) (t ∷ []) count (one.has_bytes, tt) within

    told_less : (n : ℕ) → n < size → told_within more n count ≡ told_within h n count
    told_less n less =
        let b : slice_get more.begun n ≡ slice_get h.begun n = get-front h.begun (m ∷ []) n (omega (arith, less, one.begun_length)) in
        let p : slice_get more.pieces n ≡ slice_get h.pieces n = get-front h.pieces (ts.pieces ∷ []) n (omega (arith, less, one.pieces_length)) in
        let f : take n (replies_of more) ≡ take n (replies_of h) = ap (take n) one.texts_are ∙ take-append-le n (replies_of h) (t ∷ []) (omega (arith, less)) in
        ap (λ (x : Option Marked). marks_within x (slice_get more.pieces n) (count - length (joined_texts (take n (replies_of more))))) b
        ∙ ap (λ (x : Option (List Text)). marks_within (slice_get h.begun n) x (count - length (joined_texts (take n (replies_of more))))) p
        ∙ ap (λ (l : List Text). marks_within (slice_get h.begun n) (slice_get h.pieces n) (count - length (joined_texts l))) f

    no_more_told : (n : ℕ) → n ≤ size → told_within h n count ≡ [] → told_within more n count ≡ []
    no_more_told n most told = by (cases_lt n size)
      where
        by : (n < size) ⊎ (size ≤ n) → told_within more n count ≡ []
        by (inl less) = told_less n less ∙ told
        by (inr same) =
            let e : size ≡ n = omega (arith, same, most) in
            let f : take n (replies_of more) ≡ replies_of h = ap (take n) one.texts_are ∙ take_at (replies_of h) (t ∷ []) n e in
            let none : count - length (joined_texts (take n (replies_of more))) ≡ 0 = ap (λ (l : List Text). count - length (joined_texts l)) f ∙ omega (arith, within) in
            let last : slice_get more.pieces n ≡ Some ts.pieces = ap (slice_get more.pieces) (sym (one.pieces_length ∙ e)) ∙ get-last h.pieces ts.pieces in
            first-none (slice_get more.begun n) (slice_get more.pieces n) (count - length (joined_texts (take n (replies_of more)))) (λ us is.
            let same_texts : us ≡ ts.pieces = same_Some us ts.pieces (sym is ∙ last) in
            ap (whole_in us) none ∙ whole-none us (subst HaveBytes (sym same_texts) one.pieces_have))

    behind-more : (c : Cat) → IsBehindSome found u h c count → IsBehindSome found u more c count
    behind-more c b =
        let r : reached_by found u more c count ≡ reached_by found u h c count = ap (λ k. max k c.numbers.last) same_whole in
        let s : state_behind found u more (reached_by found u more c count) ≡ state_behind found u h (reached_by found u h c count) =
        ap (state_behind found u more) r ∙ state-more (begins u.opened.grid u.rules) h.done d (reached_by found u h c count) (omega (arith, b.within, one.begun_length, one.done_length)) in
        record {
          of_run = b.of_run;
          within = omega (arith, b.within, r, length-append h.begun (m ∷ []));
          near = omega (arith, b.near, same_whole);
          rules = subst (λ (x : State). HasRules c x.rules) (sym s) b.rules;
          grid = b.grid ∙ ap (λ (x : State). x.grid) (sym s);
          at = subst (λ n. IsAt found u more n c) (sym r) (at-more (reached_by found u h c count) c b.at);
          had_numbers = subst (LastHadNumbers more) (sym r)
              (had-more (reached_by found u h c count) (omega (arith, b.within, one.begun_length)) b.had_numbers);
          untold = λ less. ap (λ k. told_within more k count) same_whole
              ∙ no_more_told (whole_in (replies_of h) count) (whole-most (replies_of h) count) (b.untold (omega (arith, less, same_whole)));
        }

    -- a request that is pending is so still
    amid-more : (c : Cat) (p : Pending) (n : ℕ) → IsAmidSome found u h c p n count → IsAmidSome found u more c p n count
    amid-more c p n a =
        let w = a.waits_behind in
        let less : n < length h.begun = slice_get_within h.begun n w.next w.is_next in
        let same : state_behind found u h n ≡ state_behind found u more n =
        sym (state-more (begins u.opened.grid u.rules) h.done d n (omega (arith, less, one.begun_length, one.done_length))) in
        let reached : reached_by found u more c count ≡ n = ap (λ k. max k c.numbers.last) same_whole ∙ a.reached in
        record {
          of_run = a.of_run;
          reached = reached;
          near = omega (arith, a.near, same_whole);
          rules = subst (λ (x : State). HasRules c x.rules) same a.rules;
          waits_behind = record {
            next = w.next;
            is_next = get-front h.begun (m ∷ []) n less ∙ w.is_next;
            line_is = w.line_is;
            request = w.request;
            means = subst (λ (x : State). MeansRequest x w.next.asked w.request) same w.means;
            waits = subst (λ (x : State). WaitsInDeed x (n + 1) w.request w.next.marks c p) same w.waits;
          };
          told =
              let told_same : told_within h (whole_in (replies_of h) count) count ≡ told_within more (whole_in (replies_of more) count) count =
              sym (ap (λ k. told_within more k count) same_whole ∙ told_less (whole_in (replies_of h) count) (omega (arith, less, one.begun_length, a.reached))) in
              subst (λ (x : List Mark). AreFirst x p.marks) told_same a.told;
          since = λ e is.
              let within : n < length (cats_of h) = omega (arith, less, one.begun_length, one.cats_length) in
              a.since e (sym (get-front (cats_of h) (after ∷ []) n within) ∙ is);
        }

  -- a front of what was sure is a front of what is now
  split-more : (part left : Text) → report ++ h.sure ≡ part ++ left → report ++ more.sure ≡ part ++ (left ++ ts.sure)
  split-more part left split = sym (append_assoc report h.sure ts.sure) ∙ ap (λ (u : Text). u ++ ts.sure) split ∙ append_assoc part left ts.sure

  -- so many bytes of replies are shown by it
  within-front : (part left : Text) → report ++ h.sure ≡ part ++ left → length part - length report ≤ bytes
  within-front part left split =
      omega (arith, ap length split, length-append part left, length-append report h.sure, ap length one.all_sure)

  -- what was left of the requests before it is left of it
  pub image-more : (old_sink main sink : Text) → OneOfRun found u h old_sink main sink → OneOfRun found u more old_sink main sink
  image-more old_sink main sink (not_begun c stands adds is) = not_begun c stands adds is
  image-more old_sink main sink (in_run c part left stands is split behind) =
      in_run c part (left ++ ts.sure) stands is (split-more part left split) (behind-more (length part - length report) (within-front part left split) c behind)
  image-more old_sink main sink (in_deed_of_run c p n part left stands is split amid) =
      in_deed_of_run c p n part (left ++ ts.sure) stands is (split-more part left split) (amid-more (length part - length report) (within-front part left split) c p n amid)

  -- ---- so many bytes of its own text

  module _ (k : ℕ) where
    whole_with : whole_in (replies_of more) (bytes + k) ≡ size + whole_in (t ∷ []) k
    whole_with = ap (λ (l : List Text). whole_in l (bytes + k)) one.texts_are ∙ whole-behind (replies_of h) (t ∷ []) k

    whole_cut : k < length t → whole_in (replies_of more) (bytes + k) ≡ size
    whole_cut less = let none = whole-less t [] k less in whole_with ∙ omega (arith, none)

    whole_full : length t ≡ k → whole_in (replies_of more) (bytes + k) ≡ suc size
    whole_full all =
        let one_whole : whole_in (t ∷ []) k ≡ 1 = ap (whole_in (t ∷ [])) (sym all ∙ omega (arith, length-append t [])) ∙ whole-all (t ∷ []) in
        whole_with ∙ omega (arith, one_whole)

    told_next : told_within more size (bytes + k) ≡ take (whole_in ts.pieces k) m.marks
    told_next =
        let b : slice_get more.begun size ≡ Some m = ap (slice_get more.begun) (sym one.begun_length) ∙ get-last h.begun m in
        let p : slice_get more.pieces size ≡ Some ts.pieces = ap (slice_get more.pieces) (sym one.pieces_length) ∙ get-last h.pieces ts.pieces in
        let f : take size (replies_of more) ≡ replies_of h = ap (take size) one.texts_are ∙ take_at (replies_of h) (t ∷ []) size refl in
        let e : bytes + k - length (joined_texts (take size (replies_of more))) ≡ k = ap (λ (l : List Text). bytes + k - length (joined_texts l)) f ∙ omega arith in
        ap (λ (x : Option Marked). marks_within x (slice_get more.pieces size) (bytes + k - length (joined_texts (take size (replies_of more))))) b
        ∙ ap (λ (x : Option (List Text)). marks_within (Some m) x (bytes + k - length (joined_texts (take size (replies_of more))))) p
        ∙ ap (marks_within (Some m) (Some ts.pieces)) e

    told_past : told_within more (suc size) (bytes + k) ≡ []
    told_past =
        let b : slice_get more.begun (suc size) ≡ None = slice_get_past more.begun (suc size) (omega (arith, length-append h.begun (m ∷ []), one.begun_length)) in
        ap (λ (x : Option Marked). marks_within x (slice_get more.pieces (suc size)) (bytes + k - length (joined_texts (take (suc size) (replies_of more))))) b

  -- ---- the marks that are shown

  marks_cut : (k : ℕ) → k < length t → marks_shown more (bytes + k) ≡ marks_of h.begun ++ take (whole_in ts.pieces k) m.marks
  marks_cut k less =
      let whole : whole_in (replies_of more) (bytes + k) ≡ size = whole_cut k less in
      let those : take size more.begun ≡ h.begun = take_at h.begun (m ∷ []) size one.begun_length in
      let this : slice_get more.begun size ≡ Some m = ap (slice_get more.begun) (sym one.begun_length) ∙ get-last h.begun m in
      ap (λ n. marks_of (take n more.begun ++ with_marks (told_within more n (bytes + k)) (slice_get more.begun n))) whole
      ∙ ap (λ (x : List Marked). marks_of (x ++ with_marks (told_within more size (bytes + k)) (slice_get more.begun size))) those
      ∙ ap (λ (x : Option Marked). marks_of (h.begun ++ with_marks (told_within more size (bytes + k)) x)) this
      ∙ marks-push h.begun (record m { marks = told_within more size (bytes + k) }) ∙ ap (λ (x : List Mark). marks_of h.begun ++ x) (told_next k)

  marks_full : (k : ℕ) → length t ≡ k → marks_shown more (bytes + k) ≡ marks_of h.begun ++ m.marks
  marks_full k all =
      let whole : whole_in (replies_of more) (bytes + k) ≡ suc size = whole_full k all in
      let those : take (suc size) more.begun ≡ more.begun = take_all (suc size) more.begun (omega (arith, length-append h.begun (m ∷ []), one.begun_length)) in
      let none : slice_get more.begun (suc size) ≡ None = slice_get_past more.begun (suc size) (omega (arith, length-append h.begun (m ∷ []), one.begun_length)) in
      ap (λ n. marks_of (take n more.begun ++ with_marks (told_within more n (bytes + k)) (slice_get more.begun n))) whole
      ∙ ap (λ (x : List Marked). marks_of (x ++ with_marks (told_within more (suc size) (bytes + k)) (slice_get more.begun (suc size)))) those
      ∙ ap (λ (x : Option Marked). marks_of (more.begun ++ with_marks (told_within more (suc size) (bytes + k)) x)) none
      ∙ ap marks_of (append-nil more.begun) ∙ marks-push h.begun m

  -- ---- what is left of it

  module _ (at : State) (at_is : state_behind found u h size ≡ at) where
    at_size : state_behind found u more size ≡ at
    at_size = state-more (begins u.opened.grid u.rules) h.done d size (omega (arith, one.done_length)) ∙ at_is

    at_next : state_behind found u more (suc size) ≡ d.state
    at_next = ap (λ k. state_behind found u more (suc k)) (sym one.done_length) ∙ state-last (begins u.opened.grid u.rules) h.done d

    -- a catalogue with so many bytes shown, where that many requests are shown whole, and that many done
    made : (c : Cat) (k w n : ℕ) → IsOfRun found c → whole_in (replies_of more) (bytes + k) ≡ w → max w c.numbers.last ≡ n → n ≤ suc size
        → c.numbers.last ≤ w + 1
        → (s : State) → state_behind found u more n ≡ s → HasRules c s.rules → grid_of c ≡ s.grid → IsAt found u more n c → LastHadNumbers more n
        → (c.numbers.last < w + 1 → told_within more w (bytes + k) ≡ []) → IsBehindSome found u more c (bytes + k)
    made c k w n its whole most within near s state rules grid at_one had told =
        let r : reached_by found u more c (bytes + k) ≡ n = ap (λ i. max i c.numbers.last) whole ∙ most in
        let e : s ≡ state_behind found u more (reached_by found u more c (bytes + k)) = sym (ap (state_behind found u more) r ∙ state) in
        record {
          of_run = its;
          within = omega (arith, r, within, length-append h.begun (m ∷ []), one.begun_length);
          near = omega (arith, near, whole);
          rules = subst (λ (x : State). HasRules c x.rules) e rules;
          grid = grid ∙ ap (λ (x : State). x.grid) e;
          at = subst (λ i. IsAt found u more i c) (sym r) at_one;
          had_numbers = subst (LastHadNumbers more) (sym r) had;
          untold = λ less. ap (λ i. told_within more i (bytes + k)) whole ∙ told (omega (arith, less, whole));
        }

    module _ (c : Cat) (its : IsOfRun found c) (is_last : slice_get (cats_of h) size ≡ Some c) (last : c.numbers.last ≤ size)
        (grid : grid_of c ≡ at.grid) (rules : HasRules c at.rules) (marks_are : d.reply.marks ≡ m.marks) (n : ℕ) (n_is : n ≡ size + 1)
        (request : Request) (means : MeansRequest at m.asked request) (had_last : LastHadNumbers h size) where
      -- the requests before it, and with it
      had_before : LastHadNumbers more size
      had_before = had-more size (omega arith) had_last

      had_after : HadNumbersFor c request d → LastHadNumbers more (suc size)
      had_after had = had-now h m d ts after size one.begun_length one.done_length (get_cat size c is_last) at request means marks_are had

      no_marks_had : d.reply.marks ≡ [] → LastHadNumbers more (suc size)
      no_marks_had none = had_after (λ session order is makes some was. absurd (some none))

      at_before : IsAt found u more size c
      at_before = exact (get_cat size c is_last)

      at_after : IsAt found u more (suc size) after
      at_after = exact get_after

      -- it asks for a sweep, which is under way
      at_swept : (e : Cat) → IsSweep request → GivesNone c e → GivesNone e after → IsAt found u more size e
      at_swept e asks since until =
          amid_sweep c after m (get_cat size c is_last) get_after (ap (slice_get more.begun) (sym one.begun_length) ∙ get-last h.begun m)
          (asks-sweep at m.asked request means asks) since until

      -- nothing is changed, and no mark is told
      not_changed : (k : ℕ) → k < length t → whole_in ts.pieces k ≡ 0 → IsBehindSome found u more c (bytes + k)
      not_changed k less none =
          made c k size size its (whole_cut k less) (omega (arith, last)) (omega arith) (omega (arith, last)) at at_size rules grid at_before had_before
          (λ l. told_next k ∙ ap (λ i. take i m.marks) none)

      -- it is pending, and no more marks are told than are kept
      waiting : (e : Cat) (p : Pending) (k : ℕ) → IsAmid c e → GivesFew c e (length p.marks + 1) → p.line ≡ m.asked.line
          → WaitsInDeed at n request d.reply.marks e p → TellsFew ts.pieces (length t) (length p.marks) k → IsAmidSome found u more e p size (bytes + k)
      waiting e p k amid few line waits tells =
          let whole : whole_in (replies_of more) (bytes + k) ≡ size = whole_cut k tells.cut in
          let first : AreFirst (take (whole_in ts.pieces k) m.marks) p.marks =
          first-kept m.marks p.marks (whole_in ts.pieces k) (subst (λ (x : List Mark). AreFirst p.marks x) marks_are waits.kept) tells.few in
          record {
            of_run = amid-of found c e its amid;
            reached = ap (λ j. max j e.numbers.last) whole ∙ omega (arith, last, amid.last);
            near = omega (arith, whole, last, amid.last);
            rules = subst (λ (x : State). HasRules e x.rules) (sym at_size) (amid.rules ∙ rules);
            waits_behind = record {
              next = m;
              is_next = ap (slice_get more.begun) (sym one.begun_length) ∙ get-last h.begun m;
              line_is = line;
              request = request;
              means = subst (λ (x : State). MeansRequest x m.asked request) (sym at_size) means;
              waits = subst (λ (x : State). WaitsInDeed x (size + 1) request m.marks e p) (sym at_size)
                  (subst (λ j. WaitsInDeed at j request m.marks e p) n_is (subst (λ (x : List Mark). WaitsInDeed at n request x e p) marks_are waits));
            };
            told = subst (λ (x : List Mark). AreFirst x p.marks) (sym (ap (λ j. told_within more j (bytes + k)) whole ∙ told_next k)) first;
            since = λ x is.
                let same : x ≡ c = same_Some x c (sym is ∙ get_cat size c is_last) in
                let P : Cat → Type 0 = λ y. KeepsNumbers y e × GivesFew y e (length p.marks + 1) in
                subst P (sym same) (amid.keeps, few);
          }

      -- it was kept
      changed : (k : ℕ) → IsLeftBehind c n d after → HadNumbersFor c request d → (k < length t) ⊎ (length t ≡ k) → IsBehindSome found u more after (bytes + k)
      changed k behind had (inl less) =
          made after k size (suc size) (behind-of found c n d after its behind) (whole_cut k less) (omega (arith, behind.last, n_is)) (omega arith)
          (omega (arith, behind.last, n_is)) d.state at_next behind.rules behind.grid at_after (had_after had)
          (λ l. absurd (omega (arith, l, behind.last, n_is)))
      changed k behind had (inr all) =
          made after k (suc size) (suc size) (behind-of found c n d after its behind) (whole_full k all) (omega (arith, behind.last, n_is)) (omega arith)
          (omega (arith, behind.last, n_is)) d.state at_next behind.rules behind.grid at_after (had_after had) (λ l. told_past k)

      -- nothing is seen of it, before its whole text is shown and then
      no_change : (e : Cat) (k : ℕ) → IsLike c e → m.marks ≡ [] → k < length t → IsAt found u more size e → IsBehindSome found u more e (bytes + k)
      no_change e k like no_marks less at_one =
          made e k size size (like-of found c e its like) (whole_cut k less) (omega (arith, last, like.last)) (omega arith) (omega (arith, last, like.last)) at at_size
          (like.rules ∙ rules) (like.grid ∙ grid) at_one had_before
          (λ l. told_next k ∙ ap (take (whole_in ts.pieces k)) no_marks ∙ take_nil (whole_in ts.pieces k))

      no_change_told : (k : ℕ) → IsLike c after → m.marks ≡ [] → d.state.grid ≡ grid_of c → HasRules c d.state.rules → length t ≡ k
          → IsBehindSome found u more after (bytes + k)
      no_change_told k like no_marks same its_rules all =
          made after k (suc size) (suc size) (like-of found c after its like) (whole_full k all) (omega (arith, last, like.last)) (omega arith) (omega (arith, last, like.last))
          d.state at_next (like.rules ∙ its_rules) (like.grid ∙ sym same) at_after (no_marks_had (marks_are ∙ no_marks)) (λ l. told_past k)

      follows_unseen : (k : ℕ) → c ≡ after → m.marks ≡ [] → d.state.grid ≡ grid_of c → HasRules c d.state.rules → (k < length t) ⊎ (length t ≡ k)
          → IsBehindSome found u more after (bytes + k)
      follows_unseen k same no_marks grid_same its_rules (inl less) =
          let P : Cat → Type 0 = λ x. IsBehindSome found u more x (bytes + k) in
          subst P same (no_change c k (like_self c) no_marks less at_before)
      follows_unseen k same no_marks grid_same its_rules (inr all) =
          let P : Cat → Type 0 = λ x. IsLike c x in
          no_change_told k (subst P same (like_self c)) no_marks grid_same its_rules all

      follows_swept : (k : ℕ) → IsSweep request → IsLike c after → GivesNone c after → m.marks ≡ [] → d.state.grid ≡ grid_of c → HasRules c d.state.rules
          → (k < length t) ⊎ (length t ≡ k) → IsBehindSome found u more after (bytes + k)
      follows_swept k asks like gives no_marks grid_same its_rules (inl less) = no_change after k like no_marks less (at_swept after asks gives (none_self after))
      follows_swept k asks like gives no_marks grid_same its_rules (inr all) = no_change_told k like no_marks grid_same its_rules all

      follows : (e : Cat) → e ≡ after → (k : ℕ) → ComesAfter c n request d e → (k < length t) ⊎ (length t ≡ k) → IsBehindSome found u more after (bytes + k)
      follows e same k (kept behind had) most = changed k (let P : Cat → Type 0 = λ x. IsLeftBehind c n d x in subst P same behind) had most
      follows e same k (unseen is no_marks grid_same its_rules) most = follows_unseen k (sym is ∙ same) (sym marks_are ∙ no_marks) grid_same its_rules most
      follows e same k (swept asks like gives no_marks grid_same its_rules) most =
          let P : Cat → Type 0 = λ x. IsLike c x × GivesNone c x in
          let so = subst P same (like, gives) in
          follows_swept k asks so.0 so.1 (sym marks_are ∙ no_marks) grid_same its_rules most

  -- ---- a part of its text is shown

  module _ (old_sink shown sink : Text) (shown_is : shown ≡ (old_sink ++ report) ++ joined_texts (replies_of h)) (adds : AddsPart ts.sure shown sink) where
    -- of the replies
    abbrev of_replies : Text
    of_replies = joined_texts (replies_of h) ++ take adds.count ts.sure

    abbrev part : Text
    part = report ++ of_replies

    behind_report : length part - length report ≡ bytes + adds.count
    behind_report =
        let own = length-append (joined_texts (replies_of h)) (take adds.count ts.sure) ∙ ap (λ k. bytes + k) (length-take-le adds.count ts.sure adds.within) in
        omega (arith, own, length-append report of_replies)

    sink_is : sink ≡ old_sink ++ part
    sink_is = adds.is ∙ ap (λ (u : Text). u ++ take adds.count ts.sure) shown_is ∙ append_assoc (old_sink ++ report) (joined_texts (replies_of h)) (take adds.count ts.sure)
        ∙ append_assoc old_sink report of_replies

    split_replies : more.sure ≡ of_replies ++ drop adds.count ts.sure
    split_replies = ap (λ (u : Text). u ++ ts.sure) one.all_sure ∙ ap (λ (u : Text). joined_texts (replies_of h) ++ u) (sym (take-append-drop adds.count ts.sure))
        ∙ sym (append_assoc (joined_texts (replies_of h)) (take adds.count ts.sure) (drop adds.count ts.sure))

    split : report ++ more.sure ≡ part ++ drop adds.count ts.sure
    split = ap (λ (u : Text). report ++ u) split_replies ∙ sym (append_assoc report of_replies (drop adds.count ts.sure))

    cut_or_full : (adds.count < length t) ⊎ (length t ≡ adds.count)
    cut_or_full = elim (cases_lt adds.count (length t)) [
      | inl less ↦ inl less
      | inr all ↦ inr (omega (arith, all, adds.within, ap length one.sure_first, length-append ts.sure one.unsure))
    ]

    image_by : (main : Text) (c : Cat) → StandsFor main c → IsBehindSome found u more c (bytes + adds.count) → OneOfRun found u more old_sink main sink
    image_by main c stands behind = in_run c part (drop adds.count ts.sure) stands sink_is split (subst (IsBehindSome found u more c) (sym behind_report) behind)

    -- it is pending
    image_waiting : (main : Text) (c : Cat) (p : Pending) → StandsFor main c → IsAmidSome found u more c p size (bytes + adds.count)
        → OneOfRun found u more old_sink main sink
    image_waiting main c p stands amid =
        in_deed_of_run c p size part (drop adds.count ts.sure) stands sink_is split (subst (IsAmidSome found u more c p size) (sym behind_report) amid)

    pub shows-one : ShowsMost report more old_sink sink
    shows-one = record {
      part = part;
      more = drop adds.count ts.sure;
      is = sink_is;
      split = split;
      report_first = λ some. omega (arith, length-append report of_replies);
      all_but_one =
          let w : whole_in (replies_of more) (length part - length report) ≡ size + whole_in (t ∷ []) adds.count = ap (whole_in (replies_of more)) behind_report ∙ whole_with adds.count in
          omega (arith, w, length-append h.begun (m ∷ []), one.begun_length);
    }

    -- the marks that are shown are the first of those that were come to
    pub shown-taken : (taken : List Mark) → AreFirst taken m.marks → (length t ≤ length ts.sure → length ts.pieces ≡ length m.marks) → whole_in ts.pieces adds.count ≤ length taken
        → AreFirst (marks_shown more (length shows-one.part - length report)) (marks_of h.begun ++ taken)
    unfolding shows-one
    shown-taken taken first many few =
        subst (λ j. AreFirst (marks_shown more j) (marks_of h.begun ++ taken)) (sym behind_report) (by cut_or_full)
      where
        by : (adds.count < length t) ⊎ (length t ≡ adds.count) → AreFirst (marks_shown more (bytes + adds.count)) (marks_of h.begun ++ taken)
        by (inl less) =
            let j = whole_in ts.pieces adds.count in
            let own : take j m.marks ≡ take j taken = ap (take j) first.are ∙ take-append-le j taken first.rest few in
            record {
              rest = drop j taken;
              are = ap (λ (x : List Mark). marks_of h.begun ++ x) (sym (take-append-drop j taken)) ∙ sym (append_assoc (marks_of h.begun) (take j taken) (drop j taken))
                  ∙ ap (λ (x : List Mark). x ++ drop j taken) (sym (marks_cut adds.count less ∙ ap (λ (x : List Mark). marks_of h.begun ++ x) own));
            }
        by (inr all) =
            let none : first.rest ≡ [] = nil_from_length first.rest (omega (arith, all_whole, few, many (omega (arith, all, adds.within)), ap length first.are, length-append taken first.rest)) in
            let same : m.marks ≡ taken = first.are ∙ ap (λ (x : List Mark). taken ++ x) none ∙ append-nil taken in
            record {
              rest = [];
              are = ap (λ (x : List Mark). marks_of h.begun ++ x) (sym same) ∙ sym (marks_full adds.count all) ∙ sym (append-nil (marks_shown more (bytes + adds.count)));
            }
          where
            all_whole : whole_in ts.pieces adds.count ≡ length ts.pieces
            all_whole =
                let e : adds.count ≡ length (joined_texts ts.pieces) + length one.rest = sym all ∙ ap length one.pieces_first ∙ length-append (joined_texts ts.pieces) one.rest in
                ap (whole_in ts.pieces) e ∙ ap (λ (x : List Text). whole_in x (length (joined_texts ts.pieces) + length one.rest)) (sym (append-nil ts.pieces)) ∙ whole-behind ts.pieces [] (length one.rest)
                ∙ omega arith

-- all that was handled is shown
pub shows-all : (report : Text) (h : Handled) (old_sink sink : Text) → length h.begun ≡ length (replies_of h) → h.sure ≡ joined_texts (replies_of h)
    → sink ≡ (old_sink ++ report) ++ joined_texts (replies_of h)
    → ShowsMost report h old_sink sink
shows-all report h old_sink sink e sure is =
    let replies = joined_texts (replies_of h) in
    let behind : length (report ++ replies) - length report ≡ length replies = omega (arith, length-append report replies) in
    let whole : whole_in (replies_of h) (length (report ++ replies) - length report) ≡ length (replies_of h) = ap (whole_in (replies_of h)) behind ∙ whole-all (replies_of h) in
    record {
      part = report ++ replies;
      more = [];
      is = is ∙ append_assoc old_sink report replies;
      split = ap (λ (t : Text). report ++ t) sure ∙ sym (append-nil (report ++ replies));
      report_first = λ some. omega (arith, length-append report replies);
      all_but_one = omega (arith, e, whole);
    }

-- with the report
pub shows-whole : (report : Text) (h : Handled) (old_sink sink : Text) (e : length h.begun ≡ length (replies_of h))
    → (sure : h.sure ≡ joined_texts (replies_of h)) → (is : sink ≡ (old_sink ++ report) ++ joined_texts (replies_of h))
    → length report ≤ length (shows-all report h old_sink sink e sure is).part
unfolding shows-all
shows-whole report h old_sink sink e sure is = omega (arith, length-append report (joined_texts (replies_of h)))

-- ---- one request

untold_cut : (ts : List Text) (t rest : Text) (k : ℕ) → 0 < length t → t ≡ joined_texts ts ++ rest → IsUntold ts k → (k < length t) × (whole_in ts k ≡ 0)
untold_cut [] t rest k some e untold = (omega (arith, some, untold), refl)
untold_cut (u ∷ ts) t rest k some e untold =
    (omega (arith, untold, ap length e, length-append (u ++ joined_texts ts) rest, length-append u (joined_texts ts)), whole-less u ts k untold)

module _ (found : Cat) (u : Undone found) (c : Cat) (h : Handled) (m : Marked) (d : Done) (ts : SureTexts) (after : Cat) (n : ℕ)
    (one : IsOneMore h m d ts after (reply_text n d.reply ts.pieces)) (at : State) (request : Request)
    (means : MeansRequest at m.asked request) (at_is : state_behind found u h (length (replies_of h)) ≡ at) (rules : HasRules c at.rules)
    (its : IsOfRun found c) (is_last : slice_get (cats_of h) (length (replies_of h)) ≡ Some c) (last : c.numbers.last ≤ length (replies_of h))
    (grid : grid_of c ≡ at.grid) (marks_are : d.reply.marks ≡ m.marks) (n_is : n ≡ length (replies_of h) + 1)
    (had_last : LastHadNumbers h (length (replies_of h))) (old_sink shown main sink : Text)
    (shown_is : shown ≡ (old_sink ++ whole_report found u) ++ joined_texts (replies_of h))
    (noted : (e : Cat) → StandsFor main e → HasLine m.asked.line e.pending) where
  abbrev its_text : Text
  its_text = reply_text n d.reply ts.pieces

  -- while a request is handled a stop leaves that nothing is changed, that it is pending, or that it is kept
  pub image-one : OneOf at c after n request d ts shown main sink → OneOfRun found u (with_one h m d ts after) old_sink main sink
  image-one (not_kept stands adds untold) =
      let cut = untold_cut ts.pieces its_text one.rest adds.count one.has_bytes one.pieces_first untold in
      image_by found u h m d ts after its_text one old_sink shown sink shown_is adds main c stands
      (not_changed found u h m d ts after its_text one at at_is c its is_last last grid rules marks_are n n_is request means had_last adds.count cut.0 cut.1)
  image-one (in_deed_so e p amid few waits stands adds tells) =
      image_waiting found u h m d ts after its_text one old_sink shown sink shown_is adds main e p stands
      (waiting found u h m d ts after its_text one at at_is c its is_last last grid rules marks_are n n_is request means had_last e p adds.count amid few
      (subst (HasLine m.asked.line) waits.is (noted e stands)) waits tells)
  image-one (kept_so comes stands adds) =
      image_by found u h m d ts after its_text one old_sink shown sink shown_is adds main after stands
      (follows found u h m d ts after its_text one at at_is c its is_last last grid rules marks_are n n_is request means had_last after refl adds.count comes
      (cut_or_full found u h m d ts after its_text one old_sink shown sink shown_is adds))

-- ---- texts have bytes

line_has : (n : ℕ) (words : List Text) → 0 < length (line n words)
line_has n words = omega (arith, length-append (spaced (decimal n ∷ words)) (0x0A ∷ []))

piece_has : (known : ℕ → Type 0) (n place : ℕ) (sent : Option Sent) (mark : Mark) (text : Text) → IsPiece known n place sent mark text → 0 < length text
piece_has known n place None mark text is = omega (arith, ap length is, line_has n (codes "mark" ∷ mark_words mark))
piece_has known n place (Some s) mark text is = by (place == s.before) is
  where
    by : (b : Bool)
        → MatchBool b ((bytes : List ℕ) × SendsBytes known s mark bytes × (text ≡ data_lines n bytes ++ mark_line n mark)) (text ≡ mark_line n mark)
        → 0 < length text
    by true sends = omega (arith, ap length sends.2, length-append (data_lines n sends.0) (mark_line n mark), line_has n (codes "mark" ∷ mark_words mark))
    by false same = omega (arith, ap length same, line_has n (codes "mark" ∷ mark_words mark))

pub pieces-have : (known : ℕ → Type 0) (n place : ℕ) (sent : Option Sent) (marks : List Mark) (ts : List Text) → ArePieces known n sent place marks ts
    → HaveBytes ts
pieces-have known n place sent [] [] are = tt
pieces-have known n place sent (mark ∷ marks) (t ∷ ts) are = (piece_has known n place sent mark t are.0, pieces-have known n (place + 1) sent marks ts are.1)
pieces-have known n place sent [] (t ∷ ts) are = absurd are
pieces-have known n place sent (mark ∷ marks) [] are = absurd are

pub rest_has : (n : ℕ) (r : Reply) → 0 < length (rest_lines n r)
rest_has n r =
    let a = data_lines n r.shown in
    let b = flat_map (passed_line n) r.passed in
    let c = flat_map (row_line n) r.rows in
    let e = end_line n r.end in
    omega (arith, length-append ((a ++ b) ++ c) e, line_has n (end_words r.end))

pub reply_has : (n : ℕ) (r : Reply) (ts : List Text) → 0 < length (reply_text n r ts)
reply_has n r ts = omega (arith, length-append (joined_texts ts) (rest_lines n r), rest_has n r)
