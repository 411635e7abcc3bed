-- Lines, and what is held of them.
use Rattle.std.proofs.Common.{◌≡◌, ◌≢◌, inl, inr, ℕ, suc, Some, None, get_or, ◌+◌, ◌-◌, ◌<◌, ◌≤◌, min, List, [], ◌∷◌, ◌++◌, length, take, drop, arith, refl, sym, subst, ap, ◌∙◌, append_assoc, length-append, length-take, take-take, ◌^◌, IsTrue, length-drop, take-append-drop}
use Rattle.std.proofs.lemmas.Bool.{cases_lt}
use Rattle.std.proofs.lemmas.List.{take_all, drop_all, drop-take, drop-drop, take-append-le, append-nil}
use Rattle.std.proofs.Math.Seq.{take-append-add}
use Rattle.std.proofs.lemmas.Bool.Decides.{nat_tests}
use Rattle.std.specs.List.{position, position_or_len}
use Rattle.grid_outside.proofs.Spans.{nat_cases}
use Rattle.grid_model.specs.Lines.{IsLine}
use Rattle.grid_outside.specs.Source.{SourceState}
use Rattle.req_lines.specs.Hearing.{Stops}
use Rattle.req_lines.specs.Reading.{is_newline, Reader, input, Gets, GetsMost, Took, TookAll, ReadsLine, ReadsPart, Passes, PassesPart}
use Rattle.req_lines.specs.declared.line_reader.Passed.TheVariants as passed
use Rattle.req_lines.specs.declared.line_reader.Ended.TheVariants as ended

-- as many as there is room for, or all
take-min : (n : ℕ) (xs : List ℕ) → take n xs ≡ take (min n (length xs)) xs
take-min n xs = elim (cases_lt n (length xs)) [
  | inl lt ↦ let e : n ≡ min n (length xs) = omega arith in ap (λ (k : ℕ). take k xs) e
  | inr le ↦ let e : length xs ≡ min n (length xs) = omega arith in take_all n xs le ∙ sym (take_all (length xs) xs (omega arith)) ∙ ap (λ (k : ℕ). take k xs) e
]

-- what is held of a line, and more of it
pub take-more : (n : ℕ) (xs ys : List ℕ) → length xs ≤ n → take n (xs ++ ys) ≡ xs ++ take (min (n - length xs) (length ys)) ys
take-more n xs ys le =
    let e : n ≡ length xs + (n - length xs) = omega arith in
    ap (λ (k : ℕ). take k (xs ++ ys)) e ∙ take-append-add xs ys (n - length xs) ∙ ap (λ (zs : List ℕ). xs ++ zs) (take-min (n - length xs) ys)

pub IsLine-append : (a b : List ℕ) → IsLine a → IsLine b → IsLine (a ++ b)
IsLine-append [] b first second = second
IsLine-append (x ∷ a) b first second = (first.0, IsLine-append a b first.1 second)

-- ---- the first newline

step_newline : (x : ℕ) (xs : List ℕ) → x ≡ 10 → position_or_len is_newline (x ∷ xs) ≡ 0
step_newline x xs e = grind (arith, nat_tests)

step_other : (x : ℕ) (xs : List ℕ) → x ≢ 10 → position_or_len is_newline (x ∷ xs) ≡ suc (position_or_len is_newline xs)
step_other x xs other = let e : 1 + position_or_len is_newline xs ≡ suc (position_or_len is_newline xs) = omega arith in grind (arith, nat_tests)

-- before the first newline there is none
pub line_before : (bs : List ℕ) → IsLine (take (position_or_len is_newline bs) bs)
line_before [] = tt
line_before (x ∷ xs) =
    let P : ℕ → Type 0 = λ n. IsLine (take n (x ∷ xs)) in
    elim (nat_cases x 10) [
      | inl e ↦ subst P (sym (step_newline x xs e)) tt
      | inr other ↦ subst P (sym (step_other x xs other)) (other, line_before xs)
    ]

-- and behind it the rest begins
pub newline_splits : (bs : List ℕ) → position_or_len is_newline bs < length bs → bs ≡ take (position_or_len is_newline bs) bs ++ 10 ∷ drop (suc (position_or_len is_newline bs)) bs
newline_splits [] lt = absurd (omega arith)
newline_splits (x ∷ xs) lt =
    let P : ℕ → Type 0 = λ n. x ∷ xs ≡ take n (x ∷ xs) ++ 10 ∷ drop (suc n) (x ∷ xs) in
    elim (nat_cases x 10) [
      | inl e ↦ subst P (sym (step_newline x xs e)) (ap (λ (b : ℕ). b ∷ xs) e)
      | inr other ↦
          let shorter : position_or_len is_newline xs < length xs = omega (arith, step_other x xs other) in
          subst P (sym (step_other x xs other)) (ap (λ (ys : List ℕ). x ∷ ys) (newline_splits xs shorter))
    ]

-- what a first newline found says
pub found_newline : (bs : List ℕ) (n : ℕ) → position is_newline bs ≡ Some n → (position_or_len is_newline bs ≡ n) × (n < length bs)
found_newline bs n e = elim (cases_lt (position_or_len is_newline bs) (length bs)) [
  | inl lt ↦
      let is : position is_newline bs ≡ Some (position_or_len is_newline bs) = grind (arith, nat_tests) in
      let same : position_or_len is_newline bs ≡ n = cc in (same, omega arith)
  | inr le ↦ let is : position is_newline bs ≡ None = grind (arith, nat_tests) in absurd (cc)
]

pub no_newline : (bs : List ℕ) → position is_newline bs ≡ None → IsLine bs
no_newline bs e = elim (cases_lt (position_or_len is_newline bs) (length bs)) [
  | inl lt ↦ let is : position is_newline bs ≡ Some (position_or_len is_newline bs) = grind (arith, nat_tests) in absurd (cc)
  | inr le ↦ subst IsLine (take_all (position_or_len is_newline bs) bs le) (line_before bs)
]

pub line_found : (bs : List ℕ) (n : ℕ) → position is_newline bs ≡ Some n → IsLine (take n bs)
line_found bs n e = let P : ℕ → Type 0 = λ k. IsLine (take k bs) in subst P (found_newline bs n e).0 (line_before bs)

pub rest_found : (bs : List ℕ) (n : ℕ) → position is_newline bs ≡ Some n → bs ≡ take n bs ++ 10 ∷ drop (suc n) bs
rest_found bs n e =
    let found = found_newline bs n e in
    let P : ℕ → Type 0 = λ k. bs ≡ take k bs ++ 10 ∷ drop (suc k) bs in
    subst P found.0 (newline_splits bs (omega (arith, found.0, found.1)))

pub found_rest : (bs : List ℕ) (n : ℕ) → position is_newline bs ≡ Some n → bs ≡ take n bs ++ 10 ∷ drop (n + 1) bs
found_rest bs n e = let one : suc n ≡ n + 1 = omega arith in rest_found bs n e ∙ ap (λ (k : ℕ). take n bs ++ 10 ∷ drop k bs) one

-- ---- one byte

pub one_taken : (buf left new : List ℕ) (n : ℕ) → length buf ≡ 1 → n ≤ length buf → n ≢ 0 → left ≡ take n buf ++ new → left ≡ get_or buf 0 0 ∷ new
one_taken [] left new n one le some e = absurd (omega arith)
one_taken (b ∷ buf) left new n one le some e =
    let is : n ≡ 1 = omega arith in
    e ∙ ap (λ (k : ℕ). take k (b ∷ buf) ++ new) is

-- what is left of a block behind a line of n bytes and its newline
pub rest_behind : (s e n : ℕ) (xs : List ℕ) → s + (n + 1) ≤ e → drop (suc n) (take (e - s) (drop s xs)) ≡ take (e - (s + (n + 1))) (drop (s + (n + 1)) xs)
rest_behind s e n xs le =
    let size : e - s ≡ suc n + (e - (s + (n + 1))) = omega arith in
    let places : s + (n + 1) ≡ s + suc n = omega arith in
    ap (λ (k : ℕ). drop (suc n) (take k (drop s xs))) size ∙ drop-take (suc n) (e - (s + (n + 1))) (drop s xs)
    ∙ ap (λ (ys : List ℕ). take (e - (s + (n + 1))) ys) (drop-drop (suc n) s xs ∙ ap (λ (k : ℕ). drop k xs) (sym places))

-- what is left of a block behind some of its bytes
pub passed_rest : (s e p count : ℕ) (xs us : List ℕ) → take (e - s) (drop s xs) ≡ us → s ≤ e → e ≤ length xs → p ≡ min count (e - s) → take (e - (s + p)) (drop (s + p) xs) ≡ drop (min count (length us)) us
passed_rest s e p count xs us is le within least =
    let size : length us ≡ e - s = omega (arith, ap length is, length-take (e - s) (drop s xs), length-drop s xs, le, within) in
    let same : min count (length us) ≡ p = omega (arith, size, least) in
    let places : e - s ≡ p + (e - (s + p)) = omega (arith, least, le) in
    sym (ap (λ (k : ℕ). drop k us) same ∙ ap (λ (ys : List ℕ). drop p ys) (sym is) ∙ ap (λ (k : ℕ). drop p (take k (drop s xs))) places ∙ drop-take p (e - (s + p)) (drop s xs)
    ∙ ap (λ (ys : List ℕ). take (e - (s + p)) ys) (drop-drop p s xs))

-- ---- the reading of one line, part by part

-- so far
pub record PartRead (old now : Reader) (from to : SourceState) (holds : List ℕ) : Type 0 where
  pub got : List ℕ
  pub part : List ℕ
  pub is : IsLine part
  pub split : old.unread ++ got ≡ part ++ now.unread
  pub held : holds ≡ take 4097 part
  pub took : Took got from to
  pub taken : now.taken ≡ old.taken + length got
  pub most : now.taken ≤ 2 ^ 48

pub none_read : (old : Reader) (from : SourceState) → old.taken ≤ 2 ^ 48 → PartRead old old from from []
none_read old from most = record { got = []; part = []; is = tt; split = append-nil old.unread; held = refl; took = λ tells. refl; taken = omega arith; most = most }

-- what is held of one part after another
held_more : (n : ℕ) (xs ys : List ℕ) → take n (take n xs ++ ys) ≡ take n (xs ++ ys)
held_more n xs ys = elim (cases_lt n (length xs)) [
  | inl lt ↦
      take-append-le n (take n xs) ys (omega (arith, length-take n xs)) ∙ take-take n n xs (omega arith) ∙ sym (take-append-le n xs ys (omega arith))
  | inr le ↦ ap (λ (zs : List ℕ). take n (zs ++ ys)) (take_all n xs le)
]

module _ (old now : Reader) (from to : SourceState) (holds : List ℕ) (so_far : PartRead old now from to holds) where
  -- the rest of the block, and a block more
  pub more_read : (mid new : Reader) (last : SourceState) (held_now : List ℕ) → to.tells ≡ from.tells → IsLine now.unread → held_now ≡ take 4097 (holds ++ now.unread)
      → mid.taken ≡ now.taken → Gets (input mid to) (input new last) new.unread → PartRead old new from last held_now
  more_read mid new last held_now tells is held same gets = record {
    got = so_far.got ++ new.unread;
    part = so_far.part ++ now.unread;
    is = IsLine-append so_far.part now.unread so_far.is is;
    split = sym (append_assoc old.unread so_far.got new.unread) ∙ ap (λ (xs : List ℕ). xs ++ new.unread) so_far.split;
    held = held ∙ ap (λ (xs : List ℕ). take 4097 (xs ++ now.unread)) so_far.held ∙ held_more 4097 so_far.part now.unread;
    took = λ told. so_far.took told ∙ ap (λ (xs : List ℕ). so_far.got ++ xs) (gets.took (subst IsTrue (sym tells) told)) ∙ sym (append_assoc so_far.got new.unread last.left);
    taken = omega (arith, so_far.taken, same, gets.taken, length-append so_far.got new.unread);
    most = gets.most;
  }

  -- a newline was found
  pub line_read : (new : Reader) (line held_now : List ℕ) → IsLine line → now.unread ≡ line ++ 10 ∷ new.unread → held_now ≡ take 4097 (holds ++ line) → new.taken ≡ now.taken
      → ReadsLine (input old from) ended.Line (input new to) held_now
  line_read new line held_now is split held same = record {
    got = so_far.got;
    line = so_far.part ++ line;
    is = IsLine-append so_far.part line so_far.is is;
    held = held ∙ ap (λ (xs : List ℕ). take 4097 (xs ++ line)) so_far.held ∙ held_more 4097 so_far.part line;
    ends = (
      so_far.split ∙ ap (λ (xs : List ℕ). so_far.part ++ xs) split ∙ sym (append_assoc so_far.part line (10 ∷ new.unread)),
      record {
        took = so_far.took;
        taken = omega (arith, so_far.taken, same);
        most = omega (arith, so_far.most, same);
      },
    );
  }

  -- nothing was left behind the rest of the block
  pub end_read : (mid new : Reader) (last : SourceState) (held_now : List ℕ) → to.tells ≡ from.tells → IsLine now.unread → held_now ≡ take 4097 (holds ++ now.unread)
      → mid.taken ≡ now.taken → mid.unread ≡ [] → new ≡ mid → TookAll [] to last → ReadsLine (input old from) ended.End (input new last) held_now
  end_read mid new last held_now tells is held same empty stays took = record {
    got = so_far.got;
    line = so_far.part ++ now.unread;
    is = IsLine-append so_far.part now.unread so_far.is is;
    held = held ∙ ap (λ (xs : List ℕ). take 4097 (xs ++ now.unread)) so_far.held ∙ held_more 4097 so_far.part now.unread;
    ends = (
      so_far.split,
      record {
        took = λ told. (let all = took (subst IsTrue (sym tells) told) in (so_far.took told ∙ ap (λ (xs : List ℕ). so_far.got ++ xs) all.0 ∙ append-nil so_far.got, all.1));
        taken = omega (arith, so_far.taken, same, ap (λ r. r.taken) stays);
        most = omega (arith, so_far.most, same, ap (λ r. r.taken) stays);
        all = ap (λ r. r.unread) stays ∙ empty;
      },
    );
  }

  -- a byte past the last that is read
  pub past_read : (mid new : Reader) (last : SourceState) (held_now : List ℕ) → to.tells ≡ from.tells → IsLine now.unread → held_now ≡ take 4097 (holds ++ now.unread)
      → mid.taken ≡ now.taken → GetsMost (input mid to) (input new last) [] → ReadsLine (input old from) ended.Long (input new last) held_now
  past_read mid new last held_now tells is held same gets = record {
    got = so_far.got;
    line = so_far.part ++ now.unread;
    is = IsLine-append so_far.part now.unread so_far.is is;
    held = held ∙ ap (λ (xs : List ℕ). take 4097 (xs ++ now.unread)) so_far.held ∙ held_more 4097 so_far.part now.unread;
    ends = (
      so_far.split,
      record {
        byte = gets.byte;
        took = λ told. so_far.took told ∙ ap (λ (xs : List ℕ). so_far.got ++ xs) (gets.took (subst IsTrue (sym tells) told)) ∙ sym (append_assoc so_far.got (gets.byte ∷ []) last.left);
        full = omega (arith, so_far.taken, same, gets.full);
        taken = gets.taken;
        all = gets.all;
      },
    );
  }

  -- the source failed behind the rest of the block
  pub part_read : (last : SourceState) → to.tells ≡ from.tells → IsLine now.unread → (IsTrue to.tells → last.left ≡ to.left) → ReadsPart (input old from) last
  part_read last tells is stays = record {
    got = so_far.got;
    is = subst IsLine (sym so_far.split) (IsLine-append so_far.part now.unread so_far.is is);
    took = λ told. so_far.took told ∙ ap (λ (xs : List ℕ). so_far.got ++ xs) (sym (stays (subst IsTrue (sym tells) told)));
    most = omega (arith, so_far.taken, so_far.most);
  }

  -- memory ran out
  pub stops_reading : Stops (input old from) to
  stops_reading = record {
    bytes = old.unread ++ so_far.got;
    split = λ told. ap (λ (xs : List ℕ). old.unread ++ xs) (so_far.took told) ∙ sym (append_assoc old.unread so_far.got to.left);
    within = omega (arith, so_far.taken, so_far.most, length-append old.unread so_far.got);
  }

-- memory ran out before anything was read
pub stops_here : (old : Reader) (from : SourceState) → old.taken ≤ 2 ^ 48 → Stops (input old from) from
stops_here old from most = record { bytes = old.unread; split = λ told. refl; within = omega (arith, most) }

-- ---- the passing over of bytes, part by part

-- where more are to be passed over than are held, none is left
pub none_held : (left rest : ℕ) (us new : List ℕ) → rest ≡ left - min left (length us) → rest ≢ 0 → new ≡ drop (min left (length us)) us → new ≡ []
none_held left rest us new is some unread = unread ∙ drop_all (min left (length us)) us (omega (arith, is, some))

-- so far
pub record PartPassed (old now : Reader) (from to : SourceState) (count left : ℕ) : Type 0 where
  pub got : List ℕ
  pub body : List ℕ
  pub split : old.unread ++ got ≡ body ++ now.unread
  pub size : length body + left ≡ count
  pub took : Took got from to
  pub taken : now.taken ≡ old.taken + length got
  pub most : now.taken ≤ 2 ^ 48

abbrev pub none_passed : (old : Reader) (from : SourceState) (count : ℕ) → old.taken ≤ 2 ^ 48 → PartPassed old old from from count count
none_passed old from count most = record { got = []; body = []; split = append-nil old.unread; size = omega arith; took = λ tells. refl; taken = omega arith; most = most }

module _ (old now : Reader) (from to : SourceState) (count left : ℕ) (so_far : PartPassed old now from to count left) where
  -- some of what is held
  abbrev pub held_passed : (new : Reader) (rest : ℕ) → new.unread ≡ drop (min left (length now.unread)) now.unread → new.taken ≡ now.taken → rest ≡ left - min left (length now.unread) → PartPassed old new from to count rest
  held_passed new rest unread taken is =
      let p = min left (length now.unread) in
      let front = take p now.unread in
      record {
        got = so_far.got;
        body = so_far.body ++ front;
        split = so_far.split ∙ ap (λ (xs : List ℕ). so_far.body ++ xs) (sym (take-append-drop p now.unread)) ∙ sym (append_assoc so_far.body front (drop p now.unread)) ∙ ap (λ (xs : List ℕ). (so_far.body ++ front) ++ xs) (sym unread);
        size = omega (arith, so_far.size, is, length-append so_far.body front, length-take p now.unread);
        took = so_far.took;
        taken = omega (arith, taken, so_far.taken);
        most = omega (arith, taken, so_far.most);
      }

  -- a block more, where nothing was held
  abbrev pub block_passed : (new : Reader) (last : SourceState) → now.unread ≡ [] → to.tells ≡ from.tells → Gets (input now to) (input new last) new.unread → PartPassed old new from last count left
  block_passed new last empty tells gets = record {
    got = so_far.got ++ new.unread;
    body = so_far.body;
    split = sym (append_assoc old.unread so_far.got new.unread) ∙ ap (λ (xs : List ℕ). xs ++ new.unread) (so_far.split ∙ ap (λ (xs : List ℕ). so_far.body ++ xs) empty ∙ append-nil so_far.body);
    size = so_far.size;
    took = λ told. so_far.took told ∙ ap (λ (xs : List ℕ). so_far.got ++ xs) (gets.took (subst IsTrue (sym tells) told)) ∙ sym (append_assoc so_far.got new.unread last.left);
    taken = omega (arith, so_far.taken, gets.taken, length-append so_far.got new.unread);
    most = gets.most;
  }

  all_of : now.unread ≡ [] → old.unread ++ so_far.got ≡ so_far.body
  all_of empty = so_far.split ∙ ap (λ (xs : List ℕ). so_far.body ++ xs) empty ∙ append-nil so_far.body

  pub whole_passed : left ≡ 0 → Passes (input old from) count passed.Whole (input now to) so_far.body
  whole_passed none = record { got = so_far.got; ends = (so_far.split, omega (arith, so_far.size, none), record { took = so_far.took; taken = so_far.taken; most = so_far.most }) }

  pub short_passed : (new : Reader) (last : SourceState) → left ≢ 0 → now.unread ≡ [] → to.tells ≡ from.tells → new ≡ now → TookAll [] to last → (have : ℕ) → have + left ≡ count
      → Passes (input old from) count (passed.Short have) (input new last) so_far.body
  short_passed new last some empty tells stays took have came = record {
    got = so_far.got;
    ends = (
      all_of empty,
      omega (arith, so_far.size, some),
      record {
        took = λ told. (let all = took (subst IsTrue (sym tells) told) in (so_far.took told ∙ ap (λ (xs : List ℕ). so_far.got ++ xs) all.0 ∙ append-nil so_far.got, all.1));
        taken = omega (arith, so_far.taken, ap (λ r. r.taken) stays);
        most = omega (arith, so_far.most, ap (λ r. r.taken) stays);
        all = ap (λ r. r.unread) stays ∙ empty;
      },
      omega (arith, so_far.size, came),
    );
  }

  pub long_passed : (new : Reader) (last : SourceState) → left ≢ 0 → now.unread ≡ [] → to.tells ≡ from.tells → GetsMost (input now to) (input new last) []
      → Passes (input old from) count passed.Long (input new last) so_far.body
  long_passed new last some empty tells gets = record {
    got = so_far.got;
    ends = (
      all_of empty,
      omega (arith, so_far.size, some),
      record {
        byte = gets.byte;
        took = λ told. so_far.took told ∙ ap (λ (xs : List ℕ). so_far.got ++ xs) (gets.took (subst IsTrue (sym tells) told)) ∙ sym (append_assoc so_far.got (gets.byte ∷ []) last.left);
        full = omega (arith, so_far.taken, gets.full);
        taken = gets.taken;
        all = gets.all;
      },
    );
  }

  -- the source failed
  pub part_passed : (last : SourceState) → left ≢ 0 → now.unread ≡ [] → to.tells ≡ from.tells → (IsTrue to.tells → last.left ≡ to.left) → PassesPart (input old from) count last
  part_passed last some empty tells stays = record {
    got = so_far.got;
    short = omega (arith, ap length (all_of empty), so_far.size, some);
    took = λ told. so_far.took told ∙ ap (λ (xs : List ℕ). so_far.got ++ xs) (sym (stays (subst IsTrue (sym tells) told)));
    most = omega (arith, so_far.taken, so_far.most);
  }

  -- memory ran out
  pub stops_passing : Stops (input old from) to
  stops_passing = record {
    bytes = old.unread ++ so_far.got;
    split = λ told. ap (λ (xs : List ℕ). old.unread ++ xs) (so_far.took told) ∙ sym (append_assoc old.unread so_far.got to.left);
    within = omega (arith, so_far.taken, so_far.most, length-append old.unread so_far.got);
  }
