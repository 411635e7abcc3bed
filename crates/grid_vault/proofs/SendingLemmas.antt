-- How a file is sent part by part.
use Rattle.std.proofs.Common.{◌≡◌, ◌⊎◌, inl, inr, Bool, ℕ, ◌+◌, ◌-◌, ◌*◌, ◌^◌, ◌<◌, ◌≤◌, true, false, IsTrue, List, [], ◌++◌, Some, min, length, take, drop, arith, refl, sym, subst, ap, ◌∙◌, length-append, take-add, Result, Ok, Err, OnErr}
use Rattle.std.proofs.Math.Seq.{take-append-add}
use Rattle.std.proofs.lemmas.List.{take-take, take_all, length-take, length-take-le, append-nil, take-append-le}
use Rattle.std.proofs.lemmas.Bool.{cases_lt}
use Rattle.sha2.specs.Hashers.{Holds256}
use Rattle.grid_outside.specs.Device.{Looks}
use Rattle.grid_outside.specs.Files.{File, Files, StoreState, file_at}
use Rattle.grid_outside.specs.Sink.{SinkState}
use Rattle.grid_model.specs.DataLines.{data_lines, parts}
use Rattle.grid_model.specs.declared.plans.OldFile.{OldFile}
use Rattle.grid_vault.specs.Reading.{IsPartOf, ReadsOn, IsAsRecorded}
use Rattle.grid_vault.specs.Sending.{Puts, PutsAll, BeginsWith, IsReadOf, IsSentWhole, Answers, SendsLines, IsCutShort, Breaks, SaysOf}
use Rattle.grid_vault.specs.declared.reading.Part.{Part}
use Rattle.grid_vault.specs.declared.reading.FileReader.{FileReader}
use Rattle.grid_vault.specs.declared.sent.Sent.{Sent}
use Rattle.grid_vault.specs.declared.sent.Sent.TheVariants.{Whole, Fault, Bad}
use Rattle.grid_vault.proofs.DataLineLemmas.{data_lines-append}
use Rattle.grid_vault.proofs.FileReading.{same_file}
use Rattle.grid_vault.proofs.Framing.{drop_changed}
use Rattle.grid_vault.proofs.Putting.{puts_none, puts_on, puts_all_on}

-- these are the file's first bytes
abbrev pub IsFront : List ℕ → File → Type 0
IsFront bytes file = (length bytes ≤ length file.bytes) × (bytes ≡ take (length bytes) file.bytes)

-- So many whole parts were read and sent, and more may come.
pub record SentSoFar (store : StoreState) (from now : ℕ) (recorded : OldFile) (number : ℕ) (old mid : SinkState) (reader : FileReader) (count : ℕ) : Type 0 where
  pub sent : List ℕ
  pub read : reader.read ≡ length sent
  pub hashed : Holds256 reader.hasher sent
  pub size : length sent ≡ count * 65536
  pub within : length sent ≤ recorded.size
  pub short : length sent < 2 ^ 61
  pub drawn : now ≡ from + count
  pub lines : PutsAll from now (data_lines number sent) old mid
  pub front : IsTrue store.tells → (file : File) → file_at store.holds recorded.name ≡ Some file → IsFront sent file
  pub some : IsTrue store.tells → 0 < count → (file : File) × (file_at store.holds recorded.name ≡ Some file)

-- nothing was read yet
pub starts : (store : StoreState) (from : ℕ) (recorded : OldFile) (number : ℕ) (sink : SinkState) (reader : FileReader) → reader.read ≡ 0 → Holds256 reader.hasher [] → sink.last ≤ from → SentSoFar store from from recorded number sink sink reader 0
starts store from recorded number sink reader read hashed last = record {
  sent = [];
  read = read;
  hashed = hashed;
  size = refl;
  within = omega arith;
  short = omega arith;
  drawn = omega arith;
  lines = record { puts = puts_none from [] sink last; all = λ tells. sym (append-nil sink.holds) };
  front = λ tells file is. (omega arith, refl);
  some = λ tells none. absurd (omega (arith, none));
}

-- the part stands behind the room for the words
pub shown_is : (front count room : ℕ) (buf part : List ℕ) → front ≤ length buf → count ≤ length part → take count (drop front (take front buf ++ (part ++ drop room (drop front buf)))) ≡ take count part
shown_is front count room buf part le within = ap (λ (xs : List ℕ). take count xs) (drop_changed front buf (part ++ drop room (drop front buf)) le) ∙ take-append-le count part (drop room (drop front buf)) within

pub on_err : {T E : Type 0} (r : Result T E) (P : Type 0) → P → OnErr r P
on_err (Ok x) P h = tt
on_err (Err e) P h = h

-- as many as there are, or fewer
pub take_min : (m n : ℕ) (xs : List ℕ) → n ≡ min m (length xs) → take n xs ≡ take m xs
take_min m n xs is = elim (cases_lt m (length xs)) [
  | inl lt ↦ ap (λ (k : ℕ). take k xs) (omega arith)
  | inr ge ↦ take_all n xs (omega arith) ∙ sym (take_all m xs ge)
]

take_both : (m given count : ℕ) (buf : List ℕ) → count ≡ min given m → take m (take given buf) ≡ take count buf
take_both m given count buf is = elim (cases_lt m given) [
  | inl lt ↦ take-take m given buf (omega arith) ∙ ap (λ (k : ℕ). take k buf) (omega arith)
  | inr ge ↦ take_all m (take given buf) (omega (arith, length-take given buf)) ∙ ap (λ (k : ℕ). take k buf) (omega arith)
]

-- more of the file behind its first bytes
pub front_more : (sent buf : List ℕ) (given k : ℕ) (file : File) → IsFront sent file → given ≤ length file.bytes - length sent → take given buf ≡ take given (drop (length sent) file.bytes) → k ≤ given → given ≤ length buf → IsFront (sent ++ take k buf) file
front_more sent buf given k file front within part le room =
    let size : length (sent ++ take k buf) ≡ length sent + k = omega (arith, length-append sent (take k buf), length-take-le k buf (omega arith)) in
    let piece : take k buf ≡ take k (drop (length sent) file.bytes) = sym (take-take k given buf le) ∙ ap (λ (xs : List ℕ). take k xs) part ∙ take-take k given (drop (length sent) file.bytes) le in (
      omega (arith, size, front.0, within, le),
      ap (λ (xs : List ℕ). sent ++ xs) piece ∙ ap (λ (xs : List ℕ). xs ++ take k (drop (length sent) file.bytes)) front.1 ∙ sym (take-add (length sent) k file.bytes) ∙ ap (λ (n : ℕ). take n file.bytes) (sym size),
    )

module _ (store : StoreState) (from now : ℕ) (recorded : OldFile) (number : ℕ) (old mid : SinkState) (reader : FileReader) (count : ℕ) (so_far : SentSoFar store from now recorded number old mid reader count) where
  -- no part more was read
  pub faulty : SendsLines store from now recorded number old mid (Fault recorded.slot count)
  faulty = record {
    sent = so_far.sent;
    lines = so_far.lines;
    answers = record {
      slot_is = refl;
      count_is = omega (arith, so_far.size);
      whole_parts = omega (arith, so_far.size, so_far.within);
      of_file = λ tells some.
          let file = so_far.some tells some in
          record { file = file.0; is = file.1; front = (so_far.front tells file.0 file.1).1 };
    };
  }

  module _ (asked : StoreState) (looks : Looks store asked) (part : Part) (buf : List ℕ) (next : FileReader) (reads : ReadsOn asked recorded part buf reader next) where
    abbrev pub all_read : List ℕ
    all_read = so_far.sent ++ take reads.given buf

    abbrev pub all_sent : List ℕ
    all_sent = so_far.sent ++ take part.count buf

    pub read_is : next.read ≡ length all_read
    read_is = omega (arith, reads.read, so_far.read, length-append so_far.sent (take reads.given buf), length-take-le reads.given buf reads.within)

    sent_len : length all_sent ≡ length so_far.sent + part.count
    sent_len = omega (arith, reads.count, reads.within, length-append so_far.sent (take part.count buf), length-take-le part.count buf (omega (arith, reads.count, reads.within)))

    pub sent_is : all_sent ≡ take recorded.size all_read
    sent_is =
        let left : ℕ = recorded.size - length so_far.sent in
        let count_is : part.count ≡ min reads.given left = omega (arith, reads.count, so_far.read) in
        sym (ap (λ (n : ℕ). take n all_read) (omega (arith, so_far.within)) ∙ take-append-add so_far.sent (take reads.given buf) left ∙ ap (λ (xs : List ℕ). so_far.sent ++ xs) (take_both left reads.given part.count buf count_is))

    part_of : IsTrue store.tells → IsPartOf recorded reader.read reads.given part.is_last store.holds buf
    part_of tells =
        let P : Files → Type 0 = λ files. IsPartOf recorded reader.read reads.given part.is_last files buf in
        subst P (looks.holds tells) (reads.of_file (subst IsTrue (sym looks.tells) tells))

    front_of : IsTrue store.tells → (k : ℕ) → k ≤ reads.given → (file : File) → file_at store.holds recorded.name ≡ Some file → IsFront (so_far.sent ++ take k buf) file
    front_of tells k le file is =
        let piece = part_of tells in
        let same : piece.file ≡ file = same_file store.holds recorded.name piece.file file piece.is is in
        let P : File → Type 0 = λ f. (reads.given ≤ length f.bytes - reader.read) × (take reads.given buf ≡ take reads.given (drop reader.read f.bytes)) in
        let here : P file = subst P same (piece.within, piece.part) in
        let Q : ℕ → Type 0 = λ n. (reads.given ≤ length file.bytes - n) × (take reads.given buf ≡ take reads.given (drop n file.bytes)) in
        let there : Q (length so_far.sent) = subst Q so_far.read here in
        front_more so_far.sent buf reads.given k file (so_far.front tells file is) there.0 there.1 le reads.within

    begins : IsTrue store.tells → BeginsWith recorded.name all_sent store.holds
    begins tells =
        let piece = part_of tells in
        record { file = piece.file; is = piece.is; front = (front_of tells part.count (omega (arith, reads.count)) piece.file piece.is).1 }

    module _ (now' : ℕ) (shown : List ℕ) (new : SinkState) (same : take part.count shown ≡ take part.count buf) (later : now ≤ now') (puts : Puts now now' (data_lines number (take part.count shown)) mid new) where
      lines_are : data_lines number so_far.sent ++ data_lines number (take part.count shown) ≡ data_lines number all_sent
      lines_are = ap (λ (xs : List ℕ). data_lines number so_far.sent ++ data_lines number xs) same ∙ sym (data_lines-append number count so_far.sent (take part.count buf) so_far.size)

      lines_part : Puts from now' (data_lines number all_sent) old new
      lines_part =
          let P : List ℕ → Type 0 = λ bytes. Puts from now' bytes old new in
          subst P lines_are (puts_on from now now' (data_lines number so_far.sent) (data_lines number (take part.count shown)) old mid new (omega (arith, so_far.drawn)) later so_far.lines puts)

      -- a file that ended with this part, short of the recorded size
      short_of : part.is_last ≡ true → length all_sent < recorded.size → IsCutShort store recorded all_sent
      short_of last fewer = record {
        fewer = fewer;
        of_file = λ tells.
            let piece = part_of tells in
            let front = front_of tells part.count (omega (arith, reads.count)) piece.file piece.is in
            let all : length piece.file.bytes ≤ length all_sent = omega (arith, piece.last last, piece.within, reads.count, sent_len, fewer, so_far.read) in
            record { file = piece.file; is = piece.is; bytes_are = sym (front.1 ∙ take_all (length all_sent) piece.file.bytes all) };
      }

      parts_of : (b : Bool) → part.is_last ≡ b → (length all_sent ≡ min ((count + 1) * 65536) recorded.size) ⊎ IsCutShort store recorded all_sent
      parts_of false goes =
          let whole = reads.goes_on goes in
          inl (omega (arith, sent_len, so_far.size, so_far.read, reads.count, reads.read, whole.0, whole.1))
      parts_of true last = elim (cases_lt (length all_sent) recorded.size) [
        | inl fewer ↦ inr (short_of last fewer)
        | inr all ↦ inl (omega (arith, all, sent_len, so_far.size, so_far.read, so_far.within, reads.count, reads.count_within))
      ]

      -- the sink failed
      pub breaks : Breaks store from now' recorded number old new
      breaks = record {
        sent = all_sent;
        count = count + 1;
        whole_parts = parts_of part.is_last refl;
        lines = lines_part;
        of_file = begins;
      }

      module _ (all : IsTrue mid.tells → new.holds ≡ mid.holds ++ data_lines number (take part.count shown)) (lines : ℕ) (lines_is : lines ≡ parts part.count) (drawn : now' ≡ now + parts part.count) where
        lines_all : PutsAll from now' (data_lines number all_sent) old new
        lines_all =
            let P : List ℕ → Type 0 = λ bytes. PutsAll from now' bytes old new in
            subst P lines_are (puts_all_on from now now' (data_lines number so_far.sent) (data_lines number (take part.count shown)) old mid new (omega (arith, so_far.drawn)) later so_far.lines (record { puts = puts; all = all }))

        -- more parts may come
        pub sent_more : part.is_last ≡ false → SentSoFar store from now' recorded number old new next (count + lines)
        sent_more goes =
            let whole = reads.goes_on goes in
            let full : part.count ≡ reads.given = omega (arith, reads.count, reads.read, whole.0, whole.1) in
            record {
              sent = all_sent;
              read = omega (arith, reads.read, so_far.read, sent_len, full);
              hashed = let P : ℕ → Type 0 = λ k. Holds256 next.hasher (so_far.sent ++ take k buf) in subst P (sym full) (reads.hashed so_far.sent so_far.hashed);
              size = omega (arith, sent_len, so_far.size, full, whole.0, lines_is);
              within = omega (arith, sent_len, full, reads.read, so_far.read, whole.1);
              short = omega (arith, sent_len, full, reads.read, so_far.read, reads.short);
              drawn = omega (arith, drawn, so_far.drawn, lines_is);
              lines = lines_all;
              front = λ tells. front_of tells part.count (omega (arith, full));
              some = λ tells some. let piece = part_of tells in (piece.file, piece.is);
            }

        read_of : part.is_last ≡ true → IsTrue store.tells → IsReadOf recorded all_read store.holds
        read_of last tells =
            let piece = part_of tells in
            let front = front_of tells reads.given (omega arith) piece.file piece.is in
            let size : length all_read ≡ min (recorded.size + 1) (length piece.file.bytes) = omega (arith, piece.last last, so_far.read, so_far.within, front.0, reads.read, read_is) in
            record { file = piece.file; is = piece.is; bytes_are = front.1 ∙ take_min (recorded.size + 1) (length all_read) piece.file.bytes size }

        whole : part.is_last ≡ true → IsAsRecorded recorded all_read → IsSentWhole store recorded all_sent
        whole last as_recorded =
            let same : all_sent ≡ all_read = sent_is ∙ take_all recorded.size all_read (omega (arith, as_recorded.size)) in
            let P : List ℕ → Type 0 = IsSentWhole store recorded in
            subst P (sym same) (record {
              as_recorded = as_recorded;
              of_file = λ tells.
                  let read = read_of last tells in
                  let short : length read.file.bytes ≤ recorded.size + 1 = omega (arith, as_recorded.size, ap length read.bytes_are, length-take (recorded.size + 1) read.file.bytes) in
                  record { file = read.file; is = read.is; bytes_are = sym (read.bytes_are ∙ take_all (recorded.size + 1) read.file.bytes short) };
            })

        -- no part comes behind this
        pub answered : part.is_last ≡ true → (answer : Sent) → SaysOf recorded all_read (count + lines) answer → Answers store recorded all_sent answer
        answered last Whole says = whole last says
        answered last (Fault slot n) says = absurd says
        answered last (Bad slot len found n) says = record {
          slot_is = says.0;
          read = all_read;
          not_recorded = says.4;
          len_is = says.1;
          found_is = says.2;
          one_more = omega (arith, says.1, read_is, reads.at_most);
          short = omega (arith, says.1, read_is, reads.short);
          sent_is = sent_is;
          count_is = omega (arith, says.3, lines_is, sent_len, so_far.size);
          of_file = read_of last;
        }

        pub ends : part.is_last ≡ true → (answer : Sent) → SaysOf recorded all_read (count + lines) answer → SendsLines store from now' recorded number old new answer
        ends last answer says = record { sent = all_sent; lines = lines_all; answers = answered last answer says }
