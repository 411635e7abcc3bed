-- How the copying of a file goes on.
use Rattle.std.proofs.Common.{◌≡◌, ◌⊎◌, inl, inr, ℕ, ◌+◌, ◌*◌, ◌-◌, ◌<◌, ◌≤◌, true, false, List, [], ◌++◌, All, Option, Some, None, Result, Ok, Err, length, take, set, slice_get, IsTrue, arith, refl, sym, subst, ap, ◌∙◌}
use Rattle.std.specs.Prelude.{MatchOption, IfOk, IfErr}
use Rattle.std.proofs.lemmas.Option.{slice_get_within}
use Rattle.std.proofs.Math.Nat.{mul-le-mul_left}
use Rattle.std.proofs.lemmas.List.{length-take-le}
use Rattle.sha2.specs.Hashers.{Holds256}
use Rattle.grid_outside.specs.Device.{Looks, Between, EachMember}
use Rattle.grid_outside.specs.Files.{Files, StoreState, file_at}
use Rattle.grid_outside.proofs.Spans.{at_place, looked, last_moments, nat_cases, one_called, some_is, slice_get-set_same, slice_get-set_other, spans_on}
use Rattle.grid_model.specs.DataLines.{parts}
use Rattle.grid_model.specs.declared.plans.NewFile.{NewFile}
use Rattle.grid_model.specs.declared.plans.OldFile.{OldFile}
use Rattle.grid_vault.specs.Reading.{ReadsOn, IsAsRecorded, Differs}
use Rattle.grid_vault.specs.Sending.{IsReadOf}
use Rattle.grid_vault.specs.Vault.{IsAmong, HasSlot, WritesAmong, WritesOnly, RoseAt, IsStableAt}
use Rattle.grid_vault.specs.Copying.{IsBegunAt, CopiesOnly, Copies}
use Rattle.grid_vault.specs.declared.reading.Found.{Found}
use Rattle.grid_vault.specs.declared.reading.Part.{Part}
use Rattle.grid_vault.specs.declared.reading.FileReader.{FileReader}
use Rattle.grid_vault.proofs.Writing.{Among-same, Among-on, all_of, all_at}
use Rattle.grid_vault.proofs.ReadingOn.{ReadSoFar, none_read, all_read, read_is, read_more, read_of}

module _ {B : Type 0} (state : B → StoreState) (recorded : OldFile) (files : List NewFile) where
  -- the slots that are called
  abbrev pub IsCalled : ℕ → Type 0
  IsCalled k = HasSlot files k ⊎ (k ≡ recorded.slot)

  pub copies_of : (a b : ℕ) (old new : List B) → WritesOnly state a b files old new → CopiesOnly state a b recorded.slot files old new
  copies_of a b old new span = record { count = span.count; untouched = λ k before after was now not. span.untouched k before after was now (λ h. not (inl h)); each = span.each }

  pub copies_on : (a b c : ℕ) (old mid new : List B) → a ≤ b → b ≤ c → CopiesOnly state a b recorded.slot files old mid → CopiesOnly state b c recorded.slot files mid new → CopiesOnly state a c recorded.slot files old new
  copies_on a b c old mid new ab bc one two = spans_on state (WritesAmong files) (Among-same files) IsCalled (Among-on files) a b c old mid new ab bc one two

  -- a count that rose in the second stretch has risen
  pub rose_on : (a b : ℕ) (slot : ℕ) (old mid new : List B) → CopiesOnly state a b recorded.slot files old mid → length new ≡ length mid → RoseAt state slot mid new → RoseAt state slot old new
  rose_on a b slot old mid new span count rose before after was now =
      let at = at_place mid slot (omega (arith, slice_get_within new slot after now, count)) in
      omega (arith, rose at.0 after at.1 now, (span.each slot before at.0 was at.1).faults)

  -- so far whole parts were read and added to each of the files
  pub record CopySoFar (old now : List B) (reader : FileReader) : Type 0 where
    pub source : B
    pub at : slice_get old recorded.slot ≡ Some source
    pub so_far : ReadSoFar (state source) recorded reader
    pub begun : All (IsBegunAt state now so_far.bytes) files

  pub copy_started : (old now : List B) → recorded.slot < length old → (reader : FileReader) → reader.read ≡ 0 → Holds256 reader.hasher [] → All (IsBegunAt state now []) files → CopySoFar old now reader
  copy_started old now within reader read hashed begun_all =
      record { source = (at_place old recorded.slot within).0; at = (at_place old recorded.slot within).1; so_far = none_read (state (at_place old recorded.slot within).0) recorded reader read hashed; begun = begun_all }

  module _ (other : ¬ IsAmong files recorded.slot recorded.name) (from a : ℕ) (later : from ≤ a) (old mid : List B) (span : CopiesOnly state from a recorded.slot files old mid) (x y : B) (here : slice_get mid recorded.slot ≡ Some x)
      (looks : Looks (state x) (state y)) (faults : (state x).faults ≤ (state y).faults) where
    abbrev pub read_stores : List B
    read_stores = set mid recorded.slot y

    lasts_mid : EachMember (λ k b. (state b).last ≤ a) mid
    lasts_mid = last_moments state from a (WritesAmong files) IsCalled old mid span

    read_alone : CopiesOnly state a a recorded.slot files mid read_stores
    read_alone = one_called state (WritesAmong files) (Among-same files) IsCalled a a mid recorded.slot x y (omega arith) lasts_mid here (inr refl)
        (looked a a (WritesAmong files recorded.slot) (state x) (state y) (lasts_mid recorded.slot x here) (omega arith) faults (λ c d same. (let P : Files → Type 0 = λ f. WritesAmong files recorded.slot c f in subst P (sym same) (Among-same files recorded.slot c))) looks)

    pub read_span : CopiesOnly state from a recorded.slot files old read_stores
    read_span = copies_on from a a old mid read_stores later (omega arith) span read_alone

    pub read_count : length read_stores ≡ length mid
    read_count = read_alone.count

    -- a look leaves what the files have
    begun_still : (bytes : List ℕ) (f : NewFile) → IsBegunAt state mid bytes f → IsBegunAt state read_stores bytes f
    begun_still bytes f has store store_is tells = elim (nat_cases f.slot recorded.slot) [
      | inl same ↦
          let now : store ≡ y = some_is store y (sym store_is ∙ ap (slice_get read_stores) same ∙ slice_get-set_same mid recorded.slot y (slice_get_within mid recorded.slot x here)) in
          let T : B → Type 0 = λ b. IsTrue (state b).tells in
          let told : IsTrue (state x).tells = subst IsTrue looks.tells (subst T now tells) in
          ap (λ (b : B). file_at (state b).holds f.name) now ∙ ap (λ (h : Files). file_at h f.name) (looks.holds told) ∙ has x (ap (slice_get mid) same ∙ here) told
      | inr apart ↦ has store (sym (slice_get-set_other mid recorded.slot f.slot y apart) ∙ store_is) tells
    ]

    all_still : (bytes : List ℕ) → All (IsBegunAt state mid bytes) files → All (IsBegunAt state read_stores bytes) files
    all_still bytes all = all_of (IsBegunAt state read_stores bytes) files (λ j f is. begun_still bytes f (all_at (IsBegunAt state mid bytes) files j f all is))

    module _ (reader : FileReader) (so : CopySoFar old mid reader) (part : Part) (buf : List ℕ) (next : FileReader) (reads : ReadsOn (state x) recorded part buf reader next)
        (new : List B) (extends : (front : List ℕ) → All (IsBegunAt state read_stores front) files → All (IsBegunAt state new (front ++ take part.count buf)) files) where
      pub between : Between from a (WritesAmong files recorded.slot) (state so.source) (state x)
      between = span.each recorded.slot so.source x so.at here

      pub same_at : IsTrue (state so.source).tells → file_at (state x).holds recorded.name ≡ file_at (state so.source).holds recorded.name
      same_at tells = (between.holds tells).others recorded.name other

      appended : All (IsBegunAt state new (so.so_far.bytes ++ take part.count buf)) files
      appended = extends so.so_far.bytes (all_still so.so_far.bytes so.begun)

      -- more parts may come
      pub copy_more : part.is_last ≡ false → CopySoFar old new next
      copy_more goes =
          let whole = reads.goes_on goes in
          let full : part.count ≡ reads.given = omega (arith, reads.count, reads.read, whole.0, whole.1) in
          let P : ℕ → Type 0 = λ k. All (IsBegunAt state new (so.so_far.bytes ++ take k buf)) files in
          record {
            source = so.source;
            at = so.at;
            so_far = read_more (state so.source) recorded reader so.so_far (state x) between.tells same_at part buf next reads goes;
            begun = subst P full appended;
          }

      abbrev pub bytes_read : List ℕ
      bytes_read = all_read (state so.source) recorded reader so.so_far (state x) between.tells same_at part buf next reads

      pub bytes_are : next.read ≡ length bytes_read
      bytes_are = read_is (state so.source) recorded reader so.so_far (state x) between.tells same_at part buf next reads

      pub bytes_hashed : Holds256 next.hasher bytes_read
      bytes_hashed = reads.hashed so.so_far.bytes so.so_far.hashed

      -- no part comes behind this
      pub copy_ends : part.is_last ≡ true → (found : Option Found) → MatchOption found (IsAsRecorded recorded bytes_read) (Differs recorded bytes_read) → (end : List B)
          → (found ≡ None → (bytes : List ℕ) → All (IsBegunAt state new bytes) files → All (IsStableAt state end bytes) files) → Copies state recorded files old end found
      copy_ends last found says end finishes =
          record {
            bytes = bytes_read;
            one_more = omega (arith, bytes_are, reads.at_most);
            short = omega (arith, bytes_are, reads.short);
            of_file = λ store store_is tells.
                let same : store ≡ so.source = some_is store so.source (sym store_is ∙ so.at) in
                let T : B → Type 0 = λ b. IsTrue (state b).tells in
                let R : B → Type 0 = λ b. IsReadOf recorded bytes_read (state b).holds in
                subst R (sym same) (read_of (state so.source) recorded reader so.so_far (state x) between.tells same_at part buf next reads last (subst T same tells));
            says = says;
            stable = λ none. finishes none bytes_read (begun_all found says none);
          }
        where
          begun_all : (f : Option Found) → MatchOption f (IsAsRecorded recorded bytes_read) (Differs recorded bytes_read) → f ≡ None → All (IsBegunAt state new bytes_read) files
          begun_all (Some z) differs none = absurd cc
          begun_all None as_recorded none =
              let full : part.count ≡ reads.given = omega (arith, reads.count, reads.read, bytes_are, as_recorded.size) in
              let P : ℕ → Type 0 = λ k. All (IsBegunAt state new (so.so_far.bytes ++ take k buf)) files in
              subst P full appended

-- ---- moments

times_next : (n a b : ℕ) → b + 1 ≤ a → n * b + n ≤ n * a
times_next n a b le = let more : n * (b + 1) ≤ n * a = mul-le-mul_left n le in omega (arith, more)

-- no part was read
pub room_start : (n from moments size read : ℕ) → read ≡ 0 → moments ≤ from + n → moments + n + n * parts (size - read) ≤ from + n * (2 + parts size)
room_start n from moments size read none drawn =
    let same : n * parts (size - read) ≡ n * parts size = ap (λ k. n * parts k) (omega (arith, none)) in
    omega (arith, drawn, same)

module _ (n from moments total size read count : ℕ) (within : count ≤ size - read) (room : moments + n + n * parts (size - read) ≤ from + total) where
  fewer : n * parts count ≤ n * parts (size - read)
  fewer = mul-le-mul_left n (omega (arith, within))

  -- there is room for the part, and for what comes behind it
  pub room_asked : (limit : ℕ) → from + total < limit → moments + n * parts count < limit
  room_asked limit below = omega (arith, room, fewer, below)

  pub room_after : (now : ℕ) → now ≤ moments + n * parts count → now + n ≤ from + total
  room_after now drawn = omega (arith, room, fewer, drawn)

  -- and where more parts may come, for these
  pub room_next : (now next : ℕ) → now ≤ moments + n * parts count → count ≡ 65536 → next ≡ read + count → next ≤ size → now + n + n * parts (size - next) ≤ from + total
  room_next now next drawn full next_is le =
      let one : n * parts count ≡ n = ap (λ k. n * parts k) full ∙ omega arith in
      let more : n * parts (size - next) + n ≤ n * parts (size - read) = times_next n (parts (size - read)) (parts (size - next)) (omega (arith, full, next_is, le)) in
      omega (arith, room, drawn, one, more)

-- so many bytes of the buffer
pub taken_len : (count : ℕ) (buf : List ℕ) → count ≤ length buf → length (take count buf) ≡ count
taken_len count buf within = length-take-le count buf within

-- ---- results

pub both_then : {T E : Type 0} (r : Result T E) (P Q R : T → Type 0) → ((x : T) → P x → Q x → R x) → IfOk r P → IfOk r Q → IfOk r R
both_then (Ok x) P Q R then h k = then x h k
both_then (Err e) P Q R then h k = h

pub err_then : {T E : Type 0} (r : Result T E) (P Q : E → Type 0) → ((e : E) → P e → Q e) → IfErr r P → IfErr r Q
err_then (Ok x) P Q then h = h
err_then (Err e) P Q then h = then e h
