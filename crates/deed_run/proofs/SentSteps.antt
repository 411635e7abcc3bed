-- What the sending of a file comes to, by what was read.
use Rattle.std.proofs.Common.{◌≡◌, ◌⊎◌, inl, inr, ℕ, ◌+◌, ◌*◌, ◌<◌, ◌≤◌, min, Bool, true, false, List, [], ◌∷◌, ◌++◌, length, take, drop, Option, Some, Result, Ok, Err, IsTrue, refl, sym, ap, ◌∙◌, subst, arith, eq-eqb, take-append-drop, slice_get, length-append}
use Rattle.std.specs.Prelude.{⊤, nat_le, ◌==◌, ◌&&◌}
use Rattle.std.specs.Bool.{Decides}
use Rattle.std.specs.Str.{bytes_eq}
use Rattle.std.proofs.lemmas.Bool.{cases_lt, and_from, le-leb}
use Rattle.std.proofs.lemmas.Bool.Decides.{Decides-eqb}
use Rattle.std.proofs.lemmas.List.{append-nil, take_all, take-append-le, length-take, nil_from_length}
use Rattle.std.proofs.lemmas.Slice.Eq.{bytes_eq-Decides}
use Rattle.sha2.specs.Sha256.{sha256}
use Rattle.grid_outside.specs.Ambient.{AmbientState, GivesTime, GivesWord}
use Rattle.grid_outside.specs.Device.{EachMember, EachPair, IsSettled}
use Rattle.grid_outside.specs.Disk.{DiskState}
use Rattle.grid_outside.specs.Fault.{Rose}
use Rattle.grid_outside.specs.Files.{StoreState}
use Rattle.grid_outside.specs.Sink.{AddsPart, SinkState}
use Rattle.grid_outside.specs.Source.{SourceState}
use Rattle.grid_outside.specs.declared.outside.Outside.{Outside}
use Rattle.grid_model.specs.DataLines.{data_lines, parts}
use Rattle.grid_model.specs.Deeds.{differs, fits}
use Rattle.grid_model.specs.Grid.{Grid}
use Rattle.grid_model.specs.Limits.{part_size}
use Rattle.grid_model.specs.Names.{Text, Path}
use Rattle.grid_model.specs.ReplyTexts.{IsFrontOf, SendsBytes}
use Rattle.grid_model.specs.Rows.{Cat}
use Rattle.grid_model.specs.declared.marks.BadReplica.{BadReplica}
use Rattle.grid_model.specs.declared.marks.Mark.{Mark}
use Rattle.grid_model.specs.declared.marks.Mark.TheVariants as mark
use Rattle.grid_model.specs.declared.plans.OldFile.{OldFile}
use Rattle.grid_model.specs.declared.refusal.Failure.{Failure}
use Rattle.grid_vault.specs.Reading.{IsAsRecorded}
use Rattle.grid_vault.specs.Sending.{AllKeep, Answers, AtSlot, Breaks, IsFaulty, OnFault, SendsLines}
use Rattle.grid_vault.specs.Vault.{RoseAt}
use Rattle.grid_vault.specs.declared.sent.Sent.{Sent as Answer}
use Rattle.grid_vault.specs.declared.sent.Sent.TheVariants.{Whole, Fault, Bad}
use Rattle.grid_deed.specs.Frame.{Goes}
use Rattle.grid_deed.proofs.Frames.{goes_nowhere, room_same, stores_went}
use Rattle.grid_headline.specs.Causes.{AreCaused}
use Rattle.grid_headline.specs.Worlds.{World}
use Rattle.chain_core.specs.Answers.{failure_in}
use Rattle.plan_object.specs.Sending.{Sends}
use Rattle.run_laws.specs.Around.{around}
use Rattle.run_laws.specs.Passes.{CallsPass}
use Rattle.run_laws.specs.Steps.{Gave, IsToldOf}
use Rattle.run_laws.proofs.OneMark.{RoseIn, caused_fault, caused_none, gave_ran, gave_untold}
use Rattle.service_run.specs.Changes.{mark_fits, with_mark}
use Rattle.service_run.specs.SentFiles.{SendEnds, SendsFile, failed_by, sending_of}
use Rattle.service_run.specs.Steps.{IsKnownBy}
use Rattle.service_run.specs.declared.command.Command.{Command}
use Rattle.service_run.specs.declared.ending.Ending.{Ending}
use Rattle.service_run.specs.declared.ending.Ending.TheVariants as ending
use Rattle.service_run.proofs.NamedFiles.{HasRecorded, differs_so, known_text, read_is_recorded}
use Rattle.service_run.proofs.NoteSteps.{adds_none}
use Rattle.service_run.proofs.StillSteps.{still_where, whole_looked}
use Rattle.deed_run.specs.Sent.{sent_mark, sent_ran}
use Rattle.deed_run.proofs.StoredFiles.{broken_parts, front_of_text, lines_of_text, recorded_or_not, sent_named}

-- other bytes differ from what is recorded
differs_read : (file : OldFile) (read : Text) → ¬ IsAsRecorded file read → length read ≤ file.size + 1 → differs (length read) (sha256 read) file.size file.digest ≡ true
differs_read file read not_recorded one_more =
    differs_so file read (record { len = length read; digest = sha256 read }) (record { len = refl; digest = refl; not_recorded = not_recorded }) one_more

few_parts : (a b : ℕ) → a ≤ b → parts a ≤ parts b
few_parts a b le = omega (arith, le)

-- a part of the front of a text is one of the text
front_part : (front rest text old new : List ℕ) → text ≡ front ++ rest → AddsPart front old new → AddsPart text old new
front_part front rest text old new split part = record {
  count = part.count;
  within = omega (arith, part.within, ap length split, length-append front rest);
  is = part.is ∙ ap (λ (t : List ℕ). old ++ t) (sym (take-append-le part.count front rest part.within) ∙ ap (take part.count) (sym split));
}

-- ---- what a mark tells

-- These bytes of the file are what is sent where this is the mark, which may be told.
pub record Tells {B : Type 0} (old new : World B) (rows : Cat) (file : OldFile) (bytes : Text) (m : Mark) : Type 0 where
  pub its_fits : (ran : ℕ → ℕ → List BadReplica → Grid) → fits (sending_of file ran) m ≡ true
  pub sends : (before : ℕ) → SendsBytes (IsKnownBy old rows) (record { size = file.size; digest = file.digest; before = before }) m bytes
  pub told_of : IsToldOf (IsKnownBy old rows) (length old.stores) m
  pub caused : AreCaused old new (m ∷ [])
  pub gave : IsTrue new.ambient.tells → Gave (m ∷ []) old.ambient new.ambient

-- No more than the lines of these bytes were to be put: what may come of them, with the lines of which these are the first.
pub record TellsSome {B : Type 0} (old new : World B) (rows : Cat) (file : OldFile) (n : ℕ) (bytes : Text) : Type 0 where
  pub all : Text
  pub m : Mark
  pub told : Tells old new rows file all m
  pub more : Text
  pub split : data_lines n all ≡ data_lines n bytes ++ more

module _ {B : Type 0} (old new : World B) (count : length new.stores ≡ length old.stores) (later : EachPair (λ k before after. (old.plugin before).faults ≤ (new.plugin after).faults) old.stores new.stores)
    (word now : ℕ) (drawn : AmbientState) (gives_word : IsTrue drawn.tells → GivesWord old.ambient word drawn) (gives_time : IsTrue new.ambient.tells → GivesTime drawn now new.ambient)
    (rows : Cat) (n : ℕ) (file : OldFile) (there : file.slot < length old.stores) where
  abbrev known : ℕ → Type 0
  known = IsKnownBy old rows

  -- these are the recorded bytes
  told_whole : (bytes : Text) → IsAsRecorded file bytes → Tells old new rows file bytes (mark.Ran word now [])
  told_whole bytes same = record {
    its_fits = λ ran. refl;
    sends = λ before. same;
    told_of = tt;
    caused = caused_none old new count later (mark.Ran word now [] ∷ []) (λ slot. refl);
    gave = gave_ran word now old.ambient drawn new.ambient gives_word gives_time [];
  }

  -- so many parts of it were sent, and more came not
  told_broken : (bytes : Text) (count_sent : ℕ) → count_sent ≡ parts (length bytes) → length bytes ≡ min (count_sent * part_size) file.size → (known file.slot → IsFrontOf file.size file.digest bytes) → RoseIn old new count later file.slot
      → Tells old new rows file bytes (mark.Fault file.slot count_sent)
  told_broken bytes count_sent count_is whole_parts front cause =
      let m = mark.Fault file.slot count_sent in
      let few : count_sent ≤ parts file.size = omega (arith, count_is, few_parts (length bytes) file.size (omega (arith, whole_parts))) in
      record {
        its_fits = λ ran. and_from (file.slot == file.slot) (nat_le count_sent (parts file.size)) (eq-eqb file.slot file.slot refl) (le-leb count_sent (parts file.size) few);
        sends = λ before. (whole_parts, front);
        told_of = tt;
        caused = caused_fault old new count later file.slot count_sent there cause;
        gave = gave_untold word now old.ambient drawn new.ambient gives_word gives_time (m ∷ []) refl refl;
      }

  -- other bytes were read, of which these were sent
  told_other : (bytes read : Text) → ¬ known file.slot → ¬ IsAsRecorded file read → length read ≤ file.size + 1 → bytes ≡ take file.size read
      → Tells old new rows file bytes (mark.Bad file.slot (length read) (sha256 read) (parts (length bytes)))
  told_other bytes read never not_recorded one_more front =
      let m = mark.Bad file.slot (length read) (sha256 read) (parts (length bytes)) in
      let sent_len : length bytes ≡ min (length read) file.size = omega (arith, ap length front, length-take file.size read) in
      record {
        its_fits = λ ran.
            and_from (file.slot == file.slot && differs (length read) (sha256 read) file.size file.digest) (parts (length bytes) == parts (min (length read) file.size))
            (and_from (file.slot == file.slot) (differs (length read) (sha256 read) file.size file.digest) (eq-eqb file.slot file.slot refl) (differs_read file read not_recorded one_more))
            (eq-eqb (parts (length bytes)) (parts (min (length read) file.size)) (ap parts sent_len));
        sends = λ before. (never, sent_len, record { rest = drop file.size read; is = record { size = ap length whole; digest = ap sha256 whole } });
        told_of = (there, never);
        caused = caused_none old new count later (m ∷ []) (λ slot. refl);
        gave = gave_untold word now old.ambient drawn new.ambient gives_word gives_time (m ∷ []) refl refl;
      }
    where
      whole : bytes ++ drop file.size read ≡ read
      whole = ap (λ (b : Text). b ++ drop file.size read) front ∙ take-append-drop file.size read

  -- what is known of the file, in this store
  module _ (store : StoreState) (text : known file.slot → HasRecorded file store.holds × IsTrue store.tells) where
    front_of : (bytes : Text) (slot count_sent : ℕ) → IsFaulty store file bytes slot count_sent → known file.slot → IsFrontOf file.size file.digest bytes
    front_of bytes slot count_sent faulty k = by_count (cases_lt 0 count_sent)
      where
        f : HasRecorded file store.holds
        f = (text k).0

        by_front : f.text ≡ bytes ++ drop (length bytes) f.text → IsFrontOf file.size file.digest bytes
        by_front split = record { rest = drop (length bytes) f.text; is = record { size = sym (ap length split) ∙ f.as_recorded.size; digest = sym (ap sha256 split) ∙ f.as_recorded.digest } }

        by_count : (0 < count_sent) ⊎ (count_sent ≤ 0) → IsFrontOf file.size file.digest bytes
        by_count (inl some) = by_front (front_of_text file store.holds f bytes (faulty.of_file (text k).1 some))
        by_count (inr zero_sent) =
            let empty : bytes ≡ [] = nil_from_length bytes (omega (arith, zero_sent, faulty.whole_parts)) in
            by_front (sym (ap (λ (b : Text). b ++ drop (length b) f.text) empty))

    -- what came, by how the sending ended
    pub told_so : (bytes : Text) (answer : Answer) → Answers store file bytes answer → OnFault answer (RoseIn old new count later file.slot) → Tells old new rows file bytes (sent_mark word now answer)
    told_so bytes Whole whole cause = told_whole bytes whole.as_recorded
    told_so bytes (Fault slot count_sent) faulty cause =
        let P : ℕ → Type 0 = λ k. Tells old new rows file bytes (mark.Fault k count_sent) in
        subst P (sym faulty.slot_is) (told_broken bytes count_sent faulty.count_is faulty.whole_parts (front_of bytes slot count_sent faulty) cause)
    told_so bytes (Bad slot len found count_sent) bad cause =
        let P : ℕ → Type 0 = λ k. Tells old new rows file bytes (mark.Bad k len found count_sent) in
        let Q : ℕ → Type 0 = λ k. Tells old new rows file bytes (mark.Bad file.slot len found k) in
        let L : ℕ → Type 0 = λ k. Tells old new rows file bytes (mark.Bad file.slot k found (parts (length bytes))) in
        let F : List ℕ → Type 0 = λ f. Tells old new rows file bytes (mark.Bad file.slot (length bad.read) f (parts (length bytes))) in
        let R : List ℕ → Type 0 = λ b. IsAsRecorded file b in
        let never : ¬ known file.slot = λ k. bad.not_recorded (subst R (sym (read_is_recorded file store.holds (text k).0 bad.read (bad.of_file (text k).1))) (text k).0.as_recorded) in
        subst P (sym bad.slot_is) (subst Q (sym bad.count_is) (subst L (sym bad.len_is) (subst F (sym bad.found_is)
        (told_other bytes bad.read never bad.not_recorded (omega (arith, bad.one_more, bad.len_is)) bad.sent_is))))

    -- the file is known to be another one
    module _ (never : ¬ known file.slot) where
      told_some : (bytes : Text) → length bytes ≤ file.size → TellsSome old new rows file n bytes
      told_some bytes within = by_size (length bytes == file.size) (Decides-eqb (length bytes) file.size)
        where
          other : ¬ IsAsRecorded file bytes → TellsSome old new rows file n bytes
          other not_recorded = record {
            all = bytes;
            m = mark.Bad file.slot (length bytes) (sha256 bytes) (parts (length bytes));
            told = told_other bytes bytes never not_recorded (omega (arith, within)) (sym (take_all file.size bytes within));
            more = [];
            split = sym (append-nil (data_lines n bytes));
          }

          by_digest : length bytes ≡ file.size → (b : Bool) → Decides b (sha256 bytes ≡ file.digest) → TellsSome old new rows file n bytes
          by_digest size true same =
              record { all = bytes; m = mark.Ran word now []; told = told_whole bytes (record { size = size; digest = same.0 refl }); more = []; split = sym (append-nil (data_lines n bytes)) }
          by_digest size false same = other (λ recorded. (let no : false ≡ true = same.1 recorded.digest in cc))

          by_size : (b : Bool) → Decides b (length bytes ≡ file.size) → TellsSome old new rows file n bytes
          by_size true same = by_digest (same.0 refl) (bytes_eq (sha256 bytes) file.digest) (bytes_eq-Decides (sha256 bytes) file.digest)
          by_size false same = other (λ recorded. (let no : false ≡ true = same.1 recorded.size in cc))

    -- What may come of some bytes, by whether the store holds what is recorded: then their lines are the first ones of it.
    by_store : (bytes : Text) → length bytes ≤ file.size → (IsTrue store.tells → (f : HasRecorded file store.holds) → (more : Text) × (data_lines n f.text ≡ data_lines n bytes ++ more)) → TellsSome old new rows file n bytes
    by_store bytes within lines = by_tells store.tells refl
      where
        by_file : IsTrue store.tells → HasRecorded file store.holds ⊎ (¬ HasRecorded file store.holds) → TellsSome old new rows file n bytes
        by_file told (inl f) =
            let rest = lines told f in
            record { all = f.text; m = mark.Ran word now []; told = told_whole f.text f.as_recorded; more = rest.0; split = rest.1 }
        by_file told (inr other) = told_some (λ k. other (text k).0) bytes within

        by_tells : (t : Bool) → store.tells ≡ t → TellsSome old new rows file n bytes
        by_tells true told = by_file told (recorded_or_not file store.holds)
        by_tells false silent = told_some (λ k. (let told : store.tells ≡ true = (text k).1 in cc)) bytes within

    -- where the sink broke
    pub told_part : (from to : ℕ) (sink_old sink_new : SinkState) (b : Breaks store from to file n sink_old sink_new) → TellsSome old new rows file n b.sent
    told_part from to sink_old sink_new b =
        let within : length b.sent ≤ file.size = elim b.whole_parts [ inl whole ↦ omega (arith, whole) | inr short ↦ omega (arith, short.fewer) ] in
        by_store b.sent within (λ told f. (
          data_lines n (drop (length b.sent) f.text),
          lines_of_text file store.holds f n b.count b.sent (b.of_file told) (broken_parts file store from to n sink_old sink_new f told b),
        ))

    -- where nothing was put
    pub told_none : TellsSome old new rows file n []
    told_none = by_store [] (omega arith) (λ told f. (data_lines n f.text, refl))

-- ---- how it ends

-- what the mark says of how it came out
fails_so : (file : OldFile) (word now : ℕ) (answer : Answer) → failure_in (sent_ran file answer) ≡ failed_by file (sent_mark word now answer)
fails_so file word now Whole = refl
fails_so file word now (Fault slot parts) = refl
fails_so file word now (Bad slot len found parts) = refl

module _ {D A P K : Type 0} (disk : D → DiskState) (ambient : A → AmbientState) (plugin : P → StoreState) (sink : K → SinkState) (source : SourceState) (o n : Outside D A P) (k l : K) (main_same : n.main ≡ o.main) (file : OldFile)
    (keeps : AllKeep plugin o.moments n.moments file.slot o.stores.items n.stores.items) (stores_last : EachMember (λ i store. (plugin store).last ≤ o.moments) o.stores.items)
    (there : file.slot < length o.stores.items) (word now : ℕ) (drawn : AmbientState) (gives_word : IsTrue drawn.tells → GivesWord (ambient o.ambient) word drawn)
    (gives_time : IsTrue (ambient n.ambient).tells → GivesTime drawn now (ambient n.ambient)) (x : Command) (rows : Cat) (user : Text) (path : Path) (asked : Option Text) (sends : Sends rows user path asked file) where
  abbrev old : World P
  old = around disk ambient plugin o (sink k) source

  abbrev new : World P
  new = around disk ambient plugin n (sink l) source

  later : EachPair (λ i before after. (plugin before).faults ≤ (plugin after).faults) o.stores.items n.stores.items
  later i before after was is = (keeps.span.each i before after was is).faults

  text_in : (store : P) → slice_get o.stores.items file.slot ≡ Some store → IsKnownBy old rows file.slot → HasRecorded file (plugin store).holds × IsTrue (plugin store).tells
  text_in store is = known_text old rows file (sent_named rows user path asked file sends) store is (stores_last file.slot store is)

  -- how it ended, and what is shown, is to be said
  sends_file : (bytes : Text) (m : Mark) → Tells old new rows file bytes m → (y : Command) (result : Result (Result ⊤ Failure) Ending) → SendEnds old new rows file x y m bytes result
      → (IsTrue (sink k).tells → AddsPart (data_lines x.number bytes) (sink k).holds (sink l).holds)
      → (IsTrue (sink k).tells → IsSettled (sink k) → (t : ℕ) (shown : Text) → o.moments < t → (sink l).left t shown → AddsPart (data_lines x.number bytes) (sink k).holds shown)
      → SendsFile old new rows file x y result
  sends_file bytes m t y result ends shown images = record {
    its_mark = m;
    bytes = bytes;
    its_mark_fits = t.its_fits;
    sends = t.sends;
    told_of = t.told_of;
    caused = t.caused;
    ends = ends;
    asked = gave_untold word now (ambient o.ambient) drawn (ambient n.ambient) gives_word gives_time [] refl refl;
    main = still_where disk o.main n.main main_same;
    shown = shown;
    images = images;
    whole = λ at c. whole_looked plugin at c o.stores.items n.stores.items keeps.span.count keeps.looks;
  }

  -- the sink failed
  pub sends_cut : (b : AtSlot plugin file.slot o.stores.items (λ store. Breaks store o.moments n.moments file x.number (sink k) (sink l))) (y : Command) → SendsFile old new rows file x y (Err ending.Sink)
  sends_cut b y =
      let t = told_part old new keeps.span.count later word now drawn gives_word gives_time rows x.number file there (plugin b.store) (text_in b.store b.is) o.moments n.moments (sink k) (sink l) b.holds in
      let lines = data_lines x.number b.holds.sent in
      let all = data_lines x.number t.all in
      sends_file t.all t.m t.told y (Err ending.Sink) tt
      (λ told. front_part lines t.more all (sink k).holds (sink l).holds t.split (b.holds.lines.holds told))
      (λ told settled at shown late left. front_part lines t.more all (sink k).holds shown t.split (b.holds.lines.any_moment told settled at shown late left))

  -- memory ran out before anything was put
  pub sends_none : l ≡ k → (sink k).last ≤ o.moments → (store : P) → slice_get o.stores.items file.slot ≡ Some store → (y : Command) → SendsFile old new rows file x y (Err ending.Memory)
  sends_none same last store is y =
      let t = told_none old new keeps.span.count later word now drawn gives_word gives_time rows x.number file there (plugin store) (text_in store is) in
      let all = data_lines x.number t.all in
      let H : K → Type 0 = λ s. AddsPart all (sink k).holds (sink s).holds in
      let I : K → Type 0 = λ s. IsTrue (sink k).tells → IsSettled (sink k) → (at : ℕ) (shown : Text) → o.moments < at → (sink s).left at shown → AddsPart all (sink k).holds shown in
      let S : Text → Type 0 = λ s. AddsPart all (sink k).holds s in
      sends_file t.all t.m t.told y (Err ending.Memory) tt
      (λ told. subst H (sym same) (adds_none all (sink k).holds))
      (subst I (sym same) (λ told settled at shown late left. subst S (sym (settled at shown (omega (arith, last, late)) left)) (adds_none all (sink k).holds)))

  -- all that could be sent was
  module _ (answer : Answer) (s : AtSlot plugin file.slot o.stores.items (λ store. SendsLines store o.moments n.moments file x.number (sink k) (sink l) answer)) (fault : OnFault answer (RoseAt plugin file.slot o.stores.items n.stores.items)) where
    abbrev bytes : Text
    bytes = s.holds.sent

    tells : Tells old new rows file bytes (sent_mark word now answer)
    tells = told_so old new keeps.span.count later word now drawn gives_word gives_time rows x.number file there (plugin s.store) (text_in s.store s.is) bytes answer s.holds.answers fault

    -- and memory ran out
    pub sends_lost : (y : Command) → SendsFile old new rows file x y (Err ending.Memory)
    sends_lost y = sends_file bytes (sent_mark word now answer) tells y (Err ending.Memory) tt s.holds.lines.puts.holds s.holds.lines.puts.any_moment

    -- and the mark was taken
    pub sends_told : (y : Command) (ran : Result ⊤ Failure) → y ≡ with_mark x (sent_mark word now answer) → IsTrue (mark_fits (sent_mark word now answer)) → ran ≡ sent_ran file answer → SendsFile old new rows file x y (Ok ran)
    sends_told y ran taken spelled ran_is =
        let m = sent_mark word now answer in
        sends_file bytes m tells y (Ok ran)
        (record {
          failure = ap failure_in ran_is ∙ fails_so file word now answer;
          command = taken;
          spelled = spelled;
          gave = tells.gave;
          sink = s.holds.lines.all;
          settled = s.holds.lines.puts.settled;
        })
        s.holds.lines.puts.holds s.holds.lines.puts.any_moment

-- what it leaves of all devices
pub passes_sent : {D A P K : Type 0} (disk : D → DiskState) (plugin : P → StoreState) (sink : K → SinkState) (failed sink_failed : Type 0) (slot : ℕ) (o n : Outside D A P) (k l : K) → (¬ failed) → n.main ≡ o.main → n.spare ≡ o.spare → o.moments ≤ n.moments
    → AllKeep plugin o.moments n.moments slot o.stores.items n.stores.items → EachMember (λ i store. (plugin store).last ≤ n.moments) n.stores.items → (sink l).last ≤ n.moments → Goes o.moments (sink k) (sink l)
    → (sink_failed → Rose (sink k).faults (sink l).faults) → CallsPass disk plugin sink failed sink_failed (record { outside = o; sink = k }) (record { outside = n; sink = l })
passes_sent {D} disk plugin sink failed sink_failed slot o n k l unfailed main_same spare_same drawn keeps last sink_last goes cause =
    let M : D → Type 0 = λ m. (disk m).last ≤ n.moments in
    let G : D → Type 0 = λ m. Goes o.moments (disk o.main) (disk m) in
    record {
      frame = record {
        drawn = drawn;
        main_last = λ main_last. subst M (sym main_same) (omega (arith, main_last, drawn));
        stores_last = λ was. last;
        main = subst G (sym main_same) (goes_nowhere o.moments (disk o.main));
        stores = stores_went plugin o.moments n.moments (λ i before after. after ≡ before) (λ i. i ≡ slot) o.stores.items n.stores.items keeps.span;
        spare = spare_same;
        ambient = refl;
        cause = λ f. absurd (unfailed f);
        in_room = λ well. room_same disk o.main n.main main_same;
      };
      sink_last = λ was. sink_last;
      goes = goes;
      sink_cause = cause;
    }
