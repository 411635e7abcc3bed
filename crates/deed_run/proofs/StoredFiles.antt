-- A file that is sent, by what its store holds.
use Rattle.std.proofs.Common.{◌≡◌, ◌⊎◌, inl, inr, Bool, true, false, ℕ, ◌*◌, ◌≤◌, IsTrue, List, [], ◌++◌, length, take, drop, min, Option, None, Some, Ok, refl, sym, ap, ◌∙◌, subst, arith, take-append-drop}
use Rattle.std.specs.Prelude.{◌==◌}
use Rattle.std.specs.Bool.{Decides}
use Rattle.std.specs.List.{Contains}
use Rattle.std.specs.Str.{bytes_eq}
use Rattle.std.proofs.lemmas.Bool.{cases_lt}
use Rattle.std.proofs.lemmas.Bool.Decides.{Decides-eqb}
use Rattle.std.proofs.lemmas.List.{append-nil, take_all, drop_all}
use Rattle.std.proofs.lemmas.Slice.Eq.{bytes_eq-Decides}
use Rattle.sha2.specs.Sha256.{sha256}
use Rattle.grid_outside.specs.Files.{File, Files, StoreState, file_at}
use Rattle.grid_outside.specs.Sink.{SinkState}
use Rattle.grid_model.specs.DataLines.{data_lines}
use Rattle.grid_model.specs.Grid.{Grid}
use Rattle.grid_model.specs.Limits.{part_size}
use Rattle.grid_model.specs.Names.{Text, Path}
use Rattle.grid_model.specs.Operations.Replicas.{got}
use Rattle.grid_model.specs.Rows.{Cat, object}
use Rattle.grid_model.specs.Whole.{HasGoodRows, IsLikeObject}
use Rattle.grid_model.specs.declared.deltas.ObjectRow.{ObjectRow}
use Rattle.grid_model.specs.declared.deltas.Pending.{Pending}
use Rattle.grid_model.specs.declared.deltas.ReplicaRow.{ReplicaRow}
use Rattle.grid_model.specs.declared.plans.OldFile.{OldFile}
use Rattle.grid_vault.specs.Sending.{BeginsWith, Breaks, HoldsBytes}
use Rattle.grid_vault.proofs.DataLineLemmas.{data_lines-append}
use Rattle.grid_vault.proofs.FileReading.{same_file}
use Rattle.file_laws.proofs.Members.{in_of}
use Rattle.tables_laws.proofs.Rows.{in_from_all}
use Rattle.plan_object.specs.Sending.{Sends}
use Rattle.service_run.specs.Noting.{with_pending}
use Rattle.service_run.proofs.NamedFiles.{HasRecorded, IsNamedFile}
use Rattle.service_run.proofs.SameRows.{grid_pending}

-- ---- which file it is

-- where its object has this row
like_object : (c : Cat) (row : ReplicaRow) (o : ObjectRow) → Contains c.replicas row → IsTrue row.good → object c row.object ≡ Some o → HasGoodRows c → (row.size ≡ o.size) × (row.digest ≡ o.digest)
like_object c row o there good of_object rows =
    let like = in_from_all (λ (r : ReplicaRow). IsTrue r.good → IsLikeObject c r) c.replicas rows row (in_of c.replicas row there) good in
    let both : Some like.row ≡ Some o = sym like.there ∙ of_object in
    let same : like.row ≡ o = cc in
    (like.size ∙ ap (λ (r : ObjectRow). r.size) same, like.digest ∙ ap (λ (r : ObjectRow). r.digest) same)

-- the file that a get sends is that of a good replica of the rows
pub sent_named : (c : Cat) (user : Text) (path : Path) (asked : Option Text) (file : OldFile) → Sends c user path asked file → IsNamedFile c file
sent_named c user path asked file s = record {
  row = s.row;
  there = s.there;
  good = s.good;
  vault_is = s.vault_is;
  slot_is = s.slot_is;
  like = λ rows.
      let of_it = like_object c s.row s.object_row s.there s.good s.of_object rows in
      (of_it.0 ∙ sym s.size_row, of_it.1 ∙ sym s.digest_row);
}

-- and so where a command is pending more
pub sends_pending : (c : Cat) (p : Pending) (user : Text) (path : Path) (asked : Option Text) (file : OldFile) → Sends c user path asked file → Sends (with_pending c p) user path asked file
sends_pending c p user path asked file s =
    let G : Grid → Type 0 = λ g. got g user path asked ≡ Ok s.from in
    record {
      from = s.from;
      is = subst G (sym (grid_pending c p)) s.is;
      number = s.number;
      slot = s.slot;
      size = s.size;
      digest = s.digest;
      row = s.row;
      there = s.there;
      good = s.good;
      vault_is = s.vault_is;
      slot_is = s.slot_is;
      object_row = s.object_row;
      of_object = s.of_object;
      size_row = s.size_row;
      digest_row = s.digest_row;
    }

-- ---- what its store holds

module _ (file : OldFile) (files : Files) (f : HasRecorded file files) where
  -- the file that is there has its bytes
  bytes_are : (there : File) → file_at files file.name ≡ Some there → there.bytes ≡ f.text
  bytes_are there is = ap (λ (x : File). x.bytes) (same_file files file.name there (record { bytes = f.text; finished = true }) is f.is)

  -- all that it holds is the text
  held_is_text : (bytes : List ℕ) → HoldsBytes file.name bytes files → bytes ≡ f.text
  held_is_text bytes h = sym h.bytes_are ∙ bytes_are h.file h.is

  front_is : (sent : List ℕ) → BeginsWith file.name sent files → sent ≡ take (length sent) f.text
  front_is sent b = b.front ∙ ap (take (length sent)) (bytes_are b.file b.is)

  -- what it begins with is a front of the text
  pub front_of_text : (sent : List ℕ) → BeginsWith file.name sent files → f.text ≡ sent ++ drop (length sent) f.text
  front_of_text sent b = sym (take-append-drop (length sent) f.text) ∙ ap (λ (xs : List ℕ). xs ++ drop (length sent) f.text) (sym (front_is sent b))

  -- whole parts, or all of it: their lines are a front of its lines, and behind them come those of the rest
  pub lines_of_text : (n count : ℕ) (sent : List ℕ) → BeginsWith file.name sent files → length sent ≡ min (count * part_size) file.size → data_lines n f.text ≡ data_lines n sent ++ data_lines n (drop (length sent) f.text)
  lines_of_text n count sent b whole_parts = elim (cases_lt (length sent) file.size) [
    | inl fewer ↦
        let whole : length sent ≡ count * 65536 = omega (arith, whole_parts, fewer) in
        ap (data_lines n) (front_of_text sent b) ∙ data_lines-append n count sent (drop (length sent) f.text) whole
    | inr all ↦
        let ended : length f.text ≤ length sent = omega (arith, all, f.as_recorded.size) in
        let none : drop (length sent) f.text ≡ [] = drop_all (length sent) f.text ended in
        let same : f.text ≡ sent = sym (take_all (length sent) f.text ended) ∙ sym (front_is sent b) in
        ap (data_lines n) same ∙ sym (append-nil (data_lines n sent)) ∙ ap (λ (xs : List ℕ). data_lines n sent ++ data_lines n xs) (sym none)
  ]

-- a sink that broke took a first part of the lines of whole parts, or of all of the text
pub broken_parts : (file : OldFile) (store : StoreState) (from to n : ℕ) (old new : SinkState) → HasRecorded file store.holds → IsTrue store.tells → (b : Breaks store from to file n old new) → length b.sent ≡ min (b.count * part_size) file.size
broken_parts file store from to n old new f told b = elim b.whole_parts [
  | inl whole ↦ whole
  | inr short ↦
      let all : length b.sent ≡ file.size = ap length (held_is_text file store.holds f b.sent (short.of_file told)) ∙ f.as_recorded.size in
      absurd (omega (arith, all, short.fewer))
]

-- whether the store holds what is recorded
pub recorded_or_not : (file : OldFile) (files : Files) → HasRecorded file files ⊎ (¬ HasRecorded file files)
recorded_or_not file files = by_file (file_at files file.name) refl
  where
    by_digest : (x : File) → file_at files file.name ≡ Some x → x.finished ≡ true → length x.bytes ≡ file.size → (t : Bool) → Decides t (sha256 x.bytes ≡ file.digest) → HasRecorded file files ⊎ (¬ HasRecorded file files)
    by_digest x is done has true same =
        let whole : x ≡ record { bytes = x.bytes; finished = true } = λ i. record { bytes = x.bytes; finished = done i } in
        inl (record { text = x.bytes; is = is ∙ ap Some whole; as_recorded = record { size = has; digest = same.0 refl } })
    by_digest x is done has false same = inr (λ f. (let no : false ≡ true = same.1 (ap sha256 (bytes_are file files f x is) ∙ f.as_recorded.digest) in cc))

    by_size : (x : File) → file_at files file.name ≡ Some x → x.finished ≡ true → (t : Bool) → Decides t (length x.bytes ≡ file.size) → HasRecorded file files ⊎ (¬ HasRecorded file files)
    by_size x is done true same = by_digest x is done (same.0 refl) (bytes_eq (sha256 x.bytes) file.digest) (bytes_eq-Decides (sha256 x.bytes) file.digest)
    by_size x is done false same = inr (λ f. (let no : false ≡ true = same.1 (ap length (bytes_are file files f x is) ∙ f.as_recorded.size) in cc))

    by_finished : (x : File) → file_at files file.name ≡ Some x → (t : Bool) → x.finished ≡ t → HasRecorded file files ⊎ (¬ HasRecorded file files)
    by_finished x is true done = by_size x is done (length x.bytes == file.size) (Decides-eqb (length x.bytes) file.size)
    by_finished x is false begun = inr (λ f. (let done : x.finished ≡ true = ap (λ (y : File). y.finished) (same_file files file.name x (record { bytes = f.text; finished = true }) is f.is) in cc))

    by_file : (x : Option File) → file_at files file.name ≡ x → HasRecorded file files ⊎ (¬ HasRecorded file files)
    by_file None is = inr (λ f. (let no = sym is ∙ f.is in cc))
    by_file (Some x) is = by_finished x is x.finished refl
