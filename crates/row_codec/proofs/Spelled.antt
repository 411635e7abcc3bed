-- Lists of changes: what their spellings have in common, and where bytes stop being one.
use Rattle.std.proofs.Common.{◌≡◌, ℕ, suc, ◌+◌, ◌-◌, ◌<◌, ◌≤◌, true, List, [], ◌∷◌, ◌++◌, length, get_or, take, Ok, Err, refl, sym, ap, subst, ◌∙◌, append_assoc, length-append, arith}
use Rattle.std.specs.List.{list_all, flat_map}
use Rattle.std.proofs.lemmas.Bool.{and_parts, and_from, lt-ltb}
use Rattle.std.proofs.lemmas.List.{append-nil, take_at}
use Rattle.std.proofs.Math.Seq.{take-append-add}
use Rattle.grid_model.specs.Names.{Text}
use Rattle.grid_model.specs.Deltas.{is_byte, delta_fits, spelling, SpellsDeltas}
use Rattle.grid_model.specs.Places.{Begins, IsRefusedAt}
use Rattle.grid_model.specs.declared.deltas.Delta.{Delta}
use Rattle.row_codec.specs.Reading.{Read, and_then, coded_at}
use Rattle.row_codec.specs.Rows.{delta_at}
use Rattle.row_codec.proofs.ReaderLaws.{IsBytes, StopsAt, ok_is}
use Rattle.row_codec.proofs.DeltaLaws.{delta_law}

-- all of them have a spelling
abbrev pub AllFit : List Delta → Type 0
AllFit ds = list_all delta_fits ds ≡ true

-- their spellings, one after the other
abbrev pub spellings : List Delta → Text
spellings = flat_map spelling

first_fits : (d : Delta) (ds : List Delta) → AllFit (d ∷ ds) → (delta_fits d ≡ true) × AllFit ds
first_fits d ds h = and_parts (delta_fits d) (list_all delta_fits ds) h

pub IsBytes-each : (s : Text) → ((i : ℕ) → get_or s i 0 < 256) → IsBytes s
IsBytes-each [] h = refl
IsBytes-each (b ∷ s) h = and_from (is_byte b) (list_all is_byte s) (lt-ltb _ _ (h 0)) (IsBytes-each s (λ i. h (suc i)))

-- a change's spelling and what follows it tell the change and what follows
pub spelled_apart : (d e : Delta) (x y : Text) → delta_fits d ≡ true → delta_fits e ≡ true → spelling d ++ x ≡ spelling e ++ y → (d ≡ e) × (x ≡ y)
spelled_apart d e x y g h same =
    let both = ok_is (d, x) (e, y) (sym (delta_law.again d x g) ∙ ap delta_at same ∙ delta_law.again e y h) in
    (ap (λ p. p.0) both, ap (λ p. p.1) both)

nothing_read : (d : Delta) (rest : Text) → (let r : Read Delta = delta_at [] in r ≡ Ok (d, rest)) → ⊥
unfolding delta_at and_then coded_at
nothing_read d rest e = cc

-- no spelling is empty
not_empty : (d : Delta) (x : Text) → delta_fits d ≡ true → spelling d ++ x ≡ [] → ⊥
not_empty d x g none = nothing_read d x (ap delta_at (sym none) ∙ delta_law.again d x g)

pub shorter : (d : Delta) (s rest : Text) → delta_fits d ≡ true → s ≡ spelling d ++ rest → length rest < length s
shorter d s rest g is = by (spelling d) refl
  where
    by : (t : Text) → spelling d ≡ t → length rest < length s
    by [] e = absurd (nothing_read d [] (ap delta_at (sym e ∙ sym (append-nil (spelling d))) ∙ delta_law.again d [] g))
    by (b ∷ t) e = omega (arith, ap length is, ap (λ u. length (u ++ rest)) e, length-append t rest)

-- what begins with the spellings of changes spells them and more
pub strip : (ds es : List Delta) (s : Text) → AllFit ds → AllFit es → spellings ds ++ s ≡ spellings es → (fs : List Delta) × (es ≡ ds ++ fs) × (AllFit fs × (s ≡ spellings fs))
strip [] es s g h e = (es, refl, (h, e))
strip (d ∷ ds) [] s g h e = absurd (not_empty d (spellings ds ++ s) (first_fits d ds g).0 (sym (append_assoc (spelling d) (spellings ds) s) ∙ e))
strip (d ∷ ds) (f ∷ es) s g h e =
    let p = first_fits d ds g in
    let q = first_fits f es h in
    let apart = spelled_apart d f (spellings ds ++ s) (spellings es) p.0 q.0 (sym (append_assoc (spelling d) (spellings ds) s) ∙ e) in
    let more = strip ds es s p.1 q.1 apart.1 in
    (more.0, (λ i. sym apart.0 i ∷ more.1 i), more.2)

no_more : (fs : List Delta) → AllFit fs → [] ≡ spellings fs → fs ≡ []
no_more [] h e = refl
no_more (f ∷ fs) h e = absurd (not_empty f (spellings fs) (first_fits f fs h).0 (sym e))

pub SpellsDeltas-unique : (bytes : Text) (ds es : List Delta) → SpellsDeltas bytes ds → SpellsDeltas bytes es → es ≡ ds
SpellsDeltas-unique bytes ds es p q =
    let more = strip ds es [] p.fit q.fit (append-nil (spellings ds) ∙ sym p.bytes_are ∙ q.bytes_are) in
    more.1 ∙ ap (λ fs. ds ++ fs) (no_more more.0 more.2.0 more.2.1) ∙ append-nil ds

-- a change cannot be read where none begins
begun_by : (s : Text) (k : ℕ) (fs : List Delta) → delta_at s ≡ Err k → (s ≡ [] → ⊥) → AllFit fs → s ≡ spellings fs → ⊥
begun_by s k [] stops some h e = some e
begun_by s k (f ∷ fs) stops some h e = let read = sym stops ∙ ap delta_at e ∙ delta_law.again f (spellings fs) (first_fits f fs h).0 in cc

not_nil : (front rest : Text) (b : ℕ) → front ++ b ∷ rest ≡ [] → ⊥
not_nil [] rest b e = cc
not_nil (c ∷ front) rest b e = cc

pub AllFit-append : (ds es : List Delta) → AllFit ds → AllFit es → AllFit (ds ++ es)
AllFit-append [] es g h = h
AllFit-append (d ∷ ds) es g h = let p = first_fits d ds g in and_from (delta_fits d) (list_all delta_fits (ds ++ es)) p.0 (AllFit-append ds es p.1 h)

pub spellings-append : (ds es : List Delta) → spellings (ds ++ es) ≡ spellings ds ++ spellings es
spellings-append [] es = refl
spellings-append (d ∷ ds) es = ap (λ t. spelling d ++ t) (spellings-append ds es) ∙ sym (append_assoc (spelling d) (spellings ds) (spellings es))

-- one more
pub AllFit-push : (ds : List Delta) (d : Delta) → AllFit ds → delta_fits d ≡ true → AllFit (ds ++ d ∷ [])
AllFit-push ds d g h = AllFit-append ds (d ∷ []) g (and_from (delta_fits d) true h refl)

pub spellings-push : (ds : List Delta) (d : Delta) → spellings (ds ++ d ∷ []) ≡ spellings ds ++ spelling d
spellings-push ds d = spellings-append ds (d ∷ []) ∙ ap (λ t. spellings ds ++ t) (append-nil (spelling d))

-- ---- where reading stops behind some changes

module _ (ds : List Delta) (s : Text) (left : ℕ) (fit : AllFit ds) (some : s ≡ [] → ⊥) (stopped : delta_at s ≡ Err left) (st : StopsAt delta_at (λ d. delta_fits d ≡ true) spelling s left) where
  abbrev front : Text
  front = spellings ds ++ st.front

  whole_is : spellings ds ++ s ≡ front ++ st.behind
  whole_is = ap (λ t. spellings ds ++ t) st.split ∙ sym (append_assoc (spellings ds) st.front st.behind)

  begins : Begins SpellsDeltas front
  begins = record {
    more = st.more;
    value = ds ++ st.value ∷ [];
    spells = record {
      fit = AllFit-push ds st.value fit st.fits;
      bytes_are = append_assoc (spellings ds) st.front st.more ∙ ap (λ t. spellings ds ++ t) st.begins ∙ sym (spellings-push ds st.value);
    };
  }

  longest : (behind : Text) (n : ℕ) → st.behind ≡ behind → length front < n → n ≤ length (front ++ behind) → Begins SpellsDeltas (take n (front ++ behind)) → ⊥
  longest [] n is high low b = omega (arith, length-append front [], high, low)
  longest (b ∷ tail) n is high low begun =
      let k = n - length front - 1 in
      let count : n ≡ length front + suc k = omega (arith, high) in
      let cut : take n (front ++ b ∷ tail) ≡ front ++ b ∷ take k tail = ap (λ m. take m (front ++ b ∷ tail)) count ∙ take-append-add front (b ∷ tail) (suc k) in
      let rest = take k tail ++ begun.more in
      let text : spellings ds ++ (st.front ++ b ∷ rest) ≡ take n (front ++ b ∷ tail) ++ begun.more = sym (append_assoc (spellings ds) st.front (b ∷ rest)) ∙ sym (append_assoc front (b ∷ take k tail) begun.more) ∙ ap (λ t. t ++ begun.more) (sym cut) in
      let more = strip ds begun.value (st.front ++ b ∷ rest) fit begun.spells.fit (text ∙ begun.spells.bytes_are) in
      let stops = st.blocked b tail rest is in
      begun_by (st.front ++ b ∷ rest) stops.0 more.0 stops.1 (not_nil st.front rest b) more.2.0 more.2.1

  refused : IsRefusedAt SpellsDeltas (front ++ st.behind) (length front)
  refused = record {
    spells_nothing = λ es spells.
        let more = strip ds es s fit spells.fit (whole_is ∙ spells.bytes_are) in
        begun_by s left more.0 stopped some more.2.0 more.2.1;
    within = omega (arith, length-append front st.behind);
    begins = subst (Begins SpellsDeltas) (sym (take_at front st.behind (length front) refl)) begins;
    longest = λ n high low b. longest st.behind n refl high low b;
  }

pub within : (bytes s : Text) (ds : List Delta) (left : ℕ) → IsBytes s → bytes ≡ spellings ds ++ s → delta_at s ≡ Err left → left ≤ length bytes
within bytes s ds left fit is stops =
    let st = delta_law.stops s left fit stops in
    omega (arith, ap length is, length-append (spellings ds) s, ap length st.split, length-append st.front st.behind, st.left_is)

pub IsRefusedAt-left : (bytes s : Text) (ds : List Delta) (left : ℕ) → IsBytes s → AllFit ds → bytes ≡ spellings ds ++ s → (s ≡ [] → ⊥) → delta_at s ≡ Err left → IsRefusedAt SpellsDeltas bytes (length bytes - left)
IsRefusedAt-left bytes s ds left bytes_fit fit is some stops =
    let st = delta_law.stops s left bytes_fit stops in
    let front : Text = spellings ds ++ st.front in
    let split : bytes ≡ front ++ st.behind = is ∙ whole_is ds s left fit some stops st in
    let place : length bytes - left ≡ length front = omega (arith, ap length split, length-append front st.behind, st.left_is) in
    subst (λ n. IsRefusedAt SpellsDeltas bytes n) (sym place) (subst (λ t. IsRefusedAt SpellsDeltas t (length front)) (sym split) (refused ds s left fit some stops st))
