-- What holds of a reader: what it reads is spelled so, what is spelled so is read, whatever follows, and where it stops
-- the bytes before the place begin a spelling, and with the next byte none.
use Rattle.std.proofs.Common.{◌≡◌, ℕ, true, List, [], ◌∷◌, ◌++◌, length, Ok, Err, ◌⊎◌, inl, inr, refl, sym, ap, subst, ◌∙◌, append_assoc}
use Rattle.std.specs.List.{list_all}
use Rattle.std.proofs.lemmas.Bool.{and_parts, and_from}
use Rattle.std.proofs.lemmas.List.{append-nil}
use Rattle.grid_model.specs.Names.{Text}
use Rattle.grid_model.specs.Deltas.{Part, all_fit, joined, whole, is_byte}
use Rattle.row_codec.specs.Reading.{Read, bind, and_then, give}

abbrev pub IsBytes : Text → Type 0
IsBytes s = list_all is_byte s ≡ true

pub IsBytes-behind : (front behind : Text) → IsBytes (front ++ behind) → IsBytes behind
IsBytes-behind [] behind h = h
IsBytes-behind (b ∷ front) behind h = IsBytes-behind front behind (and_parts (is_byte b) (list_all is_byte (front ++ behind)) h).1

pub IsBytes-front : (front behind : Text) → IsBytes (front ++ behind) → IsBytes front
IsBytes-front [] behind h = refl
IsBytes-front (b ∷ front) behind h =
    let both = and_parts (is_byte b) (list_all is_byte (front ++ behind)) h in
    and_from (is_byte b) (list_all is_byte front) both.0 (IsBytes-front front behind both.1)

pub IsBytes-append : (front behind : Text) → IsBytes front → IsBytes behind → IsBytes (front ++ behind)
IsBytes-append [] behind g h = h
IsBytes-append (b ∷ front) behind g h =
    let both = and_parts (is_byte b) (list_all is_byte front) g in
    and_from (is_byte b) (list_all is_byte (front ++ behind)) both.0 (IsBytes-append front behind both.1 h)

module _ {B : Type 0} (p : Text → Read B) (Fits : B → Type 0) (spell : B → Text) where
  -- reading stops with so many bytes left
  pub record StopsAt (s : Text) (left : ℕ) : Type 0 where
    pub front : Text
    pub behind : Text
    pub more : Text
    pub value : B
    pub fits : Fits value
    pub split : s ≡ front ++ behind
    pub left_is : length behind ≡ left
    pub begins : front ++ more ≡ spell value
    pub blocked : (b : ℕ) (tail rest : Text) → behind ≡ b ∷ tail → (k : ℕ) × (p (front ++ b ∷ rest) ≡ Err k)

  pub record Law : Type 0 where
    pub takes : (s : Text) (b : B) (rest : Text) → IsBytes s → p s ≡ Ok (b, rest) → Fits b × (s ≡ spell b ++ rest)
    pub again : (b : B) (rest : Text) → Fits b → p (spell b ++ rest) ≡ Ok (b, rest)
    pub stops : (s : Text) (left : ℕ) → IsBytes s → p s ≡ Err left → StopsAt s left
    pub some : B
    pub some_fits : Fits some

-- ---- answers

pub bind_ok : {A B : Type 0} (r : Read A) (f : A → Text → Read B) (y : B × Text) → bind r f ≡ Ok y → (x : A × Text) × (r ≡ Ok x) × (f x.0 x.1 ≡ Ok y)
bind_ok (Ok x) f y e = (x, refl, e)
bind_ok (Err k) f y e = absurd cc

pub bind_err : {A B : Type 0} (r : Read A) (f : A → Text → Read B) (k : ℕ) → bind r f ≡ Err k → (r ≡ Err k) ⊎ ((x : A × Text) × (r ≡ Ok x) × (f x.0 x.1 ≡ Err k))
bind_err (Ok x) f k e = inr (x, refl, e)
bind_err (Err j) f k e = inl (cc)

pub ok_is : {A : Type 0} (x y : A × Text) → (let r : Read A = Ok x in r ≡ Ok y) → x ≡ y
ok_is x y e = cc

-- ---- the same values, told otherwise

module _ {B : Type 0} {p : Text → Read B} {F G : B → Type 0} {spell : B → Text} where
  pub StopsAt-refit : ((b : B) → F b → G b) → {s : Text} {left : ℕ} → StopsAt p F spell s left → StopsAt p G spell s left
  StopsAt-refit to st = record {
    front = st.front;
    behind = st.behind;
    more = st.more;
    value = st.value;
    fits = to st.value st.fits;
    split = st.split;
    left_is = st.left_is;
    begins = st.begins;
    blocked = st.blocked;
  }

  pub Law-refit : ((b : B) → F b → G b) → ((b : B) → G b → F b) → Law p F spell → Law p G spell
  Law-refit to from law = record {
    takes = λ s b rest bytes e. let t = law.takes s b rest bytes e in (to b t.0, t.1);
    again = λ b rest fits. law.again b rest (from b fits);
    stops = λ s left bytes e. StopsAt-refit to (law.stops s left bytes e);
    some = law.some;
    some_fits = to law.some law.some_fits;
  }

-- ---- nothing is read

pub Law-give : {B : Type 0} (v : B) → Law (give v) (λ b. b ≡ v) (λ _. [])
unfolding give
Law-give v = record {
  takes = λ s b rest bytes e. let is = ok_is (v, s) (b, rest) e in (sym (ap (λ x. x.0) is), ap (λ x. x.1) is);
  again = λ b rest is. ap (λ x. Ok (x, rest)) (sym is);
  stops = λ s left bytes e. absurd cc;
  some = v;
  some_fits = refl;
}

-- ---- one reader after another

module _ {A B : Type 0} (p : Text → Read A) (f : A → Text → Read B) (FA : A → Type 0) (spellA : A → Text) (G : A → B → Type 0) (Fits : B → Type 0) (spell behind_of : B → Text) (law : Law p FA spellA) (laws : (a : A) → FA a → Law (f a) (G a) behind_of)
    (join : (a : A) (b : B) → FA a → G a b → Fits b × (spell b ≡ spellA a ++ behind_of b)) (parts : (b : B) → Fits b → (a : A) × FA a × G a b) where
  then_takes : (s : Text) (b : B) (rest : Text) → IsBytes s → and_then p f s ≡ Ok (b, rest) → Fits b × (s ≡ spell b ++ rest)
  unfolding and_then
  then_takes s b rest bytes e =
      let x = bind_ok (p s) f (b, rest) e in
      let a = x.0.0 in
      let first = law.takes s a x.0.1 bytes x.1 in
      let second = (laws a first.0).takes x.0.1 b rest (IsBytes-behind (spellA a) x.0.1 (subst IsBytes first.1 bytes)) x.2 in
      let j = join a b first.0 second.0 in
      (j.0, first.1 ∙ ap (λ t. spellA a ++ t) second.1 ∙ sym (append_assoc (spellA a) (behind_of b) rest) ∙ ap (λ t. t ++ rest) (sym j.1))

  then_again : (b : B) (rest : Text) → Fits b → and_then p f (spell b ++ rest) ≡ Ok (b, rest)
  unfolding and_then
  then_again b rest fits =
      let q = parts b fits in
      let j = join q.0 b q.1 q.2 in
      let regroup : spell b ++ rest ≡ spellA q.0 ++ (behind_of b ++ rest) = ap (λ t. t ++ rest) j.1 ∙ append_assoc (spellA q.0) (behind_of b) rest in
      ap (λ t. bind (p t) f) regroup ∙ ap (λ r. bind r f) (law.again q.0 (behind_of b ++ rest) q.1) ∙ (laws q.0 q.1).again b rest q.2

  first_stops : (s : Text) (left : ℕ) → StopsAt p FA spellA s left → StopsAt (and_then p f) Fits spell s left
  unfolding and_then
  first_stops s left st =
      let l = laws st.value st.fits in
      let j = join st.value l.some st.fits l.some_fits in
      record {
        front = st.front;
        behind = st.behind;
        more = st.more ++ behind_of l.some;
        value = l.some;
        fits = j.0;
        split = st.split;
        left_is = st.left_is;
        begins = sym (append_assoc st.front st.more (behind_of l.some)) ∙ ap (λ t. t ++ behind_of l.some) st.begins ∙ sym j.1;
        blocked = λ b tail rest is. let k = st.blocked b tail rest is in (k.0, ap (λ r. bind r f) k.1);
      }

  second_stops : (s : Text) (left : ℕ) (a : A) (behind : Text) (fits : FA a) → s ≡ spellA a ++ behind → StopsAt (f a) (G a) behind_of behind left → StopsAt (and_then p f) Fits spell s left
  unfolding and_then
  second_stops s left a behind fits is st =
      let j = join a st.value fits st.fits in
      record {
        front = spellA a ++ st.front;
        behind = st.behind;
        more = st.more;
        value = st.value;
        fits = j.0;
        split = is ∙ ap (λ t. spellA a ++ t) st.split ∙ sym (append_assoc (spellA a) st.front st.behind);
        left_is = st.left_is;
        begins = append_assoc (spellA a) st.front st.more ∙ ap (λ t. spellA a ++ t) st.begins ∙ sym j.1;
        blocked = λ b tail rest is.
            let k = st.blocked b tail rest is in
            (k.0, ap (λ t. bind (p t) f) (append_assoc (spellA a) st.front (b ∷ rest)) ∙ ap (λ r. bind r f) (law.again a (st.front ++ b ∷ rest) fits) ∙ k.1);
      }

  then_stops : (s : Text) (left : ℕ) → IsBytes s → and_then p f s ≡ Err left → StopsAt (and_then p f) Fits spell s left
  unfolding and_then
  then_stops s left bytes e = by (bind_err (p s) f left e)
    where
      by : (p s ≡ Err left) ⊎ ((x : A × Text) × (p s ≡ Ok x) × (f x.0 x.1 ≡ Err left)) → StopsAt (and_then p f) Fits spell s left
      by (inl h) = first_stops s left (law.stops s left bytes h)
      by (inr x) =
          let first = law.takes s x.0.0 x.0.1 bytes x.1 in
          second_stops s left x.0.0 x.0.1 first.0 first.1 ((laws x.0.0 first.0).stops x.0.1 left (IsBytes-behind (spellA x.0.0) x.0.1 (subst IsBytes first.1 bytes)) x.2)

  pub Law-then : Law (and_then p f) Fits spell
  Law-then =
      let l = laws law.some law.some_fits in
      record {
        takes = then_takes;
        again = then_again;
        stops = then_stops;
        some = l.some;
        some_fits = (join law.some l.some law.some_fits l.some_fits).0;
      }

-- a value made of what was read
pub Law-map : {A B : Type 0} {p : Text → Read A} {FA : A → Type 0} {spellA : A → Text} {Fits : B → Type 0} {spell : B → Text} (g : A → B) → Law p FA spellA → ((a : A) → FA a → Fits (g a) × (spell (g a) ≡ spellA a))
    → ((b : B) → Fits b → (a : A) × FA a × (b ≡ g a)) → Law (and_then p (λ a. give (g a))) Fits spell
Law-map {A = A} {B = B} {p = p} {FA = FA} {spellA = spellA} {Fits = Fits} {spell = spell} g law join parts =
    Law-then p (λ a. give (g a)) FA spellA (λ a b. b ≡ g a) Fits spell (λ _. []) law (λ a fits. Law-give (g a)) joins parts
  where
    joins : (a : A) (b : B) → FA a → b ≡ g a → Fits b × (spell b ≡ spellA a ++ [])
    joins a b fits is =
        let j = join a fits in
        subst (λ c. Fits c × (spell c ≡ spellA a ++ [])) (sym is) (j.0, j.1 ∙ sym (append-nil (spellA a)))

-- ---- parts and rows of them

-- the reader of one part
pub record IsPart {A : Type 0} (p : Text → Read A) (part : A → Part) : Type 0 where
  pub law : Law p (λ a. (part a).fits ≡ true) (λ a. (part a).bytes)

-- the reader of the values with C, of which these parts are left to be read
pub record IsRow {B : Type 0} (p : Text → Read B) (C : B → Type 0) (row : B → List Part) : Type 0 where
  pub law : Law p (λ b. C b × (all_fit (row b) ≡ true)) (λ b. joined (row b))

-- nothing is said yet
abbrev pub Any : {B : Type 0} → B → Type 0
Any b = Unit {0}

pub IsRow-then : {A B : Type 0} {p : Text → Read A} {f : A → Text → Read B} {part : A → Part} {C : B → Type 0} {row : B → List Part} (key : B → A) → IsPart p part → ((a : A) → IsRow (f a) (λ b. C b × (key b ≡ a)) row)
    → IsRow (and_then p f) C (λ b. part (key b) ∷ row b)
IsRow-then {A = A} {B = B} {p = p} {f = f} {part = part} {C = C} {row = row} key first behind = record {
  law = Law-then p f (λ a. (part a).fits ≡ true) (λ a. (part a).bytes) (λ a b. (C b × (key b ≡ a)) × (all_fit (row b) ≡ true)) (λ b. C b × (all_fit (part (key b) ∷ row b) ≡ true)) (λ b. joined (part (key b) ∷ row b)) (λ b. joined (row b)) first.law (λ a fits. (behind a).law) join parts;
}
  where
    join : (a : A) (b : B) → (part a).fits ≡ true → (C b × (key b ≡ a)) × (all_fit (row b) ≡ true) → (C b × (all_fit (part (key b) ∷ row b) ≡ true)) × (joined (part (key b) ∷ row b) ≡ (part a).bytes ++ joined (row b))
    join a b fits g = ((g.0.0, and_from (part (key b)).fits (all_fit (row b)) (ap (λ x. (part x).fits) g.0.1 ∙ fits) g.1), ap (λ x. (part x).bytes ++ joined (row b)) g.0.1)

    parts : (b : B) → C b × (all_fit (part (key b) ∷ row b) ≡ true) → (a : A) × ((part a).fits ≡ true) × ((C b × (key b ≡ a)) × (all_fit (row b) ≡ true))
    parts b h = let both = and_parts (part (key b)).fits (all_fit (row b)) h.1 in (key b, both.0, ((h.0, refl), both.1))

-- all was read
pub IsRow-give : {B : Type 0} {C : B → Type 0} (v : B) → C v → ((b : B) → C b → b ≡ v) → IsRow (give v) C (λ _. [])
IsRow-give {C = C} v there only = record { law = Law-refit (λ b is. (subst C (sym is) there, refl)) (λ b c. only b c.0) (Law-give v) }

-- a row is one part
pub IsPart-whole : {B : Type 0} {p : Text → Read B} {row : B → List Part} → IsRow p Any row → IsPart p (λ b. whole (row b))
IsPart-whole r = record { law = Law-refit (λ b h. h.1) (λ b h. (tt, h)) r.law }

-- ---- a tag, and what stands behind it

module _ {T B : Type 0} (f : T → Text → Read B) (row : B → List Part) where
  -- what is read behind the tag is one constructor of a row
  pub record Arm {R : Type 0} (con : R → B) (t : T) : Type 0 where
    pub law : Law (f t) (λ b. (r : R) × (b ≡ con r) × (all_fit (row b) ≡ true)) (λ b. joined (row b))

  pub arm : {R : Type 0} {p : Text → Read R} {rows : R → List Part} (con : R → B) (t : T) → f t ≡ and_then p (λ r. give (con r)) → IsRow p Any rows → ((r : R) → row (con r) ≡ rows r) → Arm con t
  arm {R = R} {p = p} {rows = rows} con t is r same = record {
    law = subst (λ q. Law q (λ b. (r : R) × (b ≡ con r) × (all_fit (row b) ≡ true)) (λ b. joined (row b))) (sym is)
        (Law-map con r.law (λ a fits. ((a, refl, ap all_fit (same a) ∙ fits.1), ap joined (same a))) (λ b fits. (fits.0, (tt, sym (ap all_fit (ap row fits.1 ∙ same fits.0)) ∙ fits.2), fits.1)));
  }

  -- nothing stands behind the tag
  pub lone_arm : (v : B) (t : T) → f t ≡ give v → row v ≡ [] → Arm (λ (r : Unit {0}). v) t
  unfolding and_then give
  lone_arm v t is none = arm (λ (r : Unit {0}). v) t is (IsRow-give {C = Any} tt tt (λ b c. refl)) (λ r. none)

module _ {T B : Type 0} (f : T → Text → Read B) (tag_of : B → T) (row : B → List Part) where
  -- what is read behind the tag, but for reading it again
  pub record Behind (t : T) : Type 0 where
    pub takes : (s : Text) (b : B) (rest : Text) → IsBytes s → f t s ≡ Ok (b, rest) → ((tag_of b ≡ t) × (all_fit (row b) ≡ true)) × (s ≡ joined (row b) ++ rest)
    pub stops : (s : Text) (left : ℕ) → IsBytes s → f t s ≡ Err left → StopsAt (f t) (λ b. (tag_of b ≡ t) × (all_fit (row b) ≡ true)) (λ b. joined (row b)) s left
    pub some : B
    pub some_fits : (tag_of some ≡ t) × (all_fit (row some) ≡ true)

  pub behind : {R : Type 0} (con : R → B) (t : T) → Arm f row con t → ((r : R) → tag_of (con r) ≡ t) → Behind t
  behind con t x tag =
      let law = x.law in
      record {
        takes = λ s b rest bytes e. let x = law.takes s b rest bytes e in ((ap tag_of x.0.1 ∙ tag x.0.0, x.0.2), x.1);
        stops = λ s left bytes e. StopsAt-refit (λ b x. (ap tag_of x.1 ∙ tag x.0, x.2)) (law.stops s left bytes e);
        some = law.some;
        some_fits = (ap tag_of law.some_fits.1 ∙ tag law.some_fits.0, law.some_fits.2);
      }

  pub IsRow-behind : ((t : T) → Behind t) → ((b : B) (rest : Text) → all_fit (row b) ≡ true → f (tag_of b) (joined (row b) ++ rest) ≡ Ok (b, rest)) → (t : T) → IsRow (f t) (λ b. Any b × (tag_of b ≡ t)) row
  IsRow-behind each again t =
      let e = each t in
      record {
        law = record {
          takes = λ s b rest bytes is. let x = e.takes s b rest bytes is in (((tt, x.0.0), x.0.1), x.1);
          again = λ b rest fits. subst (λ u. f u (joined (row b) ++ rest) ≡ Ok (b, rest)) fits.0.1 (again b rest fits.1);
          stops = λ s left bytes is. StopsAt-refit (λ b x. ((tt, x.0), x.1)) (e.stops s left bytes is);
          some = e.some;
          some_fits = ((tt, e.some_fits.0), e.some_fits.1);
        };
      }
