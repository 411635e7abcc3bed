-- Spellings of which none begins another, one behind the other.
use Rattle.std.proofs.Common.{◌≡◌, ℕ, ◌+◌, ◌-◌, ◌<◌, ◌≤◌, [], ◌∷◌, ◌++◌, Ok, Err, length, take, drop, refl, sym, ap, ◌∙◌, subst, arith, length-append, append_assoc, inl, inr}
use Rattle.std.specs.Prelude.{◌⊎◌, Result}
use Rattle.std.proofs.lemmas.Bool.{cases_lt}
use Rattle.std.proofs.lemmas.List.{append-nil, append_cancel_left, take-append-drop, take_at, drop-drop, length-drop, length-take-le, take_rest}
use Rattle.std.proofs.Math.Seq.{take-append-add}
use Rattle.grid_model.specs.Names.{Text}
use Rattle.grid_model.specs.Places.{Begins}
use Rattle.reply_fields.specs.declared.error.ReplyError.{ReplyError}
use Rattle.reply_fields.specs.declared.error.ReplyError.TheVariants.{BadReply, Memory}
use Rattle.reply_fields.specs.Fronts.{IsFieldFront, IsNoFieldFront, IsRead, IsUnreadField, ReadsFrom, Then}

-- ---- two texts that begin one text

-- the shorter one begins the longer one
pub shorter_first : (s t u v : Text) → s ++ u ≡ t ++ v → length s ≤ length t → t ≡ s ++ drop (length s) t
shorter_first [] t u v e h = refl
shorter_first (x ∷ s) [] u v e h = absurd (omega (arith, h))
shorter_first (x ∷ s) (y ∷ t) u v e h =
    let same : x ≡ y = cc in
    let rest : s ++ u ≡ t ++ v = cc in
    (λ i. sym same i ∷ shorter_first s t u v rest (omega (arith, h)) i)

module _ {A : Type 0} (P : Text → A → Type 0) where
  -- no spelling begins that of another value, nor a longer one
  pub record IsCode : Type 0 where
    pub only : (s t u v : Text) (a b : A) → s ++ u ≡ t ++ v → P s a → P t b → (s ≡ t) × (a ≡ b)

  pub Begins-shorter : (text more : Text) → Begins P (text ++ more) → Begins P text
  Begins-shorter text more b = record { more = more ++ b.more; value = b.value; spells = subst (λ t. P t b.value) (append_assoc text more b.more) b.spells }

  pub Begins-spelled : (s : Text) (a : A) → P s a → Begins P s
  Begins-spelled s a p = record { more = []; value = a; spells = subst (λ t. P t a) (sym (append-nil s)) p }

  -- fewer bytes of a text
  pub Begins-fewer : (text : Text) (m n : ℕ) → m ≤ n → n ≤ length text → Begins P (take n text) → Begins P (take m text)
  Begins-fewer text m n less within b =
      let same : take n text ≡ take m text ++ take (n - m) (drop m text) =
      ap (λ k. take k text) count ∙ ap (λ t. take (m + (n - m)) t) (sym (take-append-drop m text))
      ∙ ap (λ k. take (k + (n - m)) (take m text ++ drop m text)) (sym size) ∙ take-append-add (take m text) (drop m text) (n - m) in
      Begins-shorter (take m text) (take (n - m) (drop m text)) (subst (Begins P) same b)
    where
      count : n ≡ m + (n - m)
      count = omega (arith, less)

      size : length (take m text) ≡ m
      size = length-take-le m text (omega (arith, less, within))

  -- Where the longest front is seen by its next byte.
  pub IsNoFieldFront-next : IsCode → (text : Text) (n : ℕ) → n ≤ length text → Begins P (take n text) → ((a : A) → ¬ P (take n text) a) → (n < length text → ¬ Begins P (take (n + 1) text)) → IsNoFieldFront P text n
  IsNoFieldFront-next code text n within begins unspelled next = record { within = within; begins = begins; none = none; longest = longest }
    where
      longest : (k : ℕ) → n < k → k ≤ length text → ¬ Begins P (take k text)
      longest k more short b = next (omega (arith, more, short)) (Begins-fewer text (n + 1) k (omega (arith, more)) short b)

      none : (s rest : Text) (a : A) → text ≡ s ++ rest → ¬ P s a
      none s rest a split p = by (cases_lt n (length s))
        where
          front : take (length s) text ≡ s
          front = ap (take (length s)) split ∙ take_at s rest (length s) refl

          by : (n < length s) ⊎ (length s ≤ n) → ⊥
          by (inl longer) = longest (length s) longer (omega (arith, ap length split, length-append s rest)) (subst (Begins P) (sym front) (Begins-spelled s a p))
          by (inr short) =
              let whole : s ++ (rest ++ []) ≡ text = ap (λ t. s ++ t) (append-nil rest) ∙ sym split in
              let other : take n text ++ drop n text ≡ text = take-append-drop n text in
              let long : take n text ≡ s ++ drop (length s) (take n text) =
              shorter_first s (take n text) rest (drop n text) (sym split ∙ sym other) (omega (arith, short, length-take-le n text within)) in
              let both = code.only s (take n text ++ begins.more) (drop (length s) (take n text) ++ begins.more) [] a begins.value
              (sym (append_assoc s (drop (length s) (take n text)) begins.more) ∙ ap (λ t. t ++ begins.more) (sym long) ∙ sym (append-nil (take n text ++ begins.more))) p begins.spells in
              let same : take n text ≡ s = shortest s (take n text) (drop (length s) (take n text)) begins.more long both.0 in
              unspelled a (subst (λ t. P t a) (sym same) p)
            where
              shortest : (s t u v : Text) → t ≡ s ++ u → s ≡ t ++ v → t ≡ s
              shortest s t u v e f =
                  let sizes : length u ≡ 0 = omega (arith, ap length e, ap length f, length-append s u, length-append t v) in
                  e ∙ ap (λ x. s ++ x) (nothing u sizes) ∙ append-nil s
                where
                  nothing : (u : Text) → length u ≡ 0 → u ≡ []
                  nothing [] h = refl
                  nothing (x ∷ u) h = absurd (omega (arith, h))

  -- ---- from a place of a text on

  pub IsUnreadField-at : (text : Text) (from n : ℕ) → IsNoFieldFront P (drop from text) n → IsUnreadField P text from (from + n)
  IsUnreadField-at text from n h = record { forward = omega arith; none = let count : n ≡ from + n - from = omega arith in subst (IsNoFieldFront P (drop from text)) count h }

  pub IsRead-at : (text : Text) (from n : ℕ) (a : A) → from ≤ length text → n ≤ length (drop from text) → IsFieldFront P (drop from text) a (drop n (drop from text)) → IsRead P text from a (from + n)
  IsRead-at text from n a inside within f = record {
    forward = omega arith;
    within = omega (arith, inside, within, length-drop from text);
    front = subst (IsFieldFront P (drop from text) a) (drop-drop n from text) f;
  }

  -- the same of the rest as a slice gives it
  pub IsUnreadField-rest : (text : Text) (from n place : ℕ) → place ≡ from + n → IsNoFieldFront P (take (length text - from) (drop from text)) n → IsUnreadField P text from place
  IsUnreadField-rest text from n place is h = subst (IsUnreadField P text from) (sym is) (IsUnreadField-at text from n (subst (λ t. IsNoFieldFront P t n) (take_rest text from) h))

  pub IsRead-rest : (text : Text) (from n to : ℕ) (a : A) → from ≤ length text → n ≤ length (take (length text - from) (drop from text)) → to ≡ from + n
      → IsFieldFront P (take (length text - from) (drop from text)) a (drop n (take (length text - from) (drop from text))) → IsRead P text from a to
  IsRead-rest text from n to a inside within is f =
      subst (IsRead P text from a) (sym is) (IsRead-at text from n a inside (omega (arith, within, ap length (take_rest text from)))
      (subst (λ t. IsFieldFront P t a (drop n t)) (take_rest text from) f))

-- ---- the same spellings under another name

module _ {A : Type 0} (P Q : Text → A → Type 0) (to : (s : Text) (a : A) → P s a → Q s a) (from : (s : Text) (a : A) → Q s a → P s a) where
  pub IsCode-same : IsCode P → IsCode Q
  IsCode-same code = record { only = λ s t u v a b e p q. code.only s t u v a b e (from s a p) (from t b q) }

  Begins-to : (s : Text) → Begins P s → Begins Q s
  Begins-to s b = record { more = b.more; value = b.value; spells = to (s ++ b.more) b.value b.spells }

  Begins-from : (s : Text) → Begins Q s → Begins P s
  Begins-from s b = record { more = b.more; value = b.value; spells = from (s ++ b.more) b.value b.spells }

  pub ReadsFrom-same : (text : Text) (at : ℕ) (r : Result (A × ℕ) ReplyError) → ReadsFrom P text at r → ReadsFrom Q text at r
  ReadsFrom-same text at (Ok read) r = record { forward = r.forward; within = r.within; front = record { spelled = r.front.spelled; split = r.front.split; spells = to r.front.spelled read.0 r.front.spells } }
  ReadsFrom-same text at (Err (BadReply place)) r = record {
    forward = r.forward;
    none = record {
      within = r.none.within;
      begins = Begins-to (take (place - at) (drop at text)) r.none.begins;
      none = λ s rest a split q. r.none.none s rest a split (from s a q);
      longest = λ k more short b. r.none.longest k more short (Begins-from (take k (drop at text)) b);
    };
  }
  ReadsFrom-same text at (Err Memory) r = tt

-- ---- one behind the other

module _ {A B : Type 0} (P : Text → A → Type 0) (Q : A → Text → B → Type 0) where
  pub IsCode-Then : IsCode P → ((a : A) → IsCode (Q a)) → IsCode (Then P Q)
  IsCode-Then first second = record { only = only }
    where
      only : (s t u v : Text) (a b : B) → s ++ u ≡ t ++ v → Then P Q s a → Then P Q t b → (s ≡ t) × (a ≡ b)
      only s t u v a b e p q =
          let whole : p.first ++ (p.second ++ u) ≡ q.first ++ (q.second ++ v) =
          sym (append_assoc p.first p.second u) ∙ ap (λ x. x ++ u) (sym p.split) ∙ e ∙ ap (λ x. x ++ v) q.split ∙ append_assoc q.first q.second v in
          let begun = first.only p.first q.first (p.second ++ u) (q.second ++ v) p.begun q.begun whole p.spells_first q.spells_first in
          let rest : p.second ++ u ≡ q.second ++ v = append_cancel_left q.first (p.second ++ u) (q.second ++ v) (ap (λ x. x ++ (p.second ++ u)) (sym begun.0) ∙ whole) in
          let then = (second q.begun).only p.second q.second u v a b rest (subst (λ x. Q x p.second a) begun.1 p.spells_second) q.spells_second in
          (p.split ∙ (λ i. begun.0 i ++ then.0 i) ∙ sym q.split, then.1)

  pub IsFieldFront-Then : (text rest last : Text) (a : A) (b : B) → IsFieldFront P text a rest → IsFieldFront (Q a) rest b last → IsFieldFront (Then P Q) text b last
  IsFieldFront-Then text rest last a b p q = record {
    spelled = p.spelled ++ q.spelled;
    split = p.split ∙ ap (λ t. p.spelled ++ t) q.split ∙ sym (append_assoc p.spelled q.spelled last);
    spells = record { first = p.spelled; second = q.spelled; begun = a; split = refl; spells_first = p.spells; spells_second = q.spells };
  }

  -- what is no front of the first part
  none_first : (text : Text) (n : ℕ) → IsNoFieldFront P text n → ((s : Text) (a : A) → P s a → Begins (Q a) []) → IsNoFieldFront (Then P Q) text n
  none_first text n h some = record {
    within = h.within;
    begins =
        let first = h.begins in
        let then = some (take n text ++ first.more) first.value first.spells in
        record {
          more = first.more ++ then.more;
          value = then.value;
          spells = record { first = take n text ++ first.more; second = then.more; begun = first.value; split = sym (append_assoc (take n text) first.more then.more); spells_first = first.spells; spells_second = then.spells };
        };
    none = λ s rest b split p. h.none p.first (p.second ++ rest) p.begun (split ∙ ap (λ t. t ++ rest) p.split ∙ append_assoc p.first p.second rest) p.spells_first;
    longest = λ k more short b. longest k more short b (cases_lt k (length b.spells.first));
  }
    where
      longest : (k : ℕ) → n < k → k ≤ length text → (b : Begins (Then P Q) (take k text)) → (k < length b.spells.first) ⊎ (length b.spells.first ≤ k) → ⊥
      longest k more short b (inl long) =
          let p = b.spells in
          let front : p.first ≡ take k text ++ drop (length (take k text)) p.first =
          shorter_first (take k text) p.first b.more p.second p.split (omega (arith, long, length-take-le k text short)) in
          h.longest k more short (record { more = drop (length (take k text)) p.first; value = p.begun; spells = subst (λ t. P t p.begun) front p.spells_first })
      longest k more short b (inr within) =
          let p = b.spells in
          let front : take k text ≡ p.first ++ drop (length p.first) (take k text) =
          shorter_first p.first (take k text) p.second b.more (sym p.split) (omega (arith, within, length-take-le k text short)) in
          h.none p.first (drop (length p.first) (take k text) ++ drop k text) p.begun
          (sym (take-append-drop k text) ∙ ap (λ t. t ++ drop k text) front ∙ append_assoc p.first (drop (length p.first) (take k text)) (drop k text)) p.spells_first

  -- a front of the first part, and then no front of the second
  none_second : IsCode P → (text rest : Text) (a : A) (n : ℕ) (f : IsFieldFront P text a rest) → IsNoFieldFront (Q a) rest n → IsNoFieldFront (Then P Q) text (length f.spelled + n)
  none_second code text rest a n f h = record {
    within = omega (arith, size, h.within);
    begins = record {
      more = h.begins.more;
      value = h.begins.value;
      spells = record {
        first = f.spelled;
        second = take n rest ++ h.begins.more;
        begun = a;
        split = ap (λ t. t ++ h.begins.more) (front n) ∙ append_assoc f.spelled (take n rest) h.begins.more;
        spells_first = f.spells;
        spells_second = h.begins.spells;
      };
    };
    none = λ s last b split p.
        let whole : f.spelled ++ rest ≡ p.first ++ (p.second ++ last) = sym f.split ∙ split ∙ ap (λ t. t ++ last) p.split ∙ append_assoc p.first p.second last in
        let same = code.only f.spelled p.first rest (p.second ++ last) a p.begun whole f.spells p.spells_first in
        let behind : rest ≡ p.second ++ last = append_cancel_left p.first rest (p.second ++ last) (ap (λ t. t ++ rest) (sym same.0) ∙ whole) in
        h.none p.second last b behind (subst (λ x. Q x p.second b) (sym same.1) p.spells_second);
    longest = λ k more short b.
        let p = b.spells in
        let j = k - length f.spelled in
        let count : k ≡ length f.spelled + j = omega (arith, more) in
        let whole : f.spelled ++ (take j rest ++ b.more) ≡ p.first ++ p.second =
        sym (append_assoc f.spelled (take j rest) b.more) ∙ ap (λ t. t ++ b.more) (sym (front j) ∙ ap (λ m. take m text) (sym count)) ∙ p.split in
        let same = code.only f.spelled p.first (take j rest ++ b.more) p.second a p.begun whole f.spells p.spells_first in
        let behind : take j rest ++ b.more ≡ p.second = append_cancel_left p.first (take j rest ++ b.more) p.second (ap (λ t. t ++ (take j rest ++ b.more)) (sym same.0) ∙ whole) in
        h.longest j (omega (arith, more, count)) (omega (arith, short, size, count))
        (record { more = b.more; value = b.value; spells = subst (λ t. Q a t b.value) (sym behind) (subst (λ x. Q x p.second b.value) (sym same.1) p.spells_second) });
  }
    where
      size : length text ≡ length f.spelled + length rest
      size = ap length f.split ∙ length-append f.spelled rest

      front : (m : ℕ) → take (length f.spelled + m) text ≡ f.spelled ++ take m rest
      front m = ap (take (length f.spelled + m)) f.split ∙ take-append-add f.spelled rest m

  -- the first part was not read
  pub reads_first : (text : Text) (from : ℕ) (error : ReplyError) → ReadsFrom P text from (Err error) → ((s : Text) (a : A) → P s a → Begins (Q a) []) → ReadsFrom (Then P Q) text from (Err error)
  reads_first text from (BadReply place) r some = record { forward = r.forward; none = none_first (drop from text) (place - from) r.none some }
  reads_first text from Memory r some = tt

  -- the first part was read, and then what follows it, or not
  pub reads_then : IsCode P → (text : Text) (from to : ℕ) (a : A) → IsRead P text from a to → (r : Result (B × ℕ) ReplyError) → ReadsFrom (Q a) text to r → ReadsFrom (Then P Q) text from r
  reads_then code text from to a first (Ok read) r = record {
    forward = omega (arith, first.forward, r.forward);
    within = r.within;
    front = IsFieldFront-Then (drop from text) (drop to text) (drop read.1 text) a read.0 first.front r.front;
  }
  reads_then code text from to a first (Err (BadReply place)) r =
      let f = first.front in
      let size : length f.spelled ≡ to - from =
      omega (arith, first.forward, first.within, ap length f.split, length-append f.spelled (drop to text), length-drop from text, length-drop to text) in
      let count : length f.spelled + (place - to) ≡ place - from = omega (arith, size, first.forward, r.forward) in
      record { forward = omega (arith, first.forward, r.forward); none = subst (IsNoFieldFront (Then P Q) (drop from text)) count (none_second code (drop from text) (drop to text) a (place - to) f r.none) }
  reads_then code text from to a first (Err Memory) r = tt
