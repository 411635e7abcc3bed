-- Machines that read one token after another: what they read, and where they stop.
use Rattle.std.proofs.Common.{◌≡◌, ℕ, suc, ◌+◌, ◌-◌, ◌<◌, List, [], ◌∷◌, ◌++◌, length, take, Option, Some, None, refl, sym, ap, subst, ◌∙◌, arith}
use Rattle.std.specs.Prelude.{option_and_then}
use Rattle.std.proofs.lemmas.List.{append_assoc, append-nil, length-append, take_at}
use Rattle.std.proofs.Math.Seq.{take-append-add, take-length}
use Rattle.grid_model.specs.Places.{Begins, IsRefusedAt}

pub some_is : {A : Type 0} {x y : A} → Some x ≡ Some y → x ≡ y
some_is h = cc

pub not_some : {A : Type 0} {x : A} → None ≡ Some x → ⊥
not_some h = cc

module _ {S X : Type 0} (next : S → X → Option S) where
  -- what it reads of these
  abbrev pub run : S → List X → Option S
  run s [] = Some s
  run s (x ∷ xs) = option_and_then (λ t. run t xs) (next s x)

  -- the first token is read, and then the others
  record Goes (s : S) (x : X) (xs : List X) (t : S) : Type 0 where
    between : S
    first : next s x ≡ Some between
    then_on : run between xs ≡ Some t

  goes_of : (s : S) (x : X) (xs : List X) (t : S) → run s (x ∷ xs) ≡ Some t → Goes s x xs t
  goes_of s x xs t h = by (next s x) refl h
    where
      by : (o : Option S) → next s x ≡ o → option_and_then (λ u. run u xs) o ≡ Some t → Goes s x xs t
      by None e h = absurd (not_some h)
      by (Some u) e h = record { between = u; first = e; then_on = h }

  pub run_cons : (s : S) (x : X) (xs : List X) (t : S) (o : Option S) → next s x ≡ Some t → run t xs ≡ o → run s (x ∷ xs) ≡ o
  run_cons s x xs t o e h = ap (option_and_then (λ u. run u xs)) e ∙ h

  pub run_then : (s : S) (xs ys : List X) (t : S) (o : Option S) → run s xs ≡ Some t → run t ys ≡ o → run s (xs ++ ys) ≡ o
  run_then s [] ys t o h g = ap (λ u. run u ys) (some_is h) ∙ g
  run_then s (x ∷ xs) ys t o h g = let w = goes_of s x xs t h in run_cons s x (xs ++ ys) w.between o w.first (run_then w.between xs ys t o w.then_on g)

  pub run_more : (s : S) (xs : List X) (x : X) (t u : S) → run s xs ≡ Some t → next t x ≡ Some u → run s (xs ++ x ∷ []) ≡ Some u
  run_more s xs x t u h g = run_then s xs (x ∷ []) t (Some u) h (run_cons t x [] u (Some u) g refl)

  -- the state behind a front is on the way
  pub record Passes (s : S) (xs ys : List X) (u : S) : Type 0 where
    pub between : S
    pub front : run s xs ≡ Some between
    pub rest : run between ys ≡ Some u

  pub passes_of : (s : S) (xs ys : List X) (u : S) → run s (xs ++ ys) ≡ Some u → Passes s xs ys u
  passes_of s [] ys u h = record { between = s; front = refl; rest = h }
  passes_of s (x ∷ xs) ys u h =
      let w = goes_of s x (xs ++ ys) u h in
      let p = passes_of w.between xs ys u w.then_on in
      record { between = p.between; front = run_cons s x xs w.between (Some p.between) w.first p.front; rest = p.rest }

  -- what each step keeps holds at the end
  pub run_keeps : (Holds : List X → S → Type 0) → ((front : List X) (s : S) (x : X) (t : S) → Holds front s → next s x ≡ Some t → Holds (front ++ x ∷ []) t)
      → (front : List X) (s : S) (xs : List X) (t : S) → Holds front s → run s xs ≡ Some t → Holds (front ++ xs) t
  run_keeps Holds keeps front s [] t now h = subst (λ l. Holds l t) (sym (append-nil front)) (subst (λ u. Holds front u) (some_is h) now)
  run_keeps Holds keeps front s (x ∷ xs) t now h =
      let w = goes_of s x xs t h in
      subst (λ l. Holds l t) (append_assoc front (x ∷ []) xs) (run_keeps Holds keeps (front ++ x ∷ []) w.between xs t (keeps front s x w.between now w.first) w.then_on)

-- a machine within another
pub run_within : {S Z X : Type 0} (next : S → X → Option S) (later : Z → X → Option Z) (put : S → Z) → ((s : S) (x : X) (t : S) → next s x ≡ Some t → later (put s) x ≡ Some (put t))
    → (s : S) (xs : List X) (t : S) → run next s xs ≡ Some t → run later (put s) xs ≡ Some (put t)
run_within next later put each s [] t h = ap (λ u. Some (put u)) (some_is h)
run_within next later put each s (x ∷ xs) t h =
    let w = goes_of next s x xs t h in
    run_cons later (put s) x xs (put w.between) (Some (put t)) (each s x w.between w.first) (run_within next later put each w.between xs t w.then_on)

-- ---- where it stops

-- a state that is whole is at hand behind some more tokens
pub record LeadsOn {S X A : Type 0} (next : S → X → Option S) (finish : S → Option A) (s : S) : Type 0 where
  pub more : List X
  pub last : S
  pub value : A
  pub runs : run next s more ≡ Some last
  pub ends : finish last ≡ Some value

-- what it reads from the start is this
pub record Gives {S X A : Type 0} (next : S → X → Option S) (finish : S → Option A) (start : S) (xs : List X) (a : A) : Type 0 where
  pub last : S
  pub runs : run next start xs ≡ Some last
  pub ends : finish last ≡ Some a

-- the machine reads just what is spelled
pub record IsReader {S X A : Type 0} (next : S → X → Option S) (finish : S → Option A) (start : S) (Spells : List X → A → Type 0) : Type 0 where
  pub sound : (xs : List X) (a : A) → Gives next finish start xs a → Spells xs a
  pub complete : (xs : List X) (a : A) → Spells xs a → Gives next finish start xs a
  pub leads : (xs : List X) (s : S) → run next start xs ≡ Some s → LeadsOn next finish s

module _ {S X A : Type 0} (next : S → X → Option S) (finish : S → Option A) (start : S) (Spells : List X → A → Type 0) (is : IsReader next finish start Spells) where
  -- tokens spell one thing
  pub one_value : (xs : List X) (a b : A) → Spells xs a → Spells xs b → a ≡ b
  one_value xs a b h g =
      let p = is.complete xs a h in
      let q = is.complete xs b g in
      some_is (sym p.ends ∙ ap finish (some_is (sym p.runs ∙ q.runs)) ∙ q.ends)

  begins_here : (xs : List X) (s : S) → run next start xs ≡ Some s → Begins Spells xs
  begins_here xs s h =
      let on = is.leads xs s h in
      record { more = on.more; value = on.value; spells = is.sound (xs ++ on.more) on.value (record { last = on.last; runs = run_then next start xs on.more s (Some on.last) h on.runs; ends = on.ends }) }

  -- the tokens are at their end, and spell nothing
  pub stops_at_end : (xs : List X) (s : S) → run next start xs ≡ Some s → finish s ≡ None → IsRefusedAt Spells xs (length xs)
  stops_at_end xs s h none = record {
    spells_nothing = λ a spelled. let g = is.complete xs a spelled in not_some (sym none ∙ ap finish (some_is (sym h ∙ g.runs)) ∙ g.ends);
    within = omega arith;
    begins = subst (λ l. Begins Spells l) (sym (take-length xs)) (begins_here xs s h);
    longest = λ n low high b. omega (arith, low, high);
  }

  never : (xs : List X) (s : S) (x : X) (later : List X) (t : S) → run next start xs ≡ Some s → next s x ≡ None → run next start (xs ++ x ∷ later) ≡ Some t → ⊥
  never xs s x later t h stuck g =
      let p = passes_of next start xs (x ∷ later) t g in
      let w = goes_of next p.between x later t p.rest in
      not_some (sym stuck ∙ ap (λ u. next u x) (some_is (sym h ∙ p.front)) ∙ w.first)

  -- the tokens go on with one that may not stand there
  pub stops_at_token : (xs : List X) (s : S) (x : X) (later : List X) → run next start xs ≡ Some s → next s x ≡ None → IsRefusedAt Spells (xs ++ x ∷ later) (length xs)
  stops_at_token xs s x later h stuck = record {
    spells_nothing = λ a spelled. let g = is.complete (xs ++ x ∷ later) a spelled in never xs s x later g.last h stuck g.runs;
    within = omega (arith, length-append xs (x ∷ later));
    begins = subst (λ l. Begins Spells l) (sym (take_at xs (x ∷ later) (length xs) refl)) (begins_here xs s h);
    longest = λ n low high b. longer n low b;
  }
    where
      longer : (n : ℕ) → length xs < n → ¬ Begins Spells (take n (xs ++ x ∷ later))
      longer n low b = by (n - (length xs + 1)) (subst (λ k. Begins Spells (take k (xs ++ x ∷ later))) (omega (arith, low)) b)
        where
          by : (m : ℕ) → Begins Spells (take (length xs + suc m) (xs ++ x ∷ later)) → ⊥
          by m b = at (subst (λ l. Begins Spells l) (take-append-add xs (x ∷ later) (suc m)) b)
            where
              at : Begins Spells (xs ++ x ∷ take m later) → ⊥
              at b =
                  let g = is.complete ((xs ++ x ∷ take m later) ++ b.more) b.value b.spells in
                  never xs s x (take m later ++ b.more) g.last h stuck (subst (λ l. run next start l ≡ Some g.last) (append_assoc xs (x ∷ take m later) b.more) g.runs)
