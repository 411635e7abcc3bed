-- Sessions by their places, as a map.
use Rattle.std.proofs.Common.{◌≡◌, ◌≢◌, ℕ, zero, suc, ◌+◌, ◌<◌, Bool, true, false, cond, [], ◌∷◌, Option, Some, None, get_or, arith, refl, sym, ap, ◌∙◌, inl, inr}
use Rattle.std.specs.Prelude.{◌⊎◌, length, slice_set, replicate}
use Rattle.std.specs.Cmp.{nat_cmp_total}
use Rattle.std.specs.FinMap.{nat_cmp-IsAntisymmetric}
use Rattle.std.specs.Ordering.{nat_cmp, eq_by_cmp}
use Rattle.std.proofs.lemmas.Bool.{cases_order}
use Rattle.grid_model.specs.Maps.{empty, get, put, remove}
use Rattle.grid_model.specs.Names.{Text}
use Rattle.grid_model.specs.Sessions as model
use Rattle.grid_model.proofs.Comparing.{eq_by_cmp-Decides}
use Rattle.grid_model.proofs.MapLemmas.{get-put, get-remove, same_map}
use Rattle.sess.specs.Places.{Places, at, user_of, session_by_name, found, sessions_from, sessions_of}
use Rattle.sess.specs.declared.sessions.Session.{Session}

-- ---- two numbers

same_number : (q k : ℕ) → q ≡ k → eq_by_cmp nat_cmp q k ≡ true
same_number q k e = (eq_by_cmp-Decides nat_cmp_total nat_cmp-IsAntisymmetric q k).1 e

other_number : (q k : ℕ) → q ≢ k → eq_by_cmp nat_cmp q k ≡ false
other_number q k apart = by (eq_by_cmp nat_cmp q k) refl
  where
    by : (b : Bool) → eq_by_cmp nat_cmp q k ≡ b → b ≡ false
    by true e = absurd (apart ((eq_by_cmp-Decides nat_cmp_total nat_cmp-IsAntisymmetric q k).0 e))
    by false e = refl

-- equal or not
decided : (q k : ℕ) → (q ≡ k) ⊎ (q ≢ k)
decided q k = by (cases_order q k)
  where
    by : (q ≡ k) ⊎ ((q < k) ⊎ (k < q)) → (q ≡ k) ⊎ (q ≢ k)
    by (inl e) = inl e
    by (inr (inl lt)) = inr (λ e. omega (arith, e, lt))
    by (inr (inr lt)) = inr (λ e. omega (arith, e, lt))

put_same : (m : model.Sessions) (k : ℕ) (x : model.Session) (q : ℕ) → q ≡ k → get (put m k x) q ≡ Some x
put_same m k x q e = get-put nat_cmp_total m k x q ∙ ap (λ (b : Bool). cond b (Some x) (get m q)) (same_number q k e)

put_other : (m : model.Sessions) (k : ℕ) (x : model.Session) (q : ℕ) → q ≢ k → get (put m k x) q ≡ get m q
put_other m k x q apart = get-put nat_cmp_total m k x q ∙ ap (λ (b : Bool). cond b (Some x) (get m q)) (other_number q k apart)

remove_same : (m : model.Sessions) (k q : ℕ) → q ≡ k → get (remove m k) q ≡ None
remove_same m k q e = get-remove nat_cmp_total m k q ∙ ap (λ (b : Bool). cond b None (get m q)) (same_number q k e)

remove_other : (m : model.Sessions) (k q : ℕ) → q ≢ k → get (remove m k) q ≡ get m q
remove_other m k q apart = get-remove nat_cmp_total m k q ∙ ap (λ (b : Bool). cond b None (get m q)) (other_number q k apart)

-- ---- what the map answers

module _ (names : ℕ → Text) where
  -- a session before the first place
  before : (places : Places) (base q : ℕ) → q < base → get (sessions_from names base places) q ≡ None
  before [] base q less = refl
  before (None ∷ places) base q less = before places (base + 1) q (omega (arith, less))
  before (Some s ∷ places) base q less =
      put_other (sessions_from names (base + 1) places) base (session_by_name names s) q (λ e. omega (arith, e, less)) ∙ before places (base + 1) q (omega (arith, less))

  here : (x : Option Session) (places : Places) (base q : ℕ) → q ≡ base → get (sessions_from names base (x ∷ places)) q ≡ found names x
  here None places base q e = before places (base + 1) q (omega (arith, e))
  here (Some s) places base q e = put_same (sessions_from names (base + 1) places) base (session_by_name names s) q e

  behind : (x : Option Session) (places : Places) (base q : ℕ) → q ≢ base → get (sessions_from names base (x ∷ places)) q ≡ get (sessions_from names (base + 1) places) q
  behind None places base q apart = refl
  behind (Some s) places base q apart = put_other (sessions_from names (base + 1) places) base (session_by_name names s) q apart

  from_base : (places : Places) (base n : ℕ) → get (sessions_from names base places) (base + n) ≡ found names (at places n)
  from_base [] base n = refl
  from_base (x ∷ places) base zero = here x places base (base + 0) (omega arith)
  from_base (x ∷ places) base (suc n) =
      behind x places base (base + suc n) (λ e. omega (arith, e)) ∙ ap (get (sessions_from names (base + 1) places)) (let e : base + suc n ≡ base + 1 + n = omega arith in e)
      ∙ from_base places (base + 1) n

  -- the session of a number is that of its place
  pub sessions_of-get : (places : Places) (n : ℕ) → get (sessions_of names places) n ≡ found names (at places n)
  sessions_of-get places n = ap (get (sessions_of names places)) (let e : n ≡ 0 + n = omega arith in e) ∙ from_base places 0 n

  found_user : (x : Option Session) (u : ℕ) → user_of x ≡ Some u → found names x ≡ Some (record { user = names u; upload = None })
  found_user None u e = absurd (cc e)
  found_user (Some s) u e = let same : s.user ≡ u = cc e in ap (λ (k : ℕ). Some (session_by_name names (record { user = k }))) same

  found_nobody : (x : Option Session) → user_of x ≡ None → found names x ≡ None
  found_nobody None e = refl
  found_nobody (Some s) e = absurd (cc e)

  -- where it is a user's
  pub sessions_of-user : (places : Places) (n u : ℕ) → user_of (at places n) ≡ Some u → get (sessions_of names places) n ≡ Some (record { user = names u; upload = None })
  sessions_of-user places n u is = sessions_of-get places n ∙ found_user (at places n) u is

  -- and nobody's
  pub sessions_of-nobody : (places : Places) (n : ℕ) → user_of (at places n) ≡ None → get (sessions_of names places) n ≡ None
  sessions_of-nobody places n is = sessions_of-get places n ∙ found_nobody (at places n) is

  -- ---- what changes do to the map

  same_sessions : (m n : model.Sessions) → ((q : ℕ) → get m q ≡ get n q) → m ≡ n
  same_sessions m n alike = same_map nat_cmp_total nat_cmp-IsAntisymmetric m n alike

  -- nobody is logged in
  pub sessions_of-new : (places : Places) → ((n : ℕ) → at places n ≡ None) → sessions_of names places ≡ empty
  sessions_of-new places none = same_sessions (sessions_of names places) empty (λ q. sessions_of-get places q ∙ ap (found names) (none q))

  pub sessions_of-login : (old new : Places) (n u : ℕ) → at new n ≡ Some (record { user = u }) → ((k : ℕ) → k ≢ n → at new k ≡ at old k)
      → sessions_of names new ≡ put (sessions_of names old) n (record { user = names u; upload = None })
  sessions_of-login old new n u own others = same_sessions (sessions_of names new) (put (sessions_of names old) n x) (λ q. by q (decided q n))
    where
      x : model.Session
      x = record { user = names u; upload = None }

      by : (q : ℕ) → (q ≡ n) ⊎ (q ≢ n) → get (sessions_of names new) q ≡ get (put (sessions_of names old) n x) q
      by q (inl e) = sessions_of-get new q ∙ ap (found names) (ap (at new) e ∙ own) ∙ sym (put_same (sessions_of names old) n x q e)
      by q (inr apart) = sessions_of-get new q ∙ ap (found names) (others q apart) ∙ sym (sessions_of-get old q) ∙ sym (put_other (sessions_of names old) n x q apart)

  pub sessions_of-logout : (old new : Places) (n : ℕ) → at new n ≡ None → ((k : ℕ) → k ≢ n → at new k ≡ at old k) → sessions_of names new ≡ remove (sessions_of names old) n
  sessions_of-logout old new n own others = same_sessions (sessions_of names new) (remove (sessions_of names old) n) (λ q. by q (decided q n))
    where
      by : (q : ℕ) → (q ≡ n) ⊎ (q ≢ n) → get (sessions_of names new) q ≡ get (remove (sessions_of names old) n) q
      by q (inl e) = sessions_of-get new q ∙ ap (found names) (ap (at new) e ∙ own) ∙ sym (remove_same (sessions_of names old) n q e)
      by q (inr apart) = sessions_of-get new q ∙ ap (found names) (others q apart) ∙ sym (sessions_of-get old q) ∙ sym (remove_other (sessions_of names old) n q apart)

-- other names for the same users who are logged in
found_names : (names others : ℕ → Text) (x : Option Session) → ((u : ℕ) → user_of x ≡ Some u → names u ≡ others u) → found names x ≡ found others x
found_names names others None same = refl
found_names names others (Some s) same = ap (λ (t : Text). Some (record { user = t; upload = None })) (same s.user refl)

pub sessions_of-names : (names others : ℕ → Text) (places : Places) → ((n u : ℕ) → user_of (at places n) ≡ Some u → names u ≡ others u) → sessions_of names places ≡ sessions_of others places
sessions_of-names names others places same =
    same_map nat_cmp_total nat_cmp-IsAntisymmetric (sessions_of names places) (sessions_of others places) (λ q.
    sessions_of-get names places q ∙ found_names names others (at places q) (same q) ∙ sym (sessions_of-get others places q))

-- ---- places of a list

pub at-set_same : (places : Places) (n : ℕ) (x : Option Session) → n < length places → at (slice_set places n x) n ≡ x
at-set_same [] n x within = absurd (omega (arith, within))
at-set_same (y ∷ places) zero x within = refl
at-set_same (y ∷ places) (suc n) x within = at-set_same places n x (omega (arith, within))

pub at-set_other : (places : Places) (n : ℕ) (x : Option Session) (k : ℕ) → k ≢ n → at (slice_set places n x) k ≡ at places k
at-set_other [] n x k apart = refl
at-set_other (y ∷ places) zero x zero apart = absurd (apart refl)
at-set_other (y ∷ places) zero x (suc k) apart = refl
at-set_other (y ∷ places) (suc n) x zero apart = refl
at-set_other (y ∷ places) (suc n) x (suc k) apart = at-set_other places n x k (λ e. apart (omega (arith, e)))

pub at-index : (places : Places) (n : ℕ) (x : Option Session) → n < length places → x ≡ get_or places n x → x ≡ at places n
at-index [] n x within is = absurd (omega (arith, within))
at-index (y ∷ places) zero x within is = is
at-index (y ∷ places) (suc n) x within is = at-index places n x (omega (arith, within)) is

pub at-none : (n k : ℕ) → at (replicate n None) k ≡ None
at-none zero k = refl
at-none (suc n) zero = refl
at-none (suc n) (suc k) = at-none n k
