-- What was read, as what is made of it.
use Rattle.std.proofs.Common.{◌≡◌, ℕ, zero, suc, ◌-◌, ◌<◌, List, [], ◌∷◌, ◌++◌, Ok, Err, length, take, drop, get_or, refl, sym, ap, ◌∙◌, arith}
use Rattle.std.specs.Prelude.{Result}
use Rattle.grid_model.specs.Names.{Text}
use Rattle.grid_model.specs.Places.{Begins}
use Rattle.reply_fields.specs.declared.error.ReplyError.{ReplyError}
use Rattle.reply_fields.specs.declared.error.ReplyError.TheVariants.{BadReply, Memory}
use Rattle.reply_fields.specs.Fronts.{IsRead, ReadsFrom, Then}
use Rattle.reply_fields.proofs.Codes.{IsCode, reads_first, reads_then}
use Rattle.reply_reader.specs.Images.{Image}

-- the same of what is made of the value
abbrev pub mapped : {A B : Type 0} → (A → B) → Result (A × ℕ) ReplyError → Result (B × ℕ) ReplyError
mapped f (Ok r) = Ok (f r.0, r.1)
mapped f (Err e) = Err e

module _ {A B : Type 0} (P : Text → A → Type 0) (Q : Text → B → Type 0) (f : A → B) (to : (s : Text) (a : A) → P s a → Q s (f a)) (from : (s : Text) (b : B) → Q s b → (a : A) × (b ≡ f a) × P s a) where
  pub begins_to : (s : Text) → Begins P s → Begins Q s
  begins_to s b = record { more = b.more; value = f b.value; spells = to (s ++ b.more) b.value b.spells }

  pub begins_from : (s : Text) → Begins Q s → Begins P s
  begins_from s b = let p = from (s ++ b.more) b.value b.spells in record { more = b.more; value = p.0; spells = p.2 }

  pub reads_as : (text : Text) (at : ℕ) (r : Result (A × ℕ) ReplyError) → ReadsFrom P text at r → ReadsFrom Q text at (mapped f r)
  reads_as text at (Ok read) r = record { forward = r.forward; within = r.within; front = record { spelled = r.front.spelled; split = r.front.split; spells = to r.front.spelled read.0 r.front.spells } }
  reads_as text at (Err (BadReply place)) r = record {
    forward = r.forward;
    none = record {
      within = r.none.within;
      begins = begins_to (take (place - at) (drop at text)) r.none.begins;
      none = λ s rest b split q. let p = from s b q in r.none.none s rest p.0 split p.2;
      longest = λ k more short b. r.none.longest k more short (begins_from (take k (drop at text)) b);
    };
  }
  reads_as text at (Err Memory) r = tt

  pub IsCode-as : IsCode P → IsCode Q
  IsCode-as code = record {
    only = λ s t u v a b e p q.
        let x = from s a p in
        let y = from t b q in
        let same = code.only s t u v x.0 y.0 e x.2 y.2 in
        (same.0, x.1 ∙ ap f same.1 ∙ sym y.1);
  }

-- ---- images

module _ {A B : Type 0} (f : A → B) (P : Text → A → Type 0) where
  to_image : (s : Text) (a : A) → P s a → Image f P s (f a)
  to_image s a p = record { value = a; is = refl; spells = p }

  from_image : (s : Text) (b : B) → Image f P s b → (a : A) × (b ≡ f a) × P s a
  from_image s b i = (i.value, i.is, i.spells)

  pub reads_image : (text : Text) (at : ℕ) (r : Result (A × ℕ) ReplyError) → ReadsFrom P text at r → ReadsFrom (Image f P) text at (mapped f r)
  reads_image = reads_as P (Image f P) f to_image from_image

  pub IsCode-Image : IsCode P → IsCode (Image f P)
  IsCode-Image = IsCode-as P (Image f P) f to_image from_image

  pub begins_image : Begins P [] → Begins (Image f P) []
  begins_image = begins_to P (Image f P) f to_image from_image []

-- ---- one behind the other

module _ {A B : Type 0} (P : Text → A → Type 0) (Q : A → Text → B → Type 0) where
  -- where every first part can go on
  pub begins_then : Begins P [] → ((a : A) → Begins (Q a) []) → Begins (Then P Q) []
  begins_then b some =
      let next = some b.value in
      record {
        more = b.more ++ next.more;
        value = next.value;
        spells = record { first = b.more; second = next.more; begun = b.value; split = refl; spells_first = b.spells; spells_second = next.spells };
      }

  pub first_unread : ((a : A) → Begins (Q a) []) → (text : Text) (from : ℕ) (e : ReplyError) → ReadsFrom P text from (Err e) → ReadsFrom (Then P Q) text from (Err e)
  first_unread some text from e r = reads_first P Q text from e r (λ s a p. some a)

-- within a list it does not matter what stands behind it
pub same_entry : {X : Type 0} (xs : List X) (i : ℕ) (d e : X) → i < length xs → get_or xs i d ≡ get_or xs i e
same_entry [] i d e within = absurd (omega (arith, within))
same_entry (x ∷ xs) zero d e within = refl
same_entry (x ∷ xs) (suc i) d e within = same_entry xs i d e (omega (arith, within))

-- a first part was read, and then one of which a value is made
pub then_image : {A B C : Type 0} (P : Text → A → Type 0) (R : A → Text → C → Type 0) (f : A → C → B) → IsCode P → (text : Text) (from to : ℕ) (a : A) → IsRead P text from a to → (r : Result (C × ℕ) ReplyError) → ReadsFrom (R a) text to r
    → ReadsFrom (Then P (λ x. Image (f x) (R x))) text from (mapped (f a) r)
then_image P R f code text from to a first r then = reads_then P (λ x. Image (f x) (R x)) code text from to a first (mapped (f a) r) (reads_image (f a) (R a) text to r then)
