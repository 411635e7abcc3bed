-- Parts one after another, each of which tells in which state the next one is read, up to a state that ends them.
use Rattle.std.proofs.Common.{◌≡◌, ℕ, ◌≤◌, [], ◌++◌, Ok, Err, length, refl, sym, ap, ◌∙◌, subst, arith, append_assoc}
use Rattle.std.specs.Prelude.{Option, Some, None, Result}
use Rattle.std.proofs.lemmas.List.{append_cancel_left}
use Rattle.grid_model.specs.Names.{Text}
use Rattle.grid_model.specs.Places.{Begins}
use Rattle.reply_fields.specs.declared.error.ReplyError.{ReplyError}
use Rattle.reply_fields.specs.Fronts.{IsRead, ReadsFrom, Then}
use Rattle.reply_fields.proofs.Codes.{IsCode, reads_then}
use Rattle.reply_reader.specs.Images.{Image}
use Rattle.reply_reader.proofs.Readings.{mapped, reads_as, reads_image, first_unread}

module _ {S A B : Type 0} (Part : S → Text → A → Type 0) (next : S → A → S) (onto : A → B → B) (ended : S → Option B) where
  pub data Run : S → Text → B → Type 0 where
    stops : {s : S} {text : Text} {b : B} → ended s ≡ Some b → text ≡ [] → Run s text b
    goes : {s : S} {text first rest : Text} {a : A} {b whole : B} → ended s ≡ None → text ≡ first ++ rest → Part s first a → Run (next s a) rest b → whole ≡ onto a b → Run s text whole

  abbrev pub Step : S → Text → B → Type 0
  Step s = Then (Part s) (λ a. Image (onto a) (Run (next s a)))

  to_run : (s : S) → ended s ≡ None → (t : Text) (b : B) → Step s t b → Run s t b
  to_run s still t b p = goes still p.split p.spells_first p.spells_second.spells p.spells_second.is

  from_run : (s : S) → ended s ≡ None → (t : Text) (b : B) → Run s t b → Step s t b
  from_run s still t b (stops {b = b'} e none) = let no : ◌≡◌ {A = Option B} None (Some b') = sym still ∙ e in absurd cc
  from_run s still t b (goes {first = first} {rest = rest} {a = a} {b = b'} e split p more is) = record {
    first = first;
    second = rest;
    begun = a;
    split = split;
    spells_first = p;
    spells_second = record { value = b'; is = is; spells = more };
  }

  as_run : (s : S) → ended s ≡ None → (text : Text) (at : ℕ) (r : Result (B × ℕ) ReplyError) → ReadsFrom (Step s) text at r → ReadsFrom (Run s) text at (mapped (λ b. b) r)
  as_run s still = reads_as (Step s) (Run s) (λ b. b) (to_run s still) (λ t b p. (b, refl, from_run s still t b p))

  module _ (codes : (s : S) → IsCode (Part s)) where
    only_run : (s : S) (x y u v : Text) (a b : B) → Run s x a → Run s y b → x ++ u ≡ y ++ v → (x ≡ y) × (a ≡ b)
    only_run s x y u v a b (stops e none) (stops f also) w =
        let same : ◌≡◌ {A = Option B} (Some a) (Some b) = sym e ∙ f in
        (none ∙ sym also, cc)
    only_run s x y u v a b (stops e none) (goes f split p more is) w = let no : ◌≡◌ {A = Option B} None (Some a) = sym f ∙ e in absurd cc
    only_run s x y u v a b (goes e split p more is) (stops f none) w = let no : ◌≡◌ {A = Option B} None (Some b) = sym e ∙ f in absurd cc
    only_run s x y u v a b (goes {first = first} {rest = rest} {a = c} {b = a'} e split p more is) (goes {first = head} {rest = last} {a = d} {b = b'} f cut q others as_well) w =
        let whole : first ++ (rest ++ u) ≡ head ++ (last ++ v) = sym (append_assoc first rest u) ∙ ap (λ t. t ++ u) (sym split) ∙ w ∙ ap (λ t. t ++ v) cut ∙ append_assoc head last v in
        let begun = (codes s).only first head (rest ++ u) (last ++ v) c d whole p q in
        let behind : rest ++ u ≡ last ++ v = append_cancel_left head (rest ++ u) (last ++ v) (ap (λ t. t ++ (rest ++ u)) (sym begun.0) ∙ whole) in
        let then = only_run (next s c) rest last u v a' b' more (subst (λ k. Run (next s k) last b') (sym begun.1) others) behind in
        (split ∙ (λ i. begun.0 i ++ then.0 i) ∙ sym cut, is ∙ (λ i. onto (begun.1 i) (then.1 i)) ∙ sym as_well)

    pub IsCode-Run : (s : S) → IsCode (Run s)
    IsCode-Run s = record { only = λ x y u v a b e p q. only_run s x y u v a b p q e }

    -- What reading the rest from a place on gives, with this made of it, is what reading from the first place on gives.
    module _ {C : Type 0} (P : Text → C → Type 0) where
      pub record Leads (f : B → C) (text : Text) (from : ℕ) (s : S) (place : ℕ) : Type 0 where
        pub inside : place ≤ length text
        pub forward : from ≤ place
        pub then : (r : Result (B × ℕ) ReplyError) → ReadsFrom (Run s) text place r → ReadsFrom P text from (mapped f r)

      pub Leads-start : (f : B → C) (text : Text) (from : ℕ) (s : S) → from ≤ length text → ((r : Result (B × ℕ) ReplyError) → ReadsFrom (Run s) text from r → ReadsFrom P text from (mapped f r)) → Leads f text from s from
      Leads-start f text from s inside reads = record { inside = inside; forward = omega arith; then = reads }

      joined : (f g : B → C) (a : A) → ((b : B) → f (onto a b) ≡ g b) → (r : Result (B × ℕ) ReplyError) → mapped f (mapped (onto a) r) ≡ mapped g r
      joined f g a same (Ok r) = ap (λ x. Ok (x, r.1)) (same r.0)
      joined f g a same (Err e) = refl

      as_same : (r : Result (B × ℕ) ReplyError) → mapped (λ b. b) r ≡ r
      as_same (Ok r) = refl
      as_same (Err e) = refl

      -- one part more
      pub Leads-more : (f g : B → C) (text : Text) (from place to : ℕ) (s now : S) (a : A) → ended s ≡ None → Leads f text from s place → IsRead (Part s) text place a to → now ≡ next s a → ((b : B) → f (onto a b) ≡ g b) → Leads g text from now to
      Leads-more f g text from place to s now a still l h is same = subst (λ k. Leads g text from k to) (sym is) (record { inside = h.within; forward = omega (arith, l.forward, h.forward); then = then })
        where
          then : (r : Result (B × ℕ) ReplyError) → ReadsFrom (Run (next s a)) text to r → ReadsFrom P text from (mapped g r)
          then r rest =
              let step = as_run s still text place (mapped (onto a) r) (reads_then (Part s) (λ x. Image (onto x) (Run (next s x))) (codes s) text place to a h (mapped (onto a) r) (reads_image (onto a) (Run (next s a)) text to r rest)) in
              subst (ReadsFrom P text from) (joined f g a same r) (l.then (mapped (onto a) r) (subst (ReadsFrom (Run s) text place) (as_same (mapped (onto a) r)) step))

      -- a part that was not read
      pub Leads-unread : ((s : S) → Begins (Run s) []) → (f : B → C) (text : Text) (from place : ℕ) (s : S) (e : ReplyError) → ended s ≡ None → Leads f text from s place → ReadsFrom (Part s) text place (Err e) → ReadsFrom P text from (Err e)
      Leads-unread some f text from place s e still l h =
          l.then (Err e) (as_run s still text place (Err e) (first_unread (Part s) (λ x. Image (onto x) (Run (next s x))) (λ a. begins_made a) text place e h))
        where
          begins_made : (a : A) → Begins (Image (onto a) (Run (next s a))) []
          begins_made a = let b = some (next s a) in record { more = b.more; value = onto a b.value; spells = record { value = b.value; is = refl; spells = b.spells } }

      -- the last part was read
      pub Leads-end : (f : B → C) (text : Text) (from place : ℕ) (s : S) (b : B) → ended s ≡ Some b → Leads f text from s place → IsRead P text from (f b) place
      Leads-end f text from place s b over l = l.then (Ok (b, place)) (record { forward = omega arith; within = l.inside; front = record { spelled = []; split = refl; spells = stops over refl } })
