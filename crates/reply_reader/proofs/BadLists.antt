-- Reading bad replicas in a row.
use Rattle.std.proofs.Common.{◌≡◌, ℕ, ◌<◌, ◌≤◌, Bool, true, false, List, [], ◌∷◌, ◌++◌, Err, length, drop, length-append, refl, sym, ap, ◌∙◌, subst, arith, append_assoc, inl, inr}
use Rattle.std.specs.Prelude.{◌⊎◌, ◌==◌, Option, Some, None, Result, if◌then◌else◌, flat_map}
use Rattle.std.proofs.lemmas.List.{length-drop}
use Rattle.std.proofs.Common.{eq-eqb}
use Rattle.grid_model.specs.Names.{Text}
use Rattle.grid_model.specs.Places.{Begins}
use Rattle.grid_model.specs.Printing.{spaced}
use Rattle.grid_model.specs.Replies.{bad_words}
use Rattle.grid_model.specs.ReplySpelling.{FitBad}
use Rattle.grid_model.specs.declared.marks.BadReplica.{BadReplica}
use Rattle.reply_fields.specs.declared.error.ReplyError.{ReplyError}
use Rattle.reply_fields.specs.Fronts.{IsRead, ReadsFrom}
use Rattle.reply_fields.specs.Spelled.{is_among_bytes}
use Rattle.reply_fields.proofs.Codes.{IsCode}
use Rattle.reply_fields.proofs.ListReading.{either_end}
use Rattle.reply_reader.specs.MarkFields.{IsBadList, IsBadReplica}
use Rattle.reply_reader.proofs.Readings.{mapped, reads_as, IsCode-as}
use Rattle.reply_reader.proofs.BadReading.{IsCode-bad, begins_bad}
use Rattle.reply_reader.proofs.Runs.{Run, stops, goes, IsCode-Run, Leads, Leads-start, Leads-more, Leads-unread, Leads-end}

abbrev pub Part : ℕ → Text → BadReplica × ℕ → Type 0
Part end = IsBadReplica

abbrev pub next : ℕ → BadReplica × ℕ → ℕ
next end r = r.1

abbrev pub onto : BadReplica × ℕ → List BadReplica → List BadReplica
onto r bs = r.0 ∷ bs

-- a newline ends the list
abbrev pub ended : ℕ → Option (List BadReplica)
ended end = if end == 0x20 then None else Some []

abbrev pub Bads : ℕ → Text → List BadReplica → Type 0
Bads = Run Part next onto ended

abbrev pub printed : List BadReplica → Text
printed bs = flat_map (λ b. 0x20 ∷ spaced (bad_words b)) bs ++ 0x0A ∷ []

pub open_at : (end : ℕ) → end ≡ 0x20 → ended end ≡ None
open_at end e = ap (λ x. if x then None else Some []) (eq-eqb end 0x20 e)

pub ended_at : (end : ℕ) → end ≡ 0x0A → ended end ≡ Some []
ended_at end e = ap ended e

to_list : (end : ℕ) (s : Text) (bs : List BadReplica) → (end ≡ 0x0A) ⊎ (end ≡ 0x20) → Bads end s bs → IsBadList end s bs
to_list end s bs (inl e) (stops {b = b} f none) =
    let nothing : ◌≡◌ {A = Option (List BadReplica)} (Some []) (Some bs) = sym (ended_at end e) ∙ f in
    let empty : bs ≡ [] = cc in
    subst (IsBadList end s) (sym empty) (record { fits = tt; is = (λ i. e i ∷ none i) })
to_list end s bs (inr e) (stops {b = b} f none) = let no : ◌≡◌ {A = Option (List BadReplica)} None (Some bs) = sym (open_at end e) ∙ f in absurd cc
to_list end s bs (inl e) (goes f split p more is) = let no : ◌≡◌ {A = Option (List BadReplica)} None (Some []) = sym f ∙ ended_at end e in absurd cc
to_list end s bs (inr e) (goes {first = first} {rest = rest} {a = r} {b = others} f split p more is) =
    let later = to_list r.1 rest others (either_end r.1 p.ends_is) more in
    subst (IsBadList end s) (sym is) (record {
      fits = (p.fits.0, p.fits.1, p.fits.2, later.fits);
      is =
          (λ i. e i ∷ split i) ∙ ap (λ x. 0x20 ∷ x ++ rest) p.is ∙ ap (λ x. 0x20 ∷ x) (append_assoc (spaced (bad_words r.0)) (r.1 ∷ []) rest)
          ∙ ap (λ x. 0x20 ∷ spaced (bad_words r.0) ++ x) later.is ∙ ap (λ x. 0x20 ∷ x) (sym (append_assoc (spaced (bad_words r.0)) (flat_map (λ b. 0x20 ∷ spaced (bad_words b)) others) (0x0A ∷ [])));
    })

-- what is printed begins with a newline or a space
pub record Cut (bs : List BadReplica) : Type 0 where
  pub end : ℕ
  pub rest : Text
  pub among : is_among_bytes (0x20 ∷ 0x0A ∷ []) end ≡ true
  pub is : printed bs ≡ end ∷ rest

pub cut : (bs : List BadReplica) → Cut bs
cut [] = record { end = 0x0A; rest = []; among = refl; is = refl }
cut (b ∷ bs) = record { end = 0x20; rest = (spaced (bad_words b) ++ flat_map (λ b. 0x20 ∷ spaced (bad_words b)) bs) ++ 0x0A ∷ []; among = refl; is = refl }

from_list : (bs : List BadReplica) (end : ℕ) (s : Text) → FitBad bs → end ∷ s ≡ printed bs → Bads end s bs
from_list [] end s fits is =
    let e : end ≡ 0x0A = cc in
    let none : s ≡ [] = cc in
    stops (ended_at end e) none
from_list (b ∷ bs) end s fits is =
    let c = cut bs in
    let e : end ≡ 0x20 = cc in
    let behind : s ≡ (spaced (bad_words b) ++ flat_map (λ b. 0x20 ∷ spaced (bad_words b)) bs) ++ 0x0A ∷ [] = cc in
    let split : s ≡ (spaced (bad_words b) ++ c.end ∷ []) ++ c.rest =
    behind ∙ append_assoc (spaced (bad_words b)) (flat_map (λ b. 0x20 ∷ spaced (bad_words b)) bs) (0x0A ∷ []) ∙ ap (λ x. spaced (bad_words b) ++ x) c.is ∙ sym (append_assoc (spaced (bad_words b)) (c.end ∷ []) c.rest) in
    goes {a = (b, c.end)} (open_at end e) split (record { fits = (fits.0, fits.1, fits.2, tt); ends_is = c.among; is = refl }) (from_list bs c.end c.rest fits.3 (sym c.is)) refl

-- ---- read

pub codes_all : (end : ℕ) → IsCode (Part end)
codes_all end = IsCode-bad

begins_all : (end : ℕ) → Begins (Bads end) []
begins_all end = by (end == 0x20) refl
  where
    by : (x : Bool) → (end == 0x20) ≡ x → Begins (Bads end) []
    by true e = let b = begins_bad in closed b.value b.more b.spells
      where
        closed : (r : BadReplica × ℕ) (x : Text) → IsBadReplica x r → Begins (Bads end) []
        closed r x p =
            let ended_too = again r.1 (either_end r.1 p.ends_is) in
            record { more = x ++ ended_too.0; value = r.0 ∷ ended_too.1; spells = goes (ap (λ y. if y then None else Some []) e) refl p ended_too.2 refl }
          where
            again : (k : ℕ) → (k ≡ 0x0A) ⊎ (k ≡ 0x20) → (y : Text) × (bs : List BadReplica) × Bads k y bs
            again k (inl f) = ([], [], stops (ended_at k f) refl)
            again k (inr f) = (spaced (bad_words r.0) ++ 0x0A ∷ [], r.0 ∷ [], goes {a = (r.0, 0x0A)} {b = []} (open_at k f) (sym (nothing_more (spaced (bad_words r.0) ++ 0x0A ∷ []))) (record { fits = p.fits; ends_is = refl; is = refl }) (stops refl refl) refl)
              where
                nothing_more : (t : Text) → t ++ [] ≡ t
                nothing_more [] = refl
                nothing_more (b ∷ t) = ap (λ z. b ∷ z) (nothing_more t)
    by false e = record { more = []; value = []; spells = stops (ap (λ y. if y then None else Some []) e) refl }

module _ (before : ℕ) (either : (before ≡ 0x0A) ⊎ (before ≡ 0x20)) where
  to_bads : (s : Text) (bs : List BadReplica) → Bads before s bs → IsBadList before s bs
  to_bads s bs p = to_list before s bs either p

  from_bads : (s : Text) (bs : List BadReplica) → IsBadList before s bs → (x : List BadReplica) × (bs ≡ x) × Bads before s x
  from_bads s bs p = (bs, refl, from_list bs before s p.fits p.is)

  pub as_list : (text : Text) (at : ℕ) (r : Result (List BadReplica × ℕ) ReplyError) → ReadsFrom (Bads before) text at r → ReadsFrom (IsBadList before) text at (mapped (λ bs. bs) r)
  as_list = reads_as (Bads before) (IsBadList before) (λ bs. bs) to_bads from_bads

  code_of : IsCode (IsBadList before)
  code_of = IsCode-as (Bads before) (IsBadList before) (λ bs. bs) to_bads from_bads (IsCode-Run Part next onto ended codes_all before)

  pub begins_bad_list : Begins (IsBadList before) []
  begins_bad_list = let b = begins_all before in record { more = b.more; value = b.value; spells = to_bads b.more b.value b.spells }

either_list : (before : ℕ) (s : Text) (bs : List BadReplica) → IsBadList before s bs → (before ≡ 0x0A) ⊎ (before ≡ 0x20)
either_list before s [] p = let e : before ∷ s ≡ 0x0A ∷ [] = p.is in inl cc
either_list before s (b ∷ bs) p =
    let e : before ∷ s ≡ 0x20 ∷ ((spaced (bad_words b) ++ flat_map (λ b. 0x20 ∷ spaced (bad_words b)) bs) ++ 0x0A ∷ []) = p.is in inr cc

pub IsCode-bad_list : (before : ℕ) → IsCode (IsBadList before)
IsCode-bad_list before = record { only = λ s t u v a b e p q. (code_of before (either_list before s a p)).only s t u v a b e p q }

-- ---- as far as it was read

-- these in front of the others
abbrev pub in_front : List BadReplica → List BadReplica → List BadReplica
in_front found bs = found ++ bs

pub record ReadBads (before : ℕ) (text : Text) (from : ℕ) (found : List BadReplica) (end place : ℕ) : Type 0 where
  pub either : (end ≡ 0x0A) ⊎ (end ≡ 0x20)
  pub leads : Leads Part next onto ended codes_all (IsBadList before) (in_front found) text from end place

pub ReadBads-start : (before : ℕ) (text : Text) (from : ℕ) (found : List BadReplica) → (before ≡ 0x0A) ⊎ (before ≡ 0x20) → from ≤ length text → found ≡ [] → ReadBads before text from found before from
ReadBads-start before text from found either inside none = record {
  either = either;
  leads = subst (λ f. Leads Part next onto ended codes_all (IsBadList before) (in_front f) text from before from) (sym none)
      (Leads-start Part next onto ended codes_all (IsBadList before) (in_front []) text from before inside (as_list before either text from));
}

pub ReadBads-more : (before : ℕ) (text : Text) (from : ℕ) (found more : List BadReplica) (end place to : ℕ) (r : BadReplica × ℕ) → ReadBads before text from found end place → end ≡ 0x20 → IsRead IsBadReplica text place r to → more ≡ found ++ r.0 ∷ [] → ReadBads before text from more r.1 to
ReadBads-more before text from found more end place to r l e h is = record {
  either = either_end r.1 h.front.spells.ends_is;
  leads = Leads-more Part next onto ended codes_all (IsBadList before) (in_front found) (in_front more) text from place to end r.1 r (open_at end e) l.leads h refl
      (λ bs. sym (append_assoc found (r.0 ∷ []) bs) ∙ ap (λ x. x ++ bs) (sym is));
}

pub ReadBads-unread : (before : ℕ) (text : Text) (from : ℕ) (found : List BadReplica) (end place : ℕ) (e : ReplyError) → ReadBads before text from found end place → end ≡ 0x20 → ReadsFrom IsBadReplica text place (Err e) → ReadsFrom (IsBadList before) text from (Err e)
ReadBads-unread before text from found end place error l e h = Leads-unread Part next onto ended codes_all (IsBadList before) begins_all (in_front found) text from place end error (open_at end e) l.leads h

pub ReadBads-end : (before : ℕ) (text : Text) (from : ℕ) (found : List BadReplica) (end place : ℕ) → ReadBads before text from found end place → end ≡ 0x0A → IsRead (IsBadList before) text from found place
ReadBads-end before text from found end place l e =
    subst (λ f. IsRead (IsBadList before) text from f place) (nothing_more found) (Leads-end Part next onto ended codes_all (IsBadList before) (in_front found) text from place end [] (ended_at end e) l.leads)
  where
    nothing_more : (bs : List BadReplica) → bs ++ [] ≡ bs
    nothing_more [] = refl
    nothing_more (b ∷ bs) = ap (λ z. b ∷ z) (nothing_more bs)

-- a bad replica takes some bytes
pub bad_forward : (text : Text) (place to : ℕ) (r : BadReplica × ℕ) → IsRead IsBadReplica text place r to → place < to
bad_forward text place to r h =
    omega (arith, h.forward, h.within, ap length h.front.split, length-append h.front.spelled (drop to text), length-drop place text, length-drop to text, ap length h.front.spells.is, length-append (spaced (bad_words r.0)) (r.1 ∷ []))
