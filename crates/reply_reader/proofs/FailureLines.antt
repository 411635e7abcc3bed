-- Reading failures to the end of their lines.
use Rattle.std.proofs.Common.{◌≡◌, ℕ, zero, suc, ◌^◌, ◌<◌, ◌≤◌, Bool, true, false, List, [], ◌∷◌, ◌++◌, Ok, Err, length, get_or, map, refl, sym, ap, ◌∙◌, subst, arith, lit<, append_assoc}
use Rattle.std.specs.Prelude.{Result, FitsSigned, ℤ, pos, negsuc, codes, decimal}
use Rattle.std.specs.Fmt.{signed_decimal}
use Rattle.std.specs.Int.{w64}
use Rattle.std.specs.List.{list_all}
use Rattle.std.proofs.lemmas.Bool.{and_parts, false≢true}
use Rattle.std.proofs.lemmas.List.{append-nil, get_or-map, length-map}
use Rattle.grid_model.specs.Names.{Text}
use Rattle.grid_model.specs.Digests.{Digest, checksum}
use Rattle.grid_model.specs.Places.{Begins}
use Rattle.grid_model.specs.Printing.{print_rule_cause, print_tree_cause, print_what}
use Rattle.grid_model.specs.ReplySpelling.{FitsFailure}
use Rattle.grid_model.specs.declared.refusal.Refusal.TheVariants as refusal
use Rattle.grid_model.specs.declared.refusal.Failure.{Failure}
use Rattle.grid_model.specs.declared.refusal.Failure.TheVariants as failure
use Rattle.reply_fields.specs.declared.error.ReplyError.{ReplyError}
use Rattle.reply_fields.specs.Fronts.{IsRead, ReadsFrom, Then}
use Rattle.reply_fields.specs.SignedLines.{IsSignedLine, at_least_zero, below_zero}
use Rattle.reply_fields.specs.Spelled.{IsNameOf}
use Rattle.reply_fields.proofs.Codes.{IsCode, IsCode-Then, reads_then}
use Rattle.reply_fields.proofs.NameReading.{IsCode-names}
use Rattle.reply_reader.specs.Failures.{IsBehind, IsFailureLine, head_name, heads, refusal_numbered, numbered_name, most_u64}
use Rattle.reply_reader.specs.declared.heads.Head.{Head}
use Rattle.reply_reader.specs.declared.heads.Head.TheVariants as head
use Rattle.reply_reader.specs.declared.heads.Numbered.{Numbered}
use Rattle.reply_reader.specs.declared.heads.Numbered.TheVariants as kind
use Rattle.reply_reader.proofs.Readings.{mapped, reads_as, IsCode-as, first_unread}
use Rattle.reply_reader.proofs.FailureReading.{begins_behind, IsCode-behind}

-- it has no fields
abbrev has_no_fields : Failure → Bool
has_no_fields (failure.Refused (refusal.Syntax at)) = false
has_no_fields (failure.Refused (refusal.BadWord at)) = false
has_no_fields (failure.Refused (refusal.BadPath at)) = false
has_no_fields (failure.Refused (refusal.BadName at)) = false
has_no_fields (failure.Refused (refusal.Truncated have want)) = false
has_no_fields (failure.Refused (refusal.TooLarge n)) = false
has_no_fields (failure.Refused (refusal.TooMany what n)) = false
has_no_fields (failure.Refused (refusal.BadTriple n)) = false
has_no_fields (failure.Refused (refusal.NoSlot n)) = false
has_no_fields (failure.Refused (refusal.BadRule at cause)) = false
has_no_fields (failure.Refused (refusal.BadQuery at)) = false
has_no_fields (failure.Refused (refusal.Fault slot)) = false
has_no_fields (failure.Refused (refusal.Damaged slot size digest len found)) = false
has_no_fields (failure.Code n) = false
has_no_fields _ = true

plain_fits : (f : Failure) → has_no_fields f ≡ true → FitsFailure f
plain_fits (failure.Refused (refusal.Syntax at)) h = absurd (false≢true h)
plain_fits (failure.Refused (refusal.BadWord at)) h = absurd (false≢true h)
plain_fits (failure.Refused (refusal.BadPath at)) h = absurd (false≢true h)
plain_fits (failure.Refused (refusal.BadName at)) h = absurd (false≢true h)
plain_fits (failure.Refused (refusal.Truncated have want)) h = absurd (false≢true h)
plain_fits (failure.Refused (refusal.TooLarge n)) h = absurd (false≢true h)
plain_fits (failure.Refused (refusal.TooMany what n)) h = absurd (false≢true h)
plain_fits (failure.Refused (refusal.BadTriple n)) h = absurd (false≢true h)
plain_fits (failure.Refused (refusal.NoSlot n)) h = absurd (false≢true h)
plain_fits (failure.Refused (refusal.BadRule at cause)) h = absurd (false≢true h)
plain_fits (failure.Refused (refusal.BadQuery at)) h = absurd (false≢true h)
plain_fits (failure.Refused (refusal.Fault slot)) h = absurd (false≢true h)
plain_fits (failure.Refused (refusal.Damaged slot size digest len found)) h = absurd (false≢true h)
plain_fits (failure.Code n) h = absurd (false≢true h)
plain_fits _ h = tt

abbrev is_proper : Head → Bool
is_proper (head.Plain f) = has_no_fields f
is_proper _ = true

at_all : (p : Head → Bool) (hs : List Head) (i : ℕ) (d : Head) → list_all p hs ≡ true → i < length hs → p (get_or hs i d) ≡ true
at_all p [] i d h within = absurd (omega (arith, within))
at_all p (x ∷ hs) zero d h within = (and_parts (p x) (list_all p hs) h).0
at_all p (x ∷ hs) (suc i) d h within = at_all p hs i d (and_parts (p x) (list_all p hs) h).1 (omega (arith, within))

-- ---- what a head and what stands behind it spell together

numbered_line : (k : Numbered) (s : Text) (n : ℕ) → n ≤ most_u64 → s ≡ decimal n ++ 0x0A ∷ [] → IsFailureLine (numbered_name k ++ s) (failure.Refused (refusal_numbered k n))
numbered_line kind.Syntax s n most e = record { fits = omega (arith, most); is = ap (λ t. codes "Syntax " ++ t) e }
numbered_line kind.BadWord s n most e = record { fits = omega (arith, most); is = ap (λ t. codes "BadWord " ++ t) e }
numbered_line kind.BadPath s n most e = record { fits = omega (arith, most); is = ap (λ t. codes "BadPath " ++ t) e }
numbered_line kind.BadName s n most e = record { fits = omega (arith, most); is = ap (λ t. codes "BadName " ++ t) e }
numbered_line kind.TooLarge s n most e = record { fits = omega (arith, most); is = ap (λ t. codes "TooLarge " ++ t) e }
numbered_line kind.BadTriple s n most e = record { fits = omega (arith, most); is = ap (λ t. codes "BadTriple " ++ t) e }
numbered_line kind.NoSlot s n most e = record { fits = omega (arith, most); is = ap (λ t. codes "NoSlot " ++ t) e }
numbered_line kind.BadQuery s n most e = record { fits = omega (arith, most); is = ap (λ t. codes "BadQuery " ++ t) e }

-- a field in front of others
before : (a b c : Text) (e : ℕ) → (a ++ e ∷ []) ++ (b ++ c) ≡ (a ++ e ∷ b) ++ c
before a b c e = simp append_assoc

-- the fields of a damaged file
damaged_fields : (slot size len : ℕ) (digest found : Digest) (a b c d e : Text) → a ≡ decimal slot ++ 0x20 ∷ [] → b ≡ decimal size ++ 0x20 ∷ [] → c ≡ checksum digest ++ 0x20 ∷ [] → d ≡ decimal len ++ 0x20 ∷ [] → e ≡ checksum found ++ 0x0A ∷ []
    → a ++ (b ++ (c ++ (d ++ e))) ≡ (decimal slot ++ 0x20 ∷ (decimal size ++ 0x20 ∷ (checksum digest ++ 0x20 ∷ (decimal len ++ 0x20 ∷ checksum found)))) ++ 0x0A ∷ []
damaged_fields slot size len digest found a b c d e ae be ce de ee = (λ i. ae i ++ (be i ++ (ce i ++ (de i ++ ee i)))) ∙ simp append_assoc

pub signed_to : (s : Text) (z : ℤ) → IsSignedLine s z → FitsSigned w64 z × (s ≡ signed_decimal z ++ 0x0A ∷ [])
signed_to s (pos n) (at_least_zero fits is) = (record { sfits = fits }, is)
signed_to s (negsuc n) (below_zero fits is) = (record { sfits = fits }, is)

signed_from : (s : Text) (z : ℤ) → FitsSigned w64 z → s ≡ signed_decimal z ++ 0x0A ∷ [] → IsSignedLine s z
signed_from s (pos n) fits is = at_least_zero fits.sfits is
signed_from s (negsuc n) fits is = below_zero fits.sfits is

line_of : (h : Head) → is_proper h ≡ true → (s : Text) (f : Failure) → IsBehind h s f → IsFailureLine (head_name h ++ s) f
line_of (head.Plain g) proper s f p =
    subst (IsFailureLine (head_name (head.Plain g) ++ s)) (sym p.1) (record { fits = plain_fits g proper; is = ap (λ t. head_name (head.Plain g) ++ t) p.0 ∙ append-nil (head_name (head.Plain g)) })
line_of (head.Numbered k) proper s f p = subst (IsFailureLine (numbered_name k ++ s)) (sym p.is) (numbered_line k s p.value p.spells.most_is p.spells.is)
line_of head.Truncated proper s f p =
    subst (IsFailureLine (codes "Truncated " ++ s)) (sym p.spells_second.is) (record {
      fits = (omega (arith, p.spells_first.most_is), omega (arith, p.spells_second.spells.most_is));
      is = ap (λ t. codes "Truncated " ++ t) (p.split ∙ (λ i. p.spells_first.is i ++ p.spells_second.spells.is i) ∙ before (decimal p.begun) (decimal p.spells_second.value) (0x0A ∷ []) 0x20);
    })
line_of head.TooMany proper s f p =
    subst (IsFailureLine (codes "TooMany " ++ s)) (sym p.spells_second.is) (record {
      fits = omega (arith, p.spells_second.spells.most_is);
      is = ap (λ t. codes "TooMany " ++ t) (p.split ∙ (λ i. p.spells_first.is i ++ p.spells_second.spells.is i) ∙ before (print_what p.begun) (decimal p.spells_second.value) (0x0A ∷ []) 0x20);
    })
line_of head.BadTree proper s f p =
    subst (IsFailureLine (codes "BadTree " ++ s)) (sym p.is) (record { fits = tt; is = ap (λ t. codes "BadTree " ++ t) p.spells.is })
line_of head.BadRule proper s f p =
    subst (IsFailureLine (codes "BadRule " ++ s)) (sym p.spells_second.is) (record {
      fits = omega (arith, p.spells_first.most_is);
      is = ap (λ t. codes "BadRule " ++ t) (p.split ∙ (λ i. p.spells_first.is i ++ p.spells_second.spells.is i) ∙ before (decimal p.begun) (print_rule_cause p.spells_second.value) (0x0A ∷ []) 0x20);
    })
line_of head.Fault proper s f p =
    subst (IsFailureLine (codes "Fault " ++ s)) (sym p.is) (record { fits = omega (arith, p.spells.most_is); is = ap (λ t. codes "Fault " ++ t) p.spells.is })
line_of head.Damaged proper s f p =
    let b = p.spells_second in
    let c = b.spells_second in
    let d = c.spells_second in
    let e = d.spells_second in
    subst (IsFailureLine (codes "Damaged " ++ s)) (sym e.is) (record {
      fits = (omega (arith, p.spells_first.most_is), omega (arith, b.spells_first.most_is), c.spells_first.is_digest, omega (arith, d.spells_first.most_is), e.spells.is_digest);
      is = ap (λ t. codes "Damaged " ++ t) (p.split ∙ (λ i. p.first ++ b.split i) ∙ (λ i. p.first ++ (b.first ++ c.split i)) ∙ (λ i. p.first ++ (b.first ++ (c.first ++ d.split i)))
          ∙ damaged_fields p.begun b.begun d.begun c.begun e.value p.first b.first c.first d.first d.second p.spells_first.is b.spells_first.is c.spells_first.is d.spells_first.is e.spells.is);
    })
line_of head.Code proper s f p =
    let z = signed_to s p.value p.spells in
    subst (IsFailureLine (codes "Code " ++ s)) (sym p.is) (record { fits = z.0; is = ap (λ t. codes "Code " ++ t) z.1 })

-- ---- a failure as a head and what stands behind it

abbrev pub BehindHead : ℕ → Text → Failure → Type 0
BehindHead i = IsBehind (get_or heads i head.Code)

abbrev pub HeadThen : Text → Failure → Type 0
HeadThen = Then (IsNameOf (map head_name heads)) BehindHead

row : (s : Text) (f : Failure) (i : ℕ) (h : Head) (second : Text) → i < length heads → get_or heads i head.Code ≡ h → s ≡ head_name h ++ second → IsBehind h second f → HeadThen s f
row s f i h second within e split p = record {
  first = head_name h;
  second = second;
  begun = i;
  split = split;
  spells_first = record {
    within = omega (arith, within, length-map heads head_name);
    is = ap head_name (sym e) ∙ sym (get_or-map head_name heads i head.Code [] within);
  };
  spells_second = subst (λ x. IsBehind x second f) (sym e) p;
}

plain : (s : Text) (f : Failure) (i : ℕ) → i < length heads → get_or heads i head.Code ≡ head.Plain f → IsFailureLine s f → HeadThen s f
plain s f i within e p = row s f i (head.Plain f) [] within e (p.is ∙ sym (append-nil (head_name (head.Plain f)))) (refl, refl)

with_number : (s : Text) (k : Numbered) (n i : ℕ) → i < length heads → get_or heads i head.Code ≡ head.Numbered k → n < 2 ^ 64 → s ≡ numbered_name k ++ (decimal n ++ 0x0A ∷ []) → HeadThen s (failure.Refused (refusal_numbered k n))
with_number s k n i within e fits is = row s (failure.Refused (refusal_numbered k n)) i (head.Numbered k) (decimal n ++ 0x0A ∷ []) within e is (record { value = n; is = refl; spells = record { most_is = omega (arith, fits); is = refl } })

pub from_line : (s : Text) (f : Failure) → IsFailureLine s f → HeadThen s f
from_line s (failure.Refused refusal.TooLong) p = plain s (failure.Refused refusal.TooLong) 0 (lit< tt) refl p
from_line s (failure.Refused (refusal.Syntax n)) p = with_number s kind.Syntax n 1 (lit< tt) refl p.fits p.is
from_line s (failure.Refused refusal.UnknownCommand) p = plain s (failure.Refused refusal.UnknownCommand) 2 (lit< tt) refl p
from_line s (failure.Refused (refusal.BadWord n)) p = with_number s kind.BadWord n 3 (lit< tt) refl p.fits p.is
from_line s (failure.Refused (refusal.BadPath n)) p = with_number s kind.BadPath n 4 (lit< tt) refl p.fits p.is
from_line s (failure.Refused (refusal.BadName n)) p = with_number s kind.BadName n 5 (lit< tt) refl p.fits p.is
from_line s (failure.Refused (refusal.Truncated have want)) p = row s (failure.Refused (refusal.Truncated have want)) 6 head.Truncated ((decimal have ++ 0x20 ∷ []) ++ (decimal want ++ 0x0A ∷ [])) (lit< tt) refl
    (p.is ∙ ap (λ t. codes "Truncated " ++ t) (sym (before (decimal have) (decimal want) (0x0A ∷ []) 0x20))) (record {
      first = decimal have ++ 0x20 ∷ [];
      second = decimal want ++ 0x0A ∷ [];
      begun = have;
      split = refl;
      spells_first = record { most_is = omega (arith, p.fits.0); is = refl };
      spells_second = record { value = want; is = refl; spells = record { most_is = omega (arith, p.fits.1); is = refl } };
    })
from_line s (failure.Refused refusal.NoLogin) p = plain s (failure.Refused refusal.NoLogin) 7 (lit< tt) refl p
from_line s (failure.Refused refusal.Open) p = plain s (failure.Refused refusal.Open) 8 (lit< tt) refl p
from_line s (failure.Refused refusal.NoUpload) p = plain s (failure.Refused refusal.NoUpload) 9 (lit< tt) refl p
from_line s (failure.Refused (refusal.TooLarge n)) p = with_number s kind.TooLarge n 10 (lit< tt) refl p.fits p.is
from_line s (failure.Refused (refusal.TooMany what limit)) p = row s (failure.Refused (refusal.TooMany what limit)) 11 head.TooMany ((print_what what ++ 0x20 ∷ []) ++ (decimal limit ++ 0x0A ∷ [])) (lit< tt) refl
    (p.is ∙ ap (λ t. codes "TooMany " ++ t) (sym (before (print_what what) (decimal limit) (0x0A ∷ []) 0x20))) (record {
      first = print_what what ++ 0x20 ∷ [];
      second = decimal limit ++ 0x0A ∷ [];
      begun = what;
      split = refl;
      spells_first = record { is = refl };
      spells_second = record { value = limit; is = refl; spells = record { most_is = omega (arith, p.fits); is = refl } };
    })
from_line s (failure.Refused (refusal.BadTriple n)) p = with_number s kind.BadTriple n 12 (lit< tt) refl p.fits p.is
from_line s (failure.Refused refusal.NoUser) p = plain s (failure.Refused refusal.NoUser) 13 (lit< tt) refl p
from_line s (failure.Refused refusal.NoMember) p = plain s (failure.Refused refusal.NoMember) 14 (lit< tt) refl p
from_line s (failure.Refused refusal.NoCollection) p = plain s (failure.Refused refusal.NoCollection) 15 (lit< tt) refl p
from_line s (failure.Refused refusal.NoObject) p = plain s (failure.Refused refusal.NoObject) 16 (lit< tt) refl p
from_line s (failure.Refused refusal.NoResource) p = plain s (failure.Refused refusal.NoResource) 17 (lit< tt) refl p
from_line s (failure.Refused (refusal.NoSlot n)) p = with_number s kind.NoSlot n 18 (lit< tt) refl p.fits p.is
from_line s (failure.Refused refusal.NoTarget) p = plain s (failure.Refused refusal.NoTarget) 19 (lit< tt) refl p
from_line s (failure.Refused refusal.NoReplica) p = plain s (failure.Refused refusal.NoReplica) 20 (lit< tt) refl p
from_line s (failure.Refused refusal.NoTriple) p = plain s (failure.Refused refusal.NoTriple) 21 (lit< tt) refl p
from_line s (failure.Refused refusal.NoAccess) p = plain s (failure.Refused refusal.NoAccess) 22 (lit< tt) refl p
from_line s (failure.Refused refusal.NotAdmin) p = plain s (failure.Refused refusal.NotAdmin) 23 (lit< tt) refl p
from_line s (failure.Refused refusal.Exists) p = plain s (failure.Refused refusal.Exists) 24 (lit< tt) refl p
from_line s (failure.Refused refusal.NotEmpty) p = plain s (failure.Refused refusal.NotEmpty) 25 (lit< tt) refl p
from_line s (failure.Refused refusal.Fixed) p = plain s (failure.Refused refusal.Fixed) 26 (lit< tt) refl p
from_line s (failure.Refused refusal.Inside) p = plain s (failure.Refused refusal.Inside) 27 (lit< tt) refl p
from_line s (failure.Refused refusal.LastGood) p = plain s (failure.Refused refusal.LastGood) 28 (lit< tt) refl p
from_line s (failure.Refused (refusal.BadTree cause)) p = row s (failure.Refused (refusal.BadTree cause)) 29 head.BadTree (print_tree_cause cause ++ 0x0A ∷ []) (lit< tt) refl p.is (record { value = cause; is = refl; spells = record { is = refl } })
from_line s (failure.Refused (refusal.BadRule place cause)) p = row s (failure.Refused (refusal.BadRule place cause)) 30 head.BadRule ((decimal place ++ 0x20 ∷ []) ++ (print_rule_cause cause ++ 0x0A ∷ [])) (lit< tt) refl
    (p.is ∙ ap (λ t. codes "BadRule " ++ t) (sym (before (decimal place) (print_rule_cause cause) (0x0A ∷ []) 0x20))) (record {
      first = decimal place ++ 0x20 ∷ [];
      second = print_rule_cause cause ++ 0x0A ∷ [];
      begun = place;
      split = refl;
      spells_first = record { most_is = omega (arith, p.fits); is = refl };
      spells_second = record { value = cause; is = refl; spells = record { is = refl } };
    })
from_line s (failure.Refused (refusal.BadQuery n)) p = with_number s kind.BadQuery n 31 (lit< tt) refl p.fits p.is
from_line s (failure.Refused (refusal.Fault slot)) p = row s (failure.Refused (refusal.Fault slot)) 32 head.Fault (decimal slot ++ 0x0A ∷ []) (lit< tt) refl p.is (record { value = slot; is = refl; spells = record { most_is = omega (arith, p.fits); is = refl } })
from_line s (failure.Refused (refusal.Damaged slot size digest len found)) p =
    let a = decimal slot ++ 0x20 ∷ [] in
    let b = decimal size ++ 0x20 ∷ [] in
    let c = checksum digest ++ 0x20 ∷ [] in
    let d = decimal len ++ 0x20 ∷ [] in
    let e = checksum found ++ 0x0A ∷ [] in
    row s (failure.Refused (refusal.Damaged slot size digest len found)) 33 head.Damaged (a ++ (b ++ (c ++ (d ++ e)))) (lit< tt) refl
    (p.is ∙ ap (λ t. codes "Damaged " ++ t) (sym (damaged_fields slot size len digest found a b c d e refl refl refl refl refl)))
    (record {
      first = a;
      second = b ++ (c ++ (d ++ e));
      begun = slot;
      split = refl;
      spells_first = record { most_is = omega (arith, p.fits.0); is = refl };
      spells_second = record {
        first = b;
        second = c ++ (d ++ e);
        begun = size;
        split = refl;
        spells_first = record { most_is = omega (arith, p.fits.1); is = refl };
        spells_second = record {
          first = c;
          second = d ++ e;
          begun = digest;
          split = refl;
          spells_first = record { is_digest = p.fits.2; is = refl };
          spells_second = record {
            first = d;
            second = e;
            begun = len;
            split = refl;
            spells_first = record { most_is = omega (arith, p.fits.3); is = refl };
            spells_second = record { value = found; is = refl; spells = record { is_digest = p.fits.4; is = refl } };
          };
        };
      };
    })
from_line s (failure.Code n) p = row s (failure.Code n) 34 head.Code (signed_decimal n ++ 0x0A ∷ []) (lit< tt) refl p.is (record { value = n; is = refl; spells = signed_from (signed_decimal n ++ 0x0A ∷ []) n p.fits refl })
from_line s failure.NoRule p = plain s failure.NoRule 35 (lit< tt) refl p
from_line s failure.Depth p = plain s failure.Depth 36 (lit< tt) refl p
from_line s failure.Spent p = plain s failure.Spent 37 (lit< tt) refl p
from_line s failure.LongText p = plain s failure.LongText 38 (lit< tt) refl p
from_line s failure.Stopped p = plain s failure.Stopped 39 (lit< tt) refl p

pub to_line : (s : Text) (f : Failure) → HeadThen s f → IsFailureLine s f
to_line s f t =
    let within : t.begun < length heads = omega (arith, t.spells_first.within, length-map heads head_name) in
    let first : t.first ≡ head_name (get_or heads t.begun head.Code) = t.spells_first.is ∙ get_or-map head_name heads t.begun head.Code [] within in
    subst (λ x. IsFailureLine x f) (sym (t.split ∙ ap (λ x. x ++ t.second) first))
    (line_of (get_or heads t.begun head.Code) (at_all is_proper heads t.begun head.Code refl within) t.second f t.spells_second)

-- ---- read

begins_head_at : (i : ℕ) → Begins (BehindHead i) []
begins_head_at i = begins_behind (get_or heads i head.Code)

pub IsCode-heads : IsCode (IsNameOf (map head_name heads))
IsCode-heads = IsCode-names (map head_name heads) refl

as_line : (text : Text) (at : ℕ) (r : Result (Failure × ℕ) ReplyError) → ReadsFrom HeadThen text at r → ReadsFrom IsFailureLine text at (mapped (λ f. f) r)
as_line = reads_as HeadThen IsFailureLine (λ f. f) to_line (λ s f p. (f, refl, from_line s f p))

pub failure_unread : (text : Text) (at : ℕ) (e : ReplyError) → ReadsFrom (IsNameOf (map head_name heads)) text at (Err e) → ReadsFrom IsFailureLine text at (Err e)
failure_unread text at e h = as_line text at (Err e) (first_unread (IsNameOf (map head_name heads)) BehindHead begins_head_at text at e h)

pub failure_then : (text : Text) (at next i : ℕ) → IsRead (IsNameOf (map head_name heads)) text at i next → (r : Result (Failure × ℕ) ReplyError) → ReadsFrom (IsBehind (get_or heads i head.Code)) text next r → ReadsFrom IsFailureLine text at r
failure_then text at next i h (Ok r) then = as_line text at (Ok r) (reads_then (IsNameOf (map head_name heads)) BehindHead IsCode-heads text at next i h (Ok r) then)
failure_then text at next i h (Err e) then = as_line text at (Err e) (reads_then (IsNameOf (map head_name heads)) BehindHead IsCode-heads text at next i h (Err e) then)

pub IsCode-failure : IsCode IsFailureLine
IsCode-failure = IsCode-as HeadThen IsFailureLine (λ f. f) to_line (λ s f p. (f, refl, from_line s f p)) (IsCode-Then (IsNameOf (map head_name heads)) BehindHead IsCode-heads (λ i. IsCode-behind (get_or heads i head.Code)))

pub begins_failure : Begins IsFailureLine []
begins_failure = record { more = codes "NoRule" ++ 0x0A ∷ []; value = failure.NoRule; spells = record { fits = tt; is = refl } }
