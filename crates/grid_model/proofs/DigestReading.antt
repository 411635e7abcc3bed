-- A digest is read from its prefix and its base64.
use Rattle.std.proofs.Common.{◌≡◌, ℕ, List, ◌++◌, Some, None, Ok, Err, length, take, drop, sym, ap, ◌∙◌, subst}
use Rattle.std.specs.Prelude.{◌↔◌, Option, Result, IfSome, IfNone, SomeIff, codes}
use Rattle.std.proofs.lemmas.List.{take-append-drop, append_cancel_left}
use Rattle.base64.specs.Engines.{standard}
use Rattle.base64.specs.GeneralPurpose.{IsBytes, decode_of, encode_of}
use Rattle.base64.specs.declared.decode.DecodeError.{DecodeError}
use Rattle.grid_model.specs.Names.{Text}
use Rattle.grid_model.specs.Digests.{Digest, IsDigest, SpellsDigest, checksum}

-- an input decodes to bytes exactly where it is their encoding
abbrev pub IsDecoded : Text → Type 0
IsDecoded symbols = (b : List ℕ) → IsBytes b → (decode_of standard symbols ≡ Ok b) ↔ (symbols ≡ encode_of standard b)

-- what stands behind the prefix
pub record Behind (text symbols : Text) : Type 0 where
  pub same : take 5 text ≡ codes "sha2:"
  pub is : symbols ≡ drop 5 text

pub behind_prefix : (text symbols prefix : Text) → prefix ≡ codes "sha2:" → take (length prefix) text ≡ prefix → symbols ≡ drop (length prefix) text → Behind text symbols
behind_prefix text symbols prefix e same is = record { same = sym (ap (λ p. take (length p) text) e) ∙ same ∙ e; is = is ∙ ap (λ p. drop (length p) text) e }

pub text_is : (text symbols : Text) → Behind text symbols → text ≡ codes "sha2:" ++ symbols
text_is text symbols b = sym (take-append-drop 5 text) ∙ (λ i. b.same i ++ sym b.is i)

-- the symbols of any digest that the text spells
pub symbols_are : (text symbols : Text) (d : Digest) → Behind text symbols → SpellsDigest text d → symbols ≡ encode_of standard d
symbols_are text symbols d b s = append_cancel_left (codes "sha2:") symbols (encode_of standard d) (sym (text_is text symbols b) ∙ s.text_is)

pub decodes : (text symbols : Text) (d : Digest) → Behind text symbols → IsDecoded symbols → SpellsDigest text d → decode_of standard symbols ≡ Ok d
decodes text symbols d b iff s = (iff d s.is_digest.bytes).1 (symbols_are text symbols d b s)

same_ok : (a b : Digest) → (let r : Result (List ℕ) DecodeError = Ok a in r) ≡ Ok b → a ≡ b
same_ok a b e = cc

-- what does not decode
pub none-failed : (text symbols : Text) → Behind text symbols → IsDecoded symbols → (e : DecodeError) → decode_of standard symbols ≡ Err e → (d : Digest) → ¬ SpellsDigest text d
none-failed text symbols b iff e failed d s = let ok = decodes text symbols d b iff s in cc

-- bytes that were decoded, and whether there are 32
module _ (text symbols bytes : Text) (b : Behind text symbols) (iff : IsDecoded symbols) (all : IsBytes bytes) (ok : decode_of standard symbols ≡ Ok bytes) where
  pub only_digest : (d : Digest) → SpellsDigest text d → d ≡ bytes
  only_digest d s = same_ok d bytes (sym (decodes text symbols d b iff s) ∙ ok)

  pub SpellsDigest-decoded : (read : Option Digest) → SomeIff read (length bytes ≡ 32) bytes → IfSome read (λ d. SpellsDigest text d)
  SpellsDigest-decoded None none = tt
  SpellsDigest-decoded (Some d) some = record {
    is_digest = subst IsDigest (sym some.1) (record { length_is = some.0; bytes = all });
    text_is = text_is text symbols b ∙ ap (λ t. codes "sha2:" ++ t) ((iff bytes all).0 ok) ∙ ap checksum (sym some.1);
  }

  pub only-decoded : (read : Option Digest) → SomeIff read (length bytes ≡ 32) bytes → IfSome read (λ d. (other : Digest) → SpellsDigest text other → other ≡ d)
  only-decoded None none = tt
  only-decoded (Some d) some = λ other s. only_digest other s ∙ sym some.1

  pub none-decoded : (read : Option Digest) → SomeIff read (length bytes ≡ 32) bytes → IfNone read ((d : Digest) → ¬ SpellsDigest text d)
  none-decoded None none = λ d s. none (ap length (sym (only_digest d s)) ∙ s.is_digest.length_is)
  none-decoded (Some d) some = tt
