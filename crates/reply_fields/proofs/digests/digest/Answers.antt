use Rattle.std.proofs.Common.{◌≡◌, ◌-◌, ◌+◌, length, take, drop, refl, ap, subst, arith}
use Rattle.grid_model.specs.Digests.{Digest, SpellsDigest}
use Rattle.reply_fields.proofs.Codes.{IsUnreadField-rest, IsRead-rest}
use Rattle.reply_fields.proofs.DigestFronts.{IsNoFieldFront-digest, IsFieldFront-digest, some_digest_there}
use Rattle.reply_fields.proofs.digests.digest.Goals as goal

pub returns-then-len-lt-PRINTED_LEN : goal.returns-then-len-lt-PRINTED_LEN
returns-then-len-lt-PRINTED_LEN c =
    let text = c.args.text.now in
    let rest = take (length text - c.args.at) (drop c.args.at text) in
    let n = c.digest_len-len.result in
    IsUnreadField-rest SpellsDigest text c.args.at n (c.args.at + n) refl (IsNoFieldFront-digest rest n c.digest_len-len.ensures c.if-len-lt-PRINTED_LEN.true)

pub returns-in-Some : goal.returns-in-Some
returns-in-Some c =
    let text = c.args.text.now in
    let rest = take (length text - c.args.at) (drop c.args.at text) in
    let n = c.digest_len-len.result in
    let f = c.digest_len-len.ensures in
    let all : n ≡ 49 = omega (arith, f.most, c.if-len-lt-PRINTED_LEN.false) in
    let front : take n rest ≡ take 49 rest = ap (λ k. take k rest) all in
    let spells : SpellsDigest (take n rest) c.in-Some.digest = rw c.in-Some.is at c.in_ok-digest.ensures.digest in
    IsRead-rest SpellsDigest text c.args.at 49 (c.args.at + n) c.in-Some.digest c.requires (omega (arith, f.within, all)) (omega (arith, all)) (IsFieldFront-digest rest c.in-Some.digest (subst (λ t. SpellsDigest t c.in-Some.digest) front spells))

pub returns-in-None : goal.returns-in-None
returns-in-None c =
    let text = c.args.text.now in
    let rest = take (length text - c.args.at) (drop c.args.at text) in
    let n = c.digest_len-len.result in
    let f = c.digest_len-len.ensures in
    let all : n ≡ 49 = omega (arith, f.most, c.if-len-lt-PRINTED_LEN.false) in
    let front : take n rest ≡ take 49 rest = ap (λ k. take k rest) all in
    let none : (d : Digest) → ¬ SpellsDigest (take n rest) d = rw c.in-None.is at c.in_ok-digest.ensures.none in
    absurd (some_digest_there rest n f (omega (arith, all)) (λ d. subst (λ t. ¬ SpellsDigest t d) front (none d)))
