use Rattle.std.proofs.Common.{◌≡◌, ◌<◌, ◌≤◌, true, cond, [], ◌∷◌, ◌++◌, length, sym, ap, ◌∙◌, subst, arith}
use Rattle.std.specs.Prelude.{is_ok}
use Rattle.reply_fields.specs.Fronts.{IsRead}
use Rattle.reply_fields.specs.Spelled.{IsEndedWord}
use Rattle.reply_fields.proofs.ListReading.{GoesOnWith-more, last_word_read, unread_word, word_forward, only_space}
use Rattle.reply_fields.proofs.lists.words.Goals as goal

pub returns-in-Err : goal.returns-in-Err
returns-in-Err c = unread_word c.args.text.now c.args.at c.loop-read.place c.loop-read.words.items c.in-Err.error c.loop-read.invariant c.in-Err.ensures

pub returns-then-end-eq10 : goal.returns-then-end-eq10
returns-then-end-eq10 c =
    let text = c.args.text.now in
    let r = c.in-Ok.read in
    let acc = c.loop-read.words.items in
    let ok : is_ok c.push.result ≡ true = sym c.map_err.ensures.variant ∙ ap is_ok c.in_ok-map_err.was in
    let grown : c.push.new.self.items ≡ acc ++ r.0.0 ∷ [] = c.push.ensures.items ∙ ap (λ b. cond b (acc ++ r.0.0 ∷ []) acc) ok in
    last_word_read text c.args.at c.loop-read.place r.1 acc c.from_vec.result r.0.0 c.loop-read.invariant
    (subst (λ b. IsRead (IsEndedWord (0x20 ∷ 0x0A ∷ [])) text c.loop-read.place (r.0.0, b) r.1) c.if-end-eq10.true c.in-Ok.ensures) (c.from_vec.ensures ∙ grown)

pub loop-read-smaller : goal.loop-read-smaller
loop-read-smaller c =
    let forward : c.loop-read.place < c.in-Ok.read.1 = word_forward c.args.text.now c.loop-read.place c.in-Ok.read.1 c.in-Ok.read.0 c.in-Ok.ensures in
    let within : c.in-Ok.read.1 ≤ length c.args.text.now = c.in-Ok.ensures.within in
    omega (arith, forward, within)

pub loop-read-preserved : goal.loop-read-preserved
loop-read-preserved c =
    let text = c.args.text.now in
    let r = c.in-Ok.read in
    let acc = c.loop-read.words.items in
    let ok : is_ok c.push.result ≡ true = sym c.map_err.ensures.variant ∙ ap is_ok c.in_ok-map_err.was in
    let grown : c.push.new.self.items ≡ acc ++ r.0.0 ∷ [] = c.push.ensures.items ∙ ap (λ b. cond b (acc ++ r.0.0 ∷ []) acc) ok in
    let space : r.0.1 ≡ 0x20 = only_space text c.loop-read.place r.1 r.0 c.in-Ok.ensures c.if-end-eq10.false in
    GoesOnWith-more text c.args.at c.loop-read.place r.1 acc c.push.new.self.items r.0.0 c.loop-read.invariant
    (subst (λ b. IsRead (IsEndedWord (0x20 ∷ 0x0A ∷ [])) text c.loop-read.place (r.0.0, b) r.1) space c.in-Ok.ensures) grown
