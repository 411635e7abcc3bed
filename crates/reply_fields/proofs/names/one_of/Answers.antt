use Rattle.std.proofs.Common.{◌<◌, ◌-◌, length, take, drop, map, sym, ap, ◌∙◌, subst, arith, inl, inr, []}
use Rattle.std.proofs.lemmas.List.{take_rest, get_or-map, length-map}
use Rattle.reply_fields.specs.Fronts.{IsNoFieldFront}
use Rattle.reply_fields.specs.Spelled.{IsNameOf, SharesFirst}
use Rattle.reply_fields.proofs.NameReading.{Tried-start, Tried-more, IsNoFieldFront-tried}
use Rattle.reply_fields.proofs.Codes.{IsUnreadField-at}
use Rattle.reply_fields.proofs.names.one_of.Goals as goal
use Rattle.reply_fields.proofs.names.one_of.Goals.{then-shared-furthest, else-shared-furthest}

pub loop-index-init : goal.loop-index-init
loop-index-init c = Tried-start (take (length c.args.text.now - c.args.at) (drop c.args.at c.args.text.now)) (map (λ name. name.now) c.args.names.now) (omega (arith, c.requires.some, length-map c.args.names.now (λ name. name.now)))

pub loop-index-preserved : goal.loop-index-preserved
loop-index-preserved c =
    let rest = take (length c.args.text.now - c.args.at) (drop c.args.at c.args.text.now) in
    let names = map (λ name. name.now) c.args.names.now in
    let i = c.loop-index.index in
    let n = c.shared_len-shared.result in
    let within : i < length names = omega (arith, c.loop-index-test.true, length-map c.args.names.now (λ name. name.now)) in
    let is = get_or-map (λ name. name.now) c.args.names.now i _ [] c.loop-index-test.true in
    let shares = subst (λ t. SharesFirst rest t n) (sym is) c.shared_len-shared.ensures in
    Tried-more rest names i c.loop-index.furthest c.if-shared-furthest.furthest n within c.loop-index.invariant shares (λ e. c.if-shared-name.false (e ∙ ap length is))
    (elim c.if-shared-furthest.branch [
      | then-shared-furthest w ↦ inr (w.if-shared-furthest.true, w.furthest-is)
      | else-shared-furthest w ↦ inl (w.if-shared-furthest.false, w.furthest-is)
    ])

pub returns : goal.returns
returns c =
    let names = map (λ name. name.now) c.args.names.now in
    IsUnreadField-at (IsNameOf names) c.args.text.now c.args.at c.loop-index.furthest
    (subst (λ t. IsNoFieldFront (IsNameOf names) t c.loop-index.furthest) (take_rest c.args.text.now c.args.at)
    (IsNoFieldFront-tried (take (length c.args.text.now - c.args.at) (drop c.args.at c.args.text.now)) names c.loop-index.index c.loop-index.furthest (omega (arith, c.loop-index-test.false, length-map c.args.names.now (λ name. name.now))) c.loop-index.invariant))
