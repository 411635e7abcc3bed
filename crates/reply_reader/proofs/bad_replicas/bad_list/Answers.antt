use Rattle.std.proofs.Common.{◌≡◌, true, cond, [], ◌∷◌, ◌++◌, sym, ap, ◌∙◌, subst, arith, inl, inr}
use Rattle.std.specs.Prelude.{is_ok}
use Rattle.reply_fields.specs.Fronts.{IsRead}
use Rattle.reply_reader.specs.MarkFields.{IsBadList}
use Rattle.reply_reader.proofs.BadLists.{ReadBads-start, ReadBads-more, ReadBads-unread, ReadBads-end, bad_forward}
use Rattle.reply_reader.proofs.bad_replicas.bad_list.Goals as goal

pub loop-end-init : goal.loop-end-init
loop-end-init c = ReadBads-start c.args.before c.args.text.now c.args.at c.new-found.result.items c.requires.before c.requires.place c.new-found.ensures.items

pub returns-in-Err : goal.returns-in-Err
returns-in-Err c = ReadBads-unread c.args.before c.args.text.now c.args.at c.loop-end.found.items c.loop-end.end c.loop-end.place c.in-Err.error c.loop-end.invariant c.loop-end-test.true c.in-Err.ensures

pub loop-end-preserved : goal.loop-end-preserved
loop-end-preserved c =
    let r = c.in-Ok.read in
    let acc = c.loop-end.found.items in
    let ok : is_ok c.push.result ≡ true = sym c.map_err.ensures.variant ∙ ap is_ok c.in_ok-map_err.was in
    let grown : c.push.new.self.items ≡ acc ++ r.0.0 ∷ [] = c.push.ensures.items ∙ ap (λ b. cond b (acc ++ r.0.0 ∷ []) acc) ok in
    ReadBads-more c.args.before c.args.text.now c.args.at acc c.push.new.self.items c.loop-end.end c.loop-end.place r.1 r.0 c.loop-end.invariant c.loop-end-test.true c.in-Ok.ensures grown

pub loop-end-smaller : goal.loop-end-smaller
loop-end-smaller c = omega (arith, bad_forward c.args.text.now c.loop-end.place c.in-Ok.read.1 c.in-Ok.read.0 c.in-Ok.ensures, c.in-Ok.ensures.within)

pub returns : goal.returns
returns c =
    let newline : c.loop-end.end ≡ 0x0A = elim c.loop-end.invariant.either [ inl e ↦ e | inr e ↦ absurd (c.loop-end-test.false e) ] in
    subst (λ found. IsRead (IsBadList c.args.before) c.args.text.now c.args.at found c.loop-end.place) (sym c.from_vec.ensures)
    (ReadBads-end c.args.before c.args.text.now c.args.at c.loop-end.found.items c.loop-end.end c.loop-end.place c.loop-end.invariant newline)
