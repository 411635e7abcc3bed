use Rattle.std.proofs.Common.{◌≡◌, ℕ, ◌+◌, List, ◌++◌, ◌∷◌, [], map, length, Err, arith, sym, ap, ◌∙◌, IsTrue, subst}
use Rattle.std.proofs.lemmas.List.{map_push}
use Rattle.std.proofs.lemmas.Result.{err_from_is_err_and}
use Rattle.frame_log.specs.Blocks.{HasOf}
use Rattle.frame_log.specs.declared.error.LogError.TheVariants.{NotALog}
use Rattle.frame_log.specs.declared.records.Record.{Record}
use Rattle.frame_log.specs.Extent.{placed, bodies}
use Rattle.frame_log.specs.Log.{frames}
use Rattle.frame_log.specs.Records.{placed_body}
use Rattle.frame_log.specs.Steps.{IsRecordAt, IsFront, BreaksAt}
use Rattle.frame_log.proofs.Frames.{front_more, front_breaks, places_more}
use Rattle.frame_log.proofs.Looking.{looks_on, before_look, at_some, passed_on}
use Rattle.frame_log.proofs.opening.read_records.Goals as goal

pub returns-in_err-found-clause-broken : goal.returns-in_err-found-clause-broken
returns-in_err-found-clause-broken g c at is tells =
    let p = err_from_is_err_and c.from_residual-in_err-found.result c.from_residual-in_err-found.ensures.1 in
    let same : c.in_err-found.field-0.0 ≡ NotALog at = passed_on c.from_residual-in_err-found.result p.0 _ _ p.1 p.2 is in
    let seen = g.D.Disk.disk c.loop-records.disk in
    let before = bodies (map placed_body c.loop-records.records.items) in
    let P : List ℕ → Type 0 = λ b. BreaksAt before c.loop-records.gate at b in
    let here : IsTrue seen.tells → BreaksAt before c.loop-records.gate at seen.holds = λ told. c.in_err-found.ensures.broken at (ap Err same) told before in
    front_breaks c.args.base c.loop-records.gate at before _ (c.loop-records.invariant.front tells) (before_look P (g.D.Disk.disk c.args.disk.now) seen c.loop-records.invariant.looks here tells)

pub loop-records-preserved : goal.loop-records-preserved
loop-records-preserved g c =
    let inv = c.loop-records.invariant in
    let old = map placed_body c.loop-records.records.items in
    let found = c.in-Some.found in
    let next = c.in-Some.found.place + c.len-in-Some.result in
    let seen = g.D.Disk.disk c.loop-records.disk in
    let pairs : map placed_body c.push.new.self.items ≡ old ++ placed_body found ∷ [] = ap (map placed_body) c.in_ok-push.ensures.items ∙ map_push placed_body c.loop-records.records.items found in
    let AtPlace : Record → Type 0 = λ r. r.place ≡ c.loop-records.gate + 9 in
    let AtGate : Record → Type 0 = λ r. IsTrue seen.tells → IsRecordAt c.loop-records.gate r.body.items seen.holds in
    let place = at_some AtPlace found c.in-Some.is c.in_ok-found.ensures.place in
    let here = at_some AtGate found c.in-Some.is c.in_ok-found.ensures.opened in
    let next_is : next ≡ c.loop-records.gate + 9 + length found.body.items = omega (arith, place, c.len-in-Some.ensures) in
    let P : List (ℕ × List ℕ) → Type 0 = λ l. (next ≡ c.args.base + length (frames (bodies l))) × (l ≡ placed c.args.base (bodies l)) in
    let placed_so = subst P (sym pairs) (places_more c.args.base c.loop-records.gate found.place next old found.body.items inv.gate inv.places place next_is) in
    record {
      sound = c.in_ok-found.ensures.sound;
      has = before_look (λ b. HasOf b c.read_record.new.reader) (g.D.Disk.disk c.args.disk.now) seen inv.looks c.in_ok-found.ensures.has;
      gate = placed_so.0;
      places = placed_so.1;
      front = λ tells.
          let Q : List (List ℕ) → Type 0 = λ l. IsFront c.args.base next l (g.D.Disk.disk c.args.disk.now).holds in
          let at_gate = before_look (λ b. IsRecordAt c.loop-records.gate found.body.items b) (g.D.Disk.disk c.args.disk.now) seen inv.looks here tells in
          let all = ap bodies pairs ∙ map_push (λ (r : ℕ × List ℕ). r.1) old (placed_body found) in
          subst Q (sym all) (front_more c.args.base c.loop-records.gate next (bodies old) found.body.items _ (inv.front tells) at_gate next_is);
      looks = looks_on _ _ _ inv.looks c.read_record.ensures.looks;
      later = omega (arith, inv.later, c.read_record.ensures.later);
      end = inv.end;
    }
