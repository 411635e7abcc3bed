-- What was read of an input, call by call, and how it ends.
use Rattle.std.proofs.Common.{◌≡◌, ◌+◌, ◌^◌, ◌<◌, ◌≤◌, true, false, Bool, List, [], ◌∷◌, ◌++◌, length, take, IsTrue, arith, sym, subst, ap, ◌∙◌, append_assoc, length-append}
use Rattle.std.proofs.lemmas.List.{append-nil, take_at, take_all}
use Rattle.grid_outside.specs.Source.{SourceState}
use Rattle.grid_model.specs.Names.{Text}
use Rattle.grid_model.specs.Inputs.{Asked, Takes, none_taken, takes_one, takes_blank, AreRequests}
use Rattle.req_lines.specs.Reading.{Input, Reader, input}
use Rattle.req_lines.specs.Hearing.{ahead, GoesOver, IsAtEnd, IsOneRequest, Hears, HearsNone, GoesOn, BreaksOff}
use Rattle.req_lines.specs.Progress.{HasHeard, HeardAll, HeardPart, HeardMost, HeardWithin}
use Rattle.req_lines.specs.declared.requests.Heard.{Heard}
use Rattle.req_lines.proofs.InputLemmas.{Takes-more, Takes-join, takes_of}

-- before the first call
pub heard_nothing : (from : SourceState) (reader : Reader) → reader.unread ≡ [] → reader.taken ≡ 0 → HasHeard from (input reader from) []
heard_nothing from reader unread taken = record {
  front = [];
  split = sym (ap (λ (t : Text). t ++ from.left) unread);
  count = omega (arith, taken, ap length unread);
  takes = none_taken;
}

-- ---- the requests are the first ones

pub heard_first : (from : SourceState) (now : Input) (asked : List Asked) → HasHeard from now asked → Takes from.left asked (ahead now)
heard_first from now asked so_far = takes_of from.left so_far.front (ahead now) asked so_far.split so_far.takes

pub heard_within : (from : SourceState) (now : Input) (asked : List Asked) → HasHeard from now asked → now.reader.taken ≤ 2 ^ 48 → HeardWithin from now.source asked
heard_within from now asked so_far most =
    let unread = now.reader.unread in
    let size : length (so_far.front ++ unread) ≤ 2 ^ 48 = omega (arith, most, so_far.count, length-append so_far.front unread) in
    record {
      taken = so_far.front ++ unread;
      split = so_far.split ∙ sym (append_assoc so_far.front unread now.source.left);
      most = size;
      left = unread;
      takes = takes_of (take (2 ^ 48) (so_far.front ++ unread)) so_far.front unread asked (take_all (2 ^ 48) (so_far.front ++ unread) size) so_far.takes;
    }

-- ---- one call more

-- a call goes ahead in the input
pub heard_ahead : (old new : Input) (heard : Heard) (hears : Hears old new heard) → heard.ends ≡ false → old.reader.taken + length new.reader.unread < new.reader.taken + length old.reader.unread
heard_ahead old new heard hears goes_on =
    let takes = subst (λ (b : Bool). IsOneRequest b hears.bytes hears.asked new) goes_on hears.is_next in
    omega (arith, hears.over.count, one_byte takes)
  where
    one_byte : {bytes left : Text} {asked : Asked} → Takes bytes (asked ∷ []) left → 0 < length bytes
    one_byte (takes_one {rest = rest} line body e is words has more) = omega (arith, ap length e, length-append (line ++ 0x0A ∷ body) rest, length-append line (10 ∷ body))
    one_byte (takes_blank {rest = rest} line e is blank more) = omega (arith, ap length e, length-append line (10 ∷ rest))

module _ (from : SourceState) (old : Input) (asked : List Asked) (so_far : HasHeard from old asked) where
  -- what is left, with what was gone over
  over_split : (bytes behind : Text) → ahead old ≡ bytes ++ behind → from.left ≡ (so_far.front ++ bytes) ++ behind
  over_split bytes behind split = so_far.split ∙ ap (λ (t : Text). so_far.front ++ t) split ∙ sym (append_assoc so_far.front bytes behind)

  -- what is taken of the bytes behind is taken of all
  taken_behind : (bytes left : Text) (more : List Asked) → Takes bytes more left → Takes (so_far.front ++ bytes) (asked ++ more) left
  taken_behind bytes left more takes = Takes-join (Takes-more bytes so_far.takes) takes

  -- the same, where no request is
  none_behind : (bytes left : Text) → Takes bytes [] left → Takes (so_far.front ++ bytes) asked left
  none_behind bytes left none = subst (λ (a : List Asked). Takes (so_far.front ++ bytes) a left) (append-nil asked) (taken_behind bytes left [] none)

  all_behind : (bytes : Text) (more : List Asked) → AreRequests bytes more → AreRequests (so_far.front ++ bytes) (asked ++ more)
  all_behind bytes more are = record {
    whole = asked ++ are.whole;
    left = are.left;
    last = are.last;
    takes = taken_behind bytes are.left are.whole are.takes;
    ends = are.ends;
    are = ap (λ (a : List Asked). asked ++ a) are.are ∙ sym (append_assoc asked are.whole are.last);
  }

  module _ (new : Input) where
    -- a request of which the input has more behind it
    pub heard_more : (heard : Heard) → IsTrue old.source.tells → (hears : Hears old new heard) → heard.ends ≡ false → HasHeard from new (asked ++ hears.asked ∷ [])
    heard_more heard told hears goes_on =
        let takes = subst (λ (b : Bool). IsOneRequest b hears.bytes hears.asked new) goes_on hears.is_next in
        record {
          front = so_far.front ++ hears.bytes;
          split = over_split hears.bytes (ahead new) (hears.over.split told);
          count = omega (arith, so_far.count, hears.over.count, length-append so_far.front hears.bytes);
          takes = taken_behind hears.bytes [] (hears.asked ∷ []) takes;
        }

    -- all bytes were gone over
    ends_all : (bytes : Text) (more : List Asked) → IsTrue old.source.tells → IsTrue new.source.tells → GoesOver old new bytes → IsAtEnd new → AreRequests bytes more → HeardAll from new.source (asked ++ more)
    ends_all bytes more told still over ended are =
        let none : ahead new ≡ [] = ap (λ (t : Text). t ++ new.source.left) ended.unread ∙ ended.left still in
        let split : from.left ≡ so_far.front ++ bytes = over_split bytes [] (over.split told ∙ ap (λ (t : Text). bytes ++ t) none) ∙ append-nil (so_far.front ++ bytes) in
        record {
          fits = omega (arith, ap length split, length-append so_far.front bytes, so_far.count, over.count, over.most, ap length ended.unread);
          are = subst (λ (t : Text). AreRequests t (asked ++ more)) (sym split) (all_behind bytes more are);
          all = ended.left still;
        }

    -- a request with which the input has ended
    pub heard_last : (heard : Heard) → IsTrue old.source.tells → IsTrue new.source.tells → (hears : Hears old new heard) → heard.ends ≡ true → HeardAll from new.source (asked ++ hears.asked ∷ [])
    heard_last heard told still hears over =
        let is = subst (λ (b : Bool). IsOneRequest b hears.bytes hears.asked new) over hears.is_next in
        ends_all hears.bytes (hears.asked ∷ []) told still hears.over is.1 is.0

    -- the input has no more
    pub heard_none : IsTrue old.source.tells → IsTrue new.source.tells → HearsNone old new → HeardAll from new.source asked
    heard_none told still none = subst (λ (a : List Asked). HeardAll from new.source a) (append-nil asked) (ends_all none.bytes [] told still none.over none.ended none.none)

    -- it goes on past the bytes that are read
    pub heard_most : IsTrue old.source.tells → GoesOn old new → HeardMost from new.source asked
    heard_most told goes =
        let front = so_far.front ++ goes.bytes in
        let size : length front ≡ 2 ^ 48 = omega (arith, so_far.count, goes.full, length-append so_far.front goes.bytes) in
        record {
          taken = front ++ goes.byte ∷ [];
          split = over_split goes.bytes (goes.byte ∷ new.source.left) (goes.split told) ∙ sym (append_assoc front (goes.byte ∷ []) new.source.left);
          size = omega (arith, size, length-append front (goes.byte ∷ []));
          left = goes.left;
          takes = subst (λ (t : Text). Takes t asked goes.left) (sym (take_at front (goes.byte ∷ []) (2 ^ 48) size)) (none_behind goes.bytes goes.left goes.none);
          part = goes.part;
        }

  -- the source failed
  pub heard_part : (to : SourceState) → IsTrue old.source.tells → BreaksOff old to → HeardPart from to asked
  heard_part to told breaks = record {
    taken = so_far.front ++ breaks.bytes;
    split = over_split breaks.bytes to.left (breaks.split told);
    most = omega (arith, so_far.count, breaks.within, length-append so_far.front breaks.bytes);
    left = breaks.left;
    takes = none_behind breaks.bytes breaks.left breaks.none;
    part = breaks.part;
  }
