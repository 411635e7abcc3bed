-- What was found of the input behind lines without words.
use Rattle.std.proofs.Common.{◌≡◌, ◌^◌, ◌≤◌, Bool, true, false, List, [], ◌∷◌, ◌++◌, IsTrue, arith, refl, sym, subst, ap, ◌∙◌, append_assoc, length-append}
use Rattle.grid_outside.specs.Source.{SourceState}
use Rattle.grid_model.specs.Names.{Text}
use Rattle.grid_model.specs.Inputs.{Asked, Takes, none_taken, AreRequests}
use Rattle.req_lines.specs.Reading.{Input}
use Rattle.req_lines.specs.Hearing.{ahead, IsOneRequest, Skips, BreaksOff, Finds, Stops}
use Rattle.req_lines.specs.declared.requests.Next.{Next}
use Rattle.req_lines.specs.declared.requests.Next.TheVariants as next
use Rattle.req_lines.proofs.InputLemmas.{Takes-more, Takes-join}
use Rattle.req_lines.proofs.FindingLemmas.{over_more}

-- nothing was read yet
pub skips_none : (at : Input) → at.reader.taken ≤ 2 ^ 48 → Skips at at
skips_none at most = record { bytes = []; over = record { split = λ told. refl; count = omega arith; most = most }; none = none_taken }

behind : (front rest left : Text) (asked : List Asked) → Takes front [] [] → Takes rest asked left → Takes (front ++ rest) asked left
behind front rest left asked none takes = Takes-join (Takes-more rest none) takes

all_behind : (front rest : Text) (asked : List Asked) → Takes front [] [] → AreRequests rest asked → AreRequests (front ++ rest) asked
all_behind front rest asked none are = record {
  whole = are.whole;
  left = are.left;
  last = are.last;
  takes = behind front rest are.left are.whole none are.takes;
  ends = are.ends;
  are = are.are;
}

module _ (old mid : Input) (tells : mid.source.tells ≡ old.source.tells) (skips : Skips old mid) where
  pub skips_more : (new : Input) → Skips mid new → Skips old new
  skips_more new more = record {
    bytes = skips.bytes ++ more.bytes;
    over = over_more old mid new skips.bytes more.bytes tells skips.over more.over;
    none = behind skips.bytes more.bytes [] [] skips.none more.none;
  }

  asks_behind : (ends : Bool) (bytes : Text) (asked : Asked) (new : Input) → IsOneRequest ends bytes asked new → IsOneRequest ends (skips.bytes ++ bytes) asked new
  asks_behind false bytes asked new is = behind skips.bytes bytes [] (asked ∷ []) skips.none is
  asks_behind true bytes asked new is = (all_behind skips.bytes bytes (asked ∷ []) skips.none is.0, is.1)

  -- what stood before the reader, with what was read then
  split_behind : (rest last : Text) → (IsTrue mid.source.tells → ahead mid ≡ rest ++ last) → IsTrue old.source.tells → ahead old ≡ (skips.bytes ++ rest) ++ last
  split_behind rest last split told = skips.over.split told ∙ ap (λ (t : Text). skips.bytes ++ t) (split (subst IsTrue (sym tells) told)) ∙ sym (append_assoc skips.bytes rest last)

  pub finds_behind : (new : Input) (n : Next) → Finds mid new n → Finds old new n
  finds_behind new (next.Request heard) hears = record {
    asked = hears.asked;
    bytes = skips.bytes ++ hears.bytes;
    over = over_more old mid new skips.bytes hears.bytes tells skips.over hears.over;
    is_next = asks_behind heard.ends hears.bytes hears.asked new hears.is_next;
    read = hears.read;
    held = hears.held;
    fits = hears.fits;
    keeps = hears.keeps;
  }
  finds_behind new next.End none = record {
    bytes = skips.bytes ++ none.bytes;
    over = over_more old mid new skips.bytes none.bytes tells skips.over none.over;
    none = all_behind skips.bytes none.bytes [] skips.none none.none;
    ended = none.ended;
  }
  finds_behind new next.Long goes = record {
    bytes = skips.bytes ++ goes.bytes;
    byte = goes.byte;
    split = split_behind goes.bytes (goes.byte ∷ new.source.left) goes.split;
    full = omega (arith, skips.over.count, goes.full, length-append skips.bytes goes.bytes);
    left = goes.left;
    none = behind skips.bytes goes.bytes goes.left [] skips.none goes.none;
    part = goes.part;
    taken = goes.taken;
    unread = goes.unread;
  }

  pub stops_behind : (to : SourceState) → Stops mid to → Stops old to
  stops_behind to stops = record {
    bytes = skips.bytes ++ stops.bytes;
    split = split_behind stops.bytes to.left stops.split;
    within = omega (arith, skips.over.count, stops.within, length-append skips.bytes stops.bytes);
  }

  pub breaks_behind : (to : SourceState) → BreaksOff mid to → BreaksOff old to
  breaks_behind to breaks = record {
    bytes = skips.bytes ++ breaks.bytes;
    split = split_behind breaks.bytes to.left breaks.split;
    within = omega (arith, skips.over.count, breaks.within, length-append skips.bytes breaks.bytes);
    left = breaks.left;
    none = behind skips.bytes breaks.bytes breaks.left [] skips.none breaks.none;
    part = breaks.part;
  }
