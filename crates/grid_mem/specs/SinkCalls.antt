-- The calls of a sink in memory: what they do to what is held, and what a stop may leave of them. A deed is the bytes
-- that were put.
use Rattle.std.specs.Prelude.{◌≡◌, ◌⊎◌, ℕ, ◌/◌, Bool, true, false, List, [], ◌++◌, length, take, Vec}
use Rattle.std.specs.declared.alloc.Global.{Global}
use Rattle.grid_outside.specs.Sink.{AddsPart}
use Rattle.grid_mem.specs.Calls.{History, Kind, known_at}

-- a put that failed added the first half, rounded down
abbrev pub sink_after : List ℕ → Vec ℕ Global → Bool → List ℕ
sink_after bytes put true = bytes ++ put.items
sink_after bytes put false = bytes ++ take (length put.items / 2) put.items

-- a put that failed added the first half of these bytes, or none for want of memory
abbrev pub AddsHalf : List ℕ → List ℕ → List ℕ → Type 0
AddsHalf bytes old new = (new ≡ old ++ take (length bytes / 2) bytes) ⊎ (new ≡ old)

-- a sink as a kind of device
abbrev pub sink_kind : Kind (Vec ℕ Global) (List ℕ)
sink_kind = record {
  after = sink_after;
  fits = λ bytes put done. true;
  May = λ put. AddsPart put.items;
  Sure = λ put done bytes image. image ≡ bytes;
}

-- what stands in a sink for sure, and what is being put there
pub record Putting : Type 0 where
  pub held : List ℕ
  pub bytes : List ℕ

-- a stop may leave what stands there, with a first part of what is being put
abbrev pub MayStand : Putting → List ℕ → Type 0
MayStand u image = AddsPart u.bytes u.held image

-- At a put's own moment its bytes are being put. Once it is over nothing is, and what it added stands there.
abbrev pub putting_after : Bool → List ℕ → Vec ℕ Global → Bool → Putting → Putting
putting_after true bytes put done u = record { held = sink_after bytes put done; bytes = [] }
putting_after false bytes put done u = record { held = bytes; bytes = put.items }

-- What is being put at the moment, to a sink with this history.
abbrev pub putting_at : ℕ → History (Vec ℕ Global) (List ℕ) → Putting
putting_at moment history =
    known_at sink_kind (λ over bytes call. putting_after over bytes call.deed call.done) moment history.start history.calls
    (record { held = history.start; bytes = [] })
