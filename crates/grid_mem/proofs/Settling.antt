-- Nothing is pending in a sink in memory.
use Rattle.std.proofs.Common.{◌≡◌, ℕ, ◌<◌, true, Vec, List, [], ◌∷◌, arith, sym, ◌∙◌}
use Rattle.std.specs.declared.alloc.Global.{Global}
use Rattle.grid_outside.specs.Device.{IsSettled}
use Rattle.grid_mem.specs.declared.call.Call.{Call}
use Rattle.grid_mem.specs.declared.mem_sink.MemSink.{MemSink}
use Rattle.grid_mem.specs.Calls.{held, held_after, is_record, Left, LeftAfter}
use Rattle.grid_mem.specs.CallLaws.{first_of_all}
use Rattle.grid_mem.specs.MemSink.{sink_of}
use Rattle.grid_mem.specs.SinkCalls.{sink_kind}

settled_from : (t before last : ℕ) (P : List ℕ → Type 0) (c : List ℕ) (calls : List (Call (Vec ℕ Global))) → last < t → is_record sink_kind before last c calls ≡ true → ((x : List ℕ) → P x → x ≡ c)
    → (image : List ℕ) → Left sink_kind t P c calls image → image ≡ held sink_kind c calls
settled_from t before last P c [] after is so image left = so image left
settled_from t before last P c (call ∷ calls) after is so image left =
    let one = first_of_all sink_kind before last c call calls is in
    settled_from t call.moment last (LeftAfter sink_kind t P c call) (held_after sink_kind c call) calls after one.others
    (λ x step. (step.1 (omega (arith, one.within, after))).3 (omega (arith, one.within, after))) image left

pub sink_settled : (s : MemSink) → IsSettled (sink_of s)
unfolding sink_of
sink_settled s t image after left = settled_from t 0 s.last (λ x. x ≡ s.start.items) s.start.items s.calls.items after s.valid (λ x e. e) image left ∙ sym s.same
