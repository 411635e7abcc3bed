-- What a stop may leave of a sink is what stands there for sure and a first part of what is being put.
use Rattle.std.proofs.Common.{◌≡◌, ◌↔◌, ℕ, Bool, true, false, Vec, List, [], ◌++◌, arith, refl, sym, ap, subst, ◌∙◌}
use Rattle.std.proofs.lemmas.List.{append-nil, take_all}
use Rattle.std.specs.declared.alloc.Global.{Global}
use Rattle.grid_outside.specs.Sink.{AddsPart}
use Rattle.grid_mem.specs.declared.mem_sink.MemSink.{MemSink}
use Rattle.grid_mem.specs.SinkCalls.{Putting, sink_kind, sink_after, putting_after, putting_at, MayStand}
use Rattle.grid_mem.specs.SinkLaws.{sink_laws}
use Rattle.grid_mem.specs.MemSink.{sink_of, sink_history}
use Rattle.grid_mem.proofs.Knowing.{left_is_known}

-- what a step leads to from an image that was allowed
abbrev pub Steps : Bool → List ℕ → Vec ℕ Global → Bool → Putting → List ℕ → Type 0
Steps over held put done u image = (before : List ℕ) × MayStand u before × AddsPart put.items before image × (over ≡ true → image ≡ sink_after held put done)

-- nothing is being put
record IsStill (u : Putting) (held : List ℕ) : Type 0 where
  same : u.held ≡ held
  none : u.bytes ≡ []

no_part : (held image : List ℕ) → AddsPart [] held image → image ≡ held
no_part held image part = part.is ∙ ap (λ (xs : List ℕ). held ++ xs) (take_all part.count [] (omega arith)) ∙ append-nil held

some_part : (held image : List ℕ) → image ≡ held → AddsPart [] held image
some_part held image is = record { count = 0; within = omega arith; is = is ∙ sym (append-nil held) }

still_stands : (u : Putting) (held : List ℕ) → IsStill u held → MayStand u held
still_stands u held still = subst (λ (xs : List ℕ). AddsPart xs u.held held) (sym still.none) (some_part u.held held (sym still.same))

stands_still : (u : Putting) (held image : List ℕ) → IsStill u held → MayStand u image → image ≡ held
stands_still u held image still stands = no_part u.held image (subst (λ (xs : List ℕ). AddsPart xs u.held image) still.none stands) ∙ still.same

sink_step : (over : Bool) (held : List ℕ) (put : Vec ℕ Global) (done : Bool) (u : Putting) → IsStill u held → (image : List ℕ) → Steps over held put done u image ↔ MayStand (putting_after over held put done u) image
sink_step true held put done u still image = (
  (λ step. some_part (sink_after held put done) image (step.3 refl)),
  (λ stands.
      let is = no_part (sink_after held put done) image stands in
      (held, still_stands u held still, subst (AddsPart put.items held) (sym is) (sink_laws.may put done held refl), λ over. is)),
)
sink_step false held put done u still image = (
  (λ step. subst (λ (xs : List ℕ). AddsPart put.items xs image) (stands_still u held step.0 still step.1) step.2),
  (λ stands. (held, still_stands u held still, stands, λ over. absurd (cc over))),
)

pub sink_leaves : (s : MemSink) (t : ℕ) (image : List ℕ) → (sink_of s).left t image ↔ MayStand (putting_at t (sink_history s)) image
unfolding sink_of
sink_leaves s t image =
    left_is_known sink_kind (λ over bytes call. putting_after over bytes call.deed call.done) MayStand IsStill
    (λ over held call u still fits image. sink_step over held call.deed call.done u still image)
    (λ held call u still fits. record { same = refl; none = refl })
    t 0 s.last (record { held = s.start.items; bytes = [] }) (λ x. x ≡ s.start.items) s.start.items s.calls.items s.valid (record { same = refl; none = refl })
    (λ x. ((λ is. some_part s.start.items x is), (λ stands. no_part s.start.items x stands))) image
