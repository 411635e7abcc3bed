-- What a put does is what it may do. Proofs, which what a sink means carries with it.
use Rattle.std.proofs.Common.{ℕ, ◌/◌, ◌≤◌, Bool, true, false, Vec, List, ◌++◌, length, arith, refl, sym, ap}
use Rattle.std.proofs.Math.Seq.{take-length}
use Rattle.std.proofs.lemmas.List.{append-nil}
use Rattle.std.specs.declared.alloc.Global.{Global}
use Rattle.grid_outside.specs.Sink.{AddsPart}
use Rattle.grid_mem.specs.SinkCalls.{sink_kind, sink_after}
use Rattle.grid_mem.specs.CallLaws.{Laws}

half : (n : ℕ) → n / 2 ≤ n
half n = omega arith

pub adds_nothing : (put bytes : List ℕ) → AddsPart put bytes bytes
adds_nothing put bytes = record { count = 0; within = omega arith; is = sym (append-nil bytes) }

sink_may : (put : Vec ℕ Global) (done : Bool) (bytes : List ℕ) → AddsPart put.items bytes (sink_after bytes put done)
sink_may put true bytes = record { count = length put.items; within = omega arith; is = ap (λ xs. bytes ++ xs) (sym (take-length put.items)) }
sink_may put false bytes = record { count = length put.items / 2; within = half (length put.items); is = refl }

pub sink_laws : Laws sink_kind
sink_laws = record { may = λ put done bytes fits. sink_may put done bytes; sure = λ put done bytes. refl }
