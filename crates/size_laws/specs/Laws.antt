-- Nothing takes the grid out of the limits, and within them what a deed reads and writes is small.
use Rattle.std.specs.Prelude.{◌≡◌, ℕ, ◌≤◌, List, length, Ok}
use Rattle.std.specs.List.{AllByRecursion}
use Rattle.grid_model.specs.Names.{Text}
use Rattle.grid_model.specs.Grid.{Grid, start_grid}
use Rattle.grid_model.specs.Limits.{object_size}
use Rattle.grid_model.specs.Bounds.{most}
use Rattle.grid_model.specs.Rows.{Cat}
use Rattle.grid_model.specs.RowGrids.{grid_of}
use Rattle.grid_model.specs.Applying.{IsMade}
use Rattle.grid_model.specs.Deeds.{Deed, changes, deed}
use Rattle.grid_model.specs.Operations.Table.{Operation, row}
use Rattle.grid_model.specs.Meanings.{Waiting, waits}
use Rattle.grid_model.specs.Doing.{Course, Did, do_call, do_operation, undo, back}
use Rattle.grid_model.specs.declared.calls.Call.{Call}
use Rattle.grid_model.specs.declared.deltas.ObjectRow.{ObjectRow}
use Rattle.grid_model.specs.declared.deltas.ReplicaRow.{ReplicaRow}
use Rattle.grid_model.specs.declared.marks.BadReplica.{BadReplica}
use Rattle.grid_model.specs.declared.refusal.What.TheVariants.{Resources}
use Rattle.size_laws.specs.Within.{IsWithin, ReadsSmall, EndsWithin}

-- ---- operations

-- what an operation makes of a grid within the limits is within them: at once, or where it is a deed that ran
abbrev pub OperationsKeepWithin : Type 0
OperationsKeepWithin = (g : Grid) (user : Text) (op : Operation) → IsWithin g
    → ((after : Grid) → row g user op ≡ Ok (changes after) → IsWithin after)
    × ((d : Deed) → row g user op ≡ Ok (deed d) → (word now : ℕ) (bad : List BadReplica) → IsWithin (d.ran word now bad))

-- what a deed records and reads there is no larger than an object may be
abbrev pub DeedsAreSmall : Type 0
DeedsAreSmall = (g : Grid) (user : Text) (op : Operation) (d : Deed) → IsWithin g → row g user op ≡ Ok (deed d)
    → (d.size ≤ object_size) × ReadsSmall d.touch

-- ---- calls and recoveries

-- the grid of what a call left
abbrev pub grid_left : Did → Grid
grid_left did = did.state.grid

-- the grid of a course
abbrev pub grid_here : Course → Grid
grid_here s = s.grid

-- a call leaves the grid within the limits
abbrev pub CallsKeepWithin : Type 0
CallsKeepWithin = (user : Text) (c : Call) (s : Course) → IsWithin s.grid → EndsWithin grid_left (do_call user c s)

-- so does an operation that runs as a call
abbrev pub WorkKeepsWithin : Type 0
WorkKeepsWithin = (c : Call) (user : Text) (op : Operation) (s : Course) → IsWithin s.grid → EndsWithin grid_left (do_operation c user op s)

-- where a call waits for a mark, the grid is as it was
abbrev pub CallsWaitAtOnce : Type 0
CallsWaitAtOnce = (user : Text) (c : Call) (s : Course) (w : Waiting) → do_call user c s ≡ waits w → w.grid ≡ s.grid

-- a recovery leaves the grid within the limits
abbrev pub RecoveryKeepsWithin : Type 0
RecoveryKeepsWithin = (user : Text) (c : Call) (s : Course) → IsWithin s.grid → EndsWithin grid_here (undo user c s)

-- so do the recoveries of a list
abbrev pub RecoveriesKeepWithin : Type 0
RecoveriesKeepWithin = (user : Text) (cs : List Call) (s : Course) → IsWithin s.grid → EndsWithin grid_here (back user cs s)

-- ---- rows

-- a catalogue whose grid is within the limits has neither large rows nor too many resources
abbrev pub RowsAreSmall : Type 0
RowsAreSmall = (c : Cat) → IsMade c → IsWithin (grid_of c)
    → AllByRecursion (λ (r : ReplicaRow). r.size ≤ object_size) c.replicas × AllByRecursion (λ (r : ObjectRow). r.size ≤ object_size) c.objects
    × (length c.resources ≤ most Resources)

-- ---- the start

-- a new grid is within the limits
abbrev pub StartIsWithin : Type 0
StartIsWithin = (zone admin : Text) (stores : ℕ) → IsWithin (start_grid zone admin stores)
