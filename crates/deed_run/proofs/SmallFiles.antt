-- The files that a put writes and a get sends over a grid within the limits.
use Rattle.std.proofs.Common.{ℕ, ◌^◌, ◌≤◌, length, Option, arith}
use Rattle.grid_model.specs.Names.{Text, Path}
use Rattle.grid_model.specs.Limits.{object_size}
use Rattle.grid_model.specs.Rows.{Cat}
use Rattle.grid_model.specs.RowGrids.{grid_of}
use Rattle.grid_model.specs.Applying.{IsMade}
use Rattle.grid_model.specs.Deeds.{deed}
use Rattle.grid_model.specs.Operations.Objects.{put_row}
use Rattle.grid_model.specs.declared.grid.Mode.{Mode}
use Rattle.grid_model.specs.declared.plans.OldFile.{OldFile}
use Rattle.grid_model.specs.declared.plans.Plan.{Plan}
use Rattle.grid_deed.specs.Deeds.{moments_for}
use Rattle.grid_headline.specs.Numbers.{leaf_count}
use Rattle.plan_object.specs.Sending.{Sends}
use Rattle.plan_object.specs.Writing.{WritesFiles}
use Rattle.size_laws.specs.Within.{IsWithin, TakesAtMost}
use Rattle.size_laws.proofs.Moments.{files_take}
use Rattle.size_laws.proofs.SmallRows.{bodies_are_small, sources_are_small}

-- how many moments a put takes that is not refused
pub put_takes : (c : Cat) → IsMade c → (user : Text) (p : Path) (r : Text) (mode : Mode) (body : Text) (word now : ℕ) (plan : Plan)
    → WritesFiles c (put_row (grid_of c) user p r mode body) word now body plan → length plan.files ≤ leaf_count c
    → moments_for plan.files body ≤ 2 ^ 65 → (each : ℕ) → TakesAtMost (grid_of c) each → moments_for plan.files body ≤ each
put_takes c made user p r mode body word now plan w some most each takes =
    files_take c (length plan.files) (length body) each made most some
    (λ within. (bodies_are_small (grid_of c) user p r mode body (deed w.of)).0 w.row_is) takes

-- the file that a get sends is no larger than an object may be
pub sent_small : (c : Cat) (user : Text) (p : Path) (asked : Option Text) (file : OldFile) → Sends c user p asked file → IsWithin (grid_of c)
    → file.size ≤ object_size
sent_small c user p asked file s within = omega (arith, sources_are_small (grid_of c) user p asked s.from within s.is, s.size)
