-- What a deed makes of a grid within the limits, and how many moments it takes.
use Rattle.std.proofs.Common.{◌≡◌, ℕ, ◌^◌, ◌≤◌, false, List, [], Ok, length, refl, sym, subst, arith}
use Rattle.chain_run.specs.Places.{course_at}
use Rattle.grid_model.specs.Names.{Text}
use Rattle.grid_model.specs.Rows.{Cat}
use Rattle.grid_model.specs.RowGrids.{grid_of}
use Rattle.grid_model.specs.Applying.{IsMade}
use Rattle.grid_model.specs.Deeds.{Deed, deed}
use Rattle.grid_model.specs.Doing.{Course, do_call}
use Rattle.grid_model.specs.Operations.Table.{Operation, row}
use Rattle.grid_model.specs.declared.calls.Call.{Call}
use Rattle.grid_model.specs.declared.marks.BadReplica.{BadReplica}
use Rattle.grid_model.specs.declared.plans.OldFile.{OldFile}
use Rattle.grid_model.specs.declared.plans.Plan.{Plan}
use Rattle.grid_deed.specs.Deeds.{moments_of}
use Rattle.grid_headline.specs.Numbers.{leaf_count}
use Rattle.plan_object.specs.ReplPlans.{CopiesFile}
use Rattle.size_laws.specs.Within.{IsWithin, TakesAtMost}
use Rattle.size_laws.proofs.Moments.{files_take}
use Rattle.size_laws.proofs.SmallCalls.{calls_keep_within}
use Rattle.size_laws.proofs.SmallRows.{deeds_are_small, operations_keep_within}
use Rattle.service_run.specs.Changes.{MakesGridOf}

-- ---- grids

-- what a deed that ran makes of the grid of these rows, which is that of others too
pub ran_within : (c before : Cat) (user : Text) (op : Operation) (d : Deed) → grid_of c ≡ grid_of before → row (grid_of c) user op ≡ Ok (deed d)
    → (word now : ℕ) (bad : List BadReplica) → IsWithin (grid_of before) → IsWithin (d.ran word now bad)
ran_within c before user op d same is word now bad within =
    (operations_keep_within (grid_of c) user op (subst IsWithin (sym same) within)).1 d is word now bad

-- what a call of a micro-service makes of it at once
pub call_within : (c after : Cat) (user : Text) (call : Call) → MakesGridOf c after (do_call user call) → IsWithin (grid_of c) → IsWithin (grid_of after)
call_within c after user call makes within =
    let s : Course = course_at (record { user = user; grid = grid_of c; taken = []; passed = [] }) [] 0 false in
    (calls_keep_within user call s within).given _ (makes s refl)

-- ---- moments

-- a deed that copies a file to at most one for each leaf
pub copy_takes : (c : Cat) → IsMade c → (user : Text) (op : Operation) (word now : ℕ) (file : OldFile) (plan : Plan)
    → CopiesFile c (row (grid_of c) user op) word now file plan → length plan.files ≤ leaf_count c → moments_of plan.files file.size ≤ 2 ^ 65
    → (each : ℕ) → TakesAtMost (grid_of c) each → moments_of plan.files file.size ≤ each
copy_takes c made user op word now file plan w some most each takes =
    files_take c (length plan.files) file.size each made most some
    (λ within. omega (arith, (deeds_are_small (grid_of c) user op w.of within w.row_is).0, w.size)) takes
