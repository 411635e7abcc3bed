-- What refuses any operation is of the grid.
use Rattle.std.proofs.Common.{subst}
use Rattle.grid_model.specs.Names.{Text}
use Rattle.grid_model.specs.Grid.{Grid}
use Rattle.grid_model.specs.Operations.Table.{Operation, row}
use Rattle.grid_model.specs.Operations.Table as table
use Rattle.chain_laws.specs.ByRows.{RowsAreOfGrid}
use Rattle.chain_laws.proofs.OfGrid.{OfGrid, close_of, mkdir_of, put_of}
use Rattle.chain_laws.proofs.OfRows.{addchild_of, addmember_of, addmeta_of, chmod_of, inherit_of, mkgroup_of, mkresc_of, mkuser_of, modresc_of}
use Rattle.chain_laws.proofs.OfRows.{mv_of, rm_of, rmdir_of, rmmember_of, rmmeta_of, trim_of}
use Rattle.chain_laws.proofs.OfDeeds.{chksum_of, copy_of, get_of, repl_of}

pub of_row : (g : Grid) (user : Text) (op : Operation) → OfGrid (row g user op)
of_row g user (table.mkdir p) = mkdir_of g user p
of_row g user (table.rmdir p) = rmdir_of g user p
of_row g user (table.mv a b) = mv_of g user a b
of_row g user (table.put p r mode body) = put_of g user p r mode body
of_row g user (table.close tree p r mode body) = close_of g user p r mode body tree
of_row g user (table.get p asked) = get_of g user p asked
of_row g user (table.repl p r) = repl_of g user p r
of_row g user (table.copy a b r) = copy_of g user a b r
of_row g user (table.chksum p) = chksum_of g user p
of_row g user (table.trim p r) = trim_of g user p r
of_row g user (table.rm p) = rm_of g user p
of_row g user (table.addmeta t) = addmeta_of g user t
of_row g user (table.rmmeta t) = rmmeta_of g user t
of_row g user (table.chmod level name p) = chmod_of g user level name p
of_row g user (table.inherit p on) = inherit_of g user p on
of_row g user (table.mkresc name kind slot) = mkresc_of g user name kind slot
of_row g user (table.addchild p c) = addchild_of g user p c
of_row g user (table.modresc name up) = modresc_of g user name up
of_row g user (table.mkuser name kind) = mkuser_of g user name kind
of_row g user (table.mkgroup name) = mkgroup_of g user name
of_row g user (table.addmember group member) = addmember_of g user group member
of_row g user (table.rmmember group member) = rmmember_of g user group member

pub rows_are_of_grid : RowsAreOfGrid
rows_are_of_grid g user op r e = subst OfGrid e (of_row g user op)
