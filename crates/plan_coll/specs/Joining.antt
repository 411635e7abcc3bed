-- A user and a group by their names, as a row.
use Rattle.std.specs.Prelude.{◌≡◌, true, IsTrue}
use Rattle.grid_model.specs.Names.{Text}
use Rattle.grid_model.specs.Rows.{Cat}
use Rattle.grid_model.specs.RowGrids.{grid_of, user_name}
use Rattle.grid_model.specs.Applying.{can_join}
use Rattle.grid_model.specs.Operations.Users as users
use Rattle.grid_model.specs.declared.deltas.Delta.TheVariants as delta
use Rattle.grid_model.specs.declared.deltas.MemberRow.{MemberRow}
use Rattle.grid_journal.specs.Journal.{can_be_kept}

-- the row has the group and the user of these names, who may be in it, and may be kept
pub record Joins (c : Cat) (group member : Text) (m : MemberRow) : Type 0 where
  pub group_is : user_name c m.group ≡ group
  pub member_is : user_name c m.user ≡ member
  pub joins : can_join c m ≡ true
  pub kept : IsTrue (can_be_kept (delta.Member m))
  pub dropped : IsTrue (can_be_kept (delta.NoMember m))
  pub asked : users.can_be_member (grid_of c) group member ≡ true
