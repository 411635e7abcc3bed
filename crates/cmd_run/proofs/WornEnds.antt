-- What has run out where a run ends.
use Rattle.std.proofs.Common.{◌≡◌, ℕ, Err, IsTrue, sym, subst}
use Rattle.std.specs.Prelude.{Result, ⊤}
use Rattle.grid_outside.specs.Disk.{DiskState}
use Rattle.grid_outside.specs.declared.outside.Wear.{Wear}
use Rattle.grid_outside.specs.declared.outside.Wear.TheVariants.{Log, Vaults}
use Rattle.grid_model.specs.Rows.{Cat}
use Rattle.grid_model.specs.Runs.{Request}
use Rattle.grid_headline.specs.Worlds.{World}
use Rattle.cmd_run.specs.declared.server.Server.{Server}
use Rattle.cmd_run.specs.declared.server.Ending.{Ending}
use Rattle.cmd_run.specs.declared.server.Ending.TheVariants.{Worn}
use Rattle.cmd_run.specs.Keeps.{KeepEnds}
use Rattle.cmd_run.specs.Obeys.{IsWorn, IsWornAt, LacksRoomAlone}

-- room behind the log is all that keeping runs out of
pub room_kept : (kept after : Cat) (main_old main_new : DiskState) (s : Server) (e : Ending) → KeepEnds kept after main_old main_new (Err e) s
    → LacksRoomAlone main_old main_new (Err e)
room_kept kept after main_old main_new s e ends what place is =
    let same : e ≡ Worn what place = cc in
    let E : Ending → Type 0 = λ x. KeepEnds kept after main_old main_new (Err x) s in
    subst E same ends

module _ {B : Type 0} (new : World B) (main_old : DiskState) (tells : new.main.tells ≡ main_old.tells) (result : Result ⊤ Ending)
    (room : LacksRoomAlone main_old new.main result) where
  -- that is said of the request too
  pub worn_room : (before : Server) (request : Request) → IsWorn new before request result
  worn_room before request what place is =
      let at = room what place is in
      let W : Wear → Type 0 = λ w. IsWornAt new before request place w in
      subst W (sym at.0) (at.1, λ told. at.2 (subst IsTrue tells told))

  -- numbers of vault files have not run out
  pub not_vaults : (place : ℕ) → result ≡ Err (Worn Vaults place) → ⊥
  not_vaults place is = let both : Vaults ≡ Log = (room Vaults place is).0 in absurd cc
