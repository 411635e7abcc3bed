-- How many moments a get draws.
use Rattle.std.proofs.Common.{◌≡◌, ℕ, ◌+◌, ◌^◌, ◌≤◌, Option, Ok, ap, arith}
use Rattle.grid_model.specs.DataLines.{parts}
use Rattle.grid_model.specs.Deeds.{Act, Deed, deed, sending}
use Rattle.grid_model.specs.Limits.{object_size}
use Rattle.grid_model.specs.Names.{Path, Text}
use Rattle.grid_model.specs.Operations.Replicas.{Source}
use Rattle.grid_model.specs.Operations.Table.{get as fetch, row}
use Rattle.grid_model.specs.Refusing.{Or, ◌>>=◌}
use Rattle.grid_model.specs.Rows.{Cat}
use Rattle.grid_model.specs.RowGrids.{grid_of}
use Rattle.grid_model.specs.declared.plans.OldFile.{OldFile}
use Rattle.plan_object.specs.Sending.{Sends}
use Rattle.size_laws.specs.Within.{IsWithin, TakesAtMost, few, many}
use Rattle.size_laws.proofs.SmallRows.{deeds_are_small}

module _ (rows : Cat) (user : Text) (path : Path) (asked : Option Text) (file : OldFile) (its : Sends rows user path asked file) where
  -- within the limits the file is no larger than an object may be
  pub sent_small : IsWithin (grid_of rows) → file.size ≤ object_size
  sent_small within =
      let is_deed : row (grid_of rows) user (fetch path asked) ≡ Ok (deed (record {
        size = its.from.object.size;
        digest = its.from.object.digest;
        ran = λ word now bad. grid_of rows;
        touch = sending its.from.slot;
      })) = ap (λ (r : Or Source). r >>= λ from. Ok (deed (record {
        size = from.object.size;
        digest = from.object.digest;
        ran = λ word now bad. grid_of rows;
        touch = sending from.slot;
      }))) its.is in
      omega (arith, its.size, (deeds_are_small (grid_of rows) user (fetch path asked) _ within is_deed).0)

  -- a commit before it and its sending draw no more than a deed may
  pub draws_sent : (each : ℕ) → TakesAtMost (grid_of rows) each → (old mid new : ℕ) → mid ≤ old + 5 → new ≤ mid + 2 ^ 49 → new ≤ mid + parts file.size
      → new ≤ old + each
  draws_sent each (few within) old mid new noted sent by_parts =
      let small : parts file.size ≤ 2 ^ 8 = omega (arith, sent_small within) in
      omega (arith, noted, by_parts, small)
  draws_sent each many old mid new noted sent by_parts = omega (arith, noted, sent)
