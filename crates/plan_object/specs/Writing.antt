-- Plans of deeds that write files: a put, and what else writes a body for a path.
use Rattle.std.specs.Prelude.{◌≡◌, ℕ, ◌+◌, ◌<◌, true, false, List, [], map, length, Some, Result, Ok, Err, IsTrue}
use Rattle.std.specs.List.{AllByRecursion, Contains}
use Rattle.grid_model.specs.Digests.{Digest, HasDigest}
use Rattle.grid_model.specs.Maps.{get, has}
use Rattle.grid_model.specs.Names.{Text, Path, parent}
use Rattle.grid_model.specs.Grid.{Grid}
use Rattle.grid_model.specs.Rows.{Cat, has_resource}
use Rattle.grid_model.specs.RowGrids.{grid_of, resource_name}
use Rattle.grid_model.specs.Applying.{is_leaf}
use Rattle.grid_model.specs.Whole.{Naming, Names, leaf_slot}
use Rattle.grid_model.specs.Refusing.{Or}
use Rattle.grid_model.specs.Trees.{targets}
use Rattle.grid_model.specs.Deeds.{Act, Deed, deed, fault_fits}
use Rattle.grid_model.specs.Operations.Objects.{put_row, writes, written, with_object}
use Rattle.grid_model.specs.declared.grid.Mode.{Mode}
use Rattle.grid_model.specs.declared.plans.Plan.{Plan}
use Rattle.grid_model.specs.declared.plans.PlanError.{PlanError}
use Rattle.grid_model.specs.declared.plans.PlanError.TheVariants.{Refused, Memory}
use Rattle.file_laws.specs.Plans.{IsPlan}
use Rattle.grid_vault.specs.Vault.{HasSlot}

-- ---- where files may go

-- A body may be written for the path: it lies in a collection, and is that of none. The leaves are there.
pub record MayWrite (c : Cat) (p : Path) (leaves : List ℕ) : Type 0 where
  pub above : Path
  pub parent_is : parent p ≡ Some above
  pub there : has (grid_of c).collections above ≡ true
  pub free : has (grid_of c).collections p ≡ false
  pub all : AllByRecursion (λ id. IsTrue (is_leaf c id)) leaves

-- what a put asks for, but for its bytes
pub record Wanted : Type 0 where
  pub path : Path
  pub resource : Text
  pub mode : Mode
  -- how many bytes
  pub size : ℕ

-- What is found of a put before its word is drawn: the put of each body of that size is the deed of writing it.
pub record MayPut (c : Cat) (user : Text) (w : Wanted) (resource : ℕ) : Type 0 where
  pub known : IsTrue (has_resource c resource)
  pub name_is : resource_name c resource ≡ w.resource
  pub above : Path
  pub parent_is : parent w.path ≡ Some above
  pub there : has (grid_of c).collections above ≡ true
  pub free : has (grid_of c).collections w.path ≡ false
  pub row_is : (body : List ℕ) → length body ≡ w.size
      → put_row (grid_of c) user w.path w.resource w.mode body ≡ Ok (writes (grid_of c).resources (grid_of c) user above w.path w.resource body)

-- what looking at a put gives: its resource, or why it is refused
abbrev pub ChecksPut : Cat → Text → Wanted → Result ℕ PlanError → Type 0
ChecksPut c user w (Ok resource) = MayPut c user w resource
ChecksPut c user w (Err (Refused r)) = (body : List ℕ) → length body ≡ w.size → put_row (grid_of c) user w.path w.resource w.mode body ≡ Err r
ChecksPut c user w (Err Memory) = Unit {0}

-- The put of each body of that size is the deed of writing it, which for this word goes to these leaves.
pub record GoesTo (c : Cat) (user : Text) (w : Wanted) (word : ℕ) (leaves : List ℕ) : Type 0 where
  pub may : MayWrite c w.path leaves
  pub names : map (resource_name c) leaves ≡ targets (grid_of c).resources w.resource word
  pub row_is : (body : List ℕ) → length body ≡ w.size
      → put_row (grid_of c) user w.path w.resource w.mode body ≡ Ok (writes (grid_of c).resources (grid_of c) user may.above w.path w.resource body)

-- what looking for the targets of a put gives: the leaves, or why it is refused
abbrev pub FindsTargets : Cat → Text → Wanted → ℕ → Result (List ℕ) PlanError → Type 0
FindsTargets c user w word (Ok leaves) = GoesTo c user w word leaves
FindsTargets c user w word (Err (Refused r)) = (body : List ℕ) → length body ≡ w.size → put_row (grid_of c) user w.path w.resource w.mode body ≡ Err r
FindsTargets c user w word (Err Memory) = Unit {0}

-- ---- what a plan makes of the rows

-- The catalogue that a plan with so many new files leads to: their numbers are drawn, no other number is given again, and the
-- command that is not done, rules and stores are as they were.
pub record Draws (c : Cat) (files : ℕ) (d : Cat) : Type 0 where
  pub numbers : d.numbers ≡ record c.numbers { next_vault = c.numbers.next_vault + files }
  pub names : (slot name : ℕ) (row : Naming) → name < c.numbers.next_vault → Names d slot name row → (was : Naming) × Names c slot name was
  pub pending : d.pending ≡ c.pending
  pub rules : d.rules ≡ c.rules
  pub stores : d.stores ≡ c.stores

-- The plan may be carried out with this body and makes this grid: before the files are there nothing is seen of it.
pub record MakesGrid (c : Cat) (g : Grid) (body : Text) (plan : Plan) : Type 0 where
  pub is_plan : IsPlan c c c.stores plan body
  pub before : grid_of is_plan.mid ≡ grid_of c
  pub ran : grid_of is_plan.end ≡ g
  pub drawn_first : Draws c (length plan.files) is_plan.mid
  pub drawn : Draws c (length plan.files) is_plan.end

-- what of a body is recorded, and when
pub record Recorded : Type 0 where
  pub size : ℕ
  pub digest : Digest
  pub now : ℕ

-- The plan writes each body that these are size and digest of to the leaves, as the user's object at the path.
abbrev pub PlansWriting : Cat → Text → Path → List ℕ → Recorded → Plan → Type 0
PlansWriting c user p leaves r plan = (above : Path) (body : List ℕ) → parent p ≡ Some above → HasDigest r.size r.digest body
    → let g = grid_of c in MakesGrid c (with_object g user above p (written (get g.objects p) r.size r.digest r.now (map (resource_name c) leaves))) body plan

-- ---- where its files are

-- the slot is that of one of these leaves
pub record IsSlotOf (c : Cat) (leaves : List ℕ) (slot : ℕ) : Type 0 where
  pub leaf : ℕ
  pub there : Contains leaves leaf
  pub slot_is : leaf_slot c leaf ≡ Some slot

-- the plan makes files in the slots of these leaves alone
abbrev pub GoesOnlyTo : Cat → List ℕ → Plan → Type 0
GoesOnlyTo c leaves plan = (slot : ℕ) → HasSlot plan.files slot → IsSlotOf c leaves slot

-- ---- the deed

-- A plan of a deed that writes files: what it makes of the rows is what the row says of the grid, and it calls no other store.
pub record WritesFiles (c : Cat) (row : Or Act) (word now : ℕ) (body : Text) (plan : Plan) : Type 0 where
  pub of : Deed
  pub row_is : row ≡ Ok (deed of)
  pub makes : MakesGrid c (of.ran word now []) body plan
  pub slots : (slot : ℕ) → HasSlot plan.files slot → IsTrue (fault_fits of.touch of.size slot 0)
