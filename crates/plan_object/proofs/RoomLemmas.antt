-- Room for objects, test by test.
use Rattle.std.proofs.Common.{◌≡◌, ℕ, ◌+◌, true, false, length, Bool, Option, Some, None, Result, Ok, Err, sym, ap, ◌∙◌}
use Rattle.std.specs.Prelude.{◌||◌, is_some, nat_le, ⊤}
use Rattle.grid_model.specs.Maps.{has}
use Rattle.grid_model.specs.MapLists.{size}
use Rattle.grid_model.specs.Names.{Text, Path}
use Rattle.grid_model.specs.Limits.{object_size}
use Rattle.grid_model.specs.Bounds.{within}
use Rattle.grid_model.specs.Refusing.{Or, ◌>>=◌, unless}
use Rattle.grid_model.specs.Rows.{Cat}
use Rattle.grid_model.specs.RowPaths.{collection_at, object_at}
use Rattle.grid_model.specs.RowGrids.{grid_of}
use Rattle.grid_model.specs.Applying.{IsMade}
use Rattle.grid_model.specs.Operations.Common.{is_taken, with_new_item}
use Rattle.grid_model.specs.Operations.Objects.{room_for, room_for_new}
use Rattle.grid_model.specs.declared.plans.PlanError.{PlanError}
use Rattle.grid_model.specs.declared.plans.PlanError.TheVariants.{Refused, Memory}
use Rattle.grid_model.specs.declared.refusal.Refusal.{Refusal}
use Rattle.grid_model.specs.declared.refusal.Refusal.TheVariants.{TooLarge}
use Rattle.grid_model.specs.declared.refusal.What.TheVariants.{Objects, Access}
use Rattle.tables_laws.proofs.LookUps.{has-collections, has-objects}
use Rattle.plan_base.proofs.AtPaths.{sound_of}
use Rattle.plan_base.proofs.Sizes.{size-objects}
use Rattle.plan_object.specs.Room.{FindsRoom, FindsRoomNew, FitsSize}

module _ (c : Cat) (made : IsMade c) (p : Path) where
  pub object_is : (o : Option ℕ) → o ≡ object_at c p → has (grid_of c).objects p ≡ is_some o
  object_is o is = has-objects c (sound_of c made) p ∙ ap is_some (sym is)

  pub collection_is : (o : Option ℕ) → o ≡ collection_at c p → has (grid_of c).collections p ≡ is_some o
  collection_is o is = has-collections c (sound_of c made) p ∙ ap is_some (sym is)

  pub not_taken : None ≡ object_at c p → collection_at c p ≡ None → is_taken (grid_of c) p ≡ false
  not_taken no_object no_collection = ap (λ b. b || has (grid_of c).objects p) (collection_is None (sym no_collection)) ∙ object_is None no_object

  module _ (user : Text) (above : Path) where
    -- ---- a new object

    abbrev fits_new : Or ⊤ → Or ⊤ → Or ⊤
    fits_new few some = few >>= (λ _. some)

    new_is : (n : ℕ) → size (with_new_item (grid_of c) user above p) ≡ length c.entries + n
        → room_for_new false (size (grid_of c).objects + 1) (size (with_new_item (grid_of c) user above p)) ≡ fits_new (within Objects (length c.objects + 1)) (within Access (length c.entries + n))
    new_is n entries = λ i. fits_new (within Objects (size-objects c (sound_of c made) i + 1)) (within Access (entries i))

    pub too_many_objects : (r : Refusal) → Err r ≡ within Objects (length c.objects + 1) → FindsRoomNew (grid_of c) user above p (Err (Refused r))
    too_many_objects r is = ap (λ n. fits_new (within Objects (n + 1)) (within Access (size (with_new_item (grid_of c) user above p)))) (size-objects c (sound_of c made)) ∙ ap (λ x. fits_new x (within Access (size (with_new_item (grid_of c) user above p)))) (sym is)

    pub too_many_entries : (n : ℕ) → size (with_new_item (grid_of c) user above p) ≡ length c.entries + n → (x : ⊤) → Ok x ≡ within Objects (length c.objects + 1) → (r : Refusal) → Err r ≡ within Access (length c.entries + n)
        → FindsRoomNew (grid_of c) user above p (Err (Refused r))
    too_many_entries n entries x few r is = new_is n entries ∙ (λ i. fits_new (sym few i) (sym is i))

    pub room_new : (n : ℕ) → size (with_new_item (grid_of c) user above p) ≡ length c.entries + n → (x y : ⊤) → Ok x ≡ within Objects (length c.objects + 1) → Ok y ≡ within Access (length c.entries + n)
        → FindsRoomNew (grid_of c) user above p (Ok tt)
    room_new n entries x y few some = new_is n entries ∙ (λ i. fits_new (sym few i) (sym some i))

    -- ---- any object

    abbrev sized : ℕ → Or ⊤
    sized len = unless (nat_le len object_size) (TooLarge object_size)

    sized_is : (len : ℕ) (r : Result ⊤ PlanError) → FitsSize len r → room_for (grid_of c) user above p len ≡ sized len → FindsRoom (grid_of c) user above p len r
    sized_is len (Ok x) fits is = is ∙ ap (λ b. unless b (TooLarge object_size)) fits
    sized_is len (Err (Refused r)) fits is = is ∙ ap (λ b. unless b (TooLarge object_size)) fits.0 ∙ ap Err (sym fits.1)
    sized_is len (Err Memory) fits is = absurd fits

    room_by : (len : ℕ) (b : Bool) → has (grid_of c).objects p ≡ b
        → room_for (grid_of c) user above p len ≡ room_for_new b (size (grid_of c).objects + 1) (size (with_new_item (grid_of c) user above p)) >>= (λ _. sized len)
    room_by len b is = ap (λ b. room_for_new b (size (grid_of c).objects + 1) (size (with_new_item (grid_of c) user above p)) >>= (λ _. sized len)) is

    pub room_old : (len id : ℕ) → Some id ≡ object_at c p → (r : Result ⊤ PlanError) → FitsSize len r → FindsRoom (grid_of c) user above p len r
    room_old len id is r fits = sized_is len r fits (room_by len true (object_is (Some id) is))

    pub no_room : (len : ℕ) → None ≡ object_at c p → (e : PlanError) → FindsRoomNew (grid_of c) user above p (Err e) → FindsRoom (grid_of c) user above p len (Err e)
    no_room len is (Refused r) none = room_by len false (object_is None is) ∙ ap (λ x. x >>= (λ _. sized len)) none
    no_room len is Memory none = tt

    pub some_room : (len : ℕ) → None ≡ object_at c p → FindsRoomNew (grid_of c) user above p (Ok tt) → (r : Result ⊤ PlanError) → FitsSize len r → FindsRoom (grid_of c) user above p len r
    some_room len is some r fits = sized_is len r fits (room_by len false (object_is None is) ∙ ap (λ x. x >>= (λ _. sized len)) some)
