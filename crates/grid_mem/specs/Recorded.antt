-- What a device means that records its calls.
use Rattle.std.specs.Prelude.{◌≡◌, ℕ, Bool, true, List, []}
use Rattle.std.proofs.Common.{refl, sym, ap, subst, ◌∙◌}
use Rattle.grid_outside.specs.Device.{DeviceState}
use Rattle.grid_mem.specs.declared.call.Call.{Call}
use Rattle.grid_mem.specs.Calls.{Kind, held, Left, is_record}
use Rattle.grid_mem.specs.CallLaws.{Laws, steady_from, now_from, none_at_zero}

module _ {Deed C : Type 0} (kind : Kind Deed C) (laws : Laws kind) (tells : Bool) where
  -- A device that held this at the start, was called so since and holds that now. A stop at a moment may leave what
  -- the calls leave then.
  abbrev pub state_in : (faults last : ℕ) (start now : C) (calls : List (Call Deed)) → is_record kind 0 last start calls ≡ true → now ≡ held kind start calls
      → DeviceState C
  state_in faults last start now calls is now_is = record {
    faults = faults;
    tells = tells;
    holds = now;
    last = last;
    left = λ t image. Left kind t (λ x. x ≡ start) start calls image;
    steady =
        λ s t image after_s after_t left. steady_from kind s t 0 last (λ x. x ≡ start) (λ x. x ≡ start) start calls after_s after_t is (λ x e. e) image left;
    now =
        λ tells t after. subst (λ x. Left kind t (λ y. y ≡ start) start calls x) (sym now_is)
        (now_from kind laws t 0 last (λ y. y ≡ start) start calls after is refl);
    start = λ tells zero t image.
        let none : calls ≡ [] = none_at_zero kind 0 start calls (subst (λ n. is_record kind 0 n start calls ≡ true) zero is) in
        let same : now ≡ start = now_is ∙ ap (held kind start) none in (
          (λ left. subst (λ cs. Left kind t (λ y. y ≡ start) start cs image) none left ∙ sym same),
          (λ e. subst (λ cs. Left kind t (λ y. y ≡ start) start cs image) (sym none) (e ∙ same)),
        );
  }
