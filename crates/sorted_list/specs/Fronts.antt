-- How fronts stand to keys in order.
use Rattle.std.specs.Prelude.{◌≡◌, ◌≤◌, Bool, true, false}
use Rattle.std.proofs.Common.{refl, ap, ◌∙◌, arith}
use Rattle.std.specs.declared.cmp.Ordering.{Ordering}
use Rattle.std.specs.declared.cmp.Ordering.TheVariants.{Less, Equal, Greater}
use Rattle.std.specs.Ordering.{ordering_index}
use Rattle.std.specs.Cmp.{IsTotalOrder}

-- Whether a key stands before those with a front; with the flag, whether it stands before those behind it.
abbrev pub is_before : Bool → Ordering → Bool
is_before at Less = false
is_before at Equal = at
is_before at Greater = true

-- where one key stands before another, a third is not before the one and behind the other
pub key_falls : {K : Type 0} {R : K → K → Ordering} → IsTotalOrder R → (q a b : K) → R a b ≡ Less → ordering_index (R q b) ≤ ordering_index (R q a)
key_falls {R = R} o q a b less = by (R q a) refl
  where
    top : (x : Ordering) → ordering_index x ≤ 2
    top Less = omega arith
    top Equal = omega arith
    top Greater = omega arith

    by : (x : Ordering) → R q a ≡ x → ordering_index (R q b) ≤ ordering_index x
    by Less e = let is : R q b ≡ Less = o.trans q a b e less in omega (arith, ap ordering_index is)
    by Equal e = let is : R q b ≡ Less = o.congr q a b e ∙ less in omega (arith, ap ordering_index is)
    by Greater e = top (R q b)

pub key_once : {K : Type 0} {R : K → K → Ordering} → IsTotalOrder R → (q a b : K) → R a b ≡ Less → R q a ≡ Equal → R q b ≡ Less
key_once o q a b less same = o.congr q a b same ∙ less
