-- What all that a meaning gives is like.
use Rattle.std.proofs.Common.{◌≡◌, List, subst}
use Rattle.grid_model.specs.Meanings.{Meaning, gives, waits, unfit, ◌>>=◌, behind, mapped}
use Rattle.grid_model.specs.declared.calls.Call.{Call}

-- P of what it gives, where it gives something
abbrev pub GivesSuch : {A : Type 0} → (A → Type 0) → Meaning A → Type 0
GivesSuch P (gives x) = P x
GivesSuch P other = Unit {0}

pub such_next : {A B : Type 0} (P : A → Type 0) (Q : B → Type 0) (f : A → Meaning B) (m : Meaning A) → GivesSuch P m → ((x : A) → P x → GivesSuch Q (f x))
    → GivesSuch Q (m >>= f)
such_next P Q f (gives x) h each = each x h
such_next P Q f (waits w) h each = tt
such_next P Q f unfit h each = tt

pub such_mapped : {A B : Type 0} (P : A → Type 0) (Q : B → Type 0) (f : A → B) (m : Meaning A) → GivesSuch P m → ((x : A) → P x → Q (f x))
    → GivesSuch Q (mapped f m)
such_mapped P Q f (gives x) h each = each x h
such_mapped P Q f (waits w) h each = tt
such_mapped P Q f unfit h each = tt

pub such_all : {A B : Type 0} (Q : B → Type 0) (f : A → B) (m : Meaning A) → ((x : A) → Q (f x)) → GivesSuch Q (mapped f m)
such_all Q f (gives x) each = each x
such_all Q f (waits w) each = tt
such_all Q f unfit each = tt

pub such_behind : {A : Type 0} (P : A → Type 0) (cs : List Call) (m : Meaning A) → GivesSuch P m → GivesSuch P (behind cs m)
such_behind P cs (gives x) h = h
such_behind P cs (waits w) h = tt
such_behind P cs unfit h = tt

pub such_given : {A : Type 0} (P : A → Type 0) (m : Meaning A) (x : A) → GivesSuch P m → m ≡ gives x → P x
such_given P m x h is = subst (GivesSuch P) is h
