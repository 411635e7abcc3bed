-- The rows of a part of the table are those of the whole.
use Rattle.std.proofs.Common.{◌≡◌, true, false, Bool, List, [], ◌∷◌, ◌++◌, refl, sym, subst, ◌∙◌}
use Rattle.std.specs.Prelude.{Option, Some, None, Result, Ok, Err, IfSome, IfNone, IfErr, IsErr, IsErrAnd}
use Rattle.grid_model.specs.Names.{Text, same_text}
use Rattle.cmd_read.specs.Table.{among, Row, Way}
use Rattle.cmd_read.specs.Reading.{ReadsVerb}
use Rattle.cmd_read.specs.Finding.{AsksIn, RefusesIn}
use Rattle.grid_model.specs.declared.requests.Verb.{Verb}
use Rattle.cmd_read.specs.declared.error.ReadError.{ReadError}
use Rattle.cmd_read.specs.declared.error.ReadError.TheVariants.{UnknownCommand}

-- rows in front that have no such name
pub among_behind : (before after : List Row) (v : Text) → among before v ≡ None → among (before ++ after) v ≡ among after v
among_behind [] after v none = refl
among_behind (r ∷ before) after v none = by (same_text r.0 v) refl none (λ k. among_behind before after v k)
  where
    by : (b : Bool) → same_text r.0 v ≡ b → (elim b as (λ x. Option (List Way)) [ true ↦ Some r.1 | false ↦ among before v ]) ≡ None → (among before v ≡ None → among (before ++ after) v ≡ among after v)
        → (elim (same_text r.0 v) as (λ x. Option (List Way)) [ true ↦ Some r.1 | false ↦ among (before ++ after) v ]) ≡ among after v
    by true e none more = absurd (cc none)
    by false e none more = rw e (more none)

-- rows behind one that has it
pub among_front : (g after : List Row) (v : Text) (ways : List Way) → among g v ≡ Some ways → among (g ++ after) v ≡ Some ways
among_front [] after v ways some = absurd (cc some)
among_front (r ∷ g) after v ways some = by (same_text r.0 v) refl some (λ k. among_front g after v ways k)
  where
    by : (b : Bool) → same_text r.0 v ≡ b → (elim b as (λ x. Option (List Way)) [ true ↦ Some r.1 | false ↦ among g v ]) ≡ Some ways → (among g v ≡ Some ways → among (g ++ after) v ≡ Some ways)
        → (elim (same_text r.0 v) as (λ x. Option (List Way)) [ true ↦ Some r.1 | false ↦ among (g ++ after) v ]) ≡ Some ways
    by true e some more = rw e some
    by false e some more = rw e (more some)

pub none_both : (before g : List Row) (v : Text) → among before v ≡ None → among g v ≡ None → among (before ++ g) v ≡ None
none_both before g v none none_here = among_behind before g v none ∙ none_here

pub found_ok : (before g after : List Row) (v : Text) (ws : List Text) (asked : Verb) → among before v ≡ None → AsksIn (among g v) ws asked → ReadsVerb (among (before ++ (g ++ after)) v) ws (Ok asked)
found_ok before g after v ws asked none asks = rw (among_behind before (g ++ after) v none) (by (among g v) refl asks)
  where
    by : (o : Option (List Way)) → among g v ≡ o → AsksIn o ws asked → ReadsVerb (among (g ++ after) v) ws (Ok asked)
    by None e asks = absurd asks
    by (Some ways) e asks = rw (among_front g after v ways e) asks

pub found_err : (before g after : List Row) (v : Text) (ws : List Text) (why : ReadError) → among before v ≡ None → RefusesIn (among g v) ws why → ReadsVerb (among (before ++ (g ++ after)) v) ws (Err why)
found_err before g after v ws why none refuses = rw (among_behind before (g ++ after) v none) (by (among g v) refl refuses)
  where
    by : (o : Option (List Way)) → among g v ≡ o → RefusesIn o ws why → ReadsVerb (among (g ++ after) v) ws (Err why)
    by None e refuses = absurd refuses
    by (Some ways) e refuses = rw (among_front g after v ways e) refuses

pub found_none : (rows : List Row) (v : Text) (ws : List Text) → among rows v ≡ None → ReadsVerb (among rows v) ws (Err UnknownCommand)
found_none rows v ws none = rw none refl

-- what a call told of the value that it gave
pub told_none : (o : Option Verb) (P : Type 0) → IfNone o P → o ≡ None → P
told_none None P h e = h
told_none (Some x) P h e = absurd (cc e)

pub told_some : (o : Option Verb) (P : Verb → Type 0) (x : Verb) → IfSome o P → o ≡ Some x → P x
told_some o P x h e = let Q : Option Verb → Type 0 = λ z. IfSome z P in subst Q e h

pub told_err : (r : Result Verb ReadError) (P : ReadError → Type 0) (e : ReadError) → IsErr r × IsErrAnd r (λ x. x ≡ e) → P e → IfErr r P
told_err (Ok x) P e h p = tt
told_err (Err x) P e h p = subst P (sym h.1) p
