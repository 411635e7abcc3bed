-- Calls that were made one after another, by a chain of them.
use Rattle.std.proofs.Common.{◌≡◌, ◌+◌, ◌*◌, ◌^◌, ◌≤◌, List, [], ◌∷◌, ◌++◌, Option, Some, None, IsErrOf, Err, length, sym, ap, ◌∙◌, subst, ℕ}
use Rattle.std.proofs.Common.{append_assoc, length-append, arith}
use Rattle.std.specs.Prelude.{All}
use Rattle.std.proofs.lemmas.List.{append-nil, same_from_push}
use Rattle.std.proofs.lemmas.List.Elements.{All-pop}
use Rattle.grid_outside.specs.Ambient.{AmbientState}
use Rattle.grid_outside.specs.Disk.{DiskState}
use Rattle.grid_outside.specs.Files.{StoreState}
use Rattle.grid_outside.specs.Sink.{SinkState}
use Rattle.grid_outside.specs.Source.{SourceState}
use Rattle.grid_model.specs.declared.marks.Mark.{Mark}
use Rattle.chain_run.specs.Calls.{IsUnstopped, Made, OnlyLastStops}
use Rattle.run_laws.specs.Passes.{CallsPass, Seen}
use Rattle.service_run.specs.Commands.{place_by}
use Rattle.service_run.specs.declared.ending.Ending.{Ending}
use Rattle.service_run.specs.declared.ending.Ending.TheVariants as ending
use Rattle.call_laws.specs.Amid.{IsCutShort, IsSetting, MayCall, Setting}
use Rattle.call_laws.proofs.Joined.{passes_then}
use Rattle.rule_run.specs.Calls.{Called, Chain, Spot, more, none}
use Rattle.rule_run.proofs.OneCall.{AmidAt, does_there, one_cut, one_done, passes_on}
use Rattle.rule_run.proofs.Passing.{passes_none, passes_stopped}
use Rattle.size_laws.specs.Within.{IsWithin, TakesAtMost}
use Rattle.size_laws.proofs.Moments.{takes_where}
use Rattle.grid_model.specs.RowGrids.{grid_of}

-- none but the last one was stopped
abbrev pub FrontGoesOn : List (Made Ending) → Type 0
FrontGoesOn calls = (before : List (Made Ending)) (x : Made Ending) → calls ≡ before ++ x ∷ [] → All IsUnstopped before

pub front_goes_on : (stop : Option Ending) (calls : List (Made Ending)) → OnlyLastStops stop calls → FrontGoesOn calls
front_goes_on None calls all before x is = (All-pop IsUnstopped calls before (Some x) is all).0
front_goes_on (Some e) calls last before x is =
    subst (All IsUnstopped) (sym (same_from_push before last.0 x last.1 (sym is ∙ last.2)).0) last.3

-- so there is one
pub some_stopped : (e : Ending) (calls : List (Made Ending)) → OnlyLastStops (Some e) calls → calls ≡ [] → ⊥
some_stopped e calls last is = omega (arith, ap length (sym is ∙ last.2), length-append last.0 (last.1 ∷ []))

-- the last one answered the stop
pub last_stops : (e : Ending) (calls : List (Made Ending)) → OnlyLastStops (Some e) calls → (before : List (Made Ending)) (x : Made Ending)
    → calls ≡ before ++ x ∷ [] → x.stop ≡ Some e
last_stops e calls last before x is = ap (λ (y : Made Ending). y.stop) (same_from_push before last.0 x last.1 (sym is ∙ last.2)).1 ∙ last.4

module _ {D A P K : Type 0} (disk : D → DiskState) (ambient : A → AmbientState) (plugin : P → StoreState) (sink : K → SinkState) (start : Spot D A P K) where
  -- ---- devices

  -- nothing failed
  pub passes_all : (calls : List (Made Ending)) (b : Spot D A P K) → Chain disk ambient plugin sink start calls b → All IsUnstopped calls
      → CallsPass disk plugin sink ⊥ ⊥ start.seen b.seen
  passes_all calls b (none is same) all =
      let S : Spot D A P K → Type 0 = λ at. CallsPass disk plugin sink ⊥ ⊥ start.seen at.seen in
      subst S (sym same) (passes_none disk plugin sink ⊥ ⊥ (λ e. e) (λ e. e) start.seen)
  passes_all calls b (more before mid x is chain called) all =
      let parts = All-pop IsUnstopped calls before (Some x) is all in
      passes_then disk plugin sink ⊥ ⊥ start.seen mid.seen b.seen (passes_all before mid chain parts.0)
      (passes_on disk ambient plugin sink mid b x called parts.1)

  -- the last one was stopped
  pub passes_to_stop : {T : Type 0} (e : Ending) (calls : List (Made Ending)) (b : Spot D A P K) → Chain disk ambient plugin sink start calls b
      → OnlyLastStops (Some e) calls
      → CallsPass disk plugin sink (IsErrOf {T = T} (Err e) ending.Disk) (IsErrOf {T = T} (Err e) ending.Sink) start.seen b.seen
  passes_to_stop e calls b (none is same) stops = absurd (some_stopped e calls stops is)
  passes_to_stop {T} e calls b (more before mid x is chain called) stops =
      passes_then disk plugin sink _ _ start.seen mid.seen b.seen (passes_all before mid chain (front_goes_on (Some e) calls stops before x is))
      (passes_stopped disk plugin sink {T = T} x.stop e mid.seen b.seen (last_stops e calls stops before x is) called.passes)

  -- the grid is within the limits where it was so before
  pub within_all : (calls : List (Made Ending)) (b : Spot D A P K) → Chain disk ambient plugin sink start calls b → All IsUnstopped calls
      → IsWithin (grid_of start.rows.cat) → IsWithin (grid_of b.rows.cat)
  within_all calls b (none is same) all within = let S : Spot D A P K → Type 0 = λ at. IsWithin (grid_of at.rows.cat) in subst S (sym same) within
  within_all calls b (more before mid x is chain called) all within =
      let parts = All-pop IsUnstopped calls before (Some x) is all in
      called.within parts.1 (within_all before mid chain parts.0 within)

  module _ (each : ℕ) (most : TakesAtMost (grid_of start.rows.cat) each) where
    draws_one : (before : List (Made Ending)) (mid b : Spot D A P K) (x : Made Ending) → Chain disk ambient plugin sink start before mid
        → All IsUnstopped before → Called disk ambient plugin sink mid x b
        → mid.seen.outside.moments + mid.left * each ≤ start.seen.outside.moments + start.left * each
        → b.seen.outside.moments + b.left * each ≤ start.seen.outside.moments + start.left * each
    draws_one before mid b x chain all called so_far =
        let there = called.drawn each (takes_where (grid_of start.rows.cat) (grid_of mid.rows.cat) each (within_all before mid chain all) most) in
        omega (arith, so_far, there)

    -- each call took at most as many moments
    drawn_on : (calls : List (Made Ending)) (b : Spot D A P K) → Chain disk ambient plugin sink start calls b → All IsUnstopped calls
        → b.seen.outside.moments + b.left * each ≤ start.seen.outside.moments + start.left * each
    drawn_on calls b (none is same) all =
        let S : Spot D A P K → Type 0 = λ at. at.seen.outside.moments + at.left * each ≤ start.seen.outside.moments + start.left * each in
        subst S (sym same) (omega arith)
    drawn_on calls b (more before mid x is chain called) all =
        let parts = All-pop IsUnstopped calls before (Some x) is all in
        draws_one before mid b x chain parts.0 called (drawn_on before mid chain parts.0)

    pub drawn_all : (stop : Option Ending) (calls : List (Made Ending)) (b : Spot D A P K) → Chain disk ambient plugin sink start calls b
        → OnlyLastStops stop calls → b.seen.outside.moments + b.left * each ≤ start.seen.outside.moments + start.left * each
    drawn_all None calls b chain stops = drawn_on calls b chain stops
    drawn_all (Some e) calls b (none is same) stops = absurd (some_stopped e calls stops is)
    drawn_all (Some e) calls b (more before mid x is chain called) stops =
        let front = front_goes_on (Some e) calls stops before x is in
        draws_one before mid b x chain front called (drawn_on before mid chain front)

  -- ---- how far the command has come

  module _ (source : SourceState) {F : Type 0} (s : Setting F) (setting : IsSetting s) (from : Seen D A P K) (taken : List Mark)
      (Due : Made Ending → Type 0)
      (may : (at : Spot D A P K) (x : Made Ending) (marks : List Mark) → AmidAt disk ambient plugin sink source s setting from at (taken ++ marks)
      → x.place ≡ place_by at.rows.cat at.command → Due x → MayCall s at.rows.cat at.command (taken ++ marks) (does_there at x) x.call x.undo)
      (begun : AmidAt disk ambient plugin sink source s setting from start taken)
      (main_last : (disk start.seen.outside.main).last ≤ start.seen.outside.moments) where
    -- what calls did that were not stopped
    pub record Walked (b : Spot D A P K) : Type 0 where
      pub marks : List Mark
      pub amid : AmidAt disk ambient plugin sink source s setting from b (taken ++ marks)
      pub last : (disk b.seen.outside.main).last ≤ b.seen.outside.moments

    walked_none : Walked start
    walked_none = record {
      marks = [];
      amid = subst (AmidAt disk ambient plugin sink source s setting from start) (sym (append-nil taken)) begun;
      last = main_last;
    }

    walked_more : (a b : Spot D A P K) (x : Made Ending) → Walked a → Called disk ambient plugin sink a x b → Due x → x.stop ≡ None → Walked b
    walked_more a b x w called due on =
        let next = one_done disk ambient plugin sink source s setting from a b x called (taken ++ w.marks) w.amid (may a x w.marks w.amid called.place due)
        w.last on in
        record {
          marks = w.marks ++ next.0;
          amid = subst (AmidAt disk ambient plugin sink source s setting from b) (append_assoc taken w.marks next.0) next.1;
          last = (passes_on disk ambient plugin sink a b x called on).frame.main_last w.last;
        }

    pub walked : (calls : List (Made Ending)) (b : Spot D A P K) → Chain disk ambient plugin sink start calls b → All Due calls → All IsUnstopped calls
        → Walked b
    walked calls b (none is same) due all = subst Walked (sym same) walked_none
    walked calls b (more before mid x is chain called) due all =
        let on = All-pop IsUnstopped calls before (Some x) is all in
        let dues = All-pop Due calls before (Some x) is due in
        walked_more mid b x (walked before mid chain dues.0 on.0) called dues.1 on.1

    -- what they leave where nothing is called behind them
    pub data Leaves (calls : List (Made Ending)) (b : Spot D A P K) : Type 0 where
      left_begun : b ≡ start → calls ≡ [] → Leaves calls b
      left_behind : (before : List (Made Ending)) (mid : Spot D A P K) (x : Made Ending) → calls ≡ before ++ x ∷ [] → (w : Walked mid) → Due x
          → Called disk ambient plugin sink mid x b
          → IsCutShort disk ambient plugin sink source s from b.seen (taken ++ w.marks) → Leaves calls b

    pub leaves : (calls : List (Made Ending)) (b : Spot D A P K) → Chain disk ambient plugin sink start calls b → All Due calls → FrontGoesOn calls
        → Leaves calls b
    leaves calls b (none is same) due front = left_begun same is
    leaves calls b (more before mid x is chain called) due front =
        let dues = All-pop Due calls before (Some x) is due in
        let w = walked before mid chain dues.0 (front before x is) in
        left_behind before mid x is w dues.1 called
        (one_cut disk ambient plugin sink source s setting from mid b x called (taken ++ w.marks) w.amid (may mid x w.marks w.amid called.place dues.1) w.last)
