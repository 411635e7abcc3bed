-- Which requests leave few orphans: a sweep that is answered ok; one that ends the input leaves main as it was, and of others nothing is said.
use Rattle.std.proofs.Common.{◌≡◌, ℕ, Bool, true, false, List, [], Some, None, Ok, Err, refl, sym, ap, ◌∙◌, subst}
use Rattle.std.specs.Prelude.{Option, Result, ⊤, OnOk}
use Rattle.std.specs.Bool.{MatchBool}
use Rattle.grid_model.specs.Maps.{get}
use Rattle.grid_model.specs.Names.{Text}
use Rattle.grid_model.specs.Refusing.{Or}
use Rattle.grid_model.specs.Rows.{Cat}
use Rattle.grid_model.specs.Meanings.{Meaning, gives}
use Rattle.grid_model.specs.Obeying.{logged_in, not_logged_in, sweep}
use Rattle.grid_model.specs.Operations.Common.{needs_admin}
use Rattle.grid_model.specs.Orders.{Order, quits, sweeps}
use Rattle.grid_model.specs.Runs.{Request, does}
use Rattle.grid_model.specs.Sessions.{Session, State}
use Rattle.grid_model.specs.Uploads.{is_well}
use Rattle.grid_model.specs.Working.{Done, answered, begun, refused_at_once, well}
use Rattle.grid_model.specs.declared.marks.Mark.{Mark}
use Rattle.grid_model.specs.declared.refusal.Refusal.{Refusal}
use Rattle.grid_model.specs.declared.refusal.Refusal.TheVariants as refusal
use Rattle.grid_model.specs.declared.replies.End.{End}
use Rattle.grid_model.specs.declared.replies.End.TheVariants as end
use Rattle.grid_model.specs.declared.replies.Reply.{Reply}
use Rattle.grid_model.specs.declared.requests.Request as model
use Rattle.grid_model.specs.declared.requests.Verb.{Verb}
use Rattle.grid_model.specs.declared.requests.Verb.TheVariants as verb
use Rattle.cmd_read.specs.Orders.{MeansOrder}
use Rattle.grid_headline.specs.Ends.{HasFewOrphans}
use Rattle.grid_headline.specs.Reads.{is_built, texts}
use Rattle.grid_headline.specs.Worlds.{World}
use Rattle.run_laws.specs.Silent.{LeavesFew}
use Rattle.cmd_run.specs.declared.server.Server.{Server}
use Rattle.cmd_run.specs.declared.server.Ending.{Ending}
use Rattle.cmd_run.specs.Asking.{AsksForRequest, MeansHeld}
use Rattle.cmd_run.specs.Fits.{state_of}
use Rattle.cmd_run.specs.Obeys.{SaysOnly}
use Rattle.cmd_run.specs.Sweeping.{SweepLeavesFew}
use Rattle.cmd_run.proofs.WorkingLemmas.{verb_asks}

-- ---- how a sweep is answered

-- how it ended, if it has a meaning
abbrev end_given : Meaning Done → Option End
end_given (gives d) = Some d.reply.end
end_given other = None

module _ (at : State) (n : ℕ) (a b : List Mark) where
  sweep_end : (x : Session) → (sweep at x (begun at.grid a)).reply.end ≡ (sweep at x (begun at.grid b)).reply.end
  sweep_end x = by (needs_admin at.grid x.user)
    where
      by : (v : Or ⊤) → (let d : Done = elim v [ Err r ↦ refused_at_once at (begun at.grid a) r | Ok _ ↦ answered at (begun at.grid a) well ] in d.reply.end)
          ≡ (let d : Done = elim v [ Err r ↦ refused_at_once at (begun at.grid b) r | Ok _ ↦ answered at (begun at.grid b) well ] in d.reply.end)
      by (Err r) = refl
      by (Ok k) = refl

  -- its end does not depend on its marks
  same_end : end_given (does at (Ok (n, sweeps)) a) ≡ end_given (does at (Ok (n, sweeps)) b)
  same_end = by (get at.sessions n)
    where
      by : (o : Option Session) → end_given (elim o [ None ↦ not_logged_in at n sweeps (begun at.grid a) | Some x ↦ logged_in at n x sweeps (begun at.grid a) ])
          ≡ end_given (elim o [ None ↦ not_logged_in at n sweeps (begun at.grid b) | Some x ↦ logged_in at n x sweeps (begun at.grid b) ])
      by None = refl
      by (Some x) = ap Some (sweep_end x)

some_end : (a b : End) → Some a ≡ Some b → a ≡ b
some_end a b e = cc

-- one that is refused with some marks is answered ok with none
refused_anyhow : (at after : State) (n : ℕ) (r : Refusal) → SaysOnly at (Ok (n, sweeps)) (end.Refused r) after → (marks : List Mark) (d : Done)
    → does at (Ok (n, sweeps)) marks ≡ gives d → is_well d.reply.end ≡ true → ⊥
refused_anyhow at after n r says marks d does_so ok =
    let given : Some d.reply.end ≡ Some says.d.reply.end = sym (ap end_given does_so) ∙ same_end at n marks [] ∙ ap end_given says.does_so in
    let ended : d.reply.end ≡ end.Refused r = some_end d.reply.end says.d.reply.end given ∙ ap (λ (x : Reply). x.end) says.reply_is in
    let both : true ≡ false = sym ok ∙ ap is_well ended in
    absurd cc

-- ---- what is left behind it

pub on_ok : {T E P : Type 0} (result : Result T E) → P → OnOk result P
on_ok (Ok x) its = its
on_ok (Err e) its = tt

module _ {B : Type 0} (old new : World B) (before : Server) (n : ℕ) where
  -- one that was refused
  pub refused_few : (request : Request) → request ≡ Ok (n, sweeps) → (r : Refusal) (after : State)
      → SaysOnly (state_of before) (Ok (n, sweeps)) (end.Refused r) after
      → (result : Result ⊤ Ending) (server : Server) → SweepLeavesFew old new before request result server
  refused_few request is r after says (Ok done) server =
      let F : Request → Type 0 = λ q. SweepLeavesFew old new before q (Ok done) server in
      subst F (sym is) (λ marks d does_so ok. absurd (refused_anyhow (state_of before) after n r says marks d does_so ok))
  refused_few request is r after says (Err e) server = tt

  -- one that was done
  pub swept_few : (request : Request) → request ≡ Ok (n, sweeps) → (result : Result ⊤ Ending) (server : Server)
      → OnOk result (HasFewOrphans old new server.store.cat)
      → SweepLeavesFew old new before request result server
  swept_few request is (Ok done) server few =
      let F : Request → Type 0 = λ q. SweepLeavesFew old new before q (Ok done) server in
      subst F (sym is) (λ marks d does_so ok. few)
  swept_few request is (Err e) server few = tt

-- ---- other requests

-- something is said of what the verb leaves: it is that of a sweep, or ends the input
abbrev is_told : Verb → Bool
is_told verb.Sweep = true
is_told verb.Quit = true
is_told other = false

pub not_told : (v : Verb) → (v ≡ verb.Sweep → ⊥) → (v ≡ verb.Quit → ⊥) → is_told v ≡ false
not_told verb.Sweep no_sweep no_quit = absurd (no_sweep refl)
not_told verb.Quit no_sweep no_quit = absurd (no_quit refl)
not_told v no_sweep no_quit = refl

-- a verb that means a sweep is that one
sweeps_alone : (at : State) (v : Verb) (body : Text) (o : Order) → o ≡ sweeps → MeansOrder texts at v body o → is_told v ≡ true
sweeps_alone at verb.Sweep body o e m = refl
sweeps_alone at verb.Quit body o e m = refl
sweeps_alone at (verb.Rules count) body o e m = let is = m.2 in absurd cc
sweeps_alone at (verb.AddMeta kind name a v u) body o e m = let is = m.2 in absurd cc
sweeps_alone at (verb.RmMeta kind name a v u) body o e m = let is = m.2 in absurd cc
sweeps_alone at (verb.LsMeta kind name) body o e m = let is = m.2 in absurd cc
sweeps_alone at (verb.Query text) body o e m = let is = m.2 in absurd cc
sweeps_alone at (verb.Exec text) body o e m = let is = m.2 in absurd cc
sweeps_alone at other body o e m = absurd (cc (e, m))

-- and one that ends the input is the one that does
quits_alone : (at : State) (v : Verb) (body : Text) (o : Order) → o ≡ quits → MeansOrder texts at v body o → is_told v ≡ true
quits_alone at verb.Sweep body o e m = refl
quits_alone at verb.Quit body o e m = refl
quits_alone at (verb.Rules count) body o e m = let is = m.2 in absurd cc
quits_alone at (verb.AddMeta kind name a v u) body o e m = let is = m.2 in absurd cc
quits_alone at (verb.RmMeta kind name a v u) body o e m = let is = m.2 in absurd cc
quits_alone at (verb.LsMeta kind name) body o e m = let is = m.2 in absurd cc
quits_alone at (verb.Query text) body o e m = let is = m.2 in absurd cc
quits_alone at (verb.Exec text) body o e m = let is = m.2 in absurd cc
quits_alone at other body o e m = absurd (cc (e, m))

never : true ≡ false → ⊥
never e = cc

-- the request is no sweep, and does not end the input
abbrev IsOther : Request → Type 0
IsOther (Ok (n, sweeps)) = ⊥
IsOther (Ok (n, quits)) = ⊥
IsOther other = Unit {0}

order_other : (n : ℕ) (o : Order) → (o ≡ sweeps → ⊥) → (o ≡ quits → ⊥) → IsOther (Ok (n, o))
order_other n sweeps no_sweep no_quit = absurd (no_sweep refl)
order_other n quits no_sweep no_quit = absurd (no_quit refl)
order_other n o no_sweep no_quit = tt

-- of such a one nothing is said
few_anyhow : {B : Type 0} (old new : World B) (request : Request) (d : Done) (c : Cat) → IsOther request → LeavesFew old new request d c
few_anyhow old new (Ok (n, sweeps)) d c other = absurd other
few_anyhow old new (Ok (n, quits)) d c other = absurd other
few_anyhow old new request d c other = tt

module _ {B : Type 0} (old new : World B) (before : Server) (request : Request) (result : Result ⊤ Ending) (after : Server) where
  silent_few : IsOther request → SweepLeavesFew old new before request result after
  silent_few other = by result
    where
      by : (r : Result ⊤ Ending) → SweepLeavesFew old new before request r after
      by (Ok done) = λ marks d does_so. few_anyhow old new request d after.store.cat other
      by (Err e) = tt

  -- one that ends the input, where main was not called
  pub quit_few : (n : ℕ) → request ≡ Ok (n, quits) → new.main.holds ≡ old.main.holds → SweepLeavesFew old new before request result after
  quit_few n is same = by result
    where
      by : (r : Result ⊤ Ending) → SweepLeavesFew old new before request r after
      by (Ok done) =
          let F : Request → Type 0 = λ q. SweepLeavesFew old new before q (Ok done) after in
          subst F (sym is) (λ marks d does_so tells. same)
      by (Err e) = tt

  module _ (asked : Result model.Request Refusal) (body : Text) (asks : AsksForRequest (state_of before) asked body request) where
    -- its words were refused
    pub few_refused : (r : Refusal) → asked ≡ Err r → SweepLeavesFew old new before request result after
    few_refused r is =
        let A : Result model.Request Refusal → Type 0 = λ a. AsksForRequest (state_of before) a body request in
        silent_few (subst IsOther (sym (subst A is asks)) tt)

    -- its verb is another one
    pub few_other : (r : model.Request) (v : Verb) → asked ≡ Ok r → r.verb ≡ v → is_told v ≡ false → SweepLeavesFew old new before request result after
    few_other r v is verb_is other = silent_few (by (is_built v) (verb_asks (state_of before) asked body request r v is verb_is asks))
      where
        by : (b : Bool) → MatchBool b ((order : Order) × (request ≡ Ok (r.session, order)) × MeansHeld (state_of before) v body order)
            (request ≡ Err refusal.UnknownCommand) → IsOther request
        by true its =
            subst IsOther (sym its.1) (order_other r.session its.0 (λ e. never (sym (sweeps_alone (state_of before) v its.2.0 its.0 e its.2.1) ∙ other))
            (λ e. never (sym (quits_alone (state_of before) v its.2.0 its.0 e its.2.1) ∙ other)))
        by false its = subst IsOther (sym its) tt
