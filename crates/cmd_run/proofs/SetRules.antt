-- Rules that are set and shown.
use Rattle.std.proofs.Common.{◌≡◌, ℕ, ◌<◌, Bool, true, false, List, [], None, Some, Ok, Err, length, map, refl, sym, ap, ◌∙◌, subst, arith}
use Rattle.std.proofs.lemmas.Simd.{map-map}
use Rattle.grid_model.specs.Bounds.{rules_size}
use Rattle.grid_model.specs.Checks.{first_fault, rules_faults}
use Rattle.grid_model.specs.Completing.{IsOfGrid}
use Rattle.grid_model.specs.Doing.{Course}
use Rattle.grid_model.specs.Levels.{is_admin}
use Rattle.grid_model.specs.Limits.{object_size}
use Rattle.grid_model.specs.Maps.{get}
use Rattle.grid_model.specs.Meanings.{gives}
use Rattle.grid_model.specs.Names.{Text}
use Rattle.grid_model.specs.Orders.{sets_rules, shows_rules}
use Rattle.grid_model.specs.Parsed.{plain_rule, rule_of}
use Rattle.grid_model.specs.Refusing.{Or, unless}
use Rattle.grid_model.specs.RowGrids.{grid_of, user_name}
use Rattle.grid_model.specs.RuleText.{Rule}
use Rattle.grid_model.specs.Runs.{Request, does}
use Rattle.grid_model.specs.Sessions.{State}
use Rattle.grid_model.specs.Working.{Done, answered, begun, done, refused_at_once, well}
use Rattle.grid_model.specs.declared.refusal.Refusal.{Refusal}
use Rattle.grid_model.specs.declared.refusal.Refusal.TheVariants as refusal
use Rattle.grid_model.specs.declared.replies.End.TheVariants as end
use Rattle.grid_model.specs.declared.replies.Reply.{Reply}
use Rattle.grid_model.specs.declared.rules.Rule as code
use Rattle.grid_outside.specs.Disk.{DiskState}
use Rattle.chain_core.specs.Seen.{plain_rules, rules_of}
use Rattle.chain_core.specs.declared.base.RuleBase.{RuleBase}
use Rattle.rule_parse.specs.Printed.{print_rules}
use Rattle.rule_parse.specs.RuleOrders.{ReadsRules, none, these, too_large}
use Rattle.sess.specs.Places.{at, user_of}
use Rattle.cmd_run.specs.declared.server.Server.{Server}
use Rattle.cmd_run.specs.Fits.{FitsMain, state_of}
use Rattle.cmd_run.specs.Obeys.{IsRefusedAtOnce, Says, SaysOnly}
use Rattle.cmd_run.specs.Rules.{BeginsToSet}
use Rattle.cmd_run.proofs.Operating.{same_done, with_login}
use Rattle.cmd_run.proofs.WorkingLemmas.{login, who}

module _ (s : Server) (session user : ℕ) (has : user_of (at s.sessions session) ≡ Some user) where
  abbrev now : State
  now = state_of s

  abbrev from : Course
  from = begun now.grid []

  -- ---- what setting rules does, by whether an administrator asks for it

  abbrev set_by : Or (List Rule) → Bool → Done
  set_by rules admin = elim (unless admin refusal.NotAdmin) [
    | Err r ↦ refused_at_once now from r
    | Ok _ ↦ elim rules [ Err r ↦ refused_at_once now from r | Ok rs ↦ answered (record now { rules = rs }) from well ]
  ]

  module _ (admin : Bool) (is : is_admin (get (grid_of s.store.cat).users (user_name s.store.cat user)) ≡ admin) where
    set_so : (rules : Or (List Rule)) → does now (Ok (session, sets_rules rules)) [] ≡ gives (set_by rules admin)
    set_so rules =
        with_login now session (sets_rules rules) [] (who s session user has) (login s session user has)
        ∙ ap (λ b. gives (set_by rules b)) is

    pub says_not_ruler : admin ≡ false → (rules : Or (List Rule)) → SaysOnly now (Ok (session, sets_rules rules)) (end.Refused refusal.NotAdmin) now
    says_not_ruler other rules = record {
      d = refused_at_once now from refusal.NotAdmin;
      does_so = set_so rules ∙ ap (λ b. gives (set_by rules b)) other;
      reply_is = refl;
      all = refl;
      state = refl;
      grid = refl;
      by_rows = tt;
    }

    pub says_no_rules : admin ≡ true → (r : Refusal) → IsOfGrid r → SaysOnly now (Ok (session, sets_rules (Err r))) (end.Refused r) now
    says_no_rules ruler r of_grid = record {
      d = refused_at_once now from r;
      does_so = set_so (Err r) ∙ ap (λ b. gives (set_by (Err r) b)) ruler;
      reply_is = refl;
      all = refl;
      state = refl;
      grid = refl;
      by_rows = of_grid;
    }

    pub begins_to_set : admin ≡ true → (rules : List Rule) → BeginsToSet now (Ok (session, sets_rules (Ok rules))) rules
    begins_to_set ruler rules = record {
      d = answered (record now { rules = rules }) from well;
      does_so = set_so (Ok rules) ∙ ap (λ b. gives (set_by (Ok rules) b)) ruler;
      reply_is = refl;
      all = refl;
      state = refl;
    }

  -- ---- what showing them does

  pub says_rules : (text : Text) → Says now (Ok (session, shows_rules text)) text [] well now
  says_rules text = record {
    d = done now from text [] None well;
    does_so = with_login now session (shows_rules text) [] (who s session user has) (login s session user has);
    reply_is = refl;
    all = refl;
    state = refl;
    grid = refl;
    by_rows = tt;
  }

-- ---- rules that are set

module _ (s : Server) (request : Request) (rules : List Rule) (sets : BeginsToSet (state_of s) request rules) where
  -- with this base of them, where they are kept already
  pub says_same : (base : RuleBase) → rules_of base ≡ rules → SaysOnly (state_of s) request well (state_of (record s { rules = base }))
  says_same base is = record {
    d = sets.d;
    does_so = sets.does_so;
    reply_is = sets.reply_is;
    all = sets.all;
    state = sets.state ∙ ap (λ (rs : List Rule). record (state_of s) { rules = rs }) (sym is);
    grid = ap (λ (x : State). x.grid) sets.state;
    by_rows = tt;
  }

  pub set_not_refused : ¬ IsRefusedAtOnce (state_of s) request
  set_not_refused r =
      let same : sets.d ≡ r.d = same_done sets.d r.d (sym sets.does_so ∙ r.does_so) in
      let ended : sets.d.reply.end ≡ well = ap (λ (x : Reply). x.end) sets.reply_is in
      let refused : r.d.reply.end ≡ end.Refused r.why = ap (λ (x : Reply). x.end) r.reply_is in
      let both : well ≡ end.Refused r.why = sym ended ∙ ap (λ (d : Done). d.reply.end) same ∙ refused in
      absurd cc

-- ---- bases of rules

-- what they mean
pub base_rules : (base : RuleBase) (rules : List code.Rule) → base.rules ≡ rules → rules_of base ≡ map plain_rule (map rule_of rules)
base_rules base rules is = ap plain_rules is ∙ sym (map-map plain_rule rule_of rules)

-- with one of checked rules a server fits
pub fits_ruled : (main : DiskState) (s : Server) (base : RuleBase) (rules : List code.Rule) → base.rules ≡ rules
    → first_fault (rules_faults (map rule_of rules)) ≡ None → FitsMain main s → s.store.cat.rules ≡ print_rules (map plain_rule (map rule_of rules))
    → FitsMain main (record s { rules = base })
fits_ruled main s base rules is checked fits printed = record {
  held = fits.held;
  staged = fits.staged;
  pending = fits.pending;
  rules = printed ∙ ap print_rules (sym (base_rules base rules is));
  checked = subst (λ (rs : List code.Rule). first_fault (rules_faults (map rule_of rs)) ≡ None) (sym is) checked;
  users = fits.users;
}

-- ---- texts of rules

-- one that has more bytes than an object may have is refused
pub never_read : (text : Text) (rules : Or (List Rule)) → ReadsRules text rules → object_size < length text → rules ≡ Err (refusal.TooLarge rules_size)
never_read text rules (these rs short spells is) long = absurd (omega (arith, short, long))
never_read text rules (none short refused) long = absurd (omega (arith, short, long))
never_read text rules (too_large more) long = refl
