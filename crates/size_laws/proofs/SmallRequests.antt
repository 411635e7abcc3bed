-- Operations with their points, requests and openings leave the grid within the limits.
use Rattle.std.proofs.Common.{ℕ, ◌+◌, Bool, true, false, List, [], Option, Some, None, Ok, Err, length, map, subst}
use Rattle.std.specs.Prelude.{nat_le}
use Rattle.grid_model.specs.Maps.{get}
use Rattle.grid_model.specs.Names.{Text, Path}
use Rattle.grid_model.specs.Grid.{Grid}
use Rattle.grid_model.specs.Limits.{object_size}
use Rattle.grid_model.specs.Refusing.{Or}
use Rattle.grid_model.specs.RuleText.{Rule, CallText}
use Rattle.grid_model.specs.Rows.{Cat}
use Rattle.grid_model.specs.RowGrids.{grid_of, user_name}
use Rattle.grid_model.specs.Values.{value, computed, is_short}
use Rattle.grid_model.specs.Meanings.{Meaning, gives}
use Rattle.grid_model.specs.Doing.{Course, Did, do_operation, back}
use Rattle.grid_model.specs.Chains.{Named, Stepped, begin_step, call_rule, counted, cuts, fails, goes_on, succeeds}
use Rattle.grid_model.specs.Operations.Table.{Operation}
use Rattle.grid_model.specs.Operations.Common.{needs_admin, is_person}
use Rattle.grid_model.specs.Points.{Point, point_of, pre_name, post_name, query_point}
use Rattle.grid_model.specs.Listings.{ls_rows, lsmeta_rows}
use Rattle.grid_model.specs.Sessions.{Session, State, Upload}
use Rattle.grid_model.specs.Orders.{Order, logs_in, logs_out, quits, works, sets_rules, shows_rules, sweeps, lists, lists_triples, opens}
use Rattle.grid_model.specs.Orders.{adds_part, closes, aborts, executes, queries}
use Rattle.grid_model.specs.Working.{Done, Worked, after_post, after_pre, after_work, begun, failure_of, operate, run_point, running, sent_by, with_points}
use Rattle.grid_model.specs.Working.{words_of, work}
use Rattle.grid_model.specs.Uploading.{close_operation, close_upload, has_upload, is_uploading, log_in, log_out, may_open, on_upload, open_upload, add_part}
use Rattle.grid_model.specs.Uploading.{abort_upload, with_upload}
use Rattle.grid_model.specs.Obeying.{after_exec, command, exec, exec_scope, listing, logged_in, no_env, not_logged_in, query_work, set_rules}
use Rattle.grid_model.specs.Obeying.{sweep}
use Rattle.grid_model.specs.Reopening.{Unwound, of_state, reopened_by, stopped_at}
use Rattle.grid_model.specs.Runs.{Request, does}
use Rattle.grid_model.specs.declared.calls.Call.{Call}
use Rattle.grid_model.specs.declared.deltas.Pending.{Pending}
use Rattle.grid_model.specs.declared.grid.Mode.{Mode}
use Rattle.grid_model.specs.declared.marks.Mark.{Mark}
use Rattle.grid_model.specs.declared.queries.Query.{Query}
use Rattle.grid_model.specs.declared.refusal.Failure.{Failure}
use Rattle.grid_model.specs.declared.refusal.Refusal.{Refusal}
use Rattle.size_laws.specs.Laws.{grid_left, grid_here}
use Rattle.size_laws.specs.Requests.{grid_named, grid_worked, grid_done, PointsKeepWithin, WorksKeepWithin, PointedKeepWithin, CommandsKeepWithin}
use Rattle.size_laws.specs.Requests.{RequestsKeepWithin, OpeningKeepsWithin}
use Rattle.size_laws.specs.Within.{IsWithin}
use Rattle.size_laws.proofs.Ending.{Ends, ends_next, ends_mapped, ends_either, ends_within, ends_of}
use Rattle.size_laws.proofs.SmallCalls.{operation_ends, back_ends}
use Rattle.size_laws.proofs.SmallRules.{grid_stepped, step_ends, names_end}

-- ---- operations with their points

point_ends : (rules : List Rule) (p : Option Point) (name : Point → Text) (s : Course) → IsWithin s.grid → Ends grid_left (run_point rules p name s)
point_ends rules None name s w = w
point_ends rules (Some p) name s w =
    ends_mapped grid_named grid_left (λ (n : Named). record { state = n.state; failure = failure_of n.outcome }) (call_rule rules p.env (name p) [] s)
    (names_end rules p.env (name p) [] s w) (λ n its. its)

work_ends : (c : Call) (user : Text) (op : Operation) (s : Course) → IsWithin s.grid → Ends grid_worked (work c user op s)
work_ends c user op s w =
    ends_mapped grid_left grid_worked
    (λ (d : Did). record { state = d.state; failure = d.failure; words = words_of s.grid user op; rows = []; sent = sent_by s user op })
    (do_operation c user op s) (operation_ends c user op s w) (λ d its. its)

-- whatever is done between the points
abbrev Keeps : (Course → Meaning Worked) → Type 0
Keeps operation = (t : Course) → IsWithin t.grid → Ends grid_worked (operation t)

module _ (at : State) (p : Option Point) where
  worked_ends : (w : Worked) (f : Option Failure) → IsWithin w.state.grid → Ends grid_done (after_work at p (record w { failure = f }))
  worked_ends w (Some f) its = its
  worked_ends w None its =
      ends_mapped grid_left grid_done (after_post at (record w { failure = None })) (run_point at.rules p post_name w.state)
      (point_ends at.rules p post_name w.state its) (λ d left. left)

  pre_ends : (operation : Course → Meaning Worked) → Keeps operation → (s : Course) (f : Option Failure) → IsWithin s.grid
      → Ends grid_done (after_pre at p operation (record { state = s; failure = f }))
  pre_ends operation keeps s (Some f) w = w
  pre_ends operation keeps s None w =
      ends_next grid_worked grid_done (operation s) (after_work at p) (keeps s w) (λ x its. worked_ends x x.failure its)

  points_end : (operation : Course → Meaning Worked) → Keeps operation → (s : Course) → IsWithin s.grid → Ends grid_done (with_points at p operation s)
  points_end operation keeps s w =
      ends_next grid_left grid_done (run_point at.rules p pre_name s) (after_pre at p operation) (point_ends at.rules p pre_name s w)
      (λ d its. pre_ends operation keeps d.state d.failure its)

operate_ends : (at : State) (user : Text) (op : Operation) (s : Course) → IsWithin s.grid → Ends grid_done (operate at user op s)
operate_ends at user op s w = points_end at (point_of s.grid user op) (work (running op) user op) (work_ends (running op) user op) s w

-- ---- single orders

exec_done : (at : State) (x : Stepped) → IsWithin (grid_stepped x) → IsWithin (grid_done (after_exec at x))
exec_done at (goes_on s) w = w
exec_done at (cuts s) w = w
exec_done at (succeeds s) w = w
exec_done at (fails s f halts) w = w

exec_ends : (at : State) (user : Text) (c : CallText) (s : Course) → IsWithin s.grid → Ends grid_done (exec at user c s)
exec_ends at user c s w =
    ends_either grid_done (is_short (computed (exec_scope user) s.grid c)) _ _
    (ends_mapped grid_stepped grid_done (after_exec at)
    (begin_step (call_rule at.rules (no_env user)) user (map (value (exec_scope user) s.grid) c.args) (computed (exec_scope user) s.grid c) (counted s))
    (step_ends (call_rule at.rules (no_env user)) (names_end at.rules (no_env user)) user (map (value (exec_scope user) s.grid) c.args)
    (computed (exec_scope user) s.grid c) (counted s) w)
    (λ x its. exec_done at x its)) w

-- one of two
either_done : (b : Bool) (d e : Done) → IsWithin d.state.grid → IsWithin e.state.grid → IsWithin (grid_done (elim b [ true ↦ d | false ↦ e ]))
either_done true d e h k = h
either_done false d e h k = k

log_in_done : (at : State) (n : ℕ) (user : Text) (s : Course) → IsWithin s.grid → IsWithin (grid_done (log_in at n user s))
log_in_done at n user s w =
    either_done (is_person (get s.grid.users user)) _ _ (either_done (has_upload (get at.sessions n)) _ _ w w) w

log_out_done : (at : State) (n : ℕ) (x : Session) (s : Course) → IsWithin s.grid → IsWithin (grid_done (log_out at n x s))
log_out_done at n x s w = either_done (is_uploading x) _ _ w w

-- behind a test that may refuse
asked_done : {A : Type 0} (t : Or A) (refused : Refusal → Done) (well : A → Done) → ((r : Refusal) → IsWithin (grid_done (refused r)))
    → ((x : A) → IsWithin (grid_done (well x))) → IsWithin (grid_done (elim t [ Err r ↦ refused r | Ok x ↦ well x ]))
asked_done (Err r) refused well h k = h r
asked_done (Ok x) refused well h k = k x

set_rules_done : (at : State) (x : Session) (rules : Or (List Rule)) (s : Course) → IsWithin s.grid → IsWithin (grid_done (set_rules at x rules s))
set_rules_done at x (Err r) s w = asked_done (needs_admin s.grid x.user) _ _ (λ _. w) (λ _. w)
set_rules_done at x (Ok rs) s w = asked_done (needs_admin s.grid x.user) _ _ (λ _. w) (λ _. w)

listing_done : (at : State) (rows : Or (List (List Text))) (s : Course) → IsWithin s.grid → IsWithin (grid_done (listing at rows s))
listing_done at (Ok rows) s w = w
listing_done at (Err r) s w = w

sweep_done : (at : State) (x : Session) (s : Course) → IsWithin s.grid → IsWithin (grid_done (sweep at x s))
sweep_done at x s w = asked_done (needs_admin s.grid x.user) _ _ (λ _. w) (λ _. w)

open_done : (at : State) (n : ℕ) (x : Session) (p : Path) (r : Text) (mode : Mode) (s : Course) → IsWithin s.grid
    → IsWithin (grid_done (open_upload at n x p r mode s))
open_done at n x p r mode s w = asked_done (may_open s.grid at.sessions x p r mode) _ _ (λ _. w) (λ _. w)

part_done : (at : State) (n : ℕ) (x : Session) (bytes : List ℕ) (u : Upload) (s : Course) → IsWithin s.grid → IsWithin (grid_done (add_part at n x bytes u s))
part_done at n x bytes u s w = either_done (nat_le (length u.bytes + length bytes) object_size) _ _ w w

upload_ends : (at : State) (user : Text) (upload : Option Upload) (f : Upload → Course → Meaning Done) (s : Course) → IsWithin s.grid
    → ((u : Upload) → Ends grid_done (f u s)) → Ends grid_done (on_upload at (record { user = user; upload = upload }) f s)
upload_ends at user None f s w each = w
upload_ends at user (Some u) f s w each = each u

query_ends : (user : Text) (q : Or Query) (s : Course) → IsWithin s.grid → Ends grid_worked (query_work user q s)
query_ends user (Err r) s w = w
query_ends user (Ok q) s w = w

-- ---- requests

logged_ends : (at : State) (n : ℕ) (x : Session) (order : Order) (s : Course) → IsWithin s.grid → Ends grid_done (logged_in at n x order s)
logged_ends at n x (logs_in user) s w = log_in_done at n user s w
logged_ends at n x logs_out s w = log_out_done at n x s w
logged_ends at n x quits s w = w
logged_ends at n x (works op count) s w = ends_either grid_done (nat_le count object_size) (operate at x.user op s) _ (operate_ends at x.user op s w) w
logged_ends at n x (sets_rules rules) s w = set_rules_done at x rules s w
logged_ends at n x (shows_rules text) s w = w
logged_ends at n x sweeps s w = sweep_done at x s w
logged_ends at n x (lists p) s w = listing_done at (ls_rows s.grid x.user p) s w
logged_ends at n x (lists_triples thing) s w = listing_done at (lsmeta_rows s.grid x.user thing) s w
logged_ends at n x (opens p r mode) s w = open_done at n x p r mode s w
logged_ends at n x (adds_part bytes) s w =
    upload_ends at x.user x.upload (λ u t. gives (add_part at n x bytes u t)) s w (λ u. part_done at n x bytes u s w)
logged_ends at n x closes s w =
    upload_ends at x.user x.upload (close_upload at n x) s w (λ u. operate_ends (with_upload at n x None) x.user (close_operation u) s w)
logged_ends at n x aborts s w = upload_ends at x.user x.upload (λ u t. gives (abort_upload at n x u t)) s w (λ u. w)
logged_ends at n x (executes (Err r)) s w = w
logged_ends at n x (executes (Ok c)) s w = exec_ends at x.user c s w
logged_ends at n x (queries q) s w = points_end at (query_point x.user) (query_work x.user q) (query_ends x.user q) s w

unlogged_ends : (at : State) (n : ℕ) (order : Order) (s : Course) → IsWithin s.grid → Ends grid_done (not_logged_in at n order s)
unlogged_ends at n (logs_in user) s w = log_in_done at n user s w
unlogged_ends at n quits s w = w
unlogged_ends at n other s w = w

obeyed_ends : (at : State) (n : ℕ) (order : Order) (s : Course) → IsWithin s.grid → (x : Option Session)
    → Ends grid_done (elim x [ None ↦ not_logged_in at n order s | Some x ↦ logged_in at n x order s ])
obeyed_ends at n order s w None = unlogged_ends at n order s w
obeyed_ends at n order s w (Some x) = logged_ends at n x order s w

command_ends : (at : State) (n : ℕ) (order : Order) (marks : List Mark) → IsWithin at.grid → Ends grid_done (command at n order marks)
command_ends at n order marks w = obeyed_ends at n order (begun at.grid marks) w (get at.sessions n)

does_ends : (at : State) (request : Request) (marks : List Mark) → IsWithin at.grid → Ends grid_done (does at request marks)
does_ends at (Err r) marks w = w
does_ends at (Ok (n, order)) marks w = command_ends at n order marks w

-- ---- openings

-- the grid of what recoveries left
abbrev grid_unwound : Unwound → Grid
grid_unwound u = u.grid

reopened_ends : (c : Cat) (p : Option Pending) (marks : List Mark) → IsWithin (grid_of c) → Ends grid_unwound (reopened_by c p marks)
reopened_ends c None marks w = w
reopened_ends c (Some p) marks w =
    ends_mapped grid_here grid_unwound of_state (back (user_name c p.user) p.undo (stopped_at (grid_of c) p.marks p.passed marks))
    (back_ends (user_name c p.user) p.undo (stopped_at (grid_of c) p.marks p.passed marks) w) (λ s its. its)

-- ---- the laws

pub points_keep_within : PointsKeepWithin
points_keep_within rules p name s w = ends_within grid_left (run_point rules p name s) (point_ends rules p name s w)

pub works_keep_within : WorksKeepWithin
works_keep_within c user op s w = ends_within grid_worked (work c user op s) (work_ends c user op s w)

pub pointed_keep_within : PointedKeepWithin
pointed_keep_within at p operation s keeps w =
    ends_within grid_done (with_points at p operation s) (points_end at p operation (λ t its. ends_of grid_worked (operation t) (keeps t its)) s w)

pub commands_keep_within : CommandsKeepWithin
commands_keep_within at n order marks w = ends_within grid_done (command at n order marks) (command_ends at n order marks w)

pub requests_keep_within : RequestsKeepWithin
requests_keep_within at request marks d w e = subst (Ends grid_done) e (does_ends at request marks w)

pub opening_keeps_within : OpeningKeepsWithin
opening_keeps_within c marks u w e = subst (Ends grid_unwound) e (reopened_ends c c.pending marks w)
