-- The headline in its own words: opening an image again gives what opening the found catalogue gave, or the grid after a prefix of
-- the requests that holds each acknowledged one, then at most one interrupted command.
use Rattle.std.proofs.Common.{arith, append_assoc, ◌≡◌, ℕ, List, [], ◌++◌, Option, Some, None, refl, sym, ◌∙◌, ap, inl, inr}
use Rattle.std.specs.Prelude.{◌⊎◌, ◌<◌, Ok, length}
use Rattle.grid_model.specs.Names.{Text}
use Rattle.grid_model.specs.Rows.{Cat}
use Rattle.grid_model.specs.RuleText.{Rule}
use Rattle.grid_model.specs.Meanings.{gives}
use Rattle.grid_model.specs.Reopening.{reopened, reopened_by}
use Rattle.grid_model.specs.declared.deltas.Pending.{Pending}
use Rattle.grid_headline.specs.Worlds.{World, DevicesImage, LeavesDisks, LeavesFiles}
use Rattle.grid_headline.specs.Files.{AllStayWhole, WereWhole}
use Rattle.grid_outside.specs.Files.{Files}
use Rattle.grid_journal.specs.Stands.{Stands}
use Rattle.grid_headline.specs.Reads.{HasRules}
use Rattle.grid_headline.specs.Served.{Run, state_at, reached}
use Rattle.grid_headline.specs.Openings.{IsAsBefore, IsPrefix, OpensAgain}
use Rattle.grid_headline.specs.Stops.{OneImage, IsBeforeRun, IsInRun, IsSame, IsAtState}
use Rattle.grid_headline.proofs.Interrupted.{same_as_reopened}

-- so it is after any number of stops in reopening
pub as_before_again : (a b c : Cat) → IsAsBefore a b → IsAsBefore b c → IsAsBefore a c
as_before_again a b c x y = record {
  d = x.d ++ y.d;
  same = λ w. y.same w ∙ x.same (y.d ++ w) ∙ ap (λ ms. reopened a ms) (sym (append_assoc x.d y.d w));
}

module _ {known : ℕ → Type 0} {found : Cat} {input : Text} (run : Run known found input) where
  as_found : (c : Cat) (was now : Option Pending) → found.pending ≡ was → c.pending ≡ now → IsSame found run.report c was now → IsAsBefore found c
  as_found c None None e k grid = record {
    d = [];
    same = λ w. ap (λ (q : Option Pending). reopened_by c q w) k
        ∙ ap (λ g. gives (record { grid = g; passed = []; left = w })) grid
        ∙ ap (λ (q : Option Pending). reopened_by found q w) (sym e);
  }
  as_found c (Some was) (Some now) e k goes = record { d = goes.d; same = goes.same }
  as_found c None (Some now) e k never = absurd never
  as_found c (Some was) None e k never = absurd never

  in_run : (c : Cat) (count : ℕ) (now : Option Pending) → c.pending ≡ now → IsInRun run c count → IsAtState run c (reached run c count) now → IsPrefix run c count
  in_run c count None k r grid = record {
    n = reached run c count;
    within = r.within;
    holds = omega arith;
    near = omega (arith, r.near);
    leaves = inl (λ w. ap (λ (q : Option Pending). reopened_by c q w) k ∙ ap (λ g. gives (record { grid = g; passed = []; left = w })) grid);
  }
  in_run c count (Some p) k r i = record {
    n = reached run c count;
    within = r.within;
    holds = omega arith;
    near = omega (arith, r.near);
    leaves = inr (record {
      next = i.next;
      is_next = i.is_next;
      session = i.session;
      order = i.order;
      asks = i.asks;
      kept = p.marks;
      rest = i.kept.rest;
      are_kept = i.kept.are;
      same = λ w. sym (same_as_reopened run c p (reached run c count) k i w);
    });
  }

  pub headline : (old_sink : Text) (i : DevicesImage) (one : OneImage run old_sink i) → IsAsBefore found one.cat ⊎ IsPrefix run one.cat (length one.part)
  headline old_sink i one = by one.on_the_way
    where
      by : IsBeforeRun found run.report one.cat (length one.part) ⊎ IsInRun run one.cat (length one.part)
          → IsAsBefore found one.cat ⊎ IsPrefix run one.cat (length one.part)
      by (inl b) = inl (as_found one.cat found.pending one.cat.pending refl refl b.same)
      by (inr r) = inr (in_run one.cat (length one.part) one.cat.pending refl r r.at)

  pub opens_again : (old_sink : Text) (i : DevicesImage) → OneImage run old_sink i → OpensAgain run old_sink i
  opens_again old_sink i one = record { cat = one.cat; stands = one.stands; part = one.part; sink = one.sink; opens = headline old_sink i one }

  -- and the next run has rules to begin with
  pub rules_of : (old_sink : Text) (i : DevicesImage) (one : OneImage run old_sink i) → (rules : List Rule) × HasRules one.cat rules
  rules_of old_sink i one = by one.on_the_way
    where
      by : IsBeforeRun found run.report one.cat (length one.part) ⊎ IsInRun run one.cat (length one.part) → (rules : List Rule) × HasRules one.cat rules
      by (inl b) = (run.rules, b.rules ∙ run.rules_are)
      by (inr r) = ((state_at run (reached run one.cat (length one.part))).rules, r.rules)

-- ---- the next run

-- It finds all whole by what it finds on the disks, where its stores leave nothing but what the stop left of them.
pub next_whole : {B : Type 0} (new next : World B) (from t : ℕ) (main spare : Text) (c : Cat) → AllStayWhole new from → from < t
    → LeavesDisks new t main spare
    → Stands main spare (Ok c) → ((s slot : ℕ) (files : Files) → next.moments < s → LeavesFiles next s slot files → LeavesFiles new t slot files)
    → WereWhole next next.moments c
next_whole new next from t main spare c stay later left stand files s after =
    let a = stay t main spare c later left stand in
    record { rows = a.rows; call = a.call; files = λ slot image left_now. a.files slot image (files s slot image after left_now) }
