-- Where calls come to, of a doer and of what its caller lent to it.
use Rattle.std.proofs.Common.{◌≡◌, sym, ◌∙◌, ℕ}
use Rattle.grid_outside.specs.declared.outside.Outside.{Outside}
use Rattle.grid_journal.specs.Journal.{Journal}
use Rattle.chain_run.specs.Places.{Place}
use Rattle.service_run.specs.Commands.{place_by}
use Rattle.service_run.specs.declared.command.Command.{Command}
use Rattle.rule_run.specs.declared.calling.Calling.{Calling}
use Rattle.rule_run.specs.Calls.{Spot}

-- the spot with all this
abbrev pub spot : {D A P K : Type 0} → Outside D A P → K → Journal → Command → ℕ → Spot D A P K
spot outside sink rows command left = record { seen = record { outside = outside; sink = sink }; rows = rows; command = command; left = left }

-- where a doer is
abbrev pub spot_of : {D A P K : Type 0} → Calling D K A P → Spot D A P K
spot_of c = spot c.outside.now c.sink.now c.store.now c.command.now c.left

abbrev pub place_at : {D A P K : Type 0} → Spot D A P K → Place
place_at s = place_by s.rows.cat s.command

-- the same is lent to the one as to the other
abbrev pub LentAlike : {D A P K : Type 0} → Calling D K A P → Calling D K A P → Type 0
LentAlike c d =
    (d.store.ghost_name ≡ c.store.ghost_name)
    × (d.outside.ghost_name ≡ c.outside.ghost_name)
    × (d.sink.ghost_name ≡ c.sink.ghost_name)
    × (d.command.ghost_name ≡ c.command.ghost_name)

same_spot : {D A P K : Type 0} (a b : Spot D A P K) → a.seen.outside ≡ b.seen.outside → a.seen.sink ≡ b.seen.sink → a.rows ≡ b.rows
    → a.command ≡ b.command → a.left ≡ b.left → a ≡ b
same_spot a b outside sink rows command left = λ i. record {
  seen = record { outside = outside i; sink = sink i };
  rows = rows i;
  command = command i;
  left = left i;
}

-- A doer that begins over what was handed in, which has these names, is where that is.
pub begins_at : {D A P K : Type 0} (c : Calling D K A P) (s : Spot D A P K) (store outside sink command : ℕ)
    → (c.store.ghost_name ≡ store) × (c.store.now ≡ s.rows) → (c.outside.ghost_name ≡ outside) × (c.outside.now ≡ s.seen.outside)
    → (c.sink.ghost_name ≡ sink) × (c.sink.now ≡ s.seen.sink) → (c.command.ghost_name ≡ command) × (c.command.now ≡ s.command) → c.left ≡ s.left
    → spot_of c ≡ s
begins_at c s store outside sink command its_store its_outside its_sink its_command left =
    same_spot (spot_of c) s its_outside.1 its_sink.1 its_store.1 its_command.1 left

-- What was lent is, at the end, where the doer came.
pub ends_at : {D A P K : Type 0} (c d : Calling D K A P) (s : Spot D A P K) (store outside sink command : ℕ) → c.store.ghost_name ≡ store
    → c.outside.ghost_name ≡ outside → c.sink.ghost_name ≡ sink → c.command.ghost_name ≡ command → (store ≡ d.store.ghost_name → s.rows ≡ d.store.now)
    → (outside ≡ d.outside.ghost_name → s.seen.outside ≡ d.outside.now) → (sink ≡ d.sink.ghost_name → s.seen.sink ≡ d.sink.now)
    → (command ≡ d.command.ghost_name → s.command ≡ d.command.now) → d.left ≡ s.left → LentAlike c d → spot_of d ≡ s
ends_at c d s store outside sink command its_store its_outside its_sink its_command rows_are outside_is sink_is command_is left alike =
    same_spot (spot_of d) s (sym (outside_is (sym (alike.1 ∙ its_outside)))) (sym (sink_is (sym (alike.2 ∙ its_sink))))
    (sym (rows_are (sym (alike.0 ∙ its_store)))) (sym (command_is (sym (alike.3 ∙ its_command)))) left
