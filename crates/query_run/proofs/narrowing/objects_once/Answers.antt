use Rattle.std.proofs.Common.{ℕ, List, subst, ◌==◌}
use Rattle.std.proofs.lemmas.List.Filters.{dedup_is}
use Rattle.query_run.specs.Unsorted.{HasMembers}
use Rattle.query_run.proofs.Once.{once_members, once_rises}
use Rattle.query_run.proofs.narrowing.objects_once.Goals as goal

pub returns-clause-members : goal.returns-clause-members
returns-clause-members c =
    subst (λ (these : List ℕ). HasMembers c.dedup.new.self.items these) c.in_ok-ids.ensures
    (once_members c.in_ok-ids.ids.items c.sort_unstable.new.self.items c.dedup.new.self.items c.sort_unstable.ensures.permutation c.sort_unstable.ensures.sorted
    (dedup_is (λ m n. m == n) _ _ c.dedup.ensures.filtered))

pub returns-clause-rising : goal.returns-clause-rising
returns-clause-rising c =
    once_rises c.in_ok-ids.ids.items c.sort_unstable.new.self.items c.dedup.new.self.items c.sort_unstable.ensures.permutation c.sort_unstable.ensures.sorted
    (dedup_is (λ m n. m == n) _ _ c.dedup.ensures.filtered)
