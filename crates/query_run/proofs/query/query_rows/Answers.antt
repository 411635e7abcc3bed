use Rattle.std.proofs.Common.{◌≡◌, ap, ◌∙◌, rules}
use Rattle.std.specs.List.{list_all}
use Rattle.std.specs.List.Sorted.{IsSorted}
use Rattle.std.specs.Ordering.{is_lt}
use Rattle.std.specs.Cmp.Lexicographic.{pointwise}
use Rattle.std.proofs.lemmas.Fn.{always_returns_same}
use Rattle.std.proofs.lemmas.List.Filters.{dedup_is}
use Rattle.std.proofs.lemmas.List.Sorted.{ranks_by}
use Rattle.grid_model.specs.Names.{Path, path_cmp, same_text}
use Rattle.grid_model.specs.RowGrids.{grid_of, user_name}
use Rattle.grid_model.specs.Writable.{is_word}
use Rattle.grid_model.proofs.Comparing.{path_cmp_total}
use Rattle.plan_base.proofs.AtPaths.{user_known}
use Rattle.query_run.specs.Unsorted.{unsorted_rows}
use Rattle.query_run.proofs.Asked.{are_words}
use Rattle.query_run.proofs.Sorted.{all_members, left_there, rows_are}
use Rattle.query_run.proofs.query.query_rows.Goals as goal

pub unsorted_rows-requires-clause-user : goal.unsorted_rows-requires-clause-user
unsorted_rows-requires-clause-user c = user_known c.args.tables.now c.args.user c.requires.user

pub unsorted_rows-requires-clause-words : goal.unsorted_rows-requires-clause-words
unsorted_rows-requires-clause-words c = are_words c.args.tables.now.triples c.requires.spelled

pub returns-clause-rows : goal.returns-clause-rows
returns-clause-rows c =
    let t = c.args.tables.now in
    let rises : IsSorted path_cmp c.sort_by.new.self.items =
    c.in_ok-sort_by.ensures.sorted (λ x y. is_lt (path_cmp x y)) (ranks_by path_cmp_total (λ (x : Path). x))
    (always_returns_same _ (λ a r. is_lt r ≡ is_lt (path_cmp a.0.now a.1.0.now)) _ (λ a r f k. search rules)) in
    c.from_vec.ensures
    ∙ rows_are c.in_ok-rows.rows.items c.sort_by.new.self.items c.dedup.new.self.items c.in_ok-sort_by.ensures.permutation rises (dedup_is (pointwise same_text) _ _ c.dedup.ensures.filtered)
    (unsorted_rows (grid_of t) (user_name t c.args.user) c.args.query.now) c.in_ok-rows.ensures.rows

pub returns-clause-words : goal.returns-clause-words
returns-clause-words c =
    let rises : IsSorted path_cmp c.sort_by.new.self.items =
    c.in_ok-sort_by.ensures.sorted (λ x y. is_lt (path_cmp x y)) (ranks_by path_cmp_total (λ (x : Path). x))
    (always_returns_same _ (λ a r. is_lt r ≡ is_lt (path_cmp a.0.now a.1.0.now)) _ (λ a r f k. search rules)) in
    ap (list_all (list_all is_word)) c.from_vec.ensures
    ∙ all_members (list_all is_word) c.in_ok-rows.rows.items c.dedup.new.self.items
    (left_there c.in_ok-rows.rows.items c.sort_by.new.self.items c.dedup.new.self.items c.in_ok-sort_by.ensures.permutation rises (dedup_is (pointwise same_text) _ _ c.dedup.ensures.filtered))
    c.in_ok-rows.ensures.words
