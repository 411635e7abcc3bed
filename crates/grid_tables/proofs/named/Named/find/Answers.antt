use Rattle.std.proofs.Common.{◌≡◌, List, None, sym, ap, ◌∙◌}
use Rattle.std.specs.Prelude.{find, ◌&&◌}
use Rattle.std.specs.List.{list_any}
use Rattle.std.specs.Option.{option_copied}
use Rattle.grid_tables.specs.Indexes.{is_placed}
use Rattle.grid_tables.specs.Places.{passes}
use Rattle.grid_tables.proofs.Children.{found_by_key, none_by_key, placed_alone}
use Rattle.grid_tables.proofs.named.Named.find.Goals as goal

found : (g : _) (c : goal.After-get g) → option_copied c.get.result ≡ find (λ r. is_placed g.T.Placed.parent g.T.Placed.name c.args.parent c.args.name.now r) c.self.inside.rows
found g c =
    c.get.ensures.row
    ∙ found_by_key g.T.Numbered.number g.T.Placed.parent g.T.Placed.name g.T.Row.row_cmp g.met.T.Row.total g.met.T.Numbered.by_number c.self.inside.rows c.len-count.ensures.table.ordered
    c.self.inside.keys c.self.invariant
    c.args.parent c.args.name.now c.in-Some.key.now c.in-Some.ensures

none_found : (g : _) (c : goal.In-None g) → None ≡ find (λ r. is_placed g.T.Placed.parent g.T.Placed.name c.args.parent c.args.name.now r) c.self.inside.rows
none_found g c =
    none_by_key g.T.Numbered.number g.T.Placed.parent g.T.Placed.name g.T.Row.row_cmp g.met.T.Row.total g.met.T.Numbered.by_number c.self.inside.rows c.len-count.ensures.table.ordered
    c.self.inside.keys c.self.invariant
    c.args.parent c.args.name.now c.in-None.ensures

pub returns-in-Some-clause-row : goal.returns-in-Some-clause-row
returns-in-Some-clause-row g c =
    found g c ∙ ap (λ (l : List g.row.T.Denot). find (λ r. is_placed g.T.Placed.parent g.T.Placed.name c.args.parent c.args.name.now r) l) c.self.view_is

pub returns-in-Some-clause-alone : goal.returns-in-Some-clause-alone
returns-in-Some-clause-alone g c = λ test.
    ap (λ (l : List g.row.T.Denot). list_any (λ r. is_placed g.T.Placed.parent g.T.Placed.name c.args.parent c.args.name.now r && test r) l) (sym c.self.view_is)
    ∙ placed_alone g.T.Numbered.number g.T.Placed.parent g.T.Placed.name g.T.Row.row_cmp g.met.T.Row.total g.met.T.Numbered.by_number c.self.inside.rows c.len-count.ensures.table.ordered
    c.self.inside.keys c.self.invariant
    c.args.parent c.args.name.now test
    ∙ ap (passes test) (sym (found g c))

pub returns-in-None-clause-row : goal.returns-in-None-clause-row
returns-in-None-clause-row g c =
    none_found g c ∙ ap (λ (l : List g.row.T.Denot). find (λ r. is_placed g.T.Placed.parent g.T.Placed.name c.args.parent c.args.name.now r) l) c.self.view_is

pub returns-in-None-clause-alone : goal.returns-in-None-clause-alone
returns-in-None-clause-alone g c = λ test.
    ap (λ (l : List g.row.T.Denot). list_any (λ r. is_placed g.T.Placed.parent g.T.Placed.name c.args.parent c.args.name.now r && test r) l) (sym c.self.view_is)
    ∙ placed_alone g.T.Numbered.number g.T.Placed.parent g.T.Placed.name g.T.Row.row_cmp g.met.T.Row.total g.met.T.Numbered.by_number c.self.inside.rows c.len-count.ensures.table.ordered
    c.self.inside.keys c.self.invariant
    c.args.parent c.args.name.now test
    ∙ ap (passes test) (sym (none_found g c))
