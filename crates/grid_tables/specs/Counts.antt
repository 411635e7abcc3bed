-- Counts and ids of rows.
use Rattle.std.specs.Prelude.{ℕ, List, [], length, map}
use Rattle.grid_model.specs.Rows.{Cat}
use Rattle.grid_tables.specs.declared.counts.Kind.{Kind}
use Rattle.grid_tables.specs.declared.counts.Kind.TheVariants.{Users, Collections, Objects, Resources, Members, Triples, Entries}

-- how many rows of a kind there are
abbrev pub count_of : Cat → Kind → ℕ
count_of c Users = length c.users
count_of c Collections = length c.collections
count_of c Objects = length c.objects
count_of c Resources = length c.resources
count_of c Members = length c.members
count_of c Triples = length c.triples
count_of c Entries = length c.entries

-- their ids, for the kinds that have such
abbrev pub ids_of : Cat → Kind → List ℕ
ids_of c Users = map (λ r. r.id) c.users
ids_of c Collections = map (λ r. r.id) c.collections
ids_of c Objects = map (λ r. r.id) c.objects
ids_of c Resources = map (λ r. r.id) c.resources
ids_of c Members = []
ids_of c Triples = []
ids_of c Entries = []
