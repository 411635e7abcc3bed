-- What the kinds of rows are counted as.
use Rattle.grid_tables.specs.declared.counts.Kind.{Kind}
use Rattle.grid_tables.specs.declared.counts.Kind.TheVariants as kind
use Rattle.grid_model.specs.declared.refusal.What.{What}
use Rattle.grid_model.specs.declared.refusal.What.TheVariants as what

-- what there are so many of as rows of a kind
abbrev pub what_of : Kind → What
what_of kind.Users = what.Users
what_of kind.Collections = what.Collections
what_of kind.Objects = what.Objects
what_of kind.Resources = what.Resources
what_of kind.Members = what.Members
what_of kind.Triples = what.Triples
what_of kind.Entries = what.Access
