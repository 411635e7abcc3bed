use Rattle.grid_model.specs.QueryTokens.{a_keyword, a_column, another}
use Rattle.query_parse.specs.Seen.{keyword_meant}
use Rattle.query_parse.proofs.words.kind_of.Goals as goal

pub returns-in-Some : goal.returns-in-Some
returns-in-Some c = a_keyword (keyword_meant c.in-Some.keyword) c.in-Some.ensures

pub returns-in-Some-column_of : goal.returns-in-Some-column_of
returns-in-Some-column_of c = a_column c.in-Some-column_of.column c.in-Some-column_of.ensures

pub returns-in-None-column_of : goal.returns-in-None-column_of
returns-in-None-column_of c = another c.in-None.ensures c.in-None-column_of.ensures
