use Rattle.file_laws.proofs.Publics.{split_turns}
use Rattle.file_laws.proofs.laws.a_list_of_changes_is_split.Goals as goal

pub returns : goal.returns
returns c = split_turns
