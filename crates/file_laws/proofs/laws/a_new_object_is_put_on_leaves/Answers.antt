use Rattle.file_laws.proofs.Publics.{put_is_plan}
use Rattle.file_laws.proofs.laws.a_new_object_is_put_on_leaves.Goals as goal

pub returns : goal.returns
returns c = put_is_plan
