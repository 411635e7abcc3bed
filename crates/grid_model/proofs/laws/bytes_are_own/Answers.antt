use Rattle.grid_model.proofs.laws.bytes_are_own.Goals as goal
use Rattle.grid_model.proofs.UploadBytes as uploads

pub returns : goal.returns
returns c = uploads.bytes_are_own
