use Rattle.std.proofs.Common.{[], ◌∷◌, ap}
use Rattle.grid_model.specs.Names.{Text}
use Rattle.grid_server.specs.Tasks.{to_serve}
use Rattle.grid_server.proofs.TaskLemmas.{serve_asked}
use Rattle.grid_server.proofs.words.is_serve.Goals as goal

pub returns : goal.returns
returns c = (λ yes. to_serve (ap (λ (t : Text). t ∷ []) (c.is_text.ensures.0 yes)), λ asked. c.is_text.ensures.1 (serve_asked c.args.word.now asked))
