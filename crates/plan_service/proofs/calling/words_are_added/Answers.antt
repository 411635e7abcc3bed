use Rattle.plan_service.proofs.AddedWords.{adds_words}
use Rattle.plan_service.proofs.calling.words_are_added.Goals as goal

pub returns : goal.returns
returns c = adds_words c.args.call.now c.requires
