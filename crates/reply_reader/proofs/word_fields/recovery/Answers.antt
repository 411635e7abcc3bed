use Rattle.reply_reader.proofs.WordFieldReading.{list_some, passed_unread, passed_words_unread, passed_read}
use Rattle.reply_reader.proofs.word_fields.recovery.Goals as goal

pub returns-in-Err : goal.returns-in-Err
returns-in-Err c = passed_unread c.args.text.now c.args.at c.in-Err.error c.in-Err.ensures

pub with_words-requires : goal.with_words-requires
with_words-requires c = list_some c.in-Ok-words.ensures.front.spelled c.in-Ok-words.words c.in-Ok-words.ensures.front.spells

pub returns-in-Ok-words : goal.returns-in-Ok-words
returns-in-Ok-words c =
    passed_read c.args.text.now c.args.at c.in-Ok.read.1 c.in-Ok-words.last c.in-Ok.read.0 c.in-Ok-words.words c.with_words.result c.in-Ok.ensures c.in-Ok-words.ensures c.with_words.ensures.name c.with_words.ensures.words

pub returns-in-Err-words : goal.returns-in-Err-words
returns-in-Err-words c = passed_words_unread c.args.text.now c.args.at c.in-Ok.read.1 c.in-Ok.read.0 c.in-Err-words.error c.in-Ok.ensures c.in-Err-words.ensures
