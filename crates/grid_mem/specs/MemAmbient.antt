-- What an ambient in memory means, and what contracts see of it.
use Rattle.std.specs.Prelude.{ℕ, ◌-◌, ◌^◌, ◌&&◌, List, ◌++◌, length, take, replicate, nat_lt, slice_index_or}
use Rattle.grid_outside.specs.Ambient.{AmbientState}
use Rattle.grid_mem.specs.declared.mem_ambient.MemAmbient.{MemAmbient}

-- the first so many values: those listed, and then the last one
abbrev pub first_values : List ℕ → ℕ → ℕ → List ℕ
first_values listed last count = take count listed ++ replicate (count - length listed) last

-- Its meaning as an ambient. It tells while both counters are below their last value.
abbrev pub ambient_of : MemAmbient → AmbientState
ambient_of a = record {
  tells = nat_lt a.times_given (2 ^ 64 - 1) && nat_lt a.words_given (2 ^ 64 - 1);
  times = first_values a.times.items a.last_time a.times_given;
  words = first_values a.words.items a.last_word a.words_given;
}

-- the time that the call of this number gives, from 0
abbrev pub time_at : MemAmbient → ℕ → ℕ
time_at a number = slice_index_or a.times.items number a.last_time

-- the word that the call of this number gives, from 0
abbrev pub word_at : MemAmbient → ℕ → ℕ
word_at a number = slice_index_or a.words.items number a.last_word

-- how many times it has given
abbrev pub times_given_of : MemAmbient → ℕ
times_given_of a = a.times_given

-- how many words it has given
abbrev pub words_given_of : MemAmbient → ℕ
words_given_of a = a.words_given
