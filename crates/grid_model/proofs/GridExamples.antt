-- The definitions of requests, replies and the catalogue on worked examples.
use Rattle.std.proofs.Common.{◌≡◌, true, false, [], ◌∷◌, ◌++◌, Ok, Err, refl, lit≤}
use Rattle.std.specs.Prelude.{codes, decimal, map, replicate}
use Rattle.grid_model.specs.Names.{Text, Path}
use Rattle.grid_model.specs.Grid.{start_grid, Object}
use Rattle.grid_model.specs.Lines.{is_request}
use Rattle.grid_model.specs.Inputs.{Takes, none_taken, takes_blank, ends_in_line, AreRequests, PromisesBody}
use Rattle.grid_model.specs.Printing.{spaced, print_refusal, print_failure}
use Rattle.grid_model.specs.DataLines.{data_lines, parts, parts_within}
use Rattle.grid_model.specs.Replies.{end_words, mark_words, passed_line, row_line}
use Rattle.grid_model.specs.Digests.{checksum}
use Rattle.base64.specs.Rfc4648.{encode_symbols}
use Rattle.std.specs.Fmt.{digits}
use Rattle.grid_model.specs.Printing.{line}
use Rattle.grid_model.specs.Writable.{is_word, is_writable_end}
use Rattle.grid_model.specs.Words.{quoted_word}
use Rattle.grid_model.specs.declared.refusal.Refusal.TheVariants.{NoUser, NoLogin, NoCollection, NoObject, NoResource, Exists, TooLarge, NoReplica, BadRule, BadTree, TooMany, Truncated, Damaged}
use Rattle.grid_model.specs.declared.refusal.What.TheVariants.{Objects}
use Rattle.grid_model.specs.declared.refusal.TreeCause.TheVariants.{Cycle}
use Rattle.grid_model.specs.declared.marks.Mark.TheVariants.{Ran, Fault, Bad, Stop}
use Rattle.grid_model.specs.declared.refusal.RuleCause.TheVariants.{Unknown}
use Rattle.grid_model.specs.declared.refusal.Failure.TheVariants.{Refused, Spent}
use Rattle.grid_model.specs.declared.replies.End.TheVariants as end
use Rattle.grid_model.specs.declared.replies.End.TheVariants.{Done, PreFailed, PostFailed, Failed, Stopped}

-- ---- lines

a_line_of_spaces : is_request (codes "   ") ≡ false
a_line_of_spaces = refl

a_line_with_a_word : is_request (codes "  a") ≡ true
a_line_with_a_word = refl

-- one that is too long counts even without words
a_long_line_of_spaces : is_request (replicate 4097 0x20) ≡ true
a_long_line_of_spaces = refl

the_longest_line_of_spaces : is_request (replicate 4096 0x20) ≡ false
the_longest_line_of_spaces = refl

-- a line without words, and the rest
a_blank_first : Takes (codes " \n0 x\n") [] (codes "0 x\n")
a_blank_first = takes_blank (codes " ") refl ((λ e. cc), tt) refl none_taken

-- the last line needs no newline
an_unended_line : AreRequests (codes "0 x") (record { line = codes "0 x"; body = [] } ∷ [])
an_unended_line = record {
  whole = [];
  left = codes "0 x";
  last = record { line = codes "0 x"; body = [] } ∷ [];
  takes = none_taken;
  ends = ends_in_line ((λ e. cc), ((λ e. cc), ((λ e. cc), tt))) refl;
  are = refl;
}

-- the last word is the count
a_promise : PromisesBody (codes "0" ∷ codes "rules" ∷ decimal 7 ∷ []) 7
a_promise = record {
  session = codes "0";
  verb = codes "rules";
  more = decimal 7 ∷ [];
  words_are = refl;
  has_one = refl;
  front = codes "0" ∷ codes "rules" ∷ [];
  last_is = refl;
  small = lit≤ tt;
}

-- ---- replies

an_answer : spaced (end_words (Done [])) ≡ codes "ok"
an_answer = refl

a_refusal : spaced (end_words (end.Refused NoCollection)) ≡ codes "err NoCollection"
a_refusal = refl

two_causes : print_refusal (BadRule 0 Unknown) ≡ codes "BadRule " ++ decimal 0 ++ codes " Unknown"
two_causes = refl

a_refused_step : spaced (end_words (PreFailed (Refused NoReplica))) ≡ codes "err PreFailed NoReplica"
a_refused_step = refl

an_empty_word : spaced (map quoted_word (codes "kept" ∷ codes "alone" ∷ [] ∷ [])) ≡ codes "kept alone \"\""
an_empty_word = refl

a_quoted_failure : spaced (map quoted_word (codes "nop" ∷ codes "Fault 1" ∷ [])) ≡ codes "nop \"Fault 1\""
a_quoted_failure = refl

a_refused_tree : print_refusal (BadTree Cycle) ≡ codes "BadTree Cycle"
a_refused_tree = refl

too_many : print_refusal (TooMany Objects 7) ≡ codes "TooMany objects " ++ decimal 7
too_many = refl

a_body_cut_short : print_refusal (Truncated 1 2) ≡ codes "Truncated 1 2"
unfolding digits
a_body_cut_short = refl

-- the digest that is recorded comes before the one that was found
a_damaged_file : print_refusal (Damaged 0 3 (replicate 32 0) 4 (replicate 32 1))
    ≡ spaced (codes "Damaged" ∷ decimal 0 ∷ decimal 3 ∷ checksum (replicate 32 0) ∷ decimal 4 ∷ checksum (replicate 32 1) ∷ [])
a_damaged_file = refl

no_steps_left : print_failure Spent ≡ codes "Spent"
no_steps_left = refl

an_end_with_words : spaced (end_words (Done (codes "a b" ∷ []))) ≡ codes "ok \"a b\""
an_end_with_words = refl

a_failed_point : spaced (end_words (PostFailed Spent)) ≡ codes "err PostFailed Spent"
a_failed_point = refl

a_failed_rule : spaced (end_words (Failed Spent)) ≡ codes "err Spent"
a_failed_rule = refl

a_stopped_command : spaced (end_words Stopped) ≡ codes "err Stopped"
a_stopped_command = refl

a_deed_done : mark_words (Ran 5 1000 (record { number = 2; len = 3; found = replicate 32 0 } ∷ []))
    ≡ codes "ran" ∷ decimal 5 ∷ decimal 1000 ∷ codes "bad" ∷ decimal 2 ∷ decimal 3 ∷ checksum (replicate 32 0) ∷ []
a_deed_done = refl

a_store_failed : mark_words (Fault 1 2) ≡ codes "fault" ∷ decimal 1 ∷ decimal 2 ∷ []
a_store_failed = refl

a_bad_file : mark_words (Bad 1 2 (replicate 32 0) 3) ≡ codes "bad" ∷ decimal 1 ∷ decimal 2 ∷ checksum (replicate 32 0) ∷ decimal 3 ∷ []
a_bad_file = refl

a_stop : mark_words Stop ≡ codes "stop" ∷ []
a_stop = refl

a_refused_recovery : passed_line 3 (record { call = record { name = codes "msi"; args = codes "/x" ∷ [] ∷ [] }; failure = codes "Fault 1" })
    ≡ line 3 (codes "passed" ∷ codes "msi" ∷ codes "/x" ∷ codes "\"\"" ∷ codes "\"Fault 1\"" ∷ [])
a_refused_recovery = refl

a_row : row_line 3 (codes "C" ∷ codes "/a b" ∷ []) ≡ line 3 (codes "row" ∷ codes "C" ∷ codes "\"/a b\"" ∷ [])
a_row = refl

-- a newline is no byte of a word
no_word : is_word (codes "a\nb") ≡ false
no_word = refl

-- a refusal that stands alone is the end Refused, and not Failed
no_failure_of_its_own : is_writable_end (Failed (Refused NoReplica)) ≡ false
no_failure_of_its_own = refl

a_point_refused : is_writable_end (PreFailed (Refused NoReplica)) ≡ true
a_point_refused = refl

-- SHA-256 of no bytes (FIPS 180-4), in the standard alphabet with padding
checksum_of_nothing : checksum (0xE3 ∷ 0xB0 ∷ 0xC4 ∷ 0x42 ∷ 0x98 ∷ 0xFC ∷ 0x1C ∷ 0x14 ∷ 0x9A ∷ 0xFB ∷ 0xF4 ∷ 0xC8 ∷ 0x99 ∷ 0x6F ∷ 0xB9 ∷ 0x24
    ∷ 0x27 ∷ 0xAE ∷ 0x41 ∷ 0xE4 ∷ 0x64 ∷ 0x9B ∷ 0x93 ∷ 0x4C ∷ 0xA4 ∷ 0x95 ∷ 0x99 ∷ 0x1B ∷ 0x78 ∷ 0x52 ∷ 0xB8 ∷ 0x55 ∷ [])
    ≡ codes "sha2:47DEQpj8HBSa+/TImW+5JCeuQeRkm5NMpJWZG3hSuFU="
unfolding encode_symbols
checksum_of_nothing = refl

parts_of_no_bytes : parts 0 ≡ 0
parts_of_no_bytes = refl

one_whole_part : parts 65536 ≡ 1
one_whole_part = refl

one_byte_more : parts 65537 ≡ 2
one_byte_more = refl

no_bytes_no_line : data_lines 3 [] ≡ []
no_bytes_no_line = refl

one_part : parts_within 3 (codes "abc") ≡ codes "abc" ∷ []
one_part = refl
