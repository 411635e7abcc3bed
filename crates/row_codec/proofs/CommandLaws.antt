-- The readers of what a command has that is not done.
use Rattle.std.proofs.Common.{◌≡◌, ℕ, true, false, Bool, List, [], ◌∷◌, ◌++◌, Option, Some, None, Ok, refl, subst}
use Rattle.grid_model.specs.Names.{Text}
use Rattle.grid_model.specs.Deltas.{Part, all_fit, joined, whole, code, flag, u8, u64, digest, each, call, bad_replica, mark, passed, running_call, pending}
use Rattle.grid_model.specs.declared.calls.Call.{Call}
use Rattle.grid_model.specs.declared.marks.BadReplica.{BadReplica}
use Rattle.grid_model.specs.declared.marks.Mark.{Mark}
use Rattle.grid_model.specs.declared.marks.Mark.TheVariants as marks
use Rattle.row_codec.specs.declared.tags.MarkTag.{MarkTag}
use Rattle.row_codec.specs.declared.tags.MarkTag.TheVariants as tags
use Rattle.row_codec.specs.Codes.{mark_number}
use Rattle.row_codec.specs.Rows.{call_at, bad_at, ran_at, fault_at, bad_read_at, mark_of, mark_at, passed_at, running_if, running_at, pending_at}
use Rattle.row_codec.proofs.ReaderLaws.{IsPart, IsRow, Any, IsRow-then, IsRow-give, IsPart-whole, Behind, Arm, arm, lone_arm, behind, IsRow-behind}
use Rattle.row_codec.proofs.FieldLaws.{byte_part, u32_part, u64_part, digest_part}
use Rattle.row_codec.proofs.ListLaws.{list_part}
use Rattle.row_codec.proofs.CodeLaws.{flag_part, mark_part}
use Rattle.row_codec.proofs.RowLaws.{shown, shown_is}

pub call_is : IsRow call_at Any call
unfolding call_at
call_is =
    IsRow-then (λ r. r.name) shown (λ name.
    IsRow-then (λ r. r.args) (list_part shown_is) (λ args.
    IsRow-give _ ((tt, refl), refl) (λ b h i. record { name = h.0.1 i; args = h.1 i })))

pub bad_is : IsRow bad_at Any bad_replica
unfolding bad_at
bad_is =
    IsRow-then (λ r. r.number) u32_part (λ number.
    IsRow-then (λ r. r.len) u64_part (λ len.
    IsRow-then (λ r. r.found) digest_part (λ found.
    IsRow-give _ (((tt, refl), refl), refl) (λ b h i. record { number = h.0.0.1 i; len = h.0.1 i; found = h.1 i }))))

pub passed_is : IsRow passed_at Any passed
unfolding passed_at
passed_is =
    IsRow-then (λ r. r.call) (IsPart-whole call_is) (λ call.
    IsRow-then (λ r. r.failure) shown (λ failure.
    IsRow-give _ ((tt, refl), refl) (λ b h i. record { call = h.0.1 i; failure = h.1 i })))

abbrev ran_row : ℕ × ℕ × List BadReplica → List Part
ran_row m = u64 m.0 ∷ u64 m.1 ∷ each bad_replica m.2 ∷ []

ran_is : IsRow ran_at Any ran_row
unfolding ran_at
ran_is =
    IsRow-then (λ m. m.0) u64_part (λ word.
    IsRow-then (λ m. m.1) u64_part (λ now.
    IsRow-then (λ m. m.2) (list_part bad_is) (λ bad.
    IsRow-give _ (((tt, refl), refl), refl) (λ b h i. (h.0.0.1 i, h.0.1 i, h.1 i)))))

abbrev fault_row : ℕ × ℕ → List Part
fault_row m = u8 m.0 ∷ u64 m.1 ∷ []

fault_is : IsRow fault_at Any fault_row
unfolding fault_at
fault_is =
    IsRow-then (λ m. m.0) byte_part (λ slot.
    IsRow-then (λ m. m.1) u64_part (λ parts.
    IsRow-give _ ((tt, refl), refl) (λ b h i. (h.0.1 i, h.1 i))))

abbrev bad_read_row : ℕ × ℕ × Text × ℕ → List Part
bad_read_row m = u8 m.0 ∷ u64 m.1 ∷ digest m.2 ∷ u64 m.3 ∷ []

bad_read_is : IsRow bad_read_at Any bad_read_row
unfolding bad_read_at
bad_read_is =
    IsRow-then (λ m. m.0) byte_part (λ slot.
    IsRow-then (λ m. m.1) u64_part (λ len.
    IsRow-then (λ m. m.2) digest_part (λ found.
    IsRow-then (λ m. m.3) u64_part (λ parts.
    IsRow-give _ ((((tt, refl), refl), refl), refl) (λ b h i. (h.0.0.0.1 i, h.0.0.1 i, h.0.1 i, h.1 i))))))

-- ---- marks, each behind its tag

abbrev mark_tag : Mark → MarkTag
mark_tag (marks.Ran word now bad) = tags.Ran
mark_tag (marks.Fault slot parts) = tags.Fault
mark_tag (marks.Bad slot len found parts) = tags.Bad
mark_tag marks.Stop = tags.Stop

abbrev mark_body : Mark → List Part
mark_body (marks.Ran word now bad) = u64 word ∷ u64 now ∷ each bad_replica bad ∷ []
mark_body (marks.Fault slot parts) = u8 slot ∷ u64 parts ∷ []
mark_body (marks.Bad slot len found parts) = u8 slot ∷ u64 len ∷ digest found ∷ u64 parts ∷ []
mark_body marks.Stop = []

ran_arm : Arm mark_of mark_body (λ (m : ℕ × ℕ × List BadReplica). marks.Ran m.0 m.1 m.2) tags.Ran
unfolding mark_of
ran_arm = arm mark_of mark_body _ tags.Ran refl ran_is (λ r. refl)

fault_arm : Arm mark_of mark_body (λ (m : ℕ × ℕ). marks.Fault m.0 m.1) tags.Fault
unfolding mark_of
fault_arm = arm mark_of mark_body _ tags.Fault refl fault_is (λ r. refl)

bad_arm : Arm mark_of mark_body (λ (m : ℕ × ℕ × Text × ℕ). marks.Bad m.0 m.1 m.2 m.3) tags.Bad
unfolding mark_of
bad_arm = arm mark_of mark_body _ tags.Bad refl bad_read_is (λ r. refl)

stop_arm : Arm mark_of mark_body (λ (m : Unit {0}). marks.Stop) tags.Stop
unfolding mark_of
stop_arm = lone_arm mark_of mark_body marks.Stop tags.Stop refl refl

behind_tag : (t : MarkTag) → Behind mark_of mark_tag mark_body t
behind_tag tags.Ran = behind mark_of mark_tag mark_body _ tags.Ran ran_arm (λ r. refl)
behind_tag tags.Fault = behind mark_of mark_tag mark_body _ tags.Fault fault_arm (λ r. refl)
behind_tag tags.Bad = behind mark_of mark_tag mark_body _ tags.Bad bad_arm (λ r. refl)
behind_tag tags.Stop = behind mark_of mark_tag mark_body _ tags.Stop stop_arm (λ r. refl)

mark_again : (m : Mark) (rest : Text) → all_fit (mark_body m) ≡ true → mark_of (mark_tag m) (joined (mark_body m) ++ rest) ≡ Ok (m, rest)
mark_again (marks.Ran word now bad) rest fits = ran_arm.law.again _ rest ((word, now, bad), refl, fits)
mark_again (marks.Fault slot parts) rest fits = fault_arm.law.again _ rest ((slot, parts), refl, fits)
mark_again (marks.Bad slot len found parts) rest fits = bad_arm.law.again _ rest ((slot, len, found, parts), refl, fits)
mark_again marks.Stop rest fits = stop_arm.law.again _ rest (tt, refl, fits)

tagged_mark : (m : Mark) → code (mark_number (mark_tag m)) ∷ mark_body m ≡ mark m
tagged_mark (marks.Ran word now bad) = refl
tagged_mark (marks.Fault slot parts) = refl
tagged_mark (marks.Bad slot len found parts) = refl
tagged_mark marks.Stop = refl

mark_is : IsRow mark_at Any mark
unfolding mark_at
mark_is = subst (λ (row : Mark → List Part). IsRow mark_at Any row) (λ i m. tagged_mark m i) (IsRow-then mark_tag mark_part (IsRow-behind mark_of mark_tag mark_body behind_tag mark_again))

-- ---- the call that runs, behind its flag

abbrev is_there : Option Call → Bool
is_there None = false
is_there (Some c) = true

abbrev running_body : Option Call → List Part
running_body None = []
running_body (Some c) = call c

no_call : Arm running_if running_body (λ (r : Unit {0}). let o : Option Call = None in o) false
unfolding running_if
no_call = lone_arm running_if running_body None false refl refl

some_call : Arm running_if running_body (λ (c : Call). Some c) true
unfolding running_if
some_call = arm running_if running_body _ true refl call_is (λ r. refl)

behind_flag : (b : Bool) → Behind running_if is_there running_body b
behind_flag false = behind running_if is_there running_body _ false no_call (λ r. refl)
behind_flag true = behind running_if is_there running_body _ true some_call (λ r. refl)

running_again : (o : Option Call) (rest : Text) → all_fit (running_body o) ≡ true → running_if (is_there o) (joined (running_body o) ++ rest) ≡ Ok (o, rest)
running_again None rest fits = no_call.law.again _ rest (tt, refl, fits)
running_again (Some c) rest fits = some_call.law.again _ rest (c, refl, fits)

flagged_call : (o : Option Call) → whole (code (flag (is_there o)) ∷ running_body o) ≡ running_call o
flagged_call None = refl
flagged_call (Some c) = refl

running_part : IsPart running_at running_call
unfolding running_at
running_part = subst (λ (part : Option Call → Part). IsPart running_at part) (λ i o. flagged_call o i) (IsPart-whole (IsRow-then is_there flag_part (IsRow-behind running_if is_there running_body behind_flag running_again)))

pub pending_is : IsRow pending_at Any pending
unfolding pending_at
pending_is =
    IsRow-then (λ r. r.run) u64_part (λ run.
    IsRow-then (λ r. r.number) u64_part (λ number.
    IsRow-then (λ r. r.user) u32_part (λ user.
    IsRow-then (λ r. r.line) shown (λ line.
    IsRow-then (λ r. r.marks) (list_part mark_is) (λ marks.
    IsRow-then (λ r. r.passed) (list_part passed_is) (λ passed.
    IsRow-then (λ r. r.running) running_part (λ running.
    IsRow-then (λ r. r.undo) (list_part call_is) (λ undo.
    IsRow-give _ ((((((((tt, refl), refl), refl), refl), refl), refl), refl), refl) (λ b h i. record { run = h.0.0.0.0.0.0.0.1 i; number = h.0.0.0.0.0.0.1 i; user = h.0.0.0.0.0.1 i; line = h.0.0.0.0.1 i; marks = h.0.0.0.1 i; passed = h.0.0.1 i; running = h.0.1 i; undo = h.1 i })))))))))
