-- The rules of disks and stores on worked examples, by computation.
use Rattle.std.proofs.Common.{◌≡◌, true, false, [], ◌∷◌, Some, None, refl, lit≤, arith}
use Rattle.grid_outside.specs.Disk.{Holds, ReadsAt, Torn, Cut}
use Rattle.grid_outside.specs.DiskModel.{Unsynced, is_loose, synced_at, after_write, after_cut}
use Rattle.grid_outside.specs.Fault.{Rose}
use Rattle.grid_outside.specs.Files.{File}
use Rattle.grid_outside.specs.StoreModel.{exactly, there_or_not, anything, after_writing, after_removing}

-- ---- what calls of a disk do

-- two bytes over the last of three
a_write : Holds 2 (8 ∷ 9 ∷ []) (1 ∷ 2 ∷ 3 ∷ []) (1 ∷ 2 ∷ 8 ∷ 9 ∷ [])
a_write = refl

-- one byte over the first of three
a_short_write : Holds 0 (7 ∷ []) (1 ∷ 2 ∷ 3 ∷ []) (7 ∷ 2 ∷ 3 ∷ [])
a_short_write = refl

-- two bytes are left from place 1 on, so a buffer of three is filled with two
a_read : ReadsAt (1 ∷ 2 ∷ 3 ∷ []) 1 2 (2 ∷ 3 ∷ 0 ∷ [])
a_read = record { count_is = refl; same = refl }

-- nothing stands past the end
a_read_past_the_end : ReadsAt (1 ∷ 2 ∷ []) 5 0 (7 ∷ [])
a_read_past_the_end = record { count_is = refl; same = refl }

-- of two bytes that were to be written at the end, one came, and it is another
a_torn_write : Torn 1 2 (1 ∷ []) (1 ∷ 99 ∷ [])
a_torn_write = record { before = refl; after = refl; no_shorter = lit≤ tt; no_longer = lit≤ tt }

-- three bytes were to be cut to one, and two are left
a_half_cut : Cut 1 (1 ∷ 2 ∷ 3 ∷ []) (1 ∷ 2 ∷ [])
a_half_cut = record { no_shorter = lit≤ tt; front = refl }

-- ---- what is unsynced of a disk

-- a cut to one byte and a write of two bytes behind it, over a synced disk of three bytes
abbrev cut_and_written : Unsynced
cut_and_written = after_write 1 2 (after_cut 1 (synced_at (1 ∷ 2 ∷ 3 ∷ [])))

shortest_is_the_cut : cut_and_written.shortest ≡ 1
shortest_is_the_cut = refl

longest_is_the_old_end : cut_and_written.longest ≡ 3
longest_is_the_old_end = refl

longest_is_the_new_end : (after_write 2 4 (synced_at (1 ∷ 2 ∷ 3 ∷ []))).longest ≡ 6
longest_is_the_new_end = refl

not_written : is_loose cut_and_written 0 ≡ false
not_written = refl

written : is_loose cut_and_written 2 ≡ true
written = refl

past_the_synced_end : is_loose (synced_at (1 ∷ [])) 1 ≡ true
past_the_synced_end = refl

-- ---- what is known of a file

abbrev done : File
done = record { bytes = 1 ∷ []; finished = true }

abbrev half : File
half = record { bytes = 1 ∷ []; finished = false }

a_new_file : after_writing (exactly None) ≡ anything
a_new_file = refl

a_file_begun : after_writing (exactly (Some half)) ≡ anything
a_file_begun = refl

a_finished_file_stays : after_writing (exactly (Some done)) ≡ exactly (Some done)
a_finished_file_stays = refl

a_removal : after_removing (exactly (Some done)) ≡ there_or_not done
a_removal = refl

a_removal_of_nothing : after_removing (exactly None) ≡ exactly None
a_removal_of_nothing = refl

a_removal_of_what_was_begun : after_removing anything ≡ anything
a_removal_of_what_was_begun = refl

-- ---- faults

one_more : Rose 3 4
one_more = lit≤ tt

no_more : ¬ Rose 3 3
no_more h = omega (arith, h)

at_the_last_value : Rose 18446744073709551615 18446744073709551615
at_the_last_value = lit≤ tt
