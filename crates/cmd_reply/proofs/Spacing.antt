-- Words with spaces between them, put together from the left.
use Rattle.std.proofs.Common.{◌≡◌, ℕ, ◌+◌, ◌<◌, List, [], ◌∷◌, ◌++◌, length, take, get_or, refl, sym, ap, ◌∙◌, append_assoc, map}
use Rattle.std.specs.Prelude.{codes, decimal}
use Rattle.std.specs.List.{flat_map}
use Rattle.std.proofs.lemmas.List.{append-nil, map_more, map-append}
use Rattle.std.proofs.lemmas.List.Concat.{flat_map-append}
use Rattle.grid_model.specs.Names.{Text}
use Rattle.grid_model.specs.Words.{quoted_word}
use Rattle.grid_model.specs.Printing.{spaced}
use Rattle.grid_model.specs.Replies.{bad_words, mark_words, end_words, passed_line, row_line}
use Rattle.grid_model.specs.declared.marks.BadReplica.{BadReplica}
use Rattle.grid_model.specs.declared.marks.Mark.TheVariants.{Ran}
use Rattle.grid_model.specs.declared.replies.End.TheVariants.{Done}
use Rattle.grid_model.specs.declared.replies.Passed.{Passed}
use Rattle.cmd_reply.specs.Spaced.{after_space}

-- the first word, and each other one behind a space
pub spaced-cons : (w : Text) (ws : List Text) → spaced (w ∷ ws) ≡ w ++ flat_map after_space ws
spaced-cons w [] = sym (append-nil w)
spaced-cons w (v ∷ ws) = ap (λ t. w ++ 0x20 ∷ t) (spaced-cons v ws)

pub spaced-push : (w : Text) (ws : List Text) (v : Text) → spaced (w ∷ ws ++ v ∷ []) ≡ spaced (w ∷ ws) ++ after_space v
spaced-push w ws v =
    spaced-cons w (ws ++ v ∷ []) ∙ ap (λ t. w ++ t) (flat_map-append after_space ws (v ∷ []) ∙ ap (λ t. flat_map after_space ws ++ t) (append-nil (after_space v)))
    ∙ sym (append_assoc w (flat_map after_space ws) (after_space v)) ∙ ap (λ t. t ++ after_space v) (sym (spaced-cons w ws))

-- one number more
pub counted_more : (old text new : Text) (name : Text) (ns : List ℕ) (i : ℕ) → i < length ns → text ≡ old ++ spaced (name ∷ map decimal (take i ns)) → new ≡ text ++ after_space (decimal (get_or ns i 0)) → new ≡ old ++ spaced (name ∷ map decimal (take (i + 1) ns))
counted_more old text new name ns i within so_far more =
    more ∙ ap (λ t. t ++ after_space (decimal (get_or ns i 0))) so_far ∙ append_assoc old (spaced (name ∷ map decimal (take i ns))) (after_space (decimal (get_or ns i 0)))
    ∙ ap (λ t. old ++ t) (sym (spaced-push name (map decimal (take i ns)) (decimal (get_or ns i 0))) ∙ ap (λ ws. spaced (name ∷ ws)) (sym (map_more decimal ns i 0 within)))

-- ---- what stands behind the texts that are written first

pub done_parts : (ws : List Text) → spaced (end_words (Done ws)) ≡ codes "ok" ++ flat_map after_space (map quoted_word ws)
done_parts ws = spaced-cons (codes "ok") (map quoted_word ws)

pub ran_parts : (word now : ℕ) (bad : List BadReplica) → spaced (mark_words (Ran word now bad)) ≡ spaced (codes "ran" ∷ map decimal (word ∷ now ∷ [])) ++ flat_map after_space (flat_map bad_words bad)
ran_parts word now bad =
    ap (λ t. codes "ran" ++ 0x20 ∷ (decimal word ++ 0x20 ∷ t)) (spaced-cons (decimal now) (flat_map bad_words bad))
    ∙ ap (λ t. codes "ran" ++ 0x20 ∷ t) (sym (append_assoc (decimal word) (0x20 ∷ decimal now) (flat_map after_space (flat_map bad_words bad))))

pub row_line_parts : (n : ℕ) (ws : List Text) → row_line n ws ≡ decimal n ++ codes " row" ++ flat_map after_space (map quoted_word ws) ++ 0x0A ∷ []
row_line_parts n ws =
    ap (λ t. decimal n ++ 0x20 ∷ t ++ 0x0A ∷ []) (spaced-cons (codes "row") (map quoted_word ws))
    ∙ ap (λ t. t ++ 0x0A ∷ []) (sym (append_assoc (decimal n) (codes " row") (flat_map after_space (map quoted_word ws))))

pub passed_line_parts : (n : ℕ) (p : Passed) → passed_line n p ≡ decimal n ++ codes " passed" ++ after_space (quoted_word p.call.name) ++ flat_map after_space (map quoted_word p.call.args) ++ after_space (quoted_word p.failure) ++ 0x0A ∷ []
passed_line_parts n p =
    ap (λ t. t ++ 0x0A ∷ [])
    (spaced-cons (decimal n) (codes "passed" ∷ map quoted_word (p.call.name ∷ p.call.args ++ p.failure ∷ []))
    ∙ ap (λ t. decimal n ++ (codes " passed" ++ (after_space (quoted_word p.call.name) ++ t))) last)
    ∙ simp append_assoc
  where
    last : flat_map after_space (map quoted_word (p.call.args ++ p.failure ∷ [])) ≡ flat_map after_space (map quoted_word p.call.args) ++ after_space (quoted_word p.failure)
    last =
        ap (flat_map after_space) (map-append quoted_word p.call.args (p.failure ∷ []))
        ∙ flat_map-append after_space (map quoted_word p.call.args) (quoted_word p.failure ∷ [])
        ∙ ap (λ t. flat_map after_space (map quoted_word p.call.args) ++ t) (append-nil (after_space (quoted_word p.failure)))

-- ---- two texts, one after the other

pub both : (old x y a b : Text) → a ≡ old ++ x → b ≡ a ++ y → b ≡ old ++ (x ++ y)
both old x y a b first then = then ∙ ap (λ t. t ++ y) first ∙ append_assoc old x y
