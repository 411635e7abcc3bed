-- The requests of an input, one after another.
use Rattle.std.proofs.Common.{◌≡◌, false, List, [], ◌∷◌, ◌++◌, length, IsTrue, refl, sym, subst, ap, ◌∙◌, append_assoc}
use Rattle.std.proofs.lemmas.List.{append-nil}
use Rattle.grid_model.specs.Names.{Text}
use Rattle.grid_model.specs.Lines.{IsLine, is_request}
use Rattle.grid_model.specs.Inputs.{Asked, HasBody, Takes, none_taken, takes_one, takes_blank}

-- with more behind the input, more is left
pub Takes-more : {input left : Text} {asked : List Asked} (more : Text) → Takes input asked left → Takes (input ++ more) asked (left ++ more)
Takes-more more none_taken = none_taken
Takes-more more (takes_one {rest = rest} line body e is some has then) =
    takes_one line body (ap (λ (t : Text). t ++ more) e ∙ append_assoc (line ++ 0x0A ∷ body) rest more) is some has (Takes-more more then)
Takes-more more (takes_blank {rest = rest} line e is blank then) =
    takes_blank line (ap (λ (t : Text). t ++ more) e ∙ append_assoc line (0x0A ∷ rest) more) is blank (Takes-more more then)

-- what is left has more requests at its front
pub Takes-join : {input between left : Text} {asked more : List Asked} → Takes input asked between → Takes between more left → Takes input (asked ++ more) left
Takes-join none_taken second = second
Takes-join (takes_one line body e is some has then) second = takes_one line body e is some has (Takes-join then second)
Takes-join (takes_blank line e is blank then) second = takes_blank line e is blank (Takes-join then second)

-- one request more
pub push_request : (front line body : Text) (asked : List Asked) → Takes front asked [] → IsLine line → IsTrue (is_request line) → HasBody line (length body)
    → Takes (front ++ (line ++ 0x0A ∷ body)) (asked ++ (record { line = line; body = body }) ∷ []) []
push_request front line body asked takes is some has =
    Takes-join (Takes-more (line ++ 0x0A ∷ body) takes) (takes_one line body (sym (append-nil (line ++ 0x0A ∷ body))) is some has none_taken)

-- one line without words more
pub push_blank : (front line : Text) (asked : List Asked) → Takes front asked [] → IsLine line → is_request line ≡ false → Takes (front ++ (line ++ 0x0A ∷ [])) asked []
push_blank front line asked takes is blank =
    let P : List Asked → Type 0 = λ a. Takes (front ++ (line ++ 0x0A ∷ [])) a [] in
    subst P (append-nil asked) (Takes-join (Takes-more (line ++ 0x0A ∷ []) takes) (takes_blank line refl is blank none_taken))

-- the requests of a first part are those of the whole
pub takes_of : (input front rest : Text) (asked : List Asked) → input ≡ front ++ rest → Takes front asked [] → Takes input asked rest
takes_of input front rest asked split takes = let P : Text → Type 0 = λ t. Takes t asked rest in subst P (sym split) (Takes-more rest takes)
