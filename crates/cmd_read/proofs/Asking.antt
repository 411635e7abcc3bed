-- Words that stand for values of the forms of a way ask in that way.
use Rattle.std.proofs.Common.{◌≡◌, true, false, List, [], ◌∷◌, refl, ap}
use Rattle.std.specs.Prelude.{is_some}
use Rattle.grid_model.specs.Names.{Text}
use Rattle.grid_model.proofs.Comparing.{same_text-Decides}
use Rattle.cmd_read.specs.Table.{Form, a_text, a_number, a_path, a_path_text, a_new_name, a_resource_or_none, a_mode, a_level, a_user_kind, a_coordinating_kind, a_state, a_kind_with_path, a_kind_with_name, the_word, FormValue, has_form, Means, VerbFrom, Way, way}
use Rattle.cmd_read.specs.Reading.{fits_forms, Makes, AsksFor}
use Rattle.grid_model.specs.declared.requests.Verb.{Verb}

pub means_form : (f : Form) (w : Text) (x : FormValue f) → Means f w x → has_form f w ≡ true
means_form a_text w x m = refl
means_form a_number w x m = ap is_some m
means_form a_path w x m = refl
means_form a_path_text w x m = refl
means_form a_new_name w x m = refl
means_form a_resource_or_none w x m = refl
means_form a_mode w x m = ap is_some m
means_form a_level w x m = ap is_some m
means_form a_user_kind w x m = ap is_some m
means_form a_coordinating_kind w x m = ap is_some m
means_form a_state w x m = ap is_some m
means_form a_kind_with_path w x m = ap is_some m
means_form a_kind_with_name w x m = ap is_some m
means_form (the_word t) w x m = (same_text-Decides t w).1 m

pub makes_fits : (fs : List Form) (ws : List Text) (v : VerbFrom fs) (verb : Verb) → Makes fs ws v verb → fits_forms fs ws ≡ true
makes_fits [] [] v verb m = refl
makes_fits [] (w ∷ ws) v verb m = absurd m
makes_fits (f ∷ fs) [] v verb m = absurd m
makes_fits (f ∷ fs) (w ∷ ws) v verb m = rw (means_form f w m.0 m.1, makes_fits fs ws (v m.0) verb m.2) refl

-- in the first way
pub asks_first : (fs : List Form) (v : VerbFrom fs) (others : List Way) (ws : List Text) (verb : Verb) → Makes fs ws v verb → AsksFor (way fs v ∷ others) ws verb
asks_first fs v others ws verb m = rw (makes_fits fs ws v verb m) m

-- in the second way, where they do not fit the first
pub asks_second : (fs gs : List Form) (u : VerbFrom fs) (v : VerbFrom gs) (others : List Way) (ws : List Text) (verb : Verb) → fits_forms fs ws ≡ false → Makes gs ws v verb → AsksFor (way fs u ∷ way gs v ∷ others) ws verb
asks_second fs gs u v others ws verb unfit m = rw (unfit, makes_fits gs ws v verb m) m
