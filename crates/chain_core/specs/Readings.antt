-- Which calls are of micro-services, by the forms of their arguments.
use Rattle.std.specs.Prelude.{Bool, true, false, List, [], ◌∷◌, codes, is_some}
use Rattle.grid_model.specs.Names.{Text}
use Rattle.grid_model.specs.Services.{word_in, thing_words, level_words}
use Rattle.chain_core.specs.declared.services.Reading.{Reading}
use Rattle.chain_core.specs.declared.services.Reading.TheVariants.{Nop, Path, Paths, Place, Copy, Triple, Access}

-- the micro-services, with the forms of their arguments
abbrev pub readings : List (Text × Reading)
readings =
    (codes "nop", Nop)
    ∷ (codes "msiCollCreate", Path)
    ∷ (codes "msiRmColl", Path)
    ∷ (codes "msiDataObjRename", Paths)
    ∷ (codes "msiDataObjRepl", Place)
    ∷ (codes "msiDataObjChksum", Path)
    ∷ (codes "msiDataObjCopy", Copy)
    ∷ (codes "msiDataObjTrim", Place)
    ∷ (codes "msiDataObjUnlink", Path)
    ∷ (codes "msiAddAVU", Triple)
    ∷ (codes "msiRmAVU", Triple)
    ∷ (codes "msiSetACL", Access)
    ∷ []

-- the arguments are of the form
abbrev pub fits_reading : Reading → List Text → Bool
fits_reading Nop [] = true
fits_reading Path (p ∷ []) = true
fits_reading Paths (a ∷ b ∷ []) = true
fits_reading Place (p ∷ r ∷ []) = true
fits_reading Copy (a ∷ b ∷ r ∷ []) = true
fits_reading Triple (word ∷ name ∷ a ∷ v ∷ u ∷ []) = is_some (word_in thing_words word)
fits_reading Access (word ∷ name ∷ p ∷ []) = is_some (word_in level_words word)
fits_reading reading args = false
