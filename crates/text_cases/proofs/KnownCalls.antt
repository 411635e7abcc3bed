-- What known calls do on an empty grid.
use Rattle.std.proofs.Common.{◌≡◌, ◌<◌, length, get_or, arith, List, [], ◌∷◌, ◌++◌, Option, Some, None, Ok, Err, refl, sym, ap, ◌∙◌, subst, append-nil}
use Rattle.std.proofs.lemmas.List.{map_push}
use Rattle.std.specs.Prelude.{codes}
use Rattle.std.specs.Option.{option_map_or}
use Rattle.grid_model.specs.Names.{Text}
use Rattle.grid_model.specs.Printing.{print_failure}
use Rattle.grid_model.specs.Services.{Service, service, services, word_in, nothing, no_path}
use Rattle.grid_model.specs.Doing.{do_service}
use Rattle.grid_model.specs.declared.calls.Call.{Call}
use Rattle.grid_model.specs.declared.replies.Passed.{Passed}
use Rattle.chain_run.specs.Places.{Place, Performs, Recovers, course_at}
use Rattle.text_cases.specs.Known.{no_path_failure, empty_grid, noted_as, WantsPath}

-- where a doer is that works for this user and noted these recoveries
abbrev pub place_of : Text → List Call → Place
place_of user refused = record { user = user; grid = empty_grid; taken = []; passed = noted_as refused }

pub same_place : (u v : Text) (cs ds : List Call) → v ≡ u → ds ≡ cs → place_of v ds ≡ place_of u cs
same_place u v cs ds users calls = λ i. place_of (users i) (calls i)

-- ---- calls

pub nop_performs : (c : Call) (p q : Place) → q ≡ p → service c ≡ Some nothing → Performs c (Ok tt) p q
nop_performs c p q same is = subst (Performs c (Ok tt) p) (sym same) (record {
  user = refl;
  marks = [];
  taken = sym (append-nil p.taken);
  did = λ later begun stopped. (stopped, ap (λ x. do_service c p.user x (course_at p later begun stopped)) is);
})

pub refused_performs : (c : Call) (p q : Place) → q ≡ p → service c ≡ Some (no_path 0) → Performs c (Err no_path_failure) p q
refused_performs c p q same is = subst (Performs c (Err no_path_failure) p) (sym same) (record {
  user = refl;
  marks = [];
  taken = sym (append-nil p.taken);
  did = λ later begun stopped. (stopped, ap (λ x. do_service c p.user x (course_at p later begun stopped)) is);
})

-- ---- recoveries

pub nop_recovers : (c : Call) (p q : Place) → q ≡ p → service c ≡ Some nothing → Recovers c None p q
nop_recovers c p q same is = subst (Recovers c None p) (sym same) (record {
  brings = record {
    user = refl;
    marks = [];
    taken = sym (append-nil p.taken);
    did = λ later begun stopped. (
      stopped,
      record {
        state = course_at p later begun stopped;
        done = ap (λ x. do_service c p.user x (course_at p later begun stopped)) is;
        left = refl;
      },
    );
  };
  unstopped = refl;
})

-- one more recovery is noted
abbrev pub passing : Place → Call → Place
passing p c = record p { passed = p.passed ++ record { call = c; failure = print_failure no_path_failure } ∷ [] }

pub passed_on : (u v : Text) (c : Call) (cs ds : List Call) → v ≡ u → ds ≡ cs ++ c ∷ [] → place_of v ds ≡ passing (place_of u cs) c
passed_on u v c cs ds users calls =
    same_place u v (cs ++ c ∷ []) ds users calls
    ∙ ap (λ (ps : List Passed). let p : Place = record { user = u; grid = empty_grid; taken = []; passed = ps } in p)
    (map_push (λ d. record { call = d; failure = print_failure no_path_failure }) cs c)

pub refused_recovers : (c : Call) (p q : Place) → q ≡ passing p c → service c ≡ Some (no_path 0) → Recovers c (Some no_path_failure) p q
refused_recovers c p q same is = subst (Recovers c (Some no_path_failure) p) (sym same) (record {
  brings = record {
    user = refl;
    marks = [];
    taken = sym (append-nil p.taken);
    did = λ later begun stopped. (
      stopped,
      record {
        state = course_at p later begun stopped;
        done = ap (λ x. do_service c p.user x (course_at p later begun stopped)) is;
        left = refl;
      },
    );
  };
  unstopped = refl;
})

-- ---- what calls are

service_by : Text → List Text → Option Service
service_by n args = option_map_or (λ reads. reads args) (word_in services n) None

pub nop_is : (c : Call) → c.name ≡ codes "nop" → c.args ≡ [] → service c ≡ Some nothing
unfolding service_by
nop_is c name args = ap (λ n. service_by n c.args) name ∙ ap (service_by (codes "nop")) args

pub create_wants : (n : Text) → n ≡ codes "msiCollCreate" → WantsPath n
create_wants n is = subst WantsPath (sym is) refl

pub remove_wants : (n : Text) → n ≡ codes "msiRmColl" → WantsPath n
remove_wants n is = subst WantsPath (sym is) refl

pub unlink_wants : (n : Text) → n ≡ codes "msiDataObjUnlink" → WantsPath n
unlink_wants n is = subst WantsPath (sym is) refl

-- a list of one text
pub only_one : (xs : List Text) (t : Text) → 0 < length xs → length xs < 2 → t ≡ get_or xs 0 t → xs ≡ t ∷ []
only_one [] t some few is = absurd (omega (arith, some))
only_one (x ∷ []) t some few is = ap (λ y. y ∷ []) (sym is)
only_one (x ∷ y ∷ zs) t some few is = absurd (omega (arith, few))

pub path_is : (c : Call) (t : Text) → WantsPath c.name → c.args ≡ t ∷ [] → t ≡ [] → service c ≡ Some (no_path 0)
unfolding service_by
path_is c t wants args none = ap (service_by c.name) (args ∙ ap (λ x. x ∷ []) none) ∙ wants
