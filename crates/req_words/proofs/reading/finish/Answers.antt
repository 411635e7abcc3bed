use Rattle.std.proofs.Common.{◌≡◌, [], ◌∷◌, refl, sym, subst, inl, inr}
use Rattle.std.specs.Prelude.{◌⊎◌}
use Rattle.std.proofs.lemmas.List.{append-nil}
use Rattle.grid_model.specs.Words.{line_end}
use Rattle.req_words.specs.Going.{EndsAt}
use Rattle.req_words.specs.declared.reading.Place.{Place}
use Rattle.req_words.specs.declared.reading.Place.TheVariants.{Gap, Closed}
use Rattle.req_words.proofs.Steps.{ended, no_words, bare_ends_line, last_bare}
use Rattle.req_words.proofs.reading.finish.Goals as goal

between : (place : Place) → (place ≡ Gap) ⊎ (place ≡ Closed) → EndsAt place []
between place (inl e) = subst (λ p. EndsAt p []) (sym e) (record { to = line_end; from = λ ws line. no_words [] ws line refl })
between place (inr e) = subst (λ p. EndsAt p []) (sym e) (record { to = (tt, line_end); from = λ ws line. no_words [] ws line.1 refl })

pub returns-in-Gap : goal.returns-in-Gap
returns-in-Gap c = ([], sym (append-nil c.args.words.now.items), between c.args.place c.in-Gap.is)

pub returns-in-Bare : goal.returns-in-Bare
returns-in-Bare c =
    let begun = c.in-Bare.word.items in (
      begun ∷ [],
      ended c.args.words.now.items c.push.new.self.items c.from_vec.result begun c.in_ok-push-in-Bare.ensures.items c.from_vec.ensures,
      subst (λ p. EndsAt p (begun ∷ [])) (sym c.in-Bare.is) (record { to = bare_ends_line begun; from = λ ws g. last_bare begun ws g }),
    )
