-- Where the images of the scene's run are those that are meant, nothing in it is silent.
use Rattle.std.proofs.Common.{arith, ◌≡◌, ℕ, zero, suc, ◌+◌, [], ◌++◌}
use Rattle.std.proofs.Common.{Option, Some, None, length, refl, sym, ◌∙◌, ap, subst, inl, inr}
use Rattle.std.specs.Prelude.{◌⊎◌, ◌<◌, Ok, slice_get, codes}
use Rattle.std.specs.Fmt.{digits}
use Rattle.grid_model.specs.Names.{Text}
use Rattle.grid_model.specs.Rows.{Cat}
use Rattle.grid_model.specs.Runs.{Marked}
use Rattle.grid_model.specs.declared.deltas.Pending.{Pending}
use Rattle.grid_journal.specs.Stands.{Stands}
use Rattle.grid_headline.specs.Worlds.{World, DevicesImage, LeavesImage}
use Rattle.grid_headline.specs.Numbers.{AddsFew}
use Rattle.grid_headline.specs.Served.{reached}
use Rattle.grid_headline.specs.Silence.{IsBetween, IsLeft, NoneIsSilent}
use Rattle.grid_headline.proofs.Scene.{found}
use Rattle.grid_headline.proofs.PutStops.{run, before, within, behind, pending}

module _ (known : ℕ → Type 0) where
  -- the catalogue and the sink may be so, once so many requests are done
  pub data IsMeant (c : Cat) (sink : Text) : ℕ → Type 0 where
    at_start : c ≡ before known → sink ≡ [] → IsMeant c sink 0
    logged_in : c ≡ before known → sink ≡ codes "1 ok\n" → IsMeant c sink 1
    putting : c ≡ within known → sink ≡ codes "1 ok\n" → IsMeant c sink 1
    put : c ≡ behind known → sink ≡ codes "1 ok\n" → IsMeant c sink 2
    answered : c ≡ behind known → sink ≡ codes "1 ok\n2 mark ran 7 1000\n2 ok\n" → IsMeant c sink 2

  -- as many requests are done as the images say
  is_reached : (c : Cat) (sink : Text) (n : ℕ) → IsMeant c sink n → reached (run known) c (length sink) ≡ n
  unfolding digits
  is_reached c sink n (at_start e s) =
      subst (λ x. reached (run known) x (length sink) ≡ 0) (sym e)
      (subst (λ t. reached (run known) (before known) (length t) ≡ 0) (sym s) refl)
  is_reached c sink n (logged_in e s) =
      subst (λ x. reached (run known) x (length sink) ≡ 1) (sym e)
      (subst (λ t. reached (run known) (before known) (length t) ≡ 1) (sym s) refl)
  is_reached c sink n (putting e s) =
      subst (λ x. reached (run known) x (length sink) ≡ 1) (sym e)
      (subst (λ t. reached (run known) (within known) (length t) ≡ 1) (sym s) refl)
  is_reached c sink n (put e s) =
      subst (λ x. reached (run known) x (length sink) ≡ 2) (sym e)
      (subst (λ t. reached (run known) (behind known) (length t) ≡ 2) (sym s) refl)
  is_reached c sink n (answered e s) =
      subst (λ x. reached (run known) x (length sink) ≡ 2) (sym e)
      (subst (λ t. reached (run known) (behind known) (length t) ≡ 2) (sym s) refl)

  -- with nothing pending they are the catalogue before the put, or the one behind it
  abbrev at_rest : ℕ → Cat → Type 0
  at_rest zero c = c ≡ before known
  at_rest (suc zero) c = c ≡ before known
  at_rest (suc (suc n)) c = c ≡ behind known

  rests : (c : Cat) (sink : Text) (n : ℕ) → IsMeant c sink n → c.pending ≡ None → at_rest n c
  rests c sink n (at_start e s) none = e
  rests c sink n (logged_in e s) none = e
  rests c sink n (putting e s) none = let k : Some (pending known) ≡ None = sym (ap (λ (x : Cat). x.pending) e) ∙ none in absurd (cc k)
  rests c sink n (put e s) none = e
  rests c sink n (answered e s) none = e

  module _ {B : Type 0} (old new : World B) (empty : old.sink.holds ≡ []) (meant : (t : ℕ) (i : DevicesImage) (c : Cat) → old.moments < t → LeavesImage new t i
      → Stands i.main i.spare (Ok c) → (n : ℕ) × IsMeant c i.sink n) where
    between : (n : ℕ) (i : DevicesImage) (c : Cat) → IsBetween (run known) old new n i c → at_rest n c
    between n i c b =
        let m = meant b.moment i c b.in_run b.leaves b.stands in
        let e : i.sink ≡ b.part = b.sink ∙ ap (λ t. t ++ b.part) empty in
        let k : m.0 ≡ n = sym (is_reached c i.sink m.0 m.1) ∙ ap (λ t. reached (run known) c (length t)) e ∙ b.done in
        subst (λ x. at_rest x c) k (rests c i.sink m.0 m.1 b.none)

    one_catalogue : (n : ℕ) (c d : Cat) → at_rest n c → at_rest n d → c ≡ d
    one_catalogue zero c d e k = e ∙ sym k
    one_catalogue (suc zero) c d e k = e ∙ sym k
    one_catalogue (suc (suc n)) c d e k = e ∙ sym k

    few : (x y c d : Cat) (marks : ℕ) → c ≡ x → d ≡ y → AddsFew x y marks → AddsFew c d marks
    few x y c d marks e k a = subst (λ z. AddsFew z d marks) (sym e) (subst (λ z. AddsFew x z marks) (sym k) a)

    later : (n : ℕ) (c d : Cat) (m : Marked) → slice_get (run known).begun n ≡ Some m → at_rest n c → at_rest (n + 1) d → AddsFew c d (length m.marks)
    later zero c d m is e k = few (before known) (before known) c d (length m.marks) e k (record { rows = omega arith; numbers = omega arith })
    later (suc zero) c d m is e k =
        let l : length m.marks ≡ 1 = ap (λ (x : Option Marked). marks_in x) (sym is) in
        few (before known) (behind known) c d (length m.marks) e k (subst (λ x. AddsFew (before known) (behind known) x) (sym l) (record {
          rows =
              omega arith;
          numbers = omega arith;
        }))
      where
        marks_in : Option Marked → ℕ
        marks_in None = 0
        marks_in (Some x) = length x.marks
    later (suc (suc n)) c d m is e k =
        let more : suc (suc n) + 1 ≡ suc (suc (n + 1)) = omega arith in
        few (behind known) (behind known) c d (length m.marks) e (subst (λ x. at_rest x d) more k) (record {
          rows = omega arith;
          numbers = omega arith;
        })

    module _ (disks : (d : Cat) → IsLeft (run known) old new d → (d ≡ before known) ⊎ (d ≡ within known) ⊎ (d ≡ behind known)) where
      of_run_1 : (d : Cat) → (d ≡ before known) ⊎ (d ≡ within known) ⊎ (d ≡ behind known) → d.numbers.run ≡ 1
      of_run_1 d (inl e) = ap (λ (x : Cat). x.numbers.run) e
      of_run_1 d (inr (inl e)) = ap (λ (x : Cat). x.numbers.run) e
      of_run_1 d (inr (inr e)) = ap (λ (x : Cat). x.numbers.run) e

      in_put : (n : ℕ) (c d : Cat) (p : Pending) → at_rest n c → (d ≡ before known) ⊎ (d ≡ within known) ⊎ (d ≡ behind known) → d.pending ≡ Some p
          → p.number ≡ n + 1 → AddsFew c d (length p.marks + 1)
      in_put n c d p e (inl k) some number = let no : None ≡ Some p = sym (ap (λ (x : Cat). x.pending) k) ∙ some in absurd (cc no)
      in_put n c d p e (inr (inr k)) some number = let no : None ≡ Some p = sym (ap (λ (x : Cat). x.pending) k) ∙ some in absurd (cc no)
      in_put n c d p e (inr (inl k)) some number =
          let is : Some (pending known) ≡ Some p = sym (ap (λ (x : Cat). x.pending) k) ∙ some in
          let two : 2 ≡ p.number = ap (λ (x : Option Pending). number_in x) is in
          let one : 1 ≡ n = omega (arith, two, number) in
          few (before known) (within known) c d (length p.marks + 1) (subst (λ x. at_rest x c) (sym one) e) k (record {
            rows = omega arith;
            numbers = omega arith;
          })
        where
          number_in : Option Pending → ℕ
          number_in None = 0
          number_in (Some x) = x.number

      pub none_silent : NoneIsSilent (run known) old new
      none_silent = record {
        one_catalogue = λ n i j c d some loud b k. one_catalogue n c d (between n i c b) (between n j d k);
        within = λ n i c d p b of number some is. in_put n c d p (between n i c b) (disks d of) some is;
        later = λ n i j c d m is b k. later n c d m is (between n i c b) (between (n + 1) j d k);
        before_run = λ c of zero_run. let one = of_run_1 c (disks c of) in absurd (omega (arith, one, zero_run));
        opened = λ i c b. few found (before known) found c 0 refl (between 0 i c b) (record { rows = omega arith; numbers = omega arith });
      }
