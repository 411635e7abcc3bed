-- Puts on a sink, one after another.
use Rattle.std.proofs.Common.{◌≡◌, inl, inr, ℕ, ◌+◌, ◌≤◌, IsTrue, List, [], ◌++◌, length, take, arith, sym, subst, ap, ◌∙◌, append_assoc, length-append}
use Rattle.std.proofs.Math.Seq.{take-append-add}
use Rattle.std.proofs.lemmas.List.{append-nil, take-append-le}
use Rattle.std.proofs.lemmas.Bool.{cases_lt}
use Rattle.grid_outside.specs.Device.{Acts, Between, IsSettled}
use Rattle.grid_outside.specs.Sink.{SinkState, AddsPart}
use Rattle.grid_outside.proofs.Spans.{stays, acted, widens, goes_on, since_settled, leaves_start}
use Rattle.grid_vault.specs.Sending.{Grows, Puts, PutsAll}

pub Grows-same : (c : List ℕ) → Grows c c
Grows-same c = record { added = []; is = sym (append-nil c) }

pub Grows-on : (x y z : List ℕ) → Grows x y → Grows y z → Grows x z
Grows-on x y z one two = record { added = one.added ++ two.added; is = two.is ∙ ap (λ (xs : List ℕ). xs ++ two.added) one.is ∙ append_assoc x one.added two.added }

adds_none : (bytes held : List ℕ) → AddsPart bytes held held
adds_none bytes held = record { count = 0; within = omega arith; is = sym (append-nil held) }

-- nothing was put
pub puts_none : (from : ℕ) (bytes : List ℕ) (s : SinkState) → s.last ≤ from → Puts from from bytes s s
puts_none from bytes s last = record {
  span = stays from from Grows s last (omega arith) Grows-same;
  holds = λ tells. adds_none bytes s.holds;
  settled = λ tells settled. settled;
  any_moment = λ tells settled. leaves_start from (AddsPart bytes s.holds) s last settled (adds_none bytes s.holds);
}

-- these bytes were put at once
pub puts_one : (from to moment : ℕ) (bytes : List ℕ) (old new : SinkState) → old.last ≤ from → moment ≡ from + 1 → to ≡ from + 1 → old.faults ≤ new.faults → (IsTrue old.tells → IsSettled new) → Acts moment (AddsPart bytes) old new → Puts from to bytes old new
puts_one from to moment bytes old new last is to_is faults settles acts =
    let between : Between from to (AddsPart bytes) old new = acted from to moment (AddsPart bytes) old new last is (omega arith) faults acts in
    record {
      span = widens from to (AddsPart bytes) Grows old new (λ x y adds. record { added = take adds.count bytes; is = adds.is }) between;
      holds = acts.holds;
      settled = λ tells settled. settles tells;
      any_moment = λ tells settled. since_settled from to (AddsPart bytes) old new tells settled last between;
    }

-- more was put behind all of the first
adds_more : (first more held mid now : List ℕ) → mid ≡ held ++ first → AddsPart more mid now → AddsPart (first ++ more) held now
adds_more first more held mid now is adds = record {
  count = length first + adds.count;
  within = omega (arith, adds.within, length-append first more);
  is = adds.is ∙ ap (λ (xs : List ℕ). xs ++ take adds.count more) is ∙ append_assoc held first (take adds.count more) ∙ ap (λ (xs : List ℕ). held ++ xs) (sym (take-append-add first more adds.count));
}

-- a first part of the first is one of both
adds_first : (first more held now : List ℕ) → AddsPart first held now → AddsPart (first ++ more) held now
adds_first first more held now adds = record {
  count = adds.count;
  within = omega (arith, adds.within, length-append first more);
  is = adds.is ∙ ap (λ (xs : List ℕ). held ++ xs) (sym (take-append-le adds.count first more adds.within));
}

module _ (a b c : ℕ) (first more : List ℕ) (old mid new : SinkState) (ab : a ≤ b) (bc : b ≤ c) (one : PutsAll a b first old mid) where
  pub puts_on : Puts b c more mid new → Puts a c (first ++ more) old new
  puts_on two =
      let told = λ (tells : IsTrue old.tells). subst IsTrue (sym one.puts.span.tells) tells in
      record {
        span = goes_on a b c Grows Grows Grows old mid new ab bc (λ x y h. h) Grows-on one.puts.span two.span;
        holds = λ tells. adds_more first more old.holds mid.holds new.holds (one.all tells) (two.holds (told tells));
        settled = λ tells settled. two.settled (told tells) (one.puts.settled tells settled);
        any_moment = λ tells settled t image late left. elim (cases_lt b t) [
          | inl lt ↦ adds_more first more old.holds mid.holds image (one.all tells) (two.any_moment (told tells) (one.puts.settled tells settled) t image lt left)
          | inr le ↦ adds_first first more old.holds image (one.puts.any_moment tells settled t image late ((two.span.earlier t image le).0 left))
        ];
      }

  pub puts_all_on : PutsAll b c more mid new → PutsAll a c (first ++ more) old new
  puts_all_on two = record {
    puts = puts_on two.puts;
    all = λ tells. two.all (subst IsTrue (sym one.puts.span.tells) tells) ∙ ap (λ (xs : List ℕ). xs ++ more) (one.all tells) ∙ append_assoc old.holds first more;
  }
