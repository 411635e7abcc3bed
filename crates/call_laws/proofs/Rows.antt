-- Rows and the command, from one call to the next.
use Rattle.std.proofs.Common.{ℕ, ◌+◌, List, [], ◌++◌, length, sym, ap, ◌∙◌, subst, append_assoc, length-append}
use Rattle.std.proofs.lemmas.List.{append-nil}
use Rattle.grid_model.specs.Rows.{Cat}
use Rattle.grid_model.specs.declared.marks.Mark.{Mark}
use Rattle.grid_headline.specs.Files.{KeepsNamed}
use Rattle.grid_headline.specs.Stops.{AreFirst}
use Rattle.count_laws.proofs.GivenNumbers.{gives_then}
use Rattle.run_laws.proofs.Images.{keeps-then}
use Rattle.service_run.specs.Commands.{KeepsBeside}

-- ---- rows

pub named_then : (a b c : Cat) → KeepsNamed a b → KeepsNamed b c → KeepsNamed a c
named_then a b c one two slot name named = two slot name (one slot name named)

pub beside_then : (a b c : Cat) (j k : ℕ) → KeepsBeside a b j → KeepsBeside b c k → KeepsBeside a c (j + k)
beside_then a b c j k one two = record {
  run = two.run ∙ one.run;
  last = two.last ∙ one.last;
  rules = two.rules ∙ one.rules;
  stores = two.stores ∙ one.stores;
  keeps = keeps-then a b c one.keeps two.keeps;
  few = gives_then one.few two.few;
  named = named_then a b c one.named two.named;
  within = λ within. two.within (one.within within);
  users = λ id is. two.users id (one.users id is);
  names = λ id is. two.names id (one.users id is) ∙ one.names id is;
}

-- behind some marks and others
pub beside_marks : (a b c : Cat) (taken marks : List Mark) → KeepsBeside a b (length taken) → KeepsBeside b c (length marks)
    → KeepsBeside a c (length (taken ++ marks))
beside_marks a b c taken marks one two =
    subst (KeepsBeside a c) (sym (length-append taken marks)) (beside_then a b c (length taken) (length marks) one two)

-- ---- the first of some marks

pub first_all : (marks : List Mark) → AreFirst marks marks
first_all marks = record { rest = []; are = sym (append-nil marks) }

pub first_front : (some more all : List Mark) → AreFirst (some ++ more) all → AreFirst some all
first_front some more all first = record { rest = more ++ first.rest; are = first.are ∙ append_assoc some more first.rest }

pub first_then : (some more all : List Mark) → AreFirst some more → AreFirst more all → AreFirst some all
first_then some more all one two = record {
  rest = one.rest ++ two.rest;
  are = two.are ∙ ap (λ (ms : List Mark). ms ++ two.rest) one.are ∙ append_assoc some one.rest two.rest;
}
