use Rattle.std.proofs.Common.{◌^◌, ◌≤◌, IsTrue}
use Rattle.text_cases.proofs.requests.of_input.Given as goal

-- a request is read only where so much of the input is taken at most
abbrev pub invariant-loop : goal.invariant-loop
invariant-loop l = IsTrue l.goes_on → l.requests.taken ≤ 2 ^ 48
