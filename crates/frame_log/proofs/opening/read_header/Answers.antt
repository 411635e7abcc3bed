use Rattle.std.proofs.Common.{◌≡◌, ◌≤◌, ◌+◌, ℕ, List, length, arith, inl, inr, sym, subst, IsTrue}
use Rattle.grid_outside.specs.Disk.{ReadsAt}
use Rattle.frame_log.proofs.Headers.{gate_missing, header_read, length_cut, body_cut}
use Rattle.frame_log.proofs.opening.read_header.Goals as goal
use Rattle.frame_log.proofs.opening.read_header.Goals.{then-count-lt-SIZE-via-then-count-lt-SIZE, then-count-lt-SIZE-via-else-count-lt-SIZE+then-rest, then-count-lt-SIZE-via-else-count-lt-SIZE+else-rest+then-len-rest}

pub returns-then-branch-eq0-clause-broken : goal.returns-then-branch-eq0-clause-broken
returns-then-branch-eq0-clause-broken g c at is tells before =
    let bytes = (g.D.Disk.disk c.args.disk.now).holds in
    let read = c.in_ok-read.ensures.bytes tells in
    let end : c.args.end ≡ length bytes = c.requires.end tells in
    let count : c.in_ok-read.field-0 ≡ _ = read.count_is in
    let past : length bytes ≤ c.args.gate = elim c.then-branch-eq0.either [ inl none ↦ omega (arith, read.count_is) | inr both ↦ omega arith ] in
    gate_missing before c.args.gate at bytes past (cc)

pub returns-then-count-lt-SIZE-clause-broken : goal.returns-then-count-lt-SIZE-clause-broken
returns-then-count-lt-SIZE-clause-broken g c at is tells before =
    let bytes = (g.D.Disk.disk c.args.disk.now).holds in
    let place : at ≡ c.args.gate + 1 = cc in
    let still = subst IsTrue (sym c.read.ensures.looks.tells) tells in
    let P : List ℕ → Type 0 = λ b. ReadsAt b (c.args.gate + 1) c.in_ok-count.count c.read-2.new.out in
    let next = subst P (c.read.ensures.looks.holds tells) (c.in_ok-count.ensures.bytes still) in
    elim c.then-count-lt-SIZE.branch [
      | then-count-lt-SIZE-via-then-count-lt-SIZE w ↦
          length_cut c.args.gate c.in_ok-read.field-0 c.in_ok-count.count c.from_be_bytes-len.result bytes c.read.new.out c.read-2.new.out (omega arith) c.if-branch-eq0.false (c.in_ok-read.ensures.bytes tells) c.if-state-ne-OPEN.false (omega arith) next before at place (omega (arith, next.count_is))
      | then-count-lt-SIZE-via-else-count-lt-SIZE+then-rest w ↦
          length_cut c.args.gate c.in_ok-read.field-0 c.in_ok-count.count c.from_be_bytes-len.result bytes c.read.new.out c.read-2.new.out (omega arith) c.if-branch-eq0.false (c.in_ok-read.ensures.bytes tells) c.if-state-ne-OPEN.false (omega arith) next before at place (omega (arith, c.requires.end tells))
      | then-count-lt-SIZE-via-else-count-lt-SIZE+else-rest+then-len-rest w ↦
          body_cut c.args.gate c.in_ok-read.field-0 c.in_ok-count.count c.from_be_bytes-len.result bytes c.read.new.out c.read-2.new.out (omega arith) c.if-branch-eq0.false (c.in_ok-read.ensures.bytes tells) c.if-state-ne-OPEN.false (omega arith) next before at place (omega arith) c.in_ok-count.ensures.fit c.from_be_bytes-len.ensures c.from_be_bytes-len.type_inv (omega (arith, c.requires.end tells))
    ]

pub returns-clause-opened : goal.returns-clause-opened
returns-clause-opened g c tells =
    let bytes = (g.D.Disk.disk c.args.disk.now).holds in
    let still = subst IsTrue (sym c.read.ensures.looks.tells) tells in
    let P : List ℕ → Type 0 = λ b. ReadsAt b (c.args.gate + 1) c.in_ok-count.count c.read-2.new.out in
    let next = subst P (c.read.ensures.looks.holds tells) (c.in_ok-count.ensures.bytes still) in
    header_read c.args.gate c.in_ok-read.field-0 c.in_ok-count.count c.from_be_bytes-len.result bytes c.read.new.out c.read-2.new.out (omega arith) c.if-branch-eq0.false (c.in_ok-read.ensures.bytes tells) c.if-state-ne-OPEN.false (omega arith) next
    c.if-count-lt-SIZE.false c.in_ok-count.ensures.fit c.from_be_bytes-len.ensures c.from_be_bytes-len.type_inv
