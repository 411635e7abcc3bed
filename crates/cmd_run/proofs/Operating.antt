-- What requests come to, and operations where there are no rules.
use Rattle.std.proofs.Common.{◌≡◌, ℕ, Bool, true, false, List, [], Option, Some, None, refl, sym, ◌∙◌, ap}
use Rattle.std.specs.Prelude.{Ok, Err, nat_le}
use Rattle.grid_model.specs.Maps.{get}
use Rattle.grid_model.specs.Names.{Text}
use Rattle.grid_model.specs.Grid.{Grid}
use Rattle.grid_model.specs.Limits.{object_size}
use Rattle.grid_model.specs.Refusing.{Or}
use Rattle.grid_model.specs.Deeds.{Act, Deed, changes, deed}
use Rattle.grid_model.specs.Operations.Table.{Operation, row}
use Rattle.grid_model.specs.Meanings.{Meaning, gives, waits, mapped}
use Rattle.grid_model.specs.Doing.{Course, Did, do_act}
use Rattle.grid_model.specs.Sessions.{Session, State}
use Rattle.grid_model.specs.Orders.{Order}
use Rattle.grid_model.specs.Working.{Done, Sent, begun, done, refused_at_once, running, words_of, sent_by, operate}
use Rattle.grid_model.specs.Obeying.{command, logged_in, not_logged_in, do_works}
use Rattle.grid_model.specs.declared.marks.Mark.{Mark}
use Rattle.grid_model.specs.declared.refusal.Refusal.{Refusal}
use Rattle.grid_model.specs.declared.refusal.Refusal.TheVariants as refusal
use Rattle.grid_model.specs.declared.replies.End.TheVariants as end
use Rattle.grid_model.proofs.WithoutRules.{answers, operate_alone}

pub same_done : (a b : Done) → (let m : Meaning Done = gives a in m ≡ gives b) → a ≡ b
same_done a b e = cc

-- ---- who asks

module _ (at : State) (n : ℕ) (order : Order) (marks : List Mark) where
  abbrev by_session : Option Session → Meaning Done
  by_session o = elim o [ None ↦ not_logged_in at n order (begun at.grid marks) | Some x ↦ logged_in at n x order (begun at.grid marks) ]

  pub without_login : get at.sessions n ≡ None → command at n order marks ≡ not_logged_in at n order (begun at.grid marks)
  without_login is = ap by_session is

  pub with_login : (x : Session) → get at.sessions n ≡ Some x → command at n order marks ≡ logged_in at n x order (begun at.grid marks)
  with_login x is = ap by_session is

-- ---- how much is asked

module _ (at : State) (x : Session) (op : Operation) (count : ℕ) (s : Course) where
  abbrev by_size : Bool → Meaning Done
  by_size b = elim b [ false ↦ gives (refused_at_once at s (refusal.TooLarge object_size)) | true ↦ operate at x.user op s ]

  pub too_much : nat_le count object_size ≡ false → do_works at x op count s ≡ gives (refused_at_once at s (refusal.TooLarge object_size))
  too_much is = ap by_size is

  pub not_too_much : nat_le count object_size ≡ true → do_works at x op count s ≡ operate at x.user op s
  not_too_much is = ap by_size is

-- ---- operations

module _ (at : State) (none : at.rules ≡ []) (user : Text) (op : Operation) where
  -- what it says, and what it sends
  abbrev pub its_words : List Text
  its_words = words_of at.grid user op

  abbrev pub its_sent : List Mark → Option Sent
  its_sent marks = sent_by (begun at.grid marks) user op

  -- it left this grid
  abbrev pub changed_work : Grid → Done
  changed_work g = done at (record (begun at.grid []) { grid = g }) [] [] (its_sent []) (end.Done its_words)

  abbrev by_act : List Mark → Or Act → Meaning Done
  by_act marks a =
      mapped (answers at) (mapped (λ (d : Did). record { state = d.state; failure = d.failure; words = its_words; rows = []; sent = its_sent marks })
      (do_act (running op) (begun at.grid marks) a))

  alone : (marks : List Mark) (a : Or Act) → row at.grid user op ≡ a → operate at user op (begun at.grid marks) ≡ by_act marks a
  alone marks a is = operate_alone at user op (begun at.grid marks) none ∙ ap (by_act marks) is

  changed_so : (g : Grid) → row at.grid user op ≡ Ok (changes g) → operate at user op (begun at.grid []) ≡ gives (changed_work g)
  changed_so g is = alone [] (Ok (changes g)) is

  -- a deed waits where no mark is there
  waited_so : (d : Deed) → row at.grid user op ≡ Ok (deed d)
      → operate at user op (begun at.grid []) ≡ waits (record { call = running op; grid = at.grid; taken = []; passed = []; undo = [] })
  waited_so d is = alone [] (Ok (deed d)) is

  -- what is refused without a mark its row refuses
  pub refused_row : (d : Done) (why : Refusal) → operate at user op (begun at.grid []) ≡ gives d → d.reply.end ≡ end.Refused why
      → (r : Refusal) × (row at.grid user op ≡ Err r)
  refused_row d why does_so ended = by (row at.grid user op) refl
    where
      by : (a : Or Act) → row at.grid user op ≡ a → (r : Refusal) × (row at.grid user op ≡ Err r)
      by (Err r) is = (r, is)
      by (Ok (changes g)) is =
          let same : d ≡ changed_work g = same_done d (changed_work g) (sym does_so ∙ changed_so g is) in
          let both : end.Refused why ≡ end.Done its_words = sym ended ∙ ap (λ (x : Done). x.reply.end) same in
          absurd cc
      by (Ok (deed x)) is =
          let both : waits (record { call = running op; grid = at.grid; taken = []; passed = []; undo = [] }) ≡ gives d = sym (waited_so x is) ∙ does_so in
          absurd cc
