-- What a request that was heard asks for, and what is held of its body.
use Rattle.std.proofs.Common.{◌≡◌, ℕ, ◌<◌, ◌≤◌, Bool, true, false, [], length, arith, refl, ap}
use Rattle.std.specs.Prelude.{nat_le, Result, Ok, Err}
use Rattle.std.proofs.lemmas.Bool.Decides.{nat_tests}
use Rattle.grid_model.specs.Names.{Text}
use Rattle.grid_model.specs.Limits.{object_size}
use Rattle.grid_model.specs.Inputs.{HasBody}
use Rattle.grid_model.specs.Sessions.{State}
use Rattle.grid_model.specs.Orders.{Order}
use Rattle.grid_model.specs.declared.requests.Request.{Request}
use Rattle.grid_model.specs.declared.refusal.Refusal.{Refusal}
use Rattle.grid_model.specs.declared.refusal.Refusal.TheVariants as refusal
use Rattle.cmd_read.specs.Orders as orders
use Rattle.cmd_read.specs.Orders.{Texts, MeansOrder, promised}
use Rattle.req_lines.specs.Hearing.{IsReadAs, a_request, cut_short, wrong_words, no_words, too_long, held_of}
use Rattle.req_lines.proofs.PromiseLemmas.{promised_count}

module _ (texts : Texts) (at : State) (line body : Text) where
  -- a request whose verb is built and asks for this order
  pub asks_for : (request : Request) (order : Order) → IsReadAs line body (Ok request) → texts.built request.verb ≡ true → MeansOrder texts at request.verb body order
      → orders.Asks texts at line body (Ok (request.session, order))
  asks_for request order (a_request r short spells reads all) built means = orders.asks_for request short spells reads refl all built means

  -- one whose verb is not built
  pub asks_unbuilt : (request : Request) → IsReadAs line body (Ok request) → texts.built request.verb ≡ false → orders.Asks texts at line body (Err refusal.UnknownCommand)
  asks_unbuilt request (a_request r short spells reads all) not_built = orders.not_built request short spells reads all not_built

  -- and one that is refused whatever the state is
  pub asks_refused : (r : Refusal) → IsReadAs line body (Err r) → orders.Asks texts at line body (Err r)
  asks_refused r (cut_short request short spells reads few) = orders.cut_short request short spells reads few
  asks_refused r (wrong_words why short spells reads is) = orders.wrong_words why short spells reads is
  asks_refused r (no_words short refused) = orders.no_words short refused
  asks_refused r (too_long long) = orders.too_long long

-- all bytes that were promised are there, and no others
pub body_whole : (line body : Text) (request : Request) (n : ℕ) → IsReadAs line body (Ok request) → HasBody line n → length body ≤ n → length body ≡ promised request.verb
body_whole line body request n (a_request {words = words} r short spells reads all) has most = omega (arith, all, most, promised_count line words request n short spells reads has)

-- all of a body, or nothing
abbrev all_or_none : Text → Bool → Text
all_or_none body b = elim b [ true ↦ body | false ↦ [] ]

pub held_whole : (request : Request) (body : Text) → promised request.verb ≤ object_size → held_of (Ok request) body ≡ body
held_whole request body small = let e : nat_le (promised request.verb) object_size ≡ true = grind (arith, nat_tests, small) in ap (all_or_none body) e

pub held_nothing : (request : Request) (body : Text) → object_size < promised request.verb → held_of (Ok request) body ≡ []
held_nothing request body large = let e : nat_le (promised request.verb) object_size ≡ false = grind (arith, nat_tests, large) in ap (all_or_none body) e

by_size : (b : Bool) (request : Request) (body : Text) → nat_le (promised request.verb) object_size ≡ b → length body ≡ promised request.verb → length (all_or_none body b) ≤ object_size
by_size true request body e size = let small : promised request.verb ≤ object_size = grind (arith, nat_tests, e) in omega (arith, small, size)
by_size false request body e size = omega arith

-- no more is held than an object may have
pub held_fits : (line body : Text) (asked : Result Request Refusal) (n : ℕ) → IsReadAs line body asked → HasBody line n → length body ≤ n → length (held_of asked body) ≤ object_size
held_fits line body (Ok request) n read has most = by_size (nat_le (promised request.verb) object_size) request body refl (body_whole line body request n read has most)
held_fits line body (Err r) n read has most = omega arith
