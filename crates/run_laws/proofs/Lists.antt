-- Requests that were handled, one more.
use Rattle.std.proofs.Common.{◌≡◌, ℕ, zero, suc, ◌+◌, ◌<◌, ◌≤◌, List, [], ◌∷◌, ◌++◌, length, slice_get, Option, Some, refl, sym, ap, ◌∙◌, subst, arith}
use Rattle.std.specs.List.{AllByRecursion}
use Rattle.std.proofs.lemmas.List.{append-nil}
use Rattle.std.proofs.lemmas.Grind.{flat_map-append}
use Rattle.std.proofs.lemmas.Option.{same_Some}
use Rattle.grid_model.specs.Grid.{Grid}
use Rattle.grid_model.specs.Names.{Text}
use Rattle.grid_model.specs.Inputs.{Asked}
use Rattle.grid_model.specs.Meanings.{gives}
use Rattle.grid_model.specs.Sessions.{State}
use Rattle.grid_model.specs.Working.{Done, Sent}
use Rattle.grid_model.specs.ReplyTexts.{ArePieces, reply_text}
use Rattle.grid_model.specs.Runs.{Request, Marked, After, none, next, does, state_after}
use Rattle.grid_model.specs.Completing.{AreClean, EndsByRows}
use Rattle.grid_model.specs.declared.marks.Mark.{Mark}
use Rattle.grid_headline.specs.Ends.{AllStill, IsStill}
use Rattle.grid_headline.specs.Reads.{MeansRequest}
use Rattle.grid_headline.specs.Served.{AllPieces, reply_texts, marks_of, asked_of}
use Rattle.grid_model.specs.Rows.{Cat}
use Rattle.run_laws.specs.Handled.{AllGaveFew, GaveFew}
use Rattle.run_laws.specs.Sofar.{AllByRows}

-- ---- lists

pub get-front : {X : Type 0} (xs ys : List X) (k : ℕ) → k < length xs → slice_get (xs ++ ys) k ≡ slice_get xs k
get-front [] ys k less = absurd (omega (arith, less))
get-front (x ∷ xs) ys zero less = refl
get-front (x ∷ xs) ys (suc k) less = get-front xs ys k (omega (arith, less))

pub get-last : {X : Type 0} (xs : List X) (x : X) → slice_get (xs ++ x ∷ []) (length xs) ≡ Some x
get-last [] x = refl
get-last (y ∷ xs) x = get-last xs x

pub all-append : {X : Type 0} (P : X → Type 0) (xs ys : List X) → AllByRecursion P xs → AllByRecursion P ys → AllByRecursion P (xs ++ ys)
all-append P [] ys one other = other
all-append P (x ∷ xs) ys one other = (one.0, all-append P xs ys one.1 other)

pub all-back : {X : Type 0} (P : X → Type 0) (xs ys : List X) → AllByRecursion P (xs ++ ys) → AllByRecursion P ys
all-back P [] ys all = all
all-back P (x ∷ xs) ys all = all-back P xs ys all.1

pub all-map : {X : Type 0} (P Q : X → Type 0) → ((x : X) → P x → Q x) → (xs : List X) → AllByRecursion P xs → AllByRecursion Q xs
all-map P Q f [] all = tt
all-map P Q f (x ∷ xs) all = (f x all.0, all-map P Q f xs all.1)

pub marks-push : (ms : List Marked) (m : Marked) → marks_of (ms ++ m ∷ []) ≡ marks_of ms ++ m.marks
marks-push ms m = flat_map-append (λ (x : Marked). x.marks) ms (m ∷ []) ∙ ap (λ (t : List Mark). marks_of ms ++ t) (append-nil m.marks)

pub asked-push : (ms : List Marked) (m : Marked) → asked_of (ms ++ m ∷ []) ≡ asked_of ms ++ m.asked ∷ []
asked-push [] m = refl
asked-push (x ∷ ms) m = ap (λ (t : List Asked). x.asked ∷ t) (asked-push ms m)

pub asked-length : (ms : List Marked) → length (asked_of ms) ≡ length ms
asked-length [] = refl
asked-length (m ∷ ms) = ap suc (asked-length ms)

-- ---- what they did

pub after-length : {s end : State} {ms : List Marked} {ds : List Done} → After MeansRequest s ms ds end → length ds ≡ length ms
after-length none = refl
after-length (next request means did left more) = ap suc (after-length more)

pub after-push : {s end : State} {ms : List Marked} {ds : List Done} (m : Marked) (d : Done) (request : Request) → After MeansRequest s ms ds end
    → MeansRequest end m.asked request
    → does end request m.marks ≡ gives d → d.left ≡ [] → After MeansRequest s (ms ++ m ∷ []) (ds ++ d ∷ []) d.state
after-push m d request none means did left = next request means did left none
after-push m d request (next first means_first did_first left_first more) means did left =
    next first means_first did_first left_first (after-push m d request more means did left)

pub by_rows-push : {s end : State} {ms : List Marked} {ds : List Done} (m : Marked) (d : Done) → After MeansRequest s ms ds end → AllByRows ms ds
    → (AreClean m.marks → EndsByRows d.reply.end)
    → AllByRows (ms ++ m ∷ []) (ds ++ d ∷ [])
by_rows-push m d none rows row = (row, tt)
by_rows-push m d (next request means did left more) rows row = (rows.0, by_rows-push m d more rows.1 row)

-- ---- the catalogues behind them

pub few-length : (c : Cat) (ms : List Marked) (es : List Cat) → AllGaveFew c ms es → length es ≡ length ms
few-length c [] [] all = refl
few-length c (m ∷ ms) (e ∷ es) all = ap suc (few-length e ms es all.1)
few-length c [] (e ∷ es) all = absurd all
few-length c (m ∷ ms) [] all = absurd all

pub few-push : (c e f : Cat) (ms : List Marked) (es : List Cat) (m : Marked) → AllGaveFew c ms es → slice_get (c ∷ es) (length ms) ≡ Some e
    → GaveFew e m f → AllGaveFew c (ms ++ m ∷ []) (es ++ f ∷ [])
few-push c e f [] [] m all last gave = (let P : Cat → Type 0 = λ x. GaveFew x m f in subst P (sym (same_Some c e last)) gave, tt)
few-push c e f (n ∷ ms) (x ∷ es) m all last gave = (all.0, few-push x e f ms es m all.1 last gave)
few-push c e f [] (x ∷ es) m all last gave = absurd all
few-push c e f (n ∷ ms) [] m all last gave = absurd all

-- that behind one of them
pub few-at : (c e f : Cat) (ms : List Marked) (es : List Cat) (m : Marked) (n : ℕ) → AllGaveFew c ms es → slice_get (c ∷ es) n ≡ Some e
    → slice_get es n ≡ Some f → slice_get ms n ≡ Some m → GaveFew e m f
few-at c e f (m ∷ ms) (x ∷ es) p zero all is_e is_f is_m = by (same_Some c e is_e) (same_Some x f is_f) (same_Some m p is_m)
  where
    by : c ≡ e → x ≡ f → m ≡ p → GaveFew e p f
    by h i j = rw (sym h, sym i, sym j) all.0
few-at c e f (m ∷ ms) (x ∷ es) p (suc n) all is_e is_f is_m = few-at x e f ms es p n all.1 is_e is_f is_m
few-at c e f [] [] p n all is_e is_f is_m = absurd (cc is_f)
few-at c e f [] (x ∷ es) p n all is_e is_f is_m = absurd all
few-at c e f (m ∷ ms) [] p n all is_e is_f is_m = absurd all

-- ---- requests that change nothing

more-done : (grid : Grid) (ds : List Done) (d : Done) → ¬ AllStill grid [] (ds ++ d ∷ [])
more-done grid [] d all = all
more-done grid (e ∷ ds) d all = all

more-begun : (grid : Grid) (ms : List Marked) (m : Marked) → ¬ AllStill grid (ms ++ m ∷ []) []
more-begun grid [] m all = all
more-begun grid (n ∷ ms) m all = all

pub still-split : (grid : Grid) (ms : List Marked) (ds : List Done) (m : Marked) (d : Done) → AllStill grid (ms ++ m ∷ []) (ds ++ d ∷ [])
    → AllStill grid ms ds × IsStill grid m d
still-split grid [] [] m d all = (tt, all.0)
still-split grid (n ∷ ms) (e ∷ ds) m d all = (let rest = still-split grid ms ds m d all.1 in ((all.0, rest.0), rest.1))
still-split grid [] (e ∷ ds) m d all = absurd (more-done grid ds d all.1)
still-split grid (n ∷ ms) [] m d all = absurd (more-begun grid ms m all.1)

-- ---- states in between

pub state-all : {s end : State} {ms : List Marked} {ds : List Done} → After MeansRequest s ms ds end → state_after s ds (length ds) ≡ end
state-all none = refl
state-all (next request means did left more) = state-all more

pub state-more : (s : State) (ds : List Done) (d : Done) (n : ℕ) → n ≤ length ds → state_after s (ds ++ d ∷ []) n ≡ state_after s ds n
state-more s [] d zero le = refl
state-more s [] d (suc n) le = absurd (omega (arith, le))
state-more s (e ∷ ds) d zero le = refl
state-more s (e ∷ ds) d (suc n) le = state-more e.state ds d n (omega (arith, le))

pub state-last : (s : State) (ds : List Done) (d : Done) → state_after s (ds ++ d ∷ []) (suc (length ds)) ≡ d.state
state-last s [] d = refl
state-last s (e ∷ ds) d = state-last e.state ds d

-- ---- the texts of their replies

pub pieces-length : (known : ℕ → Type 0) (n : ℕ) (ds : List Done) (tss : List (List Text)) → AllPieces known n ds tss → length tss ≡ length ds
pieces-length known n [] [] all = refl
pieces-length known n (d ∷ ds) (ts ∷ tss) all = ap suc (pieces-length known (n + 1) ds tss all.1)
pieces-length known n [] (ts ∷ tss) all = absurd all
pieces-length known n (d ∷ ds) [] all = absurd all

-- each mark has a text
pub pieces-many : (known : ℕ → Type 0) (n place : ℕ) (sent : Option Sent) (marks : List Mark) (ts : List Text) → ArePieces known n sent place marks ts
    → length ts ≡ length marks
pieces-many known n place sent [] [] are = refl
pieces-many known n place sent (m ∷ ms) (t ∷ ts) are = ap suc (pieces-many known n (place + 1) sent ms ts are.1)
pieces-many known n place sent [] (t ∷ ts) are = absurd are
pieces-many known n place sent (m ∷ ms) [] are = absurd are

pub pieces-push : (known : ℕ → Type 0) (n k : ℕ) (ds : List Done) (tss : List (List Text)) (d : Done) (ts : List Text) → k ≡ n + length ds
    → AllPieces known n ds tss
    → ArePieces known k d.sent 0 d.reply.marks ts → AllPieces known n (ds ++ d ∷ []) (tss ++ ts ∷ [])
pieces-push known n k [] [] d ts e all are = (let same : k ≡ n = omega (arith, e) in subst (λ i. ArePieces known i d.sent 0 d.reply.marks ts) same are, tt)
pieces-push known n k (f ∷ ds) (us ∷ tss) d ts e all are = (all.0, pieces-push known (n + 1) k ds tss d ts (omega (arith, e)) all.1 are)
pieces-push known n k [] (ts ∷ tss) d us e all are = absurd all
pieces-push known n k (f ∷ ds) [] d us e all are = absurd all

-- there are as many replies as there are texts of them
pub many-replies : (n : ℕ) (ds : List Done) (tss : List (List Text)) → length tss ≡ length ds → length (reply_texts n ds tss) ≡ length ds
many-replies n [] [] same = refl
many-replies n (d ∷ ds) (ts ∷ tss) same = ap suc (many-replies (n + 1) ds tss (omega (arith, same)))
many-replies n [] (ts ∷ tss) same = absurd (omega (arith, same))
many-replies n (d ∷ ds) [] same = absurd (omega (arith, same))

pub replies-push : (known : ℕ → Type 0) (n k : ℕ) (ds : List Done) (tss : List (List Text)) (d : Done) (ts : List Text) → k ≡ n + length ds
    → AllPieces known n ds tss
    → reply_texts n (ds ++ d ∷ []) (tss ++ ts ∷ []) ≡ reply_texts n ds tss ++ reply_text k d.reply ts ∷ []
replies-push known n k [] [] d ts e all = let same : n ≡ k = omega (arith, e) in ap (λ i. reply_text i d.reply ts ∷ []) same
replies-push known n k (f ∷ ds) (us ∷ tss) d ts e all = ap (λ (l : List Text). reply_text n f.reply us ∷ l) (replies-push known (n + 1) k ds tss d ts (omega (arith, e)) all.1)
replies-push known n k [] (ts ∷ tss) d us e all = absurd all
replies-push known n k (f ∷ ds) [] d us e all = absurd all
