-- Requests that the code does one after the other, from an empty book, leave the model's book, the code's own book and the whole store, and demand 3.
-- Assumes nothing.
use Rattle.std.specs.Prelude.{None}
use mathlib.Core.List.{List, [], ◌∷◌, ◌++◌}
use mathlib.Core.Path.{◌≡◌, refl, sym, ap, ◌∙◌}
use Prim.Native.Nat.{ℕ}
use lib.ListN.{length}
use Rattle.model.specs.Answer.{Answer, rated, summed}
use Rattle.model.specs.Call.{totals, set_rate_from_register}
use Rattle.model.specs.Question.{first_no}
use Rattle.model.specs.Rate.{rate_of}
use Rattle.model.specs.Book as model
use Rattle.model.specs.Step as model_step
use Rattle.model.specs.Step.{Request, asked, questions, step}
use Rattle.model.specs.Run.{after}
use Rattle.model.specs.History.{accepted, taken_in, years_in, paid_in, losses_in}
use Rattle.model.proofs.Demand.{demand}
use Rattle.model.proofs.Totals.{sum_prints}
use Rattle.model.proofs.Register.{rate_prints}
use Rattle.state.specs.declared.book.Book.{Book}
use Rattle.state.specs.View.{view, empty_book, empty_store}
use Rattle.state.proofs.EmptyBook.{empty_shown}
use Rattle.ledger.specs.declared.answer.Outcome.{Outcome}
use Rattle.ledger.specs.Answer.{answered}
use Rattle.ledger.specs.Does.{Does, book_after, store_after}
use Rattle.journal.specs.InTurn.{DoneInTurn, none, one, answers_of, book_after_all, store_after_all, Leaves}

-- one request more
after_last : (rs : List Request) (b : model.Book) (r : Request) → after b (rs ++ (r ∷ [])) ≡ (step (after b rs) r).book
unfolding after
after_last [] b r = refl
after_last (q ∷ rs) b r = after_last rs (step b q).book r

book_last : (rs : List Request) (b : model.Book) (r : Request) (own : Book) → book_after_all b (rs ++ (r ∷ [])) own ≡ book_after (after b rs) r (book_after_all b rs own)
unfolding after book_after_all
book_last [] b r own = refl
book_last (q ∷ rs) b r own = book_last rs (step b q).book r (book_after b q own)

store_last : (rs : List Request) (b : model.Book) (r : Request) (store : List ℕ) → store_after_all b (rs ++ (r ∷ [])) store ≡ store_after (after b rs) r (store_after_all b rs store)
unfolding after store_after_all
store_last [] b r store = refl
store_last (q ∷ rs) b r store = store_last rs (step b q).book r (store_after b q store)

answers_last : (rs : List Request) (b : model.Book) (r : Request) → answers_of b (rs ++ (r ∷ [])) ≡ answers_of b rs ++ ((step (after b rs) r).answer ∷ [])
unfolding after answers_of
answers_last [] b r = refl
answers_last (q ∷ rs) b r = ap (λ (later : List Answer). (step b q).answer ∷ later) (answers_last rs (step b q).book r)

-- the answers, the books and the store so far
record Come (requests : List Request) (answers : List Answer) (book : Book) (store : List ℕ) : Type 0 where
  so_answered : answers ≡ answers_of model.empty requests
  met : view book store ≡ after model.empty requests
  own : book ≡ book_after_all model.empty requests empty_book
  lent : store ≡ store_after_all model.empty requests empty_store

come : (requests : List Request) (answers : List Answer) (book : Book) (store : List ℕ) → DoneInTurn requests answers book store → Come requests answers book store
unfolding after book_after_all store_after_all answers_of
come _ _ _ _ none = record { so_answered = refl; met = empty_shown; own = refl; lent = refl }
come _ _ _ _ (one {requests} {answers} {book} {store} {request} {r} {later} before does) =
    let c = come requests answers book store before in
    let last : model.Book = after model.empty requests in
    record {
      so_answered = ap (λ (so : List Answer). so ++ (answered r.answer later ∷ [])) c.so_answered
          ∙ ap (λ (a : Answer). answers_of model.empty requests ++ (a ∷ [])) (ap (λ (o : model_step.Outcome). o.answer) does.outcome ∙ ap (λ (b : model.Book). (step b request).answer) c.met)
          ∙ sym (answers_last requests model.empty request);
      met = ap (λ (o : model_step.Outcome). o.book) does.outcome ∙ ap (λ (b : model.Book). (step b request).book) c.met ∙ sym (after_last requests model.empty request);
      own = does.own ∙ ap (λ (b : model.Book). book_after b request book) c.met ∙ ap (book_after last request) c.own ∙ sym (book_last requests model.empty request empty_book);
      lent = does.lent ∙ ap (λ (b : model.Book). store_after b request store) c.met ∙ ap (store_after last request) c.lent ∙ sym (store_last requests model.empty request empty_store);
    }

pub leaves : (requests : List Request) (answers : List Answer) (book : Book) (store : List ℕ) → DoneInTurn requests answers book store → Leaves requests answers book store
leaves requests answers book store done =
    let c = come requests answers book store done in
    record { answered_so = c.so_answered; later = c.met; own = c.own; lent = c.lent; demand = rw c.met (demand requests) }

-- F-2, "The figures equal the sums over the accepted YEAR records of that line": what the code answers an accepted SUM after the list
pub sum_answered : (requests : List Request) (answers : List Answer) (book : Book) (store : List ℕ) → DoneInTurn requests answers book store
    → (request : Request) (letter : ℕ) → asked request ≡ totals letter → first_no (questions (view book store) request) ≡ None → (r : Outcome) (later : List ℕ) → Does book request store r later
    → answered r.answer later ≡ summed letter (length (years_in (accepted model.empty requests) letter)) (paid_in (accepted model.empty requests) letter) (losses_in (accepted model.empty requests) letter)
sum_answered requests answers book store done request letter e passed r later does =
    let c = come requests answers book store done in
    ap (λ (o : model_step.Outcome). o.answer) (does.outcome ∙ ap (λ (b : model.Book). step b request) c.met ∙ sum_prints requests request letter e (rw c.met at passed))

-- F-4: what the code answers an accepted RATE with a year alone after the list: the rate of its sixty accepted MIDTs
pub rate_answered : (requests : List Request) (answers : List Answer) (book : Book) (store : List ℕ) → DoneInTurn requests answers book store
    → (request : Request) (year : ℕ) → asked request ≡ set_rate_from_register year → first_no (questions (view book store) request) ≡ None → (r : Outcome) (later : List ℕ) → Does book request store r later
    → answered r.answer later ≡ rated year (rate_of (taken_in (accepted model.empty requests) year))
rate_answered requests answers book store done request year e passed r later does =
    let c = come requests answers book store done in
    ap (λ (o : model_step.Outcome). o.answer) (does.outcome ∙ ap (λ (b : model.Book). step b request) c.met ∙ rate_prints requests request year e (rw c.met at passed))
