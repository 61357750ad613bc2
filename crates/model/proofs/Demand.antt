-- Demand 3, proved of every list of requests from the empty book; and of the lines of every input.
-- Assumes nothing.
use Rattle.std.specs.Prelude.{Option, None, Some}
use mathlib.Core.Path.{◌≡◌, refl, sym, ap, ◌∙◌, ◌≡⟨◌⟩◌, ◌∎}
use mathlib.Core.Bool.{Bool, ◌&&◌}
use mathlib.Core.List.{List, [], ◌∷◌, ◌++◌, append_assoc, append-nil}
use Prim.Native.Nat.{ℕ}
use borrow.Author.Tests.{eqb-true}
use lib.Dec.{eqb}
use lib.ListN.{length}
use lib.Seq.{take-nil}
use lib.IntN.{ℤ, pos, neg_ℤ, ◌+ℤ◌, ◌-ℤ◌, +ℤ_assoc, +ℤ_comm, +ℤ-neg_ℤ_cancel}
use Rattle.model.specs.Kind.{is_rate, is_register_year, is_month}
use Rattle.model.specs.Letter.{ages}
use Rattle.model.specs.Book.{Book, Totals, Line, Closed, latest, empty}
use Rattle.model.specs.Call.{Call, declare, set_rate, add_pattern, close_year, totals, register_month, set_rate_from_register}
use Rattle.model.specs.Question.{is_year_of, is_open, first_no}
use Rattle.model.specs.Step.{Request, asked, questions, refuse, accept, step}
use Rattle.model.specs.Run.{after, records_of}
use Rattle.model.specs.History.{Entry, entry, enter, accepted, listed, months_in, rates_in, payments_in, kept_in, openings_in, years_in, paid_in, paid_answered_in, losses_in, closed_in}
use Rattle.model.specs.Demand.{LossesAddUp, Reconciles, Sums, TotalsHold, Demand}
use Rattle.model.proofs.Lists.{Some≢None, cons≢nil, and_left, and_right}
use Rattle.model.proofs.Steps.{step_is}
use Rattle.model.proofs.Passed.{Passed, passed}
use Rattle.model.proofs.Ages.{length_ages_of}
use Rattle.model.proofs.Entries.{with}
use Rattle.model.proofs.Invariant.{LineHolds, Invariant}
use Rattle.model.proofs.AcceptLine.{accept_line}
use Rattle.model.proofs.AcceptRate.{accept_rate, accept_rate_from_register}
use Rattle.model.proofs.AcceptMonth.{accept_month}
use Rattle.model.proofs.AcceptPattern.{accept_pattern}
use Rattle.model.proofs.AcceptYear.{accept_year}
use Rattle.model.proofs.AcceptTotals.{accept_totals}

-- an accepted call, and a refused one
abbrev made_entry : Book → Call → Entry
made_entry book call = record { before = book; call = call; answer = (accept book call).answer; later = (accept book call).book }

accept_holds : (h : List Entry) (b : Book) (call : Call) → Invariant h b → Passed b call → Invariant (with h (made_entry b call)) (accept b call).book
unfolding accept
accept_holds h b (declare letter amount) i p = accept_line h b letter amount i p.to_be_given
accept_holds h b (set_rate year months) i p = accept_rate h b year months i p.to_be_given
accept_holds h b (add_pattern letter year paid incurred) i p =
    let n : Bool = eqb (length paid) (ages letter) in
    let m : Bool = eqb (length incurred) (ages letter) in
    accept_pattern h b letter year paid incurred i
    (length_ages_of (ages letter) paid incurred (eqb-true _ _ (and_left n m p.lengths)) (eqb-true _ _ (and_right n m p.lengths)))
    p.declared p.rate p.turn
accept_holds h b (close_year letter year paid unpaid tabular) i p =
    accept_year h b letter year paid unpaid tabular i p.lengths p.declared (and_left (is_year_of (latest (b.lines letter).kept) year) (is_open (b.lines letter).closed year) p.turn) p.patterns
accept_holds h b (totals letter) i p = accept_totals h b letter _ _ _ i
accept_holds h b (register_month year month rate) i p = accept_month h b year month rate i (and_right (is_register_year year && is_month month) (is_rate rate) p.limits) p.to_be_given
accept_holds h b (set_rate_from_register year) i p = accept_rate_from_register h b year i p.to_be_given p.months

refuse_holds : (h : List Entry) (b : Book) (question : ℕ) → Invariant h b → Invariant h (refuse b question).book
unfolding refuse
refuse_holds h b question i = record { rates = i.rates; months = i.months; months_within = i.months_within; lines = i.lines; entries = i.entries }

-- the list, a request at a time: what holds of the entries so far holds of them with those of the rest
one : (h : List Entry) (b : Book) (r : Request) (rs : List Request) → Invariant h b → ((h : List Entry) (b : Book) → Invariant h b → Invariant (h ++ accepted b rs) (after b rs))
    → (q : Option ℕ) → first_no (questions b r) ≡ q → Invariant (h ++ enter q (entry b r) (accepted (step b r).book rs)) (after (step b r).book rs)
one h b r rs i rest None e =
    let later : Invariant (with h (entry b r)) (step b r).book = rw (step_is b r None e) (accept_holds h b (asked r) i (passed b r e)) in
    rw append_assoc at (rest (with h (entry b r)) (step b r).book later)
one h b r rs i rest (Some question) e = rest h (step b r).book (rw (step_is b r (Some question) e) (refuse_holds h b question i))

all : (rs : List Request) (h : List Entry) (b : Book) → Invariant h b → Invariant (h ++ accepted b rs) (after b rs)
unfolding accepted after
all [] h b i = rw append-nil i
all (r ∷ rs) h b i = one h b r rs i (all rs) (first_no (questions b r)) refl

-- the empty book and no entries
no_line_lem : (letter : ℕ) → LineHolds [] letter (empty.lines letter)
unfolding openings_in closed_in kept_in payments_in years_in losses_in paid_in paid_answered_in ages
no_line_lem letter =
    record {
      declared = refl;
      closed = refl;
      kept = sym (take-nil (ages letter));
      unclosed = λ u. refl;
      unkept = λ u. refl;
      patterns = tt;
      newest = λ year pay more s. absurd (cons≢nil pay more (sym s));
      balance = refl;
      sums = record { years = refl; paid = refl; paid_answered = refl; losses = refl };
      zeros = λ u. refl;
    }

none_yet : Invariant [] empty
unfolding months_in rates_in
none_yet = record { rates = λ year. refl; months = λ year month. refl; months_within = λ year month. refl; lines = no_line_lem; entries = tt }

-- the invariant after any list
pub stands : (requests : List Request) → Invariant (accepted empty requests) (after empty requests)
stands requests = all requests [] empty none_yet

-- the losses, from the invariant's balance
losses_add_up : (h : List Entry) (letter : ℕ) (line : Line) (o : Option ℕ) (last : Closed) → line.opening ≡ o → LineHolds h letter line → closed_in h letter ≡ Some last → LossesAddUp h letter last.closing
losses_add_up h letter line None last e l s = absurd (Some≢None last (sym s ∙ sym l.closed ∙ l.unclosed e))
losses_add_up h letter line (Some declared) last e l s =
    let c : line.closed ≡ Some last = l.closed ∙ s in
    let w : losses_in h letter +ℤ pos declared ≡ paid_in h letter +ℤ pos last.closing = rw (e, c) at l.balance in
    record {
      declared = declared;
      from_line = l.declared ∙ ap listed e;
      add_up = sym (+ℤ-neg_ℤ_cancel (losses_in h letter) (pos declared)) ∙ ap (λ (x : ℤ). x -ℤ pos declared) w;
    }

-- losses x and paid q: what they add up to, the paid taken away
less : (x q c d : ℤ) → x ≡ q +ℤ c -ℤ d → x -ℤ q ≡ c -ℤ d
less x q c d e =
    x -ℤ q
    ≡⟨ ap (λ (w : ℤ). w -ℤ q) (e ∙ +ℤ_assoc q c (neg_ℤ d) ∙ +ℤ_comm q (c -ℤ d)) ⟩ c -ℤ d +ℤ q -ℤ q
    ≡⟨ +ℤ-neg_ℤ_cancel (c -ℤ d) q ⟩ c -ℤ d ∎

reconcile : (h : List Entry) (letter last_closing : ℕ) (figures : Totals) → Sums h letter figures → LossesAddUp h letter last_closing → Reconciles h letter last_closing figures
reconcile h letter last_closing figures s a =
    record {
      declared = a.declared;
      from_line = a.from_line;
      less_paid = rw (s.losses, s.paid) (less (losses_in h letter) (paid_in h letter) (pos last_closing) (pos a.declared) a.add_up);
    }

totals_hold : (h : List Entry) (letter : ℕ) (line : Line) → LineHolds h letter line → TotalsHold h letter line.totals
totals_hold h letter line l =
    record {
      sums = l.sums;
      reconciles = λ last s. reconcile h letter last.closing line.totals l.sums (losses_add_up h letter line line.opening last refl l s);
      zeros = λ s. l.zeros (l.closed ∙ s);
    }

pub demand : (requests : List Request) → Demand requests
demand requests =
    let h = accepted empty requests in
    let b = after empty requests in
    let i = stands requests in
    record {
      entries = i.entries;
      patterns = λ letter. (i.lines letter).patterns;
      kept = λ letter. (i.lines letter).kept;
      losses = λ letter last s. losses_add_up h letter (b.lines letter) (b.lines letter).opening last refl (i.lines letter) s;
      closed = λ letter. (i.lines letter).closed;
      rates = i.rates;
      register = i.months;
      totals = λ letter. totals_hold h letter (b.lines letter) (i.lines letter);
    }

-- the records of any input
pub demand_of_input : (input : List ℕ) → Demand (records_of input)
demand_of_input input = demand (records_of input)
