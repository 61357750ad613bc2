-- The loop over the lines of a piece.
-- Assumes nothing.
use mathlib.Core.List.{List, [], ◌∷◌, ◌++◌}
use mathlib.Core.Path.{◌≡◌, refl, sym, ap, ◌∙◌}
use mathlib.Core.Bool.{Bool, true, false, ◌&&◌, true≢false}
use Prim.Native.Nat.{ℕ, suc, ◌+◌, ◌-◌, ◌≤◌, ◌<◌}
use native.Mathlib.Omega.{arith}
use borrow.Author.Tests.{leb-true, ltb-true, ltb-false}
use lib.Dec.{ltb}
use lib.ListN.{length, take, drop, length-take, length-drop}
use lib.Seq.{take-length, take-add, drop-drop}
use Rattle.state.specs.declared.book.Book.{Book}
use Rattle.line_end.specs.Index.{index_of}
use Rattle.line_end.specs.Scan.{EndsAt}
use Rattle.answer.specs.Put.{placed, Puts}
use Rattle.answer.specs.Text.{has_room, PutsWithRoom}
use Rattle.answer.proofs.Joins.{joined}
use Rattle.pieces.specs.declared.answer_line.Answered.{Answered}
use Rattle.pieces.specs.Progress.{Progress, ended, lengthened, taking, taking_all, taken_of, kept_bytes}
use Rattle.pieces.specs.Feed.{before, Answers, FedTo, AnswersWholeLines, can_answer}
use Rattle.pieces.proofs.Cut.{with_line_lem, ended_cut}
use Rattle.pieces.proofs.LineFound.{line_taken, line_counted, takes_one, same_room, found}
use Rattle.pieces.proofs.Pieces.{pieces_join}

-- before the first byte
pub feed_start : (book : Book) (store begun piece out : List ℕ) → length begun ≤ kept_bytes → FedTo (before book store begun) begun piece out book (length begun) 0 0 store out
unfolding taking_all placed
feed_start book store begun piece out short =
    record {
      kept = short;
      inside = omega arith;
      few = omega arith;
      same = refl;
      reached = record { later = refl; own = refl; lent = refl; puts = record { whole = refl; after_it = refl } };
      line = take-length begun;
      left = omega arith;
    }

-- byte 10 after a line
ends_line : (s : Progress) (bytes : List ℕ) → taking (lengthened s bytes) 10 ≡ ended (with_line_lem s (s.line ++ bytes))
unfolding taking lengthened
ends_line s bytes = ended_cut s (s.line ++ bytes)

-- a text that had room was put
pub put_in : (buffer : List ℕ) (at : ℕ) (text later : List ℕ) (next : ℕ) → has_room buffer at ≡ true → PutsWithRoom buffer at text later next → Puts buffer at text later next
put_in buffer at text later next room p = record { whole = p.whole ∙ rw room; after_it = p.after_it ∙ rw room }

module _ (start : Progress) (begun piece out : List ℕ) (book : Book) (count at put : ℕ) (store later_out : List ℕ) (f : FedTo start begun piece out book count at put store later_out) where
  abbrev s : Progress
  s = taking_all start (take at piece)

  abbrev rest : List ℕ
  rest = drop at piece

  pub short : length s.line ≤ kept_bytes
  short = rw (← f.line, length-take count begun) (omega (arith, f.kept))

  pub room_is : has_room later_out put ≡ true → length s.written + 320 ≤ length out
  room_is room = omega (arith, leb-true (put + 320) (length later_out) room, f.reached.puts.after_it, f.same)

  -- the bytes up to place `end`
  up_to : (end : ℕ) → at ≤ end → taking_all start (take end piece) ≡ taking_all s (take (end - at) rest)
  up_to end le =
      let parts : end ≡ at + (end - at) = omega arith in
      let split : take end piece ≡ take at piece ++ take (end - at) rest = ap (λ (k : ℕ). take k piece) parts ∙ take-add at (end - at) piece in
      rw split (pieces_join start (take at piece) (take (end - at) rest))

  module _ (room : has_room later_out put ≡ true) (end : ℕ) (e : EndsAt piece at end) where
    here : end ≡ at + index_of 10 rest
    here = e.place

    length_here : end - at ≡ index_of 10 rest
    length_here = omega (arith, here)

    -- the line up to its end
    longer : taking_all start (take end piece) ≡ lengthened s (take (end - at) rest)
    longer = up_to end (omega (arith, here)) ∙ rw length_here (line_taken rest s short)

    count_here : taken_of (length out) start piece ≡ end + taken_of (length out) (lengthened s (take (end - at) rest)) (drop (end - at) rest)
    count_here = f.left ∙ rw length_here (omega (arith, here, line_counted (length out) rest s short (room_is room)))

    -- the line ends in the piece
    module _ (before_end : end < length piece) where
      byte : drop (end - at) rest ≡ 10 ∷ drop (end + 1) piece
      byte =
          let later : at + suc (index_of 10 rest) ≡ end + 1 = omega (arith, here) in
          let inside : index_of 10 rest < length rest = omega (arith, here, before_end, length-drop at piece) in
          rw length_here (found rest inside ∙ ap (λ (l : List ℕ). 10 ∷ l) (drop-drop (suc (index_of 10 rest)) at piece ∙ ap (λ (k : ℕ). drop k piece) later))

      ended_here : taking_all start (take (end + 1) piece) ≡ ended (with_line_lem s (s.line ++ take (end - at) rest))
      unfolding taking_all
      ended_here =
          let more : end + 1 - at ≡ (end - at) + 1 = omega (arith, here) in
          let parts : take (end + 1 - at) rest ≡ take (end - at) rest ++ (10 ∷ []) = rw (more, take-add (end - at) 1 rest, byte) in
          up_to (end + 1) (omega (arith, here))
          ∙ rw (parts, pieces_join s (take (end - at) rest) (10 ∷ []), ← (up_to end (omega (arith, here))), longer) (ends_line s (take (end - at) rest))

      left_here : taken_of (length out) start piece ≡ end + 1 + taken_of (length out) (ended (with_line_lem s (s.line ++ take (end - at) rest))) (drop (end + 1) piece)
      left_here =
          let here_room : length (lengthened s (take (end - at) rest)).written + 320 ≤ length out = same_room (length out) s (take (end - at) rest) (room_is room) in
          let one = takes_one (length out) (lengthened s (take (end - at) rest)) 10 (drop (end + 1) piece) here_room in
          let ends : taking (lengthened s (take (end - at) rest)) 10 ≡ ended (with_line_lem s (s.line ++ take (end - at) rest)) = ends_line s (take (end - at) rest) in
          count_here ∙ rw (byte, one, ends) (omega arith)

    pub feed_on : end < length piece → (r : Answered) (later_store last_out : List ℕ)
        → length last_out ≡ length later_out → Answers book store (take count begun ++ take (end - at) (drop at piece)) later_out put r later_store last_out
        → FedTo start begun piece out r.book 0 (end + 1) r.next later_store last_out
    unfolding ended
    feed_on lt r later_store last_out same_later a =
        record {
          kept = f.kept;
          inside = omega arith;
          few = omega arith;
          same = same_later ∙ f.same;
          reached = rw (ended_here lt) (record {
            later = a.later ∙ rw (f.line, f.reached.later);
            own = a.own ∙ rw (f.line, f.reached.later, f.reached.own);
            lent = a.lent ∙ rw (f.line, f.reached.later, f.reached.lent);
            puts = joined out 0 s.written (omega arith) _ later_out put f.reached.puts last_out r.next (put_in later_out put _ last_out r.next room (rw (← f.reached.later, ← f.line) a.puts));
          });
          line = rw (ended_here lt);
          left = rw (ended_here lt) (left_here lt);
        }

-- what it says that a line can be answered, or not
module _ (piece : List ℕ) (end : ℕ) (out : List ℕ) (put : ℕ) where
  both_by : (a b : Bool) → ltb end (length piece) ≡ a → has_room out put ≡ b → a && b ≡ true → (end < length piece) × (has_room out put ≡ true)
  both_by true true inside room e = (ltb-true end (length piece) inside, room)
  both_by true false inside room e = absurd (true≢false (sym e))
  both_by false b inside room e = absurd (true≢false (sym e))

  both : (t : Bool) → t ≡ can_answer piece end out put → t ≡ true → (end < length piece) × (has_room out put ≡ true)
  both t told can = both_by (ltb end (length piece)) (has_room out put) refl refl (sym told ∙ can)

  pub ends_inside : (t : Bool) → t ≡ can_answer piece end out put → t ≡ true → end < length piece
  ends_inside t told can = (both t told can).0

  pub next_inside : (t : Bool) → t ≡ can_answer piece end out put → t ≡ true → end + 1 ≤ length piece
  next_inside t told can = omega (arith, ends_inside t told can)

  -- the next line's end is nearer to the piece's
  pub nearer : (t : Bool) → t ≡ can_answer piece end out put → t ≡ true → (later : ℕ) → EndsAt piece (end + 1) later → length piece - later < length piece - end
  nearer t told can later e = omega (arith, ends_inside t told can, e.place)

  pub has_room_there : (t : Bool) → t ≡ can_answer piece end out put → t ≡ true → has_room out put ≡ true
  has_room_there t told can = (both t told can).1

  over_by : (a : Bool) → ltb end (length piece) ≡ a → has_room out put ≡ true → a && has_room out put ≡ false → length piece ≤ end
  over_by true inside room e = absurd (true≢false (sym room ∙ e))
  over_by false inside room e = ltb-false end (length piece) inside

  pub none_ends : (t : Bool) → t ≡ can_answer piece end out put → t ≡ false → has_room out put ≡ true → length piece ≤ end
  none_ends t told cannot room = over_by (ltb end (length piece)) refl room (sym told ∙ cannot)

-- line after line from place `start` on: the next byte 10 is at `end`, or the piece ends there
pub record Seeking (begin : Answered) (first piece : List ℕ) (start : ℕ) (out : List ℕ) (last : Answered) (at end : ℕ) (store later_out : List ℕ) : Type 0 where
  pub inside : at ≤ length piece
  pub same : length later_out ≡ length out
  pub fed : (s : Progress) (begun whole : List ℕ) → FedTo s begun piece whole begin.book 0 start begin.next first out → FedTo s begun piece whole last.book 0 at last.next store later_out
  pub ends : EndsAt piece at end

pub seek_start : (begin : Answered) (store piece : List ℕ) (start : ℕ) (out : List ℕ) → start ≤ length piece → (end : ℕ) → EndsAt piece start end
    → Seeking begin store piece start out begin start end store out
seek_start begin store piece start out le end e = record { inside = le; same = refl; fed = λ s begun whole f. f; ends = e }

module _ (begin : Answered) (first piece : List ℕ) (start : ℕ) (out : List ℕ) (last : Answered) (at end : ℕ) (store later_out : List ℕ) (k : Seeking begin first piece start out last at end store later_out)
    (t : Bool) (told : t ≡ can_answer piece end later_out last.next) where
  pub seek_on : t ≡ true → (r : Answered) (later_store last_out : List ℕ) → Answers last.book store (take (end - at) (drop at piece)) later_out last.next r later_store last_out → length last_out ≡ length later_out
      → (later : ℕ) → EndsAt piece (end + 1) later → Seeking begin first piece start out r (end + 1) later later_store last_out
  seek_on can r later_store last_out a same later e =
      let lt = ends_inside piece end later_out last.next t told can in
      let room = has_room_there piece end later_out last.next t told can in
      record {
        inside = omega (arith, lt);
        same = same ∙ k.same;
        fed = λ s begun whole f. feed_on s begun piece whole last.book 0 at last.next store later_out (k.fed s begun whole f) room end k.ends lt r later_store last_out same a;
        ends = e;
      }

-- no line is left, or no room
pub whole_lines : (book : Book) (first piece : List ℕ) (start : ℕ) (out : List ℕ) (from : ℕ) (last : Answered) (at end : ℕ) (store later_out : List ℕ)
    → Seeking (record { book = book; next = from }) first piece start out last at end store later_out
    → (t : Bool) → t ≡ can_answer piece end later_out last.next → t ≡ false
    → AnswersWholeLines book first piece start out from (record { book = last.book; begun = 0; at = at; put = last.next }) store later_out
whole_lines book first piece start out from last at end store later_out k t told cannot =
    record {
      fed = k.fed;
      over = λ (room : has_room later_out last.next ≡ true). omega (arith, none_ends piece end later_out last.next t told cannot room, k.ends.place, k.ends.within, k.inside, length-drop at piece);
    }
