-- After the last line that ends in a piece; before the first piece; and after the last one.
-- Assumes nothing.
use mathlib.Core.List.{List, [], ◌∷◌, ◌++◌, append-nil}
use mathlib.Core.Path.{◌≡◌, refl, sym, ap, subst, ◌∙◌}
use mathlib.Core.Bool.{Bool, true, false, true≢false}
use Rattle.std.specs.Prelude.{◌==◌}
use Prim.Native.Nat.{ℕ, ◌+◌, ◌-◌, ◌≤◌, ◌<◌}
use native.Mathlib.Omega.{arith}
use borrow.Author.Tests.{le-leb, lt-leb, leb-false, eqb-true}
use lib.ListN.{length, take, drop, length-drop, take-append-drop}
use lib.Seq.{take-length, take_all, drop-length}
use Rattle.model.specs.Answer.{done_text}
use Rattle.state.specs.declared.book.Book.{Book}
use Rattle.line_end.specs.Index.{index_of}
use Rattle.line_end.specs.Scan.{EndsAt}
use Rattle.answer.specs.Put.{placed, Puts}
use Rattle.answer.specs.Text.{has_room, PutsWithRoom}
use Rattle.pieces.specs.declared.line.OpenLine.{OpenLine}
use Rattle.pieces.specs.declared.answer_line.Answered.{Answered}
use Rattle.pieces.specs.declared.answer_lines.Lines.{Lines}
use Rattle.pieces.specs.declared.feed.Run.{Run}
use Rattle.pieces.specs.Progress.{Progress, ended, lengthened, taking_all, taken_of, at_end, kept_bytes}
use Rattle.pieces.specs.Feed.{bytes_of, open_line, before, progress_of, Answers, FedTo, AnswersLines, AnswersWholeLines, can_answer, Feeds, Closes, PutsDone}
use Rattle.pieces.proofs.LineFound.{line_taken, line_counted}
use Rattle.pieces.proofs.Joining.{front_length}
use Rattle.pieces.proofs.Feeding.{feed_start, feed_on, put_in, room_is, short, ends_inside, has_room_there, none_ends}
use Rattle.pieces.proofs.Pieces.{pieces_join}
use Rattle.pieces.proofs.Written.{at_end_some}

empty_list : (l : List ℕ) → length l ≡ 0 → l ≡ []
empty_list [] z = refl
empty_list (x ∷ l) z = absurd (omega arith)

-- what it says that a line has no byte
module _ (l : List ℕ) (t : Bool) where
  no_byte : t ≡ (length l == 0) → t ≡ true → l ≡ []
  no_byte told e = empty_list l (eqb-true (length l) 0 (sym told ∙ e))

  some_byte : t ≡ (length l == 0) → t ≡ false → length l ≡ 0 → ⊥
  some_byte told e z = true≢false (sym (told ∙ rw z) ∙ e)

-- the lines of a piece, after a line that was begun before it
module _ (book : Book) (store begun piece out : List ℕ) (kept : length begun ≤ kept_bytes) where
  abbrev at_first : Progress
  at_first = before book store begun

  started : FedTo at_first begun piece out book (length begun) 0 0 store out
  started = feed_start book store begun piece out kept

  -- none was begun
  pub none_begun : (t : Bool) → t ≡ (length begun == 0) → t ≡ true → (r : Lines) (later_store later_out : List ℕ) → AnswersWholeLines book store piece 0 out 0 r later_store later_out → AnswersLines book store begun piece out r later_store later_out
  none_begun t told e r later_store later_out w =
      let z : length begun ≡ 0 = ap length (no_byte begun t told e) in
      record { fed = w.fed at_first begun out (rw z at started); over = w.over }

  module _ (end : ℕ) (e : EndsAt piece 0 end) (t : Bool) (told : t ≡ can_answer piece end out 0) where
    pub end_exact : t ≡ true → end ≡ length (take end piece)
    end_exact can = front_length end piece (omega (arith, ends_inside piece end out 0 t told can))

    -- it ends in the piece
    pub first_joined : t ≡ true → (a : Answered) (middle_store middle_out : List ℕ) → length middle_out ≡ length out → Answers book store (begun ++ take end piece) out 0 a middle_store middle_out
        → (r : Lines) (later_store later_out : List ℕ) → AnswersWholeLines a.book middle_store piece (end + 1) middle_out a.next r later_store later_out → AnswersLines book store begun piece out r later_store later_out
    first_joined can a middle_store middle_out same answered r later_store later_out w =
        let all : end - 0 ≡ end = omega arith in
        let lt = ends_inside piece end out 0 t told can in
        let room = has_room_there piece end out 0 t told can in
        let fed = feed_on at_first begun piece out book (length begun) 0 0 store out started room end e lt a middle_store middle_out same (rw (take-length begun, all) answered) in
        record { fed = w.fed at_first begun out fed; over = w.over }

    -- or not, or no text has room
    pub none_joined : t ≡ false → AnswersLines book store begun piece out (record { book = book; begun = length begun; at = 0; put = 0 }) store out
    none_joined cannot = record { fed = started; over = λ (room : has_room out 0 ≡ true). omega (arith, none_ends piece end out 0 t told cannot room, e.place, e.within) }

none_taken : (size : ℕ) (s : Progress) (rest : List ℕ) → size < length s.written + 320 → taken_of size s rest ≡ 0
unfolding taken_of
none_taken size s [] lt = refl
none_taken size s (b ∷ rest) lt = rw (lt-leb (length s.written + 320) size lt)

-- the line that a piece leaves open
module _ (run : Run) (store piece out begun : List ℕ) (same : begun ≡ bytes_of run.line) (r : Lines) (later_store later_out : List ℕ)
    (a : AnswersLines run.book store begun piece out r later_store later_out) where
  fed : FedTo (progress_of run store) (bytes_of run.line) piece out r.book r.begun r.at r.put later_store later_out
  fed = rw same at a.fed

  abbrev s : Progress
  s = taking_all (progress_of run store) (take r.at piece)

  abbrev rest : List ℕ
  rest = drop r.at piece

  abbrev bytes : List ℕ
  bytes = take r.begun begun

  still_open : bytes ≡ s.line
  still_open = rw same fed.line

  line_short : length s.line ≤ kept_bytes
  line_short = short _ _ _ _ _ _ _ _ _ _ fed

  -- the longest text has room: all of the piece is taken
  module _ (t : Bool) (told : t ≡ has_room later_out r.put) (is_room : t ≡ true) (taken : ℕ) (et : taken ≡ length piece) where
    room : has_room later_out r.put ≡ true
    room = sym told ∙ is_room

    all : index_of 10 rest ≡ length rest
    all = a.over room

    here : take (index_of 10 rest) rest ≡ rest
    here = rw all (take-length rest)

    rest_taken : taking_all s rest ≡ lengthened s rest
    rest_taken = subst (λ (l : List ℕ). taking_all s l ≡ lengthened s l) here (line_taken rest s line_short)

    whole : taking_all (progress_of run store) (take (length piece) piece) ≡ lengthened s rest
    whole =
        let split : piece ≡ take r.at piece ++ rest = sym (take-append-drop r.at piece) in
        rw (take-length piece) (ap (taking_all (progress_of run store)) split ∙ pieces_join (progress_of run store) (take r.at piece) rest ∙ rest_taken)

    pub feeds_room : (longer : OpenLine) → longer ≡ open_line (take kept_bytes (bytes ++ take (taken - r.at) rest))
        → Feeds run store piece out (record { run = record { book = r.book; line = longer }; taken = taken; put = r.put }) later_store later_out
    unfolding lengthened taken_of
    feeds_room longer l =
        let nothing : drop (index_of 10 rest) rest ≡ [] = rw all (drop-length rest) in
        let counted : taken_of (length out) s rest ≡ index_of 10 rest + taken_of (length out) (lengthened s (take (index_of 10 rest) rest)) (drop (index_of 10 rest) rest) =
        line_counted (length out) rest s line_short (room_is _ _ _ _ _ _ _ _ _ _ fed room) in
        let none_left : taken_of (length out) s rest ≡ length rest = counted ∙ rw (nothing, all) (omega arith) in
        let all_bytes : take (taken - r.at) rest ≡ rest = rw et (take_all (length piece - r.at) rest (omega (arith, length-drop r.at piece))) in
        record {
          taken = rw et (sym (fed.left ∙ rw none_left (omega (arith, fed.inside, length-drop r.at piece))));
          reached = rw (et, whole) (record { later = fed.reached.later; own = fed.reached.own; lent = fed.reached.lent; puts = fed.reached.puts });
          unended = l ∙ rw (all_bytes, et, whole, still_open);
        }

  -- or not: the bytes up to the last line's end are taken
  pub feeds_full : (t : Bool) → t ≡ has_room later_out r.put → t ≡ false → (taken : ℕ) → taken ≡ r.at → (kept : OpenLine) → kept ≡ open_line (take kept_bytes (bytes ++ take (taken - r.at) rest))
      → Feeds run store piece out (record { run = record { book = r.book; line = kept }; taken = taken; put = r.put }) later_store later_out
  feeds_full t told no_room taken et kept l =
      let full : has_room later_out r.put ≡ false = sym told ∙ no_room in
      let nothing : taken - r.at ≡ 0 = omega (arith, et) in
      let all_kept : length bytes ≤ kept_bytes = rw still_open line_short in
      let less : length out < length s.written + 320 = omega (arith, leb-false (r.put + 320) (length later_out) full, fed.reached.puts.after_it, fed.same) in
      record {
        taken = rw et (sym (fed.left ∙ rw (none_taken (length out) s rest less) (omega arith)));
        reached = rw et fed.reached;
        unended = l ∙ rw (nothing, et, append-nil bytes, take_all kept_bytes bytes all_kept, still_open);
      }

at_end_by_lem : (s : Progress) (line : List ℕ) → s.line ≡ line → (length line ≡ 0 → ⊥) → at_end s ≡ ended s
at_end_by_lem s [] e nz = absurd (nz refl)
at_end_by_lem s (b ∷ line) e nz = at_end_some s b line e

at_end_line : (s : Progress) → (length s.line ≡ 0 → ⊥) → at_end s ≡ ended s
at_end_line s nz = at_end_by_lem s s.line refl nz

-- a large buffer has room for a text
put_first : (out text later_out : List ℕ) (next : ℕ) → length out ≡ 65536 → PutsWithRoom out 0 text later_out next → Puts out 0 text later_out next
put_first out text later_out next size p = put_in out 0 text later_out next (le-leb (0 + 320) (length out) (omega (arith, size))) p

-- the end of input
module _ (run : Run) (store out line : List ℕ) (same : line ≡ bytes_of run.line) where
  pub closes_none : (t : Bool) → t ≡ (length line == 0) → t ≡ true → Closes run store out (record { book = run.book; next = 0 }) store out
  unfolding at_end placed
  closes_none t told e =
      let no_line : bytes_of run.line ≡ [] = sym same ∙ no_byte line t told e in
      record { reached = rw no_line (record { later = refl; own = refl; lent = refl; puts = record { whole = refl; after_it = refl } }) }

  pub closes_line : (t : Bool) → t ≡ (length line == 0) → t ≡ false → length out ≡ 65536
      → (r : Answered) (later_store later_out : List ℕ) → Answers run.book store line out 0 r later_store later_out → Closes run store out r later_store later_out
  unfolding ended
  closes_line t told e size r later_store later_out a =
      let ends : at_end (progress_of run store) ≡ ended (progress_of run store) = at_end_line (progress_of run store) (λ (z : length (bytes_of run.line) ≡ 0). some_byte line t told e (ap length same ∙ z)) in
      let shown : Answers run.book store (bytes_of run.line) out 0 r later_store later_out = rw same at a in
      record { reached = rw ends (record { later = shown.later; own = shown.own; lent = shown.lent; puts = put_first out _ later_out r.next size shown.puts }) }

-- and DONE
pub puts_done : (book : Book) (out later_out : List ℕ) (put : ℕ) → length out ≡ 65536 → PutsWithRoom out 0 (done_text book.accepted book.refused) later_out put → PutsDone book out put later_out
puts_done book out later_out put size p = record { puts = put_first out _ later_out put size p }
