-- A writer that cuts its text is a lawful writer, and what it took is the fitting part of its text.
use Rattle.std.proofs.Common.{◌≡◌, ◌∙◌, refl, sym, ap, ap₂, subst, ℕ, ◌+◌, ◌<◌, ◌≤◌, Bool, true, false, not, ◌||◌, if◌then◌else◌, List, [], ◌∷◌, ◌++◌, length, take, drop, append_assoc, append-nil, length-append, length-drop, drop-drop, encode_utf8, true≢false, arith}
use Rattle.std.proofs.lemmas.List.{drop_all, length-take, length-take-le, nil_from_length, take-append-drop, take-append-le, take_all}
use Rattle.std.proofs.lemmas.Str.{IsUtf8-append, IsUtf8-from_is_utf8, IsUtf8-take, len_utf8_bounds, length-encode, utf8_valid_len_le}
use Rattle.std.specs.List.{slice_index_or}
use Rattle.std.specs.Str.{IsCharBoundary, IsUtf8}
use Rattle.std.specs.Str.Lossy.{utf8_valid_len}
use Rattle.ufmt.proofs.FittingParts.{fits_whole, fitting_cut, fitting_whole, next, taken_is}
use Rattle.ufmt.specs.Cut.{FrontsCut, fitting_part}
use Rattle.ufmt.specs.Truncating.{Cuts, buffer_length, buffer_name, bytes_before, has_cut, offered_text, remaining_count, truncating_seen, unwritten_bytes, written_bytes}
use Rattle.ufmt.specs.declared.cut.Cut.{Cut}
use Rattle.ufmt.specs.declared.truncating.Truncating.{Truncating}
use Rattle.ufmt_core.specs.Writes.{Appended, Writes}

length-written_bytes : (w : Truncating) → length (written_bytes w) ≡ w.count
length-written_bytes w = length-take-le w.count w.buffer.now w.within

length-unwritten_bytes : (w : Truncating) → w.count + length (unwritten_bytes w) ≡ length w.buffer.now
length-unwritten_bytes w = omega (arith, w.within, length-drop w.count w.buffer.now)

-- a buffer's first `count` bytes are as much of the offered text as fits, and the others are as before
pub record HoldsPart (buffer : List ℕ) (count : ℕ) (is_cut : Bool) (offered before : List ℕ) : Type 0 where
  pub front : take count buffer ≡ fitting_part (length buffer) offered
  pub after : drop count buffer ≡ drop count before
  pub cut : is_cut ≡ true → (length buffer < length offered) × (length buffer < count + 4)
  pub whole : is_cut ≡ false → (offered ≡ take count buffer) × IsUtf8 offered

-- what its ghost fields say
pub holds_of : (w : Truncating) → HoldsPart w.buffer.now w.count w.is_cut (offered_text w) (bytes_before w)
holds_of w = record { front = w.front; after = w.after; cut = λ is. (w.cut is, w.filled is); whole = λ is. (w.whole is, IsUtf8-from_is_utf8 (offered_text w) (w.utf8 is)) }

-- a writer that hasn't cut takes as many bytes as are unwritten
remaining_open : (w : Truncating) → has_cut w ≡ false → remaining_count w ≡ length (unwritten_bytes w)
remaining_open w uncut = ap (λ cut. if cut then 0 else length (unwritten_bytes w)) uncut

remaining_within : (w : Truncating) → remaining_count w ≤ length (unwritten_bytes w)
remaining_within w = elim w.is_cut as (λ cut. (if cut then 0 else length (unwritten_bytes w)) ≤ length (unwritten_bytes w)) [ true ↦ omega arith | false ↦ omega arith ]

-- a call took this many bytes of its piece: as many as fit, up to the end of a character
pub record Takes (old : Truncating) (piece : List ℕ) (taken : ℕ) (buffer : List ℕ) : Type 0 where
  pub bound : taken ≤ remaining_count old
  pub boundary : IsCharBoundary piece taken
  pub nearest : (i : ℕ) → taken < i → i ≤ remaining_count old → ¬ (IsCharBoundary piece i)
  pub written : take (old.count + taken) buffer ≡ written_bytes old ++ take taken piece
  pub after : drop (old.count + taken) buffer ≡ drop (old.count + taken) old.buffer.now
  pub same_length : length buffer ≡ buffer_length old

-- the bytes before a character boundary were put after the written ones
pub Takes-put : (old : Truncating) {piece bytes buffer : List ℕ} {room taken : ℕ} → bytes ≡ piece → room ≡ remaining_count old → taken ≤ room → IsCharBoundary piece taken
    → ((i : ℕ) → taken < i → i ≤ room → ¬ (IsCharBoundary piece i))
    → take (old.count + length (take taken bytes)) buffer ≡ take old.count old.buffer.now ++ take taken bytes
    → drop (old.count + length (take taken bytes)) buffer ≡ drop (old.count + length (take taken bytes)) old.buffer.now
    → length buffer ≡ buffer_length old → Takes old piece taken buffer
Takes-put old {piece} {bytes} {buffer} {room} {taken} same is bound boundary nearest written after same_length =
    let len : length (take taken bytes) ≡ taken = length-take-le taken bytes (omega (arith, ap length same, boundary.0)) in record {
      bound = omega (arith, bound, is);
      boundary = boundary;
      nearest = λ i more within. nearest i more (omega (arith, within, is));
      written = ap (λ n. take (old.count + n) buffer) (sym len) ∙ written ∙ ap (λ p. written_bytes old ++ take taken p) same;
      after = ap (λ n. drop (old.count + n) buffer) (sym len) ∙ after ∙ ap (λ n. drop (old.count + n) old.buffer.now) len;
      same_length = same_length;
    }

module _ {old : Truncating} {piece : List ℕ} (u : IsUtf8 piece) {taken : ℕ} {buffer : List ℕ} (t : Takes old piece taken buffer) where
  pub within : old.count + taken ≤ length buffer
  within = omega (arith, t.bound, remaining_within old, length-unwritten_bytes old, t.same_length)

  after_before : drop (old.count + taken) buffer ≡ drop (old.count + taken) (bytes_before old)
  after_before = t.after ∙ sym (drop-drop taken old.count old.buffer.now) ∙ ap (drop taken) (holds_of old).after ∙ drop-drop taken old.count (bytes_before old)

  -- a piece that was taken whole
  holds_whole : has_cut old ≡ false → length piece ≤ taken → HoldsPart buffer (old.count + taken) false (offered_text old ++ piece) (bytes_before old)
  holds_whole uncut all =
      let known = (holds_of old).whole uncut in
      let is : offered_text old ++ piece ≡ take (old.count + taken) buffer = ap₂ (λ s p. s ++ p) known.0 (sym (take_all taken piece all)) ∙ sym t.written in
      let utf8 = IsUtf8-append (offered_text old) piece known.1 u in
      let within : length (offered_text old ++ piece) ≤ length buffer = omega (arith, ap length is, length-take (old.count + taken) buffer) in record {
        front = sym is ∙ sym (fitting_whole (length buffer) (offered_text old ++ piece) within utf8);
        after = after_before;
        cut = λ no. absurd (true≢false (sym no));
        whole = λ _. (is, utf8);
      }

  -- the first piece that was cut
  holds_cut : has_cut old ≡ false → taken < length piece → HoldsPart buffer (old.count + taken) true (offered_text old ++ piece) (bytes_before old)
  holds_cut uncut more =
      let known = (holds_of old).whole uncut in
      let c = next piece u (remaining_count old) taken t.bound t.boundary t.nearest more in
      let front = written_bytes old ++ take taken piece in
      let split : offered_text old ++ piece ≡ front ++ (encode_utf8 c.character ++ c.rest) =
      ap₂ (λ s p. s ++ p) known.0 c.split ∙ sym (append_assoc (written_bytes old) (take taken piece) (encode_utf8 c.character ++ c.rest)) in
      let len : length front ≡ old.count + taken = omega (arith, length-append (written_bytes old) (take taken piece), length-written_bytes old, length-take-le taken piece t.boundary.0) in
      let fits : length front ≤ length buffer = omega (arith, len, t.bound, remaining_open old uncut, length-unwritten_bytes old, t.same_length) in
      let long : length buffer < length front + length (encode_utf8 c.character) = omega (arith, c.long, len, remaining_open old uncut, length-unwritten_bytes old, t.same_length) in
      let utf8 = IsUtf8-append (written_bytes old) (take taken piece) (subst IsUtf8 known.0 known.1) (IsUtf8-take piece taken u t.boundary) in record {
        front = t.written ∙ sym (fitting_cut (length buffer) (offered_text old ++ piece) front c.rest c.character split utf8 fits long);
        after = after_before;
        cut = λ _. (
          omega (arith, long, ap length split, length-append front (encode_utf8 c.character ++ c.rest), length-append (encode_utf8 c.character) c.rest),
          omega (arith, long, len, length-encode c.character, len_utf8_bounds c.character),
        );
        whole = λ no. absurd (true≢false no);
      }

  none_taken : has_cut old ≡ true → taken ≡ 0
  none_taken was = omega (arith, t.bound, ap (λ cut. if cut then 0 else length (unwritten_bytes old)) was)

  -- a piece after a cut
  holds_after : has_cut old ≡ true → HoldsPart buffer (old.count + taken) true (offered_text old) (bytes_before old)
  holds_after was =
      let cut = (holds_of old).cut was in record {
        front = t.written ∙ ap (λ n. written_bytes old ++ take n piece) (none_taken was) ∙ append-nil (written_bytes old) ∙ (holds_of old).front ∙ ap (λ n. fitting_part n (offered_text old)) (sym t.same_length);
        after = after_before;
        cut = λ _. (omega (arith, cut.0, t.same_length), omega (arith, cut.1, t.same_length));
        whole = λ no. absurd (true≢false no);
      }

  -- the text that it was offered, with this piece if none was cut before
  abbrev pub offers : List ℕ
  offers = if has_cut old then offered_text old else offered_text old ++ piece

  -- a call that is `Ok`
  pub HoldsPart-whole : {o : List ℕ} → o ≡ offers → length piece ≤ taken → HoldsPart buffer (old.count + taken) (has_cut old) o (bytes_before old)
  HoldsPart-whole is all = subst (λ o. HoldsPart buffer (old.count + taken) (has_cut old) o (bytes_before old)) (sym is) (elim (has_cut old) as (λ cut. has_cut old ≡ cut → HoldsPart buffer (old.count + taken) cut (if cut then offered_text old else offered_text old ++ piece) (bytes_before old)) [
    | true ↦ λ was. holds_after was
    | false ↦ λ was. holds_whole was all
  ] refl)

  -- a call that fails
  pub HoldsPart-cut : {o : List ℕ} → o ≡ offers → taken < length piece → HoldsPart buffer (old.count + taken) true o (bytes_before old)
  HoldsPart-cut is more = subst (λ o. HoldsPart buffer (old.count + taken) true o (bytes_before old)) (sym is) (elim (has_cut old) as (λ cut. has_cut old ≡ cut → HoldsPart buffer (old.count + taken) true (if cut then offered_text old else offered_text old ++ piece) (bytes_before old)) [
    | true ↦ λ was. holds_after was
    | false ↦ λ was. holds_cut was more
  ] refl)

  part_is : fitting_part (remaining_count old) piece ≡ take taken piece
  part_is = taken_is piece u (remaining_count old) taken t.bound t.boundary t.nearest

  taken_length : length (fitting_part (remaining_count old) piece) ≡ taken
  taken_length = ap length part_is ∙ length-take-le taken piece t.boundary.0

  -- the writer after the call
  module _ (new : Truncating) (buffer_is : new.buffer.now ≡ buffer) (count_is : new.count ≡ old.count + taken) (name_is : buffer_name new ≡ buffer_name old)
      (before_is : bytes_before new ≡ bytes_before old) (offered_is : offered_text new ≡ offers) where
    written_is : written_bytes new ≡ written_bytes old ++ fitting_part (remaining_count old) piece
    written_is = ap₂ take count_is buffer_is ∙ t.written ∙ ap (λ p. written_bytes old ++ p) (sym part_is)

    unwritten_is : unwritten_bytes new ≡ drop taken (unwritten_bytes old)
    unwritten_is = ap₂ drop count_is buffer_is ∙ t.after ∙ sym (drop-drop taken old.count old.buffer.now)

    length_is : buffer_length new ≡ buffer_length old
    length_is = ap length buffer_is ∙ t.same_length

    same_identity : truncating_seen.identity new ≡ truncating_seen.identity old
    same_identity = ap₂ (λ n l. n ∷ l ∷ bytes_before new) name_is length_is ∙ ap (λ b. buffer_name old ∷ buffer_length old ∷ b) before_is

    -- past a text that is longer than the buffer there is nothing
    past_end : length new.buffer.now < length (offered_text new) → drop (length (offered_text new)) new.buffer.now ≡ drop (length (offered_text new)) old.buffer.now
    past_end long = drop_all _ new.buffer.now (omega (arith, long)) ∙ sym (drop_all _ old.buffer.now (omega (arith, long, length_is)))

    pub Cuts-whole : length piece ≤ taken → has_cut new ≡ has_cut old → Cuts old piece true new
    Cuts-whole all flag = record {
      fits = (λ _. omega (arith, t.bound), λ _. refl);
      whole = λ _. part_is ∙ take_all taken piece all;
      written = written_is;
      unwritten = unwritten_is ∙ ap (λ n. drop n (unwritten_bytes old)) (sym taken_length);
      same_length = length_is;
      cut = flag ∙ elim (has_cut old) as (λ cut. cut ≡ (cut || false)) [ true ↦ refl | false ↦ refl ];
    }

    whole_open : length piece ≤ taken → has_cut new ≡ false → has_cut old ≡ false → Writes truncating_seen old piece true new
    whole_open all uncut was =
        let known = (holds_of new).whole uncut in
        let len : length (offered_text new) ≡ new.count = ap length known.0 ∙ length-written_bytes new in record {
          stays_known = λ _. tt;
          appended = λ _. offered_is ∙ ap (λ cut. if cut then offered_text old else offered_text old ++ piece) was;
          fits = λ _. refl;
          room_left = λ _. omega (arith, remaining_open old was, remaining_open new uncut, ap length unwritten_is, length-drop taken (unwritten_bytes old), t.boundary.0);
          has_failed = λ no. absurd (true≢false no);
          same_identity = same_identity;
          untouched = λ _. rw len (unwritten_is ∙ drop-drop taken old.count old.buffer.now ∙ ap (λ n. drop n old.buffer.now) (sym count_is));
        }

    whole_after : length piece ≤ taken → has_cut new ≡ true → has_cut old ≡ true → Writes truncating_seen old piece true new
    whole_after all cut was =
        let none : piece ≡ [] = nil_from_length piece (omega (arith, all, none_taken was)) in record {
          stays_known = λ _. tt;
          appended = λ _. offered_is ∙ ap (λ cut. if cut then offered_text old else offered_text old ++ piece) was ∙ sym (ap (λ p. offered_text old ++ p) none ∙ append-nil (offered_text old));
          fits = λ _. refl;
          room_left = λ _. omega (arith, ap (λ cut. if cut then 0 else length (unwritten_bytes old)) was);
          has_failed = λ no. absurd (true≢false no);
          same_identity = same_identity;
          untouched = λ _. past_end ((holds_of new).cut cut).0;
        }

    pub Writes-whole : length piece ≤ taken → has_cut new ≡ has_cut old → Writes truncating_seen old piece true new
    Writes-whole all flag = elim (has_cut old) as (λ cut. has_cut old ≡ cut → Writes truncating_seen old piece true new) [
      | true ↦ λ was. whole_after all (flag ∙ was) was
      | false ↦ λ was. whole_open all (flag ∙ was) was
    ] refl

    pub Cuts-cut : taken < length piece → has_cut new ≡ true → Cuts old piece false new
    Cuts-cut more flag = record {
      fits = (λ whole. absurd (cc), λ fits. absurd (omega (arith, more, fits_whole piece u (remaining_count old) taken t.bound t.boundary t.nearest fits)));
      whole = λ whole. absurd (cc);
      written = written_is;
      unwritten = unwritten_is ∙ ap (λ n. drop n (unwritten_bytes old)) (sym taken_length);
      same_length = length_is;
      cut = flag ∙ elim (has_cut old) as (λ cut. true ≡ (cut || true)) [ true ↦ refl | false ↦ refl ];
    }

    -- of the first piece that is cut all is offered, and of those after it nothing
    begins : (cut : Bool) → has_cut old ≡ cut → Appended false (offered_text old) piece (offered_text new)
    begins true was =
        ([], record { remainder = piece; joined = refl }, offered_is ∙ ap (λ cut. if cut then offered_text old else offered_text old ++ piece) was ∙ sym (append-nil (offered_text old)))
    begins false was =
        (piece, record { remainder = []; joined = sym (append-nil piece) }, offered_is ∙ ap (λ cut. if cut then offered_text old else offered_text old ++ piece) was)

    pub Writes-cut : taken < length piece → has_cut new ≡ true → Writes truncating_seen old piece false new
    Writes-cut more flag = record {
      stays_known = λ _. tt;
      appended = λ _. begins (has_cut old) refl;
      fits = λ fits. absurd (omega (arith, more, fits_whole piece u (remaining_count old) taken t.bound t.boundary t.nearest fits));
      room_left = λ fits. absurd (omega (arith, more, fits_whole piece u (remaining_count old) taken t.bound t.boundary t.nearest fits));
      has_failed = λ _. flag;
      same_identity = same_identity;
      untouched = λ _. past_end ((holds_of new).cut flag).0;
    }

-- a longer text has the same part that fits
fitting_same : (room : ℕ) (text rest : List ℕ) → room < length text → fitting_part room (text ++ rest) ≡ fitting_part room text
fitting_same room text rest long =
    let shorter : room ≤ length text = omega (arith, long) in
    let within : utf8_valid_len (take room text) ≤ length text = omega (arith, long, utf8_valid_len_le (take room text), length-take room text) in
    ap (λ t. take (utf8_valid_len t) (text ++ rest)) (take-append-le room text rest shorter) ∙ take-append-le (utf8_valid_len (take room text)) text rest within

abbrev cut_of : ℕ → Bool → Cut
cut_of count whole = record { length = count; is_whole = whole }

-- what a new writer over a buffer took of a text
module _ (old : List ℕ) (begun ended : Truncating) (written : written_bytes begun ≡ []) (unwritten : unwritten_bytes begun ≡ old) (none : offered_text begun ≡ []) (before : bytes_before begun ≡ old) (text : List ℕ)
    {ok : Bool} (w : Writes truncating_seen begun text ok ended) where
  all : begun.buffer.now ≡ old
  all = sym (take-append-drop begun.count begun.buffer.now) ∙ ap (λ xs. xs ++ unwritten_bytes begun) written ∙ unwritten

  keeps_length : length ended.buffer.now ≡ length old
  keeps_length = ap (λ xs. slice_index_or xs 1 0) w.same_identity ∙ ap length all

  len : length (written_bytes ended) ≡ ended.count
  len = length-written_bytes ended

  in_front : take (length (written_bytes ended)) ended.buffer.now ≡ written_bytes ended
  in_front = ap (λ n. take n ended.buffer.now) len

  after : drop (length (written_bytes ended)) ended.buffer.now ≡ drop (length (written_bytes ended)) old
  after = rw len ((holds_of ended).after ∙ ap (λ b. drop ended.count b) (ap (drop 2) w.same_identity ∙ before))

  -- what was offered is a prefix of the text
  record Offered : Type 0 where
    pub rest : List ℕ
    pub is : text ≡ offered_text ended ++ rest

  offered : (ok : Bool) → Appended ok (offered_text begun) text (offered_text ended) → Offered
  offered true is = record { rest = []; is = sym (append-nil _ ∙ is ∙ ap (λ t. t ++ text) none) }
  offered false part = record { rest = part.1.remainder; is = part.1.joined ∙ ap (λ t. t ++ part.1.remainder) (sym (part.2 ∙ ap (λ t. t ++ part.0) none)) }

  -- a writer that hasn't cut was offered the whole text
  whole_text : has_cut ended ≡ false → (o : Bool) → ok ≡ o → Appended ok (offered_text begun) text (offered_text ended) → offered_text ended ≡ text
  whole_text still true is appended = subst (λ o. Appended o (offered_text begun) text (offered_text ended)) is appended ∙ ap (λ t. t ++ text) none
  whole_text still false is appended = absurd (true≢false (sym (w.has_failed is) ∙ still))

  fronts_whole : has_cut ended ≡ false → FrontsCut old text (record { length = length (written_bytes ended); is_whole = true }) ended.buffer.now
  fronts_whole still =
      let known = (holds_of ended).whole still in
      let is : offered_text ended ≡ text = whole_text still ok refl (w.appended tt) in
      let whole : written_bytes ended ≡ text = sym known.0 ∙ is in
      let within : length text ≤ length old = omega (arith, ap length whole, len, ended.within, keeps_length) in
      let fitting = fitting_whole (length old) text within (subst IsUtf8 is known.1) in record {
        front = in_front ∙ whole ∙ sym fitting;
        exact = ap length (whole ∙ sym fitting);
        untouched = after;
        same_length = keeps_length;
        fits = (λ _. within, λ _. refl);
        whole = λ _. in_front ∙ whole;
        filled = λ long. absurd (omega (arith, long, within));
      }

  fronts_part : has_cut ended ≡ true → FrontsCut old text (record { length = length (written_bytes ended); is_whole = false }) ended.buffer.now
  fronts_part cut =
      let o = offered ok (w.appended tt) in
      let long = (holds_of ended).cut cut in
      let longer : length old < length text = omega (arith, long.0, keeps_length, ap length o.is, length-append (offered_text ended) o.rest) in
      let is : written_bytes ended ≡ fitting_part (length old) text = (holds_of ended).front ∙ ap (λ n. fitting_part n (offered_text ended)) keeps_length
      ∙ sym (ap (fitting_part (length old)) o.is ∙ fitting_same (length old) (offered_text ended) o.rest (omega (arith, long.0, keeps_length))) in record {
        front = in_front ∙ is;
        exact = ap length is;
        untouched = after;
        same_length = keeps_length;
        fits = (λ whole. absurd (cc), λ fits. absurd (omega (arith, fits, longer)));
        whole = λ whole. absurd (cc);
        filled = λ _. omega (arith, long.1, len, keeps_length);
      }

  -- the front of the buffer has the fitting part of the text
  pub fronts_cut : (cut : Cut) → cut.length ≡ length (written_bytes ended) → cut.is_whole ≡ not (has_cut ended) → FrontsCut old text cut ended.buffer.now
  fronts_cut cut count whole = subst (λ c. FrontsCut old text c ended.buffer.now) (sym (ap₂ cut_of count whole)) (elim (has_cut ended) as (λ cut. has_cut ended ≡ cut → FrontsCut old text (record { length = length (written_bytes ended); is_whole = not cut }) ended.buffer.now) [
    | true ↦ λ is. fronts_part is
    | false ↦ λ still. fronts_whole still
  ] refl)
