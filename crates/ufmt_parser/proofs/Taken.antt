-- What is taken after a piece, and where more is known of the values.
use Rattle.std.proofs.Common.{◌≡◌, sym, ap, ◌∙◌, List, ℕ, ◌++◌, append_assoc, Result, Ok, Err}
use Rattle.std.proofs.lemmas.List.{append_cancel_left}
use Rattle.ufmt_parser.specs.declared.parser.Fault.{Fault}
use Rattle.ufmt_parser.specs.declared.parser.Fault.TheVariants.{NotText, OutOfMemory}
use Rattle.ufmt_parser.specs.Taking.{DoesNotBegin, Takes, TakesBy}

module _ {T : Type 0} (is : T → Type 0) (text_of : T → List ℕ) where
  module _ (piece old here : List ℕ) (piece_is : old ≡ piece ++ here) where
    past_piece : (w : T) (u : List ℕ) → old ≡ (piece ++ text_of w) ++ u → here ≡ text_of w ++ u
    past_piece w u same = append_cancel_left piece here _ (sym piece_is ∙ same ∙ append_assoc piece (text_of w) u)

    after_piece_by : (outcome : Result T Fault) (new : List ℕ) → TakesBy is text_of here outcome new → TakesBy is (λ v. piece ++ text_of v) old outcome new
    after_piece_by (Ok v) new takes = (
      piece_is ∙ ap (λ t. piece ++ t) takes.0 ∙ sym (append_assoc piece (text_of v) new),
      takes.1,
      λ w u holds may same. takes.2 w u holds may (past_piece w u same),
    )
    after_piece_by (Err NotText) new takes = λ w u holds may same. takes w u holds may (past_piece w u same)
    after_piece_by (Err OutOfMemory) new takes = tt

  taken_with_by : (P : Type 0) → P → (old : List ℕ) (outcome : Result T Fault) (new : List ℕ) → TakesBy is text_of old outcome new
      → TakesBy (λ v. is v × P) text_of old outcome new
  taken_with_by P p old (Ok v) new takes = (takes.0, (takes.1, p), λ w u holds may same. takes.2 w u holds.0 may same)
  taken_with_by P p old (Err NotText) new takes = λ w u holds may same. takes w u holds.0 may same
  taken_with_by P p old (Err OutOfMemory) new takes = tt

-- a text without the piece is refused
pub piece_refused : {T : Type 0} {is : T → Type 0} (text_of : T → List ℕ) (piece : List ℕ) {old new : List ℕ} → DoesNotBegin piece old
    → Takes is (λ v. piece ++ text_of v) old (Err NotText) new
piece_refused text_of piece refuses = record { cases = λ w u holds may same. refuses _ (same ∙ append_assoc piece (text_of w) u) }

module _ {T : Type 0} {is : T → Type 0} {text_of : T → List ℕ} {outcome : Result T Fault} {new : List ℕ} where
  -- what is taken after the piece is taken with it
  pub after_piece : (piece : List ℕ) {old here : List ℕ} → old ≡ piece ++ here → Takes is text_of here outcome new
      → Takes is (λ v. piece ++ text_of v) old outcome new
  after_piece piece {old} {here} piece_is takes = record { cases = after_piece_by is text_of piece old here piece_is outcome new takes.cases }

  -- a fact that holds anyway may be asked of the values
  pub taken_with : {P : Type 0} → P → {old : List ℕ} → Takes is text_of old outcome new → Takes (λ v. is v × P) text_of old outcome new
  taken_with {P} p {old} takes = record { cases = taken_with_by is text_of P p old outcome new takes.cases }

-- a text that each value has is taken
module _ {T : Type 0} {is : T → Type 0} (piece : List ℕ) {old new : List ℕ} where
  pub constant_taken : {v : T} → old ≡ piece ++ new → is v → Takes is (λ w. piece) old (Ok v) new
  constant_taken piece_is holds = record { cases = (piece_is, holds, λ w u is_w may same. append_cancel_left piece u new (sym same ∙ piece_is)) }
