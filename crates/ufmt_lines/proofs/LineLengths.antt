-- The first line of a text, and what follows it.
use Rattle.std.proofs.Common.{◌≡◌, ◌≢◌, inl, inr, ◌∙◌, ap, sym, subst, ℕ, suc, ◌+◌, ◌<◌, ◌≤◌, List, [], ◌∷◌, ◌++◌, drop, take, length, eqb-true, add-one, arith}
use Rattle.std.proofs.lemmas.Bool.{cases_Bool, eqb-false}
use Rattle.std.proofs.lemmas.List.{take-append-drop, take_all}
use Rattle.std.proofs.lemmas.List.Elements.{All-cons, All-nil}
use Rattle.ufmt.specs.Bytes.{line_feed}
use Rattle.ufmt_lines.specs.Groups.{IsInLine}
use Rattle.ufmt_lines.specs.Private.Group.{IsEndedLine}
use Rattle.ufmt_lines.specs.Private.LineLen.{is_line_feed, line_len}

-- so many bytes come before the line feed of the first line, if it has one
record FirstLine (text : List ℕ) (size : ℕ) : Type 0 where
  pub in_line : IsInLine (take size text)
  pub ended : size < length text → take (suc size) text ≡ take size text ++ line_feed ∷ []

first_line : (text : List ℕ) → FirstLine text (line_len text)
first_line [] = record { in_line = All-nil (λ b. b ≢ line_feed); ended = λ less. absurd (omega arith) }
first_line (c ∷ t) =
    let more = first_line t in
    elim (cases_Bool (is_line_feed c)) [
      | inl is ↦ rw is (record { in_line = All-nil (λ b. b ≢ line_feed); ended = λ less. ap (λ b. b ∷ []) (eqb-true c line_feed is) })
      | inr is ↦
          rw is (record {
            in_line = All-cons (λ b. b ≢ line_feed) c (take (line_len t) t) (eqb-false c line_feed is) more.in_line;
            ended = λ less. ap (λ u. c ∷ u) (more.ended (omega (arith, less)));
          })
    ]

-- with a number that is so long
pub split_at_line : (text : List ℕ) (size : ℕ) → size ≡ line_len text → size < length text → IsEndedLine (take (size + 1) text) × (text ≡ take (size + 1) text ++ drop (size + 1) text)
split_at_line text size is less =
    let line = subst (FirstLine text) (sym is) (first_line text) in
    ((take size text, line.in_line, ap (λ n. take n text) (add-one size) ∙ line.ended less), sym (take-append-drop (size + 1) text))

pub one_line_only : (text : List ℕ) (size : ℕ) → size ≡ line_len text → length text ≤ size → IsInLine text
one_line_only text size is all = subst IsInLine (take_all size text all) (subst (FirstLine text) (sym is) (first_line text)).in_line
