-- Lines that end with an opening bracket, and the word before it.
use Rattle.std.proofs.Common.{◌≡◌, ◌≢◌, ◌∙◌, inl, inr, refl, ap, sym, subst, ℕ, zero, List, [], ◌∷◌, ◌++◌, Bool, true, false, ◌&&◌, ◌==◌, cond, nat_le, get_or, drop, take, length, suc, ◌+◌, ◌-◌, ◌<◌, ◌≤◌, arith}
use Rattle.std.proofs.Math.Dec.{leb-zero}
use Rattle.std.proofs.lemmas.Bool.{true≢false}
use Rattle.std.proofs.lemmas.List.{drop-append-le, get_or-drop, length-append, length-drop, take-append-le}
use Rattle.std.proofs.lemmas.List.Elements.{All-drop, All-get_or, All-take}
use Rattle.std.proofs.lemmas.Bool.Decides.{eqb_tells}
use Rattle.ufmt.specs.Bytes.{line_feed, opening_brace, space}
use Rattle.ufmt.specs.Leaves.{is_name_byte, is_opening}
use Rattle.ufmt_lines.specs.Groups.{IsInLine, is_indented, is_spaced_brace, opens, word_start}
use Rattle.ufmt_lines.specs.Private.Group.{IsEndedLine}
use Rattle.ufmt_values.specs.Values.{run_start}

no_feed : (a b : ℕ) (c : Bool) → a ≢ b → ((a == b) && c) ≡ false
no_feed a b c apart = elim (eqb_tells a b) [ inl h ↦ absurd (apart h.1) | inr h ↦ rw h.0 refl ]

-- a text without a line feed isn't such a line
pub opens_no_line : (line : List ℕ) → IsInLine line → opens line ≡ false
opens_no_line [] within = refl
opens_no_line (byte ∷ line) within =
    let apart = All-get_or (λ b. b ≢ line_feed) (byte ∷ line) (length (byte ∷ line) - 1) 0 (omega arith) within in
    no_feed (get_or (byte ∷ line) (length (byte ∷ line) - 1) 0) line_feed _ apart

both_feed_and_bracket : (byte : ℕ) → ((byte == line_feed) && is_opening byte) ≡ true → ⊥
both_feed_and_bracket byte is = elim (eqb_tells byte line_feed) [
  | inl h ↦ absurd (true≢false (sym is ∙ ap (λ b. (b == line_feed) && is_opening b) h.1))
  | inr h ↦ absurd (true≢false (sym is ∙ ap (λ b. b && is_opening byte) h.0))
]

-- it has a bracket and a line feed
pub opens_long : (line : List ℕ) → opens line ≡ true → 2 ≤ length line
opens_long [] is = absurd (true≢false (sym is))
opens_long (byte ∷ []) is = absurd (both_feed_and_bracket byte is)
opens_long (byte ∷ c ∷ line) is = omega arith

run_step : (b : Bool) (n r : ℕ) → r ≤ n → cond b r (suc n) ≤ suc n
run_step true n r within = omega (arith, within)
run_step false n r within = omega arith

run_within : (text : List ℕ) (n : ℕ) → run_start text 0 n ≤ n
run_within text zero = omega arith
run_within text (suc n) = run_step _ n (run_start text 0 n) (run_within text n)

run_after_step : (b : Bool) (s k inner : ℕ) → (suc (s + k) ≡ s → ⊥) → (b ≡ true → inner ≡ 0) → (b ≡ false → suc (s + k) ≡ s) → cond b inner (suc k) ≡ 0
run_after_step true s k inner past more ends = more refl
run_after_step false s k inner past more ends = absurd (past (ends refl))

cond_true : (b : Bool) (n m : ℕ) → b ≡ true → cond b n m ≡ n
cond_true b n m is = rw is refl

cond_false : (b : Bool) (n m : ℕ) → b ≡ false → cond b n m ≡ m
cond_false b n m is = rw is refl

-- a run that begins at the front of a text does so at 0
run_after : (text : List ℕ) (s k : ℕ) → run_start text 0 (s + k) ≡ s → run_start (drop s text) 0 k ≡ 0
run_after text s zero is = refl
run_after text s (suc k) is =
    let next : suc (s + k) ≡ s + suc k = omega arith in
    let here : run_start text 0 (suc (s + k)) ≡ s = ap (run_start text 0) next ∙ is in
    let b = nat_le 0 (s + k) && is_name_byte (get_or text (s + k) 0) in
    let same : (nat_le 0 k && is_name_byte (get_or (drop s text) k 0)) ≡ b = rw (get_or-drop s text k 0, leb-zero k, leb-zero (s + k)) refl in
    ap (λ c. cond c (run_start (drop s text) 0 k) (suc k)) same
    ∙ run_after_step b s k (run_start (drop s text) 0 k) (λ past. absurd (omega (arith, past)))
    (λ named. run_after text s k (sym (cond_true b (run_start text 0 (s + k)) (suc (s + k)) named) ∙ here))
    (λ ends. sym (cond_false b (run_start text 0 (s + k)) (suc (s + k)) ends) ∙ here)

spaced_step : (b : Bool) (text : List ℕ) (n : ℕ) → run_start text 0 (cond b (n - 1) n) ≤ n
spaced_step true text n = let within = run_within text (n - 1) in omega (arith, within)
spaced_step false text n = run_within text n

-- a bracket's word begins at it or before it
pub word_within : (line : List ℕ) (bracket : ℕ) → word_start line bracket ≤ bracket
word_within line bracket = spaced_step (is_spaced_brace line bracket) line bracket

not_brace_and_space : (byte : ℕ) → ((byte == opening_brace) && (byte == space)) ≡ false
not_brace_and_space byte = elim (eqb_tells byte opening_brace) [ inl h ↦ ap (λ b. (b == opening_brace) && (b == space)) h.1 | inr h ↦ ap (λ b. b && (byte == space)) h.0 ]

-- what is at a place, in the text after its front
at_place : (line : List ℕ) (s n m : ℕ) → s + n ≡ m → get_or (drop s line) n 0 ≡ get_or line m 0
at_place line s n m is = get_or-drop s line n 0 ∙ ap (λ i. get_or line i 0) is

spaced_after : (line : List ℕ) (s bracket : ℕ) → s < bracket → is_spaced_brace (drop s line) (bracket - s) ≡ is_spaced_brace line bracket
spaced_after line s bracket less =
    rw (at_place line s (bracket - s) bracket (omega (arith, less)), at_place line s ((bracket - s) - 1) (bracket - 1) (omega (arith, less))) refl

not_spaced_first : (line : List ℕ) → is_spaced_brace line 0 ≡ false
not_spaced_first line = not_brace_and_space (get_or line 0 0)

word_by : (b : Bool) (line : List ℕ) (s bracket : ℕ) → is_spaced_brace line bracket ≡ b → run_start line 0 (cond b (bracket - 1) bracket) ≡ s → s ≤ bracket → word_start (drop s line) (bracket - s) ≡ 0
word_by true line s zero spaced is within = absurd (true≢false (sym spaced ∙ not_spaced_first line))
word_by true line s (suc n) spaced is within =
    let within_run = run_within line (suc n - 1) in let before : s ≤ n = omega (arith, within_run, is) in
    rw (spaced_after line s (suc n) (omega (arith, before)), spaced)
    (let k : (suc n - s) - 1 ≡ n - s = omega (arith, before) in let place : s + (n - s) ≡ n = omega (arith, before) in let this : suc n - 1 ≡ n = omega arith in
    rw k (run_after line s (n - s) (ap (run_start line 0) (place ∙ sym this) ∙ is)))
word_by false line s bracket spaced is within =
    let place : s + (bracket - s) ≡ bracket = omega (arith, within) in
    let run = run_after line s (bracket - s) (ap (run_start line 0) place ∙ is) in
    let none : is_spaced_brace (drop s line) (bracket - s) ≡ false = elim (eqb_tells s bracket) [
      | inl h ↦ (let same = h.1 in let no : bracket - s ≡ 0 = omega (arith, same) in ap (is_spaced_brace (drop s line)) no ∙ not_spaced_first (drop s line))
      | inr h ↦ (let apart = h.1 in let less : s < bracket = omega (arith, within, apart) in spaced_after line s bracket less ∙ spaced)
    ] in
    rw none run

-- the word of the same bracket, in the text from the word on
word_after : (line : List ℕ) (bracket : ℕ) → word_start (drop (word_start line bracket) line) (bracket - word_start line bracket) ≡ 0
word_after line bracket = word_by (is_spaced_brace line bracket) line (word_start line bracket) bracket refl refl (word_within line bracket)

length-more : (text : List ℕ) → length (text ++ line_feed ∷ []) ≡ length text + 1
length-more text = length-append text (line_feed ∷ [])

-- a line that ends with a bracket, and a place at the bracket or before it
module _ (line : List ℕ) (s : ℕ) (is : opens line ≡ true) (before : s ≤ length line - 2) where
  long : 2 ≤ length line
  long = opens_long line is

  pub rest_opens : opens (drop s line) ≡ true
  rest_opens =
      let size = length-drop s line in
      rw size (rw (at_place line s ((length line - s) - 1) (length line - 1) (omega (arith, before, long)), at_place line s ((length line - s) - 2) (length line - 2) (omega (arith, before, long))) is)

  pub front_in_line : IsEndedLine line → IsInLine (take s line)
  front_in_line (text, within, ended) =
      let size : length line ≡ length text + 1 = ap length ended ∙ length-more text in
      subst IsInLine (sym (ap (take s) ended ∙ take-append-le s text (line_feed ∷ []) (omega (arith, before, long, size)))) (All-take (λ b. b ≢ line_feed) s text within)

  pub rest_ended : IsEndedLine line → IsEndedLine (drop s line)
  rest_ended (text, within, ended) =
      let size : length line ≡ length text + 1 = ap length ended ∙ length-more text in
      (drop s text, All-drop (λ b. b ≢ line_feed) s text within, ap (drop s) ended ∙ drop-append-le s text (line_feed ∷ []) (omega (arith, before, long, size)))

-- the front of a line that isn't indented isn't indented
pub front_indented : (line : List ℕ) (s : ℕ) → is_indented line ≡ false → is_indented (take s line) ≡ false
front_indented line zero is = refl
front_indented [] (suc s) is = refl
front_indented (byte ∷ line) (suc s) is = is

-- the word of the line from its last bracket's word on is at its front
pub word_first : (line : List ℕ) → opens line ≡ true → (let s = word_start line (length line - 2) in word_start (drop s line) (length (drop s line) - 2)) ≡ 0
word_first line is =
    let s = word_start line (length line - 2) in
    let before = word_within line (length line - 2) in
    let place : length (drop s line) - 2 ≡ (length line - 2) - s = ap (λ n. n - 2) (length-drop s line) ∙ omega arith in
    ap (word_start (drop s line)) place ∙ word_after line (length line - 2)
