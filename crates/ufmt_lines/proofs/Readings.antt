-- The group that is being read: lines after which it continues, and a line that hasn't ended.
use Rattle.std.proofs.Common.{◌≡◌, ◌≢◌, ◌∙◌, refl, ap, sym, subst, ℕ, Bool, List, [], ◌∷◌, ◌++◌, append_assoc, append-nil, drop, take, length, nat_lt, ◌+◌, ◌≤◌, Option, Some, None, arith}
use Rattle.std.proofs.Math.Seq.{drop-append-add, drop-append_seam, take-append-add}
use Rattle.std.proofs.lemmas.List.{length-append}
use Rattle.std.proofs.lemmas.List.Elements.{All-append, All-nil}
use Rattle.ufmt.specs.Bytes.{line_feed}
use Rattle.ufmt_core.specs.declared.layout.Mode.{Mode}
use Rattle.ufmt_lines.specs.declared.run.conversion.Conversion.{Conversion}
use Rattle.ufmt_lines.specs.declared.run.groups.Group.{Group}
use Rattle.ufmt_lines.specs.Groups.{IsInGroup, IsInLine, groups_of, if_any}
use Rattle.ufmt_lines.specs.Private.Group.{EndsGroup, Gathers, IsEndOf, IsEndedLine, IsOpen, IsReading, group_bytes}
use Rattle.ufmt_lines.specs.Values.{output_of}
use Rattle.ufmt_lines.proofs.Cuts.{outputs_any}
use Rattle.ufmt_lines.proofs.Groups.{groups_only, nothing_open, reading_in_group}

module _ (mode : Mode) where
  -- nothing is read yet
  pub reading_nothing : (group : Group) → group_bytes group ≡ [] → group.line ≡ 0 → IsReading mode group
  reading_nothing group none start =
      record { lines = []; line = []; bytes = none; begins = start; is_open = nothing_open mode; in_line = All-nil (λ b. b ≢ line_feed) }

  -- the same bytes, and the same line
  pub reading_same : (old new : Group) → group_bytes new ≡ group_bytes old → new.line ≡ old.line → IsReading mode old → IsReading mode new
  reading_same old new same line h = record { lines = h.lines; line = h.line; bytes = same ∙ h.bytes; begins = line ∙ h.begins; is_open = h.is_open; in_line = h.in_line }

  -- more of the line is read
  pub reading_more : (old new : Group) (more : List ℕ) → group_bytes new ≡ group_bytes old ++ more → new.line ≡ old.line → IsInLine more → IsReading mode old → IsReading mode new
  reading_more old new more bytes line within h = record {
    lines = h.lines;
    line = h.line ++ more;
    bytes = bytes ∙ ap (λ t. t ++ more) h.bytes ∙ append_assoc h.lines h.line more;
    begins = line ∙ h.begins;
    is_open = h.is_open;
    in_line = All-append (λ b. b ≢ line_feed) h.line more h.in_line within;
  }

  -- the bytes are one group, if they are any
  pub reading_one : (group : Group) → IsReading mode group → groups_of mode (group_bytes group) ≡ if_any (group_bytes group)
  reading_one group h = subst (λ t. groups_of mode t ≡ if_any t) (sym h.bytes) (groups_only mode h.lines h.line h.is_open h.in_line)

  -- and no group has ended in them
  pub reading_within : (group : Group) → IsReading mode group → IsInGroup mode (group_bytes group)
  reading_within group h = subst (IsInGroup mode) (sym h.bytes) (reading_in_group mode h.lines h.line h.is_open h.in_line)

  -- the lines that a group begins with are read
  pub reading_lines : (group : Group) (lines : List ℕ) → group_bytes group ≡ lines → group.line ≡ length (group_bytes group) → IsOpen mode lines → IsReading mode group
  reading_lines group lines bytes begins is_open = record {
    lines = lines;
    line = [];
    bytes = bytes ∙ sym (append-nil lines);
    begins = begins ∙ ap length bytes;
    is_open = is_open;
    in_line = All-nil (λ b. b ≢ line_feed);
  }

  module _ (old : Group) (bytes : List ℕ) (h : IsReading mode old) (ended : IsEndedLine bytes) where
    abbrev pub whole_line : List ℕ
    whole_line = h.line ++ bytes

    pub all_bytes : group_bytes old ++ bytes ≡ h.lines ++ whole_line
    all_bytes = ap (λ t. t ++ bytes) h.bytes ∙ append_assoc h.lines h.line bytes

    -- what is after the lines
    pub line_is : drop old.line (group_bytes old ++ bytes) ≡ whole_line
    line_is = ap (drop old.line) all_bytes ∙ ap (λ n. drop n (h.lines ++ whole_line)) h.begins ∙ drop-append_seam h.lines whole_line

    whole_line_ended : IsEndedLine whole_line
    whole_line_ended = (h.line ++ ended.0, All-append (λ b. b ≢ line_feed) h.line ended.0 h.in_line ended.1, ap (λ t. h.line ++ t) ended.2 ∙ sym (append_assoc h.line ended.0 (line_feed ∷ [])))

    pub line_ended : IsEndedLine (drop old.line (group_bytes old ++ bytes))
    line_ended = subst IsEndedLine (sym line_is) whole_line_ended

    pub end_at : (inside : Bool) (outcome : Option ℕ) → inside ≡ nat_lt 0 old.line → IsEndOf mode inside (drop old.line (group_bytes old ++ bytes)) outcome → IsEndOf mode (nat_lt 0 (length h.lines)) whole_line outcome
    end_at inside outcome is found = subst (λ l. IsEndOf mode (nat_lt 0 (length h.lines)) l outcome) line_is (subst (λ b. IsEndOf mode b (drop old.line (group_bytes old ++ bytes)) outcome) (is ∙ ap (nat_lt 0) h.begins) found)

    -- the group continues after the line
    pub line_open : (inside : Bool) → inside ≡ nat_lt 0 old.line → IsEndOf mode inside (drop old.line (group_bytes old ++ bytes)) None → IsOpen mode (group_bytes old ++ bytes)
    line_open inside is found = subst (IsOpen mode) (sym all_bytes) (end_at inside None is found h.lines refl h.is_open)

    -- or it ends in it
    pub line_ends_group : (inside : Bool) (size : ℕ) → inside ≡ nat_lt 0 old.line → IsEndOf mode inside (drop old.line (group_bytes old ++ bytes)) (Some size) → EndsGroup mode h.lines whole_line size
    line_ends_group inside size is found = end_at inside (Some size) is found h.lines refl h.is_open

    -- so many bytes of the line are read
    pub size_within : (size : ℕ) → size ≤ length whole_line → old.line + size ≤ length (group_bytes old ++ bytes)
    size_within size within = let all = ap length all_bytes ∙ length-append h.lines whole_line in let start = h.begins in omega (arith, all, start, within)

    module _ (size : ℕ) where
      pub taken : take (old.line + size) (group_bytes old ++ bytes) ≡ h.lines ++ take size whole_line
      taken = ap (take (old.line + size)) all_bytes ∙ ap (λ n. take (n + size) (h.lines ++ whole_line)) h.begins ∙ take-append-add h.lines whole_line size

      pub left : drop (old.line + size) (group_bytes old ++ bytes) ≡ drop size whole_line
      left = ap (drop (old.line + size)) all_bytes ∙ ap (λ n. drop (n + size) (h.lines ++ whole_line)) h.begins ∙ drop-append-add h.lines whole_line size

module _ (conversion : Conversion) (old : Group) (bytes : List ℕ) (h : IsReading conversion.to old) (ended : IsEndedLine bytes) (size : ℕ) (ends : EndsGroup conversion.to h.lines (whole_line conversion.to old bytes h ended) size) where
  -- the output for the group that ended is appended
  pub group_gathered : (rest first second : List ℕ) → rest ≡ drop (old.line + size) (group_bytes old ++ bytes)
      → second ≡ first ++ output_of conversion (take (old.line + size) (group_bytes old ++ bytes)) → Gathers conversion (group_bytes old ++ bytes) rest first second
  group_gathered rest first second is appended =
      let line = whole_line conversion.to old bytes h ended in
      subst (λ t. Gathers conversion t rest first second) (sym (all_bytes conversion.to old bytes h ended))
      (subst (λ r. Gathers conversion (h.lines ++ line) r first second) (sym (is ∙ left conversion.to old bytes h ended size)) (record {
        groups = if_any (h.lines ++ take size line);
        are_first = ends.ended;
        appended = appended ∙ ap (λ t. first ++ t) (ap (output_of conversion) (taken conversion.to old bytes h ended size) ∙ sym (outputs_any conversion (h.lines ++ take size line)));
      }))

  -- what is left of the line begins the next group
  pub rest_read : (new : Group) → group_bytes new ≡ drop (old.line + size) (group_bytes old ++ bytes) → new.line ≡ length (group_bytes new) → IsReading conversion.to new
  rest_read new is begins = reading_lines conversion.to new _ (is ∙ left conversion.to old bytes h ended size) begins ends.left
