-- An open block after one of its entries: the next entry, or its end.
use Rattle.std.proofs.Common.{◌≡◌, ◌∙◌, ap, ℕ, zero, suc, ◌<◌, ◌≤◌, List, ◌∷◌, ◌++◌, length, length-append, Some, option_and_then, arith}
use Rattle.ufmt_core.specs.Layout.{ending, frame, inside, lead, line_start, next}
use Rattle.ufmt_core.specs.declared.layout.Count.{Count}
use Rattle.ufmt_core.specs.declared.layout.Count.TheVariants.{Zero}
use Rattle.ufmt_core.specs.declared.layout.Kind.{Kind}
use Rattle.ufmt_core.specs.declared.layout.Setting.{Setting}
use Rattle.ufmt_grammar.specs.declared.class.Class.{Class}
use Rattle.ufmt_grammar.specs.Reading.{strip, read_name, read_pair}
use Rattle.ufmt_grammar.proofs.Parsing.{strip-append, strip_found}
use Rattle.ufmt_grammar.proofs.ReadingTurns.{Takes, strip_within, read_takes, read_pair_takes, read_name_takes}
use Rattle.ufmt_scan.proofs.Strips.{if_any-next}
use Rattle.ufmt_scan.specs.Private.Level.{budget_of, entry_at, entry_of, setting_at, Level}

-- a text is shorter after at least one byte is stripped from it
pub strip_shortens : (c : ℕ) (text t u : List ℕ) → strip (c ∷ text) t ≡ Some u → length u < length t
strip_shortens c text t u h = rw (strip_found (c ∷ text) t u h, length-append (c ∷ text) u) (omega arith)

-- a text does not get longer when a lead is stripped from it
pub after_lead : (level : Level) (kind : Kind) (t u : List ℕ) → strip (lead (frame level.mode kind) (inside (setting_at level)) Zero) t ≡ Some u
    → length u < suc (length t)
after_lead level kind t u h =
    let within : length u ≤ length t = strip_within (lead (frame level.mode kind) (inside (setting_at level)) Zero) t u h in omega (arith, within)

-- after an entry, a block's ending is the start of a line and the closing
pub ending_stripped : (level : Level) (kind : Kind) (before : Count) (t : List ℕ) → strip (ending (frame level.mode kind) (setting_at level) (next before)) t
    ≡ option_and_then (strip ((frame level.mode kind).closing (next before))) (strip (line_start (setting_at level).mode (setting_at level).depth) t)
ending_stripped level kind before t =
    let line = line_start (setting_at level).mode (setting_at level).depth in
    let closing = (frame level.mode kind).closing (next before) in
    ap (λ l. strip (l ++ closing) t) (if_any-next before line) ∙ strip-append line closing t

-- what reads an entry, a pair or a field takes at least a byte
entry_takes : (class : Class) (s : Setting) (n : ℕ) → Takes (entry_at class s n)
entry_takes class s zero = record { takes = λ t x u h. absurd (cc) }
entry_takes class s (suc n) = read_takes class (inside s) n

pub entry_of_takes : (level : Level) → Takes (entry_of level)
entry_of_takes level = entry_takes level.class (setting_at level) (budget_of level)

pub pair_takes : (level : Level) → Takes (read_pair (entry_of level) (entry_of level))
pair_takes level = read_pair_takes (entry_of level) (entry_of level) (entry_of_takes level) (entry_of_takes level)

pub field_takes : (level : Level) → Takes (read_pair (read_name level.class) (entry_of level))
field_takes level = read_pair_takes (read_name level.class) (entry_of level) (read_name_takes level.class) (entry_of_takes level)
