-- The rest of the indentation is still to be stripped from the rest of the text.
use Rattle.std.proofs.Common.{◌≡◌, ◌++◌}
use Rattle.ufmt_core.specs.Layout.{indentation, line_start}
use Rattle.ufmt_grammar.specs.Reading.{strip}
use Rattle.ufmt_scan.proofs.strip.strip_to_line.Given as goal

abbrev pub invariant-pairs : goal.invariant-pairs
invariant-pairs l = strip (l.fn.piece ++ line_start l.fn.line.mode l.fn.line.depth) l.fn.input ≡ strip (indentation l.indents) l.rest

abbrev pub decreases-pairs : goal.decreases-pairs
decreases-pairs l = l.indents
