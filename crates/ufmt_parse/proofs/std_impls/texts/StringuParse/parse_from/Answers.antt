use Rattle.std.specs.Prelude.{⊤}
use Rattle.ufmt.specs.ValueDocuments.{string}
use Rattle.ufmt_parser.specs.Taking.{open_blocks, rest}
use Rattle.ufmt_parser.proofs.Clauses.{none_clause, only_clause, taken_clause}
use Rattle.ufmt_parse_leaves.proofs.QuotedTaken.{string_taken}
use Rattle.ufmt_parse.proofs.std_impls.texts.StringuParse.parse_from.Goals as goal

pub returns-clause-taken : goal.returns-clause-taken
returns-clause-taken g c =
    taken_clause g.M.ParseMode.mode (λ _. ⊤) string c.args.parser.now c.parse_text.new.parser c.parse_text.result
    (string_taken (open_blocks c.args.parser.now) (rest c.args.parser.now) _ c.parse_text.ensures.takes)

pub returns-clause-only : goal.returns-clause-only
returns-clause-only g c =
    only_clause g.M.ParseMode.mode (λ _. ⊤) string c.args.parser.now c.parse_text.new.parser c.parse_text.result
    (string_taken (open_blocks c.args.parser.now) (rest c.args.parser.now) _ c.parse_text.ensures.takes)

pub returns-clause-none : goal.returns-clause-none
returns-clause-none g c =
    none_clause g.M.ParseMode.mode (λ _. ⊤) string c.args.parser.now c.parse_text.new.parser c.parse_text.result
    (string_taken (open_blocks c.args.parser.now) (rest c.args.parser.now) _ c.parse_text.ensures.takes)
