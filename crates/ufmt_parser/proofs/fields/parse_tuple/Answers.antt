use Rattle.ufmt_core.specs.Document.{documents, tuple_of}
use Rattle.ufmt_parser.specs.Taking.{open_blocks}
use Rattle.ufmt_parser.proofs.Clauses.{none_clause, only_clause, taken_clause, values_clause}
use Rattle.ufmt_parser.proofs.FieldsInARow.{tuple_row}
use Rattle.ufmt_parser.proofs.Words.{tuple_name_is}
use Rattle.ufmt_parser.proofs.fields.parse_tuple.Goals as goal

pub returns-clause-values : goal.returns-clause-values
returns-clause-values g c =
    values_clause g.M.ParseMode.mode g.R.FieldParsers.is_value (λ v. tuple_of c.args.name.now (documents (g.R.FieldParsers.documents v))) c.args.parser.now c.parse_block.new.parser c.parse_block.result
    (tuple_row g.R.FieldParsers.is_value g.R.FieldParsers.documents c.requires.some g.M.ParseMode.mode (open_blocks c.args.parser.now) c.args.name.now c.tuple.ensures (tuple_name_is c.args.name.now c.utf8.name c.requires.named) c.parse_block.ensures.takes)

pub returns-clause-taken : goal.returns-clause-taken
returns-clause-taken g c =
    taken_clause g.M.ParseMode.mode g.R.FieldParsers.is_value (λ v. tuple_of c.args.name.now (documents (g.R.FieldParsers.documents v))) c.args.parser.now c.parse_block.new.parser c.parse_block.result
    (tuple_row g.R.FieldParsers.is_value g.R.FieldParsers.documents c.requires.some g.M.ParseMode.mode (open_blocks c.args.parser.now) c.args.name.now c.tuple.ensures (tuple_name_is c.args.name.now c.utf8.name c.requires.named) c.parse_block.ensures.takes)

pub returns-clause-only : goal.returns-clause-only
returns-clause-only g c =
    only_clause g.M.ParseMode.mode g.R.FieldParsers.is_value (λ v. tuple_of c.args.name.now (documents (g.R.FieldParsers.documents v))) c.args.parser.now c.parse_block.new.parser c.parse_block.result
    (tuple_row g.R.FieldParsers.is_value g.R.FieldParsers.documents c.requires.some g.M.ParseMode.mode (open_blocks c.args.parser.now) c.args.name.now c.tuple.ensures (tuple_name_is c.args.name.now c.utf8.name c.requires.named) c.parse_block.ensures.takes)

pub returns-clause-none : goal.returns-clause-none
returns-clause-none g c =
    none_clause g.M.ParseMode.mode g.R.FieldParsers.is_value (λ v. tuple_of c.args.name.now (documents (g.R.FieldParsers.documents v))) c.args.parser.now c.parse_block.new.parser c.parse_block.result
    (tuple_row g.R.FieldParsers.is_value g.R.FieldParsers.documents c.requires.some g.M.ParseMode.mode (open_blocks c.args.parser.now) c.args.name.now c.tuple.ensures (tuple_name_is c.args.name.now c.utf8.name c.requires.named) c.parse_block.ensures.takes)
