use Rattle.std.specs.Prelude.{zip}
use Rattle.ufmt_core.specs.Document.{fields_of, struct_of}
use Rattle.ufmt_parser.specs.Fields.{all_now}
use Rattle.ufmt_parser.specs.Taking.{open_blocks}
use Rattle.ufmt_parser.proofs.Clauses.{none_clause, only_clause, taken_clause, values_clause}
use Rattle.ufmt_parser.proofs.FieldsInARow.{struct_row}
use Rattle.ufmt_parser.proofs.fields.parse_struct.Goals as goal

pub returns-clause-values : goal.returns-clause-values
returns-clause-values g c =
    values_clause g.M.ParseMode.mode g.R.FieldParsers.is_value (λ v. struct_of c.args.name.now (fields_of (zip (all_now c.args.names.now) (g.R.FieldParsers.documents v)))) c.args.parser.now c.parse_block.new.parser c.parse_block.result
    (struct_row g.R.FieldParsers.is_value g.R.FieldParsers.documents c.requires.some g.M.ParseMode.mode (open_blocks c.args.parser.now) c.args.name.now (all_now c.args.names.now) c.requires.named c.requires.counted c.parse_block.ensures.takes)

pub returns-clause-taken : goal.returns-clause-taken
returns-clause-taken g c =
    taken_clause g.M.ParseMode.mode g.R.FieldParsers.is_value (λ v. struct_of c.args.name.now (fields_of (zip (all_now c.args.names.now) (g.R.FieldParsers.documents v)))) c.args.parser.now c.parse_block.new.parser c.parse_block.result
    (struct_row g.R.FieldParsers.is_value g.R.FieldParsers.documents c.requires.some g.M.ParseMode.mode (open_blocks c.args.parser.now) c.args.name.now (all_now c.args.names.now) c.requires.named c.requires.counted c.parse_block.ensures.takes)

pub returns-clause-only : goal.returns-clause-only
returns-clause-only g c =
    only_clause g.M.ParseMode.mode g.R.FieldParsers.is_value (λ v. struct_of c.args.name.now (fields_of (zip (all_now c.args.names.now) (g.R.FieldParsers.documents v)))) c.args.parser.now c.parse_block.new.parser c.parse_block.result
    (struct_row g.R.FieldParsers.is_value g.R.FieldParsers.documents c.requires.some g.M.ParseMode.mode (open_blocks c.args.parser.now) c.args.name.now (all_now c.args.names.now) c.requires.named c.requires.counted c.parse_block.ensures.takes)

pub returns-clause-none : goal.returns-clause-none
returns-clause-none g c =
    none_clause g.M.ParseMode.mode g.R.FieldParsers.is_value (λ v. struct_of c.args.name.now (fields_of (zip (all_now c.args.names.now) (g.R.FieldParsers.documents v)))) c.args.parser.now c.parse_block.new.parser c.parse_block.result
    (struct_row g.R.FieldParsers.is_value g.R.FieldParsers.documents c.requires.some g.M.ParseMode.mode (open_blocks c.args.parser.now) c.args.name.now (all_now c.args.names.now) c.requires.named c.requires.counted c.parse_block.ensures.takes)
