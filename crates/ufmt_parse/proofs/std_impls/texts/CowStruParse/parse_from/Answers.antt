use Rattle.std.proofs.Common.{Ok, Err}
use Rattle.std.specs.Cow.{cow_str_bytes}
use Rattle.std.specs.Str.{IsUtf8}
use Rattle.std.specs.declared.borrow.CowStr.TheVariants.{Owned}
use Rattle.ufmt.specs.Document.{leaf}
use Rattle.ufmt_parser.proofs.Clauses.{none_clause, only_clause, taken_clause}
use Rattle.ufmt_parse_leaves.proofs.QuotedTaken.{quoted_bytes}
use Rattle.ufmt_parser.proofs.Views.{viewed}
use Rattle.ufmt_parse.proofs.std_impls.texts.CowStruParse.parse_from.Goals as goal

pub returns-clause-taken : goal.returns-clause-taken
returns-clause-taken g c =
    taken_clause g.M.ParseMode.mode (λ text. IsUtf8 (cow_str_bytes text)) (λ text. leaf (quoted_bytes (cow_str_bytes text)))
    c.args.parser.now c.parse_text.new.parser (Ok (Owned c.in-Ok.value)) (viewed cow_str_bytes c.in-Ok.ensures.takes)

pub returns-clause-only : goal.returns-clause-only
returns-clause-only g c =
    only_clause g.M.ParseMode.mode (λ text. IsUtf8 (cow_str_bytes text)) (λ text. leaf (quoted_bytes (cow_str_bytes text)))
    c.args.parser.now c.parse_text.new.parser (Ok (Owned c.in-Ok.value)) (viewed cow_str_bytes c.in-Ok.ensures.takes)

pub returns-in-Err-clause-none : goal.returns-in-Err-clause-none
returns-in-Err-clause-none g c =
    none_clause g.M.ParseMode.mode (λ text. IsUtf8 (cow_str_bytes text)) (λ text. leaf (quoted_bytes (cow_str_bytes text)))
    c.args.parser.now c.parse_text.new.parser (Err c.in-Err.fault) (viewed cow_str_bytes c.in-Err.ensures.takes)
