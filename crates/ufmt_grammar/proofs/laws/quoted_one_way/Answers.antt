use Rattle.ufmt_grammar.proofs.QuotedLines.{quoted_is_one_line}
use Rattle.ufmt_grammar.proofs.QuotedOneWay.{quoted_text_determines, quoted_char_determines, quoted_text_is_no_char, quoted_ends_itself, quoted_is_no_other_leaf}
use Rattle.ufmt_grammar.proofs.laws.quoted_one_way.Goals as goal

pub returns : goal.returns
returns c = record {
  text = quoted_text_determines;
  character = quoted_char_determines;
  apart = quoted_text_is_no_char;
  ends = quoted_ends_itself;
  no_other_leaf = quoted_is_no_other_leaf;
  one_line = quoted_is_one_line;
}
