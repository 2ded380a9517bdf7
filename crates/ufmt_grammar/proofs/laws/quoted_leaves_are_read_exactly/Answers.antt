use Rattle.ufmt_grammar.proofs.QuotedComplete.{read_quoted-complete}
use Rattle.ufmt_grammar.proofs.QuotedSound.{read_quoted-sound}
use Rattle.ufmt_grammar.proofs.laws.quoted_leaves_are_read_exactly.Goals as goal

pub returns : goal.returns
returns c = record {
  only = read_quoted-sound;
  each = read_quoted-complete;
}
