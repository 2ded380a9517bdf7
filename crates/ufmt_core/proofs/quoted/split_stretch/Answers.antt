use Rattle.ufmt_core.proofs.QuotedBytes.{IsCharBoundary-stretch, stretch}
use Rattle.ufmt_core.proofs.quoted.split_stretch.Goals as goal

pub split_at-requires : goal.split_at-requires
split_at-requires c = rw (c.unescaped_len.ensures, c.as_bytes.ensures.value) (IsCharBoundary-stretch c.args.text.now)

pub returns-clause-stretch : goal.returns-clause-stretch
returns-clause-stretch c = rw (c.split_at.ensures.front, c.split_at.ensures.back, c.unescaped_len.ensures, c.as_bytes.ensures.value)
    (stretch c.args.text.now).escaped

pub returns-clause-at_escape : goal.returns-clause-at_escape
returns-clause-at_escape c = rw (c.split_at.ensures.back, c.unescaped_len.ensures, c.as_bytes.ensures.value) (stretch c.args.text.now).after
