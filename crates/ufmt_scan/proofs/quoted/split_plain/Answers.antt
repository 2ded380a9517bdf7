use Rattle.std.proofs.Common.{sym}
use Rattle.ufmt_scan.proofs.QuotedLeaves.{plain_read}
use Rattle.ufmt_scan.proofs.quoted.split_plain.Goals as goal

pub returns : goal.returns
returns c = plain_read c.args.input.now c.in_ok-inside.inside.now c.split_at.result.1.now c.in_ok-rest.rest.now c.split_at-2.result.0.now
    c.in_ok-inside.ensures (rw (sym c.marked_len.ensures.len) c.split_at.ensures.back) c.in_ok-rest.ensures c.split_at-2.ensures.front c.text_from.result.now c.text_from.ensures
