use Rattle.ufmt_scan.proofs.PassedBytes.{run_stops}
use Rattle.ufmt_scan.proofs.debug_leaf.after_word.Goals as goal

pub returns-else-ends_in_colon-clause-stops : goal.returns-else-ends_in_colon-clause-stops
returns-else-ends_in_colon-clause-stops c = run_stops c.args.input.now c.split_at.result.0.now c.split_at.result.1.now c.marked_len-len.result
    c.marked_len-len.ensures.len c.split_at.ensures.front c.split_at.ensures.back
