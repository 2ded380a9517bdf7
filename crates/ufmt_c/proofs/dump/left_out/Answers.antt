use Rattle.std.proofs.Common.{rules}
use Rattle.ufmt_c.proofs.NarrowDumps.{left_out_of_rows}
use Rattle.ufmt_c.proofs.dump.left_out.Goals as goal

pub returns-then-dump-eq0 : goal.returns-then-dump-eq0
returns-then-dump-eq0 c =
    left_out_of_rows c.args.dump.now c.args.per_row _ (search rules) (search rules) (search rules) c.requires.within c.saturating_mul-of_digits.ensures
