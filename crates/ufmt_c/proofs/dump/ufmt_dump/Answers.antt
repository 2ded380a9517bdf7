use Rattle.std.proofs.Common.{rules}
use Rattle.ufmt.specs.Dump.{dump_text}
use Rattle.ufmt_c.specs.Options.{dump_of}
use Rattle.ufmt_c.proofs.NarrowDumps.{stands_narrow}
use Rattle.ufmt_c.proofs.dump.ufmt_dump.Goals as goal

pub returns-clause-text : goal.returns-clause-text
returns-clause-text c is_style =
    let whole = dump_of c.args.style.now in
    let puts = c.print_dump-2.ensures (dump_text whole c.args.bytes.now)
    (stands_narrow _ _ _ whole c.in-Some.dump c.narrowed-narrow.result (search rules) c.in-Some.ensures.1 c.narrowed-narrow.ensures c.left_out-rest.ensures) in
    search (rules, puts)
