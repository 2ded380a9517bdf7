use Rattle.std.proofs.Common.{codes, sym}
use Rattle.ufmt_core.specs.Quoted.{escaped}
use Rattle.ufmt_core.proofs.Writing.{Prints-then, Prints-fails, Prints-err, Prints-same}
use Rattle.ufmt_core.proofs.QuotedBytes.{quoted_char-parts}
use Rattle.ufmt_core.proofs.quoted.write_quoted_char.Goals as goal

pub returns-in_err-write_str : goal.returns-in_err-write_str
returns-in_err-write_str g c = Prints-same (sym (quoted_char-parts c.args.character))
    (Prints-err _ c.from_residual.ensures.0 (Prints-fails _ c.in_err-write_str.ensures.prints))

pub returns-in_err-write_escaped_char : goal.returns-in_err-write_escaped_char
returns-in_err-write_escaped_char g c =
    Prints-same (sym (quoted_char-parts c.args.character))
    (Prints-err _ c.from_residual-in_err-write_escaped_char.ensures.0
    (Prints-then {p = codes "'"} c.in_ok-write_str.ensures.prints (Prints-fails _ c.in_err-write_escaped_char.ensures)))

pub returns : goal.returns
returns g c =
    Prints-same (sym (quoted_char-parts c.args.character))
    (Prints-then {p = codes "'"} c.in_ok-write_str.ensures.prints
    (Prints-then {p = escaped 39 c.args.character} c.in_ok-write_escaped_char.ensures c.write_str-2.ensures.prints))
