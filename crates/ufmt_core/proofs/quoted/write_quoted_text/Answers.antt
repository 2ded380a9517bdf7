use Rattle.std.proofs.Common.{codes, sym}
use Rattle.ufmt_core.specs.Quoted.{escaped_bytes}
use Rattle.ufmt_core.proofs.Writing.{Prints-then, Prints-fails, Prints-err, Prints-same}
use Rattle.ufmt_core.proofs.QuotedCharacters.{quoted_text-parts}
use Rattle.ufmt_core.proofs.quoted.write_quoted_text.Goals as goal

pub returns-in_err-write_str : goal.returns-in_err-write_str
returns-in_err-write_str g c = Prints-same (sym (quoted_text-parts c.args.text.now c.utf8.text))
    (Prints-err _ c.from_residual.ensures.0 (Prints-fails _ c.in_err-write_str.ensures.prints))

pub returns-in_err-write_escaped : goal.returns-in_err-write_escaped
returns-in_err-write_escaped g c =
    Prints-same (sym (quoted_text-parts c.args.text.now c.utf8.text))
    (Prints-err _ c.from_residual-in_err-write_escaped.ensures.0
    (Prints-then {p = codes "\""} c.in_ok-write_str.ensures.prints (Prints-fails _ c.in_err-write_escaped.ensures)))

pub returns : goal.returns
returns g c =
    Prints-same (sym (quoted_text-parts c.args.text.now c.utf8.text))
    (Prints-then {p = codes "\""} c.in_ok-write_str.ensures.prints
    (Prints-then {p = escaped_bytes 34 c.args.text.now} c.in_ok-write_escaped.ensures c.write_str-2.ensures.prints))
