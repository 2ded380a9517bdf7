use Rattle.std.proofs.Common.{◌≡◌, ◌<◌, length, get_or, false, is_none, ap, sym, arith}
use Rattle.std.proofs.lemmas.Grind.{common_steps}
use Rattle.std.proofs.lemmas.Str.{IsCharBoundary-after_ascii}
use Rattle.ufmt_core.specs.Quoted.{escape}
use Rattle.ufmt_core.proofs.QuotedBytes.{escape-ascii}
use Rattle.ufmt_core.proofs.quoted.split_escape.Goals as goal

pub range_from-requires : goal.range_from-requires
range_from-requires c =
    let text = c.args.text.now in
    let some : 0 < length text = omega (arith, c.in_ok-byte.ensures.item, ap length c.as_bytes.ensures.value) in
    let byte : get_or text 0 0 ≡ c.in_ok-byte.field-0.now = grind (arith, common_steps, c.in_ok-byte.ensures.value, c.as_bytes.ensures.value) in
    let escaped : is_none (escape 34 c.in_ok-byte.field-0.now) ≡ false = sym (ap is_none c.in_ok-escape.ensures) in
    λ _. IsCharBoundary-after_ascii text 0 c.utf8.text some (omega (arith, byte, escape-ascii c.in_ok-byte.field-0.now escaped))
