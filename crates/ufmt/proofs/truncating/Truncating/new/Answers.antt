use Rattle.std.proofs.Common.{arith, ◌∙◌, [], ap, sym, true≢false, length}
use Rattle.std.proofs.lemmas.Str.{IsUtf8-nil, is_utf8-from_IsUtf8}
use Rattle.std.specs.Str.{is_utf8}
use Rattle.ufmt.proofs.FittingParts.{fitting_whole}
use Rattle.ufmt.specs.Cut.{fitting_part}
use Rattle.ufmt.proofs.truncating.Truncating.new.Goals as goal

pub invariant_of-result : goal.invariant_of-result
invariant_of-result c =
    let room = length c.args.buffer.now in record {
      within = omega arith;
      front = sym (ap (fitting_part room) c.new.ensures ∙ fitting_whole room [] (omega arith) IsUtf8-nil);
      after = sym c.of-before.ensures;
      cut = λ no. absurd (true≢false (sym no));
      filled = λ no. absurd (true≢false (sym no));
      whole = λ _. c.new.ensures;
      utf8 = λ _. ap is_utf8 c.new.ensures ∙ is_utf8-from_IsUtf8 [] IsUtf8-nil;
    }
