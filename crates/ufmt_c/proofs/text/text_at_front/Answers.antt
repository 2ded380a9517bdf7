use Rattle.std.proofs.Common.{rules}
use Rattle.ufmt_c.proofs.text.text_at_front.Goals as goal

pub returns-in-Err : goal.returns-in-Err
returns-in-Err c =
    let bytes = c.args.bytes.now in
    let valid = c.in-Err.ensures.cases.1 in
    let place = c.valid_up_to.result in
    let at = c.valid_up_to.ensures in
    record {
      after = c.split_at.result.1.now;
      is = search rules;
      utf8 = search (rules, valid.front);
      longest = λ n more within. valid.longest n (search (rules, more, valid.short));
    }
