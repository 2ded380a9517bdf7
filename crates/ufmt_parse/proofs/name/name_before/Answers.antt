use Rattle.std.proofs.Common.{◌-◌, None, drop, length, option_map, take, sym, subst, ◌∙◌}
use Rattle.std.specs.Result.{result_ok}
use Rattle.ufmt_parse.specs.NamesBefore.{IsNameBefore}
use Rattle.ufmt_parse.proofs.NamesBefore.{IsNameStart, after_suffix, is_nil, is_some_text, no_name, no_suffix, text_name, until_end, up_to}
use Rattle.ufmt_parse.proofs.name.name_before.Goals as goal

pub returns-in_err-front : goal.returns-in_err-front
returns-in_err-front c =
    let same = up_to c.args.text.now c.args.at c.min.result c.min.ensures in
    rw c.from_residual.ensures
    (subst (λ before. IsNameBefore before None) same (no_suffix (take c.min.result c.args.text.now) c.in_err-front.ensures.cases))

pub returns-then-is_empty : goal.returns-then-is_empty
returns-then-is_empty c =
    let front = c.in_ok-front.front.now in
    let start = c.name_start.result in
    let begins : IsNameStart front start = record {
      within = c.name_start.ensures.within;
      run = c.name_start.ensures.run;
      longest = c.name_start.ensures.longest;
    } in
    let same = up_to c.args.text.now c.args.at c.min.result c.min.ensures in
    let cases = c.in_ok-front.ensures.cases in
    let parts = sym (after_suffix (take c.min.result c.args.text.now) front cases.0 cases.1) ∙ same in
    let empty = sym (until_end front start) ∙ is_nil _ (sym c.is_empty.ensures ∙ c.if-is_empty.true) in
    subst (λ before. IsNameBefore before None) parts (no_name front start begins empty)

pub returns : goal.returns
returns c =
    let front = c.in_ok-front.front.now in
    let start = c.name_start.result in
    let begins : IsNameStart front start = record {
      within = c.name_start.ensures.within;
      run = c.name_start.ensures.run;
      longest = c.name_start.ensures.longest;
    } in
    let same = up_to c.args.text.now c.args.at c.min.result c.min.ensures in
    let cases = c.in_ok-front.ensures.cases in
    let parts = sym (after_suffix (take c.min.result c.args.text.now) front cases.0 cases.1) ∙ same in
    let whole = until_end front start in
    let some = is_some_text (take (length front - start) (drop start front)) (sym c.is_empty.ensures ∙ c.if-is_empty.false) in
    let named = text_name front start begins _ c.from_utf8.result (rw whole at some) (rw whole at c.from_utf8.ensures.cases) in
    rw c.ok.ensures.value (subst (λ before. IsNameBefore before (option_map (λ name. name.now) (result_ok c.from_utf8.result))) parts named)
