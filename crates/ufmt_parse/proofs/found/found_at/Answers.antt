use Rattle.std.proofs.Common.{◌≢◌, [], codes, drop, sym, subst, ◌∙◌}
use Rattle.ufmt_parse.specs.Finding.{IsWordOrOther}
use Rattle.ufmt_parse.proofs.Finding.{found_there, left_at}
use Rattle.ufmt_parse.proofs.NamesBefore.{is_nil, is_some_text}
use Rattle.ufmt_parse.proofs.found.found_at.Goals as goal

pub returns-then-is_empty : goal.returns-then-is_empty
returns-then-is_empty c =
    let same = left_at c.args.text.now c.args.at c.min.result c.min.ensures in
    sym same ∙ is_nil _ (sym c.is_empty.ensures ∙ c.if-is_empty.true)

pub returns-then-is_line_feed : goal.returns-then-is_line_feed
returns-then-is_line_feed c =
    let same = left_at c.args.text.now c.args.at c.min.result c.min.ensures in
    sym same ∙ c.if-is_line_feed.ensures

pub returns : goal.returns
returns c =
    let same = left_at c.args.text.now c.args.at c.min.result c.min.ensures in
    let some = is_some_text _ (sym c.is_empty.ensures ∙ c.if-is_empty.false) in
    found_there (drop c.args.at c.args.text.now) c.word_or_other.result (subst (λ t. t ≢ []) same some)
    (subst (λ t. t ≢ codes "\n") same c.if-is_line_feed.ensures) (subst (λ t. IsWordOrOther t c.word_or_other.result) same c.word_or_other.ensures)
