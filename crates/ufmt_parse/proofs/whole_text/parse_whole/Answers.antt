use Rattle.std.proofs.Common.{◌≡◌, sym, ap, [], ◌++◌, length, arith}
use Rattle.std.proofs.lemmas.List.{append-nil}
use Rattle.ufmt.specs.Layout.{layout}
use Rattle.ufmt_parser.specs.Taking.{open_blocks, rest, setting_in}
use Rattle.ufmt_parse.proofs.Forms.{setting_in-none}
use Rattle.ufmt_parser.proofs.Next.{never_next, what_is_left}
use Rattle.ufmt_parse.proofs.whole_text.parse_whole.Goals as goal

pub returns-else-len-eq0-clause-not_text : goal.returns-else-len-eq0-clause-not_text
returns-else-len-eq0-clause-not_text g c = λ at expected is v holds document same.
    let whole = c.new-parser.result in
    let is_text : rest whole ≡ layout (setting_in g.M.ParseMode.mode (open_blocks whole)) (g.T.uDebug.document v) ++ [] =
    rw (c.new-parser.ensures.rest, c.new-parser.ensures.outermost, setting_in-none g.M.ParseMode.mode, append-nil) (sym same) in
    let none_left = what_is_left _ _ _ _ (c.in-Ok.ensures.only v holds) [] ((document.0, omega (arith, document.1, c.new-parser.ensures.outermost)), tt, is_text) in
    absurd (omega (arith, ap length none_left, c.len.ensures, c.if-len-eq0.false))

-- the value's text comes next, and `none` says that it doesn't
pub returns-in-Err-NotText-clause-after_value : goal.returns-in-Err-NotText-clause-after_value
returns-in-Err-NotText-clause-after_value g c = λ at expected is v u holds document may same.
    let whole = c.new-parser.result in
    let is_text : rest whole ≡ layout (setting_in g.M.ParseMode.mode (open_blocks whole)) (g.T.uDebug.document v) ++ u =
    rw (c.new-parser.ensures.rest, c.new-parser.ensures.outermost, setting_in-none g.M.ParseMode.mode) same in
    absurd (never_next _ _ _ (c.in-Err-NotText.ensures.none c.in-Err-NotText.field-0-is v holds) u ((document.0, omega (arith, document.1, c.new-parser.ensures.outermost)), may, is_text))
