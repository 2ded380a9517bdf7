use Rattle.std.proofs.Common.{◌++◌, ◌∙◌, ap, string_bytes}
use Rattle.ufmt_core.specs.Quoted.{escaped_bytes}
use Rattle.ufmt_parse_leaves.proofs.PlainFronts.{plain_itself}
use Rattle.ufmt_parse_leaves.proofs.SpelledTexts.{escape_pushed}
use Rattle.ufmt_parse_leaves.proofs.texts.read_escapes.Goals as goal

pub escapes-init : goal.escapes-init
escapes-init g c =
    ap (λ t. escaped_bytes 34 t ++ c.args.input.now) c.in_ok-text.ensures ∙ ap (λ t. t ++ c.args.input.now) (plain_itself c.args.plain.now c.requires)

pub escapes-preserved : goal.escapes-preserved
escapes-preserved g c =
    escape_pushed c.in-Some.character (string_bytes c.escapes.text) (string_bytes c.push.new.self) (string_bytes c.push_str.new.self) c.escapes.rest.now c.in-Some.after.now
    c.split_plain.result.0.now c.split_plain.result.1.now _ (c.in_ok-push.ensures.bytes ∙ ap (λ t. string_bytes c.escapes.text ++ t) (c.in_ok-push.ensures.ascii c.in-Some.ensures.0))
    c.in_ok-push_str.ensures.bytes c.split_plain.ensures.plain c.in-Some.ensures.1 c.split_plain.ensures.whole c.escapes.invariant
