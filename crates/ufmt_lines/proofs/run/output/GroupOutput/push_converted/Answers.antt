use Rattle.ufmt_lines.proofs.FoundValues.{output_grows, always_text}
use Rattle.ufmt_lines.proofs.run.output.GroupOutput.push_converted.Goals as goal

pub unreachable-requires : goal.unreachable-requires
unreachable-requires c = always_text c.args.mode c.args.text.now c.requires _ _ (rw c.in-Err-NotText.field-0-is at c.in-Err-NotText.ensures)

pub returns-in-Ok : goal.returns-in-Ok
returns-in-Ok c = output_grows c.args.mode c.args.text.now c.requires _ _ c.in-Ok.ensures
