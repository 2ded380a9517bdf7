use Rattle.std.proofs.Common.{◌∙◌, sym, arith}
use Rattle.ufmt_scan.proofs.PassedBytes.{apostrophe_passes}
use Rattle.ufmt_scan.proofs.debug_leaf.after_apostrophe.Goals as goal

pub returns-then-begins_plain : goal.returns-then-begins_plain
returns-then-begins_plain c = (apostrophe_passes c.args.after.now c.requires (sym c.begins_plain.ensures ∙ c.if-begins_plain.true), omega arith)
