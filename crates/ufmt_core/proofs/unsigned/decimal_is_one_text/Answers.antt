use Rattle.ufmt_core.specs.Decimal.{decimal}
use Rattle.ufmt_core.proofs.DecimalTexts.{decimal-denotes, DenotesDecimal-one, DenotesDecimal-number}
use Rattle.ufmt_core.proofs.unsigned.decimal_is_one_text.Goals as goal

pub returns : goal.returns
returns c = record {
  denoted = decimal-denotes;
  one_text = λ z text denotes. DenotesDecimal-one z text (decimal z) denotes (decimal-denotes z);
  one_number = DenotesDecimal-number;
}
