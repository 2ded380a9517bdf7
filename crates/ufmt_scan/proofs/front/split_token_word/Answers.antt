use Rattle.ufmt_scan.proofs.DocumentParts.{front_is_bytes}
use Rattle.ufmt_scan.proofs.WordBytes.{word_bytes_are_ascii}
use Rattle.ufmt_scan.proofs.front.split_token_word.Goals as goal

pub text_from-requires-clause-ascii : goal.text_from-requires-clause-ascii
text_from-requires-clause-ascii c = word_bytes_are_ascii c.split_word.result.0.now (front_is_bytes c.args.input.now c.split_word.result.0.now c.split_word.ensures.word)
