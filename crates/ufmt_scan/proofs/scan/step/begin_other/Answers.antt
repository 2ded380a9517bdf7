use Rattle.std.proofs.Common.{ap}
use Rattle.ufmt_grammar.specs.Reading.{parse_map}
use Rattle.ufmt_scan.specs.Scan.{events_of}
use Rattle.ufmt_scan.proofs.DocumentParts.{no_front}
use Rattle.ufmt_scan.proofs.Scans.{nothing_there}
use Rattle.ufmt_scan.proofs.scan.step.begin_other.Goals as goal

pub returns-in-None : goal.returns-in-None
returns-in-None g c = (nothing_there c.args.sink.now (ap (parse_map events_of) (no_front c.args.level c.args.input.now c.in-None.ensures)), tt)
