use Rattle.ufmt_scan.proofs.Shapes.{saw_event}
use Rattle.ufmt_scan.specs.Scan.{event_now}
use Rattle.ufmt_scan.proofs.text.ShapeSink.event.Goals as goal

pub returns : goal.returns
returns c = λ start es before. saw_event start c.args.self.now c.see.new.self es (event_now c.args.event) before c.see.ensures.entries c.see.ensures.blocks c.see.ensures.leaves
