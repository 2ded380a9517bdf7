-- The events so far, and what is left, before each document.
use Rattle.std.proofs.Common.{◌≡◌, ◌<◌, length}
use Rattle.ufmt_core.specs.declared.layout.Kind.TheVariants.{Struct}
use Rattle.ufmt_scan.specs.Private.Scanning.{Emits, scan_next, document_at, kind_of, open_stages}
use Rattle.ufmt_scan.proofs.scan.scan_document.Given as goal

abbrev pub invariant-documents : goal.invariant-documents
invariant-documents g l = record {
  emitted : Emits g.S.Sink.took g.S.Sink.took l.fn.sink l.sink (document_at l.class l.mode 0 l.input) (scan_next l.class l.mode (open_stages l.blocks l.outer) l.rest);
  few : l.blocks.count < 256;
  in_block : kind_of l.blocks.innermost ≡ Struct → 0 < l.blocks.count;
  whole : length l.outer ≡ 256;
}

abbrev pub decreases-documents : goal.decreases-documents
decreases-documents g l = length l.rest
