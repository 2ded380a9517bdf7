use Rattle.std.proofs.Common.{codes, refl, subst}
use Rattle.ufmt_parse.specs.Next.{IsNotNext, NextLeaves}
use Rattle.ufmt_parse.specs.Taking.{IsTaken}
use Rattle.example_parse.specs.declared.node.Node.{out-Node}
use Rattle.example_parse.proofs.Nodes.{document_made, document_of, node_is, node_made}
use Rattle.example_parse.proofs.node.+parse_node.Goals as goal

pub returns-in-Err : goal.returns-in-Err
returns-in-Err g t c = record {
  values = tt;
  taken = tt;
  only = tt;
  none = λ is_not n is.
      let parts = (node_is n).0 is in
      subst (λ d. IsNotNext g.M.ParseMode.mode c.args.parser.now d) (document_of n)
      (c.in-Err.ensures.none is_not (codes "Node") (codes "value") (codes "next") (out-Node n).value (out-Node n).next refl parts.0 parts.1);
  blocks = tt;
  shrinks = c.in-Err.ensures.shrinks;
}

pub returns-in-Ok : goal.returns-in-Ok
returns-in-Ok g t c = record {
  values = (node_made (record { value = c.in-Ok.value; next = c.in-Ok.next })).1 c.in-Ok.ensures.values;
  taken = subst (λ d. IsTaken g.M.ParseMode.mode c.args.parser.now d c.parse_struct_2.new.parser)
      (document_made (record { value = c.in-Ok.value; next = c.in-Ok.next })) c.in-Ok.ensures.taken;
  only = λ n is.
      let parts = (node_is n).0 is in
      subst (λ d. NextLeaves g.M.ParseMode.mode c.args.parser.now d c.parse_struct_2.new.parser) (document_of n)
      (c.in-Ok.ensures.only (codes "Node") (codes "value") (codes "next") (out-Node n).value (out-Node n).next refl parts.0 parts.1);
  none = tt;
  blocks = c.in-Ok.ensures.blocks;
  shrinks = c.in-Ok.ensures.shrinks;
}
