-- What holds of each node that a program has.
use Rattle.std.specs.Prelude.{IfSome}
use Rattle.ufmt_parse.specs.Values.{is_u64}
use Rattle.example_parse.specs.declared.node.Node.{Node}
use Rattle.example_parse.specs.declared.node.Node.TheOpen.{Node-F}
use Rattle.example_parse.specs.declared.node.Node.TheFolds.{rec-Node}

abbrev pub node_step : (X : Type 0) → (X → Node) → (X → Type 0) → Node-F X → Type 0
node_step X v P n = is_u64 n.value × IfSome n.next (λ b. P b.value)

abbrev pub is_node : Node → Type 0
is_node = rec-Node (Type 0) node_step
