-- What holds of nodes, and their documents, by their fields.
use Rattle.std.specs.Global.{Box}
use Rattle.std.proofs.Common.{◌≡◌, ◌↔◌, refl, sym, ap, ◌∙◌, subst, Option, None, Some, [], ◌∷◌}
use Rattle.std.specs.Prelude.{IfSome}
use Rattle.ufmt.specs.Document.{Document}
use Rattle.ufmt.specs.ValueDocuments.{named_struct, number, option_document}
use Rattle.ufmt_parse.specs.Values.{is_u64}
use Rattle.ufmt_parse.proofs.Layers.{same_holds}
use Rattle.example_parse.specs.Nodes.{is_node, node_step}
use Rattle.example_parse.specs.declared.node.Node.{Node, out-Node}
use Rattle.example_parse.specs.declared.node.Node.TheViews.{roll-Node, roll-out-Node}
use Rattle.example_parse.specs.declared.node.Node.TheOpen.{Node-F}
use Rattle.example_parse.specs.declared.node.Node.TheFolds.{rec-roll-Node, map-Node, fold-Node, fold_out-Node, fold-roll-Node}

-- the next node, where a node is read as another
next_same : {X : Type 0} (P : Node → Type 0) (v : X → Node) (value : _) (next : Option (Box X)) → IfSome next (λ b. P (v b.value)) ≡ IfSome (map-Node X Node v (record { value = value; next = next })).next (λ b. P b.value)
next_same P v value None = refl
next_same P v value (Some b) = refl

-- what holds of a node with these fields
pub node_made : (n : Node-F Node) → is_node (roll-Node n) ↔ node_step Node (λ x. x) is_node n
node_made n = same_holds (rec-roll-Node (Type 0) node_step (λ X v P x. ap (λ C. is_u64 x.value × C) (next_same P v x.value x.next)) n)

pub node_is : (n : Node) → is_node n ↔ node_step Node (λ x. x) is_node (out-Node n)
node_is n = subst (λ m. is_node m ↔ node_step Node (λ x. x) is_node (out-Node n)) (roll-out-Node n) (node_made (out-Node n))

abbrev pub node_document : Node → Document
node_document = fold-Node Document (λ n. named_struct "Node" (("value", number n.value) ∷ ("next", option_document (λ b. b.value) n.next) ∷ []))

-- what a node's document is by the documents of its fields
abbrev pub fields_document : Node-F Node → Document
fields_document n = named_struct "Node" (("value", number n.value) ∷ ("next", option_document (λ b. node_document b.value) n.next) ∷ [])

-- the next node's document, of the node or of its document
next_document : (value : _) (next : Option (Box Node)) → option_document (λ b. node_document b.value) next ≡ option_document (λ b. b.value) (map-Node Node Document node_document (record { value = value; next = next })).next
next_document value None = refl
next_document value (Some b) = refl

-- of a node that is there
pub document_of : (n : Node) → fields_document (out-Node n) ≡ node_document n
document_of n = ap (λ d. named_struct "Node" (("value", number (out-Node n).value) ∷ ("next", d) ∷ [])) (next_document (out-Node n).value (out-Node n).next)
    ∙ sym (fold_out-Node _ _ n)

-- of one that is made
pub document_made : (n : Node-F Node) → fields_document n ≡ node_document (roll-Node n)
document_made n = ap (λ d. named_struct "Node" (("value", number n.value) ∷ ("next", d) ∷ [])) (next_document n.value n.next)
    ∙ sym (fold-roll-Node _ _ n)
