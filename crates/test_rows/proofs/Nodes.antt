-- A node's document, from the documents of its fields.
use Rattle.std.specs.Global.{Box}
use Rattle.std.proofs.Common.{◌≡◌, ◌∙◌, refl, sym, ap, Option, None, Some, [], ◌∷◌}
use Rattle.ufmt.specs.Document.{Document}
use Rattle.ufmt.specs.ValueDocuments.{named_struct, number, option_document}
use Rattle.test_rows.specs.declared.by_builders.Node.{Node, out-Node}
use Rattle.test_rows.specs.declared.by_builders.Node.TheOpen.{Node-F}
use Rattle.test_rows.specs.declared.by_builders.Node.TheFolds.{map-Node, fold-Node, fold_out-Node}

abbrev pub node_document : Node → Document
node_document = fold-Node Document (λ n. named_struct "Node" (("value", number n.value) ∷ ("next", option_document (λ b. b.value) n.next) ∷ []))

abbrev pub fields_document : Node-F Node → Document
fields_document n = named_struct "Node" (("value", number n.value) ∷ ("next", option_document (λ b. node_document b.value) n.next) ∷ [])

-- the next node's document, of the node or of its document
next_document : (value : _) (next : Option (Box Node)) → option_document (λ b. node_document b.value) next ≡ option_document (λ b. b.value) (map-Node Node Document node_document (record { value = value; next = next })).next
next_document value None = refl
next_document value (Some b) = refl

pub document_of : (n : Node) → node_document n ≡ fields_document (out-Node n)
document_of n = fold_out-Node _ _ n ∙ sym (ap (λ d. named_struct "Node" (("value", number (out-Node n).value) ∷ ("next", d) ∷ [])) (next_document (out-Node n).value (out-Node n).next))
