-- What holds of each tree that a program has, and its document, by its fields.
use Rattle.std.proofs.Common.{◌≡◌, ◌↔◌, ap, [], ◌∷◌, map}
use Rattle.std.specs.List.{AllByRecursion}
use Rattle.ufmt.specs.Document.{Document, documents, list_of}
use Rattle.ufmt.specs.ValueDocuments.{named_struct, number}
use Rattle.ufmt_parse.proofs.Unrolling.{all_map, unrolled}
use Rattle.ufmt_parse.specs.Values.{is_u64}
use Rattle.example_parse.specs.declared.tree.Tree.{Tree, out-Tree, roll-Tree, roll-out-Tree}
use Rattle.example_parse.specs.declared.tree.Tree.TheOpen.{Tree-F}
use Rattle.example_parse.specs.declared.tree.Tree.TheFolds.{fold-Tree, fold_out-Tree, rec-Tree, rec-roll-Tree}

-- a tree whose children are of the type X, where `is` holds of each
abbrev pub tree_step : (X : Type 0) → (X → Tree) → (X → Type 0) → Tree-F X → Type 0
tree_step X v is t = is_u64 t.size × AllByRecursion is t.children.items

abbrev pub is_tree : Tree → Type 0
is_tree = rec-Tree (Type 0) tree_step

pub tree_is : (t : Tree) → is_tree t ↔ tree_step Tree (λ x. x) is_tree (out-Tree t)
tree_is = unrolled out-Tree roll-Tree roll-out-Tree is_tree (tree_step Tree (λ x. x) is_tree)
    (rec-roll-Tree (Type 0) tree_step (λ X v is t. ap (λ C. is_u64 t.size × C) (all_map is v t.children.items)))

abbrev pub tree_document : Tree → Document
tree_document = fold-Tree Document (λ t. named_struct "Tree" (("size", number t.size) ∷ ("children", list_of (documents t.children.items)) ∷ []))

pub document_is : (t : Tree) → tree_document t ≡ named_struct "Tree" (("size", number (out-Tree t).size) ∷ ("children", list_of (documents (map tree_document (out-Tree t).children.items))) ∷ [])
document_is t = fold_out-Tree _ _ t
