use Rattle.std.proofs.Common.{[]}
use Rattle.ufmt_core.specs.Layout.{Braces, Brackets, Struct, field_texts, inside, pair_texts, texts, tuple_kind}
use Rattle.ufmt_core.proofs.Blocks.{block_text-parts}
use Rattle.ufmt_core.proofs.laws.blocks_are_their_parts.Goals as goal

pub returns-clause-of_list : goal.returns-clause-of_list
returns-clause-of_list c s ds = block_text-parts Brackets [] s (texts (inside s) ds)

pub returns-clause-of_set : goal.returns-clause-of_set
returns-clause-of_set c s ds = block_text-parts Braces [] s (texts (inside s) ds)

pub returns-clause-of_map : goal.returns-clause-of_map
returns-clause-of_map c s ps = block_text-parts Braces [] s (pair_texts (inside s) ps)

pub returns-clause-of_struct : goal.returns-clause-of_struct
returns-clause-of_struct c s name fs = block_text-parts Struct name s (field_texts (inside s) fs)

pub returns-clause-of_tuple : goal.returns-clause-of_tuple
returns-clause-of_tuple c s name ds = block_text-parts (tuple_kind name) name s (texts (inside s) ds)
