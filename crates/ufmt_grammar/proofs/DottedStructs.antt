-- Structs that end in dots: what is left of such a block, and its layout.
use Rattle.std.proofs.Common.{◌≡◌, refl, ap, ◌∙◌, ℕ, Bool, true, false, List, [], ◌∷◌, ◌++◌, append_assoc, codes}
use Rattle.ufmt_core.specs.Document.{Document, non_exhaustive_of, Fields, first_field}
use Rattle.ufmt_core.specs.Layout.{Frame, frame, inside, lead, ending, trail, next, block_tail, framed, framed_all, count_after, dots_line, dots_ending, later_lead, layout, field_texts}
use Rattle.ufmt_core.specs.declared.layout.Mode.{Mode}
use Rattle.ufmt_core.specs.declared.layout.Mode.TheVariants.{Plain, Pretty}
use Rattle.ufmt_core.specs.declared.layout.Setting.{Setting}
use Rattle.ufmt_core.specs.declared.layout.Kind.TheVariants.{Struct}
use Rattle.ufmt_core.specs.declared.layout.Count.{Count}
use Rattle.ufmt_core.specs.declared.layout.Count.TheVariants.{Zero, One, Several}
use Rattle.ufmt_grammar.specs.Reading.{dots_text, last_dots}

-- the rest of a block after this count of entries: entries with these texts, and its ending, or the lead of an entry and `close`
abbrev pub rest_text : Frame → Setting → List ℕ → Count → List (List ℕ) → Bool → List ℕ
rest_text f s close count [] false = ending f s count
rest_text f s close count [] true = lead f (inside s) count ++ close
rest_text f s close count (text ∷ texts) b = lead f (inside s) count ++ (text ++ (trail s.mode ++ rest_text f s close (next count) texts b))

-- without dots, it is the rest of a block
pub rest_text-false : (f : Frame) (s : Setting) (close : List ℕ) (count : Count) (texts : List (List ℕ)) → rest_text f s close count texts false ≡ block_tail f s count texts
rest_text-false f s close count [] = refl
rest_text-false f s close count (text ∷ texts) = ap (λ t. lead f (inside s) count ++ (text ++ (trail s.mode ++ t))) (rest_text-false f s close (next count) texts)

-- the dots come after the lead of a field
dots_led : (mode : Mode) (k : ℕ) (end : List ℕ) → dots_line mode k ++ end ≡ later_lead mode k ++ (dots_text mode ++ end)
dots_led Plain k end = refl
dots_led Pretty k end = append_assoc (later_lead Pretty k) (dots_text Pretty) end

-- after a field, the ending in dots is the lead of a field, the dots and the struct's end
pub dots_ending-next : (s : Setting) (count : Count) → dots_ending s (next count) ≡ lead (frame s.mode Struct) (inside s) (next count) ++ last_dots s
dots_ending-next s Zero = dots_led s.mode (inside s).depth (ending (frame s.mode Struct) s One)
dots_ending-next s One = dots_led s.mode (inside s).depth (ending (frame s.mode Struct) s Several)
dots_ending-next s Several = dots_led s.mode (inside s).depth (ending (frame s.mode Struct) s Several)

-- after a field, fields with these texts and the ending in dots are what is left of the struct
fields_left : (s : Setting) (count : Count) (texts : List (List ℕ))
    → framed_all (frame s.mode Struct) (inside s) (next count) texts ++ dots_ending s (count_after (next count) texts)
    ≡ rest_text (frame s.mode Struct) s (last_dots s) (next count) texts true
fields_left s count [] = dots_ending-next s count
fields_left s count (text ∷ texts) =
    let f = frame s.mode Struct in
    append_assoc (framed f (inside s) (next count) text) (framed_all f (inside s) (next (next count)) texts) (dots_ending s (count_after (next (next count)) texts))
    ∙ ap (λ t. framed f (inside s) (next count) text ++ t) (fields_left s (next count) texts)
    ∙ append_assoc (lead f (inside s) (next count)) (text ++ trail s.mode) (rest_text f s (last_dots s) (next (next count)) texts true)
    ∙ ap (λ t. lead f (inside s) (next count) ++ t) (append_assoc text (trail s.mode) (rest_text f s (last_dots s) (next (next count)) texts true))

-- the layout of a struct with fields that ends in dots
pub dotted_layout : (s : Setting) (name field_name : List ℕ) (value : Document) (fs : Fields)
    → layout s (non_exhaustive_of name (first_field field_name value fs))
    ≡ name ++ rest_text (frame s.mode Struct) s (last_dots s) Zero (field_texts (inside s) (first_field field_name value fs)) true
dotted_layout s name field_name value fs =
    let f = frame s.mode Struct in
    let text = field_name ++ (codes ": " ++ layout (inside s) value) in
    let texts = field_texts (inside s) fs in
    ap (λ t. name ++ t)
    (append_assoc (framed f (inside s) Zero text) (framed_all f (inside s) One texts) (dots_ending s (count_after One texts))
    ∙ ap (λ t. framed f (inside s) Zero text ++ t) (fields_left s Zero texts)
    ∙ append_assoc (lead f (inside s) Zero) (text ++ trail s.mode) (rest_text f s (last_dots s) One texts true)
    ∙ ap (λ t. lead f (inside s) Zero ++ t) (append_assoc text (trail s.mode) (rest_text f s (last_dots s) One texts true)))
