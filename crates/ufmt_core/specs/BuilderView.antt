-- A builder as contracts see it, and what its calls do.
use Rattle.std.specs.Prelude.{◌≡◌, ℕ, List, ◌++◌, map, codes, Bool, true, false, Option, Result, Err, IfErr, OnOk}
use Rattle.std.specs.Iterator.{DrainsIf}
pub use Rattle.ufmt_core.specs.declared.formatter.builder.Status.{Status}
pub use Rattle.ufmt_core.specs.declared.formatter.builder.Status.TheVariants.{Open, Lent, LentValue, Closed}
use Rattle.ufmt_core.specs.Document.{Document, Documents, Fields, Pairs}
use Rattle.ufmt_core.specs.Layout.{Setting, Kind, Struct, Count, Zero, Frame, frame, inside, layout, lead, trail, ending, dots_ending, next, framed, framed_all, count_after, block_tail, texts, pair_texts, field_texts}
use Rattle.ufmt_core.specs.Writes.{Seen, Writes}
use Rattle.ufmt_core.specs.Formatter.{Formatter, at_setting, writer_of, setting_of}

-- a builder as contracts see it
pub record BuilderView (W : Type 0) : Type 0 where
  -- the formatter that it writes to, as it is now
  pub formatter : Formatter W
  -- the ghost name of its reference to that
  pub reference : ℕ
  -- which brackets are around the entries
  pub kind : Kind
  -- the mode and depth from before the builder
  pub outer : Setting
  -- how many entries it has
  pub count : Count
  -- which calls may follow
  pub status : Status

-- the text of an entry of a list, a set or a tuple, of a map, and of a struct, at the entries' mode and depth
abbrev pub entry_text : Document → Setting → List ℕ
entry_text d i = layout i d

abbrev pub pair_text : Document → Document → Setting → List ℕ
pair_text key value i = layout i key ++ (codes ": " ++ layout i value)

abbrev pub field_text : List ℕ → Document → Setting → List ℕ
field_text name value i = name ++ (codes ": " ++ layout i value)

-- the texts of the entries that are left of a list, a set or a tuple, of a map, and of a struct
abbrev pub remaining_entries : Documents → Setting → List (List ℕ)
remaining_entries ds i = texts i ds

abbrev pub remaining_pairs : Pairs → Setting → List (List ℕ)
remaining_pairs ps i = pair_texts i ps

abbrev pub remaining_fields : Fields → Setting → List (List ℕ)
remaining_fields fs i = field_texts i fs

-- a block with this name and entries with these texts: its name and opening, its entries in a row, and its ending
abbrev pub block_in_parts : Kind → List ℕ → Setting → List (List ℕ) → List ℕ
block_in_parts kind name s texts =
    let f = frame s.mode kind in
    name ++ (f.opening ++ (framed_all f (inside s) Zero texts ++ ending f s (count_after Zero texts)))

-- a struct that ends in dots, with this name and fields with these texts: its name, its fields in a row, and its ending
abbrev pub dotted_in_parts : List ℕ → Setting → List (List ℕ) → List ℕ
dotted_in_parts name s texts =
    let f = frame s.mode Struct in
    name ++ (f.opening ++ (framed_all f (inside s) Zero texts ++ dots_ending s (count_after Zero texts)))

module _ {W : Type 0} where
  -- the mode and depth of the entries
  abbrev pub inner : BuilderView W → Setting
  inner b = inside b.outer

  -- the formatter, at that mode and depth
  abbrev pub inner_formatter : BuilderView W → Formatter W
  inner_formatter b = at_setting b.formatter (inner b)

  -- the brackets of the entries
  abbrev pub frame_of : BuilderView W → Frame
  frame_of b = frame b.outer.mode b.kind

  -- the text before the next entry, before the value of a struct's field, after an entry, and at the end of the block
  abbrev pub lead_of : BuilderView W → List ℕ
  lead_of b = lead (frame_of b) (inner b) b.count

  abbrev pub field_lead_of : List ℕ → BuilderView W → List ℕ
  field_lead_of name b = lead_of b ++ (name ++ codes ": ")

  abbrev pub trail_of : BuilderView W → List ℕ
  trail_of b = trail b.outer.mode

  abbrev pub ending_of : BuilderView W → List ℕ
  ending_of b = ending (frame_of b) b.outer b.count

  -- the text at the end of a struct, if not all fields are shown
  abbrev pub dots_ending_of : BuilderView W → List ℕ
  dots_ending_of b = dots_ending b.outer b.count

  -- what is left of the block: entries with these texts, and the end
  abbrev pub tail_of : BuilderView W → (Setting → List (List ℕ)) → List ℕ
  tail_of b texts = block_tail (frame_of b) b.outer b.count (texts (inner b))

  -- the formatter is at the mode and depth of the entries
  abbrev pub IsInside : BuilderView W → Type 0
  IsInside b = setting_of b.formatter ≡ inner b

  -- entries may follow, and the formatter is at their mode and depth
  abbrev pub IsOpen : BuilderView W → Type 0
  IsOpen b = (b.status ≡ Open) × IsInside b

  -- the formatter is lent for an entry, of a map for the key
  abbrev pub IsLent : BuilderView W → Type 0
  IsLent b = b.status ≡ Lent

  -- the formatter is lent for the value of a map's entry
  abbrev pub IsLentForValue : BuilderView W → Type 0
  IsLentForValue b = b.status ≡ LentValue

  -- what a call leaves: on `Ok` an open builder with this count, on `Err` a closed one, with mode and depth from before it
  abbrev pub After : Bool → Count → BuilderView W → BuilderView W → Type 0
  After true count old new = (new.count ≡ count) × IsOpen new
  After false count old new = (new.status ≡ Closed) × (setting_of new.formatter ≡ old.outer)

  -- the builder has the same reference, the same kind of block, and the same mode and depth from before it
  pub record Same (old new : BuilderView W) : Type 0 where
    pub reference : new.reference ≡ old.reference
    pub kind : new.kind ≡ old.kind
    pub outer : new.outer ≡ old.outer

  -- the opening of a block of this kind was written, and the new builder has the reference with this name
  pub record WritesOpening (seen : Seen W) (start : Formatter W) (reference : ℕ) (kind : Kind) (text : List ℕ) (new : BuilderView W) : Type 0 where
    pub wrote : Writes seen (writer_of start) text true (writer_of new.formatter)
    pub same : Same (record { formatter = start; reference = reference; kind = kind; outer = setting_of start; count = Zero; status = Open }) new
    pub count : new.count ≡ Zero
    pub is_open : IsOpen new

  -- this text of the block was written, or a prefix of it
  pub record WritesText (seen : Seen W) (old : BuilderView W) (text : List ℕ) (ok : Bool) (count : Count) (new : BuilderView W) : Type 0 where
    pub wrote : Writes seen (writer_of old.formatter) text ok (writer_of new.formatter)
    pub same : Same old new
    pub after : After ok count old new

  -- a call failed: a prefix of this text was written, and the builder is closed
  abbrev pub StopsIn : Seen W → BuilderView W → List ℕ → BuilderView W → Type 0
  StopsIn seen old text new = WritesText seen old text false old.count new

  -- one entry with this text was written, or a prefix of it
  pub record WritesEntry (seen : Seen W) (old : BuilderView W) (text : Setting → List ℕ) (ok : Bool) (new : BuilderView W) : Type 0 where
    pub part : WritesText seen old (framed (frame_of old) (inner old) old.count (text (inner old))) ok (next old.count) new

  -- a call was passed an error: nothing was written, and the builder is closed
  pub record Abandons (old new : BuilderView W) : Type 0 where
    pub same_writer : writer_of new.formatter ≡ writer_of old.formatter
    pub same : Same old new
    pub after : After false old.count old new

  -- what the second half of an entry returns and does, if the value's `fmt` returned `outcome`
  pub record EndsEntry {E : Type 0} (seen : Seen W) (outcome : Result (Unit {0}) E) (old : BuilderView W) (result : Result (Unit {0}) E)
      (ok : Bool) (new : BuilderView W) : Type 0 where
    pub trail : OnOk outcome (WritesText seen old (trail_of old) ok (next old.count) new)
    pub error : IfErr outcome (λ e. (result ≡ Err e) × Abandons old new)

  -- these entries were written in a row, or a prefix of them
  pub record WritesAll (seen : Seen W) (old : BuilderView W) (texts : Setting → List (List ℕ)) (ok : Bool) (new : BuilderView W) : Type 0 where
    pub part : WritesText seen old (framed_all (frame_of old) (inner old) old.count (texts (inner old))) ok (count_after old.count (texts (inner old))) new

  -- the end of the block was written, or a prefix of it; the builder is closed, with mode and depth from before it
  pub record WritesEnding (seen : Seen W) (old : BuilderView W) (text : List ℕ) (ok : Bool) (new : BuilderView W) : Type 0 where
    pub wrote : Writes seen (writer_of old.formatter) text ok (writer_of new.formatter)
    pub same : Same old new
    pub closed : new.status ≡ Closed
    pub restored : setting_of new.formatter ≡ old.outer

module _ {W D : Type 0} where
  -- entries of these items were written in a row, each with its `text_of`, or a prefix of them
  pub record WritesRow (seen : Seen W) (old : BuilderView W) (text_of : D → Setting → List ℕ) (items : List D) (ok : Bool) (new : BuilderView W) : Type 0 where
    pub part : WritesText seen old (framed_all (frame_of old) (inner old) old.count (map (λ x. text_of x (inner old)) items)) ok
        (count_after old.count items) new

module _ {W U T D : Type 0} where
  -- an entry was written for each item that the iterator gave, or a prefix of them; on `Ok` it had no more items
  pub record WritesEntries (seen : Seen W) (becomes : U → T → Type 0) (steps : T → Option D → T → Type 0) (text_of : D → Setting → List ℕ)
      (entries : U) (old : BuilderView W) (ok : Bool) (new : BuilderView W) : Type 0 where
    pub iterator : T
    pub begins : becomes entries iterator
    pub items : List D
    pub drains : DrainsIf steps (ok ≡ true) iterator items
    pub row : WritesRow seen old text_of items ok new
