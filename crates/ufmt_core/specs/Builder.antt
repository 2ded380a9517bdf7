-- What contracts see of the builders, and how they lend the formatter to their callers.
use Rattle.std.specs.Prelude.{◌≡◌, ℕ, List, [], Result, OnOk, OnErr, codes, false, if◌then◌else◌}
use Rattle.std.specs.Borrow.{Fml, LendsSoOk, MutBor, RattleType, RestsIfErr}
use mir.Syntax.{named}
pub use Rattle.ufmt_core.specs.declared.formatter.builder.Builder.{Builder}
pub use Rattle.ufmt_core.specs.declared.list.ListBlock.{ListBlock}
pub use Rattle.ufmt_core.specs.declared.set.SetBlock.{SetBlock}
pub use Rattle.ufmt_core.specs.declared.map.MapBlock.{MapBlock}
pub use Rattle.ufmt_core.specs.declared.structs.StructBlock.{StructBlock}
pub use Rattle.ufmt_core.specs.declared.tuple.TupleBlock.{TupleBlock}
use Rattle.ufmt_core.specs.contracts.formatter.Formatter as formatter
use Rattle.ufmt_core.specs.contracts.formatter.builder.Builder as builder
use Rattle.ufmt_core.specs.contracts.map.MapBlock as map_marker
use Rattle.ufmt_core.specs.contracts.structs.StructBlock as struct_marker
use Rattle.ufmt_core.specs.contracts.tuple.TupleBlock as tuple_marker
use Rattle.ufmt_core.specs.Layout.{Kind, Brackets, Braces, Struct, Tuple, Unnamed}
use Rattle.ufmt_core.specs.Writes.{Seen}
use Rattle.ufmt_core.specs.Formatter.{Formatter, Prints, at_setting}
use Rattle.ufmt_core.specs.BuilderView.{Status, Lent, LentValue, Closed, BuilderView, StopsIn, Abandons, lead_of, field_lead_of}

-- the view of a builder, whose marker has the kind of its block
abbrev pub view_of : {W K : Type 0} → (K → Kind) → Builder W K → BuilderView W
view_of kind b = record {
  formatter = b.formatter.now;
  reference = b.formatter.ghost_name;
  kind = kind b.marker;
  outer = b.outer;
  count = b.count;
  status = b.status;
}

-- a tuple's kind, by whether it has a name
abbrev pub kind_of_tuple : TupleBlock → Kind
kind_of_tuple t = if t.is_unnamed then Unnamed else Tuple

-- the views of the five builders
module _ {W : Type 0} where
  abbrev pub list_view : Builder W ListBlock → BuilderView W
  list_view = view_of (λ _. Brackets)

  abbrev pub set_view : Builder W SetBlock → BuilderView W
  set_view = view_of (λ _. Braces)

  abbrev pub map_view : Builder W MapBlock → BuilderView W
  map_view = view_of (λ _. Braces)

  abbrev pub struct_view : Builder W StructBlock → BuilderView W
  struct_view = view_of (λ _. Struct)

  abbrev pub tuple_view : Builder W TupleBlock → BuilderView W
  tuple_view = view_of kind_of_tuple

module _ {W K : Type 0} where
  -- the builder with this status and this formatter
  abbrev pub lent : Status → Builder W K → Formatter W → Builder W K
  lent status b f = record b { formatter = record b.formatter { now = f }; status = status }

  -- the builder closed, with mode and depth from before it
  abbrev pub abandoned : Builder W K → Builder W K
  abandoned b = lent Closed b (at_setting b.formatter.now b.outer)

module _ (W : RattleType) {E : Type 0} where
  -- the builder that is returned holds the formatter; on `Err` the caller has it, and a prefix of the opening was printed
  abbrev pub OpeningLoan : {K : Type 0} → Seen W.Denot → MutBor (Formatter W.Denot) → Result (Builder W.Denot K) E → List ℕ → Fml
  OpeningLoan seen self result text = RestsIfErr (formatter.the_row W) self (λ b. b.formatter.ghost_name) result (λ last. Prints seen self.now text false last)

  -- the formatter is lent; when the loan ends, the builder has this status, and the formatter as it was left; on `Err` `stop` holds of the builder
  abbrev pub EntryLoan : (K : RattleType) → MutBor (Builder W.Denot K.Denot) → Result (MutBor (Formatter W.Denot)) E → Status
      → (Builder W.Denot K.Denot → Type 0) → Fml
  EntryLoan K self result status stop =
      LendsSoOk (builder.the_row (record { mir = named 0; lft = [] }) W K) (formatter.the_row W) self result (λ last f. last ≡ lent status self.now f) stop

  -- this text was written and the formatter is lent; on `Err` a prefix of the text was written, and the builder, seen by `view`, is closed
  abbrev pub LendsAfter : (K : RattleType) → (Builder W.Denot K.Denot → BuilderView W.Denot) → Seen W.Denot → MutBor (Builder W.Denot K.Denot)
      → Result (MutBor (Formatter W.Denot)) E → List ℕ → Fml
  LendsAfter K view seen self result text = EntryLoan K self result Lent (λ last. StopsIn seen (view self.now) text (view last))

  -- the formatter is lent for an entry, after its lead
  abbrev pub LendsForEntry : (K : RattleType) → (Builder W.Denot K.Denot → BuilderView W.Denot) → Seen W.Denot → MutBor (Builder W.Denot K.Denot)
      → Result (MutBor (Formatter W.Denot)) E → Fml
  LendsForEntry K view seen self result = LendsAfter K view seen self result (lead_of (view self.now))

  -- the formatter is lent for a map's key, for a tuple's field, and for the value of a struct's field with this name
  abbrev pub LendsForKey : Seen W.Denot → MutBor (Builder W.Denot MapBlock) → Result (MutBor (Formatter W.Denot)) E → Fml
  LendsForKey = LendsForEntry map_marker.the_row map_view

  abbrev pub LendsForUnnamedField : Seen W.Denot → MutBor (Builder W.Denot TupleBlock) → Result (MutBor (Formatter W.Denot)) E → Fml
  LendsForUnnamedField = LendsForEntry tuple_marker.the_row tuple_view

  abbrev pub LendsForField : Seen W.Denot → MutBor (Builder W.Denot StructBlock) → Result (MutBor (Formatter W.Denot)) E → List ℕ → Fml
  LendsForField seen self result name = LendsAfter struct_marker.the_row struct_view seen self result (field_lead_of name (struct_view self.now))

  -- the formatter is lent for a map's value, after `: `, if the key's `fmt` returned `Ok`; if it returned an error, nothing was written, and the builder is closed
  abbrev pub LendsForValue : Seen W.Denot → MutBor (Builder W.Denot MapBlock) → Result (Unit {0}) E → Result (MutBor (Formatter W.Denot)) E → Fml
  LendsForValue seen self outcome result =
      EntryLoan map_marker.the_row self result LentValue
      (λ last. OnOk outcome (StopsIn seen (map_view self.now) (codes ": ") (map_view last)) × OnErr outcome (Abandons (map_view self.now) (map_view last)))
