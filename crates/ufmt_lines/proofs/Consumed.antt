-- What was read, and for which of it the output was written, from one read to the next.
use Rattle.std.proofs.Common.{◌≡◌, ◌≢◌, ◌∙◌, ◌≤◌, ◌+◌, refl, ap, sym, subst, arith, ℕ, List, [], ◌++◌, append-nil, length, length-append, Option, Some, None, IfSome}
use Rattle.std.proofs.KnownBytes.{Consumes-kept, Consumes-nil, Consumes-trans, Consumes-whole, Appends-trans}
use Rattle.std.specs.Io.KnownBytes.{Appends, Consumes, IsAtEnd, Keeps}
use Rattle.ufmt_lines.specs.declared.run.conversion.Conversion.{Conversion}
use Rattle.ufmt_io.specs.Whole.{AppendsPrefix}
use Rattle.ufmt_lines.specs.Output.{WritesOutput, WritesOutputPrefix, WritesFront, ReadsAndWrites, outputs_for, outputs_of}
use Rattle.ufmt_lines.specs.Groups.{groups_of, if_any}
use Rattle.ufmt_lines.specs.Values.{output_of}
use Rattle.ufmt_lines.proofs.Cuts.{outputs_at, outputs_one}
use Rattle.ufmt_lines.proofs.Fronts.{front_before, front_in_part, front_then, nothing_written}

-- known bytes begin with those that were consumed
consumed_front : (old new : Option (List ℕ)) (bytes : List ℕ) (P : List ℕ → Type 0) → Consumes old new bytes → ((more : List ℕ) → P (bytes ++ more)) → IfSome old P
consumed_front None new bytes P read holds = tt
consumed_front (Some x) None bytes P read holds = absurd read
consumed_front (Some x) (Some y) bytes P read holds = subst P (sym read) (holds y)

-- known bytes are as many as those that were consumed, or more
pub consumed_within : (old new : Option (List ℕ)) (bytes known : List ℕ) → Consumes old new bytes → old ≡ Some known → length bytes ≤ length known
consumed_within old new bytes known read is =
    subst (λ o. IfSome o (λ xs. length bytes ≤ length xs)) is
    (consumed_front old new bytes (λ xs. length bytes ≤ length xs) read (λ more. let all = length-append bytes more in omega (arith, all)))

-- a turn that reads something is one turn more, and one byte more at least
pub one_each : (text bytes : List ℕ) (count turns : ℕ) → turns ≤ length text → length bytes ≡ count → count ≢ 0 → turns + 1 ≤ length (text ++ bytes)
one_each text bytes count turns each size some = let all = length-append text bytes in omega (arith, each, size, some, all)

module _ (conversion : Conversion) where
  -- what was read is whole groups, whose outputs were written, and this group so far
  abbrev pub WritesUpTo : List ℕ → Option (List ℕ) → Option (List ℕ) → Option (List ℕ) → Option (List ℕ) → Type 0
  WritesUpTo group input input' old new = ReadsAndWrites conversion (λ rest. rest ≡ group) input input' old new

  pub nothing_read : (input known : Option (List ℕ)) → WritesUpTo [] input input known known
  nothing_read input known = record { text = []; read = Consumes-nil input; rest = []; is_rest = refl; written = nothing_written conversion [] known }

  module _ (group : List ℕ) (first second known old : Option (List ℕ)) (so_far : WritesUpTo group first second known old) where
    group_left : WritesFront conversion so_far.text group known old
    group_left = subst (λ t. WritesFront conversion so_far.text t known old) so_far.is_rest so_far.written

    -- the rest may be described in another way
    pub read_as : (P : List ℕ → Type 0) → P group → ReadsAndWrites conversion P first second known old
    read_as P holds = record { text = so_far.text; read = so_far.read; rest = group; is_rest = holds; written = group_left }

    module _ (third : Option (List ℕ)) where
      -- a read that failed changes nothing
      pub read_kept : (P : List ℕ → Type 0) → P group → Keeps second third → ReadsAndWrites conversion P first third known old
      read_kept P holds kept =
          record { text = so_far.text; read = Consumes-kept first second third _ so_far.read kept; rest = group; is_rest = holds; written = group_left }

      all_read : Consumes second third [] → Consumes first third so_far.text
      all_read consumed = subst (Consumes first third) (append-nil so_far.text) (Consumes-trans first second third _ _ so_far.read consumed)

      -- nor does a read of nothing
      pub read_nothing : (P : List ℕ → Type 0) → P group → Consumes second third [] → ReadsAndWrites conversion P first third known old
      read_nothing P holds consumed = record { text = so_far.text; read = all_read consumed; rest = group; is_rest = holds; written = group_left }

      module _ (new : Option (List ℕ)) (bytes : List ℕ) (consumed : Consumes second third bytes) where
        front_with : WritesFront conversion (so_far.text ++ bytes) (group ++ bytes) known old
        front_with = front_before conversion so_far.text group bytes known old group_left

        -- more bytes were read, and the outputs for groups of them written
        pub read_more : (P : List ℕ → Type 0) (rest : List ℕ) → P rest → WritesFront conversion (group ++ bytes) rest old new → ReadsAndWrites conversion P first third known new
        read_more P rest holds more = record {
          text = so_far.text ++ bytes;
          read = Consumes-trans first second third _ _ so_far.read consumed;
          rest = rest;
          is_rest = holds;
          written = front_then conversion _ _ rest known old new front_with more;
        }

        -- and the text that was read is longer by them
        pub read_more_text : (P : List ℕ → Type 0) (rest : List ℕ) (holds : P rest) (more : WritesFront conversion (group ++ bytes) rest old new)
            → (read_more P rest holds more).text ≡ so_far.text ++ bytes
        unfolding read_more
        read_more_text P rest holds more = refl

        -- the output failed in between
        pub read_in_part : ((more : List ℕ) → AppendsPrefix old new (outputs_of conversion ((group ++ bytes) ++ more))) → WritesOutputPrefix conversion first known new
        read_in_part part =
            consumed_front first third (so_far.text ++ bytes) _ (Consumes-trans first second third _ _ so_far.read consumed)
            (λ more. front_in_part conversion _ _ more known old new front_with (part more))

      -- nothing more comes
      module _ (new : Option (List ℕ)) (consumed : Consumes second third []) (end : IsAtEnd third) (one : groups_of conversion.to group ≡ if_any group) where
        pub last_written : Appends old new (output_of conversion group) → WritesOutput conversion first known new
        last_written written =
            let front = group_left in
            let all : outputs_of conversion so_far.text ≡ outputs_for conversion front.groups ++ output_of conversion group =
            outputs_at conversion front.groups so_far.text group front.are_first ∙ ap (λ t. outputs_for conversion front.groups ++ t) (outputs_one conversion group one) in
            Consumes-whole first third so_far.text _ (all_read consumed) end (subst (Appends known new) (sym all) (Appends-trans known old new _ _ front.written written))

        pub last_in_part : AppendsPrefix old new (output_of conversion group) → WritesOutputPrefix conversion first known new
        last_in_part written =
            let outputs : outputs_of conversion (group ++ []) ≡ output_of conversion group = ap (outputs_of conversion) (append-nil group) ∙ outputs_one conversion group one in
            Consumes-whole first third so_far.text _ (all_read consumed) end
            (subst (λ t. AppendsPrefix known new (outputs_of conversion t)) (append-nil so_far.text)
            (front_in_part conversion so_far.text group [] known old new group_left (subst (AppendsPrefix old new) (sym outputs) written)))
