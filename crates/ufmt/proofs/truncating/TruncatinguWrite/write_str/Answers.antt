use Rattle.std.proofs.Common.{◌∙◌, ◌++◌, refl, rules, ap, if◌then◌else◌}
use Rattle.std.proofs.lemmas.Str.{is_utf8-from_IsUtf8}
use Rattle.ufmt.proofs.Truncations.{Cuts-cut, Cuts-whole, HoldsPart-cut, HoldsPart-whole, Takes-put, Writes-cut, Writes-whole, within}
use Rattle.ufmt.proofs.truncating.TruncatinguWrite.write_str.Goals as goal

pub invariant_of-self-then-taken-s : goal.invariant_of-self-then-taken-s
invariant_of-self-then-taken-s c =
    let old = c.args.self.now in
    let floor = c.floor_char_boundary-taken.ensures in
    let takes = Takes-put old c.as_bytes-bytes.ensures.value c.remaining.ensures.count floor.bound floor.boundary floor.nearest c.put.ensures.written c.put.ensures.unwritten (search rules) in
    let offered = c.and_unless-offered.ensures ∙ ap (λ p. if old.is_cut then old.offered.bytes else old.offered.bytes ++ p) c.as_bytes-bytes.ensures.value in
    let h = HoldsPart-cut c.utf8.s takes offered c.if-taken-s.true in record {
      within = within c.utf8.s takes;
      front = h.front;
      after = h.after;
      cut = λ is. (h.cut is).0;
      filled = λ is. (h.cut is).1;
      whole = λ is. (h.whole is).0;
      utf8 = λ is. is_utf8-from_IsUtf8 _ (h.whole is).1;
    }

pub invariant_of-self-else-taken-s : goal.invariant_of-self-else-taken-s
invariant_of-self-else-taken-s c =
    let old = c.args.self.now in
    let floor = c.floor_char_boundary-taken.ensures in
    let takes = Takes-put old c.as_bytes-bytes.ensures.value c.remaining.ensures.count floor.bound floor.boundary floor.nearest c.put.ensures.written c.put.ensures.unwritten (search rules) in
    let offered = c.and_unless-offered.ensures ∙ ap (λ p. if old.is_cut then old.offered.bytes else old.offered.bytes ++ p) c.as_bytes-bytes.ensures.value in
    let h = HoldsPart-whole c.utf8.s takes offered c.if-taken-s.false in record {
      within = within c.utf8.s takes;
      front = h.front;
      after = h.after;
      cut = λ is. (h.cut is).0;
      filled = λ is. (h.cut is).1;
      whole = λ is. (h.whole is).0;
      utf8 = λ is. is_utf8-from_IsUtf8 _ (h.whole is).1;
    }

pub returns-then-taken-s-clause-cuts : goal.returns-then-taken-s-clause-cuts
returns-then-taken-s-clause-cuts c =
    let old = c.args.self.now in
    let floor = c.floor_char_boundary-taken.ensures in
    let takes = Takes-put old c.as_bytes-bytes.ensures.value c.remaining.ensures.count floor.bound floor.boundary floor.nearest c.put.ensures.written c.put.ensures.unwritten (search rules) in
    let offered = c.and_unless-offered.ensures ∙ ap (λ p. if old.is_cut then old.offered.bytes else old.offered.bytes ++ p) c.as_bytes-bytes.ensures.value in
    Cuts-cut c.utf8.s takes _ refl refl refl refl offered c.if-taken-s.true refl

pub returns-then-taken-s-clause-writes : goal.returns-then-taken-s-clause-writes
returns-then-taken-s-clause-writes c =
    let old = c.args.self.now in
    let floor = c.floor_char_boundary-taken.ensures in
    let takes = Takes-put old c.as_bytes-bytes.ensures.value c.remaining.ensures.count floor.bound floor.boundary floor.nearest c.put.ensures.written c.put.ensures.unwritten (search rules) in
    let offered = c.and_unless-offered.ensures ∙ ap (λ p. if old.is_cut then old.offered.bytes else old.offered.bytes ++ p) c.as_bytes-bytes.ensures.value in
    Writes-cut c.utf8.s takes _ refl refl refl refl offered c.if-taken-s.true refl

pub returns-clause-cuts : goal.returns-clause-cuts
returns-clause-cuts c =
    let old = c.args.self.now in
    let floor = c.floor_char_boundary-taken.ensures in
    let takes = Takes-put old c.as_bytes-bytes.ensures.value c.remaining.ensures.count floor.bound floor.boundary floor.nearest c.put.ensures.written c.put.ensures.unwritten (search rules) in
    let offered = c.and_unless-offered.ensures ∙ ap (λ p. if old.is_cut then old.offered.bytes else old.offered.bytes ++ p) c.as_bytes-bytes.ensures.value in
    Cuts-whole c.utf8.s takes _ refl refl refl refl offered c.if-taken-s.false refl

pub returns-clause-writes : goal.returns-clause-writes
returns-clause-writes c =
    let old = c.args.self.now in
    let floor = c.floor_char_boundary-taken.ensures in
    let takes = Takes-put old c.as_bytes-bytes.ensures.value c.remaining.ensures.count floor.bound floor.boundary floor.nearest c.put.ensures.written c.put.ensures.unwritten (search rules) in
    let offered = c.and_unless-offered.ensures ∙ ap (λ p. if old.is_cut then old.offered.bytes else old.offered.bytes ++ p) c.as_bytes-bytes.ensures.value in
    Writes-whole c.utf8.s takes _ refl refl refl refl offered c.if-taken-s.false refl
