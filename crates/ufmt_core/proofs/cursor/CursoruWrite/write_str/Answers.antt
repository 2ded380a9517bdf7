use Rattle.std.proofs.Common.{rules, length, refl, sym, ◌∙◌, arith, drop-drop, length-drop}
use Rattle.ufmt_core.proofs.Cursors.{Writes-filled}
use Rattle.ufmt_core.proofs.cursor.CursoruWrite.write_str.Goals as goal

pub returns-clause-fills : goal.returns-clause-fills
returns-clause-fills c =
    let old = c.args.self.now in record {
      fits = (λ ok. omega (arith, length-drop old.count old.buffer.now), λ fits. refl);
      written = λ ok. rw c.as_bytes.ensures.value at c.put.ensures.written;
      unwritten = λ ok. (rw c.as_bytes.ensures.value at c.put.ensures.unwritten) ∙ sym (drop-drop (length c.args.s.now) old.count old.buffer.now);
      same_length = search rules;
      refused = λ refusal. cc;
    }

pub returns-clause-writes : goal.returns-clause-writes
returns-clause-writes c = Writes-filled _ _ _ (returns-clause-fills c) refl
