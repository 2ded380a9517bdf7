use Rattle.std.proofs.Common.{◌≡◌, ◌+◌, ◌-◌, take, drop, refl, ap, sym, ◌∙◌, arith}
use Rattle.std.proofs.lemmas.List.{drop-drop, drop_at, length-take-le, take-append-drop}
use Rattle.ufmt_core.proofs.copying.copy_chunk.Goals as goal

pub returns-clause-copied : goal.returns-clause-copied
returns-clause-copied c = λ n within agree.
    let start = c.args.start in
    let bytes = c.args.bytes.now in
    let target = c.args.target.now in
    let chunk : start + 16 - start ≡ 16 = omega arith in
    let copied = rw chunk at c.copy_whole.ensures in
    let more = start + 16 - n in
    let there : start + 16 ≡ n + more = omega (arith, within) in
    let back : drop 16 (drop start target) ≡ drop 16 (drop start bytes) =
    drop-drop 16 start target ∙ ap (λ m. drop m target) there ∙ sym (drop-drop more n target) ∙ ap (drop more) agree
    ∙ drop-drop more n bytes ∙ ap (λ m. drop m bytes) (sym there) ∙ sym (drop-drop 16 start bytes) in
    drop_at (take start target) _ start (omega (arith, length-take-le start target (omega arith)))
    ∙ rw (copied, chunk, back, take-append-drop 16 (drop start bytes)) refl
