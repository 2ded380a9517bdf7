use Rattle.std.proofs.Common.{[], ◌∷◌, ◌++◌, List}
use Rattle.ufmt.proofs.Lines.{Prints-both, Prints-first_fails}
use Rattle.ufmt.specs.Pieces.{Piece, column, hex, pretty, shown}
use Rattle.ufmt.proofs.laws.all_columns.Goals as goal

pub returns-in-Ok-print-2 : goal.returns-in-Ok-print-2
returns-in-Ok-print-2 g c =
    let one : Piece → List Piece = λ p. column c.args.within (p ∷ []) ∷ [] in
    let a = one (shown (g.A.uDisplay.display c.args.a.now)) in
    let b = one (shown (g.B.uDebug.document c.args.b.now)) in
    let d = one (pretty (g.C.uDebug.document c.args.c.now)) in
    let n = one (hex (g.N.uDisplayHex.hex_text c.args.n.now c.args.options)) in
    Prints-both a (b ++ (d ++ n)) c.in-Ok.ensures (Prints-both b (d ++ n) c.in-Ok-print.ensures (Prints-both d n c.in-Ok-print-2.ensures c.print-in-Ok-print-2.ensures))

pub returns-in-Err-print-2 : goal.returns-in-Err-print-2
returns-in-Err-print-2 g c =
    let one : Piece → List Piece = λ p. column c.args.within (p ∷ []) ∷ [] in
    let a = one (shown (g.A.uDisplay.display c.args.a.now)) in
    let b = one (shown (g.B.uDebug.document c.args.b.now)) in
    let d = one (pretty (g.C.uDebug.document c.args.c.now)) in
    let n = one (hex (g.N.uDisplayHex.hex_text c.args.n.now c.args.options)) in
    Prints-both a (b ++ (d ++ n)) c.in-Ok.ensures (Prints-both b (d ++ n) c.in-Ok-print.ensures (Prints-first_fails d n c.in-Err-print-2.ensures))

pub returns-in-Err-print : goal.returns-in-Err-print
returns-in-Err-print g c =
    let one : Piece → List Piece = λ p. column c.args.within (p ∷ []) ∷ [] in
    let a = one (shown (g.A.uDisplay.display c.args.a.now)) in
    let b = one (shown (g.B.uDebug.document c.args.b.now)) in
    let rest = one (pretty (g.C.uDebug.document c.args.c.now)) ++ one (hex (g.N.uDisplayHex.hex_text c.args.n.now c.args.options)) in
    Prints-both a (b ++ rest) c.in-Ok.ensures (Prints-first_fails b rest c.in-Err-print.ensures)

pub returns-in-Err : goal.returns-in-Err
returns-in-Err g c =
    let one : Piece → List Piece = λ p. column c.args.within (p ∷ []) ∷ [] in
    let a = one (shown (g.A.uDisplay.display c.args.a.now)) in
    let rest = one (shown (g.B.uDebug.document c.args.b.now)) ++ (one (pretty (g.C.uDebug.document c.args.c.now))
    ++ one (hex (g.N.uDisplayHex.hex_text c.args.n.now c.args.options))) in
    Prints-first_fails a rest c.in-Err.ensures
