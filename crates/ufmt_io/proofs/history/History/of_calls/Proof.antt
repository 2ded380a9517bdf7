-- `of_calls` makes the empty struct, with the calls that its caller's proof picked.
use Rattle.std.proofs.Common.{[], ◌∷◌, refl}
use Rattle.std.proofs.raw_atomic.Walks.{proved}
use mir.Val.{vstruct, vnil}
use base.Fml.{Fml}
use types.Kit.{‵, raw, ◌$◌, ◌∵◌, !, qed, drop, use0, suffices, done}
use types.Part.{agg}
use types.Run.{enter, no_more, returns}
use types.ByLocal.{alloc_all, pass_all, free_all, look_at, sets}
use denote.Shadow.{makes_shadow}
use denote.Signature.{type_at}
use denote.Steps.{nothing}
use denote.Triple.Entry.{Res, on_entry}
use denote.Triple.Walked.{Stays, walk_of, says, ends_at}
use Rattle.ufmt_io.specs.contracts.history.History.of_calls as f
use Rattle.ufmt_io.proofs.history.History.of_calls.Statement.{statement}
use Rattle.ufmt_io.proofs.history.History.of_calls.Code as code

abbrev stayed : Stays f.ended.signature.params f.ended.kept
stayed = tt

pub of_calls_spec : {M : Type 1} → statement M
of_calls_spec 𝓤 𝓛 𝓜 𝓡 wired =
    let c = f.clauses 𝓛 𝓜.mem 𝓡.returns in let W = walk_of 𝓛 f.ended stayed c in
    proved 𝓛 f.ended stayed c 𝓜 𝓡 tt f.Key.name code.function (code.unfolded 𝓤 𝓛.H 𝓜 𝓡 wired) (λ κs. tt) (λ κs. tt) (λ κs qs bounds a calls are.
    let y : W.Ghost = ((κs, qs, bounds, a, tt), calls) in
    let made : Res f.signature κs = record { calls = calls } in
    let owned : Fml = (type_at f.signature.result κs).own_val made (vstruct vnil ∷ []) in
    qed 𝓛 (raw (on_entry 𝓛 f.signature κs qs a y.0.4) ∷ raw ((c κs a).requires calls) ∷ []) ∵ drop ! $ drop ! $
    enter ! _ _ _ _ _ $ alloc_all ! (λ l. pass_all ! refl tt $
    sets ! (agg ! (no_more !)) refl (tt, tt) $
    returns ! (look_at ! 0 refl) $ free_all ! refl $
    use0 𝓛 (‵ owned) (makes_shadow 𝓛 owned ((λ vss. (tt, tt)), tt) ((tt, (refl, tt)), tt)) $
    suffices ! _ (ends_at 𝓛 f.ended stayed c y (vstruct vnil) made tt tt) $ says ! refl $
    nothing ! $ nothing ! $ done !))
