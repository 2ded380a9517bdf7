use Rattle.std.proofs.Common.{refl}
use Rattle.ufmt_scan.proofs.DebugFronts.{leaf_is_broken, leaf_splits}
use Rattle.ufmt_scan.proofs.debug_leaf.split_leaf.Goals as goal

pub returns-in-Ok : goal.returns-in-Ok
returns-in-Ok c = leaf_splits c.args.input.now c.in_ok-rest.rest.now c.split_at.result.0.now c.in_ok-rest.is_named c.in_ok-rest.ensures
    c.split_at.ensures.front _ c.in-Ok.ensures.cases.0 refl c.may_be_name-is_name.ensures c.in-Ok.ensures.cases.1

pub returns-in-Err : goal.returns-in-Err
returns-in-Err c = leaf_is_broken c.args.input.now c.in_ok-rest.rest.now c.split_at.result.0.now c.in_ok-rest.is_named c.in_ok-rest.ensures
    c.split_at.ensures.front c.in-Err.ensures.cases.0
