use Rattle.std.proofs.Common.{◌==◌, ◌∙◌, ap, sym}
use Rattle.ufmt_scan.proofs.DebugFronts.{address_closed, no_address_here, no_closing, no_port_byte, nothing_after}
use Rattle.ufmt_scan.proofs.debug_leaf.after_closed_address.Goals as goal

pub returns-then-is_empty : goal.returns-then-is_empty
returns-then-is_empty c =
    no_address_here c.args.input.now c.split_at.result.1.now c.marked_len.result c.marked_len.ensures.len c.split_at.ensures.back
    (ap (λ k. k == 0) (sym c.split_at.ensures.front_len) ∙ sym c.is_empty.ensures ∙ c.if-is_empty.true)

pub returns-in_err-rest : goal.returns-in_err-rest
returns-in_err-rest c = rw c.from_residual.ensures
    (no_closing c.args.input.now c.split_at.result.1.now c.marked_len.result c.marked_len.ensures.len c.split_at.ensures.back (sym c.in_err-rest.ensures))

pub returns-in_err-byte : goal.returns-in_err-byte
returns-in_err-byte c = rw c.from_residual-in_err-byte.ensures
    (nothing_after c.args.input.now c.split_at.result.1.now c.marked_len.result c.marked_len.ensures.len c.split_at.ensures.back c.in_ok-rest.rest.now
    (sym c.in_ok-rest.ensures) c.in_err-byte.ensures.cases)

pub returns-then-is_plain_byte : goal.returns-then-is_plain_byte
returns-then-is_plain_byte c =
    address_closed c.args.input.now c.split_at.result.1.now c.marked_len.result c.marked_len.ensures.len c.split_at.ensures.back c.in_ok-rest.rest.now
    (sym c.in_ok-rest.ensures) c.in_ok-byte.field-0-0.now c.in_ok-byte.field-0-1.now
    (ap (λ k. k == 0) (sym c.split_at.ensures.front_len) ∙ sym c.is_empty.ensures ∙ c.if-is_empty.false)
    c.in_ok-byte.ensures.cases.0 (sym c.is_plain_byte.ensures ∙ c.if-is_plain_byte.true)

pub returns-else-is_plain_byte : goal.returns-else-is_plain_byte
returns-else-is_plain_byte c =
    no_port_byte c.args.input.now c.split_at.result.1.now c.marked_len.result c.marked_len.ensures.len c.split_at.ensures.back c.in_ok-rest.rest.now
    (sym c.in_ok-rest.ensures) c.in_ok-byte.field-0-0.now c.in_ok-byte.field-0-1.now c.in_ok-byte.ensures.cases.0 (sym c.is_plain_byte.ensures ∙ c.if-is_plain_byte.false)
